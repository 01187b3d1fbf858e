use Rattle.std.proofs.Common.{append_assoc, codes, string_bytes}
use Rattle.pvp_window.specs.Book.{pair_json}
use Rattle.pvp_window.proofs.Parts.{ended}
use Rattle.pvp_window.proofs.book.push_terms.Goals as goal

pub returns : goal.returns
unfolding pair_json
returns c =
    ended c.push_str-4.result (string_bytes c.push_str-4.new.self) (string_bytes c.write-3.new.self)
    (string_bytes c.args.text.now) (codes "\"}") (pair_json c.args.setup.now c.args.pair) c.push_str-4.ensures.bytes
    (rw (
      c.in_ok-write-3.ensures.bytes,
      c.in_ok-push_code-2.ensures,
      c.in_ok-write-2.ensures.bytes,
      c.in_ok-push_code.ensures,
      c.in_ok-push_str-3.ensures.bytes,
      c.in_ok-push_who-2.ensures,
      c.in_ok-push_str-2.ensures.bytes,
      c.in_ok-push_who.ensures,
      c.in_ok-write.ensures.bytes,
      c.in_ok-push_str.ensures.bytes,
    )
    (simp append_assoc))
