use Rattle.std.proofs.Common.{append_assoc, codes, string_bytes}
use Rattle.pvp_window.specs.Book.{tally_json}
use Rattle.pvp_window.proofs.Parts.{ended}
use Rattle.pvp_window.proofs.book.push_tally.Goals as goal

pub returns : goal.returns
unfolding tally_json
returns c =
    ended c.push_str-5.result (string_bytes c.push_str-5.new.self) (string_bytes c.push_count-4.new.text)
    (string_bytes c.args.text.now) (codes "}") (tally_json c.args.book.now) c.push_str-5.ensures.bytes
    (rw (
      c.in_ok-push_count-4.ensures,
      c.in_ok-push_str-4.ensures.bytes,
      c.in_ok-push_count-3.ensures,
      c.in_ok-push_str-3.ensures.bytes,
      c.in_ok-push_count-2.ensures,
      c.in_ok-push_str-2.ensures.bytes,
      c.in_ok-push_count.ensures,
      c.in_ok-push_str.ensures.bytes,
    )
    (simp append_assoc))
