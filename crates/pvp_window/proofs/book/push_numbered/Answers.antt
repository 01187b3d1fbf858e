use Rattle.std.proofs.Common.{append_assoc, codes, string_bytes}
use Rattle.pvp_window.specs.Book.{numbered_json}
use Rattle.pvp_window.proofs.Parts.{ended}
use Rattle.pvp_window.proofs.book.push_numbered.Goals as goal

pub returns : goal.returns
unfolding numbered_json
returns c =
    ended c.push_str-2.result (string_bytes c.push_str-2.new.self) (string_bytes c.write-2.new.self)
    (string_bytes c.args.text.now) (codes "\"]") (numbered_json c.args.setup.now c.args.number c.args.entry.now) c.push_str-2.ensures.bytes
    (rw (
      c.in_ok-write-2.ensures.bytes,
      c.in_ok-push_command.ensures,
      c.in_ok-push_str.ensures.bytes,
      c.in_ok-push_who.ensures,
      c.in_ok-write.ensures.bytes,
    )
    (simp append_assoc))
