use Rattle.std.proofs.Common.{append_assoc, string_bytes}
use Rattle.pvp_window.specs.Book.{end_json, entries_object}
use Rattle.pvp_window.proofs.Parts.{done}
use Rattle.pvp_window.proofs.book.push_entries.Goals as goal

pub returns : goal.returns
returns c =
    done c.push_end.result (string_bytes c.push_end.new.text) (string_bytes c.push_some_entries.new.text)
    (string_bytes c.args.text.now) (end_json c.left_behind-left.result) (entries_object c.args.book.now c.args.from) c.push_end.ensures
    (rw (
      c.in_ok-push_some_entries.ensures,
      c.in_ok-write.ensures.bytes,
      c.in_ok-push_row.ensures,
      c.entries.ensures.same,
      c.left_behind-left.ensures,
    )
    (simp append_assoc))
