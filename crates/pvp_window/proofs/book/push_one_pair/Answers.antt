use Rattle.std.proofs.Common.{append_assoc, codes, string_bytes}
use Rattle.pvp_window.specs.Book.{pair_object}
use Rattle.pvp_window.proofs.Parts.{ended}
use Rattle.pvp_window.proofs.book.push_one_pair.Goals as goal

pub returns : goal.returns
returns c =
    ended c.push_str.result (string_bytes c.push_str.new.self) (string_bytes c.push_state.new.text)
    (string_bytes c.args.text.now) (codes "}\n") (pair_object c.args.book.now c.args.reference) c.push_str.ensures.bytes
    (rw (c.in_ok-push_state.ensures, c.in_ok-write.ensures.bytes, c.in_ok-push_row.ensures, c.pair.ensures) (simp append_assoc))
