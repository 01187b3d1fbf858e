use Rattle.std.proofs.Common.{append_assoc, codes, string_bytes}
use Rattle.pvp_window.specs.Book.{waiting_json}
use Rattle.pvp_window.proofs.Parts.{ended}
use Rattle.pvp_window.proofs.book.push_waiting.Goals as goal

pub returns : goal.returns
unfolding waiting_json
returns c =
    ended c.push_str-3.result (string_bytes c.push_str-3.new.self) (string_bytes c.push_open.new.text)
    (string_bytes c.args.text.now) (codes "]}\n") (waiting_json c.args.book.now) c.push_str-3.ensures.bytes
    (rw (
      c.in_ok-push_open.ensures,
      c.in_ok-write.ensures.bytes,
      c.in_ok-push_queue.ensures,
      c.in_ok-push_str-2.ensures.bytes,
      c.in_ok-push_tally.ensures,
      c.in_ok-push_str.ensures.bytes,
      c.open_count-open.ensures,
    )
    (simp append_assoc))
