use Rattle.std.proofs.Common.{append_assoc, codes, string_bytes}
use Rattle.pvp_window.specs.Metrics.{state_line}
use Rattle.pvp_window.proofs.Parts.{ended}
use Rattle.pvp_window.proofs.metrics.push_state.Goals as goal

pub returns : goal.returns
unfolding state_line
returns c =
    ended c.push_str-4.result (string_bytes c.push_str-4.new.self) (string_bytes c.push_count.new.text)
    (string_bytes c.args.text.now) (codes "\n") (state_line c.args.book.now c.args.state) c.push_str-4.ensures.bytes
    (rw (
      c.in_ok-push_count.ensures,
      c.in_ok-push_str-3.ensures.bytes,
      c.in_ok-push_str-2.ensures.bytes,
      c.in_ok-push_str.ensures.bytes,
      c.state_name.ensures,
    )
    (simp append_assoc))
