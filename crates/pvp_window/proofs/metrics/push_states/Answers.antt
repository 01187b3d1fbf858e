use Rattle.std.proofs.Common.{append_assoc, string_bytes}
use Rattle.pvp_window.specs.Metrics.{state_line, state_lines}
use Rattle.pvp_book.specs.declared.pair.PairState.TheVariants.{Rescinded}
use Rattle.pvp_window.proofs.Parts.{done}
use Rattle.pvp_window.proofs.metrics.push_states.Goals as goal

pub returns : goal.returns
unfolding state_lines
returns c =
    done c.push_state-4.result (string_bytes c.push_state-4.new.text) (string_bytes c.push_state-3.new.text)
    (string_bytes c.args.text.now) (state_line c.args.book.now Rescinded) (state_lines c.args.book.now) c.push_state-4.ensures
    (rw (c.in_ok-push_state-3.ensures, c.in_ok-push_state-2.ensures, c.in_ok-push_state.ensures, c.in_ok-push_head.ensures)
    (simp append_assoc))
