use Rattle.std.proofs.Common.{append_assoc, string_bytes}
use Rattle.pvp_window.specs.Metrics.{figure_lines, held_metrics}
use Rattle.pvp_window.proofs.Parts.{done}
use Rattle.pvp_window.proofs.metrics.push_held.Goals as goal

pub returns : goal.returns
unfolding held_metrics
returns c =
    done c.push_figures.result (string_bytes c.push_figures.new.text) (string_bytes c.push_states.new.text)
    (string_bytes c.args.text.now) (figure_lines c.args.book.now) (held_metrics c.args.book.now) c.push_figures.ensures
    (rw (
      c.in_ok-push_states.ensures,
      c.in_ok-push_plain-2.ensures,
      c.in_ok-push_plain.ensures,
      c.entries.ensures.same,
      c.open_count.ensures,
    )
    (simp append_assoc))
