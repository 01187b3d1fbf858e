use Rattle.std.proofs.Common.{append_assoc, length, string_bytes}
use Rattle.pvp_window.specs.Metrics.{figure_line, figure_lines}
use Rattle.std.specs.List.{flat_map, range_with_len}
use Rattle.pvp_window.proofs.Parts.{done}
use Rattle.pvp_window.proofs.metrics.push_figures.Goals as goal

pub returns : goal.returns
unfolding figure_lines
returns c =
    done c.push_each_figure.result (string_bytes c.push_each_figure.new.text) (string_bytes c.push_head.new.text)
    (string_bytes c.args.text.now)
    (flat_map (figure_line c.args.book.now) (range_with_len 0 (length c.args.book.now.setup.currencies)))
    (figure_lines c.args.book.now) c.push_each_figure.ensures
    (rw (c.in_ok-push_head.ensures) (simp append_assoc))
