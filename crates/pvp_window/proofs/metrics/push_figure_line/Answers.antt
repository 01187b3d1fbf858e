use Rattle.std.proofs.Common.{append_assoc, codes, string_bytes}
use Rattle.pvp_window.specs.Metrics.{figure_line}
use Rattle.pvp_window.proofs.Parts.{ended}
use Rattle.pvp_window.proofs.metrics.push_figure_line.Goals as goal

pub returns : goal.returns
unfolding figure_line
returns c =
    ended c.push_str-3.result (string_bytes c.push_str-3.new.self) (string_bytes c.push_figure.new.text)
    (string_bytes c.args.text.now) (codes "\n") (figure_line c.args.book.now c.args.c) c.push_str-3.ensures.bytes
    (rw (
      c.in_ok-push_figure.ensures,
      c.in_ok-push_str-2.ensures.bytes,
      c.in_ok-push_code_of.ensures,
      c.in_ok-push_str.ensures.bytes,
      c.setup.ensures.same,
    )
    (simp append_assoc))
