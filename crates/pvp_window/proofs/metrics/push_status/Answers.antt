use Rattle.std.proofs.Common.{append_assoc, string_bytes}
use Rattle.pvp_window.specs.Metrics.{status_line, status_lines}
use Rattle.vr_types.specs.declared.event.Status.TheVariants.{Down}
use Rattle.pvp_window.proofs.Parts.{done}
use Rattle.pvp_window.proofs.metrics.push_status.Goals as goal

pub returns : goal.returns
unfolding status_lines
returns c =
    done c.push_status_line-4.result (string_bytes c.push_status_line-4.new.text) (string_bytes c.push_status_line-3.new.text)
    (string_bytes c.args.text.now) (status_line c.args.status Down) (status_lines c.args.status) c.push_status_line-4.ensures
    (rw (
      c.in_ok-push_status_line-3.ensures,
      c.in_ok-push_status_line-2.ensures,
      c.in_ok-push_status_line.ensures,
      c.in_ok-push_head.ensures,
    )
    (simp append_assoc))
