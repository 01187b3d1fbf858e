use Rattle.std.proofs.Common.{[], sym, ap, ◌∙◌}
use Rattle.vr_types.specs.Cell.{is_new}
use Rattle.vr_log.specs.Running.{site_of}
use Rattle.vr_site.proofs.Shows.{opened}
use Rattle.vr_site.proofs.replica.Replica.new.Goals as goal

pub returns-clause-site : goal.returns-clause-site
returns-clause-site g c =
    let cell = g.C.BootCell.held c.args.cell in
    ap (λ r. site_of r [] cell) c.in_ok-running.ensures.ok ∙ c.in_ok-first.ensures.site cell
    ∙ sym (opened c.args.config.f cell (ap is_new (sym c.load.ensures) ∙ sym c.is_new.ensures ∙ c.if-not-is_new.false))
