use Rattle.std.proofs.Common.{refl, ap, subst}
use Rattle.vr_site.specs.Replica.{Serves}
use Rattle.vr_site.proofs.Shows.{ran_short, ran_on}
use Rattle.vr_site.proofs.replica.Replica.finish.Goals as goal

pub returns-in_default-clause-handles : goal.returns-in_default-clause-handles
returns-in_default-clause-handles g c = λ before event serves.
    ran_short g.M.Machine g.C.BootCell c.args.self.now before c.args.running.value event c.args.done c.in_default.not-Ok c.requires.down serves

pub returns-clause-handles : goal.returns-clause-handles
returns-clause-handles g c = λ before event serves.
    let m = g.M.Machine in
    let held = g.C.BootCell.held in
    let base = c.args.self.now in
    let view = c.self.view_is in
    ran_on m g.C.BootCell base before c.args.running.value event _ c.in-Ok.out (ap (λ v. v.f) view, ap (λ v. v.me) view, ap (λ v. v.setup) view)
    refl (ap (λ v. v.cell) view)
    (subst (λ d. Serves m (m.start base.setup) base.f base.me (held base.cell) before c.args.running.value d event) c.in-Ok.is serves)
