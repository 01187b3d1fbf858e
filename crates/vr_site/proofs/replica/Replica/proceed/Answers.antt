use Rattle.std.proofs.Common.{refl, ap, ◌∙◌, subst}
use Rattle.std.specs.Prelude.{Ok, IfOk}
use Rattle.vr_recover.specs.Progress.{IsSoundProgress}
use Rattle.vr_site.specs.Life.{running_volatile}
use Rattle.vr_site.specs.Replica.{Awaits}
use Rattle.vr_site.proofs.Waits.{waited_short, regained_short, waited_dropped, waited_on, regained_on}
use Rattle.vr_site.proofs.replica.Replica.proceed.Goals as goal

pub returns-in_default-clause-handles : goal.returns-in_default-clause-handles
returns-in_default-clause-handles g c = λ before event awaits.
    waited_short g.M.Machine g.C.BootCell c.args.self.now before c.args.recovering event c.args.progress c.in_default.not-Ok c.requires.down awaits

pub returns-in-Dropped-clause-handles : goal.returns-in-Dropped-clause-handles
returns-in-Dropped-clause-handles g c = λ before event awaits.
    let m = g.M.Machine in
    let held = g.C.BootCell.held in
    let base = c.args.self.now in
    let now = c.args.recovering in
    waited_dropped m g.C.BootCell base before now event _ (ap (λ v. v.f) c.self.view_is, ap (λ v. v.me) c.self.view_is, ap (λ v. v.setup) c.self.view_is)
    c.dropped.result c.in-Dropped.why refl (ap (λ v. v.cell) c.self.view_is) c.dropped.ensures
    (subst (λ p. Awaits base.f base.me (held base.cell) before now p event) (c.in-Ok.is ∙ ap (λ p. Ok p) c.in-Dropped.is) awaits)

pub returns-in-Waits-clause-handles : goal.returns-in-Waits-clause-handles
returns-in-Waits-clause-handles g c = λ before event awaits.
    let m = g.M.Machine in
    let held = g.C.BootCell.held in
    let base = c.args.self.now in
    let now = c.args.recovering in
    let view = c.self.view_is in
    waited_on m g.C.BootCell base before now event _ (ap (λ v. v.f) view, ap (λ v. v.me) view, ap (λ v. v.setup) view)
    c.silent.result refl (ap (λ v. v.cell) view) c.silent.ensures
    (subst (λ p. Awaits base.f base.me (held base.cell) before now p event) (c.in-Ok.is ∙ ap (λ p. Ok p) c.in-Waits.is) awaits)

pub returns-in_default-new-clause-handles : goal.returns-in_default-new-clause-handles
returns-in_default-new-clause-handles g c = λ before event awaits.
    let held = g.C.BootCell.held in
    let base = c.args.self.now in
    regained_short g.M.Machine g.C.BootCell base before c.args.recovering event c.in-Regained.running c.requires.down
    (subst (λ p. Awaits base.f base.me (held base.cell) before c.args.recovering p event) (c.in-Ok.is ∙ ap (λ p. Ok p) c.in-Regained.is) awaits)

pub returns-in-Ok-new-clause-handles : goal.returns-in-Ok-new-clause-handles
returns-in-Ok-new-clause-handles g c = λ before event awaits.
    let m = g.M.Machine in
    let held = g.C.BootCell.held in
    let base = c.args.self.now in
    let now = c.args.recovering in
    let view = c.self.view_is in
    regained_on m g.C.BootCell base before now event _ (ap (λ v. v.f) view, ap (λ v. v.me) view, ap (λ v. v.setup) view) _ c.in-Regained.running
    (subst (λ p. IfOk p (λ q. IsSoundProgress m (m.start base.setup) base.f now q)) (c.in-Ok.is ∙ ap (λ p. Ok p) c.in-Regained.is) c.requires.sound)
    (ap running_volatile c.in-Ok-new.ensures.ok) (ap (λ v. v.cell) view) c.silent-in-Regained.ensures
    (subst (λ p. Awaits base.f base.me (held base.cell) before now p event) (c.in-Ok.is ∙ ap (λ p. Ok p) c.in-Regained.is) awaits)
