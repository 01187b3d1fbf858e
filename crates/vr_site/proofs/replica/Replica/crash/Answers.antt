use Rattle.std.proofs.Common.{◌≡◌, [], false, sym, ap, ◌∙◌, subst}
use Rattle.vr_types.specs.declared.event.EventOf.TheVariants.{Crash}
use Rattle.vr_types.specs.declared.event.SiteFault.TheVariants.{NotUp}
use Rattle.vr_types.specs.Site.{is_down}
use Rattle.vr_site.specs.declared.life.Life.TheVariants.{Down}
use Rattle.vr_site.specs.Life.{volatile_of}
use Rattle.vr_site.specs.Replica.{shown, site_shown, Handles}
use Rattle.vr_site.proofs.Restarts.{crashed}
use Rattle.vr_site.proofs.Shows.{refused_handles, down_refuses_crash, life_is_not_down}
use Rattle.vr_site.proofs.replica.Replica.crash.Goals as goal
use Rattle.vr_site.proofs.replica.Replica.crash.Goals.{in-Down, in_default}

pub returns-clause-handles : goal.returns-clause-handles
returns-clause-handles g c =
    let m = g.M.Machine in
    let held = g.C.BootCell.held in
    let old = c.args.self.now in
    let at = c.self.inside in
    let view = c.self.view_is in
    elim c.match-replace.branch [
      | in-Down w ↦
          (let was : at.life ≡ Down = sym c.replace.ensures.value ∙ w.in-Down.is in
          let down = sym (ap (λ v. is_down v.volatile.status) view) ∙ ap (λ l. is_down (volatile_of l).status) was in
          subst (Handles m g.C.BootCell old _ Crash) (sym w.result-is)
          (refused_handles m g.C.BootCell old _ Crash NotUp (ap (shown at.config.f at.config.me at.setup at.cell) (c.replace.ensures.after ∙ sym was) ∙ view)
          (down_refuses_crash g.row.M-Reply.Denot g.row.M-Order.Denot old.f old.me (site_shown held old []) down)))
      | in_default w ↦
          (let other : at.life ≡ Down → ⊥ = λ e. w.in_default.not-Down (c.replace.ensures.value ∙ e) in
          let up : is_down old.volatile.status ≡ false =
          sym (ap (λ v. is_down v.volatile.status) view) ∙ life_is_not_down m (m.start at.setup) at.config.f at.life other c.self.invariant.1 in
          subst (Handles m g.C.BootCell old _ Crash) (sym w.result-is)
          (crashed m g.C.BootCell old _ (ap (λ v. v.f) view, ap (λ v. v.me) view, ap (λ v. v.setup) view) w.silent.result up
          (ap volatile_of c.replace.ensures.after) (ap (λ v. v.cell) view) w.silent.ensures))
    ]
