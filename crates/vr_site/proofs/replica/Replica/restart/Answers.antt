use Rattle.std.proofs.Common.{◌≡◌, ◌⊎◌, false, inl, inr, [], refl, sym, ap, ◌∙◌, subst}
use Rattle.vr_types.specs.declared.event.EventOf.TheVariants.{Restart}
use Rattle.vr_types.specs.declared.event.SiteFault.TheVariants.{NoMemory, CellFault}
use Rattle.vr_types.specs.declared.event.Status.TheVariants.{Down}
use Rattle.vr_types.specs.declared.message.MsgOf.TheVariants.{Recovery}
use Rattle.vr_types.specs.Cell.{is_spent, nonce_of, raised}
use Rattle.vr_types.specs.Group.{to_all}
use Rattle.vr_types.specs.Site.{restarted}
use Rattle.vr_log.specs.Outcomes.{Sends}
use Rattle.vr_recover.specs.Recovering.{recovering_site}
use Rattle.vr_site.specs.Life.{volatile_of}
use Rattle.vr_site.specs.Replica.{Handles}
use Rattle.vr_site.proofs.Shows.{err_is}
use Rattle.vr_site.proofs.Restarts.{was_raised, one_save, restarted_on, restart_fell}
use Rattle.vr_site.proofs.replica.Replica.restart.Goals as goal

pub returns-in_err-save-clause-handles : goal.returns-in_err-save-clause-handles
returns-in_err-save-clause-handles g c =
    let m = g.M.Machine in
    let held = g.C.BootCell.held in
    let old = c.args.self.now in
    let view = c.self.view_is in
    let status : old.volatile.status ≡ Down = sym (ap (λ v. v.volatile.status) view) ∙ ap (λ l. (volatile_of l).status) c.in-Down.is in
    let loaded : c.load.result ≡ held old.cell = c.load.ensures ∙ ap (λ v. held v.cell) view in
    let up = was_raised c.load.result c.in-Some.boot c.in-Some.ensures in
    let more : is_spent (held old.cell) ≡ false = ap is_spent (sym loaded) ∙ up.0 in
    let now : c.in-Some.boot ≡ raised (held old.cell) = up.1 ∙ ap raised loaded in
    let saved = one_save g.C.BootCell _ old.cell c.save.new.cell c.in-Some.boot (ap (λ v. v.cell) view) now c.save.ensures.saves in
    let cell = subst (λ b. (held c.save.new.cell ≡ held old.cell) ⊎ (held c.save.new.cell ≡ b)) now
    (subst (λ b. (held c.save.new.cell ≡ b) ⊎ (held c.save.new.cell ≡ c.in-Some.boot)) (ap (λ v. held v.cell) view) c.in_err-save.ensures.err) in
    subst (Handles m g.C.BootCell old _ Restart)
    (sym (err_is c.from_residual.result c.in_err-save.field-0.0 CellFault c.from_residual.ensures.1 c.in_err-save.ensures.fault))
    (restart_fell m g.C.BootCell old _ (ap (λ v. v.f) view, ap (λ v. v.me) view, ap (λ v. v.setup) view) status more CellFault (inr refl)
    (ap volatile_of c.in-Down.is) cell saved)

pub returns-in_default-ask_all-clause-handles : goal.returns-in_default-ask_all-clause-handles
returns-in_default-ask_all-clause-handles g c =
    let m = g.M.Machine in
    let held = g.C.BootCell.held in
    let old = c.args.self.now in
    let view = c.self.view_is in
    let status : old.volatile.status ≡ Down = sym (ap (λ v. v.volatile.status) view) ∙ ap (λ l. (volatile_of l).status) c.in-Down.is in
    let loaded : c.load.result ≡ held old.cell = c.load.ensures ∙ ap (λ v. held v.cell) view in
    let up = was_raised c.load.result c.in-Some.boot c.in-Some.ensures in
    let more : is_spent (held old.cell) ≡ false = ap is_spent (sym loaded) ∙ up.0 in
    let now : c.in-Some.boot ≡ raised (held old.cell) = up.1 ∙ ap raised loaded in
    let saved = one_save g.C.BootCell _ old.cell c.save.new.cell c.in-Some.boot (ap (λ v. v.cell) view) now c.save.ensures.saves in
    restart_fell m g.C.BootCell old _ (ap (λ v. v.f) view, ap (λ v. v.me) view, ap (λ v. v.setup) view) status more NoMemory (inl refl)
    (ap volatile_of c.in-Down.is) (inr (c.in_ok-save.ensures.ok ∙ now)) saved

pub returns-clause-handles : goal.returns-clause-handles
returns-clause-handles g c =
    let m = g.M.Machine in
    let held = g.C.BootCell.held in
    let old = c.args.self.now in
    let view = c.self.view_is in
    let status : old.volatile.status ≡ Down = sym (ap (λ v. v.volatile.status) view) ∙ ap (λ l. (volatile_of l).status) c.in-Down.is in
    let loaded : c.load.result ≡ held old.cell = c.load.ensures ∙ ap (λ v. held v.cell) view in
    let up = was_raised c.load.result c.in-Some.boot c.in-Some.ensures in
    let more : is_spent (held old.cell) ≡ false = ap is_spent (sym loaded) ∙ up.0 in
    let now : c.in-Some.boot ≡ raised (held old.cell) = up.1 ∙ ap raised loaded in
    let saved = one_save g.C.BootCell _ old.cell c.save.new.cell c.in-Some.boot (ap (λ v. v.cell) view) now c.save.ensures.saves in
    let site = subst (λ b. recovering_site c.restarted.result [] b ≡ restarted old.f old.me b) now
    (subst (λ v. recovering_site c.restarted.result [] c.in-Some.boot ≡ restarted v.f v.me c.in-Some.boot) view c.restarted.ensures.site) in
    let told = subst (λ b. Sends c.in-Ok.out (to_all old.f old.me (Recovery (record { nonce = nonce_of b })))) now
    (subst (λ v. Sends c.in-Ok.out (to_all v.f v.me (Recovery (record { nonce = nonce_of c.in-Some.boot })))) view c.in-Ok.ensures) in
    restarted_on m g.C.BootCell old _ (ap (λ v. v.f) view, ap (λ v. v.me) view, ap (λ v. v.setup) view) status more c.in-Ok.out c.restarted.result site refl
    (c.in_ok-save.ensures.ok ∙ now) saved told
