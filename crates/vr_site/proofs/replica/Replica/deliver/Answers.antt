use Rattle.std.proofs.Common.{◌≡◌, [], false, refl, sym, ap, ◌∙◌}
use Rattle.vr_types.specs.declared.event.EventOf.TheVariants.{Deliver}
use Rattle.vr_types.specs.Group.{is_mine as is_addressed}
use Rattle.vr_site.specs.Replica.{site_shown}
use Rattle.vr_site.proofs.Shows.{refused_handles, refuses_for_another}
use Rattle.vr_site.proofs.replica.Replica.deliver.Goals as goal

pub returns-then-not-is_mine-clause-handles : goal.returns-then-not-is_mine-clause-handles
returns-then-not-is_mine-clause-handles g c =
    let old = c.args.self.now in
    let e = c.args.envelope in
    let here = ap (λ v. is_addressed v.f v.me e) (sym c.self.view_is) in
    let away : is_addressed old.f old.me e ≡ false = here ∙ sym c.is_mine.ensures ∙ c.if-not-is_mine.true in
    refused_handles g.M.Machine g.C.BootCell old old (Deliver e) c.turned_away.result refl
    (refuses_for_another old.f old.me (site_shown g.C.BootCell.held old []) e c.turned_away.result away c.turned_away.ensures)
