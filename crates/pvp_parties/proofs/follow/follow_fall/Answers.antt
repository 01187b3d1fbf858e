use Rattle.std.proofs.Common.{◌≡◌, true, false, ap, sym, ◌∙◌, subst}
use Rattle.std.specs.Prelude.{Ok}
use Rattle.vr_types.specs.MemoryCell.{held_by}
use Rattle.vr_site.specs.Replica.{Handles}
use Rattle.headline.specs.Machine.{book}
use Rattle.pvp_rooms.specs.declared.site.CameOf.TheVariants.{Fell}
use Rattle.pvp_rooms.specs.Sites.{Comes, Shows, after}
use Rattle.pvp_parties.specs.Made.{memory}
use Rattle.pvp_parties.proofs.SiteFollows.{fell_unsaved, fell_so, fell_only, follows_by}
use Rattle.pvp_parties.proofs.follow.follow_fall.Goals as goal

pub returns-then-is_unsaved_restart : goal.returns-then-is_unsaved_restart
returns-then-is_unsaved_restart c = λ x shows.
    let both = c.is_unsaved_restart.ensures.0 c.if-is_unsaved_restart.true in
    fell_unsaved book memory c.args.site.now x c.args.event.now shows c.fall.new.self c.args.why c.args.cell both.0 (sym c.in-None.ensures)
    (both.1 ∙ c.boot.ensures) c.fall.ensures (c.is_of_fall.ensures.0 c.if-not-is_of_fall.false)

pub returns : goal.returns
returns c = λ x shows.
    let old = c.args.site.now in
    let event = c.args.event.now in
    let handled = c.handle.new.self in
    let now = c.fall-2.new.self in
    let of = c.is_of_fall.ensures.0 c.if-not-is_of_fall.false in
    let is = c.in_ok-copy.ensures in
    let handles = subst (λ e. Handles book memory old handled e (Ok c.in-Ok._out)) is c.in-Ok.ensures.handles in
    let kept : c.args.cell ≡ held_by old.cell → held_by handled.cell ≡ held_by old.cell = λ h. ap held_by (c.handle.ensures.only_restart (λ r.
    let clash : true ≡ false = sym (c.is_unsaved_restart.ensures.1 (sym is ∙ r, h ∙ sym c.boot.ensures)) ∙ c.if-is_unsaved_restart.false in cc)) in
    follows_by (Comes book) after x event (Fell c.args.why c.args.cell) (Shows book memory now) c.is_same_boot.result
    (λ t. fell_so book memory old x event shows handled c.handle.ensures.place c.in-Ok._out handles now c.args.why c.args.cell c.fall-2.ensures
    (c.is_same_boot.ensures.0 t ∙ c.boot-2.ensures) of)
    (λ comes. c.is_same_boot.ensures.1 (fell_only book memory old x event shows handled c.handle.ensures.place c.in-Ok._out handles now c.args.why c.args.cell
    c.fall-2.ensures kept comes ∙ sym c.boot-2.ensures))
