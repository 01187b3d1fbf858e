use Rattle.std.proofs.Common.{sym, ◌∙◌, ap, refl, length}
use Rattle.std.proofs.lemmas.Option.{slice_get_read}
use Rattle.vr_types.specs.Actors.{is_site}
use Rattle.pvp_live.proofs.Looks.{looks-more, looks-same}
use Rattle.pvp_live.proofs.sighting.look_at_sites.Goals as goal
use Rattle.pvp_live.proofs.sighting.look_at_sites.Goals.{then-is_site+in_ok-push, else-is_site}

pub loop-cell-preserved : goal.loop-cell-preserved
loop-cell-preserved g c =
    let cells = c.args.cells.now in
    let i = c.loop-cell.cell-index in
    let cell = c.cell-item.result in
    let there = slice_get_read cells (length cells) i cell refl c.loop-cell-test.true c.cell-item.is in
    let told = ap is_site (sym c.number.ensures) ∙ sym c.is_site.ensures in
    elim c.if-is_site.branch [
      | then-is_site+in_ok-push w ↦ looks-more g.C.BootCell cells c.loop-cell.looks.items c.if-is_site.looks.items i cell w.look_at.result there
          (told ∙ w.if-is_site.true) w.look_at.ensures (ap (λ v. v.items) w.looks-is ∙ w.in_ok-push.ensures.items) c.loop-cell.invariant
      | else-is_site w ↦ looks-same g.C.BootCell cells c.loop-cell.looks.items c.if-is_site.looks.items i cell there (told ∙ w.if-is_site.false)
          (ap (λ v. v.items) w.looks-is) c.loop-cell.invariant
    ]
