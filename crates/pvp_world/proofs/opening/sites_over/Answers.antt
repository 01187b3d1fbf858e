use Rattle.std.proofs.Common.{length, map, take, sym, ap, subst, ◌∙◌, arith, Global}
use Rattle.std.proofs.Math.Seq.{take-length}
use Rattle.std.proofs.lemmas.List.{length_push, length-map}
use Rattle.std.proofs.lemmas.List.FromFn.{length-enumerate_from}
use Rattle.std.proofs.lemmas.Iterator.Adapters.{YieldsList-from_vec}
use Rattle.std.proofs.lemmas.Iterator.Consumers.{YieldsList-from_enumerate, YieldsList-turn, YieldsList-end}
use Rattle.pvp_types.specs.declared.command.Cmd.{Cmd}
use Rattle.pvp_types.specs.declared.setup.Setup.{Setup}
use Rattle.pvp_types.specs.Setup.{faults}
use Rattle.vr_types.specs.Site.{Site, opening_site}
use Rattle.vr_site.specs.Replica.{ShownSite}
use Rattle.pvp_world.specs.World.{IsSite}
use Rattle.pvp_world.proofs.Openings.{so_far-none, so_far-more, so_far-all, made-at, made-more, IsPlaced-numbered, IsSite-opening}
use Rattle.pvp_world.proofs.opening.sites_over.Goals as goal

pub loop-me-init : goal.loop-me-init
loop-me-init g c = record {
  cells = ap (map (λ (site : ShownSite Cmd Setup g.row.C.Denot). site.cell)) c.in_ok-sites.ensures.items;
  sites = so_far-none _ _ _ c.in_ok-sites.ensures.items;
}

pub invariant_of-new : goal.invariant_of-new
invariant_of-new g c =
    let cells = c.args.cells.items in
    let each = YieldsList-from_enumerate {s = c.into_iter-me-iterator.result} (YieldsList-from_vec {Z = Global} cells (cc) (cc)) (cc) in
    let placed = IsPlaced-numbered cells (length c.loop-me.yielded) c.in-Some.me c.in-Some.cell
    (YieldsList-turn each c.loop-me.yielded c.loop-me.me-iterator c.loop-me.yielded_by c.next.result c.next.new.self
    (c.in-Some.me, c.in-Some.cell) c.in-Some.is c.next.ensures.steps) in
    record { some = omega arith; few = omega arith; in_range = omega arith }

pub loop-me-preserved : goal.loop-me-preserved
loop-me-preserved g c =
    let setup = c.args.setup.now in
    let held = g.C.BootCell.held in
    let cells = c.args.cells.items in
    let n = length c.loop-me.yielded in
    let cell = c.in-Some.cell in
    let site = c.in_ok-new.field-0 in
    let parts = c.in_ok-new.ensures.parts in
    let each = YieldsList-from_enumerate {s = c.into_iter-me-iterator.result} (YieldsList-from_vec {Z = Global} cells (cc) (cc)) (cc) in
    let placed = IsPlaced-numbered cells n c.in-Some.me cell
    (YieldsList-turn each c.loop-me.yielded c.loop-me.me-iterator c.loop-me.yielded_by c.next.result c.next.new.self
    (c.in-Some.me, cell) c.in-Some.is c.next.ensures.steps) in
    let opens = IsSite-opening held setup n site cell (parts.0 ∙ c.faults-f.ensures.faults) (parts.1 ∙ placed.number) (parts.2 ∙ c.in_ok-copy.ensures)
    c.in_ok-new.ensures.acked (c.in_ok-new.ensures.site ∙ ap (λ f. opening_site f (held cell)) c.faults-f.ensures.faults) in
    rw (length_push c.loop-me.yielded (c.in-Some.me, cell)) (record {
      cells =
          made-more (λ (site : ShownSite Cmd Setup g.row.C.Denot). site.cell) _ cells n site cell _ c.loop-me.invariant.cells c.in_ok-push.ensures.items
          parts.3 placed.within placed.read;
      sites =
          so_far-more (IsSite held setup) _ (map (opening_site (faults setup)) (map held cells)) n site _ c.loop-me.invariant.sites c.in_ok-push.ensures.items
          (λ y at. subst (λ (x : Site Cmd). IsSite held setup n site x) (made-at (opening_site (faults setup)) held cells n cell y placed.within placed.read at)
          opens);
    })

pub returns-clause-cells : goal.returns-clause-cells
returns-clause-cells g c =
    let cells = c.args.cells.items in
    let each = YieldsList-from_enumerate {s = c.into_iter-me-iterator.result} (YieldsList-from_vec {Z = Global} cells (cc) (cc)) (cc) in
    let end =
    YieldsList-end each c.loop-me.yielded c.loop-me.me-iterator c.loop-me.yielded_by c.next.result c.next.new.self c.in-None.is c.next.ensures.steps in
    c.loop-me.invariant.cells ∙ ap (λ n. take n cells) (end.1 ∙ length-enumerate_from 0 cells) ∙ take-length cells

pub returns-clause-sites : goal.returns-clause-sites
returns-clause-sites g c =
    let cells = c.args.cells.items in
    let held = g.C.BootCell.held in
    let each = YieldsList-from_enumerate {s = c.into_iter-me-iterator.result} (YieldsList-from_vec {Z = Global} cells (cc) (cc)) (cc) in
    let end =
    YieldsList-end each c.loop-me.yielded c.loop-me.me-iterator c.loop-me.yielded_by c.next.result c.next.new.self c.in-None.is c.next.ensures.steps in
    so_far-all _ _ _ _ c.loop-me.invariant.sites
    (end.1 ∙ length-enumerate_from 0 cells ∙ sym (length-map (map held cells) (opening_site {C = Cmd} (faults c.args.setup.now)) ∙ length-map cells held))
