use Rattle.std.proofs.Common.{◌≡◌, ◌<◌, ◌∷◌, ◌++◌, [], Some, Ok, Err, refl, length, slice_set, sym, ap, ◌∙◌, subst}
use Rattle.headline.specs.declared.step.Move.TheVariants.{Takes, Falls}
use Rattle.headline.specs.declared.step.Turn.TheVariants.{OfSite}
use Rattle.headline.specs.Bank.{turn}
use Rattle.pvp_world.specs.declared.fault.WorldFault.TheVariants.{Site}
use Rattle.pvp_world.specs.World.{world_of, IsAt}
use Rattle.pvp_world.specs.Steps.{IsTaken, IsRefused, TellsFailures}
use Rattle.pvp_world.proofs.Moving.{found, moves-at, site-taken, site-fell, site-falls, site-stays, site-refuses}
use Rattle.pvp_world.proofs.Saves.{taken-tells, fault-tells}
use Rattle.pvp_world.proofs.world.World.at_site.Goals as goal

pub invariant_of-self-in-Ok-serve : goal.invariant_of-self-in-Ok-serve
invariant_of-self-in-Ok-serve g c =
    let w = c.self.inside in
    let there =
    found w.sites.items c.args.site c.from.result c.index_mut-site.result.now c.from.ensures
    (subst (λ v. c.args.site < length v.sites) (sym c.self.view_is) c.requires.there) c.index_mut-site.ensures.value in
    let is =
    subst (λ v. turn v.post c.args.step ≡ Some (OfSite c.args.site c.args.event)) (sym c.self.view_is) c.requires.turn
    ∙ ap (λ k. Some (OfSite k c.args.event)) (sym c.from.ensures) in (
      c.self.invariant.0,
      moves-at g.C.BootCell.held w.setup w.opening.items w.sites.items w.nodes.items w.clients.items w.post.items w.trail.items _ _ _ _ _ (Takes c.args.step)
          (site-taken g.C.BootCell.held w.setup w.opening.items w.sites.items w.nodes.items w.clients.items w.post.items w.trail.items
          c.self.invariant.1 c.args.step
          c.from.result c.args.event c.index_mut-site.result.now c.serve.new.site c.serve.new.post.items c.push.new.self.items c.in-Ok-serve.report is there
          (c.in-Ok-serve.ensures.serves w.setup c.from.result) (c.push.ensures ∙ ap (λ t. t ++ Takes c.args.step ∷ []) c.reserve.ensures.items)).moves,
    )

pub invariant_of-self-then-is_fall : goal.invariant_of-self-then-is_fall
invariant_of-self-then-is_fall g c =
    let w = c.self.inside in
    let there =
    found w.sites.items c.args.site c.from.result c.index_mut-site.result.now c.from.ensures
    (subst (λ v. c.args.site < length v.sites) (sym c.self.view_is) c.requires.there) c.index_mut-site.ensures.value in
    let is =
    subst (λ v. turn v.post c.args.step ≡ Some (OfSite c.args.site c.args.event)) (sym c.self.view_is) c.requires.turn
    ∙ ap (λ k. Some (OfSite k c.args.event)) (sym c.from.ensures) in (
      c.self.invariant.0,
      moves-at g.C.BootCell.held w.setup w.opening.items w.sites.items w.nodes.items w.clients.items w.post.items w.trail.items _ _ _ _ _ _
          (site-fell g.C.BootCell.held w.setup w.opening.items w.sites.items w.nodes.items w.clients.items w.post.items w.trail.items
          c.self.invariant.1 c.args.step
          c.from.result c.args.event c.index_mut-site.result.now c.serve.new.site c.serve.new.post.items c.push-then-is_fall.new.self.items c.in-Err.fault
          c.boot-cell.result is there
          (sym c.is_fall.ensures ∙ c.if-is_fall.true) c.boot-cell.ensures (c.in-Err.ensures.serves w.setup c.from.result)
          (c.push-then-is_fall.ensures ∙ ap (λ t. t ++ Falls c.args.step c.boot-cell.result ∷ []) c.reserve.ensures.items)).moves,
    )

pub invariant_of-self-else-is_fall : goal.invariant_of-self-else-is_fall
invariant_of-self-else-is_fall g c =
    let w = c.self.inside in
    let there =
    found w.sites.items c.args.site c.from.result c.index_mut-site.result.now c.from.ensures
    (subst (λ v. c.args.site < length v.sites) (sym c.self.view_is) c.requires.there) c.index_mut-site.ensures.value in
    let is =
    subst (λ v. turn v.post c.args.step ≡ Some (OfSite c.args.site c.args.event)) (sym c.self.view_is) c.requires.turn
    ∙ ap (λ k. Some (OfSite k c.args.event)) (sym c.from.ensures) in (
      c.self.invariant.0,
      subst (λ v. IsAt g.C.BootCell.held v)
          (sym (site-stays g.C.BootCell.held w.setup w.opening.items w.sites.items w.nodes.items w.clients.items w.post.items w.trail.items
          c.self.invariant.1 c.args.step
          c.from.result c.args.event c.index_mut-site.result.now c.serve.new.site c.serve.new.post.items c.reserve.new.self.items c.in-Err.fault there
          (sym c.is_fall.ensures ∙ c.if-is_fall.false) (c.in-Err.ensures.serves w.setup c.from.result) c.reserve.ensures.items)) c.self.invariant.1,
    )

pub returns-in-Ok-serve-clause-applies : goal.returns-in-Ok-serve-clause-applies
returns-in-Ok-serve-clause-applies g c =
    let w = c.self.inside in
    let there =
    found w.sites.items c.args.site c.from.result c.index_mut-site.result.now c.from.ensures
    (subst (λ v. c.args.site < length v.sites) (sym c.self.view_is) c.requires.there) c.index_mut-site.ensures.value in
    let is =
    subst (λ v. turn v.post c.args.step ≡ Some (OfSite c.args.site c.args.event)) (sym c.self.view_is) c.requires.turn
    ∙ ap (λ k. Some (OfSite k c.args.event)) (sym c.from.ensures) in
    subst (λ v. IsTaken g.C.BootCell.held v (world_of w.setup w.opening.items (slice_set w.sites.items c.from.result c.serve.new.site) w.nodes.items
    w.clients.items c.serve.new.post.items c.push.new.self.items) c.args.step c.in-Ok-serve.report) c.self.view_is
    (site-taken g.C.BootCell.held w.setup w.opening.items w.sites.items w.nodes.items w.clients.items w.post.items w.trail.items c.self.invariant.1 c.args.step
    c.from.result c.args.event c.index_mut-site.result.now c.serve.new.site c.serve.new.post.items c.push.new.self.items c.in-Ok-serve.report is there
    (c.in-Ok-serve.ensures.serves w.setup c.from.result) (c.push.ensures ∙ ap (λ t. t ++ Takes c.args.step ∷ []) c.reserve.ensures.items))

pub returns-then-is_fall-clause-applies : goal.returns-then-is_fall-clause-applies
returns-then-is_fall-clause-applies g c =
    let w = c.self.inside in
    let there =
    found w.sites.items c.args.site c.from.result c.index_mut-site.result.now c.from.ensures
    (subst (λ v. c.args.site < length v.sites) (sym c.self.view_is) c.requires.there) c.index_mut-site.ensures.value in
    let is =
    subst (λ v. turn v.post c.args.step ≡ Some (OfSite c.args.site c.args.event)) (sym c.self.view_is) c.requires.turn
    ∙ ap (λ k. Some (OfSite k c.args.event)) (sym c.from.ensures) in
    subst (λ v. IsRefused g.C.BootCell.held v (world_of w.setup w.opening.items (slice_set w.sites.items c.from.result c.serve.new.site) w.nodes.items
    w.clients.items c.serve.new.post.items c.push-then-is_fall.new.self.items) c.args.step (Site c.in-Err.fault)) c.self.view_is
    (site-falls g.C.BootCell.held w.setup w.opening.items w.sites.items w.nodes.items w.clients.items w.post.items w.trail.items c.self.invariant.1 c.args.step
    c.from.result c.args.event c.index_mut-site.result.now c.serve.new.site c.serve.new.post.items c.push-then-is_fall.new.self.items c.in-Err.fault
    c.boot-cell.result is there
    (sym c.is_fall.ensures ∙ c.if-is_fall.true) c.boot-cell.ensures (c.in-Err.ensures.serves w.setup c.from.result)
    (c.push-then-is_fall.ensures ∙ ap (λ t. t ++ Falls c.args.step c.boot-cell.result ∷ []) c.reserve.ensures.items))

pub returns-else-is_fall-clause-applies : goal.returns-else-is_fall-clause-applies
returns-else-is_fall-clause-applies g c =
    let w = c.self.inside in
    let there =
    found w.sites.items c.args.site c.from.result c.index_mut-site.result.now c.from.ensures
    (subst (λ v. c.args.site < length v.sites) (sym c.self.view_is) c.requires.there) c.index_mut-site.ensures.value in
    let is =
    subst (λ v. turn v.post c.args.step ≡ Some (OfSite c.args.site c.args.event)) (sym c.self.view_is) c.requires.turn
    ∙ ap (λ k. Some (OfSite k c.args.event)) (sym c.from.ensures) in
    subst (λ v. IsRefused g.C.BootCell.held v (world_of w.setup w.opening.items (slice_set w.sites.items c.from.result c.serve.new.site) w.nodes.items
    w.clients.items c.serve.new.post.items c.reserve.new.self.items) c.args.step (Site c.in-Err.fault)) c.self.view_is
    (site-refuses g.C.BootCell.held w.setup w.opening.items w.sites.items w.nodes.items w.clients.items w.post.items w.trail.items
    c.self.invariant.1 c.args.step
    c.from.result c.args.event c.index_mut-site.result.now c.serve.new.site c.serve.new.post.items c.reserve.new.self.items c.in-Err.fault is there
    (sym c.is_fall.ensures ∙ c.if-is_fall.false) (c.in-Err.ensures.serves w.setup c.from.result) c.reserve.ensures.items)

pub returns-in-Ok-serve-clause-tells : goal.returns-in-Ok-serve-clause-tells
returns-in-Ok-serve-clause-tells g c =
    let w = c.self.inside in
    let there =
    found w.sites.items c.args.site c.from.result c.index_mut-site.result.now c.from.ensures
    (subst (λ v. c.args.site < length v.sites) (sym c.self.view_is) c.requires.there) c.index_mut-site.ensures.value in
    let is =
    subst (λ v. turn v.post c.args.step ≡ Some (OfSite c.args.site c.args.event)) (sym c.self.view_is) c.requires.turn
    ∙ ap (λ k. Some (OfSite k c.args.event)) (sym c.from.ensures) in
    subst (λ v. TellsFailures g.C.BootCell v (world_of w.setup w.opening.items (slice_set w.sites.items c.from.result c.serve.new.site) w.nodes.items
    w.clients.items c.serve.new.post.items c.push.new.self.items) c.args.step (Ok c.in-Ok-serve.report)) c.self.view_is
    (taken-tells g.C.BootCell (world_of w.setup w.opening.items w.sites.items w.nodes.items w.clients.items w.post.items w.trail.items)
    (world_of w.setup w.opening.items (slice_set w.sites.items c.from.result c.serve.new.site) w.nodes.items w.clients.items c.serve.new.post.items
    c.push.new.self.items) c.args.step c.from.result c.args.event c.index_mut-site.result.now c.serve.new.site is there refl c.serve.result
    c.in-Ok-serve.report c.in-Ok-serve.report c.in-Ok-serve.is c.serve.ensures.counted c.serve.ensures.reliable)

pub returns-then-is_fall-clause-tells : goal.returns-then-is_fall-clause-tells
returns-then-is_fall-clause-tells g c =
    let w = c.self.inside in
    let there =
    found w.sites.items c.args.site c.from.result c.index_mut-site.result.now c.from.ensures
    (subst (λ v. c.args.site < length v.sites) (sym c.self.view_is) c.requires.there) c.index_mut-site.ensures.value in
    let is =
    subst (λ v. turn v.post c.args.step ≡ Some (OfSite c.args.site c.args.event)) (sym c.self.view_is) c.requires.turn
    ∙ ap (λ k. Some (OfSite k c.args.event)) (sym c.from.ensures) in
    subst (λ v. TellsFailures g.C.BootCell v (world_of w.setup w.opening.items (slice_set w.sites.items c.from.result c.serve.new.site) w.nodes.items
    w.clients.items c.serve.new.post.items c.push-then-is_fall.new.self.items) c.args.step (Err (Site c.in-Err.fault))) c.self.view_is
    (fault-tells g.C.BootCell (world_of w.setup w.opening.items w.sites.items w.nodes.items w.clients.items w.post.items w.trail.items)
    (world_of w.setup w.opening.items (slice_set w.sites.items c.from.result c.serve.new.site) w.nodes.items w.clients.items c.serve.new.post.items
    c.push-then-is_fall.new.self.items) c.args.step c.from.result c.args.event c.index_mut-site.result.now c.serve.new.site is there refl c.serve.result
    c.in-Err.fault c.in-Err.is c.serve.ensures.cause c.serve.ensures.counted c.serve.ensures.reliable)

pub returns-else-is_fall-clause-tells : goal.returns-else-is_fall-clause-tells
returns-else-is_fall-clause-tells g c =
    let w = c.self.inside in
    let there =
    found w.sites.items c.args.site c.from.result c.index_mut-site.result.now c.from.ensures
    (subst (λ v. c.args.site < length v.sites) (sym c.self.view_is) c.requires.there) c.index_mut-site.ensures.value in
    let is =
    subst (λ v. turn v.post c.args.step ≡ Some (OfSite c.args.site c.args.event)) (sym c.self.view_is) c.requires.turn
    ∙ ap (λ k. Some (OfSite k c.args.event)) (sym c.from.ensures) in
    subst (λ v. TellsFailures g.C.BootCell v (world_of w.setup w.opening.items (slice_set w.sites.items c.from.result c.serve.new.site) w.nodes.items
    w.clients.items c.serve.new.post.items c.reserve.new.self.items) c.args.step (Err (Site c.in-Err.fault))) c.self.view_is
    (fault-tells g.C.BootCell (world_of w.setup w.opening.items w.sites.items w.nodes.items w.clients.items w.post.items w.trail.items)
    (world_of w.setup w.opening.items (slice_set w.sites.items c.from.result c.serve.new.site) w.nodes.items w.clients.items c.serve.new.post.items
    c.reserve.new.self.items) c.args.step c.from.result c.args.event c.index_mut-site.result.now c.serve.new.site is there refl c.serve.result
    c.in-Err.fault c.in-Err.is c.serve.ensures.cause c.serve.ensures.counted c.serve.ensures.reliable)
