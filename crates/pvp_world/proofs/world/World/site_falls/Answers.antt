use Rattle.std.proofs.Common.{◌≡◌, ◌≢◌, ◌<◌, ◌∷◌, ◌++◌, [], inl, Some, Ok, Err, refl, length, slice_set, sym, ap, ◌∙◌, subst, true≢false, rules}
use Rattle.headline.specs.declared.step.Move.TheVariants.{Falls}
use Rattle.headline.specs.declared.step.Turn.TheVariants.{OfSite}
use Rattle.headline.specs.Bank.{turn}
use Rattle.pvp_world.specs.declared.fault.WorldFault.TheVariants.{Site, NoMemory}
use Rattle.pvp_world.specs.declared.fault.FallFault.TheVariants.{Step as OfStep}
use Rattle.pvp_world.specs.World.{world_of, IsAt}
use Rattle.pvp_world.specs.Steps.{Moves}
use Rattle.pvp_world.specs.Falling.{FallsTo, KeepsReliable}
use Rattle.pvp_world.proofs.Moving.{found, nat_lt-holds, moves-at, site-down, down-saved, site-keeps}
use Rattle.pvp_world.proofs.Falling.{told-elsewhere, told-kept, stays-reliable, missed-reliable, fallen-reliable}
use Rattle.pvp_world.proofs.world.World.site_falls.Goals as goal

pub returns-in_default-clause-falls : goal.returns-in_default-clause-falls
returns-in_default-clause-falls g c =
    let w = c.self.inside in
    subst (λ v. FallsTo g.C.BootCell.held v (world_of w.setup w.opening.items w.sites.items w.nodes.items w.clients.items w.post.items c.reserve.new.self.items)
    c.args.step c.args.cell (Err (OfStep NoMemory))) c.self.view_is
    (record {
      kept = λ _. (
        ap (λ t. world_of w.setup w.opening.items w.sites.items w.nodes.items w.clients.items w.post.items t) c.reserve.ensures.items,
        inl (record {
          turn_is = OfSite c.args.site c.args.event;
          has_turn = subst (λ v. turn v.post c.args.step ≡ Some (OfSite c.args.site c.args.event)) (sym c.self.view_is) c.requires.turn;
          there = nat_lt-holds c.args.site (length w.sites.items) (subst (λ v. c.args.site < length v.sites) (sym c.self.view_is) c.requires.there);
        }),
      );
      fell = λ e. absurd (true≢false (sym e));
    })

pub returns-in_default-clause-reliable : goal.returns-in_default-clause-reliable
returns-in_default-clause-reliable g c =
    let w = c.self.inside in
    let old = world_of w.setup w.opening.items w.sites.items w.nodes.items w.clients.items w.post.items w.trail.items in
    let new = world_of w.setup w.opening.items w.sites.items w.nodes.items w.clients.items w.post.items c.reserve.new.self.items in
    subst (λ v. KeepsReliable g.C.BootCell v new (Err (OfStep NoMemory))) c.self.view_is (stays-reliable g.C.BootCell old new NoMemory refl refl)

pub invariant_of-self-in-Err : goal.invariant_of-self-in-Err
invariant_of-self-in-Err g c =
    let w = c.self.inside in
    let there =
    found w.sites.items c.args.site c.from.result c.index_mut-site.result.now c.from.ensures
    (subst (λ v. c.args.site < length v.sites) (sym c.self.view_is) c.requires.there) c.index_mut-site.ensures.value in
    let is =
    subst (λ v. turn v.post c.args.step ≡ Some (OfSite c.args.site c.args.event)) (sym c.self.view_is) c.requires.turn
    ∙ ap (λ k. Some (OfSite k c.args.event)) (sym c.from.ensures) in (
      c.self.invariant.0,
      subst (λ v. IsAt g.C.BootCell.held v)
          (sym (site-keeps g.C.BootCell.held w.setup w.opening.items w.sites.items w.nodes.items w.clients.items w.post.items w.trail.items
          c.self.invariant.1 c.args.step
          c.from.result c.args.event c.index_mut-site.result.now c.go_down.new.site c.reserve.new.self.items c.in-Err.fault is there
          (c.in-Err.ensures.down w.setup c.from.result) c.reserve.ensures.items).0) c.self.invariant.1,
    )

pub returns-in-Err-clause-falls : goal.returns-in-Err-clause-falls
returns-in-Err-clause-falls g c =
    let w = c.self.inside in
    let there =
    found w.sites.items c.args.site c.from.result c.index_mut-site.result.now c.from.ensures
    (subst (λ v. c.args.site < length v.sites) (sym c.self.view_is) c.requires.there) c.index_mut-site.ensures.value in
    let is =
    subst (λ v. turn v.post c.args.step ≡ Some (OfSite c.args.site c.args.event)) (sym c.self.view_is) c.requires.turn
    ∙ ap (λ k. Some (OfSite k c.args.event)) (sym c.from.ensures) in
    let old = world_of w.setup w.opening.items w.sites.items w.nodes.items w.clients.items w.post.items w.trail.items in
    let new =
    world_of w.setup w.opening.items (slice_set w.sites.items c.from.result c.go_down.new.site) w.nodes.items w.clients.items w.post.items
    c.reserve.new.self.items in
    subst (λ v. FallsTo g.C.BootCell.held v new c.args.step c.args.cell (Err (OfStep (Site c.in-Err.fault)))) c.self.view_is
    (told-kept g.C.BootCell.held old new c.args.step c.args.cell c.in-Err.fault
    (site-keeps g.C.BootCell.held w.setup w.opening.items w.sites.items w.nodes.items w.clients.items w.post.items w.trail.items c.self.invariant.1 c.args.step
    c.from.result c.args.event c.index_mut-site.result.now c.go_down.new.site c.reserve.new.self.items c.in-Err.fault is there
    (c.in-Err.ensures.down w.setup c.from.result) c.reserve.ensures.items))

pub returns-in-Err-clause-reliable : goal.returns-in-Err-clause-reliable
returns-in-Err-clause-reliable g c =
    let w = c.self.inside in
    let there =
    found w.sites.items c.args.site c.from.result c.index_mut-site.result.now c.from.ensures
    (subst (λ v. c.args.site < length v.sites) (sym c.self.view_is) c.requires.there) c.index_mut-site.ensures.value in
    let is =
    subst (λ v. turn v.post c.args.step ≡ Some (OfSite c.args.site c.args.event)) (sym c.self.view_is) c.requires.turn
    ∙ ap (λ k. Some (OfSite k c.args.event)) (sym c.from.ensures) in
    let old = world_of w.setup w.opening.items w.sites.items w.nodes.items w.clients.items w.post.items w.trail.items in
    let new =
    world_of w.setup w.opening.items (slice_set w.sites.items c.from.result c.go_down.new.site) w.nodes.items w.clients.items w.post.items
    c.reserve.new.self.items in
    let kept =
    site-keeps g.C.BootCell.held w.setup w.opening.items w.sites.items w.nodes.items w.clients.items w.post.items w.trail.items
    c.self.invariant.1 c.args.step
    c.from.result c.args.event c.index_mut-site.result.now c.go_down.new.site c.reserve.new.self.items c.in-Err.fault is there
    (c.in-Err.ensures.down w.setup c.from.result) c.reserve.ensures.items in
    subst (λ v. KeepsReliable g.C.BootCell v new (Err (OfStep (Site c.in-Err.fault)))) c.self.view_is
    (stays-reliable g.C.BootCell old new (Site c.in-Err.fault) (ap (λ v. v.sites) kept.0) kept.2)

pub invariant_of-self-then-ne : goal.invariant_of-self-then-ne
invariant_of-self-then-ne g c =
    let w = c.self.inside in
    let there =
    found w.sites.items c.args.site c.from.result c.index_mut-site.result.now c.from.ensures
    (subst (λ v. c.args.site < length v.sites) (sym c.self.view_is) c.requires.there) c.index_mut-site.ensures.value in
    let is =
    subst (λ v. turn v.post c.args.step ≡ Some (OfSite c.args.site c.args.event)) (sym c.self.view_is) c.requires.turn
    ∙ ap (λ k. Some (OfSite k c.args.event)) (sym c.from.ensures) in (
      c.self.invariant.0,
      moves-at g.C.BootCell.held w.setup w.opening.items w.sites.items w.nodes.items w.clients.items w.post.items w.trail.items _ _ _ _ _ _
          (site-down g.C.BootCell.held w.setup w.opening.items w.sites.items w.nodes.items w.clients.items w.post.items w.trail.items
          c.self.invariant.1 c.args.step
          c.from.result c.args.event c.index_mut-site.result.now c.go_down.new.site w.post.items c.push.new.self.items c.boot-held.result is
          there c.boot-held.ensures
          (c.in-Ok-go_down.ensures.down w.setup c.from.result) refl
          (c.push.ensures ∙ ap (λ t. t ++ Falls c.args.step c.boot-held.result ∷ []) c.reserve.ensures.items)),
    )

pub returns-then-ne-clause-falls : goal.returns-then-ne-clause-falls
returns-then-ne-clause-falls g c =
    let w = c.self.inside in
    let there =
    found w.sites.items c.args.site c.from.result c.index_mut-site.result.now c.from.ensures
    (subst (λ v. c.args.site < length v.sites) (sym c.self.view_is) c.requires.there) c.index_mut-site.ensures.value in
    let is =
    subst (λ v. turn v.post c.args.step ≡ Some (OfSite c.args.site c.args.event)) (sym c.self.view_is) c.requires.turn
    ∙ ap (λ k. Some (OfSite k c.args.event)) (sym c.from.ensures) in
    let old = world_of w.setup w.opening.items w.sites.items w.nodes.items w.clients.items w.post.items w.trail.items in
    let new =
    world_of w.setup w.opening.items (slice_set w.sites.items c.from.result c.go_down.new.site) w.nodes.items w.clients.items w.post.items
    c.push.new.self.items in
    let apart : c.boot-held.result ≢ c.args.cell = λ same. search rules in
    subst (λ v. FallsTo g.C.BootCell.held v new c.args.step c.args.cell (Err c.in-Ok-go_down.missed)) c.self.view_is
    (told-elsewhere g.C.BootCell.held old new c.args.step c.args.cell c.in-Ok-go_down.missed c.from.result c.args.event
    c.index_mut-site.result.now c.boot-held.result
    c.in-Ok-go_down.ensures.miss is there apart (λ same. c.boot-held.ensures ∙ c.go_down.ensures.holds same)
    (site-down g.C.BootCell.held w.setup w.opening.items w.sites.items w.nodes.items w.clients.items w.post.items w.trail.items c.self.invariant.1 c.args.step
    c.from.result c.args.event c.index_mut-site.result.now c.go_down.new.site w.post.items c.push.new.self.items c.boot-held.result is
    there c.boot-held.ensures
    (c.in-Ok-go_down.ensures.down w.setup c.from.result) refl
    (c.push.ensures ∙ ap (λ t. t ++ Falls c.args.step c.boot-held.result ∷ []) c.reserve.ensures.items))
    (λ told. down-saved g.C.BootCell.held w.setup w.opening.items w.sites.items w.nodes.items w.clients.items w.post.items w.trail.items
    c.self.invariant.1 c.args.step
    c.from.result c.args.event c.index_mut-site.result.now c.go_down.new.site w.post.items c.push.new.self.items c.boot-held.result is
    there c.boot-held.ensures
    (c.in-Ok-go_down.ensures.down w.setup c.from.result) refl
    (c.push.ensures ∙ ap (λ t. t ++ Falls c.args.step c.boot-held.result ∷ []) c.reserve.ensures.items)
    (c.go_down.ensures.saved (c.in-Ok-go_down.is ∙ ap (λ m. Ok m) told) (λ same. apart (c.boot-held.ensures ∙ same)) w.setup c.from.result)))

pub returns-then-ne-clause-reliable : goal.returns-then-ne-clause-reliable
returns-then-ne-clause-reliable g c =
    let w = c.self.inside in
    let there =
    found w.sites.items c.args.site c.from.result c.index_mut-site.result.now c.from.ensures
    (subst (λ v. c.args.site < length v.sites) (sym c.self.view_is) c.requires.there) c.index_mut-site.ensures.value in
    let is =
    subst (λ v. turn v.post c.args.step ≡ Some (OfSite c.args.site c.args.event)) (sym c.self.view_is) c.requires.turn
    ∙ ap (λ k. Some (OfSite k c.args.event)) (sym c.from.ensures) in
    let old = world_of w.setup w.opening.items w.sites.items w.nodes.items w.clients.items w.post.items w.trail.items in
    let new =
    world_of w.setup w.opening.items (slice_set w.sites.items c.from.result c.go_down.new.site) w.nodes.items w.clients.items w.post.items
    c.push.new.self.items in
    subst (λ v. KeepsReliable g.C.BootCell v new (Err c.in-Ok-go_down.missed)) c.self.view_is
    (missed-reliable g.C.BootCell old new c.from.result c.index_mut-site.result.now c.go_down.new.site there refl c.go_down.result c.go_down.ensures.reliable
    c.in-Ok-go_down.missed c.in-Ok-go_down.is)

pub invariant_of-self-2 : goal.invariant_of-self-2
invariant_of-self-2 g c =
    let w = c.self.inside in
    let there =
    found w.sites.items c.args.site c.from.result c.index_mut-site.result.now c.from.ensures
    (subst (λ v. c.args.site < length v.sites) (sym c.self.view_is) c.requires.there) c.index_mut-site.ensures.value in
    let is =
    subst (λ v. turn v.post c.args.step ≡ Some (OfSite c.args.site c.args.event)) (sym c.self.view_is) c.requires.turn
    ∙ ap (λ k. Some (OfSite k c.args.event)) (sym c.from.ensures) in (
      c.self.invariant.0,
      moves-at g.C.BootCell.held w.setup w.opening.items w.sites.items w.nodes.items w.clients.items w.post.items w.trail.items _ _ _ _ _ _
          (site-down g.C.BootCell.held w.setup w.opening.items w.sites.items w.nodes.items w.clients.items w.post.items w.trail.items
          c.self.invariant.1 c.args.step
          c.from.result c.args.event c.index_mut-site.result.now c.go_down.new.site w.post.items c.push.new.self.items c.boot-held.result is
          there c.boot-held.ensures
          (c.in-Ok-go_down.ensures.down w.setup c.from.result) refl
          (c.push.ensures ∙ ap (λ t. t ++ Falls c.args.step c.boot-held.result ∷ []) c.reserve.ensures.items)),
    )

pub returns-clause-falls : goal.returns-clause-falls
returns-clause-falls g c =
    let w = c.self.inside in
    let there =
    found w.sites.items c.args.site c.from.result c.index_mut-site.result.now c.from.ensures
    (subst (λ v. c.args.site < length v.sites) (sym c.self.view_is) c.requires.there) c.index_mut-site.ensures.value in
    let is =
    subst (λ v. turn v.post c.args.step ≡ Some (OfSite c.args.site c.args.event)) (sym c.self.view_is) c.requires.turn
    ∙ ap (λ k. Some (OfSite k c.args.event)) (sym c.from.ensures) in
    let old = world_of w.setup w.opening.items w.sites.items w.nodes.items w.clients.items w.post.items w.trail.items in
    let new =
    world_of w.setup w.opening.items (slice_set w.sites.items c.from.result c.go_down.new.site) w.nodes.items w.clients.items w.post.items
    c.push.new.self.items in
    subst (λ v. Moves g.C.BootCell.held v new (Falls c.args.step c.args.cell)) c.self.view_is
    (subst (λ k. Moves g.C.BootCell.held old new (Falls c.args.step k)) (search rules)
    (site-down g.C.BootCell.held w.setup w.opening.items w.sites.items w.nodes.items w.clients.items w.post.items w.trail.items c.self.invariant.1 c.args.step
    c.from.result c.args.event c.index_mut-site.result.now c.go_down.new.site w.post.items c.push.new.self.items c.boot-held.result is
    there c.boot-held.ensures
    (c.in-Ok-go_down.ensures.down w.setup c.from.result) refl
    (c.push.ensures ∙ ap (λ t. t ++ Falls c.args.step c.boot-held.result ∷ []) c.reserve.ensures.items)))

pub returns-clause-reliable : goal.returns-clause-reliable
returns-clause-reliable g c =
    let w = c.self.inside in
    let there =
    found w.sites.items c.args.site c.from.result c.index_mut-site.result.now c.from.ensures
    (subst (λ v. c.args.site < length v.sites) (sym c.self.view_is) c.requires.there) c.index_mut-site.ensures.value in
    let is =
    subst (λ v. turn v.post c.args.step ≡ Some (OfSite c.args.site c.args.event)) (sym c.self.view_is) c.requires.turn
    ∙ ap (λ k. Some (OfSite k c.args.event)) (sym c.from.ensures) in
    let old = world_of w.setup w.opening.items w.sites.items w.nodes.items w.clients.items w.post.items w.trail.items in
    let new =
    world_of w.setup w.opening.items (slice_set w.sites.items c.from.result c.go_down.new.site) w.nodes.items w.clients.items w.post.items
    c.push.new.self.items in
    subst (λ v. KeepsReliable g.C.BootCell v new (Ok (tt {0}))) c.self.view_is
    (fallen-reliable g.C.BootCell old new c.from.result c.index_mut-site.result.now c.go_down.new.site there refl c.go_down.result c.go_down.ensures.reliable)
