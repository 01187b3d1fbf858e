use Rattle.std.proofs.Common.{ℕ, ◌≡◌, ◌<◌, ◌≤◌, ◌+◌, ◌∷◌, ◌++◌, [], Some, None, length, slice_set, sym, ap, ◌∙◌, subst, arith, vec_len, vec_capacity}
use Rattle.headline.specs.declared.step.Move.TheVariants.{Takes}
use Rattle.headline.specs.declared.step.Turn.TheVariants.{OfClient}
use Rattle.headline.specs.Bank.{turn}
use Rattle.pvp_world.specs.World.{world_of, IsAt}
use Rattle.pvp_world.specs.Steps.{IsReport, IsTaken, IsRefused, told_as}
use Rattle.pvp_world.proofs.Moving.{found, moves-at, client-taken, client-stays, client-refuses, client-fits}
use Rattle.pvp_world.proofs.world.World.at_client.Goals as goal

fits : (len cap sent : ℕ) → len + 7 ≤ cap → sent ≤ 7 → len + sent ≤ cap
fits len cap sent room few = omega arith

pub put_in_room-requires : goal.put_in_room-requires
put_in_room-requires g c =
    let w = c.self.inside in
    let there =
    found w.clients.items c.args.client c.from.result c.index_mut.result.now c.from.ensures
    (subst (λ v. c.args.client < length v.clients) (sym c.self.view_is) c.requires.there) c.index_mut.ensures.value in
    let is =
    subst (λ v. turn v.post c.args.step ≡ Some (OfClient c.args.client c.args.event)) (sym c.self.view_is) c.requires.turn
    ∙ ap (λ k. Some (OfClient k c.args.event)) (sym c.from.ensures) in
    fits (vec_len c.make_room.new.post) (vec_capacity c.make_room.new.post) (length c.in-Ok-handle.sent.items) c.in-Ok.ensures.post_room
    (client-fits g.C.BootCell.held w.setup w.opening.items w.sites.items w.nodes.items w.clients.items w.post.items w.trail.items c.self.invariant.1 c.args.step
    c.self.invariant.0 c.from.result c.args.event c.index_mut.result.now c.handle.new.self c.in-Ok-handle.sent.items there c.in-Ok-handle.ensures.taken)

pub invariant_of-self-in-Ok-handle : goal.invariant_of-self-in-Ok-handle
invariant_of-self-in-Ok-handle g c =
    let w = c.self.inside in
    let there =
    found w.clients.items c.args.client c.from.result c.index_mut.result.now c.from.ensures
    (subst (λ v. c.args.client < length v.clients) (sym c.self.view_is) c.requires.there) c.index_mut.ensures.value in
    let is =
    subst (λ v. turn v.post c.args.step ≡ Some (OfClient c.args.client c.args.event)) (sym c.self.view_is) c.requires.turn
    ∙ ap (λ k. Some (OfClient k c.args.event)) (sym c.from.ensures) in (
      c.self.invariant.0,
      moves-at g.C.BootCell.held w.setup w.opening.items w.sites.items w.nodes.items w.clients.items w.post.items w.trail.items _ _ _ _ _ (Takes c.args.step)
          (client-taken g.C.BootCell.held w.setup w.opening.items w.sites.items w.nodes.items w.clients.items w.post.items w.trail.items
          c.self.invariant.1 c.args.step
          c.from.result c.args.event c.index_mut.result.now c.handle.new.self c.in-Ok-handle.sent.items c.put_in_room.new.post.items c.push.new.self.items
          c.put_in_room.result is there
          c.in-Ok-handle.ensures.taken (c.put_in_room.ensures.posted ∙ ap (λ p. p ++ c.in-Ok-handle.sent.items) c.make_room.ensures.envelopes)
          (subst (λ p. IsReport p c.put_in_room.new.post.items None c.put_in_room.result) c.make_room.ensures.envelopes c.put_in_room.ensures.report)
          (c.push.ensures ∙ ap (λ t. t ++ Takes c.args.step ∷ []) c.make_room.ensures.moves)).moves,
    )

pub returns-in-Ok-handle-clause-applies : goal.returns-in-Ok-handle-clause-applies
returns-in-Ok-handle-clause-applies g c =
    let w = c.self.inside in
    let there =
    found w.clients.items c.args.client c.from.result c.index_mut.result.now c.from.ensures
    (subst (λ v. c.args.client < length v.clients) (sym c.self.view_is) c.requires.there) c.index_mut.ensures.value in
    let is =
    subst (λ v. turn v.post c.args.step ≡ Some (OfClient c.args.client c.args.event)) (sym c.self.view_is) c.requires.turn
    ∙ ap (λ k. Some (OfClient k c.args.event)) (sym c.from.ensures) in
    subst (λ v. IsTaken g.C.BootCell.held v (world_of w.setup w.opening.items w.sites.items w.nodes.items
    (slice_set w.clients.items c.from.result c.handle.new.self) c.put_in_room.new.post.items c.push.new.self.items) c.args.step c.put_in_room.result)
    c.self.view_is
    (client-taken g.C.BootCell.held w.setup w.opening.items w.sites.items w.nodes.items w.clients.items w.post.items w.trail.items
    c.self.invariant.1 c.args.step
    c.from.result c.args.event c.index_mut.result.now c.handle.new.self c.in-Ok-handle.sent.items c.put_in_room.new.post.items c.push.new.self.items
    c.put_in_room.result is there
    c.in-Ok-handle.ensures.taken (c.put_in_room.ensures.posted ∙ ap (λ p. p ++ c.in-Ok-handle.sent.items) c.make_room.ensures.envelopes)
    (subst (λ p. IsReport p c.put_in_room.new.post.items None c.put_in_room.result) c.make_room.ensures.envelopes c.put_in_room.ensures.report)
    (c.push.ensures ∙ ap (λ t. t ++ Takes c.args.step ∷ []) c.make_room.ensures.moves))

pub invariant_of-self-in-Err : goal.invariant_of-self-in-Err
invariant_of-self-in-Err g c =
    let w = c.self.inside in
    let there =
    found w.clients.items c.args.client c.from.result c.index_mut.result.now c.from.ensures
    (subst (λ v. c.args.client < length v.clients) (sym c.self.view_is) c.requires.there) c.index_mut.ensures.value in
    let is =
    subst (λ v. turn v.post c.args.step ≡ Some (OfClient c.args.client c.args.event)) (sym c.self.view_is) c.requires.turn
    ∙ ap (λ k. Some (OfClient k c.args.event)) (sym c.from.ensures) in (
      c.self.invariant.0,
      subst (λ v. IsAt g.C.BootCell.held v)
          (sym (client-stays g.C.BootCell.held w.setup w.opening.items w.sites.items w.nodes.items w.clients.items w.post.items w.trail.items
          c.self.invariant.1 c.args.step
          c.from.result c.args.event c.index_mut.result.now c.handle.new.self c.make_room.new.post.items c.make_room.new.trail.items c.in-Err.fault there
          c.in-Err.ensures.refused c.make_room.ensures.envelopes c.make_room.ensures.moves)) c.self.invariant.1,
    )

pub returns-in-Err-clause-applies : goal.returns-in-Err-clause-applies
returns-in-Err-clause-applies g c =
    let w = c.self.inside in
    let there =
    found w.clients.items c.args.client c.from.result c.index_mut.result.now c.from.ensures
    (subst (λ v. c.args.client < length v.clients) (sym c.self.view_is) c.requires.there) c.index_mut.ensures.value in
    let is =
    subst (λ v. turn v.post c.args.step ≡ Some (OfClient c.args.client c.args.event)) (sym c.self.view_is) c.requires.turn
    ∙ ap (λ k. Some (OfClient k c.args.event)) (sym c.from.ensures) in
    subst (λ told. IsRefused g.C.BootCell.held c.args.self.now
    (world_of w.setup w.opening.items w.sites.items w.nodes.items (slice_set w.clients.items c.from.result c.handle.new.self) c.make_room.new.post.items
    c.make_room.new.trail.items) c.args.step told) (sym c.of_client.ensures)
    (subst (λ v. IsRefused g.C.BootCell.held v (world_of w.setup w.opening.items w.sites.items w.nodes.items
    (slice_set w.clients.items c.from.result c.handle.new.self) c.make_room.new.post.items c.make_room.new.trail.items) c.args.step
    (told_as c.in-Err.fault)) c.self.view_is
    (client-refuses g.C.BootCell.held w.setup w.opening.items w.sites.items w.nodes.items w.clients.items w.post.items w.trail.items
    c.self.invariant.1 c.args.step
    c.from.result c.args.event c.index_mut.result.now c.handle.new.self c.make_room.new.post.items c.make_room.new.trail.items c.in-Err.fault is there
    c.in-Err.ensures.refused c.make_room.ensures.envelopes c.make_room.ensures.moves))
