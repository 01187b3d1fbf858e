-- Whether an event comes out at a world's actor as it is recorded, by what the world does with its step.
use Rattle.std.proofs.Common.{◌≡◌, ◌≢◌, ◌↔◌, ◌⊎◌, ℕ, ◌+◌, ◌-◌, ◌<◌, ◌≤◌, Bool, false, List, [], slice_get, Option, Some, None, Ok, Err, refl, sym, ap, subst, ◌∙◌, arith, true≢false}
use Rattle.std.specs.Prelude.{Result, IsTrue, IfOk}
use Rattle.pvp_types.specs.declared.command.Cmd.{Cmd}
use Rattle.pvp_types.specs.declared.command.Reply.{Reply as Answer}
use Rattle.pvp_types.specs.declared.command.PayOrder.{PayOrder as PaymentOrder}
use Rattle.pvp_types.specs.declared.step.Step.{Step}
use Rattle.pvp_types.specs.Setup.{faults}
use Rattle.vr_types.specs.declared.cell.Boot.{Boot}
use Rattle.vr_types.specs.declared.cell.MemCell.{MemCell}
use Rattle.vr_types.specs.declared.event.EventOf.{EventOf}
use Rattle.vr_types.specs.declared.event.SiteFault.{SiteFault}
use Rattle.vr_types.specs.declared.event.SiteFault.TheVariants as site_fault
use Rattle.vr_types.specs.declared.event.Why.{Why}
use Rattle.vr_types.specs.MemoryCell.{held_by}
use Rattle.vr_types.specs.Handling.{refusal}
use Rattle.vr_types.specs.Site.{Site}
use Rattle.vr_site.specs.Replica.{site_shown}
use Rattle.rtgs_node.specs.declared.event.NodeEvent.{NodeEvent}
use Rattle.rtgs_node.specs.declared.event.NodeEvent.TheVariants as node_event
use Rattle.rtgs_node.specs.declared.fault.NodeFault.{NodeFault}
use Rattle.rtgs_node.specs.declared.fault.NodeFault.TheVariants as node_fault
use Rattle.rtgs_node.specs.Node.{Envelope}
use Rattle.headline.specs.declared.step.ClientEvent.{ClientEvent}
use Rattle.headline.specs.declared.step.ClientEvent.TheVariants as client_event
use Rattle.headline.specs.declared.step.ClientFault.{ClientFault}
use Rattle.headline.specs.declared.step.ClientFault.TheVariants as client_fault
use Rattle.headline.specs.Legal.{LegalList}
use Rattle.pvp_world.specs.World.{ShownWorld, ShowsBank, OfTrail}
use Rattle.pvp_world.specs.Steps.{told_as}
use Rattle.pvp_world.specs.Refusals.{bank_refuses}
use Rattle.pvp_world.specs.declared.fault.WorldFault.TheVariants as fault
use Rattle.pvp_rooms.specs.declared.site.CameOf.TheVariants.{Did, Refused, Fell}
use Rattle.pvp_parties.specs.Alike.{Site as Replica}
use Rattle.pvp_parties.specs.declared.party.PartyEvent.TheVariants as party_event
use Rattle.pvp_audit.specs.Moves as moves
use Rattle.pvp_audit.specs.Retold.{Names}
use Rattle.pvp_audit.specs.Coming.{StepsSo, FallsSo, SiteComes, NodeComes, ClientComes}
use Rattle.pvp_audit.proofs.Taking.{refused_not_did, refused_not_fell, site_did, site_does, site_fell, site_falls, refusal_shown, node_elsewhere, elsewhere_comes, comes_elsewhere, node_did, node_does, node_refused, node_refuses_so, client_did, client_does, client_refused, client_refuses_so}

pub ok_map : {X E : Type 0} (P Q : X → Type 0) (r : Result X E) → ((x : X) → P x → Q x) → IfOk r P → IfOk r Q
ok_map P Q (Ok x) so is = so x is
ok_map P Q (Err e) so is = tt

module _ (world : ShownWorld MemCell) (shows : OfTrail world (λ list. ShowsBank held_by world list.bank)) where
  named_there : (list : LegalList world.setup (faults world.setup)) → list.cells ≡ world.opening → list.moves ≡ world.trail → (number : ℕ) (e : _)
      → Names world.post number e → Names list.bank.post number e
  named_there list cells moves number e named = subst (λ (post : List Envelope). Names post number e) (shows list cells moves).post named

  -- A SITE

  module _ (actor : ℕ) (high : 200 ≤ actor) (e : EventOf Cmd Answer PaymentOrder) (told : Option SiteFault)
      (says : (v : Replica) → slice_get world.sites (actor - 200) ≡ Some v → told ≡ refusal v.f v.me (site_shown held_by v []) e) where
    refusal_is : (list : LegalList world.setup (faults world.setup)) → list.cells ≡ world.opening → list.moves ≡ world.trail → (y : Site Cmd)
        → slice_get list.bank.sites (actor - 200) ≡ Some y
        → refusal {R = Answer} {O = PaymentOrder} (faults world.setup) (actor - 200) y e ≡ told
    refusal_is list cells moves y is = sym (refusal_shown world.setup list (actor - 200) y is e world (shows list cells moves) refl told says)

    pub site_refused : (why : SiteFault) (can : Bool) → (IsTrue can ↔ (told ≡ Some why)) → SiteComes world (actor - 200) e (Refused why) can
    site_refused why can so list cells moves y is =
        (λ t. refusal_is list cells moves y is ∙ so.0 t, λ come. so.1 (sym (refusal_is list cells moves y is) ∙ come))

    pub site_not_did : (why : SiteFault) → told ≡ Some why → (sent : List Envelope) (dropped : Option Why)
        → SiteComes world (actor - 200) e (Did sent dropped) false
    site_not_did why refused sent dropped list cells moves y is = (
      λ t. absurd (true≢false (sym t)),
      λ come.
          absurd (refused_not_did world.setup list (actor - 200) y is e why (refusal_is list cells moves y is ∙ refused) sent dropped come),
    )

    pub site_not_fell : (why : SiteFault) → told ≡ Some why → (for : SiteFault) (cell : Boot) → SiteComes world (actor - 200) e (Fell for cell) false
    site_not_fell why refused for cell list cells moves y is = (
      λ t. absurd (true≢false (sym t)),
      λ come.
          absurd (refused_not_fell world.setup list (actor - 200) y is e why (refusal_is list cells moves y is ∙ refused) for cell come),
    )

    module _ (free : told ≡ None) (number : ℕ) (named : Names world.post number (party_event.OfSite e)) (step : Step)
        (step_is : step ≡ moves.site_step actor e number) (can : Bool) where
      step_at : step ≡ moves.site_step (200 + (actor - 200)) e number
      step_at = step_is ∙ ap (λ (n : ℕ). moves.site_step n e number) (let h = high in omega (arith, h))

      pub site_did_so : (sent : List Envelope) (dropped : Option Why) → OfTrail world (λ list. IsTrue can ↔ StepsSo list step sent dropped)
          → SiteComes world (actor - 200) e (Did sent dropped) can
      site_did_so sent dropped so list cells moves y is =
          let there = named_there list cells moves number (party_event.OfSite e) named in
          let unrefused = refusal_is list cells moves y is ∙ free in
          let both = subst (λ (s : Step). IsTrue can ↔ StepsSo list s sent dropped) step_at (so list cells moves) in (
            λ t. site_did world.setup list (actor - 200) y is e number there unrefused sent dropped (both.0 t),
            λ come. both.1 (site_does world.setup list (actor - 200) y is e number there unrefused sent dropped come),
          )

      pub site_fell_so : (for : SiteFault) → (for ≡ site_fault.NoMemory) ⊎ (for ≡ site_fault.CellFault) → (cell : Boot)
          → OfTrail world (λ list. IsTrue can ↔ FallsSo list step cell) → SiteComes world (actor - 200) e (Fell for cell) can
      site_fell_so for of cell so list cells moves y is =
          let there = named_there list cells moves number (party_event.OfSite e) named in
          let unrefused = refusal_is list cells moves y is ∙ free in
          let both = subst (λ (s : Step). IsTrue can ↔ FallsSo list s cell) step_at (so list cells moves) in (
            λ t. (site_fell world.setup list (actor - 200) y is e number there unrefused cell (both.0 t), of),
            λ come. both.1 (site_falls world.setup list (actor - 200) y is e number there unrefused cell come.0),
          )

  -- A NODE

  module _ (actor : ℕ) (high : 101 ≤ actor) (low : actor < 200) (e : NodeEvent) where
    actor_is : 101 + (actor - 101) ≡ actor
    actor_is = let h = high in omega (arith, h)

    pub node_not_mine : ¬ ((letter : Envelope) → e ≡ node_event.Takes letter → letter.to ≡ actor) → (told : Result (List Envelope) NodeFault) (can : Bool)
        → (IsTrue can ↔ ((told ≡ Err node_fault.NoMemory) ⊎ (told ≡ Err node_fault.NotMine))) → NodeComes world (actor - 101) e told can
    node_not_mine off told can so list cells moves y is =
        let refused = node_elsewhere world.setup list (actor - 101) y is e (λ mine. off (λ letter same. mine letter same ∙ actor_is)) in (
          λ t. elsewhere_comes world.setup list (actor - 101) y is e refused told (so.0 t),
          λ come. so.1 (comes_elsewhere world.setup list (actor - 101) y is e refused told come),
        )

    module _ (mine : (letter : Envelope) → e ≡ node_event.Takes letter → letter.to ≡ actor) (number : ℕ)
        (named : Names world.post number (party_event.OfNode e)) (step : Step) (step_is : step ≡ moves.node_step actor e number) (can : Bool) where
      node_step_at : step ≡ moves.node_step (101 + (actor - 101)) e number
      node_step_at = step_is ∙ ap (λ (n : ℕ). moves.node_step n e number) (sym actor_is)

      mine_at : (letter : Envelope) → e ≡ node_event.Takes letter → letter.to ≡ 101 + (actor - 101)
      mine_at letter same = mine letter same ∙ sym actor_is

      few : actor - 101 < 99
      few = let h = high in let l = low in omega (arith, h, l)

      pub node_did_so : (sent : List Envelope) → OfTrail world (λ list. IsTrue can ↔ StepsSo list step sent None)
          → NodeComes world (actor - 101) e (Ok sent) can
      node_did_so sent so list cells moves y is =
          let there = named_there list cells moves number (party_event.OfNode e) named in
          let both = subst (λ (s : Step). IsTrue can ↔ StepsSo list s sent None) node_step_at (so list cells moves) in (
            λ t. node_did world.setup list (actor - 101) y is e number there few mine_at sent (both.0 t),
            λ come. both.1 (node_does world.setup list (actor - 101) y is e number there few mine_at sent come),
          )

      pub node_refused_so : (why : NodeFault) → why ≢ node_fault.NoMemory
          → OfTrail world (λ list. IsTrue can ↔ (bank_refuses world.setup (faults world.setup) list.bank step ≡ Some (fault.Node why)))
          → NodeComes world (actor - 101) e (Err why) can
      node_refused_so why off so list cells moves y is =
          let there = named_there list cells moves number (party_event.OfNode e) named in
          let both =
          subst (λ (s : Step). IsTrue can ↔ (bank_refuses world.setup (faults world.setup) list.bank s ≡ Some (fault.Node why))) node_step_at
          (so list cells moves) in (
            λ t. node_refused world.setup list (actor - 101) y is e number there few mine_at why (both.0 t),
            λ come. both.1 (node_refuses_so world.setup list (actor - 101) y is e number there few mine_at why off come),
          )

  -- A CLIENT

  module _ (actor : ℕ) (low : actor < 101) (e : ClientEvent) where
    module _ (mine : (letter : Envelope) → e ≡ client_event.Takes letter → letter.to ≡ actor) (number : ℕ)
        (named : Names world.post number (party_event.OfClient e)) (step : Step) (step_is : step ≡ moves.client_step actor e number) (can : Bool) where
      pub client_did_so : (sent : List Envelope) → OfTrail world (λ list. IsTrue can ↔ StepsSo list step sent None) → ClientComes world actor e (Ok sent) can
      client_did_so sent so list cells moves y is =
          let there = named_there list cells moves number (party_event.OfClient e) named in
          let both = subst (λ (s : Step). IsTrue can ↔ StepsSo list s sent None) step_is (so list cells moves) in (
            λ t. client_did world.setup list actor y is e number there low mine sent (both.0 t),
            λ come. both.1 (client_does world.setup list actor y is e number there low mine sent come),
          )

      pub client_refused_so : (why : ClientFault) → why ≢ client_fault.NoMemory
          → OfTrail world (λ list. IsTrue can ↔ (bank_refuses world.setup (faults world.setup) list.bank step ≡ Some (told_as why)))
          → ClientComes world actor e (Err why) can
      client_refused_so why off so list cells moves y is =
          let there = named_there list cells moves number (party_event.OfClient e) named in
          let both =
          subst (λ (s : Step). IsTrue can ↔ (bank_refuses world.setup (faults world.setup) list.bank s ≡ Some (told_as why))) step_is
          (so list cells moves) in (
            λ t. client_refused world.setup list actor y is e number there low mine why (both.0 t),
            λ come. both.1 (client_refuses_so world.setup list actor y is e number there low mine why off come),
          )
