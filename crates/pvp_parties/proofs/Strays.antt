-- Events of the actor's own kind, which takes its step, and of another kind, at which nothing is done.
use Rattle.std.proofs.Common.{◌≡◌, refl, sym, subst}
use Rattle.vr_types.specs.declared.cell.BootCell.{Ghosts as Cell}
use Rattle.rtgs_node.specs.declared.event.NodeEvent.{NodeEvent}
use Rattle.rtgs_node.specs.Shown.{ShownNode}
use Rattle.headline.specs.declared.step.ClientEvent.{ClientEvent}
use Rattle.pvp_world.specs.Client.{ShownClient}
use Rattle.pvp_rooms.specs.Histories.{Takes}
use Rattle.pvp_rooms.specs.Nodes as nodes
use Rattle.pvp_rooms.specs.Clients as clients
use Rattle.pvp_parties.specs.declared.party.PartyOf.{PartyOf}
use Rattle.pvp_parties.specs.declared.party.PartyOf.TheVariants.{Site, Node, Client}
use Rattle.pvp_parties.specs.declared.party.PartyEvent.{PartyEvent}
use Rattle.pvp_parties.specs.declared.party.PartyEvent.TheVariants.{OfSite, OfNode, OfClient}
use Rattle.pvp_parties.specs.declared.party.PartyOutcome.{PartyOutcome}
use Rattle.pvp_parties.specs.declared.party.PartyOutcome.TheVariants.{OfNode as NodeTold, OfClient as ClientTold, Stray}
use Rattle.pvp_parties.specs.Made.{Made}
use Rattle.pvp_parties.specs.Parties.{PartyState, AtSite, AtNode, AtClient, Shows, Comes, after}

module _ {B : Type 0} (c : Cell B) where
  at_site : (p : _) (event : PartyEvent) → ((e : _) → event ≡ OfSite e → ⊥) → (x : PartyState) → Shows c (Site p) x
      → Comes x event Stray × Shows c (Site p) (after x event Stray)
  at_site p (OfSite e) other x shows = absurd (other e refl)
  at_site p (OfNode e) other (AtSite y) shows = (tt, shows)
  at_site p (OfNode e) other (AtNode y) shows = absurd shows
  at_site p (OfNode e) other (AtClient y) shows = absurd shows
  at_site p (OfClient e) other (AtSite y) shows = (tt, shows)
  at_site p (OfClient e) other (AtNode y) shows = absurd shows
  at_site p (OfClient e) other (AtClient y) shows = absurd shows

  pub stray_at_site : (v : PartyOf B) (p : _) (event : PartyEvent) (told : PartyOutcome) → v ≡ Site p → ((e : _) → event ≡ OfSite e → ⊥) → told ≡ Stray
      → (x : PartyState) → Shows c v x → Comes x event told × Shows c (Site p) (after x event told)
  stray_at_site v p event told is other stray x shows =
      subst (λ o. Comes x event o × Shows c (Site p) (after x event o)) (sym stray) (at_site p event other x (subst (λ w. Shows c w x) is shows))

  at_node : (p : _) (event : PartyEvent) → ((e : _) → event ≡ OfNode e → ⊥) → (x : PartyState) → Shows c (Node p) x
      → Comes x event Stray × Shows c (Node p) (after x event Stray)
  at_node p (OfNode e) other x shows = absurd (other e refl)
  at_node p (OfSite e) other (AtSite y) shows = absurd shows
  at_node p (OfSite e) other (AtNode y) shows = (tt, shows)
  at_node p (OfSite e) other (AtClient y) shows = absurd shows
  at_node p (OfClient e) other (AtSite y) shows = absurd shows
  at_node p (OfClient e) other (AtNode y) shows = (tt, shows)
  at_node p (OfClient e) other (AtClient y) shows = absurd shows

  pub stray_at_node : (v : PartyOf B) (p : _) (event : PartyEvent) (told : PartyOutcome) → v ≡ Node p → ((e : _) → event ≡ OfNode e → ⊥) → told ≡ Stray
      → (x : PartyState) → Shows c v x → Comes x event told × Shows c (Node p) (after x event told)
  stray_at_node v p event told is other stray x shows =
      subst (λ o. Comes x event o × Shows c (Node p) (after x event o)) (sym stray) (at_node p event other x (subst (λ w. Shows c w x) is shows))

  at_client : (p : _) (event : PartyEvent) → ((e : _) → event ≡ OfClient e → ⊥) → (x : PartyState) → Shows c (Client p) x
      → Comes x event Stray × Shows c (Client p) (after x event Stray)
  at_client p (OfClient e) other x shows = absurd (other e refl)
  at_client p (OfSite e) other (AtSite y) shows = absurd shows
  at_client p (OfSite e) other (AtNode y) shows = absurd shows
  at_client p (OfSite e) other (AtClient y) shows = (tt, shows)
  at_client p (OfNode e) other (AtSite y) shows = absurd shows
  at_client p (OfNode e) other (AtNode y) shows = absurd shows
  at_client p (OfNode e) other (AtClient y) shows = (tt, shows)

  pub stray_at_client : (v : PartyOf B) (p : _) (event : PartyEvent) (told : PartyOutcome) → v ≡ Client p → ((e : _) → event ≡ OfClient e → ⊥) → told ≡ Stray
      → (x : PartyState) → Shows c v x → Comes x event told × Shows c (Client p) (after x event told)
  stray_at_client v p event told is other stray x shows =
      subst (λ o. Comes x event o × Shows c (Client p) (after x event o)) (sym stray) (at_client p event other x (subst (λ w. Shows c w x) is shows))

  node_at : (p q : Made ShownNode) (e : NodeEvent) (told : _) → ((y : ShownNode) → y ≡ p.now → Takes nodes.Comes nodes.after y e told (λ z. z ≡ q.now))
      → (x : PartyState) → Shows c (Node p) x → Comes x (OfNode e) (NodeTold told) × Shows c (Node q) (after x (OfNode e) (NodeTold told))
  node_at p q e told step (AtSite y) shows = absurd shows
  node_at p q e told step (AtNode y) shows = step y shows
  node_at p q e told step (AtClient y) shows = absurd shows

  pub step_at_node : (v : PartyOf B) (p q : Made ShownNode) (event : PartyEvent) (e : NodeEvent) (out : PartyOutcome) (told : _) → v ≡ Node p → event ≡ OfNode e
      → out ≡ NodeTold told → ((y : ShownNode) → y ≡ p.now → Takes nodes.Comes nodes.after y e told (λ z. z ≡ q.now))
      → (x : PartyState) → Shows c v x → Comes x event out × Shows c (Node q) (after x event out)
  step_at_node v p q event e out told is of came step x shows =
      subst (λ o. Comes x event o × Shows c (Node q) (after x event o)) (sym came)
      (subst (λ i. Comes x i (NodeTold told) × Shows c (Node q) (after x i (NodeTold told))) (sym of)
      (node_at p q e told step x (subst (λ w. Shows c w x) is shows)))

  client_at : (p q : Made ShownClient) (e : ClientEvent) (told : _)
      → ((y : ShownClient) → y ≡ p.now → Takes clients.Comes clients.after y e told (λ z. z ≡ q.now))
      → (x : PartyState) → Shows c (Client p) x → Comes x (OfClient e) (ClientTold told) × Shows c (Client q) (after x (OfClient e) (ClientTold told))
  client_at p q e told step (AtSite y) shows = absurd shows
  client_at p q e told step (AtNode y) shows = absurd shows
  client_at p q e told step (AtClient y) shows = step y shows

  pub step_at_client : (v : PartyOf B) (p q : Made ShownClient) (event : PartyEvent) (e : ClientEvent) (out : PartyOutcome) (told : _) → v ≡ Client p
      → event ≡ OfClient e → out ≡ ClientTold told → ((y : ShownClient) → y ≡ p.now → Takes clients.Comes clients.after y e told (λ z. z ≡ q.now))
      → (x : PartyState) → Shows c v x → Comes x event out × Shows c (Client q) (after x event out)
  step_at_client v p q event e out told is of came step x shows =
      subst (λ o. Comes x event o × Shows c (Client q) (after x event o)) (sym came)
      (subst (λ i. Comes x i (ClientTold told) × Shows c (Client q) (after x i (ClientTold told))) (sym of)
      (client_at p q e told step x (subst (λ w. Shows c w x) is shows)))
