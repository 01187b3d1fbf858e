-- An event comes out at an actor of a bank as it is recorded, exactly where the bank takes its step so, or falls, or refuses it.
use Rattle.std.proofs.Common.{◌≡◌, ◌≢◌, ◌⊎◌, inl, inr, ℕ, ◌+◌, ◌<◌, ◌==◌, Bool, true, false, not, if◌then◌else◌, List, [], ◌++◌, slice_get, slice_set, Option, Some, None, option_map, Ok, Err, refl, sym, ap, subst, ◌∙◌, true≢false}
use Rattle.std.specs.Prelude.{Result}
use Rattle.std.proofs.lemmas.Bool.{eqb-true}
use Rattle.std.proofs.lemmas.List.{append_cancel_left}
use Rattle.pvp_types.specs.declared.setup.Setup.{Setup}
use Rattle.pvp_types.specs.declared.command.Cmd.{Cmd}
use Rattle.pvp_types.specs.declared.command.Reply.{Reply as Answer}
use Rattle.pvp_types.specs.declared.command.PayOrder.{PayOrder as PaymentOrder}
use Rattle.pvp_types.specs.declared.step.Step.{Step}
use Rattle.pvp_types.specs.Setup.{faults}
use Rattle.vr_types.specs.declared.cell.Boot.{Boot}
use Rattle.vr_types.specs.declared.cell.MemCell.{MemCell}
use Rattle.vr_types.specs.declared.event.EventOf.{EventOf}
use Rattle.vr_types.specs.declared.event.SiteFault.{SiteFault}
use Rattle.vr_types.specs.declared.event.Status.TheVariants.{Down}
use Rattle.vr_types.specs.declared.event.Why.{Why}
use Rattle.vr_types.specs.MemoryCell.{held_by}
use Rattle.vr_types.specs.Handling.{refusal, is_refused, dropped_as, IsFall, envelopes}
use Rattle.vr_types.specs.Site.{Site, over}
use Rattle.vr_types.specs.Step.{Step as SiteStep, Ending, Handled, Dropped, Refused as IsRefused}
use Rattle.vr_log.specs.Outcomes.{ended}
use Rattle.vr_site.specs.Replica.{site_shown}
use Rattle.pvp_book.specs.Ledger.{opening, node_of}
use Rattle.rtgs_node.specs.declared.event.NodeEvent.{NodeEvent}
use Rattle.rtgs_node.specs.declared.event.NodeEvent.TheVariants as node_event
use Rattle.rtgs_node.specs.declared.fault.NodeFault.{NodeFault}
use Rattle.rtgs_node.specs.declared.fault.NodeFault.TheVariants as node_fault
use Rattle.rtgs_node.specs.Node.{Envelope, Node, refuses, on_message, node_step}
use Rattle.rtgs_node.specs.Shown as node
use Rattle.rtgs_node.specs.Shown.{ShownNode}
use Rattle.headline.specs.declared.step.ClientEvent.{ClientEvent}
use Rattle.headline.specs.declared.step.ClientEvent.TheVariants as client_event
use Rattle.headline.specs.declared.step.ClientFault.{ClientFault}
use Rattle.headline.specs.declared.step.ClientFault.TheVariants as client_fault
use Rattle.headline.specs.declared.step.Turn.{Turn}
use Rattle.headline.specs.declared.step.Turn.TheVariants.{OfSite, OfNode, OfClient}
use Rattle.headline.specs.Machine.{book}
use Rattle.headline.specs.Client.{Client, client_step}
use Rattle.headline.specs.Bank.{Bank, turn, with_site, with_node, with_client}
use Rattle.headline.specs.Legal.{Acts, FallsBy, LegalList}
use Rattle.headline.proofs.Basics.{none-some, some-same}
use Rattle.pvp_world.specs.World.{ShownWorld, ShowsBank}
use Rattle.pvp_world.specs.Steps.{dropped_in, told_as}
use Rattle.pvp_world.specs.Refusals.{turn_refuses, bank_refuses, node_refuses, client_refuses}
use Rattle.pvp_world.specs.declared.fault.WorldFault.TheVariants as fault
use Rattle.pvp_world.proofs.Refused.{within}
use Rattle.pvp_world.specs.Client.{ShownClient}
use Rattle.pvp_rooms.specs.declared.site.CameOf.TheVariants.{Did, Fell}
use Rattle.pvp_rooms.specs.Sites as sites
use Rattle.pvp_rooms.specs.Nodes as nodes
use Rattle.pvp_rooms.specs.Clients as clients
use Rattle.pvp_rooms.proofs.SiteSteps.{ended_allowed}
use Rattle.pvp_parties.specs.Alike.{Site as Replica}
use Rattle.pvp_parties.specs.declared.party.PartyEvent.TheVariants as party_event
use Rattle.pvp_audit.specs.Moves as moves
use Rattle.pvp_audit.specs.Retold.{Names}
use Rattle.pvp_audit.specs.Coming.{StepsSo, FallsSo, site_at, node_at, client_at}
use Rattle.pvp_audit.proofs.Agrees.{allowed_free, site_turn, node_turn, client_turn}

-- how an event ended that was not refused says why it was dropped
ended_as : (e : Ending) → is_refused e ≡ false → (why : Option Why) → dropped_as e ≡ why → e ≡ ended why
ended_as Handled free why is = ap ended is
ended_as (Dropped w) free why is = ap ended is
ended_as (IsRefused w) free why is = absurd (true≢false free)

dropped_of : (why : Option Why) → dropped_as (ended why) ≡ why
dropped_of None = refl
dropped_of (Some w) = refl

-- a fault of an actor as a world tells it
node_told : (k : Option NodeFault) (why : NodeFault) → option_map (λ (w : NodeFault). fault.Node w) k ≡ Some (fault.Node why) → k ≡ Some why
node_told None why is = cc
node_told (Some w) why is = cc

client_told : (k : Option ClientFault) (why : ClientFault) → option_map told_as k ≡ Some (told_as why) → k ≡ Some why
client_told None why is = cc
client_told (Some client_fault.Outstanding) client_fault.Outstanding is = refl
client_told (Some client_fault.Outstanding) client_fault.Spent is = cc
client_told (Some client_fault.Outstanding) client_fault.NoMemory is = cc
client_told (Some client_fault.Spent) client_fault.Outstanding is = cc
client_told (Some client_fault.Spent) client_fault.Spent is = refl
client_told (Some client_fault.Spent) client_fault.NoMemory is = cc
client_told (Some client_fault.NoMemory) client_fault.Outstanding is = cc
client_told (Some client_fault.NoMemory) client_fault.Spent is = cc
client_told (Some client_fault.NoMemory) client_fault.NoMemory is = refl

module _ (setup : Setup) (list : LegalList setup (faults setup)) where
  abbrev f : ℕ
  f = faults setup

  abbrev bank : Bank
  bank = list.bank

  -- A SITE

  module _ (i : ℕ) (y : Site Cmd) (is : slice_get bank.sites i ≡ Some y) (e : EventOf Cmd Answer PaymentOrder) where
    abbrev site_step : SiteStep Cmd Answer PaymentOrder
    site_step = sites.step_in (site_at setup list.choose i y) e

    -- it refuses, so it neither takes its step nor falls
    pub refused_not_did : (why : SiteFault) → refusal {R = Answer} {O = PaymentOrder} f i y e ≡ Some why → (sent : List Envelope) (dropped : Option Why)
        → ¬ sites.Comes book (site_at setup list.choose i y) e (Did sent dropped)
    refused_not_did why refused sent dropped come =
        none-some why (sym (allowed_free setup list.choose i y e (ap is_refused come.ending ∙ ended_allowed dropped)) ∙ refused)

    pub refused_not_fell : (why : SiteFault) → refusal {R = Answer} {O = PaymentOrder} f i y e ≡ Some why → (for : SiteFault) (cell : Boot)
        → ¬ sites.Comes book (site_at setup list.choose i y) e (Fell for cell)
    refused_not_fell why refused for cell come = none-some why (sym (allowed_free setup list.choose i y e come.0.allowed) ∙ refused)

    module _ (number : ℕ) (named : Names bank.post number (party_event.OfSite e)) (free : refusal {R = Answer} {O = PaymentOrder} f i y e ≡ None) where
      abbrev step : Step
      step = moves.site_step (200 + i) e number

      has_turn : turn bank.post step ≡ Some (OfSite i e)
      has_turn = site_turn setup list.choose bank.post number i y e free named

      pub site_did : (sent : List Envelope) (dropped : Option Why) → StepsSo list step sent dropped
          → sites.Comes book (site_at setup list.choose i y) e (Did sent dropped)
      site_did sent dropped s =
          subst (λ (t : Turn). (a : Acts setup list.choose f bank t s.after) → dropped_in setup list.choose f bank t s.after a ≡ dropped
          → sites.Comes book (site_at setup list.choose i y) e (Did sent dropped))
          (some-same (OfSite i e) s.leads.turn_is (sym has_turn ∙ s.leads.has_turn))
          (λ a why. (
          let before : a.before ≡ y = some-same a.before y (sym a.is_there ∙ is) in
          let put : bank.post ++ sent ≡ bank.post ++ envelopes book (opening setup) i site_step =
          sym s.sends ∙ ap (λ (b : Bank). b.post) a.leads
          ∙ ap (λ (x : Site Cmd). bank.post ++ envelopes book (opening setup) i (sites.step_in (site_at setup list.choose i x) e)) before in
          let allowed : is_refused site_step.ending ≡ false =
          ap (λ (x : Site Cmd). is_refused (sites.step_in {R = Answer} {O = PaymentOrder} (site_at setup list.choose i x) e).ending)
          (sym before) ∙ a.allowed in
          let told : dropped_as site_step.ending ≡ dropped =
          ap (λ (x : Site Cmd). dropped_as (sites.step_in {R = Answer} {O = PaymentOrder} (site_at setup list.choose i x) e).ending) (sym before) ∙ why in
          record {
            sends = append_cancel_left bank.post sent (envelopes book (opening setup) i site_step) put;
            ending = ended_as site_step.ending allowed dropped told;
          }))
          s.leads.acts s.drops

      pub site_does : (sent : List Envelope) (dropped : Option Why) → sites.Comes book (site_at setup list.choose i y) e (Did sent dropped)
          → StepsSo list step sent dropped
      site_does sent dropped come = record {
        after = with_site bank i site_step.site (envelopes book (opening setup) i site_step);
        leads = record {
          turn_is = OfSite i e;
          has_turn = has_turn;
          acts = record { before = y; is_there = is; allowed = ap is_refused come.ending ∙ ended_allowed dropped; leads = refl };
        };
        sends = ap (λ (l : List Envelope). bank.post ++ l) (sym come.sends);
        drops = ap dropped_as come.ending ∙ dropped_of dropped;
      }

      pub site_fell : (cell : Boot) → FallsSo list step cell → IsFall y site_step (over cell Down)
      site_fell cell s =
          subst (λ (t : Turn). FallsBy setup list.choose f bank t cell s.0 → IsFall y site_step (over cell Down))
          (some-same (OfSite i e) s.1.turn_is (sym has_turn ∙ s.1.has_turn))
          (λ a. subst (λ (x : Site Cmd). IsFall x (sites.step_in (site_at setup list.choose i x) e) (over cell Down))
          (some-same a.before y (sym a.is_there ∙ is)) a.falls)
          s.1.falls

      pub site_falls : (cell : Boot) → IsFall y site_step (over cell Down) → FallsSo list step cell
      site_falls cell falls = (
        record bank { sites = slice_set bank.sites i (over cell Down) },
        record { turn_is = OfSite i e; has_turn = has_turn; falls = record { before = y; is_there = is; falls = falls; leads = refl } },
      )

    -- why it refuses, as its replica says it
    pub refusal_shown : (world : ShownWorld MemCell) → ShowsBank held_by world bank → world.setup ≡ setup → (told : Option SiteFault)
        → ((v : Replica) → slice_get world.sites i ≡ Some v → told ≡ refusal v.f v.me (site_shown held_by v []) e) → told ≡ refusal f i y e
    refusal_shown world shows made told says =
        let v = within bank.sites world.sites i y (sym shows.sites.count) is in
        let shown = shows.sites.each i v.0 y v.1 is in
        says v.0 v.1
        ∙ sym (ap (λ (x : Site Cmd). refusal {R = Answer} {O = PaymentOrder} f i x e) shown.site
        ∙ ap (λ (me : ℕ). refusal {R = Answer} {O = PaymentOrder} f me (site_shown held_by v.0 y.collected.acks) e) (sym shown.me)
        ∙ ap (λ (g : ℕ). refusal {R = Answer} {O = PaymentOrder} g v.0.me (site_shown held_by v.0 y.collected.acks) e) (ap faults (sym made) ∙ sym shown.f))

  -- A NODE

  module _ (c : ℕ) (y : Node) (is : slice_get bank.nodes c ≡ Some y) (e : NodeEvent) where
    abbrev at_node : ShownNode
    at_node = node_at setup list.choose c y

    -- what is not addressed to it, it refuses
    pub node_elsewhere : ¬ ((letter : Envelope) → e ≡ node_event.Takes letter → letter.to ≡ node_of c)
        → (node_step setup f c y e).fault ≡ Some node_fault.NotMine
    node_elsewhere off = by e off
      where
        by : (q : NodeEvent) → ¬ ((letter : Envelope) → q ≡ node_event.Takes letter → letter.to ≡ node_of c)
            → (node_step setup f c y q).fault ≡ Some node_fault.NotMine
        by (node_event.PaysIn member amt) off = absurd (off (λ letter same. absurd (cc)))
        by (node_event.Closes member) off = absurd (off (λ letter same. absurd (cc)))
        by node_event.Beats off = absurd (off (λ letter same. absurd (cc)))
        by (node_event.Takes found) off = go (found.to == node_of c) refl
          where
            same_letter : (letter : Envelope) → node_event.Takes found ≡ node_event.Takes letter → found ≡ letter
            same_letter letter same = cc

            go : (mine : Bool) → (found.to == node_of c) ≡ mine
                → (if not mine then refuses y node_fault.NotMine else on_message setup f c y found.msg).fault ≡ Some node_fault.NotMine
            go true at = absurd (off (λ letter same. ap (λ (l : Envelope). l.to) (sym (same_letter letter same)) ∙ eqb-true found.to (node_of c) at))
            go false at = refl

    pub elsewhere_comes : (node_step setup f c y e).fault ≡ Some node_fault.NotMine → (told : Result (List Envelope) NodeFault)
        → (told ≡ Err node_fault.NoMemory) ⊎ (told ≡ Err node_fault.NotMine) → nodes.Comes at_node e told
    unfolding node.step_of
    elsewhere_comes refused told (inl same) = subst (λ (t : Result (List Envelope) NodeFault). nodes.Comes at_node e t) (sym same) (inl refl)
    elsewhere_comes refused told (inr same) = subst (λ (t : Result (List Envelope) NodeFault). nodes.Comes at_node e t) (sym same) (inr refused)

    pub comes_elsewhere : (node_step setup f c y e).fault ≡ Some node_fault.NotMine → (told : Result (List Envelope) NodeFault) → nodes.Comes at_node e told
        → (told ≡ Err node_fault.NoMemory) ⊎ (told ≡ Err node_fault.NotMine)
    unfolding node.step_of
    comes_elsewhere refused (Ok sent) come = absurd (none-some node_fault.NotMine (sym come.allowed ∙ refused))
    comes_elsewhere refused (Err why) (inl same) = inl (ap (λ (w : NodeFault). Err w) same)
    comes_elsewhere refused (Err why) (inr same) = inr (ap (λ (w : NodeFault). Err w) (some-same why node_fault.NotMine (sym same ∙ refused)))

    module _ (number : ℕ) (named : Names bank.post number (party_event.OfNode e)) (low : c < 99)
        (mine : (letter : Envelope) → e ≡ node_event.Takes letter → letter.to ≡ node_of c) where
      abbrev to_node_step : Step
      to_node_step = moves.node_step (101 + c) e number

      has_node_turn : turn bank.post to_node_step ≡ Some (OfNode c e)
      has_node_turn = node_turn setup list.choose bank.post number c e low mine named

      pub node_did : (sent : List Envelope) → StepsSo list to_node_step sent None → nodes.Comes at_node e (Ok sent)
      unfolding node.step_of
      node_did sent s =
          subst (λ (t : Turn). Acts setup list.choose f bank t s.after → nodes.Comes at_node e (Ok sent))
          (some-same (OfNode c e) s.leads.turn_is (sym has_node_turn ∙ s.leads.has_turn))
          (λ a. (
          let before : a.before ≡ y = some-same a.before y (sym a.is_there ∙ is) in
          let put : bank.post ++ sent ≡ bank.post ++ (node_step setup f c y e).sent =
          sym s.sends ∙ ap (λ (b : Bank). b.post) a.leads ∙ ap (λ (x : Node). bank.post ++ (node_step setup f c x e).sent) before in
          record {
            allowed = ap (λ (x : Node). (node_step setup f c x e).fault) (sym before) ∙ a.allowed;
            sends = append_cancel_left bank.post sent (node_step setup f c y e).sent put;
            node = refl;
          }))
          s.leads.acts

      pub node_does : (sent : List Envelope) → nodes.Comes at_node e (Ok sent) → StepsSo list to_node_step sent None
      unfolding node.step_of
      node_does sent come = record {
        after = with_node bank c (node_step setup f c y e).node (node_step setup f c y e).sent;
        leads = record { turn_is = OfNode c e; has_turn = has_node_turn; acts = record { before = y; is_there = is; allowed = come.allowed; leads = refl } };
        sends = ap (λ (l : List Envelope). bank.post ++ l) (sym come.sends);
        drops = refl;
      }

      refuses_as : bank_refuses setup f bank to_node_step ≡ option_map (λ (w : NodeFault). fault.Node w) (node_step setup f c y e).fault
      refuses_as = ap (λ (t : Option Turn). turn_refuses setup f bank t) has_node_turn ∙ ap (λ (o : Option Node). node_refuses setup f c e o) is

      pub node_refused : (why : NodeFault) → bank_refuses setup f bank to_node_step ≡ Some (fault.Node why) → nodes.Comes at_node e (Err why)
      unfolding node.step_of
      node_refused why told = inr (node_told (node_step setup f c y e).fault why (sym refuses_as ∙ told))

      pub node_refuses_so : (why : NodeFault) → why ≢ node_fault.NoMemory → nodes.Comes at_node e (Err why)
          → bank_refuses setup f bank to_node_step ≡ Some (fault.Node why)
      unfolding node.step_of
      node_refuses_so why off (inl same) = absurd (off same)
      node_refuses_so why off (inr same) = refuses_as ∙ ap (λ (o : Option NodeFault). option_map (λ (w : NodeFault). fault.Node w) o) same

  -- A CLIENT

  module _ (k : ℕ) (y : Client) (is : slice_get bank.clients k ≡ Some y) (e : ClientEvent) (number : ℕ)
      (named : Names bank.post number (party_event.OfClient e)) (low : k < 101)
      (mine : (letter : Envelope) → e ≡ client_event.Takes letter → letter.to ≡ k) where
    abbrev at_client : ShownClient
    at_client = client_at setup list.choose k y

    abbrev to_client : Step
    to_client = moves.client_step k e number

    has_client_turn : turn bank.post to_client ≡ Some (OfClient k e)
    has_client_turn = client_turn setup list.choose bank.post number k e low mine named

    pub client_did : (sent : List Envelope) → StepsSo list to_client sent None → clients.Comes at_client e (Ok sent)
    client_did sent s =
        subst (λ (t : Turn). Acts setup list.choose f bank t s.after → clients.Comes at_client e (Ok sent))
        (some-same (OfClient k e) s.leads.turn_is (sym has_client_turn ∙ s.leads.has_turn))
        (λ a. (
        let before : a.before ≡ y = some-same a.before y (sym a.is_there ∙ is) in
        let put : bank.post ++ sent ≡ bank.post ++ (client_step f k y e).sent =
        sym s.sends ∙ ap (λ (b : Bank). b.post) a.leads ∙ ap (λ (x : Client). bank.post ++ (client_step f k x e).sent) before in
        record {
          allowed = ap (λ (x : Client). (client_step f k x e).fault) (sym before) ∙ a.allowed;
          sends = append_cancel_left bank.post sent (client_step f k y e).sent put;
          client = refl;
        }))
        s.leads.acts

    pub client_does : (sent : List Envelope) → clients.Comes at_client e (Ok sent) → StepsSo list to_client sent None
    client_does sent come = record {
      after = with_client bank k (client_step f k y e).client (client_step f k y e).sent;
      leads = record { turn_is = OfClient k e; has_turn = has_client_turn; acts = record { before = y; is_there = is; allowed = come.allowed; leads = refl } };
      sends = ap (λ (l : List Envelope). bank.post ++ l) (sym come.sends);
      drops = refl;
    }

    client_refuses_as : bank_refuses setup f bank to_client ≡ option_map told_as (client_step f k y e).fault
    client_refuses_as = ap (λ (t : Option Turn). turn_refuses setup f bank t) has_client_turn ∙ ap (λ (o : Option Client). client_refuses f k e o) is

    pub client_refused : (why : ClientFault) → bank_refuses setup f bank to_client ≡ Some (told_as why) → clients.Comes at_client e (Err why)
    client_refused why told = inr (client_told (client_step f k y e).fault why (sym client_refuses_as ∙ told))

    pub client_refuses_so : (why : ClientFault) → why ≢ client_fault.NoMemory → clients.Comes at_client e (Err why)
        → bank_refuses setup f bank to_client ≡ Some (told_as why)
    client_refuses_so why off (inl same) = absurd (off same)
    client_refuses_so why off (inr same) = client_refuses_as ∙ ap (λ (o : Option ClientFault). option_map told_as o) same
