-- A bank that goes through the merged list beside the actors: each of its sites, nodes and clients is where the replay of
-- its actor's history is, and its post has all that they sent.
use Rattle.std.proofs.Common.{◌≡◌, ◌⊎◌, inl, inr, ℕ, zero, suc, ◌+◌, ◌-◌, ◌<◌, ◌==◌, min, Bool, true, false, not, nat_lt, if◌then◌else◌, List, [], ◌∷◌, ◌++◌, length, slice_get, slice_set, Option, Some, None, option_map, refl, sym, ap, subst, ◌∙◌, arith, append-nil, true≢false}
use Rattle.std.specs.Prelude.{◌&&◌, Ok, Err}
use Rattle.std.proofs.lemmas.Bool.{eqb-true, eqb-false}
use Rattle.std.proofs.lemmas.Bool.Decides.{nat_tests}
use Rattle.std.proofs.lemmas.Option.{slice_get_within}
use Rattle.pvp_types.specs.declared.setup.Setup.{Setup}
use Rattle.pvp_types.specs.declared.command.Cmd.{Cmd}
use Rattle.pvp_types.specs.declared.command.Reply.{Reply as Answer}
use Rattle.pvp_types.specs.declared.command.PayOrder.{PayOrder as PaymentOrder}
use Rattle.pvp_types.specs.declared.step.Step.TheVariants.{Deliver}
use Rattle.pvp_types.specs.Setup.{faults}
use Rattle.vr_types.specs.declared.cell.Boot.{Boot}
use Rattle.vr_types.specs.declared.event.EventOf.{EventOf}
use Rattle.vr_types.specs.declared.event.EventOf.TheVariants as site
use Rattle.vr_types.specs.declared.event.SiteFault.{SiteFault}
use Rattle.vr_types.specs.declared.event.SiteFault.TheVariants as site_fault
use Rattle.vr_types.specs.declared.event.Status.TheVariants.{Down}
use Rattle.vr_types.specs.Choice.{Choice, IsRight}
use Rattle.vr_types.specs.Group.{actor_of, may_send}
use Rattle.vr_types.specs.Handling.{refusal, refused_or, on_event, site_step, is_refused, envelopes}
use Rattle.vr_types.specs.Site.{Site, over, opening_site, is_down}
use Rattle.vr_types.specs.Step.{Step as SiteStep}
use Rattle.pvp_book.specs.Ledger.{opening, node_of}
use Rattle.rtgs_node.specs.declared.event.NodeEvent.{NodeEvent}
use Rattle.rtgs_node.specs.declared.event.NodeEvent.TheVariants as node_event
use Rattle.rtgs_node.specs.declared.fault.NodeFault.TheVariants.{NotMine}
use Rattle.rtgs_node.specs.Node.{Envelope, Node, refuses, on_message, node_step, opening_node}
use Rattle.rtgs_node.specs.Shown as node
use Rattle.rtgs_node.specs.Shown.{ShownNode}
use Rattle.headline.specs.declared.step.ClientEvent.{ClientEvent}
use Rattle.headline.specs.declared.step.ClientEvent.TheVariants as client_event
use Rattle.headline.specs.declared.step.Move.{Move}
use Rattle.headline.specs.declared.step.Move.TheVariants.{Takes, Falls}
use Rattle.headline.specs.declared.step.Turn.{Turn}
use Rattle.headline.specs.declared.step.Turn.TheVariants.{OfSite, OfNode, OfClient}
use Rattle.headline.specs.Machine.{book}
use Rattle.headline.specs.Client.{Client, client_step, opening_client}
use Rattle.headline.specs.Bank.{Bank, turn_of, delivery, turn, with_site, with_node, with_client}
use Rattle.headline.specs.Legal.{Leads, IsLegal}
use Rattle.headline.proofs.Basics.{none-some, some-same, set-here}
use Rattle.headline.proofs.Runs.{legal-more}
use Rattle.headline.proofs.Turns.{turn_of_site, turn_of_node, turn_of_client}
use Rattle.pvp_world.specs.Client.{ShownClient}
use Rattle.pvp_rooms.specs.declared.message.Recorded.{Recorded}
use Rattle.pvp_rooms.specs.declared.site.CameOf.TheVariants.{Did, Refused, Fell}
use Rattle.pvp_rooms.specs.Histories.{replay}
use Rattle.pvp_rooms.proofs.Growing.{replay-push}
use Rattle.pvp_rooms.proofs.SiteSteps.{ended_allowed}
use Rattle.pvp_rooms.specs.Runs.{Tagged, own_events, number_in, number_at, AreInOrder, AreOpenings}
use Rattle.pvp_parties.specs.Parties.{Party}
use Rattle.pvp_parties.specs.declared.party.PartyOf.TheVariants as party_of
use Rattle.pvp_parties.specs.declared.party.PartyEvent.{PartyEvent}
use Rattle.pvp_parties.specs.declared.party.PartyEvent.TheVariants as party_event
use Rattle.pvp_parties.specs.declared.party.PartyOutcome.{PartyOutcome}
use Rattle.pvp_parties.specs.declared.party.PartyOutcome.TheVariants as outcome
use Rattle.pvp_parties.specs.Made.{Made}
use Rattle.pvp_parties.specs.Alike.{Site as Replica}
use Rattle.pvp_parties.specs.Parties.{PartyState, AtSite, AtNode, AtClient, Opens, Comes, after, delivers, sent_envelopes, is_for, number_of, setup_of}
use Rattle.pvp_audit.specs.Judged.{Left, party}
use Rattle.pvp_audit.specs.Coming.{site_at, node_at, client_at, IsThere}
use Rattle.pvp_audit.specs.Moves as moves
use Rattle.pvp_audit.specs.Moves.{move_of, move_by}
use Rattle.pvp_audit.specs.Retold.{Names}
use Rattle.pvp_audit.specs.Numbered.{post_of}
use Rattle.pvp_audit.specs.Banked.{AreOfBank, OpenedOver, HasPlace}

-- LISTS AND NUMBERS

get_other : {X : Type 0} (xs : List X) (i j : ℕ) (y : X) → ¬ (j ≡ i) → slice_get (slice_set xs i y) j ≡ slice_get xs j
get_other [] i j y off = refl
get_other (x ∷ xs) zero zero y off = absurd (off refl)
get_other (x ∷ xs) zero (suc j) y off = refl
get_other (x ∷ xs) (suc i) zero y off = refl
get_other (x ∷ xs) (suc i) (suc j) y off = get_other xs i j y (λ e. off (ap (λ n. suc n) e))

pub number_is : (c : ℕ) → c < 99 → min (101 + c - 101) 255 ≡ c
number_is c low = ap (λ (k : ℕ). min k 255) (omega arith) ∙ least c low
  where
    least : (c : ℕ) → c < 99 → min c 255 ≡ c
    least c low = grind (arith, nat_tests)

-- the envelope of a number comes in this turn
delivered : (post : List Envelope) (number : ℕ) (e : Envelope) (event : PartyEvent) (t : Turn) → delivers event ≡ Some e → Names post number event
    → delivery e ≡ t → turn post (Deliver number) ≡ Some t
delivered post number e event t is (inl none) at = absurd (none-some e (sym none ∙ is))
delivered post number e event t is (inr there) at =
    let low = there.0 in
    let counted : (number == 0) ≡ false = grind (arith, low, nat_tests) in
    ap (λ (b : Bool). if b then None else option_map delivery (slice_get post (number - 1))) counted
    ∙ ap (λ (o : Option Envelope). option_map delivery o) (there.1 ∙ is) ∙ ap (λ (u : Turn). Some u) at

module _ (setup : Setup) (choose : Choice Cmd) where
  abbrev f : ℕ
  f = faults setup

  -- THE STATES OF ACTORS OF THIS BANK

  -- as they open
  abbrev pub opening_state : Party → Option Boot → PartyState
  opening_state (party_of.Site p) (Some boot) = AtSite (site_at setup choose p.place (opening_site f boot))
  opening_state (party_of.Site p) None = AtClient (client_at setup choose p.place opening_client)
  opening_state (party_of.Node p) boot = AtNode (node_at setup choose p.place opening_node)
  opening_state (party_of.Client p) boot = AtClient (client_at setup choose p.place opening_client)

  abbrev pub start_in : Option Left → PartyState
  start_in None = AtClient (client_at setup choose 0 opening_client)
  start_in (Some c) = opening_state c.end c.opening

  abbrev pub start_of : List Left → ℕ → PartyState
  start_of closed k = start_in (slice_get closed k)

  opens_so : IsRight f choose → (e : Party) (over : Option Boot) → setup_of e ≡ setup → OpenedOver e over → Opens e over (opening_state e over)
  opens_so right (party_of.Site p) (Some boot) same by = record {
    is = record { f = ap faults (sym same); me = refl; start = ap opening (sym same); right = right };
    site = ap (λ (s : Setup). opening_site (faults s) boot) (sym same);
  }
  opens_so right (party_of.Site p) None same by = absurd by
  opens_so right (party_of.Node p) (Some boot) same by = absurd by
  opens_so right (party_of.Node p) None same by = λ i. record { setup = sym same i; ccy = p.place; node = opening_node }
  opens_so right (party_of.Client p) (Some boot) same by = absurd by
  opens_so right (party_of.Client p) None same by = λ i. record { f = faults (sym same i); me = p.place; client = opening_client }

  pub openings_are : IsRight f choose → (closed : List Left) → AreOfBank setup closed → AreOpenings party closed (start_of closed)
  openings_are right closed all k c is =
      let of = all k c is in
      subst (λ (o : Option Left). Opens c.end c.opening (start_in o)) (sym is) (opens_so right c.end c.opening of.made_from of.opened)

  -- THE BANK BESIDE THE ACTORS

  -- where an actor's replay is
  abbrev pub state_of : List Left → List (Tagged PartyEvent PartyOutcome) → ℕ → PartyState
  state_of closed run k = replay after (own_events run k) (start_of closed k)

  -- moves that lead the bank to where the actors are after a run
  pub record Agrees (closed : List Left) (cells : List Boot) (run : List (Tagged PartyEvent PartyOutcome)) (moves : List Move) (bank : Bank) : Type 0 where
    pub legal : IsLegal setup choose f cells moves bank
    pub there : (k : ℕ) (c : Left) → slice_get closed k ≡ Some c → IsThere setup choose bank c.end (state_of closed run k)
    pub post : bank.post ≡ post_of sent_envelopes run

  -- ONE ACTOR'S PART CHANGES, AND NO OTHER'S

  site_kept : (bank : Bank) (post : List Envelope) (place : ℕ) (y : Site Cmd) (e : Party) (x : PartyState) → ¬ (number_of e ≡ actor_of place)
      → IsThere setup choose bank e x → IsThere setup choose (record bank { sites = slice_set bank.sites place y; post = post }) e x
  site_kept bank post place y (party_of.Site q) x off is = (is.0, is.1, get_other bank.sites place q.place y (λ e. off (ap actor_of e)) ∙ is.2)
  site_kept bank post place y (party_of.Node q) x off is = is
  site_kept bank post place y (party_of.Client q) x off is = is

  node_kept : (bank : Bank) (post : List Envelope) (place : ℕ) (y : Node) (e : Party) (x : PartyState) → ¬ (number_of e ≡ node_of place)
      → IsThere setup choose bank e x → IsThere setup choose (record bank { nodes = slice_set bank.nodes place y; post = post }) e x
  node_kept bank post place y (party_of.Site q) x off is = is
  node_kept bank post place y (party_of.Node q) x off is = (is.0, is.1, get_other bank.nodes place q.place y (λ e. off (ap node_of e)) ∙ is.2)
  node_kept bank post place y (party_of.Client q) x off is = is

  client_kept : (bank : Bank) (post : List Envelope) (place : ℕ) (y : Client) (e : Party) (x : PartyState) → ¬ (number_of e ≡ place)
      → IsThere setup choose bank e x → IsThere setup choose (record bank { clients = slice_set bank.clients place y; post = post }) e x
  client_kept bank post place y (party_of.Site q) x off is = is
  client_kept bank post place y (party_of.Node q) x off is = is
  client_kept bank post place y (party_of.Client q) x off is = (is.0, is.1, get_other bank.clients place q.place y off ∙ is.2)

  -- TURNS

  pub allowed_free : (i : ℕ) (y : Site Cmd) (e : EventOf Cmd Answer PaymentOrder)
      → is_refused (site_step {R = Answer} {O = PaymentOrder} choose f i y e).ending ≡ false → refusal {R = Answer} {O = PaymentOrder} f i y e ≡ None
  allowed_free i y e allowed = go (refusal {R = Answer} {O = PaymentOrder} f i y e) allowed
    where
      go : (why : Option SiteFault) → is_refused (refused_or y why (on_event {R = Answer} {O = PaymentOrder} choose f i y e)).ending ≡ false → why ≡ None
      go None is = refl
      go (Some why) is = absurd (true≢false is)

  -- what is delivered to a site that takes it is addressed to that site
  to_site : (i : ℕ) (y : Site Cmd) (e : Envelope) → refusal {R = Answer} {O = PaymentOrder} f i y (site.Deliver e) ≡ None → e.to ≡ actor_of i
  to_site i y e free = go (is_down y.status) (e.to == actor_of i) refl free
    where
      go : (down mine : Bool) → (e.to == actor_of i) ≡ mine
          → (if down then Some site_fault.NotUp else if not (mine && may_send f i e.from e.msg) then Some site_fault.NotMine else None) ≡ None
          → e.to ≡ actor_of i
      go true mine is h = cc
      go false true is h = eqb-true e.to (actor_of i) is
      go false false is h = cc

  -- the turn that a site's event is
  pub site_turn : (post : List Envelope) (number i : ℕ) (y : Site Cmd) (e : EventOf Cmd Answer PaymentOrder)
      → refusal {R = Answer} {O = PaymentOrder} f i y e ≡ None → Names post number (party_event.OfSite e)
      → turn post (moves.site_step (200 + i) e number) ≡ Some (OfSite i e)
  site_turn post number i y (site.Deliver e) free at =
      delivered post number e (party_event.OfSite (site.Deliver e)) (OfSite i (site.Deliver e)) refl at
      (ap (λ (to : ℕ). turn_of to (site.Deliver e) (node_event.Takes e) (client_event.Takes e)) (to_site i y e free)
      ∙ turn_of_site (site.Deliver e) (node_event.Takes e) (client_event.Takes e) i)
  site_turn post number i y site.Timer free at = ap (λ (k : ℕ). Some (OfSite k site.Timer)) (omega arith)
  site_turn post number i y site.Beat free at = ap (λ (t : Turn). Some t) (turn_of_site site.Beat node_event.Beats client_event.Beats i)
  site_turn post number i y site.Crash free at = ap (λ (k : ℕ). Some (OfSite k site.Crash)) (omega arith)
  site_turn post number i y site.Restart free at = ap (λ (k : ℕ). Some (OfSite k site.Restart)) (omega arith)

  -- what is delivered to a node that takes it is addressed to that node
  pub to_node : (c : ℕ) (y : Node) (e : Envelope) → (node_step setup f c y (node_event.Takes e)).fault ≡ None → e.to ≡ node_of c
  to_node c y e allowed = go (e.to == node_of c) refl allowed
    where
      go : (mine : Bool) → (e.to == node_of c) ≡ mine
          → (if not mine then refuses y NotMine else on_message setup f c y e.msg).fault ≡ None → e.to ≡ node_of c
      go true is h = eqb-true e.to (node_of c) is
      go false is h = cc

  pub node_turn : (post : List Envelope) (number c : ℕ) (e : NodeEvent) → c < 99 → ((letter : Envelope) → e ≡ node_event.Takes letter → letter.to ≡ node_of c)
      → Names post number (party_event.OfNode e)
      → turn post (moves.node_step (101 + c) e number) ≡ Some (OfNode c e)
  node_turn post number c (node_event.PaysIn member amt) low mine at = ap (λ (k : ℕ). Some (OfNode k (node_event.PaysIn member amt))) (number_is c low)
  node_turn post number c (node_event.Closes member) low mine at = ap (λ (k : ℕ). Some (OfNode k (node_event.Closes member))) (number_is c low)
  node_turn post number c (node_event.Takes e) low mine at =
      delivered post number e (party_event.OfNode (node_event.Takes e)) (OfNode c (node_event.Takes e)) refl at
      (ap (λ (to : ℕ). turn_of to (site.Deliver e) (node_event.Takes e) (client_event.Takes e)) (mine e refl)
      ∙ turn_of_node (site.Deliver e) (node_event.Takes e) (client_event.Takes e) c low)
  node_turn post number c node_event.Beats low mine at = ap (λ (t : Turn). Some t) (turn_of_node site.Beat node_event.Beats client_event.Beats c low)

  pub client_turn : (post : List Envelope) (number k : ℕ) (e : ClientEvent) → k < 101 → ((letter : Envelope) → e ≡ client_event.Takes letter → letter.to ≡ k)
      → Names post number (party_event.OfClient e)
      → turn post (moves.client_step k e number) ≡ Some (OfClient k e)
  client_turn post number k (client_event.Submits cmd) low mine at = refl
  client_turn post number k (client_event.Takes e) low mine at =
      delivered post number e (party_event.OfClient (client_event.Takes e)) (OfClient k (client_event.Takes e)) refl at
      (ap (λ (to : ℕ). turn_of to (site.Deliver e) (node_event.Takes e) (client_event.Takes e)) (mine e refl)
      ∙ turn_of_client (site.Deliver e) (node_event.Takes e) (client_event.Takes e) k low)
  client_turn post number k client_event.Beats low mine at = ap (λ (t : Turn). Some t) (turn_of_client site.Beat node_event.Beats client_event.Beats k low)

  -- THE BANK AFTER ONE EVENT MORE

  module _ (closed : List Left) (order : AreInOrder closed) (all : AreOfBank setup closed) (cells : List Boot) (run : List (Tagged PartyEvent PartyOutcome))
      (trail : List Move) (bank : Bank) (a : Agrees closed cells run trail bank)
      (k : ℕ) (c : Left) (is : slice_get closed k ≡ Some c) (r : Recorded PartyEvent PartyOutcome) where
    abbrev pub next_run : List (Tagged PartyEvent PartyOutcome)
    next_run = record { by = k; what = r } ∷ run

    -- where the bank goes by a move, if there is one
    abbrev pub Goes : Option Move → Type 0
    Goes None = Agrees closed cells next_run trail bank
    Goes (Some move) = (later : Bank) × Leads setup choose f bank move later × Agrees closed cells next_run (trail ++ move ∷ []) later

    -- no other actor has this one's number
    other : (j : ℕ) (d : Left) → slice_get closed j ≡ Some d → ¬ (k ≡ j) → ¬ (number_of d.end ≡ number_of c.end)
    other j d there off same =
        let one : number_at closed j ≡ number_at closed k =
        ap number_in there ∙ (all j d there).number ∙ same ∙ sym (all k c is).number ∙ sym (ap number_in is) in
        let wj : j < length closed = slice_get_within closed j d there in
        let wk : k < length closed = slice_get_within closed k c is in
        by wj wk one (nat_lt j k) (nat_lt k j) refl refl
      where
        by : j < length closed → k < length closed → number_at closed j ≡ number_at closed k → (p q : Bool) → nat_lt j k ≡ p → nat_lt k j ≡ q → ⊥
        by wj wk one true q is_p is_q = let l : j < k = grind (arith, nat_tests) in let h = order j k l wk in omega (arith, h, one)
        by wj wk one false true is_p is_q = let l : k < j = grind (arith, nat_tests) in let h = order k j l wj in omega (arith, h, one)
        by wj wk one false false is_p is_q = off (grind (arith, nat_tests))

    -- where all are after the event
    all_there : (later : Bank) → IsThere setup choose later c.end (after (state_of closed run k) r.event r.outcome)
        → ((j : ℕ) (d : Left) → slice_get closed j ≡ Some d → ¬ (number_of d.end ≡ number_of c.end) → IsThere setup choose bank d.end (state_of closed run j)
        → IsThere setup choose later d.end (state_of closed run j))
        → (j : ℕ) (d : Left) → slice_get closed j ≡ Some d → IsThere setup choose later d.end (state_of closed next_run j)
    all_there later mine others j d there = go (k == j) refl
      where
        go : (b : Bool) → (k == j) ≡ b → IsThere setup choose later d.end (replay after (own_events run j ++ (if b then r ∷ [] else [])) (start_of closed j))
        go true same =
            let e = eqb-true k j same in
            let at_k : (d : Left) → slice_get closed k ≡ Some d
            → IsThere setup choose later d.end (replay after (own_events run k ++ r ∷ []) (start_of closed k)) =
            λ d there. subst (λ (x : PartyState). IsThere setup choose later d.end x) (sym (replay-push after (own_events run k) r (start_of closed k)))
            (subst (λ (q : Left). IsThere setup choose later q.end (after (state_of closed run k) r.event r.outcome)) (some-same c d (sym is ∙ there)) mine) in
            subst (λ (i : ℕ). (d : Left) → slice_get closed i ≡ Some d
            → IsThere setup choose later d.end (replay after (own_events run i ++ r ∷ []) (start_of closed i))) e at_k d there
        go false same =
            subst (λ (l : List (Recorded PartyEvent PartyOutcome)). IsThere setup choose later d.end (replay after l (start_of closed j)))
            (sym (append-nil (own_events run j)))
            (others j d there (other j d there (eqb-false k j same)) (a.there j d there))

    -- nothing was done
    stays : after (state_of closed run k) r.event r.outcome ≡ state_of closed run k → sent_envelopes r.outcome ≡ [] → Agrees closed cells next_run trail bank
    stays still none = record {
      legal = a.legal;
      there = all_there bank (subst (λ (x : PartyState). IsThere setup choose bank c.end x) (sym still) (a.there k c is)) (λ j d there off so. so);
      post = a.post ∙ sym (append-nil (post_of sent_envelopes run)) ∙ ap (λ (l : List Envelope). post_of sent_envelopes run ++ l) (sym none);
    }

    -- a move was taken
    goes : (move : Move) (later : Bank) → Leads setup choose f bank move later → later.post ≡ bank.post ++ sent_envelopes r.outcome
        → IsThere setup choose later c.end (after (state_of closed run k) r.event r.outcome)
        → ((j : ℕ) (d : Left) → slice_get closed j ≡ Some d → ¬ (number_of d.end ≡ number_of c.end) → IsThere setup choose bank d.end (state_of closed run j)
        → IsThere setup choose later d.end (state_of closed run j))
        → Goes (Some move)
    goes move later leads posts mine others = (
      later,
      leads,
      record {
        legal = legal-more setup choose f cells trail bank move later a.legal leads;
        there = all_there later mine others;
        post = posts ∙ ap (λ (l : List Envelope). l ++ sent_envelopes r.outcome) a.post;
      },
    )

    -- an actor of this kind and state, an event and an outcome, in place of those that are named
    put : (e : Party) → c.end ≡ e → (x : PartyState) → state_of closed run k ≡ x → (v : PartyEvent) → r.event ≡ v → (o : PartyOutcome) → r.outcome ≡ o
        → (later : Bank)
        → IsThere setup choose later e (after x v o) → IsThere setup choose later c.end (after (state_of closed run k) r.event r.outcome)
    put e ends x at v event o came later there =
        subst (λ (q : Party). IsThere setup choose later q (after (state_of closed run k) r.event r.outcome)) (sym ends)
        (subst (λ (s : PartyState). IsThere setup choose later e s) (λ i. after (sym at i) (sym event i) (sym came i)) there)

    still : (x : PartyState) → state_of closed run k ≡ x → (v : PartyEvent) → r.event ≡ v → (o : PartyOutcome) → r.outcome ≡ o → after x v o ≡ x
        → sent_envelopes o ≡ []
        → Goes None
    still x at v event o came same none = stays ((λ i. after (at i) (event i) (came i)) ∙ same ∙ sym at) (ap sent_envelopes came ∙ none)

    module _ (number : ℕ) where
      -- a site
      site_goes : (p : Made Replica) → c.end ≡ party_of.Site p → (y : Site Cmd) → state_of closed run k ≡ AtSite (site_at setup choose p.place y)
          → slice_get bank.sites p.place ≡ Some y
          → (v : PartyEvent) → r.event ≡ v → (o : PartyOutcome) → r.outcome ≡ o → Comes (AtSite (site_at setup choose p.place y)) v o → Names bank.post number v
          → Goes (move_by (200 + p.place) v o number)
      site_goes p ends y at there (party_event.OfSite e) event (outcome.OfSite (Did letters dropped)) came come named =
          let i = p.place in
          let step : SiteStep Cmd Answer PaymentOrder = site_step choose f i y e in
          let allowed : is_refused step.ending ≡ false = ap is_refused come.ending ∙ ended_allowed dropped in
          let later = with_site bank i step.site (envelopes book (opening setup) i step) in
          goes (Takes (moves.site_step (200 + i) e number)) later
          (record {
            turn_is = OfSite i e;
            has_turn = site_turn bank.post number i y e (allowed_free i y e allowed) named;
            acts = record { before = y; is_there = there; allowed = allowed; leads = refl };
          })
          (ap (λ (l : List Envelope). bank.post ++ l) (sym come.sends ∙ sym (ap sent_envelopes came)))
          (put (party_of.Site p) ends (AtSite (site_at setup choose i y)) at (party_event.OfSite e) event (outcome.OfSite (Did letters dropped)) came later
          (step.site, refl, set-here bank.sites i y step.site there))
          (λ j d is_d off so. site_kept bank later.post i step.site d.end (state_of closed run j) (λ h. off (h ∙ sym (ap number_of ends))) so)
      site_goes p ends y at there (party_event.OfSite e) event (outcome.OfSite (Refused why)) came come named =
          still (AtSite (site_at setup choose p.place y)) at (party_event.OfSite e) event (outcome.OfSite (Refused why)) came refl refl
      site_goes p ends y at there (party_event.OfSite e) event (outcome.OfSite (Fell why cell)) came come named =
          let i = p.place in
          let later : Bank = record bank { sites = slice_set bank.sites i (over cell Down) } in
          goes (Falls (moves.site_step (200 + i) e number) cell) later
          (record {
            turn_is = OfSite i e;
            has_turn = site_turn bank.post number i y e (allowed_free i y e come.0.allowed) named;
            falls = record { before = y; is_there = there; falls = come.0; leads = refl };
          })
          (sym (append-nil bank.post) ∙ ap (λ (l : List Envelope). bank.post ++ l) (sym (ap sent_envelopes came)))
          (put (party_of.Site p) ends (AtSite (site_at setup choose i y)) at (party_event.OfSite e) event (outcome.OfSite (Fell why cell)) came later
          (over cell Down, refl, set-here bank.sites i y (over cell Down) there))
          (λ j d is_d off so. site_kept bank bank.post i (over cell Down) d.end (state_of closed run j) (λ h. off (h ∙ sym (ap number_of ends))) so)
      site_goes p ends y at there (party_event.OfNode e) event outcome.Stray came come named =
          still (AtSite (site_at setup choose p.place y)) at (party_event.OfNode e) event outcome.Stray came refl refl
      site_goes p ends y at there (party_event.OfClient e) event outcome.Stray came come named =
          still (AtSite (site_at setup choose p.place y)) at (party_event.OfClient e) event outcome.Stray came refl refl
      site_goes p ends y at there v event o came come named = absurd come

      -- a node
      node_goes : (p : Made ShownNode) → c.end ≡ party_of.Node p → (y : Node) → state_of closed run k ≡ AtNode (node_at setup choose p.place y)
          → slice_get bank.nodes p.place ≡ Some y → p.place < 99
          → (v : PartyEvent) → r.event ≡ v → (o : PartyOutcome) → r.outcome ≡ o → Comes (AtNode (node_at setup choose p.place y)) v o → Names bank.post number v
          → Goes (move_by (101 + p.place) v o number)
      unfolding node.step_of
      node_goes p ends y at there low (party_event.OfNode e) event (outcome.OfNode (Ok letters)) came come named =
          let i = p.place in
          let step = node_step setup f i y e in
          let later = with_node bank i step.node step.sent in
          goes (Takes (moves.node_step (101 + i) e number)) later
          (record {
            turn_is = OfNode i e;
            has_turn =
                node_turn bank.post number i e low (λ letter is.
                to_node i y letter (subst (λ (q : NodeEvent). (node_step setup f i y q).fault ≡ None) is come.allowed)) named;
            acts = record { before = y; is_there = there; allowed = come.allowed; leads = refl };
          })
          (ap (λ (l : List Envelope). bank.post ++ l) (sym come.sends ∙ sym (ap sent_envelopes came)))
          (put (party_of.Node p) ends (AtNode (node_at setup choose i y)) at (party_event.OfNode e) event (outcome.OfNode (Ok letters)) came later
          (step.node, refl, set-here bank.nodes i y step.node there))
          (λ j d is_d off so. node_kept bank later.post i step.node d.end (state_of closed run j) (λ h. off (h ∙ sym (ap number_of ends))) so)
      node_goes p ends y at there low (party_event.OfNode e) event (outcome.OfNode (Err fault)) came come named =
          still (AtNode (node_at setup choose p.place y)) at (party_event.OfNode e) event (outcome.OfNode (Err fault)) came refl refl
      node_goes p ends y at there low (party_event.OfSite e) event outcome.Stray came come named =
          still (AtNode (node_at setup choose p.place y)) at (party_event.OfSite e) event outcome.Stray came refl refl
      node_goes p ends y at there low (party_event.OfClient e) event outcome.Stray came come named =
          still (AtNode (node_at setup choose p.place y)) at (party_event.OfClient e) event outcome.Stray came refl refl
      node_goes p ends y at there low v event o came come named = absurd come

      -- a client, which takes only what is addressed to it
      client_goes : (p : Made ShownClient) → c.end ≡ party_of.Client p → (y : Client) → state_of closed run k ≡ AtClient (client_at setup choose p.place y)
          → slice_get bank.clients p.place ≡ Some y → p.place < 101
          → (v : PartyEvent) → r.event ≡ v → (o : PartyOutcome) → r.outcome ≡ o → Comes (AtClient (client_at setup choose p.place y)) v o
          → Names bank.post number v
          → ((letter : Envelope) → v ≡ party_event.OfClient (client_event.Takes letter) → letter.to ≡ p.place) → Goes (move_by p.place v o number)
      client_goes p ends y at there low (party_event.OfClient e) event (outcome.OfClient (Ok letters)) came come named mine =
          let i = p.place in
          let step = client_step f i y e in
          let later = with_client bank i step.client step.sent in
          goes (Takes (moves.client_step i e number)) later
          (record {
            turn_is = OfClient i e;
            has_turn = client_turn bank.post number i e low (λ letter h. mine letter (ap (λ (q : ClientEvent). party_event.OfClient q) h)) named;
            acts = record { before = y; is_there = there; allowed = come.allowed; leads = refl };
          })
          (ap (λ (l : List Envelope). bank.post ++ l) (sym come.sends ∙ sym (ap sent_envelopes came)))
          (put (party_of.Client p) ends (AtClient (client_at setup choose i y)) at (party_event.OfClient e) event (outcome.OfClient (Ok letters)) came later
          (step.client, refl, set-here bank.clients i y step.client there))
          (λ j d is_d off so. client_kept bank later.post i step.client d.end (state_of closed run j) (λ h. off (h ∙ sym (ap number_of ends))) so)
      client_goes p ends y at there low (party_event.OfClient e) event (outcome.OfClient (Err fault)) came come named mine =
          still (AtClient (client_at setup choose p.place y)) at (party_event.OfClient e) event (outcome.OfClient (Err fault)) came refl refl
      client_goes p ends y at there low (party_event.OfSite e) event outcome.Stray came come named mine =
          still (AtClient (client_at setup choose p.place y)) at (party_event.OfSite e) event outcome.Stray came refl refl
      client_goes p ends y at there low (party_event.OfNode e) event outcome.Stray came come named mine =
          still (AtClient (client_at setup choose p.place y)) at (party_event.OfNode e) event outcome.Stray came refl refl
      client_goes p ends y at there low v event o came come named mine = absurd come

      -- what comes to a client is addressed to it
      for_client : (p : Made ShownClient) → c.end ≡ party_of.Client p → (delivers r.event ≡ None) ⊎ (is_for c.end r.event ≡ true) → (letter : Envelope)
          → r.event ≡ party_event.OfClient (client_event.Takes letter) → letter.to ≡ p.place
      for_client p ends (inl none) letter taken = absurd (none-some letter (sym none ∙ ap delivers taken))
      for_client p ends (inr mine) letter taken = eqb-true letter.to p.place (sym (λ i. is_for (ends i) (taken i)) ∙ mine)

      -- an event that can come out so is the bank's move
      pub takes_next : Comes (state_of closed run k) r.event r.outcome → (delivers r.event ≡ None) ⊎ (is_for c.end r.event ≡ true)
          → Names bank.post number r.event → Goes (move_of c.number r number)
      takes_next come comes_here named = by_kind c.end refl (a.there k c is)
        where
          by_kind : (e : Party) → c.end ≡ e → IsThere setup choose bank e (state_of closed run k) → Goes (move_of c.number r number)
          by_kind (party_of.Site p) ends th =
              subst (λ (n : ℕ). Goes (move_by n r.event r.outcome number)) (sym ((all k c is).number ∙ ap number_of ends))
              (site_goes p ends th.0 th.1 th.2 r.event refl r.outcome refl (subst (λ (x : PartyState). Comes x r.event r.outcome) th.1 come) named)
          by_kind (party_of.Node p) ends th =
              let place : HasPlace setup (party_of.Node p) = subst (λ (e : Party). HasPlace setup e) ends (all k c is).place in
              subst (λ (n : ℕ). Goes (move_by n r.event r.outcome number)) (sym ((all k c is).number ∙ ap number_of ends))
              (node_goes p ends th.0 th.1 th.2 place.1 r.event refl r.outcome refl (subst (λ (x : PartyState). Comes x r.event r.outcome) th.1 come) named)
          by_kind (party_of.Client p) ends th =
              let place : HasPlace setup (party_of.Client p) = subst (λ (e : Party). HasPlace setup e) ends (all k c is).place in
              subst (λ (n : ℕ). Goes (move_by n r.event r.outcome number)) (sym ((all k c is).number ∙ ap number_of ends))
              (client_goes p ends th.0 th.1 th.2 place.1 r.event refl r.outcome refl (subst (λ (x : PartyState). Comes x r.event r.outcome) th.1 come) named
              (for_client p ends comes_here))
