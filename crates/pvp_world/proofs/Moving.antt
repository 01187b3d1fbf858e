-- How a world moves: each actor's turn, and a site's fall, lead where the world's parts then are.
use Rattle.std.proofs.Common.{◌≡◌, ℕ, zero, suc, ◌+◌, ◌*◌, ◌<◌, ◌≤◌, true, false, nat_lt, List, [], ◌∷◌, ◌++◌, length, slice_get, slice_set, slice_index_or, Option, Some, None, refl, sym, ap, ◌∙◌, subst, arith, true≢false}
use Rattle.pvp_types.specs.declared.setup.Setup.{Setup}
use Rattle.pvp_types.specs.declared.command.Cmd.{Cmd}
use Rattle.pvp_types.specs.declared.command.Reply.{Reply as Answer}
use Rattle.pvp_types.specs.declared.command.PayOrder.{PayOrder as PaymentOrder}
use Rattle.pvp_types.specs.declared.step.Step.{Step}
use Rattle.pvp_types.specs.Setup.{IsValid, faults}
use Rattle.vr_types.specs.declared.cell.Boot.{Boot}
use Rattle.vr_types.specs.declared.event.EventOf.{EventOf}
use Rattle.vr_types.specs.declared.event.EventOf.TheVariants.{Crash}
use Rattle.vr_types.specs.declared.event.SiteFault.{SiteFault}
use Rattle.vr_types.specs.declared.event.Status.TheVariants.{Down}
use Rattle.vr_types.specs.Choice.{Choice, IsRight}
use Rattle.vr_types.specs.Handling.{refusal, site_step, IsFall, envelopes}
use Rattle.vr_types.specs.Site.{Site, over}
use Rattle.vr_site.specs.Replica.{ShownSite, site_shown}
use Rattle.pvp_book.specs.Ledger.{opening}
use Rattle.rtgs_node.specs.declared.event.NodeEvent.{NodeEvent}
use Rattle.rtgs_node.specs.declared.fault.NodeFault.{NodeFault}
use Rattle.rtgs_node.specs.Node.{Envelope, node_step}
use Rattle.rtgs_node.specs.Shown as node
use Rattle.rtgs_node.specs.Shown.{ShownNode}
use Rattle.headline.specs.declared.step.ClientEvent.{ClientEvent}
use Rattle.headline.specs.declared.step.ClientFault.{ClientFault}
use Rattle.headline.specs.declared.step.ClientFault.TheVariants as client_fault
use Rattle.headline.specs.declared.step.Move.{Move}
use Rattle.headline.specs.declared.step.Move.TheVariants.{Takes, Falls}
use Rattle.headline.specs.declared.step.Turn.{Turn}
use Rattle.headline.specs.declared.step.Turn.TheVariants.{OfSite, OfNode, OfClient}
use Rattle.headline.specs.Client.{client_step}
use Rattle.headline.specs.Machine.{book}
use Rattle.headline.specs.Bank.{Bank, opening_bank, turn, with_site, with_node, with_client}
use Rattle.headline.specs.Legal.{Leads}
use Rattle.headline.proofs.Basics.{none-some, some-same, set-length}
use Rattle.std.proofs.lemmas.Bool.Decides.{nat_tests}
use Rattle.headline.proofs.Runs.{leads-more}
use Rattle.pvp_world.proofs.Sent.{few-sites, node-few, client-few}
use Rattle.pvp_world.specs.declared.fault.WorldFault.TheVariants.{Site as OfSiteFault, Node as OfNodeFault}
use Rattle.pvp_world.specs.declared.report.Report.{Report}
use Rattle.pvp_world.specs.Client as client
use Rattle.pvp_world.specs.Client.{ShownClient}
use Rattle.pvp_world.specs.World.{ShownWorld, world_of, AreEach, IsSite, IsNode, IsClient, ShowsBank, IsAt}
use Rattle.pvp_world.specs.Steps.{IsReport, Moves, IsOverSaved, IsTaken, HasFallen, IsRefused, IsWhy, is_fall, is_world_fall, told_as}
use Rattle.pvp_world.specs.Serving.{IsServed, IsUnserved, IsDown, HasRefused, HoldsSaved}
use Rattle.pvp_world.proofs.Sites.{refusal-stays}

-- one event at a turn
same-event : (j i : ℕ) (event : EventOf Cmd Answer PaymentOrder) → ◌≡◌ {A = Option Turn} (Some (OfSite j Crash)) (Some (OfSite i event)) → event ≡ Crash
same-event j i event e = cc

-- LISTS IN STEP

-- what stands at a place is within the list
pub place-low : {A : Type 0} (xs : List A) (i : ℕ) (x : A) → slice_get xs i ≡ Some x → i < length xs
place-low [] i x e = absurd (none-some x e)
place-low (y ∷ xs) zero x e = omega arith
place-low (y ∷ xs) (suc i) x e = let low = place-low xs i x e in omega arith

pub nat_lt-holds : (m n : ℕ) → m < n → nat_lt m n ≡ true
nat_lt-holds m n low = grind (arith, nat_tests)

-- what stands at a place within a list
pub got : {A : Type 0} (xs : List A) (i : ℕ) (d : A) → i < length xs → slice_get xs i ≡ Some (slice_index_or xs i d)
got [] i d low = absurd (omega arith)
got (x ∷ xs) zero d low = refl
got (x ∷ xs) (suc i) d low = got xs i d (omega arith)

pub set-same : {A : Type 0} (xs : List A) (i : ℕ) (x : A) → slice_get xs i ≡ Some x → slice_set xs i x ≡ xs
set-same [] i x e = refl
set-same (y ∷ xs) zero x e = ap (λ z. z ∷ xs) (sym (some-same y x e))
set-same (y ∷ xs) (suc i) x e = ap (λ zs. y ∷ zs) (set-same xs i x e)

other-there : {A B : Type 0} (xs : List A) (ys : List B) (i : ℕ) (x : A) → length xs ≡ length ys → slice_get xs i ≡ Some x → (y : B) × (slice_get ys i ≡ Some y)
other-there [] ys i x count e = absurd (none-some x e)
other-there (z ∷ xs) [] i x count e = absurd (omega arith)
other-there (z ∷ xs) (y ∷ ys) zero x count e = (y, refl)
other-there (z ∷ xs) (y ∷ ys) (suc i) x count e = other-there xs ys i x (omega arith) e

set-both : {A B : Type 0} (Is : ℕ → A → B → Type 0) (xs : List A) (ys : List B) (i : ℕ) (x : A) (y : B)
    → ((j : ℕ) (p : A) (q : B) → slice_get xs j ≡ Some p → slice_get ys j ≡ Some q → Is j p q) → Is i x y
    → (j : ℕ) (p : A) (q : B) → slice_get (slice_set xs i x) j ≡ Some p → slice_get (slice_set ys i y) j ≡ Some q → Is j p q
set-both Is [] ys i x y all is j p q e d = absurd (none-some p e)
set-both Is (z ∷ xs) [] i x y all is j p q e d = absurd (none-some q d)
set-both Is (z ∷ xs) (w ∷ ys) zero x y all is zero p q e d = subst (λ r. Is zero r q) (some-same x p e) (subst (λ r. Is zero x r) (some-same y q d) is)
set-both Is (z ∷ xs) (w ∷ ys) zero x y all is (suc j) p q e d = all (suc j) p q e d
set-both Is (z ∷ xs) (w ∷ ys) (suc i) x y all is zero p q e d = all zero p q e d
set-both Is (z ∷ xs) (w ∷ ys) (suc i) x y all is (suc j) p q e d = set-both (λ k. Is (suc k)) xs ys i x y (λ k. all (suc k)) is j p q e d

set-each : {A B : Type 0} (Is : ℕ → A → B → Type 0) (xs : List A) (ys : List B) (i : ℕ) (x : A) (y : B) → AreEach Is xs ys → Is i x y
    → AreEach Is (slice_set xs i x) (slice_set ys i y)
set-each Is xs ys i x y are is = record {
  count = set-length xs i x ∙ are.count ∙ sym (set-length ys i y);
  each = set-both Is xs ys i x y are.each is;
}

module _ {B : Type 0} (held : B → Boot) (setup : Setup) (first : List Boot) (sites : List (ShownSite Cmd Setup B)) (nodes : List ShownNode)
    (clients : List ShownClient) (post : List Envelope) (trail : List Move) where
  abbrev old : ShownWorld B
  old = world_of setup first sites nodes clients post trail

  -- a move that the list before it allows
  moved : (at : IsAt held old) (move : Move) (after : Bank) (new : ShownWorld B) → Leads setup at.list.choose (faults setup) at.list.bank move after
      → ShowsBank held new after
      → new.setup ≡ setup → new.opening ≡ first → new.trail ≡ trail ++ move ∷ [] → Moves held old new move
  moved at move after new leads shows made opened trailed = record {
    list = at.list;
    cells = at.cells;
    moves = at.moves;
    shows = at.shows;
    after = after;
    leads = leads;
    shows_after = shows;
    setup = made;
    opening = opened;
    trail = trailed;
  }

  -- the world is where its trail leads
  pub moves-at : (sites' : List (ShownSite Cmd Setup B)) (nodes' : List ShownNode) (clients' : List ShownClient) (post' : List Envelope)
      (trail' : List Move) (move : Move)
      → Moves held old (world_of setup first sites' nodes' clients' post' trail') move → IsAt held (world_of setup first sites' nodes' clients' post' trail')
  moves-at sites' nodes' clients' post' trail' move moves =
      let list = moves.list in
      record {
        list = record {
          valid = list.valid;
          choose = list.choose;
          right = list.right;
          cells = list.cells;
          moves = list.moves ++ move ∷ [];
          bank = moves.after;
          legal =
              record {
                all = list.legal.all;
                run = leads-more setup list.choose (faults setup) (opening_bank setup (faults setup) list.cells) list.moves list.bank moves.after move
                    list.legal.run moves.leads;
              };
        };
        cells = moves.cells;
        moves = ap (λ ms. ms ++ move ∷ []) moves.moves ∙ sym moves.trail;
        shows = moves.shows_after;
      }

  module _ (at : IsAt held old) (step : Step) where
    abbrev bank : Bank
    bank = at.list.bank

    abbrev choose : Choice Cmd
    choose = at.list.choose

    turns : (t : Turn) → turn post step ≡ Some t → turn bank.post step ≡ Some t
    turns t is = ap (λ p. turn p step) (sym at.shows.post) ∙ is

    -- A SITE'S TURN
    pub site-taken : (i : ℕ) (event : EventOf Cmd Answer PaymentOrder) (v new : ShownSite Cmd Setup B) (posted : List Envelope)
        (trailed : List Move) (report : Report)
        → turn post step ≡ Some (OfSite i event) → slice_get sites i ≡ Some v
        → ((x : Site Cmd) (choose : Choice Cmd) → IsRight (faults setup) choose → IsSite held setup i v x
        → IsServed held setup choose i x event new post posted report)
        → trailed ≡ trail ++ Takes step ∷ []
        → IsTaken held old (world_of setup first (slice_set sites i new) nodes clients posted trailed) step report
    unfolding moved
    site-taken i event v new posted trailed report is there serves noted =
        let x = other-there sites bank.sites i v at.shows.sites.count there in
        let served = serves x.0 choose at.list.right (at.shows.sites.each i v x.0 there x.1) in
        let s = site_step {R = Answer} {O = PaymentOrder} choose (faults setup) i x.0 event in
        record {
          moves =
              moved at (Takes step) (with_site bank i s.site (envelopes book (opening setup) i s))
              (world_of setup first (slice_set sites i new) nodes clients posted trailed)
              (record {
                turn_is = OfSite i event;
                has_turn = turns (OfSite i event) is;
                acts = record { before = x.0; is_there = x.1; allowed = served.allowed; leads = refl };
              })
              (record {
                sites = set-each (IsSite held setup) sites bank.sites i new s.site at.shows.sites served.site;
                nodes = at.shows.nodes;
                clients = at.shows.clients;
                post = served.sent ∙ ap (λ p. p ++ envelopes book (opening setup) i s) at.shows.post;
              })
              refl refl noted;
          told = served.told;
        }

    -- A SITE'S FALL
    pub site-down : (i : ℕ) (event : EventOf Cmd Answer PaymentOrder) (v new : ShownSite Cmd Setup B) (posted : List Envelope)
        (trailed : List Move) (cell : Boot)
        → turn post step ≡ Some (OfSite i event) → slice_get sites i ≡ Some v → cell ≡ held new.cell
        → ((x : Site Cmd) (choose : Choice Cmd) → IsRight (faults setup) choose → IsSite held setup i v x → IsDown held setup choose i x event new)
        → posted ≡ post → trailed ≡ trail ++ Falls step cell ∷ []
        → Moves held old (world_of setup first (slice_set sites i new) nodes clients posted trailed) (Falls step cell)
    unfolding moved
    site-down i event v new posted trailed cell is there cell_is goes kept noted =
        let x = other-there sites bank.sites i v at.shows.sites.count there in
        let down = goes x.0 choose at.list.right (at.shows.sites.each i v x.0 there x.1) in
        let y = over cell Down in
        let same = ap (λ (k : Boot). over {C = Cmd} k Down) (sym cell_is) in
        moved at (Falls step cell) (record bank { sites = slice_set bank.sites i y })
        (world_of setup first (slice_set sites i new) nodes clients posted trailed)
        (record {
          turn_is = OfSite i event;
          has_turn = turns (OfSite i event) is;
          falls =
              record {
                before = x.0;
                is_there = x.1;
                falls = subst (λ z. IsFall x.0 (site_step {R = Answer} {O = PaymentOrder} choose (faults setup) i x.0 event) z) same down.falls;
                leads = refl;
              };
        })
        (record {
          sites = set-each (IsSite held setup) sites bank.sites i new y at.shows.sites (subst (λ z. IsSite held setup i new z) same down.site);
          nodes = at.shows.nodes;
          clients = at.shows.clients;
          post = kept ∙ at.shows.post;
        })
        refl refl noted

    -- over what its event saves
    pub down-saved : (i : ℕ) (event : EventOf Cmd Answer PaymentOrder) (v new : ShownSite Cmd Setup B) (posted : List Envelope)
        (trailed : List Move) (cell : Boot)
        (is : turn post step ≡ Some (OfSite i event)) (there : slice_get sites i ≡ Some v) (cell_is : cell ≡ held new.cell)
        (goes : (x : Site Cmd) (choose : Choice Cmd) → IsRight (faults setup) choose → IsSite held setup i v x → IsDown held setup choose i x event new)
        (kept : posted ≡ post) (noted : trailed ≡ trail ++ Falls step cell ∷ []) → HoldsSaved held setup i v new event
        → IsOverSaved held old (world_of setup first (slice_set sites i new) nodes clients posted trailed) step cell
        (site-down i event v new posted trailed cell is there cell_is goes kept noted)
    unfolding site-down moved
    down-saved i event v new posted trailed cell is there cell_is goes kept noted saves =
        let x = other-there sites bank.sites i v at.shows.sites.count there in
        cell_is ∙ saves x.0 choose at.list.right (at.shows.sites.each i v x.0 there x.1)

    pub site-fell : (i : ℕ) (event : EventOf Cmd Answer PaymentOrder) (v new : ShownSite Cmd Setup B) (posted : List Envelope) (trailed : List Move)
        (fault : SiteFault) (cell : Boot)
        → turn post step ≡ Some (OfSite i event) → slice_get sites i ≡ Some v → is_fall fault ≡ true → cell ≡ held new.cell
        → ((x : Site Cmd) (choose : Choice Cmd) → IsRight (faults setup) choose → IsSite held setup i v x
        → IsUnserved held setup choose i x event v new post posted fault)
        → trailed ≡ trail ++ Falls step cell ∷ []
        → HasFallen held old (world_of setup first (slice_set sites i new) nodes clients posted trailed) step
    unfolding site-down moved
    site-fell i event v new posted trailed fault cell is there falls cell_is serves noted =
        let x = other-there sites bank.sites i v at.shows.sites.count there in
        let served = serves x.0 choose at.list.right (at.shows.sites.each i v x.0 there x.1) in
        let fell = served.fell falls in
        record {
          cell = cell;
          moves = site-down i event v new posted trailed cell is there cell_is
              (λ x choose right shown. let f = (serves x choose right shown).fell falls in record { falls = f.falls; site = f.site }) served.sent noted;
          handled = fell.handled;
          no_crash = λ site crash. fell.no_crash (same-event site i event (sym (ap (λ (s : Step). turn post s) crash) ∙ is));
        }

    pub site-falls : (i : ℕ) (event : EventOf Cmd Answer PaymentOrder) (v new : ShownSite Cmd Setup B) (posted : List Envelope) (trailed : List Move)
        (fault : SiteFault) (cell : Boot)
        → turn post step ≡ Some (OfSite i event) → slice_get sites i ≡ Some v → is_fall fault ≡ true → cell ≡ held new.cell
        → ((x : Site Cmd) (choose : Choice Cmd) → IsRight (faults setup) choose → IsSite held setup i v x
        → IsUnserved held setup choose i x event v new post posted fault)
        → trailed ≡ trail ++ Falls step cell ∷ []
        → IsRefused held old (world_of setup first (slice_set sites i new) nodes clients posted trailed) step (OfSiteFault fault)
    site-falls i event v new posted trailed fault cell is there falls cell_is serves noted = record {
      kept = λ no. absurd (true≢false (sym falls ∙ no));
      fell = λ yes. site-fell i event v new posted trailed fault cell is there falls cell_is serves noted;
    }

    -- a site refuses its turn
    pub site-stays : (i : ℕ) (event : EventOf Cmd Answer PaymentOrder) (v new : ShownSite Cmd Setup B) (posted : List Envelope)
        (trailed : List Move) (fault : SiteFault)
        → slice_get sites i ≡ Some v → is_fall fault ≡ false
        → ((x : Site Cmd) (choose : Choice Cmd) → IsRight (faults setup) choose → IsSite held setup i v x
        → IsUnserved held setup choose i x event v new post posted fault)
        → trailed ≡ trail
        → world_of setup first (slice_set sites i new) nodes clients posted trailed ≡ old
    site-stays i event v new posted trailed fault there stays serves noted =
        let x = other-there sites bank.sites i v at.shows.sites.count there in
        let served = serves x.0 choose at.list.right (at.shows.sites.each i v x.0 there x.1) in
        ap (λ s. world_of setup first s nodes clients posted trailed) (ap (λ n. slice_set sites i n) (served.refused stays).0 ∙ set-same sites i v there)
        ∙ ap (λ p. world_of setup first sites nodes clients p trailed) served.sent
        ∙ ap (λ t. world_of setup first sites nodes clients post t) noted

    named-refusal : (i : ℕ) (event : EventOf Cmd Answer PaymentOrder) (v : ShownSite Cmd Setup B) {x : Site Cmd} → IsSite held setup i v x
        → refusal {R = Answer} {O = PaymentOrder} v.f v.me (site_shown held v []) event ≡ refusal (faults setup) i x event
    named-refusal i event v {x} shown =
        ap (λ (f : ℕ). refusal {R = Answer} {O = PaymentOrder} f v.me (site_shown held v x.collected.acks) event) shown.f
        ∙ ap (λ (me : ℕ). refusal {R = Answer} {O = PaymentOrder} (faults setup) me (site_shown held v x.collected.acks) event) shown.me
        ∙ ap (λ (y : Site Cmd). refusal {R = Answer} {O = PaymentOrder} (faults setup) i y event) (sym shown.site)

    pub site-refuses : (i : ℕ) (event : EventOf Cmd Answer PaymentOrder) (v new : ShownSite Cmd Setup B) (posted : List Envelope)
        (trailed : List Move) (fault : SiteFault)
        → turn post step ≡ Some (OfSite i event) → slice_get sites i ≡ Some v → is_fall fault ≡ false
        → ((x : Site Cmd) (choose : Choice Cmd) → IsRight (faults setup) choose → IsSite held setup i v x
        → IsUnserved held setup choose i x event v new post posted fault)
        → trailed ≡ trail
        → IsRefused held old (world_of setup first (slice_set sites i new) nodes clients posted trailed) step (OfSiteFault fault)
    site-refuses i event v new posted trailed fault is there stays serves noted =
        let x = other-there sites bank.sites i v at.shows.sites.count there in
        let shown = at.shows.sites.each i v x.0 there x.1 in
        let served = serves x.0 choose at.list.right shown in
        record {
          kept =
              λ no. (
                site-stays i event v new posted trailed fault there stays serves noted,
                (OfSite i event, is, (v, there, named-refusal i event v shown ∙ (served.refused stays).1)),
              );
          fell = λ yes. absurd (true≢false (sym yes ∙ stays));
        }

    -- a site refuses to fall
    pub site-keeps : (i : ℕ) (event : EventOf Cmd Answer PaymentOrder) (v new : ShownSite Cmd Setup B) (trailed : List Move) (fault : SiteFault)
        → turn post step ≡ Some (OfSite i event) → slice_get sites i ≡ Some v
        → ((x : Site Cmd) (choose : Choice Cmd) → IsRight (faults setup) choose → IsSite held setup i v x → HasRefused setup i x event v new fault)
        → trailed ≡ trail
        → (world_of setup first (slice_set sites i new) nodes clients post trailed ≡ old) × IsWhy held old step (OfSiteFault fault) × (is_fall fault ≡ false)
    site-keeps i event v new trailed fault is there keeps noted =
        let x = other-there sites bank.sites i v at.shows.sites.count there in
        let shown = at.shows.sites.each i v x.0 there x.1 in
        let kept = keeps x.0 choose at.list.right shown in (
          ap (λ s. world_of setup first s nodes clients post trailed) (ap (λ n. slice_set sites i n) kept.same ∙ set-same sites i v there)
              ∙ ap (λ t. world_of setup first sites nodes clients post t) noted,
          (OfSite i event, is, (v, there, named-refusal i event v shown ∙ kept.refused)),
          refusal-stays (faults setup) i x.0 event fault kept.refused,
        )

    -- A NODE'S TURN
    pub node-taken : (i : ℕ) (event : NodeEvent) (v new : ShownNode) (sent posted : List Envelope) (trailed : List Move) (report : Report)
        → turn post step ≡ Some (OfNode i event) → slice_get nodes i ≡ Some v → node.IsStep v new (node.step_of v event) sent
        → posted ≡ post ++ sent → IsReport post posted None report → trailed ≡ trail ++ Takes step ∷ []
        → IsTaken held old (world_of setup first sites (slice_set nodes i new) clients posted trailed) step report
    unfolding node.step_of moved
    node-taken i event v new sent posted trailed report is there steps put told noted =
        let x = other-there nodes bank.nodes i v at.shows.nodes.count there in
        let shown = at.shows.nodes.each i v x.0 there x.1 in
        let s = node_step setup (faults setup) i x.0 event in
        let same = ap (λ (w : ShownNode). node_step w.setup (faults w.setup) w.ccy w.node event) shown in
        record {
          moves = moved at (Takes step) (with_node bank i s.node s.sent) (world_of setup first sites (slice_set nodes i new) clients posted trailed)
              (record {
                turn_is = OfNode i event;
                has_turn = turns (OfNode i event) is;
                acts = record { before = x.0; is_there = x.1; allowed = ap (λ t. t.fault) (sym same) ∙ steps.allowed; leads = refl };
              })
              (record {
                sites = at.shows.sites;
                nodes = set-each (IsNode setup) nodes bank.nodes i new s.node at.shows.nodes
                    (steps.node ∙ ap (λ (w : ShownNode). record w { node = (node_step v.setup (faults v.setup) v.ccy v.node event).node }) shown
                    ∙ ap (λ n. record { setup = setup; ccy = i; node = n }) (ap (λ t. t.node) same));
                clients = at.shows.clients;
                post = put ∙ ap (λ p. p ++ sent) at.shows.post ∙ ap (λ p. bank.post ++ p) (steps.sends ∙ ap (λ t. t.sent) same);
              })
              refl refl noted;
          told = told;
        }

    pub node-stays : (i : ℕ) (event : NodeEvent) (v new : ShownNode) (posted : List Envelope) (trailed : List Move) (fault : NodeFault)
        → slice_get nodes i ≡ Some v → node.IsRefusal v new (node.step_of v event) fault
        → posted ≡ post → trailed ≡ trail → world_of setup first sites (slice_set nodes i new) clients posted trailed ≡ old
    node-stays i event v new posted trailed fault there refuses put noted =
        ap (λ n. world_of setup first sites n clients posted trailed) (ap (λ n. slice_set nodes i n) refuses.node ∙ set-same nodes i v there)
        ∙ ap (λ p. world_of setup first sites nodes clients p trailed) put
        ∙ ap (λ t. world_of setup first sites nodes clients post t) noted

    pub node-refuses : (i : ℕ) (event : NodeEvent) (v new : ShownNode) (posted : List Envelope) (trailed : List Move) (fault : NodeFault)
        → turn post step ≡ Some (OfNode i event) → slice_get nodes i ≡ Some v → node.IsRefusal v new (node.step_of v event) fault
        → posted ≡ post → trailed ≡ trail
        → IsRefused held old (world_of setup first sites (slice_set nodes i new) clients posted trailed) step (OfNodeFault fault)
    node-refuses i event v new posted trailed fault is there refuses put noted = record {
      kept =
          λ no. (
            node-stays i event v new posted trailed fault there refuses put noted,
            (OfNode i event, is, (v, there, record { node = refl; why = refuses.why })),
          );
      fell = λ yes. absurd (true≢false (sym yes));
    }

    -- what a node sends has room where there is room for one envelope a site
    pub node-fits : IsValid setup → (i : ℕ) (event : NodeEvent) (v new : ShownNode) (sent : List Envelope) → slice_get nodes i ≡ Some v
        → node.IsStep v new (node.step_of v event) sent → length sent ≤ 7
    unfolding node.step_of
    node-fits valid i event v new sent there steps =
        let x = other-there nodes bank.nodes i v at.shows.nodes.count there in
        let made = ap (λ (w : ShownNode). w.setup) (at.shows.nodes.each i v x.0 there x.1) in
        let few = subst (λ (s : Setup). 2 * faults s + 1 ≤ 7) (sym made) (few-sites setup valid) in
        let low = node-few v.setup (faults v.setup) v.ccy v.node event in
        subst (λ es. length es ≤ 7) (sym steps.sends) (omega arith)

    -- A CLIENT'S TURN
    pub client-fits : IsValid setup → (i : ℕ) (event : ClientEvent) (v new : ShownClient) (sent : List Envelope) → slice_get clients i ≡ Some v
        → client.IsStep v new (client.step_of v event) sent → length sent ≤ 7
    client-fits valid i event v new sent there steps =
        let x = other-there clients bank.clients i v at.shows.clients.count there in
        let made = ap (λ (w : ShownClient). w.f) (at.shows.clients.each i v x.0 there x.1) in
        let few = subst (λ (f : ℕ). 2 * f + 1 ≤ 7) (sym made) (few-sites setup valid) in
        let low = client-few v.f v.me v.client event in
        subst (λ es. length es ≤ 7) (sym steps.sends) (omega arith)

    pub client-taken : (i : ℕ) (event : ClientEvent) (v new : ShownClient) (sent posted : List Envelope) (trailed : List Move) (report : Report)
        → turn post step ≡ Some (OfClient i event) → slice_get clients i ≡ Some v → client.IsStep v new (client.step_of v event) sent
        → posted ≡ post ++ sent → IsReport post posted None report → trailed ≡ trail ++ Takes step ∷ []
        → IsTaken held old (world_of setup first sites nodes (slice_set clients i new) posted trailed) step report
    unfolding moved
    client-taken i event v new sent posted trailed report is there steps put told noted =
        let x = other-there clients bank.clients i v at.shows.clients.count there in
        let shown = at.shows.clients.each i v x.0 there x.1 in
        let s = client_step (faults setup) i x.0 event in
        let same = ap (λ (w : ShownClient). client_step w.f w.me w.client event) shown in
        record {
          moves = moved at (Takes step) (with_client bank i s.client s.sent) (world_of setup first sites nodes (slice_set clients i new) posted trailed)
              (record {
                turn_is = OfClient i event;
                has_turn = turns (OfClient i event) is;
                acts = record { before = x.0; is_there = x.1; allowed = ap (λ t. t.fault) (sym same) ∙ steps.allowed; leads = refl };
              })
              (record {
                sites = at.shows.sites;
                nodes = at.shows.nodes;
                clients = set-each (IsClient setup) clients bank.clients i new s.client at.shows.clients
                    (steps.client ∙ ap (λ (w : ShownClient). record w { client = (client_step v.f v.me v.client event).client }) shown
                    ∙ ap (λ n. record { f = faults setup; me = i; client = n }) (ap (λ t. t.client) same));
                post = put ∙ ap (λ p. p ++ sent) at.shows.post ∙ ap (λ p. bank.post ++ p) (steps.sends ∙ ap (λ t. t.sent) same);
              })
              refl refl noted;
          told = told;
        }

    pub client-stays : (i : ℕ) (event : ClientEvent) (v new : ShownClient) (posted : List Envelope) (trailed : List Move) (fault : ClientFault)
        → slice_get clients i ≡ Some v → client.IsRefusal v new (client.step_of v event) fault
        → posted ≡ post → trailed ≡ trail → world_of setup first sites nodes (slice_set clients i new) posted trailed ≡ old
    client-stays i event v new posted trailed fault there refuses put noted =
        ap (λ n. world_of setup first sites nodes n posted trailed) (ap (λ n. slice_set clients i n) refuses.client ∙ set-same clients i v there)
        ∙ ap (λ p. world_of setup first sites nodes clients p trailed) put
        ∙ ap (λ t. world_of setup first sites nodes clients post t) noted

    pub client-refuses : (i : ℕ) (event : ClientEvent) (v new : ShownClient) (posted : List Envelope) (trailed : List Move) (fault : ClientFault)
        → turn post step ≡ Some (OfClient i event) → slice_get clients i ≡ Some v → client.IsRefusal v new (client.step_of v event) fault
        → posted ≡ post → trailed ≡ trail
        → IsRefused held old (world_of setup first sites nodes (slice_set clients i new) posted trailed) step (told_as fault)
    client-refuses i event v new posted trailed fault is there refuses put noted = record {
      kept = λ no. (client-stays i event v new posted trailed fault there refuses put noted, why fault (record { client = refl; why = refuses.why }));
      fell = λ yes. absurd (true≢false (sym yes ∙ no_fall fault));
    }
      where
        no_fall : (fault : ClientFault) → is_world_fall (told_as fault) ≡ false
        no_fall client_fault.Outstanding = refl
        no_fall client_fault.Spent = refl
        no_fall client_fault.NoMemory = refl

        why : (fault : ClientFault) → client.IsRefusal v v (client.step_of v event) fault → IsWhy held old step (told_as fault)
        why client_fault.Outstanding r = (OfClient i event, is, (v, there, r))
        why client_fault.Spent r = (OfClient i event, is, (v, there, r))
        why client_fault.NoMemory r =
            record { turn_is = OfClient i event; has_turn = is; there = nat_lt-holds i (length clients) (place-low clients i v there) }

-- what an index lends, by the number that it was made from
pub found : {A : Type 0} (xs : List A) (i j : ℕ) (x : A) → j ≡ i → i < length xs → x ≡ slice_index_or xs j x → slice_get xs j ≡ Some x
found xs i j x same low is = got xs j x (subst (λ k. k < length xs) (sym same) low) ∙ ap (λ y. Some y) (sym is)
