-- The invariant holds of every bank that a legal list leads to, and the history only grows.
use Rattle.std.proofs.Common.{◌≡◌, inr, ℕ, suc, ◌+◌, ◌-◌, ◌*◌, ◌≤◌, ◌==◌, Bool, true, false, if◌then◌else◌, List, [], ◌∷◌, ◌++◌, length, map, slice_get, Option, Some, None, option_map, refl, sym, ap, subst, append_assoc, append-nil, arith}
use Rattle.std.specs.Prelude.{Contains}
use Rattle.pvp_types.specs.declared.setup.Setup.{Setup}
use Rattle.pvp_types.specs.declared.command.Cmd.{Cmd}
use Rattle.pvp_types.specs.declared.step.Step.{Step}
use Rattle.pvp_types.specs.declared.step.Step.TheVariants.{Deliver as Delivers, PayIn as PaysIn, Close as Closes, Submit as Submits, Beat as Beats, Timer as Times, Crash as Crashes, Restart as Restarts}
use Rattle.vr_types.specs.declared.cell.Boot.{Boot}
use Rattle.vr_types.specs.declared.event.EventOf.TheVariants.{Deliver, Beat}
use Rattle.vr_types.specs.declared.event.Status.TheVariants.{Normal, Down}
use Rattle.vr_types.specs.Site.{Site, over, no_boots, opening_site, executed_rows}
use Rattle.vr_types.specs.Choice.{Choice, IsRight}
use Rattle.agreement.specs.Worlds as worlds
use Rattle.agreement.specs.Promises.{Begins}
use Rattle.rtgs_node.specs.declared.event.NodeEvent.TheVariants as node
use Rattle.rtgs_node.specs.Node.{Envelope, Node, opening_node}
use Rattle.headline.specs.declared.step.ClientEvent.TheVariants as client
use Rattle.headline.specs.Client.{opening_client}
use Rattle.headline.specs.declared.step.Move.{Move}
use Rattle.headline.specs.declared.step.Move.TheVariants.{Takes, Falls}
use Rattle.headline.specs.declared.step.Turn.{Turn}
use Rattle.headline.specs.declared.step.Turn.TheVariants.{OfSite, OfNode, OfClient}
use Rattle.vr_types.specs.Actors.{id_of}
use Rattle.vr_types.specs.declared.actors.ActorId.{ActorId}
use Rattle.vr_types.specs.declared.actors.ActorId.TheVariants as actor_id
use Rattle.headline.specs.Bank.{Bank, opening_bank, turn_at, turn_of, delivery, turn}
use Rattle.headline.specs.Legal.{Acts, FallsBy, Leads, IsRun}
use Rattle.headline.proofs.Basics.{none-some, some-same, there, map-has, map-length}
use Rattle.agreement.proofs.Beginnings.{begins_itself, begins-trans}
use Rattle.headline.proofs.Invariant.{IsSoundNode, Holds, HoldsOn}
use Rattle.headline.proofs.Runs.{runs-join}
use Rattle.headline.proofs.SiteTurn.{site_steps, site_falls}
use Rattle.headline.proofs.NodeTurn.{node_steps}
use Rattle.headline.proofs.ClientTurn.{client_steps}
use Rattle.headline.proofs.Turns.{client_number}

-- THE OPENING

none : {A : Type 0} (x : A) → Contains [] x → ⊥
none x in' = let low = in'.1 in omega arith

opening-sound : (c : ℕ) → IsSoundNode c opening_node
opening-sound c = record {
  notices = λ i cmd is. absurd (none-some _ is);
  once = λ out. omega arith;
  apart = λ out is. refl;
}

module _ (setup : Setup) (choose : Choice Cmd) (f : ℕ) (cells : List Boot) (all : length cells ≡ 2 * f + 1) where
  opening-begins : (x : Site Cmd) → Contains (map (opening_site f) cells) x → Begins (executed_rows x) []
  opening-begins x in' = let t = map-has (opening_site f) cells x in' in subst (λ (y : Site Cmd). Begins (executed_rows y) []) t.2 (by t.0 (t.0.boots == 0))
    where
      by : (cell : Boot) (b : Bool) → Begins (executed_rows {C = Cmd} (if b then record (over cell Normal) { known = no_boots f } else over cell Down)) []
      by cell true = record { rest = []; is = refl }
      by cell false = record { rest = []; is = refl }

  opening-node : (c : ℕ) (x : Node) → slice_get (opening_bank setup f cells).nodes c ≡ Some x → opening_node ≡ x
  opening-node c x at = (map-has (λ currency. opening_node) setup.currencies x (there (opening_bank setup f cells).nodes c x at)).2

  pub opening-holds : Holds setup choose f cells [] (opening_bank setup f cells)
  opening-holds = record {
    legal = record { all = all; run = refl };
    events = [];
    world = worlds.opening_world f cells;
    alone = record { all = all; run = refl };
    sites = refl;
    history = [];
    begins = opening-begins;
    one = λ more later y run in'. inr (record { rest = executed_rows y; is = refl });
    rows = λ row in'. absurd (none row in');
    asked = λ i e in'. absurd (none _ in');
    arrived = λ i e in'. absurd (none _ in');
    between = λ e in'. absurd (none e in');
    back = λ e in'. absurd (none e in');
    told = λ r e in' is. absurd (none r in');
    requests = λ e in'. absurd (none e in');
    orders = λ e o in'. absurd (none e in');
    replies = λ e said in'. absurd (none e in');
    count = map-length (λ currency. opening_node) setup.currencies;
    people = ap (λ n. suc n) (map-length (λ member. opening_client) setup.members);
    nodes = λ c x at. subst (λ (y : Node). IsSoundNode c y) (opening-node c x at) (opening-sound c);
    done = λ c x o at in'. absurd (none o (subst (λ (y : Node). Contains y.pay_outs o) (sym (opening-node c x at)) in'));
  }

-- WHAT COMES WAS SENT

abbrev pub Carries : List Envelope → Turn → Type 0
Carries post (OfSite i event) = (e : Envelope) → event ≡ Deliver e → Contains post e
Carries post (OfNode c event) = (e : Envelope) → event ≡ node.Takes e → Contains post e
Carries post (OfClient k event) = (e : Envelope) → event ≡ client.Takes e → Contains post e × (e.to ≡ k)

delivery-carries : (post : List Envelope) (d : Envelope) → Contains post d → Carries post (delivery d)
delivery-carries post d in' = by (id_of d.to) refl
  where
    by : (id : ActorId) → id_of d.to ≡ id → Carries post (turn_at id (Deliver d) (node.Takes d) (client.Takes d))
    by (actor_id.Site i) is = λ e same. subst (λ (x : Envelope). Contains post x) (cc) in'
    by (actor_id.Node c) is = λ e same. subst (λ (x : Envelope). Contains post x) (cc) in'
    by (actor_id.Client k) is = λ e same. subst (λ (x : Envelope). Contains post x × (x.to ≡ k)) (cc) (in', client_number d.to k is)

beat-carries : (post : List Envelope) (actor : ℕ) → Carries post (turn_of actor Beat node.Beats client.Beats)
beat-carries post actor = by (id_of actor)
  where
    by : (id : ActorId) → Carries post (turn_at id Beat node.Beats client.Beats)
    by (actor_id.Site i) = λ e same. absurd (cc)
    by (actor_id.Node c) = λ e same. absurd (cc)
    by (actor_id.Client k) = λ e same. absurd (cc)

pub carries : (post : List Envelope) (step : Step) (t : Turn) → turn post step ≡ Some t → Carries post t
carries post (Delivers number) t is = by (number == 0) (slice_get post (number - 1)) refl is
  where
    by : (zero : Bool) (found : Option Envelope) → slice_get post (number - 1) ≡ found → (if zero then None else option_map delivery found) ≡ Some t
        → Carries post t
    by true found at e = absurd (none-some t e)
    by false None at e = absurd (none-some t e)
    by false (Some d) at e = subst (λ (u : Turn). Carries post u) (some-same (delivery d) t e) (delivery-carries post d (there post (number - 1) d at))
carries post (PaysIn ccy member amt) t is = subst (λ (u : Turn). Carries post u) (some-same _ t is) (λ e same. absurd (cc))
carries post (Closes ccy member) t is = subst (λ (u : Turn). Carries post u) (some-same _ t is) (λ e same. absurd (cc))
carries post (Submits number cmd) t is = subst (λ (u : Turn). Carries post u) (some-same _ t is) (λ e same. absurd (cc))
carries post (Beats actor) t is = subst (λ (u : Turn). Carries post u) (some-same _ t is) (beat-carries post actor)
carries post (Times site) t is = subst (λ (u : Turn). Carries post u) (some-same _ t is) (λ e same. absurd (cc))
carries post (Crashes site) t is = subst (λ (u : Turn). Carries post u) (some-same _ t is) (λ e same. absurd (cc))
carries post (Restarts site) t is = subst (λ (u : Turn). Carries post u) (some-same _ t is) (λ e same. absurd (cc))

-- MOVES AND RUNS

module _ (setup : Setup) (few : length setup.members ≤ 64) (choose : Choice Cmd) (f : ℕ) (right : IsRight f choose) (cells : List Boot) where
  abbrev pub KeptBy : {moves : List Move} {bank : Bank} → Holds setup choose f cells moves bank → Move → Bank → Type 0
  KeptBy {moves} h move after = HoldsOn setup choose f cells h.history h.world (moves ++ move ∷ []) after

  acts-keep : (moves : List Move) (bank : Bank) (h : Holds setup choose f cells moves bank) (move : Move) (after : Bank) (t : Turn)
      → Carries bank.post t → Acts setup choose f bank t after → Leads setup choose f bank move after → KeptBy h move after
  acts-keep moves bank h move after (OfSite i event) came a leads =
      subst (λ (b : Bank). Leads setup choose f bank move b → KeptBy h move b) (sym a.leads)
      (λ l. site_steps setup choose f cells right moves bank h move i event a.before a.is_there a.allowed came l) leads
  acts-keep moves bank h move after (OfNode c event) came a leads =
      subst (λ (b : Bank). Leads setup choose f bank move b → KeptBy h move b) (sym a.leads)
      (λ l. node_steps setup choose f cells moves bank h move c event a.before a.is_there came l) leads
  acts-keep moves bank h move after (OfClient k event) came a leads =
      subst (λ (b : Bank). Leads setup choose f bank move b → KeptBy h move b) (sym a.leads)
      (λ l. client_steps setup choose f cells moves bank h move few k event a.before a.is_there l) leads

  falls-keep : (moves : List Move) (bank : Bank) (h : Holds setup choose f cells moves bank) (move : Move) (cell : Boot) (after : Bank) (t : Turn)
      → Carries bank.post t → FallsBy setup choose f bank t cell after → Leads setup choose f bank move after → KeptBy h move after
  falls-keep moves bank h move cell after (OfSite i event) came a leads =
      subst (λ (b : Bank). Leads setup choose f bank move b → KeptBy h move b) (sym a.leads)
      (λ l. site_falls setup choose f cells right moves bank h move i event a.before a.is_there cell a.falls came l) leads
  falls-keep moves bank h move cell after (OfNode c event) came a leads = absurd a
  falls-keep moves bank h move cell after (OfClient k event) came a leads = absurd a

  pub move-keeps : (moves : List Move) (bank : Bank) (h : Holds setup choose f cells moves bank) (move : Move) (after : Bank)
      → Leads setup choose f bank move after → KeptBy h move after
  move-keeps moves bank h (Takes step) after leads =
      acts-keep moves bank h (Takes step) after leads.turn_is (carries bank.post step leads.turn_is leads.has_turn) leads.acts leads
  move-keeps moves bank h (Falls step cell) after leads =
      falls-keep moves bank h (Falls step cell) cell after leads.turn_is (carries bank.post step leads.turn_is leads.has_turn) leads.falls leads

  pub run-keeps : (moves : List Move) (bank : Bank) (h : Holds setup choose f cells moves bank) (more : List Move) (after : Bank)
      → IsRun setup choose f bank more after
      → HoldsOn setup choose f cells h.history h.world (moves ++ more) after
  run-keeps moves bank h [] after run =
      subst (λ (b : Bank). HoldsOn setup choose f cells h.history h.world (moves ++ []) b) (sym run)
      (subst (λ (ms : List Move). HoldsOn setup choose f cells h.history h.world ms bank) (sym (append-nil moves))
      (record { holds = h; longer = begins_itself h.history; more = []; run = refl }))
  run-keeps moves bank h (move ∷ more) after run =
      let one = move-keeps moves bank h move run.0 run.1 in
      let rest = run-keeps (moves ++ move ∷ []) run.0 one.holds more after run.2 in
      subst (λ (ms : List Move). HoldsOn setup choose f cells h.history h.world ms after) (append_assoc moves (move ∷ []) more)
      (record {
        holds = rest.holds;
        longer = begins-trans one.longer rest.longer;
        more = one.more ++ rest.more;
        run = runs-join choose f h.world one.more rest.more one.holds.world rest.holds.world one.run rest.run;
      })

  pub legal-holds : (moves : List Move) (bank : Bank) → length cells ≡ 2 * f + 1 → IsRun setup choose f (opening_bank setup f cells) moves bank
      → Holds setup choose f cells moves bank
  legal-holds moves bank all run = (run-keeps [] (opening_bank setup f cells) (opening-holds setup choose f cells all) moves bank run).holds
