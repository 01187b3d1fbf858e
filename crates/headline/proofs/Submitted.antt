-- Each row of a client has the command that was submitted there under the row's number.
use Rattle.std.proofs.Common.{◌≡◌, ◌⊎◌, inl, inr, ℕ, ◌+◌, ◌-◌, ◌<◌, ◌==◌, Bool, true, false, if◌then◌else◌, List, [], ◌∷◌, ◌++◌, length, length-append, take, map, slice_get, slice_set, Option, Some, None, option_map, refl, sym, ap, ◌∙◌, subst, append_assoc, append-nil, arith, true≢false, eqb-true}
use Rattle.std.specs.Prelude.{Contains}
use Rattle.std.specs.List.{cons_option, filter_map}
use Rattle.std.proofs.lemmas.Bool.{eq-eqb}
use Rattle.std.proofs.lemmas.List.Elements.{All-contains, Contains-append_cases, filter_map-append}
use Rattle.pvp_types.specs.declared.setup.Setup.{Setup}
use Rattle.pvp_types.specs.declared.command.Cmd.{Cmd}
use Rattle.pvp_types.specs.declared.command.Reply.{Reply as Answer}
use Rattle.pvp_types.specs.declared.command.PayOrder.{PayOrder as PaymentOrder}
use Rattle.pvp_types.specs.declared.step.Step.{Step}
use Rattle.pvp_types.specs.declared.step.Step.TheVariants.{Deliver as Delivers, PayIn as PaysIn, Close as Closes, Submit as Submits, Beat as Beats, Timer as Times, Crash as Crashes, Restart as Restarts}
use Rattle.vr_types.specs.declared.actors.ActorId.{ActorId}
use Rattle.vr_types.specs.declared.actors.ActorId.TheVariants as actor_id
use Rattle.vr_types.specs.declared.actors.TheConstants.{FIRST_NODE}
use Rattle.vr_types.specs.declared.cell.Boot.{Boot}
use Rattle.vr_types.specs.declared.event.EventOf.{EventOf}
use Rattle.vr_types.specs.declared.event.EventOf.TheVariants.{Deliver, Beat}
use Rattle.vr_types.specs.declared.message.MsgOf.{MsgOf}
use Rattle.vr_types.specs.declared.message.MsgOf.TheVariants.{Request, Reply}
use Rattle.vr_types.specs.declared.message.RequestOf.{RequestOf}
use Rattle.vr_types.specs.Actors.{id_of}
use Rattle.vr_types.specs.Cell.{max_number}
use Rattle.vr_types.specs.Execution.{held_after}
use Rattle.vr_types.specs.Choice.{Choice, IsRight}
use Rattle.vr_types.specs.Group.{sites, actor_of}
use Rattle.vr_types.specs.Handling.{site_step, envelopes, reply_to, order_to, machine_of}
use Rattle.vr_types.specs.Site.{Site}
use Rattle.vr_types.specs.Step as site
use Rattle.vr_types.proofs.ChoosingPick.{Contains-cases, Contains-none}
use Rattle.agreement.specs.Promises.{WasAsked}
use Rattle.agreement.proofs.Asked.{legal_rows}
use Rattle.pvp_book.specs.Answer.{Row}
use Rattle.pvp_book.specs.Ledger.{opening}
use Rattle.rtgs_node.specs.declared.event.NodeEvent.TheVariants as node
use Rattle.rtgs_node.specs.Node.{Envelope, to_sites}
use Rattle.headline.specs.Machine.{book}
use Rattle.headline.specs.declared.step.ClientEvent.{ClientEvent}
use Rattle.headline.specs.declared.step.ClientEvent.TheVariants as client
use Rattle.headline.specs.declared.step.ClientFault.{ClientFault}
use Rattle.headline.specs.declared.step.Move.{Move}
use Rattle.headline.specs.declared.step.Move.TheVariants.{Takes, Falls}
use Rattle.headline.specs.declared.step.Turn.{Turn}
use Rattle.headline.specs.declared.step.Turn.TheVariants.{OfSite, OfNode, OfClient}
use Rattle.headline.specs.Client.{Client, ClientStep, opening_client, does, refuses, on_submit, on_reply, on_message, on_beat, client_step}
use Rattle.headline.specs.Bank.{Bank, opening_bank, turn_at, delivery, turn, with_client}
use Rattle.headline.specs.Legal.{Acts, FallsBy, Leads, IsRun, LegalList}
use Rattle.headline.specs.Replies.{submitted_in, submitted_by, submitted, IsSubmitted, RowsWereSubmitted}
use Rattle.headline.proofs.Basics.{none-some, some-same, there, map-has, filter_map-has, set-at, set-here, at-append, at-end}
use Rattle.headline.proofs.Between.{is_between, step_between}
use Rattle.headline.proofs.Invariant.{Holds}
use Rattle.headline.proofs.NodeSteps.{node-keeps}

-- WHAT A TURN SUBMITS

abbrev at_turn : ℕ → Turn → Option Cmd
at_turn k (OfClient j (client.Submits cmd)) = if j == k then Some cmd else None
at_turn k _ = None

turn_submits : (post : List Envelope) (step : Step) (t : Turn) (k : ℕ) → turn post step ≡ Some t → submitted_in k step ≡ at_turn k t
turn_submits post (Delivers number) t k is = by (number == 0) (slice_get post (number - 1)) is
  where
    by_id : (d : Envelope) (id : ActorId) → None ≡ at_turn k (turn_at id (Deliver d) (node.Takes d) (client.Takes d))
    by_id d (actor_id.Site i) = refl
    by_id d (actor_id.Node c) = refl
    by_id d (actor_id.Client j) = refl

    by : (zero : Bool) (found : Option Envelope) → (if zero then None else option_map delivery found) ≡ Some t → None ≡ at_turn k t
    by true found e = absurd (none-some t e)
    by false None e = absurd (none-some t e)
    by false (Some d) e = subst (λ (u : Turn). None ≡ at_turn k u) (some-same (delivery d) t e) (by_id d (id_of d.to))
turn_submits post (PaysIn ccy member amt) t k is = subst (λ (u : Turn). None ≡ at_turn k u) (some-same _ t is) refl
turn_submits post (Closes ccy member) t k is = subst (λ (u : Turn). None ≡ at_turn k u) (some-same _ t is) refl
turn_submits post (Submits number cmd) t k is =
    subst (λ (u : Turn). (if number == k then Some cmd else None) ≡ at_turn k u) (some-same _ t is) refl
turn_submits post (Beats actor) t k is = subst (λ (u : Turn). None ≡ at_turn k u) (some-same _ t is) (by_id (id_of actor))
  where
    by_id : (id : ActorId) → None ≡ at_turn k (turn_at id Beat node.Beats client.Beats)
    by_id (actor_id.Site i) = refl
    by_id (actor_id.Node c) = refl
    by_id (actor_id.Client j) = refl
turn_submits post (Times i) t k is = subst (λ (u : Turn). None ≡ at_turn k u) (some-same _ t is) refl
turn_submits post (Crashes i) t k is = subst (λ (u : Turn). None ≡ at_turn k u) (some-same _ t is) refl
turn_submits post (Restarts i) t k is = subst (λ (u : Turn). None ≡ at_turn k u) (some-same _ t is) refl

-- WHAT IS COUNTED

pub record IsCounted (moves : List Move) (k : ℕ) (x : Client) : Type 0 where
  pub number : x.number ≡ length (submitted k moves)
  pub waiting : (cmd : Cmd) → x.waiting ≡ Some cmd → IsSubmitted moves k x.number cmd

pub record Counts (moves : List Move) (bank : Bank) : Type 0 where
  pub clients : (k : ℕ) (x : Client) → slice_get bank.clients k ≡ Some x → IsCounted moves k x
  pub asked : (e : Envelope) (a : RequestOf Cmd) → Contains bank.post e → e.msg ≡ Request a → e.from < FIRST_NODE
      → IsSubmitted moves e.from a.number a.cmd

module _ (moves : List Move) (m : Move) where
  abbrev next : List Move
  next = moves ++ m ∷ []

  grown : (k : ℕ) → submitted k next ≡ submitted k moves ++ cons_option (submitted_by k m) []
  grown k = filter_map-append (submitted_by k) moves (m ∷ [])

  none_more : (k : ℕ) → submitted_by k m ≡ None → submitted k next ≡ submitted k moves
  none_more k none = grown k ∙ ap (λ (o : Option Cmd). submitted k moves ++ cons_option o []) none ∙ append-nil (submitted k moves)

  one_more : (k : ℕ) (cmd : Cmd) → submitted_by k m ≡ Some cmd → submitted k next ≡ submitted k moves ++ cmd ∷ []
  one_more k cmd one = grown k ∙ ap (λ (o : Option Cmd). submitted k moves ++ cons_option o []) one

  stays : (k number : ℕ) (cmd : Cmd) → IsSubmitted moves k number cmd → IsSubmitted next k number cmd
  stays k number cmd was = record {
    counted = was.counted;
    is = ap (λ (l : List Cmd). slice_get l (number - 1)) (grown k)
        ∙ at-append (submitted k moves) (cons_option (submitted_by k m) []) (number - 1) cmd was.is;
  }

  counted_still : (k : ℕ) (x : Client) → submitted_by k m ≡ None → IsCounted moves k x → IsCounted next k x
  counted_still k x none was = record {
    number = was.number ∙ ap (length {A = Cmd}) (sym (none_more k none));
    waiting = λ cmd is. stays k x.number cmd (was.waiting cmd is);
  }

  -- A CLIENT'S STEP

  record StepCounts (k : ℕ) (step : ClientStep) : Type 0 where
    client : IsCounted next k step.client
    sent : (e : Envelope) (a : RequestOf Cmd) → Contains step.sent e → e.msg ≡ Request a → (e.from ≡ k) × IsSubmitted next k a.number a.cmd

  module _ (f k : ℕ) (x : Client) (was : IsCounted moves k x) where
    silent : (y : Client) → IsCounted next k y → StepCounts k (does y [])
    silent y counted = record { client = counted; sent = λ e a in'. absurd (Contains-none e in') }

    says : (y : Client) (number : ℕ) (cmd : Cmd) → IsCounted next k y → IsSubmitted next k number cmd → StepCounts k (does y (to_sites f k number cmd))
    says y number cmd counted is = record {
      client = counted;
      sent = λ e a in' asked.
          (let t = map-has (λ (j : ℕ). record { from = k; to = actor_of j; msg = Request (record { number = number; cmd = cmd }) }) (sites f) e in' in
          let same : ◌≡◌ {A = MsgOf Cmd Answer PaymentOrder} (Request (record { number = number; cmd = cmd })) (Request a) =
          ap (λ (d : Envelope). d.msg) t.2 ∙ asked in
          let one : record { number = number; cmd = cmd } ≡ a = cc in
          (sym (ap (λ (d : Envelope). d.from) t.2), subst (λ (b : RequestOf Cmd). IsSubmitted next k b.number b.cmd) one is));
    }

    submit_counts : (cmd : Cmd) (waiting : Option Cmd) → submitted_by k m ≡ Some cmd → (on_submit f k x cmd waiting).fault ≡ None
        → StepCounts k (on_submit f k x cmd waiting)
    submit_counts cmd (Some other) one allowed = absurd (none-some ClientFault.Outstanding (sym allowed))
    submit_counts cmd None one allowed = by (x.number == max_number) allowed
      where
        asks : IsSubmitted next k (x.number + 1) cmd
        asks = record {
          counted = omega arith;
          is =
              let place : x.number + 1 - 1 ≡ length (submitted k moves) = omega (arith, was.number) in
              ap (λ (n : ℕ). slice_get (submitted k next) n) place ∙ ap (λ (l : List Cmd). slice_get l (length (submitted k moves))) (one_more k cmd one)
              ∙ at-end (submitted k moves) cmd;
        }

        counted : IsCounted next k (record { number = x.number + 1; waiting = Some cmd; answer = None })
        counted = record {
          number =
              let long = ap (length {A = Cmd}) (one_more k cmd one) in
              let more = length-append (submitted k moves) (cmd ∷ []) in
              omega (arith, was.number, long, more);
          waiting = λ c is. subst (λ (d : Cmd). IsSubmitted next k (x.number + 1) d) (some-same cmd c is) asks;
        }

        by : (b : Bool)
            → (if b then refuses x ClientFault.Spent
            else does (record { number = x.number + 1; waiting = Some cmd; answer = None }) (to_sites f k (x.number + 1) cmd)).fault ≡ None
            → StepCounts k (if b then refuses x ClientFault.Spent
            else does (record { number = x.number + 1; waiting = Some cmd; answer = None }) (to_sites f k (x.number + 1) cmd))
        by true refused = absurd (none-some ClientFault.Spent (sym refused))
        by false ok = says (record { number = x.number + 1; waiting = Some cmd; answer = None }) (x.number + 1) cmd counted asks

    module _ (none : submitted_by k m ≡ None) where
      still : IsCounted next k x
      still = counted_still k x none was

      reply_counts : (number : ℕ) (answer : Answer) (waiting : Option Cmd) → StepCounts k (on_reply f k x number answer waiting)
      reply_counts number answer None = silent x still
      reply_counts number answer (Some cmd) = by (number == x.number)
        where
          by : (b : Bool) → StepCounts k (if b then does (record x { waiting = None; answer = Some answer }) [] else does x [])
          by true = silent (record x { waiting = None; answer = Some answer })
              (record { number = still.number; waiting = λ c is. absurd (none-some c is) })
          by false = silent x still

      message_counts : (msg : MsgOf Cmd Answer PaymentOrder) → StepCounts k (on_message f k x msg)
      message_counts (Reply msg) = reply_counts msg.number msg.reply x.waiting
      message_counts _ = silent x still

      beat_counts : (waiting : Option Cmd) → x.waiting ≡ waiting → StepCounts k (on_beat f k x waiting)
      beat_counts None is = silent x still
      beat_counts (Some cmd) is = says x x.number cmd still (still.waiting cmd is)

    step_counts : (event : ClientEvent) → submitted_by k m ≡ at_turn k (OfClient k event) → (client_step f k x event).fault ≡ None
        → StepCounts k (client_step f k x event)
    step_counts (client.Submits cmd) is allowed = submit_counts cmd x.waiting (is ∙ yes) allowed
      where
        yes : (if k == k then Some cmd else None) ≡ Some cmd
        yes = ap (λ (b : Bool). if b then Some cmd else None) (eq-eqb k k refl)
    step_counts (client.Takes e) is allowed = message_counts is e.msg
    step_counts client.Beats is allowed = beat_counts is x.waiting refl

-- A MOVE

-- a site sends no REQUEST
module _ (setup : Setup) (choose : Choice Cmd) (f i : ℕ) (x : Site Cmd) (event : EventOf Cmd Answer PaymentOrder) where
  abbrev step : site.Step Cmd Answer PaymentOrder
  step = site_step choose f i x event

  abbrev replies : List Envelope
  replies = filter_map (reply_to book (opening setup) i step.site) step.replies

  abbrev due : List (ℕ × PaymentOrder)
  due = book.orders (machine_of book (opening setup) step.site)

  no_request : (e : Envelope) (a : RequestOf Cmd) → Contains (envelopes book (opening setup) i step) e → e.msg ≡ Request a → ⊥
  no_request e a in' is = by_part (Contains-append_cases (step.sent ++ replies) (if step.orders then map (order_to i) due else []) e in')
    where
      by_due : (b : Bool) → Contains (if b then map (order_to i) due else []) e → ⊥
      by_due true ordered = let t = map-has (order_to i) due e ordered in let same = ap (λ (d : Envelope). d.msg) t.2 ∙ is in absurd (cc)
      by_due false ordered = Contains-none e ordered

      by_found : (place : ℕ) (found : Option Row)
          → option_map (λ (row : Row). record {
            from = actor_of i;
            to = row.client;
            msg = Reply (record {
              view = step.site.view;
              number = row.number;
              reply = book.answer (held_after book (opening setup) (take (place - 1) step.site.log)) row.client row.cmd;
            });
          }) found ≡ Some e → ⊥
      by_found place None same = none-some e same
      by_found place (Some row) same = let told = ap (λ (d : Envelope). d.msg) (some-same _ e same) ∙ is in absurd (cc)

      by_first : Contains step.sent e ⊎ Contains replies e → ⊥
      by_first (inl sent) =
          let kind =
          All-contains (λ (d : Envelope). is_between d.msg ≡ true) step.sent e (step_between {R = Answer} {O = PaymentOrder} f i x choose event).sent sent in
          true≢false (sym kind ∙ ap is_between is)
      by_first (inr reply) =
          let t = filter_map-has (reply_to book (opening setup) i step.site) step.replies e reply in
          by_found t.0 (slice_get step.site.log (t.0 - 1)) t.2

      by_part : Contains (step.sent ++ replies) e ⊎ Contains (if step.orders then map (order_to i) due else []) e → ⊥
      by_part (inl first) = by_first (Contains-append_cases step.sent replies e first)
      by_part (inr ordered) = by_due step.orders ordered

module _ (setup : Setup) (choose : Choice Cmd) (f : ℕ) where
  -- where no client changes, and nothing is asked in a client's name
  others_count : (moves : List Move) (m : Move) (bank after : Bank) (sent : List Envelope) → ((k : ℕ) → submitted_by k m ≡ None) → Counts moves bank
      → after.clients ≡ bank.clients → after.post ≡ bank.post ++ sent
      → ((e : Envelope) (a : RequestOf Cmd) → Contains sent e → e.msg ≡ Request a → e.from < FIRST_NODE → ⊥) → Counts (moves ++ m ∷ []) after
  others_count moves m bank after sent none was same grown nothing = record {
    clients = λ k x at. counted_still moves m k x (none k) (was.clients k x (ap (λ (l : List Client). slice_get l k) (sym same) ∙ at));
    asked = λ e a in' is low.
        by e a is low (Contains-append_cases bank.post sent e (subst (λ (post : List Envelope). Contains post e) grown in'));
  }
    where
      by : (e : Envelope) (a : RequestOf Cmd) → e.msg ≡ Request a → e.from < FIRST_NODE → Contains bank.post e ⊎ Contains sent e
          → IsSubmitted (moves ++ m ∷ []) e.from a.number a.cmd
      by e a is low (inl old) = stays moves m e.from a.number a.cmd (was.asked e a old is low)
      by e a is low (inr new) = absurd (nothing e a new is low)

  client_counts : (moves : List Move) (m : Move) (bank : Bank) (j : ℕ) (event : ClientEvent) (x : Client) → slice_get bank.clients j ≡ Some x
      → (client_step f j x event).fault ≡ None → ((k : ℕ) → submitted_by k m ≡ at_turn k (OfClient j event)) → Counts moves bank
      → Counts (moves ++ m ∷ []) (with_client bank j (client_step f j x event).client (client_step f j x event).sent)
  client_counts moves m bank j event x is_there allowed submits was = record {
    clients = λ k y at. by_place k y (j == k) refl at;
    asked = λ e a in' is low. by_post e a is low (Contains-append_cases bank.post (client_step f j x event).sent e in');
  }
    where
      here : StepCounts moves m j (client_step f j x event)
      here = step_counts moves m f j x (was.clients j x is_there) event (submits j) allowed

      apart : (k : ℕ) → (j == k) ≡ false → submitted_by k m ≡ None
      apart k other = submits k ∙ at_other event
        where
          at_other : (ev : ClientEvent) → at_turn k (OfClient j ev) ≡ None
          at_other (client.Submits cmd) = ap (λ (b : Bool). if b then Some cmd else None) other
          at_other (client.Takes e) = refl
          at_other client.Beats = refl

      by_set : (k : ℕ) (y : Client) → (j == k) ≡ false → ((j ≡ k) × ((client_step f j x event).client ≡ y)) ⊎ (slice_get bank.clients k ≡ Some y)
          → IsCounted (moves ++ m ∷ []) k y
      by_set k y other (inl set) = absurd (true≢false (sym (eq-eqb j k set.0) ∙ other))
      by_set k y other (inr at) = counted_still moves m k y (apart k other) (was.clients k y at)

      by_place : (k : ℕ) (y : Client) (b : Bool) → (j == k) ≡ b → slice_get (slice_set bank.clients j (client_step f j x event).client) k ≡ Some y
          → IsCounted (moves ++ m ∷ []) k y
      by_place k y true test at =
          let place = eqb-true j k test in
          let same = some-same _ y (sym (set-here bank.clients j x (client_step f j x event).client is_there)
          ∙ (ap (λ (n : ℕ). slice_get (slice_set bank.clients j (client_step f j x event).client) n) place ∙ at)) in
          subst (λ (n : ℕ). IsCounted (moves ++ m ∷ []) n y) place (subst (λ (z : Client). IsCounted (moves ++ m ∷ []) j z) same here.client)
      by_place k y false test at = by_set k y test (set-at bank.clients j (client_step f j x event).client k y at)

      by_post : (e : Envelope) (a : RequestOf Cmd) → e.msg ≡ Request a → e.from < FIRST_NODE
          → Contains bank.post e ⊎ Contains (client_step f j x event).sent e → IsSubmitted (moves ++ m ∷ []) e.from a.number a.cmd
      by_post e a is low (inl old) = stays moves m e.from a.number a.cmd (was.asked e a old is low)
      by_post e a is low (inr new) =
          let t = here.sent e a new is in subst (λ (n : ℕ). IsSubmitted (moves ++ m ∷ []) n a.number a.cmd) (sym t.0) t.1

  acts_count : (moves : List Move) (m : Move) (bank after : Bank) (t : Turn) → ((k : ℕ) → submitted_by k m ≡ at_turn k t) → Counts moves bank
      → Acts setup choose f bank t after → Counts (moves ++ m ∷ []) after
  acts_count moves m bank after (OfSite i event) submits was a =
      others_count moves m bank after _ submits was (ap (λ (b : Bank). b.clients) a.leads) (ap (λ (b : Bank). b.post) a.leads)
      (λ e r in' is low. no_request setup choose f i a.before event e r in' is)
  acts_count moves m bank after (OfNode c event) submits was a =
      others_count moves m bank after _ submits was (ap (λ (b : Bank). b.clients) a.leads) (ap (λ (b : Bank). b.post) a.leads)
      (λ e r in' is low. (let from = ((node-keeps setup f c a.before event).sent e in').from in omega (arith, from, low)))
  acts_count moves m bank after (OfClient j event) submits was a =
      subst (λ (b : Bank). Counts (moves ++ m ∷ []) b) (sym a.leads) (client_counts moves m bank j event a.before a.is_there a.allowed submits was)

  falls_count : (moves : List Move) (m : Move) (bank after : Bank) (t : Turn) (cell : Boot) → ((k : ℕ) → submitted_by k m ≡ None) → Counts moves bank
      → FallsBy setup choose f bank t cell after → Counts (moves ++ m ∷ []) after
  falls_count moves m bank after (OfSite i event) cell none was a =
      subst (λ (b : Bank). Counts (moves ++ m ∷ []) b) (sym a.leads)
      (others_count moves m bank _ [] none was refl (sym (append-nil bank.post)) (λ e r in'. absurd (Contains-none e in')))
  falls_count moves m bank after (OfNode c event) cell none was a = absurd a
  falls_count moves m bank after (OfClient k event) cell none was a = absurd a

  move_counts : (moves : List Move) (m : Move) (bank after : Bank) → Counts moves bank → Leads setup choose f bank m after → Counts (moves ++ m ∷ []) after
  move_counts moves (Takes taken) bank after was leads =
      acts_count moves (Takes taken) bank after leads.turn_is (λ k. turn_submits bank.post taken leads.turn_is k leads.has_turn) was leads.acts
  move_counts moves (Falls missed cell) bank after was leads =
      falls_count moves (Falls missed cell) bank after leads.turn_is cell (λ k. refl) was leads.falls

  run_counts : (more moves : List Move) (bank after : Bank) → Counts moves bank → IsRun setup choose f bank more after → Counts (moves ++ more) after
  run_counts [] moves bank after was run =
      subst (λ (b : Bank). Counts (moves ++ []) b) (sym run) (subst (λ (l : List Move). Counts l bank) (sym (append-nil moves)) was)
  run_counts (m ∷ more) moves bank after was run =
      subst (λ (l : List Move). Counts l after) (append_assoc moves (m ∷ []) more)
      (run_counts more (moves ++ m ∷ []) run.0 after (move_counts moves m bank run.0 was run.1) run.2)

opening_counts : (setup : Setup) (f : ℕ) (cells : List Boot) → Counts [] (opening_bank setup f cells)
opening_counts setup f cells = record {
  clients = λ k x at. by k x
      (Contains-cases opening_client x (map (λ member. opening_client) setup.members) (there (opening_bank setup f cells).clients k x at));
  asked = λ e a in'. absurd (Contains-none e in');
}
  where
    fresh : (k : ℕ) (x : Client) → opening_client ≡ x → IsCounted [] k x
    fresh k x same = subst (λ (y : Client). IsCounted [] k y) same (record { number = refl; waiting = λ cmd is. absurd (none-some cmd is) })

    by : (k : ℕ) (x : Client) → (opening_client ≡ x) ⊎ Contains (map (λ member. opening_client) setup.members) x → IsCounted [] k x
    by k x (inl same) = fresh k x same
    by k x (inr in') = fresh k x (map-has (λ member. opening_client) setup.members x in').2

pub list_counts : {setup : Setup} {f : ℕ} (list : LegalList setup f) → Counts list.moves list.bank
list_counts {setup} {f} list =
    run_counts setup list.choose f list.moves [] (opening_bank setup f list.cells) list.bank (opening_counts setup f list.cells) list.legal.run

-- THE ROWS OF LOGS came by REQUESTs that are in the post
pub rows_submitted : {setup : Setup} {f : ℕ} (list : LegalList setup f) → Holds setup list.choose f list.cells list.moves list.bank → IsRight f list.choose
    → Counts list.moves list.bank → RowsWereSubmitted list
rows_submitted {setup} {f} list h right counts x row in' has low =
    let rows = legal_rows list.choose f right list.cells h.events h.world h.alone in
    let asked = All-contains (WasAsked h.events) x.log row (rows.sites x (subst (λ (l : List (Site Cmd)). Contains l x) (sym h.sites) in')).log has in
    let posted = h.arrived asked.site _ asked.taken in
    counts.asked _ (record { number = row.number; cmd = row.cmd }) posted refl low
