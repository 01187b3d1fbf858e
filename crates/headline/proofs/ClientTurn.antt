-- A client's step keeps the invariant: its number is no node's.
use Rattle.std.proofs.Common.{◌≡◌, ◌⊎◌, inl, inr, ℕ, ◌+◌, ◌≤◌, ◌==◌, Bool, true, false, if◌then◌else◌, List, [], ◌∷◌, ◌++◌, length, slice_get, Option, Some, None, sym, ap, ◌∙◌, arith, true≢false, refl}
use Rattle.std.specs.Prelude.{Contains}
use Rattle.std.proofs.lemmas.Option.{slice_get_within}
use Rattle.std.proofs.lemmas.List.Elements.{Contains-append_left, Contains-append_cases}
use Rattle.pvp_types.specs.declared.setup.Setup.{Setup}
use Rattle.pvp_types.specs.declared.command.Cmd.{Cmd}
use Rattle.pvp_types.specs.declared.command.Reply.{Reply as Answer}
use Rattle.pvp_types.specs.declared.command.PayOrder.{PayOrder as PaymentOrder}
use Rattle.vr_types.specs.declared.cell.Boot.{Boot}
use Rattle.vr_types.specs.declared.message.MsgOf.{MsgOf}
use Rattle.vr_types.specs.declared.message.MsgOf.TheVariants.{Request, Reply, PayOrder}
use Rattle.vr_types.specs.declared.message.ReplyOf.{ReplyOf}
use Rattle.vr_types.specs.declared.message.RequestOf.{RequestOf}
use Rattle.vr_types.specs.Group.{sites, actor_of}
use Rattle.vr_types.specs.Choice.{Choice}
use Rattle.vr_types.specs.Cell.{max_number}
use Rattle.pvp_book.specs.Ledger.{node_of}
use Rattle.rtgs_node.specs.Node.{Envelope, to_sites}
use Rattle.headline.specs.declared.step.ClientEvent.{ClientEvent}
use Rattle.headline.specs.declared.step.ClientEvent.TheVariants.{Submits, Takes, Beats}
use Rattle.headline.specs.declared.step.ClientFault.{ClientFault}
use Rattle.headline.specs.Client.{Client, ClientStep, does, refuses, on_submit, on_reply, on_message, on_beat, client_step}
use Rattle.headline.specs.declared.step.Move.{Move}
use Rattle.headline.specs.Bank.{Bank, with_client}
use Rattle.headline.specs.Legal.{Leads}
use Rattle.headline.proofs.Basics.{map-has, set-length}
use Rattle.headline.proofs.Between.{is_between}
use Rattle.headline.proofs.Runs.{legal-more}
use Rattle.agreement.proofs.Beginnings.{begins_itself}
use Rattle.headline.proofs.Invariant.{IsAsked, IsOrder, IsReply, Holds, HoldsOn}
use Rattle.headline.proofs.SiteTurn.{order-more, reply-more}

-- an envelope is a REQUEST of this client
record IsRequestOf (me : ℕ) (e : Envelope) : Type 0 where
  asked : RequestOf Cmd
  from : e.from ≡ me
  msg : e.msg ≡ Request asked

Asks : ℕ → ClientStep → Type 0
Asks me step = (e : Envelope) → Contains step.sent e → IsRequestOf me e

module _ (f me : ℕ) (x : Client) where
  silent : (e : Envelope) → Contains [] e → IsRequestOf me e
  silent e in' = absurd (let low = in'.1 in omega arith)

  asks : (number : ℕ) (cmd : Cmd) (e : Envelope) → Contains (to_sites f me number cmd) e → IsRequestOf me e
  asks number cmd e in' =
      let t = map-has (λ (j : ℕ). record { from = me; to = actor_of j; msg = Request (record { number = number; cmd = cmd }) }) (sites f) e in' in
      record { asked = record { number = number; cmd = cmd }; from = sym (ap (λ (d : Envelope). d.from) t.2); msg = sym (ap (λ (d : Envelope). d.msg) t.2) }

  submit-asks : (cmd : Cmd) (waiting : Option Cmd) → Asks me (on_submit f me x cmd waiting)
  unfolding Asks
  submit-asks cmd (Some waiting) = silent
  submit-asks cmd None = by (x.number == max_number)
    where
      by : (b : Bool)
          → Asks me (if b then refuses x ClientFault.Spent else does (record { number = x.number + 1; waiting = Some cmd; answer = None })
          (to_sites f me (x.number + 1) cmd))
      by true = silent
      by false = asks (x.number + 1) cmd

  reply-asks : (number : ℕ) (answer : Answer) (waiting : Option Cmd) → Asks me (on_reply f me x number answer waiting)
  unfolding Asks
  reply-asks number answer None = silent
  reply-asks number answer (Some cmd) = by (number == x.number)
    where
      by : (b : Bool) → Asks me (if b then does (record x { waiting = None; answer = Some answer }) [] else does x [])
      by true = silent
      by false = silent

  message-asks : (msg : MsgOf Cmd Answer PaymentOrder) → Asks me (on_message f me x msg)
  unfolding Asks
  message-asks (Reply msg) = reply-asks msg.number msg.reply x.waiting
  message-asks _ = silent

  beat-asks : (waiting : Option Cmd) → Asks me (on_beat f me x waiting)
  unfolding Asks
  beat-asks None = silent
  beat-asks (Some cmd) = asks x.number cmd

  client-asks : (event : ClientEvent) → Asks me (client_step f me x event)
  client-asks (Submits cmd) = submit-asks cmd x.waiting
  client-asks (Takes e) = message-asks e.msg
  client-asks Beats = beat-asks x.waiting

no_node : (k c : ℕ) → k ≤ 64 → k ≡ node_of c → ⊥
no_node k c low same = omega arith

module _ (setup : Setup) (choose : Choice Cmd) (f : ℕ) (cells : List Boot) (moves : List Move) (bank : Bank)
    (h : Holds setup choose f cells moves bank) (move : Move)
    (few : length setup.members ≤ 64) (k : ℕ) (event : ClientEvent) (x : Client) (is_there : slice_get bank.clients k ≡ Some x) where
  abbrev step : ClientStep
  step = client_step f k x event

  abbrev after : Bank
  after = with_client bank k step.client step.sent

  low : k ≤ 64
  low = let within = slice_get_within bank.clients k x is_there in let people = h.people in omega arith

  sent : (e : Envelope) → Contains step.sent e → IsRequestOf k e
  unfolding Asks
  sent = client-asks f k x event

  module _ (leads : Leads setup choose f bank move after) where
    order-stays : (d : ℕ) (o : PaymentOrder) → IsOrder setup choose f cells moves bank h.history d o
        → IsOrder setup choose f cells (moves ++ move ∷ []) after h.history d o
    order-stays d o is = order-more setup choose f cells moves bank move after h.history h.history d o leads (begins_itself h.history) is

    between_too : (e : Envelope) → Contains after.post e → is_between e.msg ≡ true → Contains h.world.sent e
    between_too e in' kind = by (Contains-append_cases bank.post step.sent e in')
      where
        by : Contains bank.post e ⊎ Contains step.sent e → Contains h.world.sent e
        by (inl old) = h.between e old kind
        by (inr new) = absurd (true≢false (sym kind ∙ ap is_between (sent e new).msg))

    requests_too : (e : Envelope) → Contains after.post e → IsAsked bank.nodes e
    requests_too e in' = by (Contains-append_cases bank.post step.sent e in')
      where
        by : Contains bank.post e ⊎ Contains step.sent e → IsAsked bank.nodes e
        by (inl old) = h.requests e old
        by (inr new) = λ asked is c within from. absurd (no_node k c low (sym (sent e new).from ∙ from))

    orders_too : (e : Envelope) (o : PaymentOrder) → Contains after.post e → e.msg ≡ PayOrder o
        → IsOrder setup choose f cells (moves ++ move ∷ []) after h.history o.ccy o
    orders_too e o in' is = by (Contains-append_cases bank.post step.sent e in')
      where
        by : Contains bank.post e ⊎ Contains step.sent e → IsOrder setup choose f cells (moves ++ move ∷ []) after h.history o.ccy o
        by (inl old) = order-stays o.ccy o (h.orders e o old is)
        by (inr new) = let same = sym (sent e new).msg ∙ is in absurd (cc)

    replies_too : (e : Envelope) (said : ReplyOf Answer) → Contains after.post e → e.msg ≡ Reply said
        → IsReply setup choose f cells (moves ++ move ∷ []) after h.world e
    replies_too e said in' is = by (Contains-append_cases bank.post step.sent e in')
      where
        by : Contains bank.post e ⊎ Contains step.sent e → IsReply setup choose f cells (moves ++ move ∷ []) after h.world e
        by (inl old) = reply-more setup choose f cells moves bank move after h.world h.world e leads (λ r in'. in') (h.replies e said old is)
        by (inr new) = let same = sym (sent e new).msg ∙ is in absurd (cc)

    pub client_steps : HoldsOn setup choose f cells h.history h.world (moves ++ move ∷ []) after
    client_steps = record {
      longer = begins_itself h.history;
      more = [];
      run = refl;
      holds = record {
        legal = legal-more setup choose f cells moves bank move after h.legal leads;
        events = h.events;
        world = h.world;
        alone = h.alone;
        sites = h.sites;
        history = h.history;
        begins = h.begins;
        one = h.one;
        rows = h.rows;
        asked = h.asked;
        between = between_too;
        arrived = λ i e in'. Contains-append_left bank.post step.sent e (h.arrived i e in');
        back = λ e in'. Contains-append_left bank.post step.sent e (h.back e in');
        told = λ r e in' is. Contains-append_left bank.post step.sent e (h.told r e in' is);
        requests = requests_too;
        orders = orders_too;
        replies = replies_too;
        count = h.count;
        people = set-length bank.clients k step.client ∙ h.people;
        nodes = h.nodes;
        done = λ c y o at in'. order-stays c o (h.done c y o at in');
      };
    }
