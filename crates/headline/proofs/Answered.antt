-- What a client has as its answer was sent to it, by a REPLY to just that request.
use Rattle.std.proofs.Common.{◌≡◌, ◌⊎◌, inl, inr, ℕ, ◌+◌, ◌==◌, Bool, true, false, if◌then◌else◌, List, [], ◌∷◌, ◌++◌, map, slice_get, Option, Some, None, refl, sym, ap, ◌∙◌, subst, eqb-true}
use Rattle.std.specs.Prelude.{Contains}
use Rattle.std.proofs.lemmas.List.Elements.{Contains-append_left}
use Rattle.pvp_types.specs.declared.setup.Setup.{Setup}
use Rattle.pvp_types.specs.declared.command.Cmd.{Cmd}
use Rattle.pvp_types.specs.declared.command.Reply.{Reply as Answer}
use Rattle.pvp_types.specs.declared.command.PayOrder.{PayOrder as PaymentOrder}
use Rattle.vr_types.specs.declared.cell.Boot.{Boot}
use Rattle.vr_types.specs.declared.message.MsgOf.{MsgOf}
use Rattle.vr_types.specs.declared.message.MsgOf.TheVariants.{Reply}
use Rattle.vr_types.specs.declared.message.ReplyOf.{ReplyOf}
use Rattle.vr_types.specs.Choice.{Choice}
use Rattle.vr_types.specs.Cell.{max_number}
use Rattle.vr_types.proofs.ChoosingPick.{Contains-cases}
use Rattle.rtgs_node.specs.Node.{Envelope, to_sites}
use Rattle.headline.specs.declared.step.ClientEvent.{ClientEvent}
use Rattle.headline.specs.declared.step.ClientEvent.TheVariants.{Submits, Takes, Beats}
use Rattle.headline.specs.declared.step.ClientFault.{ClientFault}
use Rattle.headline.specs.declared.step.Move.{Move}
use Rattle.headline.specs.declared.step.Move.TheVariants as move
use Rattle.headline.specs.declared.step.Turn.{Turn}
use Rattle.headline.specs.declared.step.Turn.TheVariants.{OfSite, OfNode, OfClient}
use Rattle.headline.specs.Client.{Client, ClientStep, opening_client, does, refuses, on_submit, on_reply, on_message, on_beat, client_step}
use Rattle.headline.specs.Bank.{Bank, opening_bank, with_client}
use Rattle.headline.specs.Legal.{Acts, FallsBy, Leads, IsRun}
use Rattle.headline.specs.Replies.{WasSentTo, AnswersWereTold}
use Rattle.headline.proofs.Basics.{none-some, some-same, there, map-has, set-at}
use Rattle.headline.proofs.Reached.{Carries, carries}

-- the client's answer was sent to it
abbrev IsTold : Bank → ℕ → Client → Type 0
IsTold bank k x = (answer : Answer) → x.answer ≡ Some answer → WasSentTo bank k x answer

untold : (bank : Bank) (k : ℕ) (x : Client) → x.answer ≡ None → IsTold bank k x
untold bank k x none answer is = absurd (none-some answer (sym none ∙ is))

-- it stays so while the post grows
later : (bank after : Bank) (k : ℕ) (x : Client) → ((e : Envelope) → Contains bank.post e → Contains after.post e) → IsTold bank k x → IsTold after k x
later bank after k x keeps told answer is =
    let was = told answer is in
    record {
      e = was.e;
      said = was.said;
      told = record { posted = keeps was.e was.told.posted; is = was.told.is };
      to = was.to;
      named = was.named;
      right = was.right;
    }

-- A CLIENT'S STEP

module _ (bank : Bank) (f k : ℕ) (x : Client) (told : IsTold bank k x) where
  abbrev StaysTold : ClientStep → Type 0
  StaysTold step = IsTold bank k step.client

  submit_tells : (cmd : Cmd) (waiting : Option Cmd) → StaysTold (on_submit f k x cmd waiting)
  submit_tells cmd (Some waiting) = told
  submit_tells cmd None = by (x.number == max_number)
    where
      by : (b : Bool)
          → StaysTold (if b then refuses x ClientFault.Spent else does (record { number = x.number + 1; waiting = Some cmd; answer = None })
          (to_sites f k (x.number + 1) cmd))
      by true = told
      by false = untold bank k (record { number = x.number + 1; waiting = Some cmd; answer = None }) refl

  beat_tells : (waiting : Option Cmd) → StaysTold (on_beat f k x waiting)
  beat_tells None = told
  beat_tells (Some cmd) = told

  module _ (e : Envelope) (came : Contains bank.post e) (to : e.to ≡ k) where
    reply_tells : (said : ReplyOf Answer) → e.msg ≡ Reply said → (waiting : Option Cmd) → StaysTold (on_reply f k x said.number said.reply waiting)
    reply_tells said is None = told
    reply_tells said is (Some cmd) = by (said.number == x.number) refl
      where
        by : (b : Bool) → (said.number == x.number) ≡ b
            → StaysTold (if b then does (record x { waiting = None; answer = Some said.reply }) [] else does x [])
        by true same answer right = record {
          e = e;
          said = said;
          told = record { posted = came; is = is };
          to = to;
          named = eqb-true said.number x.number same;
          right = some-same said.reply answer right;
        }
        by false same answer right = told answer right

    message_tells : (msg : MsgOf Cmd Answer PaymentOrder) → e.msg ≡ msg → StaysTold (on_message f k x msg)
    message_tells (Reply said) is = reply_tells said is x.waiting
    message_tells _ is = told

  step_tells : (event : ClientEvent) → ((e : Envelope) → event ≡ Takes e → Contains bank.post e × (e.to ≡ k)) → StaysTold (client_step f k x event)
  step_tells (Submits cmd) came = submit_tells cmd x.waiting
  step_tells (Takes e) came = let c = came e refl in message_tells e c.0 c.1 e.msg refl
  step_tells Beats came = beat_tells x.waiting

-- RUNS

pub opening_tells : (setup : Setup) (f : ℕ) (cells : List Boot) → AnswersWereTold (opening_bank setup f cells)
opening_tells setup f cells k x answer at is =
    by (Contains-cases opening_client x (map (λ member. opening_client) setup.members) (there (opening_bank setup f cells).clients k x at))
  where
    by : (opening_client ≡ x) ⊎ Contains (map (λ member. opening_client) setup.members) x → WasSentTo (opening_bank setup f cells) k x answer
    by (inl same) = absurd (none-some answer (ap (λ (y : Client). y.answer) same ∙ is))
    by (inr in') =
        let same = (map-has (λ member. opening_client) setup.members x in').2 in
        absurd (none-some answer (ap (λ (y : Client). y.answer) same ∙ is))

module _ (setup : Setup) (choose : Choice Cmd) (f : ℕ) where
  -- where no client changes and the post grows
  others_tell : (bank after : Bank) → AnswersWereTold bank → after.clients ≡ bank.clients → ((e : Envelope) → Contains bank.post e → Contains after.post e)
      → AnswersWereTold after
  others_tell bank after told same keeps k x answer at is =
      later bank after k x keeps (λ a. told k x a (ap (λ clients. slice_get clients k) (sym same) ∙ at)) answer is

  post_grows : (bank after : Bank) (sent : List Envelope) → after.post ≡ bank.post ++ sent → (e : Envelope) → Contains bank.post e → Contains after.post e
  post_grows bank after sent grown e in' = subst (λ (post : List Envelope). Contains post e) (sym grown) (Contains-append_left bank.post sent e in')

  -- where a client takes a step
  module _ (bank : Bank) (k : ℕ) (event : ClientEvent) (x : Client) (is_there : slice_get bank.clients k ≡ Some x)
      (came : (e : Envelope) → event ≡ Takes e → Contains bank.post e × (e.to ≡ k)) (told : AnswersWereTold bank) where
    abbrev step : ClientStep
    step = client_step f k x event

    abbrev next : Bank
    next = with_client bank k step.client step.sent

    keeps : (e : Envelope) → Contains bank.post e → Contains next.post e
    keeps e in' = Contains-append_left bank.post step.sent e in'

    mine : IsTold next k step.client
    mine = later bank next k step.client keeps (step_tells bank f k x (λ answer. told k x answer is_there) event came)

    client_tells : AnswersWereTold next
    client_tells j y answer at is = by (set-at bank.clients k step.client j y at)
      where
        by : ((k ≡ j) × (step.client ≡ y)) ⊎ (slice_get bank.clients j ≡ Some y) → WasSentTo next j y answer
        by (inl set) =
            subst (λ (n : ℕ). WasSentTo next n y answer) set.0
            (subst (λ (z : Client). IsTold next k z) set.1 mine answer is)
        by (inr old) = later bank next j y keeps (λ a. told j y a old) answer is

  acts_tell : (bank after : Bank) (t : Turn) → Carries bank.post t → AnswersWereTold bank → Acts setup choose f bank t after → AnswersWereTold after
  acts_tell bank after (OfSite i event) came told a =
      others_tell bank after told (ap (λ (b : Bank). b.clients) a.leads) (post_grows bank after _ (ap (λ (b : Bank). b.post) a.leads))
  acts_tell bank after (OfNode c event) came told a =
      others_tell bank after told (ap (λ (b : Bank). b.clients) a.leads) (post_grows bank after _ (ap (λ (b : Bank). b.post) a.leads))
  acts_tell bank after (OfClient k event) came told a =
      subst (λ (b : Bank). AnswersWereTold b) (sym a.leads) (client_tells bank k event a.before a.is_there came told)

  falls_tell : (bank after : Bank) (t : Turn) (cell : Boot) → AnswersWereTold bank → FallsBy setup choose f bank t cell after → AnswersWereTold after
  falls_tell bank after (OfSite i event) cell told a =
      subst (λ (b : Bank). AnswersWereTold b) (sym a.leads) (others_tell bank _ told refl (λ e in'. in'))
  falls_tell bank after (OfNode c event) cell told a = absurd a
  falls_tell bank after (OfClient k event) cell told a = absurd a

  move_tells : (bank after : Bank) (m : Move) → AnswersWereTold bank → Leads setup choose f bank m after → AnswersWereTold after
  move_tells bank after (move.Takes taken) told leads =
      acts_tell bank after leads.turn_is (carries bank.post taken leads.turn_is leads.has_turn) told leads.acts
  move_tells bank after (move.Falls missed cell) told leads = falls_tell bank after leads.turn_is cell told leads.falls

  pub run_tells : (moves : List Move) (bank after : Bank) → AnswersWereTold bank → IsRun setup choose f bank moves after → AnswersWereTold after
  run_tells [] bank after told run = subst (λ (b : Bank). AnswersWereTold b) (sym run) told
  run_tells (m ∷ moves) bank after told run = run_tells moves run.0 after (move_tells bank run.0 m told run.1) run.2
