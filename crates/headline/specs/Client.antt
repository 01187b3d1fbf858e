-- A client: the operator or a member. It waits for the answer to one request before it makes the next.
use Rattle.std.specs.Prelude.{ℕ, ◌+◌, ◌==◌, if◌then◌else◌, List, [], Option, Some, None}
use Rattle.pvp_types.specs.declared.command.Cmd.{Cmd}
use Rattle.pvp_types.specs.declared.command.Reply.{Reply as Answer}
use Rattle.pvp_types.specs.declared.command.PayOrder.{PayOrder as PaymentOrder}
use Rattle.vr_types.specs.declared.message.MsgOf.{MsgOf}
use Rattle.vr_types.specs.declared.message.MsgOf.TheVariants.{Reply}
use Rattle.vr_types.specs.Cell.{max_number}
use Rattle.rtgs_node.specs.Node.{Envelope, to_sites}
use Rattle.headline.specs.declared.step.ClientEvent.{ClientEvent}
use Rattle.headline.specs.declared.step.ClientFault.{ClientFault}
use Rattle.headline.specs.declared.step.ClientFault.TheVariants.{Outstanding, Spent}
use Rattle.headline.specs.declared.step.ClientEvent.TheVariants.{Submits, Takes, Beats}

pub record Client : Type 0 where
  pub number : ℕ  -- of its last request, 0 for none
  pub waiting : Option Cmd  -- its last request, until the answer comes
  pub answer : Option Answer  -- the answer to its last request

abbrev pub opening_client : Client
opening_client = record { number = 0; waiting = None; answer = None }

-- the client after an event, and what it sends; where it refuses, it is unchanged and sends nothing
pub record ClientStep : Type 0 where
  pub client : Client
  pub sent : List Envelope
  pub fault : Option ClientFault

abbrev pub does : Client → List Envelope → ClientStep
does x sent = record { client = x; sent = sent; fault = None }

abbrev pub refuses : Client → ClientFault → ClientStep
refuses x fault = record { client = x; sent = []; fault = Some fault }

module _ (f me : ℕ) (x : Client) where
  -- the next request goes to every site
  abbrev pub on_submit : Cmd → Option Cmd → ClientStep
  on_submit cmd (Some waiting) = refuses x Outstanding
  on_submit cmd None =
      if x.number == max_number then refuses x Spent
      else does (record { number = x.number + 1; waiting = Some cmd; answer = None }) (to_sites f me (x.number + 1) cmd)

  -- a REPLY with the number of the request that waits is its answer
  abbrev pub on_reply : ℕ → Answer → Option Cmd → ClientStep
  on_reply number answer None = does x []
  on_reply number answer (Some cmd) =
      if number == x.number then does (record x { waiting = None; answer = Some answer }) [] else does x []

  -- all else does nothing
  abbrev pub on_message : MsgOf Cmd Answer PaymentOrder → ClientStep
  on_message (Reply msg) = on_reply msg.number msg.reply x.waiting
  on_message _ = does x []

  -- the request that waits is sent again
  abbrev pub on_beat : Option Cmd → ClientStep
  on_beat None = does x []
  on_beat (Some cmd) = does x (to_sites f me x.number cmd)

  -- what the client of number `me` does with any event
  abbrev pub client_step : ClientEvent → ClientStep
  client_step (Submits cmd) = on_submit cmd x.waiting
  client_step (Takes e) = on_message e.msg
  client_step Beats = on_beat x.waiting
