-- The complete step of a site: what it does with any event.
use Rattle.std.specs.Prelude.{◌≡◌, ℕ, ◌-◌, ◌==◌, ◌&&◌, ◌⊎◌, ◌++◌, Bool, true, false, not, List, [], map, slice_get, filter_map, Option, Some, None, option_map, if◌then◌else◌}
use Rattle.vr_types.specs.declared.event.EventOf.{EventOf}
use Rattle.vr_types.specs.declared.event.EventOf.TheVariants.{Deliver, Timer, Beat, Crash, Restart}
use Rattle.vr_types.specs.declared.event.SiteFault.{SiteFault}
use Rattle.vr_types.specs.declared.event.SiteFault.TheVariants.{NotUp, AlreadyUp, ViewsSpent, BootsSpent, NotMine}
use Rattle.vr_types.specs.declared.event.Status as status
use Rattle.vr_types.specs.declared.event.Status.TheVariants.{Normal, Change, Recovering, Down}
use Rattle.vr_types.specs.declared.event.Why.{Why}
use Rattle.vr_types.specs.declared.machine.Machine.{Ghosts}
use Rattle.vr_types.specs.declared.message.EnvelopeOf.{EnvelopeOf}
use Rattle.vr_types.specs.declared.message.MsgOf.{MsgOf}
use Rattle.vr_types.specs.declared.message.MsgOf.TheVariants.{Request, Prepare, PrepareOk, Commit, StartViewChange, DoViewChange, StartView, GetState, NewState, Recovery, RecoveryResponse, Reply, PayOrder}
use Rattle.vr_types.specs.Cell.{max_number, is_spent}
use Rattle.vr_types.specs.Execution.{held_after, answer_at}
use Rattle.vr_types.specs.Group.{actor_of, site_of, is_mine}
use Rattle.vr_types.specs.Site.{Site, Vote, Response, is_recovering, is_down, over, executed_rows}
use Rattle.vr_types.specs.Choice.{Choice}
use Rattle.vr_types.specs.Step.{Step, Ending, Handled, Dropped, Refused, refuses}
use Rattle.vr_types.specs.Normal.{on_request, on_prepare, on_prepare_ok, on_commit, beats_normal}
use Rattle.vr_types.specs.Change.{Part, vote_of, after_start, after_vote, on_start_view_change, on_do_view_change, on_start_view, on_timer, beats_in_change}
use Rattle.vr_types.specs.Transfer.{on_get_state, on_new_state}
use Rattle.vr_types.specs.Recovery.{response_of, after_response, on_recovery, on_recovery_response, beats_recovering, on_crash, on_restart}

-- why an event is refused; this is tested before all else
abbrev pub refusal : {C R O : Type 0} → ℕ → ℕ → Site C → EventOf C R O → Option SiteFault
refusal f me x (Deliver envelope) =
    if is_down x.status then Some NotUp
    else if not (is_mine f me envelope) then Some NotMine
    else None
refusal f me x Timer =
    if is_down x.status then Some NotUp
    else if not (is_recovering x.status) && (x.view == max_number) then Some ViewsSpent
    else None
refusal f me x Beat = if is_down x.status then Some NotUp else None
refusal f me x Crash = if is_down x.status then Some NotUp else None
refusal f me x Restart =
    if not (is_down x.status) then Some AlreadyUp
    else if is_spent x.cell then Some BootsSpent
    else None

-- a message of an actor that may send it; in the rules a client has its actor number, and a site its number among the
-- sites
abbrev pub on_message : {C R O : Type 0} → Choice C → ℕ → ℕ → Site C → ℕ → MsgOf C R O → Step C R O
on_message choose f me x actor (Request msg) =
    on_request f me x (record { client = actor; number = msg.number; cmd = msg.cmd })
on_message choose f me x actor (Prepare msg) = on_prepare f me x (site_of actor) msg
on_message choose f me x actor (PrepareOk msg) = on_prepare_ok choose f me x (site_of actor) msg
on_message choose f me x actor (Commit msg) = on_commit f me x (site_of actor) msg
on_message choose f me x actor (StartViewChange msg) =
    on_start_view_change choose f me x msg.view (record { from = site_of actor; known = msg.known })
on_message choose f me x actor (DoViewChange msg) =
    on_do_view_change choose f me x msg.view (vote_of (site_of actor) msg)
on_message choose f me x actor (StartView msg) = on_start_view choose f me x (site_of actor) msg
on_message choose f me x actor (GetState msg) = on_get_state f me x (site_of actor) msg
on_message choose f me x actor (NewState msg) = on_new_state choose f me x (site_of actor) msg
on_message choose f me x actor (Recovery msg) = on_recovery f me x (site_of actor) msg
on_message choose f me x actor (RecoveryResponse msg) =
    on_recovery_response choose x msg.nonce (response_of (site_of actor) msg)
on_message choose f me x actor (Reply msg) = refuses x NotMine
on_message choose f me x actor (PayOrder order) = refuses x NotMine

-- the DOVIEWCHANGEs by which a message decides whether a view opens: none for a message that opens none
abbrev pub votes_used : {C R O : Type 0} → ℕ → ℕ → Site C → ℕ → MsgOf C R O → List (Vote C)
votes_used {C} {R} {O} f me x actor (StartViewChange msg) =
    let part : Part C R O = after_start f me msg.view (record { from = site_of actor; known = msg.known }) x in
    part.site.collected.votes
votes_used {C} {R} {O} f me x actor (DoViewChange msg) =
    let part : Part C R O = after_vote f me msg.view (vote_of (site_of actor) msg) x in part.site.collected.votes
votes_used f me x actor _ = []

-- the responses by which a message decides whether a state is regained: none for a message that regains none
abbrev pub responses_used : {C R O : Type 0} → Site C → ℕ → MsgOf C R O → List (Response C)
responses_used x actor (RecoveryResponse msg) = (after_response (response_of (site_of actor) msg) x).collected.responses
responses_used x actor _ = []

-- a beat, by the site's status
abbrev pub on_beat : {C R O : Type 0} → ℕ → ℕ → Site C → status.Status → Step C R O
on_beat f me x Normal = beats_normal f me x
on_beat f me x Change = beats_in_change f me x
on_beat f me x Recovering = beats_recovering f me x
on_beat f me x Down = refuses x NotUp

-- an event that is not refused
abbrev pub on_event : {C R O : Type 0} → Choice C → ℕ → ℕ → Site C → EventOf C R O → Step C R O
on_event choose f me x (Deliver envelope) = on_message choose f me x envelope.from envelope.msg
on_event choose f me x Timer = on_timer f me x
on_event choose f me x Beat = on_beat f me x x.status
on_event choose f me x Crash = on_crash x
on_event choose f me x Restart = on_restart f me x

abbrev pub refused_or : {C R O : Type 0} → Site C → Option SiteFault → Step C R O → Step C R O
refused_or x (Some fault) step = refuses x fault
refused_or x None step = step

-- THE SITE STEP: what site `me` of 2f+1 does with an event, where `choose` makes the right choices.
abbrev pub site_step : {C R O : Type 0} → Choice C → ℕ → ℕ → Site C → EventOf C R O → Step C R O
site_step choose f me x event = refused_or x (refusal f me x event) (on_event choose f me x event)

abbrev pub is_refused : Ending → Bool
is_refused Handled = false
is_refused (Dropped why) = false
is_refused (Refused fault) = true

-- why an event was dropped
abbrev pub dropped_as : Ending → Option Why
dropped_as Handled = None
dropped_as (Dropped why) = Some why
dropped_as (Refused fault) = None

-- A fall in place of a step that is not refused: nothing is sent, and the site is down, over the old cell or the cell
-- as the step saves it.
pub record IsFall {C R O : Type 0} (x : Site C) (step : Step C R O) (y : Site C) : Type 0 where
  pub allowed : is_refused step.ending ≡ false
  pub down : (y ≡ over x.cell Down) ⊎ (y ≡ over step.site.cell Down)

-- what a running site's machine holds
abbrev pub machine_of : {H C R O S : Type 0} → Ghosts H C R O S → H → Site C → H
machine_of m start x = held_after m start (executed_rows x)

-- the REPLY, in the site's view, to the client of the row at a place
abbrev pub reply_to : {H C R O S : Type 0} → Ghosts H C R O S → H → ℕ → Site C → ℕ → Option (EnvelopeOf C R O)
reply_to m start me x place =
    option_map
    (λ row. record {
      from = actor_of me;
      to = row.client;
      msg = Reply (record { view = x.view; number = row.number; reply = answer_at m start x.log place row });
    })
    (slice_get x.log (place - 1))

-- the PAYORDER for an open order, to its client
abbrev pub order_to : {C R O : Type 0} → ℕ → ℕ × O → EnvelopeOf C R O
order_to me due = record { from = actor_of me; to = due.0; msg = PayOrder due.1 }

-- the envelopes of a step, in order: those to sites, the replies, the open orders
abbrev pub envelopes : {H C R O S : Type 0} → Ghosts H C R O S → H → ℕ → Step C R O → List (EnvelopeOf C R O)
envelopes m start me step =
    step.sent
    ++ filter_map (reply_to m start me step.site) step.replies
    ++ (if step.orders then map (order_to me) (m.orders (machine_of m start step.site)) else [])
