-- What a line at a terminal asks an actor for, and what the loop of a process takes from its actor's state.
use Rattle.std.specs.Prelude.{◌≡◌, ℕ, ◌+◌, ◌-◌, ◌%◌, ◌==◌, ◌&&◌, ◌||◌, ◌++◌, Bool, true, false, not, max, nat_lt, List, [], ◌∷◌, length, slice_get, Option, Some, None, is_none, is_some, option_map, Result, Ok, Err, codes, if◌then◌else◌}
use Rattle.std.specs.Option.{option_map_or}
use Rattle.vr_types.specs.Actors.{id_of, number_of}
use Rattle.vr_types.specs.declared.actors.ActorId.{ActorId}
use Rattle.vr_types.specs.declared.actors.ActorId.TheVariants.{Client, Node, Site}
use Rattle.vr_types.specs.declared.message.EnvelopeOf.{EnvelopeOf}
use Rattle.vr_types.specs.declared.message.MsgOf.{MsgOf}
use Rattle.vr_types.specs.declared.message.MsgOf.TheVariants.{Prepare, PrepareOk, Commit, StartViewChange, DoViewChange, StartView, GetState, NewState}
use Rattle.vr_types.specs.declared.event.Why.{Why}
use Rattle.vr_types.specs.Choice.{Choice}
use Rattle.vr_types.specs.Handling.{on_message}
use Rattle.vr_types.specs.Site.{Site as AnySite, is_change, is_normal, is_running}
use Rattle.vr_types.specs.Step.{drops}
use Rattle.pvp_types.specs.declared.setup.Setup.{Setup}
use Rattle.pvp_types.specs.declared.command.Reply.{Reply}
use Rattle.pvp_types.specs.declared.step.Step.{Step}
use Rattle.pvp_types.specs.declared.step.Step.TheVariants.{PayIn, Close, Submit}
use Rattle.rtgs_node.specs.declared.event.NodeEvent.TheVariants.{PaysIn, Closes, Beats}
use Rattle.headline.specs.declared.step.ClientEvent.TheVariants.{Submits}
use Rattle.headline.specs.declared.step.ClientEvent.TheVariants as client
use Rattle.pvp_trace.specs.Names.{actor_text}
use Rattle.pvp_text.specs.declared.script.Kind.TheVariants.{Live}
use Rattle.pvp_text.specs.declared.script.Line.{Line}
use Rattle.pvp_text.specs.declared.script.LineCode.{LineCode}
use Rattle.pvp_text.specs.declared.script.LineCode.TheVariants.{UnknownWord}
use Rattle.pvp_text.specs.declared.script.LineFault.{LineFault}
use Rattle.pvp_text.specs.declared.script.Statement.{Statement}
use Rattle.pvp_text.specs.declared.script.Statement.TheVariants.{Do}
use Rattle.pvp_text.specs.Script.{script_at}
use Rattle.vr_types.specs.declared.cell.Boot.{Boot}
use Rattle.vr_types.specs.declared.event.EventOf.TheVariants as event
use Rattle.pvp_rooms.specs.declared.actor.Actor.{Ghosts}
use Rattle.pvp_parties.specs.declared.party.PartyOf.{PartyOf}
use Rattle.pvp_parties.specs.declared.party.PartyEvent.{PartyEvent}
use Rattle.pvp_parties.specs.declared.party.PartyEvent.TheVariants.{OfSite, OfNode, OfClient}
use Rattle.pvp_parties.specs.declared.party.PartyOutcome.{PartyOutcome}
use Rattle.pvp_parties.specs.declared.party.PartyOutcome.TheVariants as outcome
use Rattle.pvp_journal.specs.declared.room.Letter.{Letter}
use Rattle.pvp_journal.specs.Rooms.{Held, Texts}
use Rattle.pvp_places.specs.declared.fault.TerminalWhy.{TerminalWhy}
use Rattle.pvp_places.specs.declared.fault.TerminalWhy.TheVariants.{Full}
use Rattle.pvp_places.specs.declared.serving.ServeFault.{ServeFault}
use Rattle.pvp_serve.specs.declared.admission.Admission.{Admission}
use Rattle.pvp_serve.specs.Admission.{is_shut, refusal_of}
use Rattle.pvp_serve.specs.declared.inbox.Inbox.{Inbox}
use Rattle.pvp_serve.specs.declared.inbox.Inbox.TheVariants.{Frame, Came, Gone, Tick, End}
use Rattle.pvp_serve.specs.declared.lanes.Lane.{Lane}
use Rattle.pvp_serve.specs.Lanes.{with_lane, without_lane}
use Rattle.pvp_serve.specs.declared.patience.Due.{Due}
use Rattle.pvp_serve.specs.declared.patience.Due.TheVariants as due
use Rattle.pvp_serve.specs.declared.patience.Look.{Look}
use Rattle.pvp_serve.specs.declared.patience.Patience.{Patience}
use Rattle.pvp_serve.specs.declared.patience.TheConstants.{TICKS_LEFT}
use Rattle.pvp_serve.specs.declared.desk.TerminalDesk.{TerminalDesk}
use Rattle.pvp_serve.specs.declared.serving.Serving.{Serving}
use Rattle.pvp_serve.specs.declared.answers.Told.{Told}
use Rattle.pvp_serve.specs.declared.answers.Told.TheVariants.{Nothing, Done, Refused, Misplaced}
use Rattle.pvp_serve.specs.declared.desk.TheConstants.{TELLING_TICKS}
use Rattle.pvp_serve.specs.declared.serving.Lost.{Lost}
use Rattle.pvp_serve.specs.declared.serving.Request.{Request}
use Rattle.pvp_serve.specs.declared.serving.Standing.{Standing}
use Rattle.pvp_serve.specs.Patience.{has_asked, heard_site, up_to_most}
use Rattle.pvp_serve.specs.Serving.{TakesIn, HasFlushed, IsRefused, has_orders_in, lost_with, own_input, standing_in}

-- a line that is empty or begins with # asks for nothing
abbrev pub says_nothing : List ℕ → Bool
says_nothing [] = true
says_nothing (first ∷ more) = first == 35

-- THE LINE OF A SCRIPT that a line at a terminal stands for: a client's is what stands behind its name in a script
abbrev pub script_as : ActorId → Setup → ℕ → List ℕ → List ℕ
script_as (Client client) setup me line =
    if says_nothing line then line else codes "do " ++ actor_text setup me ++ codes " " ++ line
script_as (Node ccy) setup me line = line
script_as (Site site) setup me line = line

abbrev pub script_of : Setup → ℕ → List ℕ → List ℕ
script_of setup me line = script_as (id_of me) setup me line

-- WHAT A STEP ASKS AN ACTOR FOR: a client for its own command, a node for a pay-in or a closing in its currency
abbrev pub asked_as : ActorId → ℕ → Step → Option PartyEvent
asked_as (Client client) me (Submit who cmd) = if who == me then Some (OfClient (Submits cmd)) else None
asked_as (Node own) me (PayIn ccy member amt) = if ccy == own then Some (OfNode (PaysIn member amt)) else None
asked_as (Node own) me (Close ccy member) = if ccy == own then Some (OfNode (Closes member)) else None
asked_as _ me _ = None

abbrev pub asked_of : ℕ → Step → Option PartyEvent
asked_of me step = asked_as (id_of me) me step

-- WHAT A LINE AT A TERMINAL ASKS AN ACTOR FOR, or what is wrong with it: the first line of its script is to be a step
-- of its own
abbrev pub asked_by : ℕ → Statement → Result (Option PartyEvent) LineCode
asked_by me (Do step) = option_map_or (λ event. Ok (Some event)) (asked_of me step) (Err UnknownWord)
asked_by me _ = Err UnknownWord

abbrev pub asked_in : ℕ → Result (List Line) LineFault → Result (Option PartyEvent) LineCode
asked_in me (Err fault) = Err fault.code
asked_in me (Ok []) = Ok None
asked_in me (Ok (first ∷ more)) = asked_by me first.statement

abbrev pub event_of : Setup → ℕ → List ℕ → Result (Option PartyEvent) LineCode
event_of setup me line = asked_in me (script_at Live setup (script_of setup me line))

-- a client has made a request, and its answer has not come. Of a node it is not known
abbrev pub awaits : Option Request → Bool
awaits None = true
awaits (Some request) = nat_lt 0 request.number && is_none request.answer

-- a node's beat sent nothing: until an envelope comes it has nothing to say. Of all others it is not known
abbrev pub may_say_more : PartyOutcome → Bool
may_say_more (outcome.OfNode (Ok sent)) = not (length sent == 0)
may_say_more _ = true

abbrev pub last_may_say_more : List (Letter PartyOutcome) → Bool
last_may_say_more letters =
    option_map_or (λ letter. may_say_more letter.outcome) (slice_get letters (length letters - 1)) true

-- the primary of a view among so many sites, as an actor
abbrev pub primary_of : ℕ → ℕ → ℕ
primary_of view sites = if sites == 0 then 0 else number_of (Site (view % sites))

-- an actor is the primary of the view in which a site stands
abbrev pub is_primary : Option Standing → ℕ → ℕ → Bool
is_primary None sites actor = false
is_primary (Some standing) sites actor = primary_of standing.view sites == actor

-- what the timers of a site see, which holds orders or not, among so many, of this number
abbrev pub look_of : Bool → ℕ → ℕ → Standing → Look
look_of has_orders sites me standing = record {
  status = standing.status;
  view = standing.view;
  primary = primary_of standing.view sites;
  is_primary = primary_of standing.view sites == me;
  log = standing.log;
  done = standing.done;
  owes = has_orders || nat_lt standing.done standing.log;
}

-- A CLIENT WAITS for an answer, so that its terminal is asked for nothing more
abbrev pub is_busy : Option Request → Bool → Bool
is_busy request waits = is_some request && waits

-- AN ACTOR IS A NODE
abbrev pub is_node : ActorId → Bool
is_node (Client client) = false
is_node (Node ccy) = true
is_node (Site site) = false

-- AN ACTOR IS A SITE
abbrev pub is_site : ActorId → Bool
is_site (Site site) = true
is_site (Client client) = false
is_site (Node ccy) = false

-- WHAT COUNTS AS HEARD of a primary: a message by which it serves its view. Who asks for what it lost does not serve it
abbrev pub serves_view : {C R O : Type 0} → MsgOf C R O → Bool
serves_view (Prepare m) = true
serves_view (Commit m) = true
serves_view (StartView m) = true
serves_view (NewState m) = true
serves_view _ = false

-- what a site knows of time once it heard of its primary, or of another
abbrev pub heard_from : Bool → Patience → Patience
heard_from is_primary patience = if is_primary then record patience { quiet = 0 } else patience

-- and once it heard an actor: of clients and nodes it learns nothing
abbrev pub heard_actor : ActorId → ℕ → Patience → Patience
heard_actor (Site site) actor patience = heard_site actor patience
heard_actor (Client client) actor patience = patience
heard_actor (Node ccy) actor patience = patience

-- and once a stream has ended: it was the one that stood to its primary, or another
abbrev pub missed_by : Bool → Patience → Patience
missed_by is_primary patience =
    if is_primary then record patience { quiet = max patience.quiet (patience.limit - TICKS_LEFT) } else patience

-- the site, as its timers see it
abbrev pub look_in : {N B O L : Type 0} → (B → Boot) → ℕ → ℕ → Option (Held N (PartyOf B) O L) → Option Look
look_in held sites me room = option_map (look_of (has_orders_in held room) sites me) (standing_in room)

-- WHAT IS DUE IS AN EVENT of the site's own, or none
abbrev pub event_due : Due → Option PartyEvent
event_due due.Nothing = None
event_due due.Restart = Some (OfSite event.Restart)
event_due due.Beat = Some (OfSite event.Beat)
event_due due.Ping = None
event_due due.Timer = Some (OfSite event.Timer)

-- AN EVENT OF ITS OWN IS TAKEN or refused, where there is one, and else nothing changes
abbrev pub DoesOwn : {N A O L : Type 0} → Ghosts A N PartyEvent O → (ℕ → Texts PartyEvent O) → (L → Option (List ℕ))
    → Option PartyEvent → Option (Held N A O L) → Option (Held N A O L) → Result (Unit {0}) ServeFault → Type 0
DoesOwn m texts seen None old new result = (result ≡ Ok tt) × (new ≡ old)
DoesOwn m texts seen (Some event) old new (Ok done) = TakesIn m texts seen (own_input event) old new
DoesOwn m texts seen (Some event) old new (Err fault) = IsRefused None old new fault

-- A NODE'S BEAT is taken and written, and it waits on where that sent something
pub record BeatsNode {N A L : Type 0} (m : Ghosts A N PartyEvent PartyOutcome)
    (texts : ℕ → Texts PartyEvent PartyOutcome) (seen : L → Option (List ℕ))
    (old new : Option (Held N A PartyOutcome L)) (still : Bool) : Type 0 where
  pub between : Option (Held N A PartyOutcome L)
  pub letters : List (Letter PartyOutcome)
  pub takes : TakesIn m texts seen (own_input (OfNode Beats)) old between
  pub written : HasFlushed m texts seen between new letters
  pub waits : still ≡ last_may_say_more letters

-- A CLIENT SAYS ITS REQUEST AGAIN: what waited is written, and its beat is taken
pub record BeatsClient {N A L : Type 0} (m : Ghosts A N PartyEvent PartyOutcome)
    (texts : ℕ → Texts PartyEvent PartyOutcome) (seen : L → Option (List ℕ))
    (old new : Option (Held N A PartyOutcome L)) : Type 0 where
  pub between : Option (Held N A PartyOutcome L)
  pub letters : List (Letter PartyOutcome)
  pub written : HasFlushed m texts seen old between letters
  pub takes : TakesIn m texts seen (own_input (OfClient client.Beats)) between new

-- WHAT COMES TO THE ACTOR ITSELF: an envelope, or a tick
abbrev pub comes_to_actor : Inbox → Bool
comes_to_actor (Frame arrival latest) = true
comes_to_actor Tick = true
comes_to_actor _ = false

-- the view of which a message is, where it is of one
abbrev pub view_of : {C R O : Type 0} → MsgOf C R O → Option ℕ
view_of (Prepare m) = Some m.view
view_of (PrepareOk m) = Some m.view
view_of (Commit m) = Some m.view
view_of (StartViewChange m) = Some m.view
view_of (DoViewChange m) = Some m.view
view_of (StartView m) = Some m.view
view_of (GetState m) = Some m.view
view_of (NewState m) = Some m.view
view_of _ = None

-- A MESSAGE IS OUT OF DATE at a site that runs: it is of a view below the site's own, so the site's rules drop it
abbrev pub is_outdated : {C R O : Type 0} → Option Standing → MsgOf C R O → Bool
is_outdated None msg = false
is_outdated (Some standing) msg =
    is_running standing.status && option_map_or (λ view. nat_lt view standing.view) (view_of msg) false

-- the rules of a site drop a message of an actor
abbrev pub IsDropped : {C R O : Type 0} → Choice C → ℕ → ℕ → AnySite C → ℕ → MsgOf C R O → Type 0
IsDropped choose f me x actor msg = (why : Why) × (on_message choose f me x actor msg ≡ drops x why)

-- A SITE LAGS BEHIND what this actor says of a view: it is the view's primary, and the site is not in that view yet, or
-- lacks a row in it
abbrev pub lags : ℕ → Standing → ℕ → ℕ → Bool → Bool
lags sites standing from view lacks =
    is_running standing.status && (primary_of view sites == from)
    && (nat_lt standing.view view || ((view == standing.view) && (is_change standing.status || lacks)))

-- A MESSAGE HAS A SITE ASK for the state: by a PREPARE or a COMMIT it learns that it lags behind
abbrev pub asks_at : {C R O : Type 0} → ℕ → Standing → ℕ → MsgOf C R O → Bool
asks_at sites standing from (Prepare m) = lags sites standing from m.view (nat_lt (standing.log + 1) m.place)
asks_at sites standing from (Commit m) = lags sites standing from m.view (nat_lt standing.log m.done)
asks_at sites standing from _ = false

abbrev pub asks_state : {C R O : Type 0} → ℕ → Option Standing → EnvelopeOf C R O → Bool
asks_state sites None envelope = false
asks_state sites (Some standing) envelope = asks_at sites standing envelope.from envelope.msg

-- a site is the primary of a normal view
abbrev pub leads_now : ℕ → ℕ → Option Standing → Bool
leads_now sites me None = false
leads_now sites me (Some standing) = is_normal standing.status && (primary_of standing.view sites == me)

-- WHAT A SITE LOSES before it is an event: what it does not admit, what is out of date, and what would have it ask for
-- a state again that may still come
abbrev pub is_passed_over : {C R O : Type 0} → Admission → ℕ → Option Standing → Patience → EnvelopeOf C R O → Bool
is_passed_over admission sites standing patience envelope =
    is_shut admission || is_outdated standing envelope.msg
    || (asks_state sites standing envelope && not (patience.lag == 0))

-- what a site knows of time once it took what may have it ask for the state
abbrev pub log_len : Option Standing → ℕ
log_len None = 0
log_len (Some standing) = standing.log

abbrev pub asked_by_site : Bool → Option Standing → Patience → Patience
asked_by_site asks standing patience = if asks then has_asked (log_len standing) patience else patience

-- WHAT A SITE KNOWS OF TIME after an envelope: it heard its sender, and its primary serve its view, and it may have
-- asked for the state
abbrev pub after_envelope : {C R O : Type 0} → ℕ → Option Standing → EnvelopeOf C R O → Patience → Patience
after_envelope sites standing envelope patience =
    let from = envelope.from in
    let heard = heard_from (serves_view envelope.msg && is_primary standing sites from)
    (heard_actor (id_of from) from patience) in
    asked_by_site (asks_state sites standing envelope && (patience.lag == 0)) standing heard

-- THE STREAMS THAT STAND after an item: one that came does, one that has ended does not
abbrev pub lanes_after : Inbox → List Lane → List Lane
lanes_after (Came lane) all = with_lane lane all
lanes_after (Gone peer stream end) all = without_lane peer stream all
lanes_after _ all = all

-- THE FRAMES THAT WERE LOST after an item: one whose clock is too far ahead is
abbrev pub lost_after : Inbox → Lost → Lost
lost_after (Frame arrival latest) lost = lost_with latest arrival.stamped.stamp lost
lost_after _ lost = lost

-- ALL ELSE STAYS of what is served: its room alone may change, and its streams
abbrev pub IsElseAsItWas : {B L O : Type 0} → Serving B L O → Serving B L O → Type 0
IsElseAsItWas old new = new ≡ record old { room = new.room; out = new.out }

-- and after an item the frames that were lost
abbrev pub IsElseAsAfter : {B L O : Type 0} → Inbox → Serving B L O → Serving B L O → Type 0
IsElseAsAfter item old new =
    new ≡ record old { room = new.room; out = new.out; lost = lost_after item old.lost }

-- the terminal has ended
abbrev pub is_end : Inbox → Bool
is_end End = true
is_end _ = false

-- WHAT A TERMINAL IS OWED once its actor heard something: a client that waits prints the answer that came, and a node's
-- beat may send something again
abbrev pub after_answer : ℕ → Option Reply → Bool → TerminalDesk → TerminalDesk
after_answer number (Some reply) true desk = record desk { waits = false; ticks = 0; owes = Some (number, reply) }
after_answer number (Some reply) false desk = desk
after_answer number None waits desk = desk

abbrev pub after_hearing : Option Request → TerminalDesk → TerminalDesk
after_hearing None desk = record desk { waits = true }
after_hearing (Some request) desk = after_answer request.number request.answer desk.waits desk

-- NOTHING IS LEFT to be done at a terminal: it has ended and the process is not to stay, no answer is awaited and no
-- line waits
abbrev pub is_done : Option Request → TerminalDesk → Bool
is_done request desk =
    desk.ended && not desk.stays && not (is_busy request desk.waits) && (length desk.lines.items == 0)

-- at every which tick a client that waits says so: the count of those that went by since
abbrev pub next_wait : ℕ → ℕ
next_wait ticks = if nat_lt (up_to_most (ticks + 1)) TELLING_TICKS then up_to_most (ticks + 1) else 0

-- THE OUTCOME OF WHAT WAS ASKED FOR, as the terminal prints it: of a client's request the answer, once it comes
abbrev pub told_of : PartyOutcome → Told
told_of (outcome.OfNode (Ok sent)) = Done
told_of (outcome.OfNode (Err fault)) = Refused fault
told_of (outcome.OfClient (Err fault)) = Misplaced
told_of _ = Nothing

abbrev pub last_told : List (Letter PartyOutcome) → Told
last_told letters = option_map_or (λ letter. told_of letter.outcome) (slice_get letters (length letters - 1)) Nothing

-- what is awaited once that was printed: of a client that may not ask, what was before
abbrev pub waits_told : Option Request → Told → Bool → Bool
waits_told request Misplaced waits = awaits request
waits_told request _ waits = waits

-- how many requests of its own an actor made
abbrev pub made : Option Request → ℕ
made None = 0
made (Some request) = request.number

-- a site reports that the log is full, which a terminal notes once
abbrev pub full_after : Option Request → TerminalDesk → TerminalDesk
full_after request desk = if is_some desk.full then desk else record desk { full = Some (made request) }

-- WHY A TERMINAL DOES NOT ASK its actor for what a line says: a client's share of the log is used up (X10), or it
-- knows that the log is full, and this lets no money out (X11). A node that knows so pays nothing in
abbrev pub refusal : ℕ → TerminalDesk → Option Request → PartyEvent → Option TerminalWhy
refusal me desk (Some request) (OfClient (Submits cmd)) =
    refusal_of me desk.full (length desk.setup.members) request.number cmd
refusal me desk request (OfNode (PaysIn member amt)) = if is_some desk.full then Some Full else None
refusal me desk request event = None
