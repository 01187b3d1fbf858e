-- What an actor that is served takes, and what leaves it.
use Rattle.std.specs.Prelude.{◌≡◌, ◌≢◌, ◌⊎◌, ◌+◌, ◌-◌, ◌^◌, ◌&&◌, ◌||◌, Bool, true, false, not, min, nat_le, nat_lt, ℕ, List, [], length, map, slice_get, Option, Some, None, IfSome, IsSome, is_some, Result, Ok, Err, IfErr, IsOk, IsTrue, OnOk, if◌then◌else◌, take}
use Rattle.std.specs.Global.{Vec}
use Rattle.std.specs.List.{list_any}
use Rattle.vr_types.specs.Actors.{id_of}
use Rattle.vr_types.specs.declared.actors.ActorId.{ActorId}
use Rattle.vr_types.specs.declared.actors.ActorId.TheVariants.{Client, Node, Site}
use Rattle.vr_types.specs.declared.cell.Boot.{Boot}
use Rattle.vr_types.specs.Handling.{machine_of}
use Rattle.vr_types.specs.Rows.{newest}
use Rattle.vr_types.specs.Site.{is_running}
use Rattle.vr_site.specs.Replica.{site_shown}
use Rattle.pvp_book.specs.Ledger.{Ledger, opening}
use Rattle.headline.specs.Machine.{book}
use Rattle.pvp_text.specs.ScriptWords.{is_empty}
use Rattle.pvp_journal.specs.declared.fault.ShelfFault.TheVariants as shelf
use Rattle.pvp_places.specs.declared.serving.ServeFault.{ServeFault}
use Rattle.pvp_places.specs.declared.serving.ServeFault.TheVariants as serve
use Rattle.pvp_rooms.specs.declared.actor.Actor.{Ghosts}
use Rattle.pvp_rooms.specs.declared.message.Input.{Input}
use Rattle.pvp_rooms.specs.Rooms.{clock_after}
use Rattle.pvp_wire.specs.declared.stamped.Stamp.{Stamp}
use Rattle.pvp_wire.specs.declared.stamped.Stamped.{Stamped}
use Rattle.pvp_links.specs.Puts.{Put}
use Rattle.pvp_parties.specs.Parties.{delivery_event, sent_envelopes}
use Rattle.pvp_parties.specs.declared.party.PartyOf.{PartyOf}
use Rattle.pvp_parties.specs.declared.party.PartyOf.TheVariants as party
use Rattle.pvp_parties.specs.declared.party.PartyEvent.{PartyEvent}
use Rattle.pvp_parties.specs.declared.party.PartyOutcome.{PartyOutcome}
use Rattle.pvp_journal.specs.Log.{OutlivesAll}
use Rattle.pvp_journal.specs.declared.log.LogFault.{LogFault}
use Rattle.pvp_journal.specs.declared.log.LogFault.TheVariants as log
use Rattle.pvp_journal.specs.Rooms.{Texts, Held, Steps, Flushes}
use Rattle.pvp_journal.specs.declared.room.Letter.{Letter}
use Rattle.pvp_journal.specs.declared.room.Posted.TheVariants.{Done}
use Rattle.pvp_serve.specs.declared.admission.Seen.{Seen}
use Rattle.pvp_serve.specs.declared.serving.Request.{Request}
use Rattle.pvp_serve.specs.declared.serving.Standing.{Standing}
use Rattle.pvp_serve.specs.declared.serving.Lost.{Lost}

-- an envelope that came, with its stamp
abbrev pub input_of : Stamped → Input PartyEvent
input_of stamped = record { event = delivery_event stamped.envelope; stamp = Some stamped.stamp }

-- an event of the actor's own
abbrev pub own_input : PartyEvent → Input PartyEvent
own_input event = record { event = event; stamp = None }

-- THE LAST REQUEST of the client that is served: none of another actor, or where the room is gone
abbrev pub request_of : {B : Type 0} → PartyOf B → Option Request
request_of (party.Client p) = Some (record { number = p.now.client.number; answer = p.now.client.answer })
request_of (party.Node p) = None
request_of (party.Site p) = None

abbrev pub request_in : {N B O L : Type 0} → Option (Held N (PartyOf B) O L) → Option Request
request_in None = None
request_in (Some room) = request_of room.actor

-- WHERE THE SITE STANDS that is served: the same of a site
abbrev pub standing_of : {B : Type 0} → PartyOf B → Option Standing
standing_of (party.Site p) = let now = p.now.volatile in
    Some (record { status = now.status; view = now.view; log = length now.log; done = now.done })
standing_of (party.Node p) = None
standing_of (party.Client p) = None

abbrev pub standing_in : {N B O L : Type 0} → Option (Held N (PartyOf B) O L) → Option Standing
standing_in None = None
standing_in (Some room) = standing_of room.actor

-- THE SITE THAT IS SERVED RUNS, and holds orders that are neither paid nor returned
abbrev pub has_open : Ledger → Bool
has_open ledger = is_some (slice_get (book.orders ledger) 0)

abbrev pub has_orders_of : {B : Type 0} → (B → Boot) → PartyOf B → Bool
has_orders_of held (party.Site p) =
    is_running p.now.volatile.status && has_open (machine_of book (opening p.now.setup) (site_shown held p.now []))
has_orders_of held (party.Node p) = false
has_orders_of held (party.Client p) = false

abbrev pub has_orders_in : {N B O L : Type 0} → (B → Boot) → Option (Held N (PartyOf B) O L) → Bool
has_orders_in held None = false
has_orders_in held (Some room) = has_orders_of held room.actor

-- WHAT THE SITE THAT IS SERVED KNOWS as a request of a client comes
abbrev pub count_open : Ledger → ℕ
count_open ledger = length (book.orders ledger)

abbrev pub orders_of : {B : Type 0} → (B → Boot) → PartyOf B → ℕ
orders_of held (party.Site p) =
    if is_running p.now.volatile.status then
    count_open (machine_of book (opening p.now.setup) (site_shown held p.now []))
    else 0
orders_of held (party.Node p) = 0
orders_of held (party.Client p) = 0

abbrev pub seen_by : {B : Type 0} → (B → Boot) → ℕ → PartyOf B → Option Seen
seen_by held client (party.Site p) = let now = p.now.volatile in
    Some (record {
      log = length now.log;
      done = now.done;
      newest = newest now.log client;
      answered = newest (take now.done now.log) client;
      orders = orders_of held (party.Site p);
    })
seen_by held client (party.Node p) = None
seen_by held client (party.Client p) = None

abbrev pub seen_in : {N B O L : Type 0} → (B → Boot) → ℕ → Option (Held N (PartyOf B) O L) → Option Seen
seen_in held client None = None
seen_in held client (Some room) = seen_by held client room.actor

-- HOW OFTEN THE SITE WAS RESTARTED that is served, by its cell: the nonce of its recovery. 0 of another actor
abbrev pub nonce_of : {B : Type 0} → (B → Boot) → PartyOf B → ℕ
nonce_of held (party.Site p) = (held p.now.cell).boots
nonce_of held (party.Node p) = 0
nonce_of held (party.Client p) = 0

abbrev pub nonce_in : {N B O L : Type 0} → (B → Boot) → Option (Held N (PartyOf B) O L) → ℕ
nonce_in held None = 0
nonce_in held (Some room) = nonce_of held room.actor

-- A CLOCK IS BEYOND what an actor accepts from whoever stamped it: a site is accepted below 2 ^ 63, and all others up
-- to this clock, which the time gives
abbrev pub is_far_of : ActorId → ℕ → ℕ → Bool
is_far_of (Site site) latest clock = nat_le (2 ^ 63) clock
is_far_of (Client client) latest clock = nat_lt latest clock
is_far_of (Node ccy) latest clock = nat_lt latest clock

abbrev pub is_far : ℕ → Stamp → Bool
is_far latest stamp = is_far_of (id_of stamp.actor) latest stamp.clock

-- the frames that were lost so, with one of this stamp: how many, and who sent the last
abbrev pub lost_with : ℕ → Stamp → Lost → Lost
lost_with latest stamp lost =
    if is_far latest stamp then record { count = min (lost.count + 1) (2 ^ 64 - 1); last = Some stamp.actor } else lost

-- there is no greater clock than the room's own and the stamp's
abbrev pub IsSpent : {N A O L : Type 0} → Option (Held N A O L) → Option Stamp → Type 0
IsSpent None stamp = ⊥
IsSpent (Some room) stamp = clock_after room.clock stamp ≡ None

-- there is one
abbrev pub HasClock : {N A O L : Type 0} → Option (Held N A O L) → Option Stamp → Type 0
HasClock None stamp = ⊥
HasClock (Some room) stamp = IsSome (clock_after room.clock stamp)

-- WHY AN INPUT IS NOT TAKEN, and what is left of the room. There is no greater clock, or memory was refused, and it is
-- as it was; or the record could not be written, and it is gone. Where it was gone before, that is reported as M8
abbrev pub IsRefused : {N A O L : Type 0} → Option Stamp → Option (Held N A O L) → Option (Held N A O L) → ServeFault
    → Type 0
IsRefused stamp old new serve.Clock = IsSpent old stamp × (new ≡ old)
IsRefused stamp old new serve.NoMemory = (HasClock old stamp × (new ≡ old)) ⊎ (IsSome old × (new ≡ None))
IsRefused stamp old new serve.Unfit = new ≡ None
IsRefused stamp old new _ = ⊥

-- AN INPUT IS TAKEN by the room, at a clock, and its record is in the batch
pub record TakesIn {N A E O L : Type 0} (m : Ghosts A N E O) (texts : ℕ → Texts E O) (seen : L → Option (List ℕ))
    (input : Input E) (old new : Option (Held N A O L)) : Type 0 where
  pub before : Held N A O L
  pub after : Held N A O L
  pub clock : ℕ
  pub had : old ≡ Some before
  pub has : new ≡ Some after
  pub steps : Steps m texts seen input before after (Done clock)

-- AN ENVELOPE COMES to the room, with its stamp, where clocks are accepted up to this one: with a clock beyond it is
-- lost, else it is taken or refused
pub record Comes {N A O L : Type 0} (m : Ghosts A N PartyEvent O) (texts : ℕ → Texts PartyEvent O)
    (seen : L → Option (List ℕ)) (latest : ℕ) (stamped : Stamped) (old new : Option (Held N A O L))
    (result : Result (Unit {0}) ServeFault) : Type 0 where
  pub far : is_far latest stamped.stamp ≡ true → IsOk result × (new ≡ old)
  pub near : is_far latest stamped.stamp ≡ false → OnOk result (TakesIn m texts seen (input_of stamped) old new)
  pub refused : IfErr result (λ fault. IsRefused (Some stamped.stamp) old new fault)

-- THE BATCH IS WRITTEN: of each event in it this came, and its record stands in the log
pub record HasFlushed {N A E O L : Type 0} (m : Ghosts A N E O) (texts : ℕ → Texts E O) (seen : L → Option (List ℕ))
    (old new : Option (Held N A O L)) (letters : List (Letter O)) : Type 0 where
  pub before : Held N A O L
  pub after : Held N A O L
  pub had : old ≡ Some before
  pub has : new ≡ Some after
  pub flushes : Flushes m texts seen before after letters

-- what waits for a flush
abbrev pub waiting_in : {N A O L : Type 0} → Option (Held N A O L) → List (Letter O)
waiting_in None = []
waiting_in (Some room) = room.waiting

-- there is a room, and nothing waits there
abbrev pub IsIdle : {N A O L : Type 0} → Option (Held N A O L) → Type 0
IsIdle room = IsSome room × (waiting_in room ≡ [])

-- why a log did not take a batch, as it is reported (V6 or V7)
abbrev pub log_told : LogFault → ServeFault
log_told log.Full = serve.Log shelf.Full
log_told log.Failed = serve.Log shelf.Failed

-- WHY A BATCH IS NOT WRITTEN: the log refused what waited; or the room was gone before, which is reported as M8
abbrev pub IsUnwritten : {N A O L : Type 0} → Option (Held N A O L) → ServeFault → Type 0
IsUnwritten None told = told ≡ serve.Unfit
IsUnwritten (Some room) told = (fault : LogFault) × (told ≡ log_told fault) × (room.waiting ≢ [])

-- all of the log outlives a power cut
abbrev pub OutlivesIn : {N A O L : Type 0} → (L → Option (List ℕ)) → (L → ℕ) → Option (Held N A O L) → Type 0
OutlivesIn seen synced room = IfSome room (λ held. OutlivesAll (seen held.log) (synced held.log))

-- WHERE SYNCS ARE ASKED FOR, all of the log outlives a power cut
abbrev pub IsSafeIn : {N A O L : Type 0} → (L → Option (List ℕ)) → (L → ℕ) → Bool → Option (Held N A O L) → Type 0
IsSafeIn seen synced syncs room = IsTrue syncs → OutlivesIn seen synced room

-- an event sent something
abbrev pub sends : Letter PartyOutcome → Bool
sends letter = not (is_empty (sent_envelopes letter.outcome))

-- SOMETHING LEAVES: what happened is printed, or an event sent something
abbrev pub leaves : Bool → List (Letter PartyOutcome) → Bool
leaves is_told letters = is_told || list_any sends letters

-- what these events of an actor sent, each at its clock
abbrev pub puts_in : ℕ → List (Letter PartyOutcome) → List Put
puts_in me letters =
    map (λ letter. record { actor = me; clock = letter.clock; sent = sent_envelopes letter.outcome }) letters

-- WHAT IS HANDED OUT: all that the events of a written batch sent, and nothing of a batch that was not written
abbrev pub puts_of : ℕ → Result (Vec (Letter PartyOutcome)) ServeFault → List Put
puts_of me (Ok letters) = puts_in me letters.items
puts_of me (Err why) = []
