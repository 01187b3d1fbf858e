-- What a node's or a client's loop does with what comes: with its desk, and with the room behind it.
use Rattle.std.specs.Prelude.{◌≡◌, ◌≢◌, ◌⊎◌, ℕ, ◌+◌, Bool, true, false, not, List, [], ◌∷◌, ◌++◌, Option, Some, None, IsSome, Result, Ok, Err, if◌then◌else◌}
use Rattle.std.specs.Global.{Vec}
use Rattle.vr_types.specs.Actors.{id_of}
use Rattle.vr_types.specs.declared.actors.ActorId.{ActorId}
use Rattle.vr_types.specs.declared.actors.ActorId.TheVariants.{Client, Node, Site}
use Rattle.vr_types.specs.declared.message.EnvelopeOf.{EnvelopeOf}
use Rattle.vr_types.specs.declared.message.MsgOf.{MsgOf}
use Rattle.vr_types.specs.declared.message.MsgOf.TheVariants.{Reply}
use Rattle.pvp_types.specs.declared.command.Reply.{Reply as Answer}
use Rattle.rtgs_node.specs.declared.event.NodeEvent.TheVariants as node
use Rattle.headline.specs.declared.step.ClientEvent.TheVariants as client
use Rattle.pvp_text.specs.declared.script.LineCode.{LineCode}
use Rattle.pvp_rooms.specs.declared.actor.Actor.{Ghosts}
use Rattle.pvp_parties.specs.declared.party.PartyOf.{PartyOf}
use Rattle.pvp_parties.specs.declared.party.PartyEvent.{PartyEvent}
use Rattle.pvp_parties.specs.declared.party.PartyEvent.TheVariants.{OfNode, OfClient}
use Rattle.pvp_parties.specs.declared.party.PartyOutcome.{PartyOutcome}
use Rattle.pvp_journal.specs.declared.room.Letter.{Letter}
use Rattle.pvp_journal.specs.Rooms.{Held, Texts}
use Rattle.pvp_places.specs.declared.serving.ServeFault.{ServeFault}
use Rattle.pvp_places.specs.declared.fault.TerminalWhy.{TerminalWhy}
use Rattle.pvp_places.specs.declared.serving.ServeFault.TheVariants.{NoMemory, Output}
use Rattle.pvp_serve.specs.declared.inbox.Inbox.{Inbox}
use Rattle.pvp_serve.specs.declared.inbox.Inbox.TheVariants.{Frame, Ping, Came, Tick, Line, End}
use Rattle.pvp_serve.specs.declared.desk.Asked.{Asked}
use Rattle.pvp_serve.specs.declared.desk.TerminalDesk.{TerminalDesk}
use Rattle.pvp_serve.specs.declared.serving.Request.{Request}
use Rattle.pvp_serve.specs.Desks.{BeatsClient, BeatsNode, after_hearing, event_of, full_after, is_busy, is_done, is_node, last_told, next_wait, refusal, waits_told}
use Rattle.pvp_serve.specs.Patience.{up_to_most}
use Rattle.pvp_serve.specs.Serving.{Comes, HasFlushed, IsRefused, IsUnwritten, TakesIn, own_input, request_in}

-- a message is the answer to a request
abbrev pub is_answer : {C R O : Type 0} → MsgOf C R O → Bool
is_answer (Reply answer) = true
is_answer _ = false

-- WHOM A CLIENT ASKS NEXT: the site that answered it last, alone
abbrev pub asked_next : {C R O : Type 0} → ActorId → EnvelopeOf C R O → Option ℕ → Option ℕ
asked_next (Client client) envelope site = if is_answer envelope.msg then Some envelope.from else site
asked_next (Node ccy) envelope site = site
asked_next (Site own) envelope site = site

-- A LINE IS PUT BEHIND THOSE THAT WAIT, by its number at the terminal
pub record IsPutBehind (text : Vec ℕ) (desk after : TerminalDesk) : Type 0 where
  pub lines : after.lines.items
      ≡ desk.lines.items ++ (record { number = up_to_most (desk.number + 1); text = text }) ∷ []
  pub rest : after ≡ record desk { lines = after.lines; number = up_to_most (desk.number + 1) }

-- A DESK IS AS IT WAS, and the same lines wait at it
pub record IsAsItWas (desk after : TerminalDesk) : Type 0 where
  pub lines : after.lines.items ≡ desk.lines.items
  pub rest : after ≡ record desk { lines = after.lines }

-- what a terminal is owed once an envelope came, unless it was refused
abbrev pub after_hearing_if : Result (Unit {0}) ServeFault → Option Request → TerminalDesk → TerminalDesk
after_hearing_if (Ok done) request desk = after_hearing request desk
after_hearing_if (Err fault) request desk = desk

-- the room of an actor of the bank, where it is not gone
abbrev pub RoomOf : Type 0 → Type 0 → Type 0 → Type 0
RoomOf N B L = Option (Held N (PartyOf B) PartyOutcome L)

-- a desk, and the room behind it
pub record At (N B L : Type 0) : Type 0 where
  pub desk : TerminalDesk
  pub room : RoomOf N B L

-- A LINE IS NEXT: no answer is awaited, and of those that wait it is the first; these are left
pub record IsNext {N B L : Type 0} (asked : Asked) (from : At N B L) (left : TerminalDesk) : Type 0 where
  pub free : is_busy (request_in from.room) from.desk.waits ≡ false
  pub first : from.desk.lines.items ≡ asked ∷ left.lines.items
  pub rest : left ≡ record from.desk { lines = left.lines }

module _ {N B L : Type 0} (m : Ghosts (PartyOf B) N PartyEvent PartyOutcome)
    (texts : ℕ → Texts PartyEvent PartyOutcome) (seen : L → Option (List ℕ)) where
  -- it was taken, and what waited is not written
  pub record IsUnkept (event : PartyEvent) (old new : RoomOf N B L) (fault : ServeFault) : Type 0 where
    pub between : RoomOf N B L
    pub takes : TakesIn m texts seen (own_input event) old between
    pub unwritten : IsUnwritten between fault
    pub gone : new ≡ None

  -- WHY AN EVENT IS NOT DONE: it was not taken, or not written
  abbrev pub IsUndone : PartyEvent → RoomOf N B L → RoomOf N B L → ServeFault → Type 0
  IsUndone event old new fault = IsRefused None old new fault ⊎ IsUnkept event old new fault

  -- it was taken and written, and could not be printed
  pub record IsUntold (event : PartyEvent) (old new : RoomOf N B L) (fault : ServeFault) : Type 0 where
    pub between : RoomOf N B L
    pub letters : List (Letter PartyOutcome)
    pub takes : TakesIn m texts seen (own_input event) old between
    pub written : HasFlushed m texts seen between new letters
    pub told : fault ≡ Output

  -- WHY AN EVENT IS NOT SERVED: it was not done, or not printed
  abbrev pub IsUnserved : PartyEvent → RoomOf N B L → RoomOf N B L → ServeFault → Type 0
  IsUnserved event old new fault = IsUndone event old new fault ⊎ IsUntold event old new fault

  -- or its refusal could not be printed
  abbrev pub IsEventLost : Option TerminalWhy → PartyEvent → RoomOf N B L → RoomOf N B L → ServeFault → Type 0
  IsEventLost None event old new fault = IsUnserved event old new fault
  IsEventLost (Some why) event old new fault = (fault ≡ Output) × (new ≡ old)

  -- WHY A LINE IS NOT DONE: memory to read it was refused, or what it asks for was not done or not printed
  abbrev pub IsLineLost : ℕ → TerminalDesk → Result (Option PartyEvent) LineCode → RoomOf N B L → RoomOf N B L
      → ServeFault → Type 0
  IsLineLost me desk (Ok (Some event)) old new fault =
      ((fault ≡ NoMemory) × (new ≡ old)) ⊎ IsEventLost (refusal me desk (request_in old) event) event old new fault
  IsLineLost me desk (Ok None) old new fault = (fault ≡ NoMemory) × (new ≡ old)
  IsLineLost me desk (Err code) old new fault = (fault ≡ NoMemory) × (new ≡ old)

  -- WHY AN ANSWER IS NOT TOLD: what came is not written; or it is, and could not be printed
  abbrev pub IsNotPaid : RoomOf N B L → RoomOf N B L → ServeFault → Type 0
  IsNotPaid old new fault = (IsUnwritten old fault × (new ≡ None))
      ⊎ ((letters : List (Letter PartyOutcome)) × HasFlushed m texts seen old new letters × (fault ≡ Output))

  -- A TICK GOES BY: an actor that waits for nothing does nothing, a node beats, a client waits a tick and then beats
  pub record Beats (who : ActorId) (from to : At N B L) : Type 0 where
    pub idle : from.desk.waits ≡ false → to ≡ from
    pub node : from.desk.waits ≡ true → is_node who ≡ true →
        BeatsNode m texts seen from.room to.room to.desk.waits × (to.desk ≡ record from.desk { waits = to.desk.waits })
    pub early : from.desk.waits ≡ true → is_node who ≡ false → from.desk.ticks ≡ 0 →
        (to.room ≡ from.room) × (to.desk ≡ record from.desk { ticks = 1 })
    pub client : from.desk.waits ≡ true → is_node who ≡ false → from.desk.ticks ≢ 0 →
        BeatsClient m texts seen from.room to.room × (to.desk ≡ record from.desk { ticks = next_wait from.desk.ticks })

  -- WHY A CLIENT'S BEAT IS NOT TAKEN: what waited was not written, or it was and then the beat was refused
  pub record IsUnbeatenBehind (event : PartyEvent) (old new : RoomOf N B L) (fault : ServeFault) : Type 0 where
    pub between : RoomOf N B L
    pub letters : List (Letter PartyOutcome)
    pub written : HasFlushed m texts seen old between letters
    pub refused : IsRefused None between new fault

  abbrev pub IsUnsaid : PartyEvent → RoomOf N B L → RoomOf N B L → ServeFault → Type 0
  IsUnsaid event old new fault =
      (IsUnwritten old fault × (new ≡ None)) ⊎ IsUnbeatenBehind event old new fault

  -- WHY A TICK IS NOT TAKEN
  abbrev pub IsUnbeaten : ActorId → RoomOf N B L → RoomOf N B L → ServeFault → Type 0
  IsUnbeaten (Node ccy) old new fault = IsUndone (OfNode node.Beats) old new fault
  IsUnbeaten (Client own) old new fault = IsUnsaid (OfClient client.Beats) old new fault
  IsUnbeaten (Site own) old new fault = IsUnsaid (OfClient client.Beats) old new fault

  -- WHAT IS DONE WITH AN ITEM before anything is asked for
  abbrev pub Handles : ℕ → Inbox → At N B L → At N B L → Type 0
  Handles me (Frame arrival latest) from to =
      Comes m texts seen latest arrival.stamped from.room to.room (Ok tt)
      × (to.desk ≡ after_hearing (request_in to.room) from.desk)
  Handles me Tick from to = Beats (id_of me) from to
  Handles me (Ping peer) from to =
      to ≡ record from { desk = full_after (request_in from.room) from.desk }
  Handles me (Line text) from to = (to.room ≡ from.room) × IsPutBehind text from.desk to.desk
  Handles me End from to = to ≡ record from { desk = record from.desk { ended = true } }
  Handles me _ from to = to ≡ from

  -- WHY AN ITEM IS NOT HANDLED: its envelope or its tick was refused, or memory for a stream or a line was
  abbrev pub IsUnhandled : ℕ → Inbox → RoomOf N B L → RoomOf N B L → ServeFault → Type 0
  IsUnhandled me (Frame arrival latest) old new fault = IsRefused (Some arrival.stamped.stamp) old new fault
  IsUnhandled me Tick old new fault = IsUnbeaten (id_of me) old new fault
  IsUnhandled me (Came lane) old new fault = (fault ≡ NoMemory) × (new ≡ old)
  IsUnhandled me (Line text) old new fault = (fault ≡ NoMemory) × (new ≡ old)
  IsUnhandled me _ old new fault = ⊥

module _ {N B L : Type 0} (m : Ghosts (PartyOf B) N PartyEvent PartyOutcome)
    (texts : ℕ → Texts PartyEvent PartyOutcome) (seen : L → Option (List ℕ))
    (safe : RoomOf N B L → Type 0) where
  -- AN EVENT IS DONE, and printed with what was owed: it is taken, and all that waited is written with it, safe where
  -- that is asked for
  pub record IsDone (event : PartyEvent) (old new : RoomOf N B L) (desk after : TerminalDesk) : Type 0 where
    pub between : RoomOf N B L
    pub letters : List (Letter PartyOutcome)
    pub takes : TakesIn m texts seen (own_input event) old between
    pub written : HasFlushed m texts seen between new letters
    pub kept : letters ≢ [] → safe new
    pub left : after
        ≡ record desk { owes = None; waits = waits_told (request_in new) (last_told letters) true }

  -- or it is refused, and nothing changes
  abbrev pub IsDoneUnless : Option TerminalWhy → PartyEvent → RoomOf N B L → RoomOf N B L → TerminalDesk
      → TerminalDesk → Type 0
  IsDoneUnless None event old new desk after = IsDone event old new desk after
  IsDoneUnless (Some why) event old new desk after = (new ≡ old) × (after ≡ desk)

  -- A LINE IS DONE: what it asks for is or is refused, and one that asks for nothing or is at fault changes nothing
  abbrev pub IsLineDone : ℕ → Result (Option PartyEvent) LineCode → RoomOf N B L → RoomOf N B L → TerminalDesk
      → TerminalDesk → Type 0
  IsLineDone me (Ok (Some event)) old new desk after =
      IsDoneUnless (refusal me desk (request_in old) event) event old new desk after
  IsLineDone me (Ok None) old new desk after = (new ≡ old) × (after ≡ desk)
  IsLineDone me (Err code) old new desk after = (new ≡ old) × (after ≡ desk)

  -- THESE LINES OF AN ACTOR ARE DONE, one after another
  pub record IsNextDone (me : ℕ) (asked : Asked) (from to : At N B L) : Type 0 where
    pub left : TerminalDesk
    pub next : IsNext asked from left
    pub done : IsLineDone me (event_of from.desk.setup me asked.text.items) from.room to.room left to.desk

  abbrev pub AreDone : ℕ → List Asked → At N B L → At N B L → Type 0
  AreDone me [] from to = to ≡ from
  AreDone me (asked ∷ more) from to =
      (between : At N B L) × IsNextDone me asked from between × AreDone me more between to

  -- IT IS ASKED FOR WHAT IS NEXT, until an answer is awaited or no line waits
  pub record AsksAll (me : ℕ) (from to : At N B L) : Type 0 where
    pub done : List Asked
    pub are_done : AreDone me done from to
    pub stops : (is_busy (request_in to.room) to.desk.waits ≡ true) ⊎ (to.desk.lines.items ≡ [])

  -- or until a line is not done
  pub record AsksUntil (me : ℕ) (from to : At N B L) (fault : ServeFault) : Type 0 where
    pub done : List Asked
    pub between : At N B L
    pub are_done : AreDone me done from between
    pub asked : Asked
    pub next : IsNext asked between to.desk
    pub lost :
        IsLineLost m texts seen me to.desk (event_of between.desk.setup me asked.text.items) between.room to.room fault

  -- THE ANSWER THAT IS OWED IS TOLD, once all that was taken is written, safe where that is asked for
  abbrev pub Pays : Option (ℕ × Answer) → At N B L → At N B L → Type 0
  Pays None from to = to ≡ from
  Pays (Some owed) from to = (letters : List (Letter PartyOutcome)) × HasFlushed m texts seen from.room to.room letters
      × (letters ≢ [] → safe to.room) × (to.desk ≡ record from.desk { owes = None })

  -- WHAT A TERMINAL TAKES: an item is handled, it is asked for what is next, and the answer that came is printed. The
  -- process goes on unless nothing is left to be done
  pub record TakesItem (me : ℕ) (item : Inbox) (from to : At N B L) (goes_on : Bool) : Type 0 where
    pub handled : At N B L
    pub asked : At N B L
    pub handles : Handles m texts seen me item from handled
    pub asks : AsksAll me handled asked
    pub pays : Pays asked.desk.owes asked to
    pub goes : goes_on ≡ not (is_done (request_in to.room) to.desk)

  -- WHY THE PROCESS ENDS at an item, and what is left: the item was not handled and the desk is as it was, or a line
  -- was not done behind it, or what came is not written or not printed, and still owed
  pub record IsUnasked (me : ℕ) (item : Inbox) (from to : At N B L) (fault : ServeFault) : Type 0 where
    pub handled : At N B L
    pub handles : Handles m texts seen me item from handled
    pub asks : AsksUntil me handled to fault

  pub record IsUnpaid (me : ℕ) (item : Inbox) (from to : At N B L) (fault : ServeFault) : Type 0 where
    pub handled : At N B L
    pub asked : At N B L
    pub handles : Handles m texts seen me item from handled
    pub asks : AsksAll me handled asked
    pub owes : IsSome asked.desk.owes
    pub lost : IsNotPaid m texts seen asked.room to.room fault
    pub left : to.desk ≡ asked.desk

  abbrev pub IsTrouble : ℕ → Inbox → At N B L → At N B L → ServeFault → Type 0
  IsTrouble me item from to fault =
      (IsUnhandled m texts seen me item from.room to.room fault × IsAsItWas from.desk to.desk)
      ⊎ IsUnasked me item from to fault ⊎ IsUnpaid me item from to fault
