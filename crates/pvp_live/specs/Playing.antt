-- What the player of a live script posts, and what it hands on.
use Rattle.std.specs.Prelude.{◌≡◌, ℕ, ◌==◌, List, [], ◌∷◌, ◌++◌, position, slice_get, slice_set, option_and_then, Contains, Option, Some, None}
use Rattle.pvp_rooms.specs.declared.message.Input.{Input}
use Rattle.pvp_rooms.specs.declared.message.Answer.{Answer}
use Rattle.pvp_rooms.specs.declared.message.Answer.TheVariants.{Done, NoMemory, ClockSpent}
use Rattle.pvp_rooms.specs.Rooms.{receipt}
use Rattle.pvp_rooms.specs.Gates.{Hears}
use Rattle.pvp_rooms.specs.Seats.{Place}
use Rattle.pvp_links.specs.Puts.{Put}
use Rattle.pvp_text.specs.declared.script.Line.{Line}
use Rattle.std.specs.Global.{Vec}
use Rattle.pvp_parties.specs.declared.party.PartyEvent.{PartyEvent}
use Rattle.pvp_parties.specs.declared.party.PartyOutcome.{PartyOutcome}
use Rattle.pvp_parties.specs.Parties.{sent_envelopes}
use Rattle.pvp_live.specs.declared.events.Post.{Post}
use Rattle.pvp_live.specs.declared.refusals.Refused.{Refused}
use Rattle.pvp_audit.specs.Judged.{Left}
use Rattle.pvp_live.specs.Seating.{BankSeat, AreNew, IsAmong, IsKeptSeat}
use Rattle.pvp_live.specs.Events.{statement_post}
use Rattle.pvp_live.specs.Effects.{line_effect, fault_of}
use Rattle.pvp_live.specs.Refusals.{refused_after}

-- what the player keeps: a seat at each actor, and which lines were refused
pub record Kept : Type 0 where
  pub seats : List BankSeat
  pub refused : Option Refused

abbrev pub keeps : List BankSeat → Option Refused → Kept
keeps seats refused = record { seats = seats; refused = refused }

-- the place of the actor of a number
abbrev pub place_of : List Place → ℕ → Option ℕ
place_of cells number = position (λ cell. cell.number == number) cells

-- the seat at the actor of a number
abbrev pub seat_at : List Place → List BankSeat → ℕ → Option BankSeat
seat_at cells seats number = option_and_then (slice_get seats) (place_of cells number)

-- an event as it is posted: it delivers no envelope
abbrev pub input_of : Post → Input PartyEvent
input_of post = record { event = post.event; stamp = None }

-- THE EVENT WAS TAKEN at this clock, and came out so: the seat of its actor has one receipt more, of that event
pub record IsTaken (cells : List Place) (post : Post) (old new : List BankSeat) (clock : ℕ) (outcome : PartyOutcome)
    : Type 0 where
  pub at : ℕ
  pub place : place_of cells post.actor ≡ Some at
  pub seat : BankSeat
  pub there : slice_get old at ≡ Some seat
  pub seats : new ≡ slice_set old at
      (record seat { receipts = seat.receipts ++ receipt (input_of post) clock outcome ∷ [] })

-- WHAT AN ANSWER TELLS of the seats: where the event was not taken, no seat changed. No answer means that its actor has
-- no seat.
abbrev pub Answers : List Place → Post → List BankSeat → List BankSeat → Option (Answer PartyOutcome) → Type 0
Answers cells post old new (Some (Done clock outcome)) = IsTaken cells post old new clock outcome
Answers cells post old new (Some NoMemory) = new ≡ old
Answers cells post old new (Some ClockSpent) = new ≡ old
Answers cells post old new None = (new ≡ old) × (seat_at cells old post.actor ≡ None)

-- what is handed on after an answer: what the actor sent, once
abbrev pub handed_on : ℕ → Option (Answer PartyOutcome) → List Put
handed_on actor (Some (Done clock outcome)) =
    record { actor = actor; clock = clock; sent = sent_envelopes outcome } ∷ []
handed_on actor (Some NoMemory) = []
handed_on actor (Some ClockSpent) = []
handed_on actor None = []

-- what comes of the event of a line
pub record Posts (cells : List Place) (line : ℕ) (post : Post) (old new : Kept) (puts : List Put) : Type 0 where
  pub answer : Option (Answer PartyOutcome)
  pub answered : Answers cells post old.seats new.seats answer
  pub refused : new.refused ≡ refused_after old.refused line (fault_of (line_effect answer))
  pub handed : puts ≡ handed_on post.actor answer

-- nothing changed, and nothing is handed on
pub record IsIdle (old new : Kept) (puts : List Put) : Type 0 where
  pub kept : new ≡ old
  pub none : puts ≡ []

-- what comes of a line: one that stands for no event does nothing
abbrev pub PostsWhere : List Place → ℕ → Option Post → Kept → Kept → List Put → Type 0
PostsWhere cells line None old new puts = IsIdle old new puts
PostsWhere cells line (Some post) old new puts = Posts cells line post old new puts

-- so, and an outbox got what is handed on
pub record HandsOver {B : Type 0} (cells : List Place) (line : ℕ) (post : Option Post) (old new : Kept)
    (got : B → List Put → Type 0) (before after : B) : Type 0 where
  pub puts : List Put
  pub posts : PostsWhere cells line post old new puts
  pub handed : Hears got before after puts

-- WHAT COMES OF THE LINES OF A SCRIPT, one after another
abbrev pub Plays : List Place → List Line → Kept → Kept → List Put → Type 0
Plays cells [] old new puts = IsIdle old new puts
Plays cells (line ∷ more) old new puts =
    (mid : Kept) × (first : List Put) × (rest : List Put)
    × PostsWhere cells line.number (statement_post line.statement) old mid first × Plays cells more mid new rest
    × (puts ≡ first ++ rest)

pub record IsPlaying {B : Type 0} (cells : List Place) (lines : List Line) (old new : Kept)
    (got : B → List Put → Type 0) (before after : B) : Type 0 where
  pub puts : List Put
  pub plays : Plays cells lines old new puts
  pub handed : Hears got before after puts

-- THE TALLY of a script: it was played so from new seats at these actors, where no line was refused before, and the
-- player's seats are among those that were left
pub record IsTally (cells : List Place) (lines : List Line) (refused : Option Refused) (left : List (Vec BankSeat))
    : Type 0 where
  pub before : List BankSeat
  pub after : List BankSeat
  pub puts : List Put
  pub new : AreNew cells before
  pub plays : Plays cells lines (keeps before None) (keeps after refused) puts
  pub among : (seat : BankSeat) → Contains after seat → IsAmong left seat

-- so at some actors, and the player's seats stand in what those left who were judged, with the receipts of its lines
pub record WasTallied (lines : List Line) (closed : List Left) (refused : Option Refused) : Type 0 where
  pub cells : List Place
  pub before : List BankSeat
  pub after : List BankSeat
  pub puts : List Put
  pub new : AreNew cells before
  pub plays : Plays cells lines (keeps before None) (keeps after refused) puts
  pub kept : (seat : BankSeat) → Contains after seat → IsKeptSeat closed seat
