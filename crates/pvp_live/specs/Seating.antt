-- The seats of a bank's cells, from their opening to their close.
use Rattle.std.specs.Prelude.{◌≡◌, ◌⊎◌, List, [], ◌∷◌, Contains}
use Rattle.std.specs.Global.{Vec}
use Rattle.pvp_rooms.specs.Seats.{Place, Held}
use Rattle.pvp_parties.specs.declared.party.PartyEvent.{PartyEvent}
use Rattle.pvp_parties.specs.declared.party.PartyOutcome.{PartyOutcome}
use Rattle.pvp_audit.specs.Cells.{LeftOver}

-- a seat at an actor of the bank
abbrev pub BankSeat : Type 0
BankSeat = Held PartyEvent PartyOutcome

-- a seat at each of these actors, from which nothing was posted yet
abbrev pub AreNew : List Place → List BankSeat → Type 0
AreNew [] [] = Unit {0}
AreNew (cell ∷ cells) (seat ∷ seats) = (seat.actor ≡ cell.number) × (seat.receipts ≡ []) × AreNew cells seats
AreNew _ _ = ⊥

-- a seat is among those of these cells
abbrev pub IsAmong : List (Vec BankSeat) → BankSeat → Type 0
IsAmong seats seat = (own : Vec BankSeat) × Contains seats own × Contains own.items seat

-- a given seat was put among those of the cells
abbrev pub TakesOne : List (Vec BankSeat) → BankSeat → List (Vec BankSeat) → Type 0
TakesOne old given new = (seat : BankSeat) → IsAmong old seat ⊎ (given ≡ seat) → IsAmong new seat

-- so was each of these
abbrev pub TakesBack : List (Vec BankSeat) → List BankSeat → List (Vec BankSeat) → Type 0
TakesBack old given new = (seat : BankSeat) → IsAmong old seat ⊎ Contains given seat → IsAmong new seat

-- a seat stands in what these actors left, as it is; B is the type of the sites' boot cells
abbrev pub IsKeptSeat : {B : Type 0} → List (LeftOver B) → BankSeat → Type 0
IsKeptSeat {B} closed seat = (one : LeftOver B) × Contains closed one × Contains one.seats.items seat

-- and so does each of these
abbrev pub Keeps : {B : Type 0} → List (Vec BankSeat) → List (LeftOver B) → Type 0
Keeps seats closed = (seat : BankSeat) → IsAmong seats seat → IsKeptSeat closed seat
