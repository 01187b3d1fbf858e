-- Why a live run has no verdict.
use Rattle.std.specs.Prelude.{◌≡◌, ◌≢◌, ◌⊎◌, ℕ, false, List, length, IsPermutation}
use Rattle.std.specs.List.Sorted.{IsNonDecreasingBy}
use Rattle.pvp_rooms.specs.Closing.{are_complete}
use Rattle.pvp_rooms.specs.Seats.{Place}
use Rattle.pvp_links.specs.Links.{links, ends_of}
use Rattle.pvp_links.specs.declared.sockets.Incoming.{Incoming}
use Rattle.pvp_links.specs.declared.sockets.NetFault.{NetFault}
use Rattle.pvp_links.specs.declared.sockets.NetFault.TheVariants as net
use Rattle.pvp_live.specs.Seating.{BankSeat}
use Rattle.pvp_live.specs.declared.running.LiveFault.{LiveFault}
use Rattle.pvp_live.specs.declared.running.LiveFault.TheVariants.{Net, NoMemory, Seats}

-- how a fault of the net is reported
abbrev pub net_told : NetFault → LiveFault
net_told net.Net = Net
net_told net.NoMemory = NoMemory

-- once all is connected: memory is refused, or a seat or a cell is not where it has to be
abbrev pub IsLate : LiveFault → Type 0
IsLate fault = (fault ≡ NoMemory) ⊎ (fault ≡ Seats)

-- A CELL'S SEATS ARE WANTING: in order of their numbers they are too few, too many, or not each of its own once
pub record AreWanting (cell : Place) (seats : List BankSeat) : Type 0 where
  pub ordered : List BankSeat
  pub same : IsPermutation seats ordered
  pub in_order : IsNonDecreasingBy (λ seat. seat.number) ordered
  pub wanting : (length ordered ≢ cell.seats) ⊎ (are_complete ordered cell.number 0 ≡ false)

-- these actors are connected: there is a stream from each to each of its receivers
pub record AreConnected (S : Type 0) (actors : List ℕ) : Type 0 where
  pub streams : List (Incoming S)
  pub all : ends_of streams ≡ links actors actors

-- WHY A RUN HAS NO JUDGEMENT. The net: then nothing was reported yet, and no line was played. A seat or a cell: then
-- the actors had been connected. Memory may be refused at any time.
abbrev pub Ends : {N : Type 0} → (S : Type 0) → List ℕ → N → N → LiveFault → Type 0
Ends S actors old new Net = new ≡ old
Ends S actors old new Seats = AreConnected S actors
Ends S actors old new NoMemory = Unit {0}
