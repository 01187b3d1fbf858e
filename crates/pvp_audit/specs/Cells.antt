-- Actors whose sites have boot cells of any kind, as they are judged.
use Rattle.std.specs.Prelude.{◌≡◌, List, [], ◌∷◌, Option, IfSome}
use Rattle.vr_types.specs.declared.cell.Boot.{Boot}
use Rattle.vr_types.specs.declared.cell.BootCell.{Ghosts as Cell}
use Rattle.vr_types.specs.declared.cell.MemCell.{MemCell}
use Rattle.vr_types.specs.MemoryCell.{held_by}
use Rattle.pvp_rooms.specs.declared.cell.Closed.{Closed}
use Rattle.pvp_parties.specs.declared.party.PartyOf.{PartyOf}
use Rattle.pvp_parties.specs.declared.party.PartyEvent.{PartyEvent}
use Rattle.pvp_parties.specs.declared.party.PartyOutcome.{PartyOutcome}
use Rattle.pvp_parties.specs.Parties.{held_of, party_over}
use Rattle.pvp_audit.specs.Judged.{Left}

-- what an actor left whose site, where it is one, has such a cell
abbrev pub LeftOver : Type 0 → Type 0
LeftOver B = Closed (PartyOf B) (Option Boot) PartyEvent PartyOutcome

-- THE SAME ACTOR OVER A CELL IN MEMORY, which holds what a site's own does
pub record IsInMemory {B : Type 0} (c : Cell B) (one : LeftOver B) (read : Left) : Type 0 where
  pub cell : MemCell
  pub holds : IfSome (held_of c one.end) (λ own. held_by cell ≡ own)
  pub is : read
      ≡ record {
        number = one.number;
        opening = one.opening;
        history = one.history;
        seats = one.seats;
        end = party_over one.end cell;
      }

-- so of each, in order
abbrev pub AreInMemory : {B : Type 0} → Cell B → List (LeftOver B) → List Left → Type 0
AreInMemory c [] [] = Unit {0}
AreInMemory c (one ∷ more) (read ∷ others) = IsInMemory c one read × AreInMemory c more others
AreInMemory c _ _ = ⊥
