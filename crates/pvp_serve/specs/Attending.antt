-- What a desk does with what comes, by its kind.
use Rattle.std.specs.Prelude.{ℕ, Bool, List, Option, Result, IfOk, IfErr}
use Rattle.vr_types.specs.declared.cell.Boot.{Boot}
use Rattle.pvp_rooms.specs.declared.actor.Actor.{Ghosts}
use Rattle.pvp_parties.specs.declared.party.PartyOf.{PartyOf}
use Rattle.pvp_parties.specs.declared.party.PartyEvent.{PartyEvent}
use Rattle.pvp_parties.specs.declared.party.PartyOutcome.{PartyOutcome}
use Rattle.pvp_journal.specs.Rooms.{Texts}
use Rattle.pvp_places.specs.declared.serving.ServeFault.{ServeFault}
use Rattle.pvp_serve.specs.declared.attending.Desk.{Desk}
use Rattle.pvp_serve.specs.declared.attending.Desk.TheVariants.{Site, Terminal}
use Rattle.pvp_serve.specs.declared.inbox.Inbox.{Inbox}
use Rattle.pvp_serve.specs.declared.lanes.Lane.{Lane}
use Rattle.pvp_serve.specs.declared.serving.Lost.{Lost}
use Rattle.pvp_serve.specs.Sifting.{sifted}
use Rattle.pvp_serve.specs.Sites.{SiteTakes}
use Rattle.pvp_serve.specs.Terminals.{RoomOf, IsTrouble, TakesItem}

-- which of the items that wait are processed, by the kind of the actor
abbrev pub sifted_for : Desk → ℕ → List Inbox → List Inbox
sifted_for (Site desk) nonce items = sifted nonce items
sifted_for (Terminal desk) nonce items = items

module _ {N B L : Type 0} (m : Ghosts (PartyOf B) N PartyEvent PartyOutcome)
    (texts : ℕ → Texts PartyEvent PartyOutcome) (seen : L → Option (List ℕ)) (safe : RoomOf N B L → Type 0) where
  -- A DESK TAKES AN ITEM as those of its kind do, while these streams stand and these frames were lost
  abbrev pub DeskTakes : (B → Boot) → ℕ → List Lane → Lost → Inbox → Desk → Desk → RoomOf N B L → RoomOf N B L
      → Result Bool ServeFault → Type 0
  DeskTakes held me lanes lost item (Site desk) (Site after) old new result =
      SiteTakes m texts seen held me lanes lost item desk after old new result
  DeskTakes held me lanes lost item (Terminal desk) (Terminal after) old new result =
      IfOk result (TakesItem m texts seen safe me item (record { desk = desk; room = old })
      (record { desk = after; room = new }))
      × IfErr result (IsTrouble m texts seen safe me item (record { desk = desk; room = old })
      (record { desk = after; room = new }))
  DeskTakes held me lanes lost item _ _ old new result = ⊥
