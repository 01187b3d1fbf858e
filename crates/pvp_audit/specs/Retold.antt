-- A world that went through a merged list of events, one after another.
use Rattle.std.specs.Prelude.{◌≡◌, ◌⊎◌, ℕ, ◌-◌, ◌<◌, List, [], ◌∷◌, slice_get, Option, Some, None}
use Rattle.pvp_types.specs.declared.setup.Setup.{Setup}
use Rattle.vr_types.specs.declared.cell.MemCell.{MemCell}
use Rattle.vr_types.specs.MemoryCell.{held_by}
use Rattle.vr_types.specs.declared.cell.Boot.{Boot}
use Rattle.rtgs_node.specs.Node.{Envelope}
use Rattle.headline.specs.declared.step.Move.{Move}
use Rattle.pvp_world.specs.World.{ShownWorld}
use Rattle.pvp_world.specs.Steps.{Moves}
use Rattle.pvp_rooms.specs.declared.cell.Closed.{Closed}
use Rattle.pvp_rooms.specs.Runs.{Tagged, own_events, history_of, number_at, IsSorted}
use Rattle.pvp_rooms.specs.Merging.{IsMerged}
use Rattle.pvp_parties.specs.declared.party.PartyEvent.{PartyEvent}
use Rattle.pvp_parties.specs.declared.party.PartyOutcome.{PartyOutcome}
use Rattle.pvp_parties.specs.Parties.{delivers}
use Rattle.pvp_audit.specs.Moves.{move_of}

-- the world goes by a move, where there is one
abbrev pub GoesBy : {B : Type 0} → (B → Boot) → ShownWorld B → ShownWorld B → Option Move → Type 0
GoesBy held before after None = after ≡ before
GoesBy held before after (Some move) = Moves held before after move

-- the envelope of this number is what the event delivers, where it delivers one
abbrev pub Names : List Envelope → ℕ → PartyEvent → Type 0
Names post number event = (delivers event ≡ None) ⊎ ((0 < number) × (slice_get post (number - 1) ≡ delivers event))

-- the world takes the event as its next
pub record Retells {A N B : Type 0} (held : B → Boot) (closed : List (Closed A N PartyEvent PartyOutcome))
    (t : Tagged PartyEvent PartyOutcome) (before after : ShownWorld B) : Type 0 where
  pub number : ℕ
  pub named : Names before.post number t.what.event
  pub goes : GoesBy held before after (move_of (number_at closed t.by) t.what number)

-- THE WORLD WENT THROUGH THESE EVENTS, the newest first, from the one where it began
abbrev pub IsRetold : {A N B : Type 0} → (B → Boot) → List (Closed A N PartyEvent PartyOutcome) → ShownWorld B
    → List (Tagged PartyEvent PartyOutcome) → ShownWorld B → Type 0
IsRetold held closed first [] world = world ≡ first
IsRetold {A} {N} {B} held closed first (t ∷ past) world =
    (before : ShownWorld B) × IsRetold held closed first past before × Retells held closed t before world

-- A NEW WORLD WENT THROUGH THE MERGED LIST: all events of all histories, by clock and then by actor number
pub record WentThrough {A N : Type 0} (setup : Setup) (cells : List Boot)
    (closed : List (Closed A N PartyEvent PartyOutcome)) (world : ShownWorld MemCell) : Type 0 where
  pub first : ShownWorld MemCell
  pub setup_is : first.setup ≡ setup
  pub opening : first.opening ≡ cells
  pub nothing : first.trail ≡ []
  pub run : List (Tagged PartyEvent PartyOutcome)
  pub sorted : IsSorted closed run
  pub each : (k : ℕ) → own_events run k ≡ history_of closed k
  pub told : IsRetold held_by closed first run world

-- so far: of each history as many events as at says
pub record IsTelling {A N : Type 0} (setup : Setup) (cells : List Boot)
    (closed : List (Closed A N PartyEvent PartyOutcome)) (at : List ℕ) (world : ShownWorld MemCell) : Type 0 where
  pub first : ShownWorld MemCell
  pub setup_is : first.setup ≡ setup
  pub opening : first.opening ≡ cells
  pub nothing : first.trail ≡ []
  pub run : List (Tagged PartyEvent PartyOutcome)
  pub merged : IsMerged closed run at
  pub told : IsRetold held_by closed first run world
