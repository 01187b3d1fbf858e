-- The actors of one bank, as they opened.
use Rattle.std.specs.Prelude.{◌≡◌, ℕ, ◌+◌, ◌*◌, ◌<◌, ◌≤◌, List, length, take, slice_get, Option, Some, None}
use Rattle.pvp_types.specs.declared.setup.Setup.{Setup}
use Rattle.pvp_types.specs.Setup.{faults}
use Rattle.vr_types.specs.declared.actors.TheConstants.{FIRST_NODE, FIRST_SITE}
use Rattle.vr_types.specs.declared.cell.Boot.{Boot}
use Rattle.pvp_rooms.specs.Runs.{AreInOrder}
use Rattle.pvp_rooms.specs.Verdicts.{HoldOfAll}
use Rattle.pvp_parties.specs.Parties.{Party}
use Rattle.pvp_parties.specs.declared.party.PartyOf.TheVariants.{Site, Node, Client}
use Rattle.pvp_parties.specs.Parties.{number_of, setup_of}
use Rattle.pvp_audit.specs.Judged.{Left, openings}

-- a site opened over what its cell held, a node and a client over nothing
abbrev pub OpenedOver : Party → Option Boot → Type 0
OpenedOver (Site p) (Some boot) = Unit {0}
OpenedOver (Node p) None = Unit {0}
OpenedOver (Client p) None = Unit {0}
OpenedOver _ _ = ⊥

-- the bank has such an actor
abbrev pub HasPlace : Setup → Party → Type 0
HasPlace setup (Site p) = p.place < 2 * faults setup + 1
HasPlace setup (Node p) = (p.place < length setup.currencies) × (p.place < 99)
HasPlace setup (Client p) = (p.place ≤ length setup.members) × (p.place < FIRST_NODE)

-- an actor of this bank, with the number that its kind and its place give, that opened over this
pub record IsActorOf (setup : Setup) (called : ℕ) (opening : Option Boot) (actor : Party) : Type 0 where
  pub made_from : setup_of actor ≡ setup
  pub number : called ≡ number_of actor
  pub opened : OpenedOver actor opening
  pub place : HasPlace setup actor

-- what an actor of this bank left
abbrev pub IsOfBank : Setup → Left → Type 0
IsOfBank setup c = IsActorOf setup c.number c.opening c.end

abbrev pub AreOfBank : Setup → List Left → Type 0
AreOfBank setup closed = HoldOfAll closed (λ _ c. IsOfBank setup c)

-- how many actors a bank has: the operator, the members, the nodes and the sites
abbrev pub actor_count : Setup → ℕ
actor_count setup = length setup.members + 1 + length setup.currencies + (2 * faults setup + 1)

-- its sites are all there: where n of them stand before it, one has the number 200 + n
pub record HasItsSites (setup : Setup) (closed : List Left) : Type 0 where
  pub all : length (openings closed) ≡ 2 * faults setup + 1
  pub numbered : (k : ℕ) (c : Left) (boot : Boot) → slice_get closed k ≡ Some c → c.opening ≡ Some boot
      → c.number ≡ FIRST_SITE + length (openings (take k closed))

-- what all actors of one bank left: as many as it has, in order of their numbers, each of its setup
pub record IsTheBank (setup : Setup) (closed : List Left) : Type 0 where
  pub all : length closed ≡ actor_count setup
  pub order : AreInOrder closed
  pub bank : AreOfBank setup closed
  pub sites : HasItsSites setup closed

-- what the sites opened over stands in order of their numbers
abbrev pub OpensInOrder : List Left → Type 0
OpensInOrder closed = (k : ℕ) (c : Left) → slice_get closed k ≡ Some c → (site : ℕ) (boot : Boot)
    → c.number ≡ FIRST_SITE + site → c.opening ≡ Some boot → slice_get (openings closed) site ≡ Some boot

-- each of these is so
abbrev pub AllAre : {X : Type 0} → (X → Type 0) → List X → Type 0
AllAre {X} Is xs = (i : ℕ) (x : X) → slice_get xs i ≡ Some x → Is x
