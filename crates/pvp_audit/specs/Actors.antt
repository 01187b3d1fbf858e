-- Whose histories are those of a bank.
use Rattle.std.specs.Prelude.{◌≡◌, ℕ, ◌+◌, ◌-◌, true, nat_le, List, length, slice_get, Some, if◌then◌else◌}
use Rattle.pvp_types.specs.declared.setup.Setup.{Setup}
use Rattle.vr_types.specs.Actors.{id_of}
use Rattle.vr_types.specs.declared.actors.TheConstants.{FIRST_NODE, FIRST_SITE}
use Rattle.pvp_audit.specs.Banked.{actor_count}
use Rattle.pvp_audit.specs.declared.history.History.{History}
use Rattle.pvp_audit.specs.Gathered.{is_actor}

-- the number of the bank's actor at a place: the operator and the members, the nodes, the sites
abbrev pub actor_at : Setup → ℕ → ℕ
actor_at setup place =
    if nat_le place (length setup.members) then place
    else if nat_le place (length setup.members + length setup.currencies)
    then FIRST_NODE + (place - length setup.members - 1)
    else FIRST_SITE + (place - length setup.members - length setup.currencies - 1)

-- a history of the bank's actor at a place, which opened as such an actor may
pub record IsOfPlace (setup : Setup) (place : ℕ) (history : History) : Type 0 where
  pub actor : history.actor ≡ actor_at setup place
  pub opening : is_actor setup (id_of history.actor) history.opening ≡ true

-- THE HISTORIES ARE THOSE OF THE BANK'S ACTORS: of each one, in order
pub record AreOfTheBank (setup : Setup) (histories : List History) : Type 0 where
  pub all : length histories ≡ actor_count setup
  pub each : (k : ℕ) (history : History) → slice_get histories k ≡ Some history → IsOfPlace setup k history
