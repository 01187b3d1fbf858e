-- The actors of a bank, by their numbers, and what its sites open over.
use Rattle.std.specs.Prelude.{◌≡◌, ℕ, ◌+◌, ◌*◌, Bool, true, List, ◌++◌, length, replicate}
use Rattle.std.specs.List.{range_with_len}
use Rattle.std.specs.Option.{option_map_or}
use Rattle.pvp_types.specs.declared.setup.Setup.{Setup}
use Rattle.pvp_types.specs.Setup.{faults}
use Rattle.vr_types.specs.declared.actors.TheConstants.{FIRST_NODE, FIRST_SITE}
use Rattle.vr_types.specs.Cell.{new_cell, is_new}
use Rattle.pvp_audit.specs.Judged.{Left, openings}

-- the operator and the members, the nodes, the sites
abbrev pub numbers_of : Setup → List ℕ
numbers_of setup =
    range_with_len 0 (length setup.members + 1) ++ range_with_len FIRST_NODE (length setup.currencies)
    ++ range_with_len FIRST_SITE (2 * faults setup + 1)

-- an actor opened over a new cell, if over any
abbrev pub opened_new : Left → Bool
opened_new one = option_map_or is_new one.opening true

-- EACH SITE OPENED OVER A NEW CELL, so the bank began as its setup says
abbrev pub BeganNew : Setup → List Left → Type 0
BeganNew setup closed = openings closed ≡ replicate (2 * faults setup + 1) new_cell
