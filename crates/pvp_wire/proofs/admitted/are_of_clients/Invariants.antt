use Rattle.std.proofs.Common.{◌≡◌, drop}
use Rattle.std.specs.List.{list_all}
use Rattle.pvp_wire.specs.Spelling.{has_client}
use Rattle.pvp_wire.proofs.admitted.are_of_clients.Given as goal

-- what is left decides
abbrev pub invariant-loop-at : goal.invariant-loop-at
invariant-loop-at l = list_all has_client l.rows ≡ list_all has_client (drop l.at l.rows)
