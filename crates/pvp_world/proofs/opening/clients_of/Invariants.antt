use Rattle.std.proofs.Common.{◌∷◌, map}
use Rattle.pvp_types.specs.declared.setup.Member.{Member}
use Rattle.headline.specs.Client.{opening_client}
use Rattle.pvp_world.specs.World.{IsClient}
use Rattle.pvp_world.proofs.Openings.{AreSoFar}
use Rattle.pvp_world.proofs.opening.clients_of.Given as goal

-- the clients so far
abbrev pub invariant-loop-number : goal.invariant-loop-number
invariant-loop-number l =
    AreSoFar (IsClient l.setup) l.clients.items (opening_client ∷ map (λ (member : Member). opening_client) l.setup.members) l.number
