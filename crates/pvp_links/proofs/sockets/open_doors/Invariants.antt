use Rattle.std.proofs.Common.{◌≡◌, take}
use Rattle.pvp_links.specs.Links.{actors_of}
use Rattle.pvp_links.proofs.sockets.open_doors.Given as goal

abbrev pub invariant-loop-actor : goal.invariant-loop-actor
invariant-loop-actor g l = actors_of l.doors.items ≡ take l.actor-index l.actors
