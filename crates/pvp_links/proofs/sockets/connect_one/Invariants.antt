use Rattle.std.proofs.Common.{◌≡◌, ◌++◌, take}
use Rattle.pvp_links.specs.Links.{actors_of, goals_of, ends_of, receivers, links_from}
use Rattle.pvp_links.proofs.sockets.connect_one.Given as goal

-- those before this door are connected
abbrev pub invariant-loop-door : goal.invariant-loop-door
invariant-loop-door g l =
    (goals_of l.streams.items ≡ receivers (actors_of (take l.door-index l.doors)) l.from)
    × (ends_of l.incoming.items ≡ ends_of l.fn.incoming.items ++ links_from (actors_of (take l.door-index l.doors)) l.from)
