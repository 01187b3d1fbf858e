use Rattle.std.proofs.Common.{◌≡◌, take}
use Rattle.pvp_links.specs.Links.{ends_of, lists_of, links, wanted_lists}
use Rattle.pvp_links.proofs.sockets.connect_all.Given as goal

-- those before this sender have their streams
abbrev pub invariant-loop-from : goal.invariant-loop-from
invariant-loop-from g l =
    (ends_of l.incoming.items ≡ links l.actors (take l.from-index l.actors))
    × (lists_of l.outgoing.items ≡ wanted_lists l.actors (take l.from-index l.actors))
