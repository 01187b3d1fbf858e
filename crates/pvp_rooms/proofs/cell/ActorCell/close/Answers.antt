use Rattle.std.proofs.Common.{rules}
use Rattle.std.proofs.lemmas.List.Sorted.{IsNonDecreasingBy-from_sort_by_key}
use Rattle.pvp_rooms.proofs.Growing.{closes}
use Rattle.pvp_rooms.proofs.cell.ActorCell.close.Goals as goal

pub returns-then-len-from-clause-in_order : goal.returns-then-len-from-clause-in_order
returns-then-len-from-clause-in_order g c =
    IsNonDecreasingBy-from_sort_by_key (λ seat. seat.number) _ c.sort_unstable_by_key.ensures.sorted (λ a r q k. search rules)

pub returns-clause-room : goal.returns-clause-room
returns-clause-room g c =
    let parts = c.into_parts-opening in
    closes g.A.Actor c.into_inner.result parts.result.0 parts.result.1.items parts.result.2 parts.ensures.opening parts.ensures.history
    parts.ensures.actor parts.ensures.sound
