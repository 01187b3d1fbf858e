use lib.Dec.{ltb}
use Rattle.std.proofs.Common.{rules}
use Rattle.std.proofs.lemmas.List.Sorted.{IsPartitionedBy-ltb, IsPartitionPoint-from_clause}
use Rattle.pvp_rooms.specs.declared.cell.Closed.{Closed}
use Rattle.pvp_rooms.proofs.Halving.{rises-sorted, is_found, numbers_rise}
use Rattle.pvp_rooms.proofs.sent.place_of.Goals as goal

pub returns : goal.returns
returns g c =
    let rises = numbers_rise c.args.closed.now c.requires in
    let sorted =
    IsPartitionedBy-ltb (λ (one : Closed _ _ _ _). one.number) c.args.closed.now c.args.number
    (rises-sorted (λ (one : Closed _ _ _ _). one.number) c.args.closed.now rises) in
    is_found (λ (one : Closed _ _ _ _). one.number) c.args.closed.now rises c.partition_point.result c.args.number
    (IsPartitionPoint-from_clause (λ (one : Closed _ _ _ _). ltb one.number c.args.number) c.args.closed.now c.partition_point.result
    c.partition_point.ensures.partitioned sorted (λ a r f' k. search rules))
