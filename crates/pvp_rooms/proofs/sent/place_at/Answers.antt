use lib.Dec.{ltb}
use Rattle.std.proofs.Common.{rules}
use Rattle.std.proofs.lemmas.List.Sorted.{IsPartitionedBy-ltb, IsPartitionPoint-from_clause}
use Rattle.pvp_rooms.specs.declared.message.Recorded.{Recorded}
use Rattle.pvp_rooms.proofs.Halving.{rises-sorted, is_found, clocks_rise}
use Rattle.pvp_rooms.proofs.sent.place_at.Goals as goal

pub returns : goal.returns
returns g c =
    let rises = clocks_rise c.args.history.now c.requires in
    let sorted =
    IsPartitionedBy-ltb (λ (r : Recorded _ _). r.clock) c.args.history.now c.args.clock
    (rises-sorted (λ (r : Recorded _ _). r.clock) c.args.history.now rises) in
    is_found (λ (r : Recorded _ _). r.clock) c.args.history.now rises c.partition_point.result c.args.clock
    (IsPartitionPoint-from_clause (λ (r : Recorded _ _). ltb r.clock c.args.clock) c.args.history.now c.partition_point.result
    c.partition_point.ensures.partitioned sorted (λ a r f' k. search rules))
