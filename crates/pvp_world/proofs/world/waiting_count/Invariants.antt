use Rattle.std.proofs.Common.{◌≡◌, ◌≤◌, take, count_by}
use Rattle.std.specs.Prelude.{is_some}
use Rattle.pvp_world.proofs.world.waiting_count.Given as goal

abbrev pub invariant-loop-client : goal.invariant-loop-client
invariant-loop-client l =
    (l.count ≤ l.client-index) × (l.count ≡ count_by (λ shown. is_some shown.client.waiting) (take l.client-index l.clients))
