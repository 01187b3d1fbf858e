use Rattle.std.proofs.Common.{ap, ◌∙◌}
use Rattle.std.specs.Prelude.{◌&&◌, ◌||◌, nat_lt, nat_le, slice_index_or}
use Rattle.pvp_book.proofs.pay_ins.PayIns.reserve.Goals as goal

pub returns-clause-same : goal.returns-clause-same
returns-clause-same c = λ entries held k n.
    ap (λ b. (nat_lt 0 n && nat_le n (slice_index_or c.args.self.now.up_to k 0)) || b) (c.reserve.ensures.keys.2 (k, n)) ∙ held k n
