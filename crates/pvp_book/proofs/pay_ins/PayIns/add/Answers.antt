use Rattle.std.proofs.Common.{◌≡◌, Bool, true, false, refl, ap, ◌∙◌}
use Rattle.std.specs.Prelude.{◌==◌, ◌&&◌, ◌||◌, nat_lt, nat_le, slice_index_or}
use Rattle.std.specs.List.{list_any}
use Rattle.pvp_book.proofs.Counts.{put}
use Rattle.pvp_book.proofs.OrderTableLemmas.{succeeded}
use Rattle.pvp_book.proofs.pay_ins.PayIns.add.Goals as goal

one-more : (first others new : Bool) → (first || (others || new)) ≡ ((first || others) || new)
one-more true others new = refl
one-more false others new = refl

pub returns-else-place-lt-MOST_CURRENCIES : goal.returns-else-place-lt-MOST_CURRENCIES
returns-else-place-lt-MOST_CURRENCIES c = λ k n.
    let first = nat_lt 0 n && nat_le n (slice_index_or c.args.self.now.up_to k 0) in
    let others = list_any (λ x. (k == x.0) && (n == x.1)) c.args.self.now.others.keys in
    let new = (c.args.ccy == k) && (c.args.pay == n) in
    ap (λ b. first || b) ((succeeded c.insert.result (c.insert.ensures.succeeds c.requires.room) c.insert.ensures.updates).0 (k, n) ∙ put new others)
    ∙ one-more first others new
