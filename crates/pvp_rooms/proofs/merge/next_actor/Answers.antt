use Rattle.std.proofs.Common.{◌≡◌, ℕ, ◌+◌, ◌≤◌, Option, Some, IfSome, IfNone, length, slice_get, slice_index, refl, subst, sym, ap, ◌∙◌, arith}
use Rattle.std.proofs.lemmas.Option.{slice_get_read}
use Rattle.pvp_rooms.specs.declared.message.Recorded.{Recorded}
use Rattle.pvp_rooms.specs.Runs.{history_of}
use Rattle.pvp_rooms.proofs.Looks.{history_read}
use Rattle.pvp_rooms.proofs.Least.{SoFar, IsLeast, NoneLeft, take_new_first, take_new_less, keep_old, one_past, some_next, none_next}
use Rattle.pvp_rooms.proofs.merge.next_actor.Goals as goal
use Rattle.pvp_rooms.proofs.merge.next_actor.Goals.{then-place-history+in-None, then-place-history+in-Some+then-clock-least, then-place-history+in-Some+else-clock-least, else-place-history}

pub loop-k-preserved : goal.loop-k-preserved
loop-k-preserved g c =
    let closed = c.args.closed.now in
    let at = c.args.at.now in
    let k = c.loop-k.k in
    let now = c.if-place-history in
    let list = c.as_slice-history.result.now in
    let so = c.loop-k.invariant in
    let same : list ≡ history_of closed k =
    c.as_slice-history.ensures.value ∙ sym (history_read closed k c.index-closed-k.result c.loop-k-test.true c.index-closed-k.is) in
    let both : (o : Option ℕ) (n : ℕ) → now.found ≡ o → now.least ≡ n → SoFar closed at (k + 1) n o → SoFar closed at (k + 1) now.least now.found =
    λ o n f l s. subst (λ p. SoFar closed at (k + 1) now.least p) (sym f) (subst (λ q. SoFar closed at (k + 1) q o) (sym l) s) in
    elim c.if-place-history.branch [
      | then-place-history+in-None w ↦ (
          let r = w.index-history-place.result in
          let there =
          subst (λ h. slice_get h (slice_index at k) ≡ Some r) same
          (slice_get_read list (length list) (slice_index at k) r refl (omega (arith, w.if-place-history.true)) w.index-history-place.is) in
          both (Some k) r.clock w.found-is (w.least-is ∙ ap (λ (v : Recorded _ _). v.clock) (sym w.index-history-place.is))
          (record { found = take_new_first closed at k r there (subst (λ o. IfNone o (NoneLeft closed at k)) w.in-None.is so.none); none = tt })
          )
      | then-place-history+in-Some+then-clock-least w ↦ (
          let r = w.index-history-place.result in
          let there =
          subst (λ h. slice_get h (slice_index at k) ≡ Some r) same
          (slice_get_read list (length list) (slice_index at k) r refl (omega (arith, w.if-place-history.true)) w.index-history-place.is) in
          both (Some k) r.clock w.found-is (w.least-is ∙ ap (λ (v : Recorded _ _). v.clock) (sym w.index-history-place.is))
          (record {
            found = take_new_less closed at k r c.loop-k.least w.in-Some.field-0 there
                (subst (λ o. IfSome o (IsLeast closed at k c.loop-k.least)) w.in-Some.is so.found)
                (let e = ap (λ (v : Recorded _ _). v.clock) w.index-history-place.is in omega (arith, w.if-clock-least.true, e));
            none = tt;
          })
          )
      | then-place-history+in-Some+else-clock-least w ↦ (
          let r = w.index-history-place.result in
          let there =
          subst (λ h. slice_get h (slice_index at k) ≡ Some r) same
          (slice_get_read list (length list) (slice_index at k) r refl (omega (arith, w.if-place-history.true)) w.index-history-place.is) in
          let old =
          keep_old closed at k r c.loop-k.least w.in-Some.field-0 there (subst (λ o. IfSome o (IsLeast closed at k c.loop-k.least)) w.in-Some.is so.found)
          (let e = ap (λ (v : Recorded _ _). v.clock) w.index-history-place.is in omega (arith, w.if-clock-least.false, e)) in
          both (Some w.in-Some.field-0) c.loop-k.least (w.found-is ∙ w.in-Some.is) w.least-is (record { found = old; none = tt })
          )
      | else-place-history w ↦ (
          let past : length (history_of closed k) ≤ slice_index at k = (let e = ap length same in omega (arith, w.if-place-history.false, e)) in
          both c.loop-k.found c.loop-k.least w.found-is w.least-is (one_past closed at k c.loop-k.least c.loop-k.found past so)
          )
    ]

pub returns-clause-some : goal.returns-clause-some
returns-clause-some g c =
    (let f = c.loop-k-test.false in
    some_next c.args.closed.now c.args.at.now c.loop-k.k c.loop-k.least c.loop-k.found c.requires.order (omega (arith, f)) c.loop-k.invariant)

pub returns-clause-none : goal.returns-clause-none
returns-clause-none g c =
    (let f = c.loop-k-test.false in none_next c.args.closed.now c.args.at.now c.loop-k.k c.loop-k.least c.loop-k.found (omega (arith, f)) c.loop-k.invariant)
