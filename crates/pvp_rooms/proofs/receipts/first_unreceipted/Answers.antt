use Rattle.std.proofs.Common.{◌≡◌, ℕ, ◌<◌, ◌≤◌, ◌+◌, inl, inr, length, length-set, slice_index, take, arith, subst, sym, ap, refl, ◌∙◌}
use Rattle.std.proofs.lemmas.List.{take_all}
use Rattle.std.proofs.lemmas.Bool.{cases_order}
use Rattle.std.proofs.lemmas.Option.{slice_get_read, get_or_from_slice_get}
use Rattle.pvp_rooms.specs.Together.{IsNext, AreUsed, receipts_of, receipts_in}
use Rattle.pvp_rooms.specs.Verdicts.{AreUsedUp, first_places}
use Rattle.pvp_rooms.proofs.Together.{used_more, used_all, full_more}
use Rattle.pvp_rooms.proofs.Used.{used_up_more, few_more}
use Rattle.pvp_rooms.proofs.receipts.first_unreceipted.Goals as goal

pub loop-done-preserved : goal.loop-done-preserved
loop-done-preserved g c =
    let i = c.loop-done.invariant in
    let r = c.index-history-done.result in
    let at = c.loop-done.at.items in
    let k = c.in-Some.k in
    let next = subst (λ l. IsNext c.args.seats.now l r k) c.as_slice.ensures.value c.in-Some.ensures.next in
    let low = subst (λ l. (j : ℕ) → j < k → ¬ IsNext c.args.seats.now l r j) c.as_slice.ensures.value c.in-Some.ensures.lowest in
    let seat = next.seat in
    let within : k < length at = omega (arith, i.seats, seat) in
    record {
      within = omega (arith, c.loop-done-test.true);
      seats = length-set at k (c.index_mut.result.now + 1) ∙ i.seats;
      used =
          used_more c.args.history.now c.args.seats.now at c.loop-done.done k c.index_mut.result.now r c.loop-done-test.true c.index-history-done.is i.seats
          i.used next c.index_mut.ensures.value;
      used_up =
          used_up_more c.args.history.now c.args.seats.now (first_places c.args.seats.now) at c.loop-done.done k c.index_mut.result.now r c.loop-done-test.true
          c.index-history-done.is within c.index_mut.ensures.value i.used_up (record { next = next; lowest = low });
      few = few_more c.args.seats.now at k c.index_mut.result.now r i.few next within c.index_mut.ensures.value;
    }

pub loop-k-preserved : goal.loop-k-preserved
loop-k-preserved g c =
    full_more c.args.seats.now c.loop-done.at.items c.loop-k.k c.index.result.now c.index-seats-k.result c.loop-done.invariant.seats c.loop-k.invariant
    c.loop-k-test.true c.index-seats-k.is c.index.ensures
    (c.if-index-receipts.false ∙ ap length c.receipts.ensures)

pub returns-in-None-clause-some : goal.returns-in-None-clause-some
returns-in-None-clause-some g c =
    let i = c.loop-done.invariant in
    let r = c.index-history-done.result in
    let history = c.args.history.now in
    inr (
      c.loop-done.done,
      refl,
      record {
        event = r;
        is = slice_get_read history (length history) c.loop-done.done r refl c.loop-done-test.true c.index-history-done.is;
        at = c.loop-done.at.items;
        used = i.used_up;
        none = subst (λ l. (k : ℕ) → ¬ IsNext c.args.seats.now l r k) c.as_slice.ensures.value c.in-None.ensures.none;
      },
    )

pub returns-then-index-receipts-clause-some : goal.returns-then-index-receipts-clause-some
returns-then-index-receipts-clause-some g c =
    let i = c.loop-done.invariant in
    let seats = c.args.seats.now in
    let at = c.loop-done.at.items in
    let k = c.loop-k.k in
    let within : k < length at = (let s = i.seats in let t = c.loop-k-test.true in omega (arith, s, t)) in
    let v : slice_index at k ≡ c.index.result.now =
    get_or_from_slice_get at k c.index.result.now 0 (slice_get_read at (length at) k c.index.result.now refl within c.index.ensures) in
    let has : length c.receipts.result.now ≡ length (receipts_of seats k) =
    ap length
    (c.receipts.ensures ∙ sym
    (ap receipts_in (slice_get_read seats (length seats) k c.index-seats-k.result refl c.loop-k-test.true c.index-seats-k.is))) in
    let few = i.few k in
    let other = c.if-index-receipts.true in
    inl (
      refl,
      record {
        at = at;
        used =
            subst (λ l. AreUsedUp seats (first_places seats) l at) (take_all c.loop-done.done c.args.history.now (omega (arith, c.loop-done-test.false)))
            i.used_up;
        seat = k;
        left = not_more (slice_index at k) (length (receipts_of seats k)) few (λ e. other (sym v ∙ e ∙ sym has));
      },
    )
  where
    not_more : (a b : ℕ) → a ≤ b → ¬ (a ≡ b) → a < b
    not_more a b few other =
        elim (cases_order a b) [ inl e ↦ absurd (other e) | inr w ↦ elim w [ inl less ↦ less | inr more ↦ absurd (omega (arith, more, few)) ] ]

pub returns-clause-none : goal.returns-clause-none
returns-clause-none g c =
    let i = c.loop-done.invariant in
    let history = c.args.history.now in
    let at = c.loop-done.at.items in
    let whole : take c.loop-done.done history ≡ history =
    take_all c.loop-done.done history (omega (arith, c.loop-done-test.false)) in
    let full : (k : ℕ) → k < length c.args.seats.now → slice_index at k ≡ length (receipts_of c.args.seats.now k) =
    λ j h. c.loop-k.invariant j (omega (arith, h, c.loop-k-test.false)) in
    record {
      together = used_all history c.args.seats.now at (subst (λ l. AreUsed l c.args.seats.now at) whole i.used) full;
      at = at;
      used = subst (λ l. AreUsedUp c.args.seats.now (first_places c.args.seats.now) l at) whole i.used_up;
      full = full;
    }
