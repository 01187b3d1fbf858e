-- The pairs that wait are as many as the matched ones.
use Rattle.std.proofs.Common.{◌≡◌, ℕ, ◌+◌, Bool, true, false, List, [], ◌∷◌, length, filter, find, arith, refl, ap, sym, subst, ◌∙◌, Some}
use Rattle.std.specs.Prelude.{not, ◌&&◌, ◌||◌, ◌==◌, if◌then◌else◌}
use Rattle.std.specs.List.{AllByRecursion}
use Rattle.std.specs.Option.{option_map}
use Rattle.std.proofs.lemmas.Bool.{ne_eqb}
use Rattle.std.proofs.lemmas.List.Elements.{filter_agree}
use Rattle.pvp_book.specs.declared.pair.Pair.{Pair}
use Rattle.pvp_book.specs.declared.pair.PairState.{PairState}
use Rattle.pvp_book.specs.declared.pair.PairState.TheVariants as state
use Rattle.pvp_book.specs.Pairs.{pairs, matched_pairs, has_reference, has_asked, both_have_asked, is_matched}
use Rattle.pvp_book.specs.Settlement.{settled_pairs}
use Rattle.pvp_book.specs.Ledger.{Ledger, queue, state_of, is_state, pairs_in}
use Rattle.pvp_book.specs.Kept.{Kept, KeepsLedger}
use Rattle.pvp_book.specs.Tally.{is_at, count_in_state}
use Rattle.pvp_book.proofs.SettlementLemmas.{same-self}
use Rattle.pvp_book.proofs.SoundLemmas.{IsSoundBook, sound}
use Rattle.pvp_book.proofs.PassLemmas.{AreDistinct, distinct-once}
use Rattle.pvp_book.proofs.TallyLemmas.{length-kept, one-moved}
use Rattle.pvp_book.proofs.BookLemmas.{pairs-distinct}

-- matched, where it has the reference of one of these and passes a test
abbrev marked : (Pair → Bool) → List Pair → Pair → PairState
marked test ms p = if has_reference ms p.reference && test p then state.Matched else state.Unmatched

none-marked : (ps : List Pair) → count_in_state (λ p. state.Unmatched) state.Matched ps ≡ 0
none-marked [] = refl
none-marked (p ∷ ps) = none-marked ps

-- one more of them moves the pair of its reference alone
module _ (test : Pair → Bool) (m : Pair) (ms : List Pair) where
  others-stay : (p : Pair) → (p.reference ≡ m.reference → ⊥) → marked test ms p ≡ marked test (m ∷ ms) p
  others-stay p apart =
      ap (λ b. if (b || has_reference ms p.reference) && test p then state.Matched else state.Unmatched)
      (sym (ne_eqb m.reference p.reference (λ e. apart (sym e))))

  was-none : has_reference ms m.reference ≡ false → is_at (Some (marked test ms m)) state.Matched ≡ 0
  was-none none = ap (λ b. is_at (Some (if b && test m then state.Matched else state.Unmatched)) state.Matched) none

  is-one : is_at (Some (marked test (m ∷ ms) m)) state.Matched ≡ (if test m then 1 else 0)
  is-one =
      ap (λ b. is_at (Some (if (b || has_reference ms m.reference) && test m then state.Matched else state.Unmatched)) state.Matched)
      (same-self m.reference) ∙ by (test m)
    where
      by : (b : Bool) → is_at (Some (if b then state.Matched else state.Unmatched)) state.Matched ≡ (if b then 1 else 0)
      by true = refl
      by false = refl

-- pairs that are each found by reference among others are as many as those of their references
as-many : (test : Pair → Bool) (ps : List Pair) → AreDistinct ps → (ms : List Pair) → AreDistinct ms
    → AllByRecursion (λ m. find (λ (p : Pair). m.reference == p.reference) ps ≡ Some m) ms
    → length (filter test ms) ≡ count_in_state (marked test ms) state.Matched ps
unfolding AreDistinct
as-many test ps are [] distinct known = sym (none-marked ps)
as-many test ps are (m ∷ ms) distinct known =
    let t = marked test ms in
    let u = marked test (m ∷ ms) in
    let moves = (λ i. count_in_state u state.Matched ps + is_at (option_map t (sym known.0 i)) state.Matched)
    ∙ one-moved t u state.Matched m.reference ps are (others-stay test m ms)
    ∙ (λ i. count_in_state t state.Matched ps + is_at (option_map u (known.0 i)) state.Matched) in
    sum (length (filter test (m ∷ ms))) (if test m then 1 else 0) (length (filter test ms)) (count_in_state t state.Matched ps)
    (count_in_state u state.Matched ps)
    (is_at (Some (t m)) state.Matched) (is_at (Some (u m)) state.Matched)
    (length-kept (test m) m (filter test ms)) (as-many test ps are ms distinct.1 known.1) moves (was-none test m ms distinct.0) (is-one test m ms)
  where
    sum : (all x rest ct cu a b : ℕ) → all ≡ x + rest → rest ≡ ct → cu + a ≡ ct + b → a ≡ 0 → b ≡ x → all ≡ cu
    sum all x rest ct cu a b split more moves none one = omega arith

-- the pairs that a walk would look at
pub queue-counted : (held : Ledger) (kept : Kept) → KeepsLedger held kept
    → length (queue held.setup held.entries) ≡ length (pairs_in held.setup held.entries state.Matched)
queue-counted held kept is =
    let entries = held.entries in
    let done = settled_pairs held.setup held.entries in
    let sound_here = subst (IsSoundBook held.setup) (sym is.reached) (sound held.setup is.history) in
    as-many (λ p. not (has_reference done p.reference) && not (both_have_asked entries p)) (pairs entries) (pairs-distinct held is) (matched_pairs entries)
    (distinct-once (matched_pairs entries) sound_here.once) sound_here.known
    ∙ ap length
    (filter_agree (λ p. is_state (marked (λ q. not (has_reference done q.reference) && not (both_have_asked entries q)) (matched_pairs entries) p)
    state.Matched)
    (λ p. is_state (state_of held.setup entries p) state.Matched)
    (λ p. by (has_reference done p.reference) (is_matched entries p) (both_have_asked entries p) (has_asked entries p.first p.reference)) (pairs entries))
  where
    by : (done matched both first : Bool)
        → is_state (if matched && (not done && not both) then state.Matched else state.Unmatched) state.Matched
        ≡ is_state (if done then state.Settled else if (if matched then both else first) then state.Rescinded else if matched then state.Matched
        else state.Unmatched) state.Matched
    by true true both first = refl
    by true false both first = refl
    by false true true first = refl
    by false true false first = refl
    by false false both true = refl
    by false false both false = refl
