-- How the numbers of pairs in each state change where one pair moves.
use Rattle.std.proofs.Common.{◌≡◌, ℕ, ◌+◌, ◌≤◌, Bool, true, false, cond, List, [], ◌∷◌, length, filter, find, nat_eq, arith, refl, ap, sym, subst, ◌∙◌, Option, Some, None}
use Rattle.std.specs.Prelude.{◌||◌, ◌==◌, if◌then◌else◌, IfSome}
use Rattle.std.specs.Option.{option_map}
use Rattle.std.specs.Map.{lookup}
use Rattle.std.proofs.lemmas.Bool.{eqb-true, eqb-false}
use Rattle.indexmap.specs.IndexMap.{insert_entry}
use Rattle.pvp_book.specs.declared.entry.Entry.{Entry}
use Rattle.pvp_book.specs.declared.pair.Pair.{Pair}
use Rattle.pvp_book.specs.declared.pair.PairState.{PairState}
use Rattle.pvp_book.specs.declared.kept_pair.KeptPair.{KeptPair}
use Rattle.pvp_book.specs.Pairs.{has_reference}
use Rattle.pvp_book.specs.Ledger.{state_with, is_state}
use Rattle.pvp_book.specs.KeptPair.{pair_with, by_reference, state_kept, pair_in, pair_put}
use Rattle.pvp_book.specs.Tally.{is_at, count_in_state}
use Rattle.pvp_book.proofs.PassLemmas.{AreDistinct}

pub length-kept : {X : Type 0} (b : Bool) (p : X) (ps : List X) → length (cond b (p ∷ ps) ps) ≡ (if b then 1 else 0) + length ps
length-kept true p ps = omega arith
length-kept false p ps = omega arith

-- where no pair has the reference, none moves
same-counted : (t u : Pair → PairState) (s : PairState) (r : ℕ) (ps : List Pair) → has_reference ps r ≡ false → ((p : Pair) → (p.reference ≡ r → ⊥) → t p ≡ u p)
    → count_in_state u s ps ≡ count_in_state t s ps
same-counted t u s r [] none same = refl
same-counted t u s r (p ∷ ps) none same = by (p.reference == r) refl none (λ rest. same-counted t u s r ps rest same)
  where
    by : (b : Bool) → (p.reference == r) ≡ b → (b || has_reference ps r) ≡ false → (has_reference ps r ≡ false → count_in_state u s ps ≡ count_in_state t s ps)
        → count_in_state u s (p ∷ ps) ≡ count_in_state t s (p ∷ ps)
    by true is none rest = absurd (cc none)
    by false is none rest =
        length-kept (is_state (u p) s) p (filter (λ q. is_state (u q) s) ps)
        ∙ ap (λ x. (if is_state x s then 1 else 0) + count_in_state u s ps) (sym (same p (eqb-false p.reference r is)))
        ∙ ap (λ n. (if is_state (t p) s then 1 else 0) + n) (rest none)
        ∙ sym (length-kept (is_state (t p) s) p (filter (λ q. is_state (t q) s) ps))

-- one pair moves
pub one-moved : (t u : Pair → PairState) (s : PairState) (r : ℕ) (ps : List Pair) → AreDistinct ps → ((p : Pair) → (p.reference ≡ r → ⊥) → t p ≡ u p)
    → count_in_state u s ps + is_at (option_map t (find (λ p. r == p.reference) ps)) s
    ≡ count_in_state t s ps + is_at (option_map u (find (λ p. r == p.reference) ps)) s
unfolding AreDistinct
one-moved t u s r [] are same = refl
one-moved t u s r (p ∷ ps) are same =
    by (r == p.reference) refl (length-kept (is_state (t p) s) p (filter (λ q. is_state (t q) s) ps))
    (length-kept (is_state (u p) s) p (filter (λ q. is_state (u q) s) ps))
    (one-moved t u s r ps are.1 same)
  where
    rest : (r == p.reference) ≡ true → count_in_state u s ps ≡ count_in_state t s ps
    rest is = same-counted t u s r ps (subst (λ k. has_reference ps k ≡ false) (sym (eqb-true r p.reference is)) are.0) same

    joined : (x y m n cu ct : ℕ) → cu ≡ x + m → ct ≡ y + n → m ≡ n → cu + y ≡ ct + x
    joined x y m n cu ct is_u is_t both = omega arith

    apart : (x y m n a b cu ct : ℕ) → cu ≡ x + m → ct ≡ y + n → x ≡ y → m + a ≡ n + b → cu + a ≡ ct + b
    apart x y m n a b cu ct is_u is_t heads tails = omega arith

    by : (b : Bool) → (r == p.reference) ≡ b → count_in_state t s (p ∷ ps) ≡ (if is_state (t p) s then 1 else 0) + count_in_state t s ps
        → count_in_state u s (p ∷ ps) ≡ (if is_state (u p) s then 1 else 0) + count_in_state u s ps
        → count_in_state u s ps + is_at (option_map t (find (λ q. r == q.reference) ps)) s
        ≡ count_in_state t s ps + is_at (option_map u (find (λ q. r == q.reference) ps)) s
        → count_in_state u s (p ∷ ps) + is_at (option_map t (cond b (Some p) (find (λ q. r == q.reference) ps))) s
        ≡ count_in_state t s (p ∷ ps) + is_at (option_map u (cond b (Some p) (find (λ q. r == q.reference) ps))) s
    by true is is_t is_u more =
        joined (if is_state (u p) s then 1 else 0) (if is_state (t p) s then 1 else 0) (count_in_state u s ps) (count_in_state t s ps)
        (count_in_state u s (p ∷ ps))
        (count_in_state t s (p ∷ ps)) is_u is_t (rest is)
    by false is is_t is_u more =
        apart (if is_state (u p) s then 1 else 0) (if is_state (t p) s then 1 else 0) (count_in_state u s ps) (count_in_state t s ps)
        (is_at (option_map t (find (λ q. r == q.reference) ps)) s) (is_at (option_map u (find (λ q. r == q.reference) ps)) s) (count_in_state u s (p ∷ ps))
        (count_in_state t s (p ∷ ps)) is_u is_t
        (ap (λ x. if is_state x s then 1 else 0) (sym (same p (λ e. eqb-false r p.reference is (sym e))))) more

-- how many of the kept pairs are in a state
abbrev pub counted_in : PairState → List (ℕ × KeptPair) → ℕ
counted_in s kept = length (filter (λ e. is_state (state_kept e.1) s) kept)

pub counted-kept : (entries : List Entry) (done : List Pair) (s : PairState) (ps : List Pair)
    → counted_in s (by_reference (pair_with entries done) ps) ≡ count_in_state (state_with entries done) s ps
counted-kept entries done s [] = refl
counted-kept entries done s (p ∷ ps) =
    let here = is_state (state_with entries done p) s in
    length-kept here (p.reference, pair_with entries done p) (filter (λ e. is_state (state_kept e.1) s) (by_reference (pair_with entries done) ps))
    ∙ ap (λ n. (if here then 1 else 0) + n) (counted-kept entries done s ps)
    ∙ sym (length-kept here p (filter (λ q. is_state (state_with entries done q) s) ps))

-- a pair that is kept in place of another, or is new, moves alone
put-counted : (s : PairState) (r : ℕ) (k : KeptPair) (kept : List (ℕ × KeptPair))
    → counted_in s (insert_entry nat_eq kept r k) + is_at (option_map state_kept (lookup (nat_eq r) kept)) s
    ≡ counted_in s kept + is_at (Some (state_kept k)) s
put-counted s r k [] = alone (counted_in s ((r, k) ∷ [])) (is_at (Some (state_kept k)) s) (length-kept (is_state (state_kept k) s) (r, k) [])
  where
    alone : (n x : ℕ) → n ≡ x + 0 → n + 0 ≡ 0 + x
    alone n x is = omega arith
put-counted s r k (e ∷ kept) =
    let test = λ (x : ℕ × KeptPair). is_state (state_kept x.1) s in
    by (nat_eq r e.0) (length-kept (test e) e (filter test kept)) (length-kept (is_state (state_kept k) s) (e.0, k) (filter test kept))
    (length-kept (test e) e (filter test (insert_entry nat_eq kept r k))) (put-counted s r k kept)
  where
    by : (b : Bool) → counted_in s (e ∷ kept) ≡ (if is_state (state_kept e.1) s then 1 else 0) + counted_in s kept
        → counted_in s ((e.0, k) ∷ kept) ≡ (if is_state (state_kept k) s then 1 else 0) + counted_in s kept
        → counted_in s (e ∷ insert_entry nat_eq kept r k) ≡ (if is_state (state_kept e.1) s then 1 else 0) + counted_in s (insert_entry nat_eq kept r k)
        → counted_in s (insert_entry nat_eq kept r k) + is_at (option_map state_kept (lookup (nat_eq r) kept)) s
        ≡ counted_in s kept + is_at (Some (state_kept k)) s
        → counted_in s (if b then (e.0, k) ∷ kept else e ∷ insert_entry nat_eq kept r k)
        + is_at (option_map state_kept (cond b (Some e.1) (lookup (nat_eq r) kept))) s
        ≡ counted_in s (e ∷ kept) + is_at (Some (state_kept k)) s
    by true was now later rest = omega arith
    by false was now later rest = omega arith

-- a tally that changes as the count does is still the count
pub tally-put : (s : PairState) (kept : List (ℕ × KeptPair)) (named : Option ℕ) (after : Option KeptPair) {old new : ℕ}
    → IfSome after (λ k. named ≡ Some k.pair.reference) → (after ≡ None → pair_in kept named ≡ None) → old ≡ counted_in s kept
    → new + is_at (option_map state_kept (pair_in kept named)) s ≡ old + is_at (option_map state_kept after) s → new ≡ counted_in s (pair_put kept after)
tally-put s kept named None {old} {new} own none is moves =
    let same : new + 0 ≡ old + 0 = ap (λ o. new + is_at (option_map state_kept o) s) (sym (none refl)) ∙ moves in omega arith
tally-put s kept None (Some k) own none is moves = absurd (cc own)
tally-put s kept (Some r) (Some k) own none is moves =
    let same : r ≡ k.pair.reference = cc own in
    let counts = ap (λ n. counted_in s (insert_entry nat_eq kept n k) + is_at (option_map state_kept (lookup (nat_eq r) kept)) s) (sym same)
    ∙ put-counted s r k kept in
    omega arith

-- a pair that is found is counted
pub found-counted : (s : PairState) (kept : List (ℕ × KeptPair)) (named : Option ℕ) → is_at (option_map state_kept (pair_in kept named)) s ≤ counted_in s kept
found-counted s kept None = omega arith
found-counted s [] (Some r) = omega arith
found-counted s (e ∷ kept) (Some r) =
    by (nat_eq r e.0) (length-kept (is_state (state_kept e.1) s) e (filter (λ (x : ℕ × KeptPair). is_state (state_kept x.1) s) kept))
    (found-counted s kept (Some r))
  where
    by : (b : Bool) → counted_in s (e ∷ kept) ≡ (if is_state (state_kept e.1) s then 1 else 0) + counted_in s kept
        → is_at (option_map state_kept (lookup (nat_eq r) kept)) s ≤ counted_in s kept
        → is_at (option_map state_kept (cond b (Some e.1) (lookup (nat_eq r) kept))) s ≤ counted_in s (e ∷ kept)
    by true all rest = omega arith
    by false all rest = omega arith
