-- What is settled after one more entry, and that it is no more than what was matched.
use Rattle.std.proofs.Common.{◌≡◌, ℕ, ◌+◌, ◌-◌, ◌≤◌, Bool, true, false, List, [], ◌∷◌, ◌++◌, arith, refl, ap, sym, ◌∙◌, append_assoc, filter, cond, eq-eqb}
use Rattle.std.specs.Prelude.{not, sum_by, if◌then◌else◌, ◌&&◌, ◌||◌, ◌==◌, nat_lt}
use Rattle.std.specs.List.{cons_option}
use Rattle.std.proofs.lemmas.List.Sums.{sum_by-cons, sum_by-append}
use Rattle.std.proofs.lemmas.List.Elements.{filter-append, filter_map-append}
use Rattle.std.proofs.lemmas.List.Folds.{list_any-append}
use Rattle.std.proofs.lemmas.Bool.{or_left}
use Rattle.pvp_types.specs.declared.setup.Setup.{Setup}
use Rattle.pvp_types.specs.declared.command.Cmd.{Cmd}
use Rattle.pvp_types.specs.declared.command.Cmd.TheVariants.{Settle}
use Rattle.pvp_book.specs.declared.entry.Entry.{Entry}
use Rattle.pvp_book.specs.declared.pair.Pair.{Pair}
use Rattle.pvp_book.specs.Pairs.{matched_by, matched_pairs, has_reference, has_asked, is_rescission, both_have_asked}
use Rattle.pvp_book.specs.Settlement.{both_pass, candidates, pass, taken_by, settled_after, settled_pairs}
use Rattle.pvp_book.specs.Bounds.{IsWithinMatched}

pub append-nil : {X : Type 0} (xs : List X) → xs ++ [] ≡ xs
append-nil [] = refl
append-nil (x ∷ xs) = ap (λ ys. x ∷ ys) (append-nil xs)

settled_after-push : (setup : Setup) (entries : List Entry) (done : List Pair) (rest : List Entry) (e : Entry)
    → settled_after setup entries done (rest ++ e ∷ [])
    ≡ settled_after setup entries done rest ++ taken_by setup (entries ++ rest) (settled_after setup entries done rest) e.cmd
unfolding settled_after
settled_after-push setup entries done [] e = ap (λ es. done ++ taken_by setup es done e.cmd) (sym (append-nil entries))
settled_after-push setup entries done (r ∷ rest) e =
    let more = done ++ taken_by setup entries done r.cmd in
    settled_after-push setup (entries ++ r ∷ []) more rest e
    ∙ ap (λ es. settled_after setup (entries ++ r ∷ []) more rest ++ taken_by setup es (settled_after setup (entries ++ r ∷ []) more rest) e.cmd)
    (append_assoc entries (r ∷ []) rest)

-- one more entry settles what its command takes
pub settled-push : (setup : Setup) (entries : List Entry) (e : Entry)
    → settled_pairs setup (entries ++ e ∷ []) ≡ settled_pairs setup entries ++ taken_by setup entries (settled_pairs setup entries) e.cmd
unfolding settled_pairs
settled-push setup entries e = settled_after-push setup [] [] entries e

sum-filter-cons : (f : Pair → ℕ) (q : Pair → Bool) (p : Pair) (ps : List Pair)
    → sum_by f (filter q (p ∷ ps)) ≡ (if q p then f p else 0) + sum_by f (filter q ps)
sum-filter-cons f q p ps = by (q p)
  where
    by : (b : Bool) → sum_by f (cond b (p ∷ filter q ps) (filter q ps)) ≡ (if b then f p else 0) + sum_by f (filter q ps)
    by true = sum_by-cons f p (filter q ps)
    by false = omega arith

pub at_most : (b : Bool) (n : ℕ) → (if b then n else 0) ≤ n
at_most true n = omega arith
at_most false n = omega arith

-- a stronger test keeps no more
sum-filter-le : (f : Pair → ℕ) (q r : Pair → Bool) (ps : List Pair) → ((p : Pair) → q p ≡ true → r p ≡ true)
    → sum_by f (filter q ps) ≤ sum_by f (filter r ps)
sum-filter-le f q r [] stronger = omega arith
sum-filter-le f q r (p ∷ ps) stronger =
    let rest = sum-filter-le f q r ps stronger in
    let left = sum-filter-cons f q p ps in
    let right = sum-filter-cons f r p ps in
    let here = by (q p) (r p) (f p) (stronger p) in
    omega arith
  where
    by : (a b : Bool) (n : ℕ) → (a ≡ true → b ≡ true) → (if a then n else 0) ≤ (if b then n else 0)
    by true true n h = omega arith
    by true false n h = absurd (cc (h refl))
    by false b n h = omega arith

pub sum-filter-part : (f : Pair → ℕ) (q : Pair → Bool) (ps : List Pair) → sum_by f (filter q ps) ≤ sum_by f ps
sum-filter-part f q [] = omega arith
sum-filter-part f q (p ∷ ps) =
    let rest = sum-filter-part f q ps in
    let left = sum-filter-cons f q p ps in
    let right = sum_by-cons f p ps in
    let here = at_most (q p) (f p) in
    omega arith

-- without the pairs whose references are among some
unfoldable pub without : List Pair → List Pair → List Pair
without some ps = filter (λ p. not (has_reference some p.reference)) ps

pub same-self : (n : ℕ) → (n == n) ≡ true
same-self n = eq-eqb n n refl

-- a pair more among some leaves no more without them
without-cons-le : (f : Pair → ℕ) (p : Pair) (some ps : List Pair) → sum_by f (without (p ∷ some) ps) ≤ sum_by f (without some ps)
unfolding without
without-cons-le f p some ps =
    sum-filter-le f (λ q. not (has_reference (p ∷ some) q.reference)) (λ q. not (has_reference some q.reference)) ps
    (λ q h. by (p.reference == q.reference) (has_reference some q.reference) h)
  where
    by : (a b : Bool) → not (a || b) ≡ true → not b ≡ true
    by a false h = refl
    by true true h = absurd (cc h)
    by false true h = absurd (cc h)

-- what a walk takes, and what is offered without it, are no more than what is offered
pub pass-within : (setup : Setup) (entries : List Entry) (done : List Pair) (most : ℕ) (offered : List Pair) (f : Pair → ℕ)
    → sum_by f (pass setup entries done most offered) + sum_by f (without (pass setup entries done most offered) offered) ≤ sum_by f offered
unfolding pass without
pass-within setup entries done most [] f = omega arith
pass-within setup entries done most (p ∷ rest) f =
    by (nat_lt 0 most && both_pass setup entries (done ++ p ∷ []) p)
    (pass-within setup entries (done ++ p ∷ []) (most - 1) rest f) (pass-within setup entries done most rest f)
  where
    by : (b : Bool)
        → sum_by f (pass setup entries (done ++ p ∷ []) (most - 1) rest) + sum_by f (without (pass setup entries (done ++ p ∷ []) (most - 1) rest) rest)
        ≤ sum_by f rest
        → sum_by f (pass setup entries done most rest) + sum_by f (without (pass setup entries done most rest) rest) ≤ sum_by f rest
        → sum_by f (if b then p ∷ pass setup entries (done ++ p ∷ []) (most - 1) rest else pass setup entries done most rest)
        + sum_by f (without (if b then p ∷ pass setup entries (done ++ p ∷ []) (most - 1) rest else pass setup entries done most rest) (p ∷ rest))
        ≤ sum_by f (p ∷ rest)
    by true more _ =
        let fewer = without-cons-le f p (pass setup entries (done ++ p ∷ []) (most - 1) rest) rest in
        let here = sum_by-cons f p (pass setup entries (done ++ p ∷ []) (most - 1) rest) in
        let all = sum_by-cons f p rest in
        let same =
        ap (λ (b : Bool). sum_by f (cond (not (b || has_reference (pass setup entries (done ++ p ∷ []) (most - 1) rest) p.reference))
        (p ∷ without (p ∷ (pass setup entries (done ++ p ∷ []) (most - 1) rest)) rest)
        (without (p ∷ (pass setup entries (done ++ p ∷ []) (most - 1) rest)) rest))) (same-self p.reference) in
        omega arith
    by false _ more =
        let kept = sum-filter-cons f (λ q. not (has_reference (pass setup entries done most rest) q.reference)) p rest in
        let all = sum_by-cons f p rest in
        let most_here = at_most (not (has_reference (pass setup entries done most rest) p.reference)) (f p) in
        omega arith

-- two tests one after the other keep what both keep
sum-filter-filter : (f : Pair → ℕ) (q r s : Pair → Bool) (ps : List Pair) → ((p : Pair) → q p ≡ true → (r p ≡ true) × (s p ≡ true))
    → sum_by f (filter q ps) ≤ sum_by f (filter s (filter r ps))
sum-filter-filter f q r s [] both = omega arith
sum-filter-filter f q r s (p ∷ ps) both =
    let rest = sum-filter-filter f q r s ps both in
    let left = sum-filter-cons f q p ps in
    let right = sum-filter-cons f s p (filter r ps) in
    by (q p) (r p) (s p) (both p) left right rest
  where
    by : (a b c : Bool) → (a ≡ true → (b ≡ true) × (c ≡ true))
        → sum_by f (filter q (p ∷ ps)) ≡ (if a then f p else 0) + sum_by f (filter q ps)
        → sum_by f (filter s (p ∷ filter r ps)) ≡ (if c then f p else 0) + sum_by f (filter s (filter r ps))
        → sum_by f (filter q ps) ≤ sum_by f (filter s (filter r ps))
        → sum_by f (filter q (p ∷ ps)) ≤ sum_by f (filter s (cond b (p ∷ filter r ps) (filter r ps)))
    by true true true h left right rest = omega arith
    by true false c h left right rest = absurd (cc ((h refl).0))
    by true true false h left right rest = absurd (cc ((h refl).1))
    by false true c h left right rest = let some = right in omega arith
    by false false c h left right rest = omega arith

-- what is offered and not taken
taken-within : (setup : Setup) (entries : List Entry) (done : List Pair) (cmd : Cmd) (f : Pair → ℕ)
    → let taken = taken_by setup entries done cmd in
    sum_by f taken + sum_by f (without taken (candidates entries done)) ≤ sum_by f (candidates entries done)
unfolding taken_by without
taken-within setup entries done (Settle most) f = pass-within setup entries done most (candidates entries done) f
taken-within setup entries done _ f = let part = sum-filter-part f (λ _. true) (candidates entries done) in omega arith

-- a side that has asked has asked ever after
has_asked-push : (entries : List Entry) (e : Entry) (client reference : ℕ)
    → has_asked entries client reference ≡ true → has_asked (entries ++ e ∷ []) client reference ≡ true
has_asked-push entries e client reference asked =
    list_any-append (λ (x : Entry). (x.client == client) && is_rescission reference x.cmd) entries (e ∷ [])
    ∙ or_left _ _ asked

-- what is offered after an entry was offered before it or is new, and is not taken
pub still-offered : (entries : List Entry) (e : Entry) (done taken : List Pair) (p : Pair)
    → (not (has_reference (done ++ taken) p.reference) && not (both_have_asked (entries ++ e ∷ []) p)) ≡ true
    → ((not (has_reference done p.reference) && not (both_have_asked entries p)) ≡ true) × (not (has_reference taken p.reference) ≡ true)
still-offered entries e done taken p h =
    by (has_reference done p.reference) (has_reference taken p.reference) (has_asked entries p.first p.reference) (has_asked entries p.second p.reference)
    (has_asked (entries ++ e ∷ []) p.first p.reference) (has_asked (entries ++ e ∷ []) p.second p.reference)
    (has_asked-push entries e p.first p.reference) (has_asked-push entries e p.second p.reference)
    (ap (λ (b : Bool). not b && not (both_have_asked (entries ++ e ∷ []) p)) (sym (list_any-append (λ (q : Pair). q.reference == p.reference) done taken)) ∙ h)
  where
    by : (d t a b c g : Bool) → (a ≡ true → c ≡ true) → (b ≡ true → g ≡ true) → (not (d || t) && not (c && g)) ≡ true
        → ((not d && not (a && b)) ≡ true) × (not t ≡ true)
    by true t a b c g x y h = absurd (cc h)
    by false true a b c g x y h = absurd (cc h)
    by false false true true c g x y h = absurd (cc (x refl, y refl, h))
    by false false true false c g x y h = (refl, refl)
    by false false false b c g x y h = (refl, refl)

-- one more entry keeps what is settled and offered within what is matched
pub IsWithinMatched-push : (setup : Setup) (entries : List Entry) (done : List Pair) (e : Entry)
    → IsWithinMatched done (candidates entries done) (matched_pairs entries)
    → IsWithinMatched (done ++ taken_by setup entries done e.cmd) (candidates (entries ++ e ∷ []) (done ++ taken_by setup entries done e.cmd))
    (matched_pairs (entries ++ e ∷ []))
unfolding without
IsWithinMatched-push setup entries done e is = record {
  sums = λ f.
      let new = cons_option (matched_by e.client e.cmd e.reply) [] in
      let taken = taken_by setup entries done e.cmd in
      let keeps = λ (p : Pair). not (has_reference (done ++ taken) p.reference) && not (both_have_asked (entries ++ e ∷ []) p) in
      let kept = λ (p : Pair). not (has_reference done p.reference) && not (both_have_asked entries p) in
      let more : matched_pairs (entries ++ e ∷ []) ≡ matched_pairs entries ++ new =
      filter_map-append (λ (x : Entry). matched_by x.client x.cmd x.reply) entries (e ∷ []) in
      let split : sum_by f (filter keeps (matched_pairs (entries ++ e ∷ []))) ≡ sum_by f (filter keeps (matched_pairs entries)) + sum_by f (filter keeps new) =
      ap (λ ps. sum_by f (filter keeps ps)) more ∙ ap (sum_by f) (filter-append keeps (matched_pairs entries) new)
      ∙ sum_by-append f (filter keeps (matched_pairs entries)) (filter keeps new) in
      let all : sum_by f (matched_pairs (entries ++ e ∷ [])) ≡ sum_by f (matched_pairs entries) + sum_by f new =
      ap (sum_by f) more ∙ sum_by-append f (matched_pairs entries) new in
      let here = sum-filter-part f keeps new in
      let old =
      sum-filter-filter f keeps kept (λ p. not (has_reference taken p.reference)) (matched_pairs entries) (λ p h. still-offered entries e done taken p h) in
      let part = taken-within setup entries done e.cmd f in
      let before = is.sums f in
      let now = sum_by-append f done taken in
      omega arith;
}

pub IsWithinMatched-nil : IsWithinMatched [] (candidates [] []) (matched_pairs [])
IsWithinMatched-nil = record { sums = λ f. omega arith }
