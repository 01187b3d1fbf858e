-- A turn of chaos by the table, and whether all sites are normal.
use Rattle.std.proofs.Common.{◌≡◌, ℕ, zero, suc, ◌+◌, ◌-◌, ◌<◌, ◌≤◌, Bool, true, List, ◌++◌, drop, Option, Some, refl, ap, sym, ◌∙◌, arith}
use Rattle.std.specs.Prelude.{◌&&◌, ◌%◌, replicate, slice_get, unwrap_or}
use Rattle.std.specs.List.{list_all, range_with_len}
use Rattle.pvp_types.specs.declared.step.Step.TheVariants.{Beat}
use Rattle.rand_pcg.specs.Lcg.{Lcg}
use Rattle.rand_pcg.specs.Pcg.{pcg32}
use Rattle.pvp_world.specs.World.{ShownWorld}
use Rattle.pvp_play.specs.declared.chaos.Act.{Act}
use Rattle.pvp_play.specs.declared.chaos.Act.TheVariants.{Drains, Tries, Rests}
use Rattle.pvp_play.specs.Chaos.{any_actor, any_delivery, table, act_of, next_act}

-- the next number decides with all the others
pub all-next : (test : ℕ → Bool) (n i : ℕ) → i < n → list_all test (range_with_len i (n - i)) ≡ (test i && list_all test (range_with_len (i + 1) (n - (i + 1))))
all-next test n i within =
    let more : n - i ≡ suc (n - (i + 1)) = omega arith in ap (λ k. list_all test (range_with_len i k)) more

-- past the last number nothing is left to decide
pub all-past : (test : ℕ → Bool) (n i : ℕ) → n ≤ i → list_all test (range_with_len i (n - i)) ≡ true
all-past test n i past = let none : n - i ≡ 0 = omega arith in ap (λ k. list_all test (range_with_len i k)) none

-- two words were drawn, and chose this
pub act-chosen : {B : Type 0} (words between left : Lcg) (a b : ℕ) (act : Act) (world old : ShownWorld B)
    → (a, between) ≡ pcg32 words → (b, left) ≡ pcg32 between → world ≡ old → act ≡ act_of world a b
    → (act ≡ next_act old words) × (left ≡ (pcg32 (pcg32 words).1).1)
act-chosen {B} words between left a b act world old first second same chosen =
    let drawn : a ≡ (pcg32 words).0 = ap (λ (p : ℕ × Lcg). p.0) first in
    let on : between ≡ (pcg32 words).1 = ap (λ (p : ℕ × Lcg). p.1) first in
    let drawn_then : b ≡ (pcg32 (pcg32 words).1).0 = ap (λ (p : ℕ × Lcg). p.0) second ∙ ap (λ (w : Lcg). (pcg32 w).0) on in
    let on_then : left ≡ (pcg32 (pcg32 words).1).1 = ap (λ (p : ℕ × Lcg). p.1) second ∙ ap (λ (w : Lcg). (pcg32 w).1) on in
    let is : act ≡ act_of old (pcg32 words).0 (pcg32 (pcg32 words).1).0 =
    chosen ∙ ap (λ (w : ShownWorld B). act_of w a b) same ∙ ap (λ (x : ℕ). act_of old x b) drawn ∙ ap (λ (y : ℕ). act_of old (pcg32 words).0 y) drawn_then in
    (is, on_then)

-- ROWS OF THE TABLE

row-same : {A : Type 0} (n k : ℕ) (x : A) (xs : List A) → k < n → slice_get (replicate n x ++ xs) k ≡ Some x
row-same zero k x xs low = absurd (omega arith)
row-same (suc n) zero x xs low = refl
row-same (suc n) (suc k) x xs low = row-same n k x xs (omega arith)

row-past : {A : Type 0} (n k : ℕ) (x : A) (xs : List A) → n ≤ k → slice_get (replicate n x ++ xs) k ≡ slice_get xs (k - n)
row-past zero k x xs low = let e : k - 0 ≡ k = omega arith in ap (slice_get xs) (sym e)
row-past (suc n) zero x xs low = absurd (omega arith)
row-past (suc n) (suc k) x xs low = let e : k - n ≡ suc k - suc n = omega arith in row-past n k x xs (omega arith) ∙ ap (slice_get xs) e

module _ {B : Type 0} (world : ShownWorld B) (a b : ℕ) where
  -- a row of the table
  row : (turn : ℕ) (act : Act) → a % 32 ≡ turn → slice_get (table world b) turn ≡ Some act → act ≡ act_of world a b
  row turn act is at = sym (ap (λ (found : Option Act). unwrap_or found Rests) (ap (slice_get (table world b)) is ∙ at))

  pub row-drains : a % 32 < 16 → Drains ≡ act_of world a b
  row-drains low = row (a % 32) Drains refl (row-same 16 (a % 32) Drains (drop 16 (table world b)) low)

  pub row-delivers : 16 ≤ a % 32 → a % 32 < 20 → any_delivery world b ≡ act_of world a b
  row-delivers past low =
      row (a % 32) (any_delivery world b) refl
      (row-past 16 (a % 32) Drains (drop 16 (table world b)) past ∙ row-same 4 (a % 32 - 16) (any_delivery world b) (drop 20 (table world b)) (omega arith))

  pub row-beats : 21 ≤ a % 32 → a % 32 < 24 → Tries (Beat (any_actor world.setup b)) ≡ act_of world a b
  row-beats past low =
      let after : a % 32 - 16 - 4 ≡ suc (a % 32 - 21) = omega arith in
      row (a % 32) (Tries (Beat (any_actor world.setup b))) refl
      (row-past 16 (a % 32) Drains (drop 16 (table world b)) (omega arith) ∙ row-past 4 (a % 32 - 16) (any_delivery world b)
      (drop 20 (table world b)) (omega arith)
      ∙ ap (slice_get (drop 20 (table world b))) after ∙ row-same 3 (a % 32 - 21) (Tries (Beat (any_actor world.setup b)))
      (drop 24 (table world b)) (omega arith))

  -- a row that stands by itself, of a number that is given
  pub row-one : (turn : ℕ) (act : Act) → a % 32 ≡ turn → slice_get (table world b) turn ≡ Some act → act ≡ act_of world a b
  row-one turn act is at = row turn act is at
