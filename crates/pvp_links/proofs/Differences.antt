-- Two texts are the same where their bytes, each joined with the other's, leave no bit.
use Rattle.std.proofs.Common.{◌≡◌, ℕ, ◌+◌, ◌<◌, ◌%◌, ◌==◌, max, List, length, get_or, bit_or, bit_xor, refl, sym, ap, ◌∙◌, arith, below_more}
use Rattle.std.specs.Int.{bit_at}
use Rattle.std.specs.Int.Bits.{xor_self}
use Rattle.std.specs.Str.{bytes_eq}
use Rattle.std.specs.Bool.{Decides}
use Rattle.std.proofs.lemmas.Nat.Bits.{same_from_bits, bit_at-zero, bit_at_or, bit_at_xor, bit_at-lt}
use Rattle.std.proofs.lemmas.Grind.{same_number_lists}
use Rattle.std.proofs.lemmas.Bool.{eqb-true, eq-eqb}
use Rattle.std.proofs.lemmas.Bool.Decides.{same_from_decides}
use Rattle.std.proofs.lemmas.Slice.Eq.{bytes_eq-Decides}

or_none : (a b : ℕ) → bit_or a b ≡ 0 → (a ≡ 0) × (b ≡ 0)
or_none a b e =
    let bits : (i : ℕ) → max (bit_at a i) (bit_at b i) ≡ 0 = λ i. sym (bit_at_or a b i) ∙ ap (λ (n : ℕ). bit_at n i) e ∙ bit_at-zero i in
    let left : (i : ℕ) → bit_at a i ≡ bit_at 0 i = λ i. let m = bits i in let z = bit_at-zero i in omega (arith, m, z) in
    let right : (i : ℕ) → bit_at b i ≡ bit_at 0 i = λ i. let m = bits i in let z = bit_at-zero i in omega (arith, m, z) in
    (same_from_bits a 0 left, same_from_bits b 0 right)

even : (x y : ℕ) → x < 2 → y < 2 → (x + y) % 2 ≡ 0 → x ≡ y
even x y p q e = omega arith

xor_none : (a b : ℕ) → bit_xor a b ≡ 0 → a ≡ b
xor_none a b e =
    same_from_bits a b (λ i. even (bit_at a i) (bit_at b i) (bit_at-lt a i) (bit_at-lt b i)
    (sym (bit_at_xor a b i) ∙ ap (λ (n : ℕ). bit_at n i) e ∙ bit_at-zero i))

-- what the differences of the first n bytes tell
pub record Tells (xs ys : List ℕ) (d n : ℕ) : Type 0 where
  pub none : d ≡ 0 → (k : ℕ) → k < n → get_or xs k 0 ≡ get_or ys k 0
  pub all : ((k : ℕ) → k < n → get_or xs k 0 ≡ get_or ys k 0) → d ≡ 0

pub tells-none : (xs ys : List ℕ) → Tells xs ys 0 0
tells-none xs ys = record { none = λ e k h. absurd (omega arith); all = λ h. refl }

nothing : (d a b : ℕ) → d ≡ 0 → a ≡ b → bit_or d (bit_xor a b) ≡ 0
nothing d a b p q = ap (λ (n : ℕ). bit_or n (bit_xor a b)) p ∙ ap (λ (n : ℕ). bit_or 0 (bit_xor n b)) q ∙ ap (bit_or 0) (xor_self b)

pub tells-more : (xs ys : List ℕ) (d n : ℕ) → Tells xs ys d n → Tells xs ys (bit_or d (bit_xor (get_or xs n 0) (get_or ys n 0))) (n + 1)
tells-more xs ys d n t = record {
  none = λ e. let p = or_none d (bit_xor (get_or xs n 0) (get_or ys n 0)) e in below_more _ _ (t.none p.0) (xor_none (get_or xs n 0) (get_or ys n 0) p.1);
  all = λ h. nothing d (get_or xs n 0) (get_or ys n 0) (t.all (λ k lt. h k (omega arith))) (h n (omega arith));
}

pub tells-all : (xs ys : List ℕ) (d n : ℕ) → length xs ≡ length ys → n ≡ length xs → Tells xs ys d n → (d == 0) ≡ bytes_eq xs ys
tells-all xs ys d n e whole t =
    let same : xs ≡ ys → d ≡ 0 = λ q. t.all (λ k h. ap (λ (l : List ℕ). get_or l k 0) q) in
    let other : d ≡ 0 → xs ≡ ys = λ z. same_number_lists xs ys e (λ k h. t.none z k (omega arith)) in
    let test : Decides (d == 0) (xs ≡ ys) = ((λ h. other (eqb-true d 0 h)), (λ q. eq-eqb d 0 (same q))) in
    same_from_decides (d == 0) (bytes_eq xs ys) test (bytes_eq-Decides xs ys)
