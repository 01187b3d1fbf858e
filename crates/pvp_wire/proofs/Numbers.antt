-- A number that is read from bytes is the one that was written, and the other way round.
use Rattle.std.proofs.Common.{◌≡◌, ℕ, zero, suc, ◌+◌, ◌*◌, ◌/◌, ◌%◌, ◌^◌, ◌<◌, ◌≤◌, false, nat_lt, List, [], ◌∷◌, ◌++◌, length, take, drop, refl, sym, ap, ◌∙◌, arith}
use Rattle.std.specs.Int.{byte_at, bytes_high_first}
use Rattle.std.proofs.Math.Nat.{mod-lt, mod-eq_of_lt, mul-add-mod_self_right, mul-div_cancel}
use Rattle.std.proofs.lemmas.Bool.{ltb-false, le-ltb}
use Rattle.std.proofs.lemmas.List.Elements.{All-cons, All-nil}
use Rattle.std.proofs.lemmas.List.{append-nil, drop_at, take-append-drop, length-append, length-take}
use Rattle.byteorder.specs.Endian.{big_from, big_bytes, big_number}
use Rattle.byteorder.specs.Numbers.{big_from-cons, big_from-take, big_from-lt, big_number-reads_back, length-bytes_high_first}
use Rattle.pvp_wire.specs.declared.fault.WireFault.TheVariants.{Length}
use Rattle.pvp_wire.specs.Spelling.{number}
use Rattle.pvp_wire.specs.Reading.{number_at}
use Rattle.pvp_wire.specs.Fits.{IsBytes}
use Rattle.pvp_wire.proofs.Formats.{each_byte, IsBytes-rest, IsBytes-drop, IsBytes-take, IsFormat, guard_ok}

byte_at-lt : (i n : ℕ) → byte_at i n < 256
byte_at-lt zero n = mod-lt n (omega arith)
byte_at-lt (suc i) n = mod-lt (n / 256 ^ suc i) (omega arith)

IsBytes-high_first : (k n : ℕ) → IsBytes (bytes_high_first k n)
IsBytes-high_first zero n = All-nil (λ (b : ℕ). b < 256)
IsBytes-high_first (suc k) n = All-cons (λ (b : ℕ). b < 256) (byte_at k n) (bytes_high_first k n) (byte_at-lt k n) (IsBytes-high_first k n)

-- two numbers to a base with their last digits
digits : (c a x b y : ℕ) → x < c → y < c → a * c + x ≡ b * c + y → (a ≡ b) × (x ≡ y)
digits c a x b y lx ly e =
    let low : x ≡ y = sym (mod-eq_of_lt lx) ∙ sym (mul-add-mod_self_right a c x) ∙ ap (λ (n : ℕ). n % c) e ∙ mul-add-mod_self_right b c y ∙ mod-eq_of_lt ly in
    let high : a * c ≡ b * c = omega arith in
    let some : zero < c = omega arith in
    (sym (mul-div_cancel a some) ∙ ap (λ (n : ℕ). n / c) high ∙ mul-div_cancel b some, low)

-- bytes of one number are the same
one_number : (k : ℕ) (xs ys : List ℕ) → length xs ≡ k → length ys ≡ k → IsBytes xs → IsBytes ys → big_from 0 k xs ≡ big_from 0 k ys → xs ≡ ys
one_number zero [] [] lx ly hx hy e = refl
one_number zero [] (y ∷ ys) lx ly hx hy e = absurd (omega arith)
one_number zero (x ∷ xs) ys lx ly hx hy e = absurd (omega arith)
one_number (suc k) [] ys lx ly hx hy e = absurd (omega arith)
one_number (suc k) (x ∷ xs) [] lx ly hx hy e = absurd (omega arith)
one_number (suc k) (x ∷ xs) (y ∷ ys) lx ly hx hy e =
    let tx = IsBytes-rest x xs hx in
    let ty = IsBytes-rest y ys hy in
    let split : x * 256 ^ k + big_from 0 k xs ≡ y * 256 ^ k + big_from 0 k ys =
    ap (λ (n : ℕ). x * 256 ^ k + n) (sym (big_from-cons 0 k x xs)) ∙ e ∙ ap (λ (n : ℕ). y * 256 ^ k + n) (big_from-cons 0 k y ys) in
    let d = digits (256 ^ k) x (big_from 0 k xs) y (big_from 0 k ys) (big_from-lt 0 k xs (each_byte xs tx)) (big_from-lt 0 k ys (each_byte ys ty)) split in
    let rest = one_number k xs ys (omega arith) (omega arith) tx ty d.1 in
    rw (d.0, rest) refl

-- the bytes of the number in the first bytes are these
back : (n : ℕ) (bytes : List ℕ) → n ≤ length bytes → IsBytes bytes → big_bytes n (big_number n bytes) ≡ take n bytes
back n bytes long fits =
    let x = big_number n bytes in
    let below : x < 256 ^ n = big_from-lt 0 n bytes (each_byte bytes fits) in
    let written : big_from 0 n (big_bytes n x) ≡ x = ap (big_from 0 n) (sym (append-nil (big_bytes n x))) ∙ big_number-reads_back n x [] below in
    let read : big_from 0 n (take n bytes) ≡ x = big_from-take 0 n n bytes (omega arith) in
    one_number n (big_bytes n x) (take n bytes) (length-bytes_high_first n x) (omega (arith, length-take n bytes)) (IsBytes-high_first n x)
    (IsBytes-take n bytes fits) (written ∙ sym read)

-- a number of n bytes
pub number_format : (n : ℕ) → IsFormat (number n) (λ x. x < 256 ^ n) (number_at n)
unfolding number
number_format n = record {
  takes = λ bytes x rest fits e.
      let g = guard_ok (nat_lt (length bytes) n) Length (big_number n bytes, drop n bytes) (x, rest) e in
      let long : n ≤ length bytes = ltb-false _ _ g.0 in
      let x-is : big_number n bytes ≡ x = ap (λ (p : ℕ × List ℕ). p.0) g.1 in
      let rest-is : drop n bytes ≡ rest = ap (λ (p : ℕ × List ℕ). p.1) g.1 in (
        record {
          parts = rw (← x-is, back n bytes long fits, ← rest-is) (sym (take-append-drop n bytes));
          rest_fits = rw (← rest-is) (IsBytes-drop n bytes fits);
        },
        rw (← x-is) (big_from-lt 0 n bytes (each_byte bytes fits)),
      );
  again = λ x rest lt.
      let len = length-bytes_high_first n x in
      let long : nat_lt (length (big_bytes n x ++ rest)) n ≡ false = le-ltb _ _ (omega (arith, length-append (big_bytes n x) rest, len)) in
      rw (long, big_number-reads_back n x rest lt, drop_at (big_bytes n x) rest n len) refl;
}

pub length-number : (n x : ℕ) → length (number n x) ≡ n
unfolding number
length-number n x = length-bytes_high_first n x
