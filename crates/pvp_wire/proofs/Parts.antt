-- Small parts of proofs: tags, numbers, tests, and one more item of a list.
use Rattle.std.proofs.Common.{◌≡◌, ℕ, zero, suc, ◌+◌, ◌<◌, ◌==◌, Bool, true, false, ◌&&◌, List, [], ◌∷◌, ◌++◌, length, get_or, take, Ok, Err, refl, ap, ◌∙◌, subst, arith}
use Rattle.std.specs.List.{flat_map}
use Rattle.std.proofs.Math.Seq.{take-suc}
use Rattle.std.proofs.lemmas.Grind.{flat_map-append}
use Rattle.std.proofs.lemmas.List.{append-nil}
use Rattle.std.proofs.lemmas.Bool.{ne_eqb}
use Rattle.pvp_wire.specs.declared.fault.WireFault.TheVariants.{Field}
use Rattle.pvp_wire.specs.Shape.{Reads, number, Fits, number_at, EachFits}
use Rattle.pvp_wire.proofs.Formats.{Takes, IsFormat}
use Rattle.pvp_wire.proofs.Numbers.{number_format}

-- a tag in front
pub tagged : (tag : ℕ) (bytes text rest : List ℕ) → Takes bytes text rest → Takes (tag ∷ bytes) (tag ∷ text) rest
tagged tag bytes text rest t = record { parts = ap (λ (x : List ℕ). tag ∷ x) t.parts; rest_fits = t.rest_fits }

pub n1 : IsFormat (number 1) (Fits 1) (number_at 1)
n1 = number_format 1

pub n2 : IsFormat (number 2) (Fits 2) (number_at 2)
n2 = number_format 2

pub n4 : IsFormat (number 4) (Fits 4) (number_at 4)
n4 = number_format 4

pub n8 : IsFormat (number 8) (Fits 8) (number_at 8)
n8 = number_format 8

abbrev pub refused : {A : Type 0} → Reads A
refused = Err Field

pub never : {A : Type 0} (x : A × List ℕ) → refused ≡ Ok x → ⊥
never x e = absurd cc

pub off : (n k : ℕ) → k < n → (n == k) ≡ false
off n k lt = ne_eqb n k (λ e. absurd (omega arith))

pub both : (a b : Bool) → a ≡ true → b ≡ true → (a && b) ≡ true
both true b ha hb = hb
both false b ha hb = absurd cc

pub parted : (a b : Bool) → (a && b) ≡ true → (a ≡ true) × (b ≡ true)
parted true b h = (refl, h)
parted false b h = absurd cc

-- ---- one more item

each_suc : {A : Type 0} (ItemFits : A → Type 0) (xs : List A) (j : ℕ) (d : A) → j < length xs → EachFits ItemFits (take j xs) → ItemFits (get_or xs j d)
    → EachFits ItemFits (take (suc j) xs)
each_suc ItemFits [] j d lt h r = absurd (omega arith)
each_suc ItemFits (x ∷ xs) zero d lt h r = (r, tt)
each_suc ItemFits (x ∷ xs) (suc j) d lt h r = (h.0, each_suc ItemFits xs j d (omega arith) h.1 r)
