-- A text that reads as a boot is the text of that boot.
use Rattle.std.proofs.Common.{◌≡◌, ◌<◌, ◌-◌, ◌==◌, ℕ, zero, suc, Bool, true, false, List, [], ◌∷◌, ◌++◌, All, Result, Ok, Err, refl, sym, ap, ◌∙◌, arith, lit<, if◌then◌else◌, eqb-true, get_or}
use Rattle.std.specs.Int.{w32, to_be_bytes, from_be_bytes}
use Rattle.std.proofs.lemmas.Nat.{be_bytes_4}
use Rattle.vr_types.specs.declared.cell.Boot.{Boot}
use Rattle.vr_types.specs.Cell.{max_number}
use Rattle.pvp_cell.specs.declared.fault.OpenFault.{OpenFault}
use Rattle.pvp_cell.specs.declared.fault.OpenFault.TheVariants.{Damaged}
use Rattle.pvp_cell.specs.Text.{cell_text, boot_told, fitted}

-- four bytes are those of their number
four : (a b c d : ℕ) → a < 256 → b < 256 → c < 256 → d < 256
    → to_be_bytes w32 (from_be_bytes w32 (a ∷ b ∷ c ∷ d ∷ [])) ≡ a ∷ b ∷ c ∷ d ∷ []
four a b c d a_small b_small c_small d_small = be_bytes_4 (a ∷ b ∷ c ∷ d ∷ []) (from_be_bytes w32 (a ∷ b ∷ c ∷ d ∷ [])) refl small refl
  where
    small : (i : ℕ) → get_or (a ∷ b ∷ c ∷ d ∷ []) i 0 < 256
    small zero = a_small
    small (suc zero) = b_small
    small (suc (suc zero)) = c_small
    small (suc (suc (suc zero))) = d_small
    small (suc (suc (suc (suc i)))) = omega arith

-- a count that fits its complement
told_fits : (boots complement : ℕ) (boot : Boot) → fitted boots complement ≡ Ok boot → (boot.boots ≡ boots) × (complement ≡ max_number - boots)
told_fits boots complement boot told = by (complement == max_number - boots) refl told
  where
    counted : Result Boot OpenFault
    counted = Ok (record { boots = boots })

    by : (fits : Bool) → (complement == max_number - boots) ≡ fits → (if fits then counted else Err Damaged) ≡ Ok boot
        → (boot.boots ≡ boots) × (complement ≡ max_number - boots)
    by true fits is = let one : record { boots = boots } ≡ boot = cc in (ap (λ (b : Boot). b.boots) (sym one), eqb-true complement (max_number - boots) fits)
    by false fits is = cc

pub one_text : (bytes : List ℕ) (boot : Boot) → All (λ byte. byte < 256) bytes → boot_told bytes ≡ Ok boot → bytes ≡ cell_text boot
one_text (a ∷ b ∷ c ∷ d ∷ e ∷ f ∷ g ∷ h ∷ []) boot small told =
    let fits = told_fits (from_be_bytes w32 (a ∷ b ∷ c ∷ d ∷ [])) (from_be_bytes w32 (e ∷ f ∷ g ∷ h ∷ [])) boot told in
    let front = ap (to_be_bytes w32) fits.0 ∙ four a b c d (small 0 0 (lit< tt)) (small 1 0 (lit< tt)) (small 2 0 (lit< tt)) (small 3 0 (lit< tt)) in
    let back =
    ap (to_be_bytes w32) (ap (λ n. max_number - n) fits.0 ∙ sym fits.1) ∙ four e f g h (small 4 0 (lit< tt)) (small 5 0 (lit< tt))
    (small 6 0 (lit< tt)) (small 7 0 (lit< tt)) in
    sym (ap (λ front. front ++ to_be_bytes w32 (max_number - boot.boots)) front ∙ ap (λ back. (a ∷ b ∷ c ∷ d ∷ []) ++ back) back)
one_text [] boot small told = cc
one_text (a ∷ []) boot small told = cc
one_text (a ∷ b ∷ []) boot small told = cc
one_text (a ∷ b ∷ c ∷ []) boot small told = cc
one_text (a ∷ b ∷ c ∷ d ∷ []) boot small told = cc
one_text (a ∷ b ∷ c ∷ d ∷ e ∷ []) boot small told = cc
one_text (a ∷ b ∷ c ∷ d ∷ e ∷ f ∷ []) boot small told = cc
one_text (a ∷ b ∷ c ∷ d ∷ e ∷ f ∷ g ∷ []) boot small told = cc
one_text (a ∷ b ∷ c ∷ d ∷ e ∷ f ∷ g ∷ h ∷ i ∷ rest) boot small told = cc
