-- Clients of whom there is no journal, and journals without a record.
use Rattle.std.proofs.Common.{◌≡◌, ℕ, suc, ◌+◌, ◌-◌, ◌<◌, Bool, true, false, if◌then◌else◌, List, [], ◌∷◌, ◌++◌, refl, sym, ap, ◌∙◌, arith, append_assoc, append-nil}
use Rattle.std.specs.List.{filter, range_with_len}
use Rattle.pvp_journal.specs.declared.head.Head.{Head}
use Rattle.pvp_journal.specs.declared.journal.Journal.{Journal as Kept}
use Rattle.pvp_audit.specs.Unseen.{AreBlank, IsBlank}

-- those that pass a test, looked at one after another
pub one_looked_at : (p : ℕ → Bool) (found : List ℕ) (at end : ℕ) → at < end
    → (if p at then found ++ at ∷ [] else found) ++ filter p (range_with_len (at + 1) (end - (at + 1)))
    ≡ found ++ filter p (range_with_len at (end - at))
one_looked_at p found at end low = by (p at) ∙ ap (λ (n : ℕ). found ++ filter p (range_with_len at n)) (sym left)
  where
    left : end - at ≡ suc (end - (at + 1))
    left = omega (arith, low)

    by : (b : Bool)
        → (if b then found ++ at ∷ [] else found) ++ filter p (range_with_len (at + 1) (end - (at + 1)))
        ≡ found ++ (if b then at ∷ filter p (range_with_len (at + 1) (end - (at + 1))) else filter p (range_with_len (at + 1) (end - (at + 1))))
    by true = append_assoc found (at ∷ []) (filter p (range_with_len (at + 1) (end - (at + 1))))
    by false = refl

pub all_looked_at : (p : ℕ → Bool) (found : List ℕ) (at end : ℕ) → (at < end → ⊥) → found ++ filter p (range_with_len at (end - at)) ≡ found
all_looked_at p found at end over =
    let none : end - at ≡ 0 = omega (arith, over) in
    ap (λ (n : ℕ). found ++ filter p (range_with_len at n)) none ∙ append-nil found

-- a blank more
pub blank_more : (head : Head) (clients : List ℕ) (journals : List Kept) (client : ℕ) (journal : Kept) → AreBlank head clients journals
    → IsBlank head client journal → AreBlank head (clients ++ client ∷ []) (journals ++ journal ∷ [])
blank_more head [] [] client journal are is = (is, tt)
blank_more head [] (j ∷ journals) client journal are is = absurd are
blank_more head (c ∷ clients) [] client journal are is = absurd are
blank_more head (c ∷ clients) (j ∷ journals) client journal are is = (are.0, blank_more head clients journals client journal are.1 is)
