-- How the boot numbers of sites lie in an array.
use Rattle.std.specs.Prelude.{◌≡◌, ℕ, ◌-◌, ◌≤◌, ◌++◌, List, length, take, drop, replicate}
use Rattle.std.proofs.Common.{sym, ap, ◌∙◌, subst, take-append-drop, length-take-le}
use Rattle.vr_types.specs.declared.limits.TheConstants.{MOST_SITES}

-- the first `sites` numbers are those of sites, and the others are 0
pub record AreBoots (boots : List ℕ) (sites : ℕ) : Type 0 where
  pub places : length boots ≡ MOST_SITES
  pub most : sites ≤ MOST_SITES
  pub rest : drop sites boots ≡ replicate (MOST_SITES - sites) 0

-- the list has as many boot numbers as there are sites
pub sites_back : (boots : List ℕ) (sites : ℕ) → AreBoots boots sites
    → length (take sites boots) ≡ sites
sites_back boots sites are =
    length-take-le sites boots (subst (λ n. sites ≤ n) (sym are.places) are.most)

-- the array is the list, and zeros behind it
pub boots_back : (boots : List ℕ) (sites : ℕ) → AreBoots boots sites
    → take sites boots ++ replicate (MOST_SITES - length (take sites boots)) 0 ≡ boots
boots_back boots sites are =
    let told = take sites boots in
    ap (λ n. told ++ replicate (MOST_SITES - n) 0) (sites_back boots sites are)
    ∙ ap (λ rest. told ++ rest) (sym are.rest) ∙ take-append-drop sites boots
