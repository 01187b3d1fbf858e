-- Files that are read as journals, one after another.
use Rattle.std.proofs.Common.{◌≡◌, ℕ, ◌+◌, ◌<◌, List, [], ◌∷◌, ◌++◌, ◌∙◌, ap, sym, subst, length, map, take, get_or, option_map, Option}
use Rattle.std.proofs.lemmas.List.{take_more, map-append, take-map}
use Rattle.std.proofs.lemmas.Option.{slice_get-get_or, slice_get-map}
use Rattle.pvp_journal.specs.declared.journal.Journal.{Journal}
use Rattle.pvp_command.specs.declared.fault.Fault.{Fault}
use Rattle.pvp_command.specs.declared.files.FileFault.{FileFault}
use Rattle.pvp_command.specs.Audits.{AreReadFrom, ReadsFile, IsBadFile, IsBadAt}

pub AreReadFrom-push : (known : List ℕ → Option (List ℕ)) (names : List (List ℕ)) (journals : List Journal) (name : List ℕ) (journal : Journal)
    → AreReadFrom known names journals → ReadsFile known name journal → AreReadFrom known (names ++ name ∷ []) (journals ++ journal ∷ [])
AreReadFrom-push known [] [] name journal before here = (here, tt)
AreReadFrom-push known [] (other ∷ more) name journal before here = absurd before
AreReadFrom-push known (first ∷ names) [] name journal before here = absurd before
AreReadFrom-push known (first ∷ names) (other ∷ more) name journal before here = (before.0, AreReadFrom-push known names more name journal before.1 here)

map_take_next : {X Y : Type 0} (f : X → Y) (xs : List X) (at : ℕ) (none : X) → at < length xs
    → map f (take (at + 1) xs) ≡ map f (take at xs) ++ f (get_or xs at none) ∷ []
map_take_next f xs at none lt = ap (map f) (take_more xs at none lt) ∙ map-append f (take at xs) (get_or xs at none ∷ [])

-- the next of some files reads as a journal too
pub AreReadFrom-next : {X : Type 0} (known : List ℕ → Option (List ℕ)) (text : X → List ℕ) (names : List X) (at : ℕ) (none : X) (journals : List Journal)
    (journal : Journal) → at < length names → AreReadFrom known (map text (take at names)) journals → ReadsFile known (text (get_or names at none)) journal
    → AreReadFrom known (map text (take (at + 1) names)) (journals ++ journal ∷ [])
AreReadFrom-next known text names at none journals journal lt before here =
    subst (λ read. AreReadFrom known read (journals ++ journal ∷ [])) (sym (map_take_next text names at none lt))
    (AreReadFrom-push known (map text (take at names)) journals (text (get_or names at none)) journal before here)

-- the next is bad, and it is the first that is
pub bad_next : {X : Type 0} (known : List ℕ → Option (List ℕ)) (fails : List ℕ → FileFault → Type 0) (text : X → List ℕ) (names : List X) (at : ℕ) (none : X)
    (journals : List Journal) (place : ℕ) (told : Fault) → place ≡ at → at < length names → AreReadFrom known (map text (take at names)) journals
    → IsBadFile known fails (place + 1) (text (get_or names at none)) told → IsBadAt known fails (map text names) told
bad_next known fails text names at none journals place told counted lt before bad = record {
  before = at;
  name = text (get_or names at none);
  journals = journals;
  there = slice_get-map text names at ∙ ap (option_map text) (slice_get-get_or names at none lt);
  read = subst (λ read. AreReadFrom known read journals) (sym (take-map text at names)) before;
  bad = subst (λ n. IsBadFile known fails (n + 1) (text (get_or names at none)) told) counted bad;
}
