-- What is found in a line's words.
use Rattle.std.proofs.Common.{◌≡◌, ℕ, List, [], ◌∷◌, Option, None, refl}
use Rattle.pvp_text.specs.declared.script.table.Field.{Field}
use Rattle.pvp_codes.specs.declared.broken.Breach.{Breach}
use Rattle.pvp_codes.specs.Broken.{first_broken}

-- nothing where no word is left
pub none_left : (breaks : Field → List ℕ → Option Breach) (form : List Field) (said : List (List ℕ)) → said ≡ [] → first_broken breaks form said ≡ None
none_left breaks [] said none = refl
none_left breaks (field ∷ form) said none = rw none refl
