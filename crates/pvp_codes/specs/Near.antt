-- The known word that is nearest to an unknown one.
use Rattle.std.specs.Prelude.{ℕ, ◌+◌, ◌==◌, ◌&&◌, ◌||◌, Bool, false, not, List, [], ◌∷◌, drop, find, Option, bytes_eq, if◌then◌else◌}
use Rattle.pvp_text.specs.ScriptTable.{text_of}
use Rattle.pvp_text.specs.ScriptWords.{is_empty}
use Rattle.pvp_text.specs.declared.script.table.Word.{Word}

-- how many bytes two words have in common at their fronts
abbrev pub common_length : List ℕ → List ℕ → ℕ
common_length [] known = 0
common_length (a ∷ word) [] = 0
common_length (a ∷ word) (b ∷ known) = if a == b then 1 + common_length word known else 0

-- the first two bytes changed places, and all else is the same
abbrev pub is_swapped : List ℕ → List ℕ → Bool
is_swapped (a ∷ b ∷ word) (c ∷ d ∷ known) = (a == d) && ((b == c) && bytes_eq word known)
is_swapped _ _ = false

-- one byte is another, is more, is less, or two changed places, at the front
abbrev pub has_slip : List ℕ → List ℕ → Bool
has_slip word known =
    not (is_empty word && is_empty known)
    && (bytes_eq (drop 1 word) (drop 1 known)
    || (bytes_eq (drop 1 word) known || (bytes_eq word (drop 1 known) || is_swapped word known)))

-- ONE SLIP AWAY: so behind what two words have in common
abbrev pub is_slip : List ℕ → List ℕ → Bool
is_slip word known = has_slip (drop (common_length word known) word) (drop (common_length word known) known)

-- the first of some words that is one slip away
abbrev pub near_word : List ℕ → List Word → Option Word
near_word word known = find (λ one. is_slip word (text_of one)) known
