-- The lines of a text, and the words of a line.
use Rattle.std.specs.Prelude.{ℕ, ◌==◌, Bool, true, false, not, List, [], ◌∷◌, filter, if◌then◌else◌}
use Rattle.std.specs.List.{onto_first, slice_split}

-- a list of nothing
abbrev pub is_empty : {A : Type 0} → List A → Bool
is_empty [] = true
is_empty (_ ∷ _) = false

-- the lines of a text: each ends with LF, which the last may lack
abbrev pub lines : List ℕ → List (List ℕ)
lines [] = []
lines (b ∷ bs) = if b == 10 then [] ∷ lines bs else onto_first b (lines bs)

-- the words of a line: one or more spaces part them
abbrev pub words : List ℕ → List (List ℕ)
words line = filter (λ word. not (is_empty word)) (slice_split (λ b. b == 32) line)
