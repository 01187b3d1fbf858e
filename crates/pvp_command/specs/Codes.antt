-- Which words of a command line ask what the fault codes mean, and which for an actor to be served.
use Rattle.std.specs.Prelude.{ℕ, ◌&&◌, ◌||◌, Bool, false, List, [], ◌∷◌, bytes_eq, codes}

-- `help codes`, after the program's own name
abbrev pub asks_for_codes : List (List ℕ) → Bool
asks_for_codes (program ∷ first ∷ second ∷ []) = bytes_eq first (codes "help") && bytes_eq second (codes "codes")
asks_for_codes _ = false

-- `serve` or `begin`, after the program's own name
abbrev pub begins_with_serve : List (List ℕ) → Bool
begins_with_serve (program ∷ first ∷ rest) = bytes_eq first (codes "serve") || bytes_eq first (codes "begin")
begins_with_serve _ = false
