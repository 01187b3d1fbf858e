-- What a log holds, and what a power cut leaves of it.
use Rattle.std.specs.Prelude.{◌≡◌, ℕ, ◌≤◌, List, ◌++◌, length, take, Option, Result, Ok, Err, IfSome, option_map}

-- what is there, where that is known, and these bytes behind it
abbrev pub with_more : Option (List ℕ) → List ℕ → Option (List ℕ)
with_more seen bytes = option_map (λ had. had ++ bytes) seen

-- these bytes came behind what was there, or after a fault a front of them
abbrev pub Appends : {E : Type 0} → Option (List ℕ) → List ℕ → Result (Unit {0}) E → Option (List ℕ) → Type 0
Appends old bytes (Ok done) new = new ≡ with_more old bytes
Appends old bytes (Err fault) new = (count : ℕ) × (new ≡ with_more old (take count bytes))

-- all that the log holds outlives a power cut
abbrev pub OutlivesAll : Option (List ℕ) → ℕ → Type 0
OutlivesAll seen synced = IfSome seen (λ bytes. length bytes ≤ synced)

-- A power cut leaves a front of these bytes, of at least what was synced.
abbrev pub MayLeave : List ℕ → ℕ → List ℕ → Type 0
MayLeave bytes synced left = (count : ℕ) × (synced ≤ count) × (left ≡ take count bytes)
