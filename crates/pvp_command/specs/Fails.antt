-- The saves that a command line wants to fail.
use Rattle.std.specs.Prelude.{ℕ, ◌^◌, ◌==◌, Bool, true, false, ◌||◌, List, [], ◌∷◌, Option, Some, None, option_map, option_and_then, find, codes, bytes_eq, nat_le, if◌then◌else◌}
use Rattle.std.specs.List.{list_any, before_first, after_first}
use Rattle.std.specs.Result.{result_ok}
use Rattle.pvp_types.specs.declared.setup.Setup.{Setup}
use Rattle.pvp_text.specs.ScriptFields as script
use Rattle.pvp_play.specs.declared.cells.Fail.{Fail}

-- what stands before the first colon of a word, and what stands after it; all and nothing where there is none
abbrev pub before_colon : List ℕ → List ℕ
before_colon word = before_first (λ b. b == 58) word

abbrev pub after_colon : List ℕ → List ℕ
after_colon word = after_first (λ b. b == 58) word

-- a number of 16 bits, as scripts spell numbers: without a leading zero
abbrev pub number_at : List ℕ → Option ℕ
number_at word = result_ok (script.number_at (2 ^ 16) word)

-- whether the cell then holds the new value
abbrev pub keep_at : List ℕ → Option Bool
keep_at word =
    if bytes_eq word (codes "new") then Some true
    else if bytes_eq word (codes "old") then Some false
    else None

-- the save that three fields name, where each of them is given; saves are counted from 1
abbrev pub fail_told : Option ℕ → Option ℕ → Option Bool → Option Fail
fail_told None at keep = None
fail_told (Some site) None keep = None
fail_told (Some site) (Some at) None = None
fail_told (Some site) (Some at) (Some keep) =
    if at == 0 then None else Some (record { site = site; at = at; keep = keep })

-- SITE:AT:KEEP
abbrev pub fail_at : List ℕ → Option Fail
fail_at word =
    fail_told (number_at (before_colon word)) (number_at (before_colon (after_colon word)))
    (keep_at (after_colon (after_colon word)))

-- what each word names
abbrev pub each_fail : List (List ℕ) → Option (List Fail)
each_fail [] = Some []
each_fail (word ∷ words) = option_and_then (λ fail. option_map (λ fails. fail ∷ fails) (each_fail words)) (fail_at word)

-- one of them is of this site
abbrev pub names : ℕ → List Fail → Bool
names site fails = list_any (λ fail. fail.site == site) fails

-- two of them are of one site
abbrev pub names_twice : List Fail → Bool
names_twice [] = false
names_twice (fail ∷ fails) = names fail.site fails || names_twice fails

-- THE FAILS OF A COMMAND LINE: each word is SITE:AT:KEEP, and no two are of one site
abbrev pub fails_at : List (List ℕ) → Option (List Fail)
fails_at words = option_and_then (λ fails. if names_twice fails then None else Some fails) (each_fail words)

-- the first of them that is of no site below a number
abbrev pub first_beyond : ℕ → List Fail → Option Fail
first_beyond sites fails = find (λ fail. nat_le sites fail.site) fails

-- the first site that is named and that the setup lacks
abbrev pub unknown_site : Setup → List Fail → Option ℕ
unknown_site setup fails = option_map (λ fail. fail.site) (first_beyond setup.sites fails)
