-- What each word of a command line names, one after the other, as a loop reads them.
use Rattle.std.proofs.Common.{◌≡◌, ℕ, ◌+◌, ◌<◌, List, [], ◌∷◌, ◌++◌, length, get_or, drop, map, option_map, Option, Some, None, refl, sym, ap, ◌∙◌, append_assoc}
use Rattle.std.proofs.lemmas.List.{drop_more}
use Rattle.pvp_play.specs.declared.cells.Fail.{Fail}
use Rattle.pvp_command.specs.Fails.{fail_at, each_fail}

-- what was named before, and what the words that are left name
abbrev pub with_front : List Fail → Option (List Fail) → Option (List Fail)
with_front front told = option_map (λ fails. front ++ fails) told

regroup : (front : List Fail) (fail : Fail) (told : Option (List Fail))
    → with_front front (option_map (λ fails. fail ∷ fails) told) ≡ with_front (front ++ fail ∷ []) told
regroup front fail None = refl
regroup front fail (Some fails) = ap (λ ys. Some ys) (sym (append_assoc front (fail ∷ []) fails))

pub goes_on : {W : Type 0} (text : W → List ℕ) (words : List W) (i : ℕ) (none : W) (front : List Fail) (fail : Fail) → i < length words
    → fail_at (text (get_or words i none)) ≡ Some fail
    → with_front front (each_fail (map text (drop i words))) ≡ each_fail (map text words)
    → with_front (front ++ fail ∷ []) (each_fail (map text (drop (i + 1) words))) ≡ each_fail (map text words)
goes_on text words i none front fail lt read held =
    let one : with_front front (each_fail (map text (drop i words))) ≡ with_front (front ++ fail ∷ []) (each_fail (map text (drop (i + 1) words))) =
    rw (drop_more words i none lt, read) (regroup front fail (each_fail (map text (drop (i + 1) words)))) in
    sym one ∙ held
