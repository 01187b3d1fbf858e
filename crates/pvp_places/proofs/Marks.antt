-- A text between a front and an end.
use Rattle.std.proofs.Common.{◌≡◌, ℕ, ◌-◌, true, List, [], ◌∷◌, ◌++◌, length, take, drop, sym, ap, ◌∙◌}
use Rattle.std.proofs.Common.{nat_eq}
use lib.Pointwise.{pointwise}
use Rattle.std.proofs.lemmas.List.{take-append-drop}
use Rattle.std.specs.Cmp.Lexicographic.{same_text}

pub text_between : (text front end run inner : List ℕ) → pointwise nat_eq (take (length front) text) front ≡ true → run ≡ drop (length front) text
    → pointwise nat_eq (drop (length run - length end) run) end ≡ true → inner ≡ take (length run - length end) run → front ++ (inner ++ end) ≡ text
text_between text front end run inner begins run-is ends inner-is =
    let n = length run - length end in
    let head = same_text (take (length front) text) front (sym begins) in
    let tail = same_text (drop n run) end (sym ends) in
    let whole : inner ++ end ≡ run = ap (λ (l : List ℕ). l ++ end) inner-is ∙ ap (λ (l : List ℕ). take n run ++ l) (sym tail) ∙ take-append-drop n run in
    ap (λ (l : List ℕ). front ++ l) (whole ∙ run-is) ∙ ap (λ (l : List ℕ). l ++ drop (length front) text) (sym head) ∙ take-append-drop (length front) text
