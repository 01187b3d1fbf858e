-- The line of a number is the one that the reader of scripts counts so.
use Rattle.std.proofs.Common.{◌≡◌, ℕ, zero, suc, ◌+◌, ◌-◌, List, [], ◌∷◌, refl, sym, ap, ◌∙◌, arith}
use Rattle.std.specs.List.{before_first, after_first}
use Rattle.pvp_text.specs.ScriptWords.{lines}
use Rattle.pvp_text.proofs.ScriptSplitting.{lines_cut}
use Rattle.pvp_codes.specs.Explained.{is_end, after_lines, line_of, line_in, IsLineCounted}

-- a line is passed over at the front or at the end
after_lines-front : (n : ℕ) (text : List ℕ) → after_lines (suc n) text ≡ after_lines n (after_first is_end text)
after_lines-front zero text = refl
after_lines-front (suc n) text = ap (after_first is_end) (after_lines-front n text)

-- what stands first behind so many lines
first_after : (n : ℕ) (text : List ℕ) → before_first is_end (after_lines n text) ≡ line_in (lines text) n
first_after zero [] = refl
first_after zero (b ∷ bs) = ap (λ ls. line_in ls zero) (sym (lines_cut b bs))
first_after (suc n) [] = ap (before_first is_end) (after_lines-front n []) ∙ first_after n []
first_after (suc n) (b ∷ bs) =
    ap (before_first is_end) (after_lines-front n (b ∷ bs)) ∙ first_after n (after_first is_end (b ∷ bs))
    ∙ ap (λ ls. line_in ls (suc n)) (sym (lines_cut b bs))

pub line-counted : IsLineCounted
line-counted place text = let same : place + 1 - 1 ≡ place = omega arith in ap (λ n. before_first is_end (after_lines n text)) same ∙ first_after place text
