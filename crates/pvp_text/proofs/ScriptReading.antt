-- Reading lines one after the other, as a loop does.
use Rattle.std.proofs.Common.{◌≡◌, ℕ, ◌+◌, ◌≤◌, List, [], ◌∷◌, ◌++◌, Option, Some, None, Result, Ok, Err, refl, sym, ap, ◌∙◌, append_assoc, arith}
use Rattle.std.proofs.lemmas.Bool.{ne_eqb, eq-eqb}
use Rattle.std.proofs.lemmas.List.{append-nil}
use Rattle.pvp_types.specs.declared.setup.Setup.{Setup}
use Rattle.pvp_text.specs.declared.script.Kind.{Kind}
use Rattle.pvp_text.specs.declared.script.Line.{Line}
use Rattle.pvp_text.specs.declared.script.LineFault.{LineFault}
use Rattle.pvp_text.specs.declared.script.Statement.{Statement}
use Rattle.pvp_text.specs.Script.{line_at, of_line, line_of, kept_line, lines_at}
use Rattle.pvp_text.specs.Reading.{◌>>=◌}

-- ---- the lines of a script

-- what was read before, and what is still read
abbrev pub with_front : List Line → Result (List Line) LineFault → Result (List Line) LineFault
with_front front read = read >>= λ others. Ok (front ++ others)

-- memory is refused to no line before this one
abbrev pub IsAhead : Option LineFault → ℕ → Type 0
IsAhead None number = Unit {0}
IsAhead (Some refusal) number = number ≤ refusal.line

regroup : (front found : List Line) (read : Result (List Line) LineFault)
    → with_front front (read >>= λ others. Ok (found ++ others)) ≡ with_front (front ++ found) read
regroup front found (Ok others) = ap (λ (lines : List Line). Ok lines) (sym (append_assoc front found others))
regroup front found (Err fault) = refl

-- a line to which memory is not refused
is_kept : (refused : Option LineFault) (number : ℕ) (said : Option Statement) → IsAhead refused (number + 1)
    → kept_line refused number said ≡ Ok (line_of number said)
is_kept None number said ahead = refl
is_kept (Some refusal) number None ahead = refl
is_kept (Some refusal) number (Some statement) ahead = rw (ne_eqb refusal.line number (λ e. absurd (omega arith))) refl

-- the line before is ahead too
pub ahead_before : (refused : Option LineFault) (number : ℕ) → IsAhead refused (number + 1) → IsAhead refused number
ahead_before None number ahead = tt
ahead_before (Some refusal) number ahead = omega arith

pub goes_on : (refused : Option LineFault) (kind : Kind) (setup : Setup) (front : List Line) (number : ℕ) (line : List ℕ) (rest : List (List ℕ))
    (said : Option Statement) (total : Result (List Line) LineFault)
    → IsAhead refused (number + 1) → of_line number (line_at kind setup line) ≡ Ok said
    → with_front front (lines_at refused kind setup number (line ∷ rest)) ≡ total
    → (found : List Line) → found ≡ front ++ line_of number said → with_front found (lines_at refused kind setup (number + 1) rest) ≡ total
unfolding lines_at
goes_on refused kind setup front number line rest said total ahead h so_far found e =
    rw e (sym (regroup front (line_of number said) (lines_at refused kind setup (number + 1) rest)) ∙ (rw (h, is_kept refused number said ahead) at so_far))

pub ends : (kind : Kind) (setup : Setup) (front : List Line) (number : ℕ) (line : List ℕ) (rest : List (List ℕ)) (fault : LineFault)
    (total : Result (List Line) LineFault)
    → of_line number (line_at kind setup line) ≡ Err fault → with_front front (lines_at None kind setup number (line ∷ rest)) ≡ total → total ≡ Err fault
unfolding lines_at
ends kind setup front number line rest fault total h so_far = sym (rw h at so_far)

-- memory is refused to this line, which asks for something
pub is_refused : (kind : Kind) (setup : Setup) (front : List Line) (refusal : LineFault) (line : List ℕ) (rest : List (List ℕ)) (statement : Statement)
    (total : Result (List Line) LineFault)
    → of_line refusal.line (line_at kind setup line) ≡ Ok (Some statement)
    → with_front front (lines_at (Some refusal) kind setup refusal.line (line ∷ rest)) ≡ total → total ≡ Err refusal
unfolding lines_at
is_refused kind setup front refusal line rest statement total h so_far = sym (rw (h, eq-eqb refusal.line refusal.line refl) at so_far)

pub is_done : (kind : Kind) (setup : Setup) (front : List Line) (number : ℕ) (total : Result (List Line) LineFault)
    → with_front front (lines_at None kind setup number []) ≡ total → total ≡ Ok front
unfolding lines_at
is_done kind setup front number total so_far = sym so_far ∙ ap (λ (lines : List Line). Ok lines) (append-nil front)
