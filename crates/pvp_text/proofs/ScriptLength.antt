-- A script is read as no more lines than it has.
use Rattle.std.proofs.Common.{◌≡◌, ℕ, suc, ◌+◌, ◌≤◌, Bool, true, false, List, [], ◌∷◌, ◌++◌, length, Option, Some, None, Result, Ok, Err, refl, ap, arith}
use Rattle.std.specs.Prelude.{nat_lt, if◌then◌else◌}
use Rattle.std.proofs.lemmas.Bool.{ltb-false}
use Rattle.pvp_types.specs.declared.setup.Setup.{Setup}
use Rattle.pvp_text.specs.declared.script.Kind.{Kind}
use Rattle.pvp_text.specs.declared.script.Line.{Line}
use Rattle.pvp_text.specs.declared.script.LineFault.{LineFault}
use Rattle.pvp_text.specs.declared.script.Statement.{Statement}
use Rattle.pvp_text.specs.Script.{line_at, of_line, line_of, lines_at, script_where, script_at}
use Rattle.pvp_text.specs.Reading.{◌>>=◌}
use Rattle.pvp_text.specs.ScriptWords.{lines}

one_more : (n number : ℕ) (said : Result (Option Statement) LineFault) (read : Result (List Line) LineFault) (found : List Line)
    → ((others : List Line) → read ≡ Ok others → length others ≤ n)
    → (said >>= λ s. read >>= λ others. Ok (line_of number s ++ others)) ≡ Ok found
    → length found ≤ suc n
one_more n number (Err fault) read found few e = absurd (cc)
one_more n number (Ok s) (Err fault) found few e = absurd (cc)
one_more n number (Ok None) (Ok others) found few e =
    let same : others ≡ found = cc in
    omega (arith, few others refl, ap length same)
one_more n number (Ok (Some s)) (Ok others) found few e =
    let same : record { number = number; statement = s } ∷ others ≡ found = cc in
    omega (arith, few others refl, ap length same)

lines_at-few : (kind : Kind) (setup : Setup) (number : ℕ) (texts : List (List ℕ)) (found : List Line)
    → lines_at None kind setup number texts ≡ Ok found → length found ≤ length texts
unfolding lines_at
lines_at-few kind setup number [] found e =
    let same : [] ≡ found = cc in
    omega (arith, ap length same)
lines_at-few kind setup number (text ∷ texts) found e =
    one_more (length texts) number (of_line number (line_at kind setup text)) (lines_at None kind setup (number + 1) texts) found
    (λ others h. lines_at-few kind setup (number + 1) texts others h) e

allowed : {A B : Type 0} (b : Bool) (x : A) (r : Result B A) (y : B) → (if b then Err x else r) ≡ Ok y → (b ≡ false) × (r ≡ Ok y)
allowed true x r y e = absurd (cc)
allowed false x r y e = (refl, e)

pub script_at-few : (kind : Kind) (setup : Setup) (bytes : List ℕ) (found : List Line)
    → script_at kind setup bytes ≡ Ok found → length found ≤ 65535
unfolding script_where
script_at-few kind setup bytes found e =
    let within = allowed (nat_lt 65535 (length (lines bytes))) _ (lines_at None kind setup 1 (lines bytes)) found e in
    omega (arith, ltb-false _ _ within.0, lines_at-few kind setup 1 (lines bytes) found within.1)
