-- What worked scripts of a play and of a live run say.
use Rattle.std.proofs.Common.{◌≡◌, ℕ, List, [], ◌∷◌, ◌++◌, Result, Ok, refl}
use Rattle.std.specs.Prelude.{codes}
use Rattle.pvp_types.specs.declared.command.Cmd.TheVariants.{PayOut, Paid}
use Rattle.pvp_types.specs.declared.step.Step.TheVariants.{Deliver, PayIn, Close, Submit, Beat, Timer, Crash, Restart}
use Rattle.pvp_text.specs.declared.script.Kind.{Kind}
use Rattle.pvp_text.specs.declared.script.Kind.TheVariants.{Book, Play, Live}
use Rattle.pvp_text.specs.declared.script.Line.{Line}
use Rattle.pvp_text.specs.declared.script.LineCode.TheVariants.{UnknownWord, WordCount, Number, UnknownName}
use Rattle.pvp_text.specs.declared.script.LineFault.{LineFault}
use Rattle.pvp_text.specs.declared.script.Statement.TheVariants.{Do, Print, Drain, Skip, Cut, Heal, Chaos, Rest}
use Rattle.pvp_text.specs.Script.{statement_at, line_at, lines_at, script_where, script_at}
use Rattle.pvp_text.proofs.ScriptRows.{setup, lf, at, fault}

played : script_at Play setup (codes "payin ALFA USD 1200" ++ lf ++ codes "deliver 0" ++ lf ++ codes "beat s1" ++ lf ++ codes "timer s255" ++ lf
    ++ codes "cut @7" ++ lf ++ codes "heal JPY" ++ lf ++ codes "drain 3" ++ lf ++ codes "skip 2" ++ lf ++ codes "chaos 18446744073709551615 1000000"
    ++ lf ++ codes "print" ++ lf)
    ≡ Ok (at 1 (Do (PayIn 1 1 1200)) ∷ at 2 (Do (Deliver 0)) ∷ at 3 (Do (Beat 201)) ∷ at 4 (Do (Timer 255)) ∷ at 5 (Cut 7) ∷ at 6 (Heal 103)
    ∷ at 7 (Drain 3) ∷ at 8 (Skip 2) ∷ at 9 (Chaos 18446744073709551615 1000000) ∷ at 10 Print ∷ [])
unfolding script_where lines_at line_at statement_at
played = refl

ran_live : script_at Live setup (codes "do ALFA payout USD 200" ++ lf ++ codes "crash s0" ++ lf ++ codes "rest 250" ++ lf ++ codes "restart s0" ++ lf
    ++ codes "close @2 @1" ++ lf)
    ≡ Ok (at 1 (Do (Submit 1 (PayOut 1 200))) ∷ at 2 (Do (Crash 0)) ∷ at 3 (Rest 250) ∷ at 4 (Do (Restart 0)) ∷ at 5 (Do (Close 1 2)) ∷ [])
unfolding script_where lines_at line_at statement_at
ran_live = refl

-- what a script of one line answers
abbrev one : Kind → List ℕ → Result (List Line) LineFault
one kind line = script_at kind setup line

-- ---- words of another kind

print_live : one Live (codes "print") ≡ fault UnknownWord
unfolding script_where lines_at line_at statement_at
print_live = refl

rest_in_a_play : one Play (codes "rest 1") ≡ fault UnknownWord
unfolding script_where lines_at line_at statement_at
rest_in_a_play = refl

deliver_live : one Live (codes "deliver 1") ≡ fault UnknownWord
unfolding script_where lines_at line_at statement_at
deliver_live = refl

beat_of_a_book : one Book (codes "beat s1") ≡ fault UnknownWord
unfolding script_where lines_at line_at statement_at
beat_of_a_book = refl

-- ---- numbers

site_too_large : one Play (codes "timer s256") ≡ fault Number
unfolding script_where lines_at line_at statement_at
site_too_large = refl

site_by_its_actor : one Live (codes "timer @200") ≡ fault Number
unfolding script_where lines_at line_at statement_at
site_by_its_actor = refl

site_without_a_number : one Play (codes "beat s") ≡ fault Number
unfolding script_where lines_at line_at statement_at
site_without_a_number = refl

a_turn_too_many : one Play (codes "chaos 1 1000001") ≡ fault Number
unfolding script_where lines_at line_at statement_at
a_turn_too_many = refl

number_before_name : one Play (codes "payin CARL USD 05") ≡ fault Number
unfolding script_where lines_at line_at statement_at
number_before_name = refl

-- ---- names

name_for_a_site : one Play (codes "crash ALFA") ≡ fault UnknownName
unfolding script_where lines_at line_at statement_at
name_for_a_site = refl

nobody_pays_in : one Live (codes "payin CARL USD 5") ≡ fault UnknownName
unfolding script_where lines_at line_at statement_at
nobody_pays_in = refl

-- a node sends by itself, but to one book; told by its number it is read
node_that_sends : one Play (codes "do USD payout USD 1") ≡ fault UnknownName
unfolding script_where lines_at line_at statement_at
node_that_sends = refl

node_that_sends_to_a_book : one Book (codes "do USD paid USD 1") ≡ Ok (at 1 (Do (Submit 102 (Paid 1 1))) ∷ [])
unfolding script_where lines_at line_at statement_at
node_that_sends_to_a_book = refl

node_by_its_number : one Play (codes "do @102 paid USD 1") ≡ Ok (at 1 (Do (Submit 102 (Paid 1 1))) ∷ [])
unfolding script_where lines_at line_at statement_at
node_by_its_number = refl

-- ---- counts of words

beat_of_nobody : one Play (codes "beat") ≡ fault WordCount
unfolding script_where lines_at line_at statement_at
beat_of_nobody = refl

too_many_sites : one Live (codes "crash s256 s1") ≡ fault WordCount
unfolding script_where lines_at line_at statement_at
too_many_sites = refl
