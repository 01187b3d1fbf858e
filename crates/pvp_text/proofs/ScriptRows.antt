-- What worked scripts say.
use Rattle.std.proofs.Common.{◌≡◌, ℕ, List, [], ◌∷◌, ◌++◌, Result, Ok, Err, refl}
use Rattle.std.specs.Prelude.{codes}
use Rattle.pvp_types.proofs.Instructions.{instruction}
use Rattle.pvp_types.specs.declared.command.Cmd.TheVariants.{Instruct, Rescind, Fund, Settle, PayOut, Paid, Returned}
use Rattle.pvp_types.specs.declared.setup.Currency.{Currency}
use Rattle.pvp_types.specs.declared.setup.Member.{Member}
use Rattle.pvp_types.specs.declared.setup.Setup.{Setup}
use Rattle.pvp_types.specs.declared.step.Step.TheVariants.{Submit}
use Rattle.pvp_text.specs.declared.script.Kind.TheVariants.{Book}
use Rattle.pvp_text.specs.declared.script.Line.{Line}
use Rattle.pvp_text.specs.declared.script.LineCode.{LineCode}
use Rattle.pvp_text.specs.declared.script.LineCode.TheVariants.{Byte, UnknownWord, WordCount, Number, UnknownName}
use Rattle.pvp_text.specs.declared.script.LineFault.{LineFault}
use Rattle.pvp_text.specs.declared.script.Statement.{Statement}
use Rattle.pvp_text.specs.declared.script.Statement.TheVariants.{Do, Print}
use Rattle.pvp_text.specs.Script.{statement_at, line_at, lines_at, script_where, script_at}

abbrev currency : List ℕ → Currency
currency code = record { code = code; rate = 1; haircut = 0 }

abbrev member : List ℕ → Member
member name = record { name = name; aggregate = 0; short = []; deposit = [] }

-- three currencies and two members
abbrev pub setup : Setup
setup = record {
  sites = 3;
  currencies = currency (codes "EUR") ∷ currency (codes "USD") ∷ currency (codes "JPY") ∷ [];
  members = member (codes "ALFA") ∷ member (codes "BETA") ∷ [];
}

abbrev pub lf : List ℕ
lf = 10 ∷ []

abbrev pub at : ℕ → Statement → Line
at number statement = record { number = number; statement = statement }

paid_out : script_at Book setup (codes "do USD fund USD 1 ALFA 1200" ++ lf ++ codes "do ALFA payout USD 200" ++ lf ++ codes "do USD paid USD 1"
    ++ lf ++ codes "print" ++ lf)
    ≡ Ok (at 1 (Do (Submit 102 (Fund 1 1 1 1200))) ∷ at 2 (Do (Submit 1 (PayOut 1 200))) ∷ at 3 (Do (Submit 102 (Paid 1 1))) ∷ at 4 Print ∷ [])
unfolding script_where lines_at line_at statement_at
paid_out = refl

returned : script_at Book setup (codes "do USD returned USD 1" ++ lf) ≡ Ok (at 1 (Do (Submit 102 (Returned 1 1))) ∷ [])
unfolding script_where lines_at line_at statement_at
returned = refl

settled : script_at Book setup (codes "do ALFA instruct 1 BETA USD 1100 EUR 1000" ++ lf ++ codes "do BETA instruct 1 @1 EUR 1000 @1 1100" ++ lf
    ++ codes "do OP settle 10" ++ lf ++ codes "do ALFA rescind 1" ++ lf)
    ≡ Ok (at 1 (Do (Submit 1 (Instruct (instruction 1 2 1 1100 0 1000)))) ∷ at 2 (Do (Submit 2 (Instruct (instruction 1 1 0 1000 1 1100))))
    ∷ at 3 (Do (Submit 0 (Settle 10)))
    ∷ at 4 (Do (Submit 1 (Rescind 1))) ∷ [])
unfolding script_where lines_at line_at statement_at
settled = refl

refused_by_the_book : script_at Book setup (codes "do BETA fund USD 1 ALFA 5" ++ lf ++ codes "do USD fund USD 1 @3 5" ++ lf ++ codes "do ALFA payout @3 1" ++ lf
    ++ codes "do USD fund USD 1 ALFA 1000000000001" ++ lf ++ codes "do USD fund USD 0 ALFA 5" ++ lf ++ codes "do USD fund USD 1 ALFA 1000000000000" ++ lf
    ++ codes "do USD fund USD 1 ALFA 5" ++ lf ++ codes "do BETA payout USD 1" ++ lf ++ codes "do USD paid USD 1" ++ lf)
    ≡ Ok (at 1 (Do (Submit 2 (Fund 1 1 1 5))) ∷ at 2 (Do (Submit 102 (Fund 1 1 3 5))) ∷ at 3 (Do (Submit 1 (PayOut 3 1)))
    ∷ at 4 (Do (Submit 102 (Fund 1 1 1 1000000000001))) ∷ at 5 (Do (Submit 102 (Fund 1 0 1 5))) ∷ at 6 (Do (Submit 102 (Fund 1 1 1 1000000000000)))
    ∷ at 7 (Do (Submit 102 (Fund 1 1 1 5))) ∷ at 8 (Do (Submit 2 (PayOut 1 1))) ∷ at 9 (Do (Submit 102 (Paid 1 1))) ∷ [])
unfolding script_where lines_at line_at statement_at
refused_by_the_book = refl

-- what a script of one line answers
abbrev one : List ℕ → Result (List Line) LineFault
one line = script_at Book setup line

abbrev pub fault : LineCode → Result (List Line) LineFault
fault code = Err (record { line = 1; code = code })

leading_zero : one (codes "do ALFA payout USD 01") ≡ fault Number
unfolding script_where lines_at line_at statement_at
leading_zero = refl

word_too_many : one (codes "print x") ≡ fault WordCount
unfolding script_where lines_at line_at statement_at
word_too_many = refl

nobody : one (codes "do CARL payout USD 1") ≡ fault UnknownName
unfolding script_where lines_at line_at statement_at
nobody = refl

tab : one (codes "do ALFA" ++ 9 ∷ codes "payout USD 1") ≡ fault Byte
unfolding script_where lines_at line_at
tab = refl

unknown_command : one (codes "do ALFA transfer 1 BETA USD 1") ≡ fault UnknownWord
unfolding script_where lines_at line_at statement_at
unknown_command = refl

-- a number is judged before a name that stands before it
number_before_name : one (codes "do CARL payout USD 01") ≡ fault Number
unfolding script_where lines_at line_at statement_at
number_before_name = refl

too_large_a_number : one (codes "do @65536 payout USD 1") ≡ fault Number
unfolding script_where lines_at line_at statement_at
too_large_a_number = refl

-- of an instruction's words too, whichever comes first
amount_before_name : one (codes "do ALFA instruct 1 CARL USD 1 EUR 01") ≡ fault Number
unfolding script_where lines_at line_at statement_at
amount_before_name = refl

-- the operator and a node are told by name wherever a client is, as the book refuses what they may not be
operator_as_a_side : one (codes "do ALFA instruct 1 OP USD 1 EUR 1") ≡ Ok (at 1 (Do (Submit 1 (Instruct (instruction 1 0 1 1 0 1)))) ∷ [])
unfolding script_where lines_at line_at statement_at
operator_as_a_side = refl

node_as_a_side : one (codes "do ALFA instruct 1 USD USD 1 EUR 1") ≡ Ok (at 1 (Do (Submit 1 (Instruct (instruction 1 102 1 1 0 1)))) ∷ [])
unfolding script_where lines_at line_at statement_at
node_as_a_side = refl

nobody_as_a_side : one (codes "do ALFA instruct 1 CARL USD 1 EUR 1") ≡ fault UnknownName
unfolding script_where lines_at line_at statement_at
nobody_as_a_side = refl

instruction_lacks_a_word : one (codes "do ALFA instruct 1 BETA USD 1 EUR") ≡ fault WordCount
unfolding script_where lines_at line_at statement_at
instruction_lacks_a_word = refl

reference_too_large : one (codes "do ALFA rescind 4294967296") ≡ fault Number
unfolding script_where lines_at line_at statement_at
reference_too_large = refl

negative_count : one (codes "do OP settle -1") ≡ fault Number
unfolding script_where lines_at line_at statement_at
negative_count = refl

operator_as_a_member : one (codes "do USD fund USD 1 OP 5") ≡ Ok (at 1 (Do (Submit 102 (Fund 1 1 0 5))) ∷ [])
unfolding script_where lines_at line_at statement_at
operator_as_a_member = refl

node_as_a_member : one (codes "do USD fund USD 1 JPY 5") ≡ Ok (at 1 (Do (Submit 102 (Fund 1 1 103 5))) ∷ [])
unfolding script_where lines_at line_at statement_at
node_as_a_member = refl

nobody_as_a_member : one (codes "do USD fund USD 1 CARL 5") ≡ fault UnknownName
unfolding script_where lines_at line_at statement_at
nobody_as_a_member = refl

-- skipped lines count, and the last line may lack its end
skipped_lines_count : script_at Book setup (codes "# a comment" ++ lf ++ lf ++ codes "   " ++ lf ++ codes "  print ") ≡ Ok (at 4 Print ∷ [])
unfolding script_where lines_at line_at statement_at
skipped_lines_count = refl

empty_script : script_at Book setup [] ≡ Ok []
unfolding script_where lines_at
empty_script = refl
