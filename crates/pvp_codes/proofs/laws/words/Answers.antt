use Rattle.std.proofs.Common.{◌∷◌}
use Rattle.pvp_text.specs.Script.{statement_at}
use Rattle.pvp_text.specs.declared.script.LineCode.TheVariants.{WordCount}
use Rattle.pvp_text.specs.ScriptTable.{form_of, form_fields}
use Rattle.pvp_codes.specs.Broken.{breaks}
use Rattle.pvp_codes.proofs.Finding.{not_so, statement_fine, counts_fine, is_word}
use Rattle.pvp_codes.proofs.laws.words.Goals as goal

pub returns-clause-word : goal.returns-clause-word
returns-clause-word c = λ code kind setup said word why found. is_word (breaks code kind setup) (form_fields (form_of said)) said word why found

pub returns-clause-finds : goal.returns-clause-finds
returns-clause-finds c = λ code kind setup first rest other fails none.
    not_so code (statement_at kind setup (first ∷ rest)) (statement_fine code kind setup first rest (λ same. absurd (other same)) none) fails

pub returns-clause-counts : goal.returns-clause-counts
returns-clause-counts c = λ kind setup first rest fails count.
    not_so WordCount (statement_at kind setup (first ∷ rest)) (counts_fine kind setup first rest count) fails
