use Rattle.std.proofs.Common.{◌∙◌}
use Rattle.pvp_text.proofs.ScriptNumbers.{parsed}
use Rattle.pvp_text.proofs.script.fields.parse_number.Goals as goal

pub returns-in-Ok : goal.returns-in-Ok
returns-in-Ok c =
    c.or.ensures ∙ parsed c.args.word.now c.parse.result c.requires (rw c.in-Ok.ensures.cases.0 at c.parse.ensures.value.0)
