use Rattle.pvp_text.proofs.ScriptMeaning.{have_values, mean_what_they_say}
use Rattle.pvp_text.proofs.laws.lines_mean_what_they_say.Goals as goal

pub returns-clause-values : goal.returns-clause-values
returns-clause-values c = have_values

pub returns-clause-whole : goal.returns-clause-whole
returns-clause-whole c = mean_what_they_say
