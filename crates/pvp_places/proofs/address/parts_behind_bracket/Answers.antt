use Rattle.std.proofs.Common.{ap, ◌∙◌}
use Rattle.pvp_places.specs.Address.{behind_bracket}
use Rattle.pvp_places.proofs.address.parts_behind_bracket.Goals as goal

pub returns-clause-digits : goal.returns-clause-digits
returns-clause-digits c = c.behind_bracket.ensures ∙ ap behind_bracket c.cut.ensures.after
