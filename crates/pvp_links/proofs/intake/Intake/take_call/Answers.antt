use Rattle.std.proofs.Common.{drop, ◌∙◌, sym, ap}
use Rattle.std.proofs.lemmas.List.{drop-drop}
use Rattle.pvp_links.proofs.intake.Intake.take_call.Goals as goal

pub returns : goal.returns
returns c = sym (drop-drop 54 c.self.inside.used c.self.inside.held.items) ∙ ap (drop 54) c.self.view_is
