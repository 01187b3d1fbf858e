use Rattle.std.proofs.Common.{sym, ap, ◌∙◌}
use Rattle.vr_types.specs.Handling.{site_step}
use Rattle.agreement.proofs.Laws as laws
use Rattle.agreement.proofs.binding.Goals as goal

pub returns-clause-bind : goal.returns-clause-bind
returns-clause-bind g c = λ f list. laws.votes_bind list.choose f list.right list.cells list.events list.world list.legal

pub returns-clause-fresh : goal.returns-clause-fresh
returns-clause-fresh g c = λ f list. laws.collected_fresh list.choose f list.right list.cells list.events list.world list.legal

pub returns-clause-used : goal.returns-clause-used
returns-clause-used g c = λ f list i step took e deliver handled.
    laws.taken_fresh list.choose f list.right list.cells took.before took.world took.legal i took.site e took.was
    (ap (λ event. (site_step list.choose f i took.site event).ending) (sym deliver) ∙ sym (ap (λ s. s.ending) took.is) ∙ handled)
