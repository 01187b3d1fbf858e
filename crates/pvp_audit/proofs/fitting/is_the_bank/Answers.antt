use Rattle.std.proofs.Common.{◌∙◌}
use Rattle.pvp_audit.proofs.fitting.is_the_bank.Goals as goal

pub returns : goal.returns
returns c = (
  λ e. record {
    all = c.if-closed-actor_count.false ∙ c.actor_count.ensures.count;
    order = c.are_in_order.ensures.0 c.if-not-are_in_order.false;
    bank = c.are_of_bank.ensures.0 c.if-not-are_of_bank.false;
    sites = c.sites_are_numbered.ensures.0 e;
  },
  λ the. c.sites_are_numbered.ensures.1 the.sites,
)
