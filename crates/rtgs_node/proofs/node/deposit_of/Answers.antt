use Rattle.std.proofs.Common.{ap, sym, ◌∙◌}
use Rattle.std.specs.Prelude.{unwrap_or, option_copied, slice_index_or}
use Rattle.std.proofs.lemmas.Option.{unwrap_or-slice_get}
use Rattle.rtgs_node.proofs.node.deposit_of.Goals as goal

pub returns-in-None : goal.returns-in-None
returns-in-None c =
    ap (λ o. unwrap_or o 0) (ap option_copied (sym c.in-None.is) ∙ c.get.ensures) ∙ unwrap_or-slice_get c.args.member.now.deposit c.from.result 0
    ∙ ap (λ k. slice_index_or c.args.member.now.deposit k 0) c.from.ensures
