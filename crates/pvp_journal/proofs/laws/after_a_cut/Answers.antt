use Rattle.std.proofs.Common.{sym, subst, arith}
use Rattle.pvp_journal.specs.Journals.{IsCutBehind}
use Rattle.pvp_journal.proofs.Recorded.{cut_journal}
use Rattle.pvp_journal.proofs.laws.after_a_cut.Goals as goal

pub returns : goal.returns
returns c = λ head history synced left are headed left_by.
    subst (λ bytes. IsCutBehind bytes head history) (sym left_by.2)
    (let low = left_by.1 in cut_journal head history left_by.0 are (omega (arith, headed, low)))
