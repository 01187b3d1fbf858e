-- One more row is answered.
use Rattle.std.proofs.Common.{◌≡◌, List, [], ◌∷◌, ◌++◌, subst}
use Rattle.pvp_book.specs.Ledger.{Ledger}
use Rattle.pvp_book.specs.Answer.{answer_to, after}
use Rattle.pvp_picture.specs.declared.executed.Executed.{Executed}
use Rattle.pvp_picture.specs.Replay.{AreAnswered}

pub answered_more : (first mid last : Ledger) (rows : List Executed) (one : Executed)
    → one.reply ≡ answer_to mid one.row.client one.row.cmd → last ≡ after mid one.row.client one.row.cmd
    → AreAnswered first rows mid → AreAnswered first (rows ++ one ∷ []) last
answered_more first mid last [] one said next is =
    subst (λ held. (one.reply ≡ answer_to held one.row.client one.row.cmd) × (last ≡ after held one.row.client one.row.cmd)) is (said, next)
answered_more first mid last (row ∷ rows) one said next (is, others) =
    (is, answered_more (after first row.row.client row.row.cmd) mid last rows one said next others)
