-- Actors and how they are judged, one after another.
use Rattle.std.proofs.Common.{List, [], ◌∷◌, ◌++◌}
use Rattle.vr_types.specs.declared.cell.BootCell.{Ghosts as Cell}
use Rattle.pvp_audit.specs.Judged.{Left}
use Rattle.pvp_audit.specs.Cells.{LeftOver, IsInMemory, AreInMemory}

pub AreInMemory-push : {B : Type 0} (c : Cell B) (closed : List (LeftOver B)) (read : List Left) (one : LeftOver B) (other : Left)
    → AreInMemory c closed read → IsInMemory c one other → AreInMemory c (closed ++ one ∷ []) (read ++ other ∷ [])
AreInMemory-push c [] [] one other before here = (here, tt)
AreInMemory-push c [] (read ∷ others) one other before here = absurd before
AreInMemory-push c (first ∷ more) [] one other before here = absurd before
AreInMemory-push c (first ∷ more) (read ∷ others) one other before here =
    (before.0, AreInMemory-push c more others one other before.1 here)
