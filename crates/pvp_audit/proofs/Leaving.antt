-- Actors and the histories that they left, one after another.
use Rattle.std.proofs.Common.{inl, inr, List, [], ◌∷◌, ◌++◌, subst, sym}
use Rattle.pvp_types.specs.declared.setup.Setup.{Setup}
use Rattle.pvp_rooms.proofs.Looks.{get_pushed}
use Rattle.pvp_audit.specs.Banked.{AreOfBank, IsOfBank}
use Rattle.pvp_audit.specs.Judged.{Left}
use Rattle.pvp_audit.specs.declared.history.History.{History}
use Rattle.pvp_audit.specs.Histories.{IsLeftBy, AreLeftBy}

pub AreLeftBy-push : (closed : List Left) (histories : List History) (c : Left) (h : History) → AreLeftBy closed histories → IsLeftBy c h
    → AreLeftBy (closed ++ c ∷ []) (histories ++ h ∷ [])
AreLeftBy-push [] [] c h before here = (here, tt)
AreLeftBy-push [] (g ∷ more) c h before here = absurd before
AreLeftBy-push (d ∷ more) [] c h before here = absurd before
AreLeftBy-push (d ∷ more) (g ∷ others) c h before here = (before.0, AreLeftBy-push more others c h before.1 here)

pub AreOfBank-push : (setup : Setup) (closed : List Left) (c : Left) → AreOfBank setup closed → IsOfBank setup c → AreOfBank setup (closed ++ c ∷ [])
AreOfBank-push setup closed c before here j d is = elim (get_pushed closed c d j is) [
  | inl e ↦ before j d e
  | inr w ↦ subst (λ (e : Left). IsOfBank setup e) (sym w.1) here
]
