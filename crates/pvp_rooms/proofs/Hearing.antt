-- What is heard, one after the other.
use Rattle.std.proofs.Common.{◌≡◌, List, [], ◌++◌, sym, subst, append_assoc, append-nil}
use Rattle.pvp_rooms.specs.Gates.{Hears}

pub hears_none : {G X : Type 0} (heard : G → List X → Type 0) (a : G) → Hears heard a a []
hears_none heard a = λ before was. subst (heard a) (sym (append-nil before)) was

pub hears_more : {G X : Type 0} (heard : G → List X → Type 0) (a b c : G) (xs ys : List X) → Hears heard a b xs → Hears heard b c ys
    → Hears heard a c (xs ++ ys)
hears_more heard a b c xs ys h k = λ before was. subst (heard c) (append_assoc before xs ys) (k (before ++ xs) (h before was))
