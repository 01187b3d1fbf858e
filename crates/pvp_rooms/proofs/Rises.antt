-- A clock that doesn't rise.
use Rattle.std.proofs.Common.{◌≡◌, ℕ, ◌<◌, ◌+◌, List, [], ◌∷◌, ◌++◌, take, length, get_or, ap, subst, sym, ◌∙◌}
use Rattle.std.proofs.lemmas.List.{take_more}
use Rattle.pvp_rooms.specs.declared.message.Recorded.{Recorded}
use Rattle.pvp_rooms.specs.Histories.{stamp_clock, IsRising, last_clock}
use Rattle.pvp_rooms.proofs.Growing.{last_clock-push, IsRising-push}

pub IsRising-last : {E O : Type 0} (rs : List (Recorded E O)) (r : Recorded E O) (last : ℕ) → IsRising (rs ++ r ∷ []) last
    → (last_clock rs last < r.clock) × (stamp_clock r.stamp < r.clock)
IsRising-last [] r last h = (h.0, h.1)
IsRising-last (x ∷ rs) r last h = IsRising-last rs r x.clock h.2

pub one_more : {X : Type 0} (xs : List X) (i : ℕ) (x : X) → i < length xs → x ≡ get_or xs i x → take (i + 1) xs ≡ take i xs ++ x ∷ []
one_more xs i x h e = take_more xs i x h ∙ ap (λ y. take i xs ++ y ∷ []) (sym e)

pub rises_on : {E O : Type 0} (rs : List (Recorded E O)) (i last : ℕ) (r : Recorded E O) → i < length rs → r ≡ get_or rs i r → IsRising (take i rs) 0
    → last_clock (take i rs) 0 ≡ last → last < r.clock → stamp_clock r.stamp < r.clock
    → IsRising (take (i + 1) rs) 0 × (last_clock (take (i + 1) rs) 0 ≡ r.clock)
rises_on rs i last r h e rising is above over =
    let next = one_more rs i r h e in (
      subst (λ l. IsRising l 0) (sym next) (IsRising-push (take i rs) r 0 rising (subst (λ n. n < r.clock) (sym is) above) over),
      ap (λ l. last_clock l 0) next ∙ last_clock-push (take i rs) r 0,
    )

pub rises_above : {E O : Type 0} (rs : List (Recorded E O)) (i last : ℕ) (r : Recorded E O) → i < length rs → r ≡ get_or rs i r
    → last_clock (take i rs) 0 ≡ last → IsRising (take (i + 1) rs) 0 → (last < r.clock) × (stamp_clock r.stamp < r.clock)
rises_above rs i last r h e is rising =
    let p = IsRising-last (take i rs) r 0 (subst (λ l. IsRising l 0) (one_more rs i r h e) rising) in
    (subst (λ n. n < r.clock) is p.0, p.1)
