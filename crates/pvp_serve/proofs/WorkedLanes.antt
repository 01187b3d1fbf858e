-- Over which stream mail goes, by rows: of two streams the one is to actor 1, the other to actor 2.
use Rattle.std.proofs.Common.{◌≡◌, ◌==◌, ℕ, Bool, true, false, not, ◌&&◌, if◌then◌else◌, [], ◌∷◌, List, Option, Some, None, ap, ◌∙◌, refl}
use Rattle.std.specs.Prelude.{is_some}
use Rattle.pvp_serve.specs.declared.lanes.Lane.{Lane}
use Rattle.pvp_serve.specs.declared.lanes.Lanes.{Lanes}
use Rattle.pvp_serve.specs.Lanes.{lane_to, lane_for, is_kept_from}

module _ (one two : Lane) (to_one : one.peer ≡ 1) (to_two : two.peer ≡ 2) where
  abbrev both : List Lane
  both = one ∷ two ∷ []

  -- what stands to an actor, whose stream comes first or second, or who has none
  found : (peer : ℕ) → lane_to peer both ≡ (if 1 == peer then Some one else if 2 == peer then Some two else None)
  found peer =
      ap (λ (n : ℕ). if n == peer then Some one else (if two.peer == peer then Some two else None)) to_one
      ∙ ap (λ (n : ℕ). if 1 == peer then Some one else (if n == peer then Some two else None)) to_two

  to_the_first : lane_to 1 both ≡ Some one
  to_the_first = found 1

  to_the_second : lane_to 2 both ≡ Some two
  to_the_second = found 2

  to_nobody : lane_to 3 both ≡ None
  to_nobody = found 3

  -- where all mail goes to one site, others are kept from theirs, while a stream to that site stands
  others_are_kept : is_kept_from 1 (Some 2) both ≡ true
  others_are_kept = ap is_some (found 2)

  itself_is_not : is_kept_from 2 (Some 2) both ≡ false
  itself_is_not = ap (λ (o : Option Lane). not (2 == 2) && is_some o) (found 2)

  none_is_kept_where_it_has_none : is_kept_from 1 (Some 3) both ≡ false
  none_is_kept_where_it_has_none = ap is_some (found 3)

  nobody_is_favoured : is_kept_from 1 None both ≡ false
  nobody_is_favoured = refl

  -- so mail for actor 1 goes over its stream, or waits while all goes to actor 2
  module _ (lanes : Lanes) (all : lanes.all.items ≡ both) where
    goes : lanes.favoured ≡ None → lane_for 1 lanes ≡ Some one
    goes none =
        ap (λ (favoured : Option ℕ). if is_kept_from 1 favoured lanes.all.items then None else lane_to 1 lanes.all.items) none
        ∙ ap (λ (l : List Lane). lane_to 1 l) all ∙ found 1

    waits : lanes.favoured ≡ Some 2 → lane_for 1 lanes ≡ None
    waits some =
        ap (λ (favoured : Option ℕ). if is_kept_from 1 favoured lanes.all.items then None else lane_to 1 lanes.all.items) some
        ∙ ap (λ (l : List Lane). if is_kept_from 1 (Some 2) l then None else lane_to 1 l) all
        ∙ ap (λ (b : Bool). if b then None else lane_to 1 both) others_are_kept
