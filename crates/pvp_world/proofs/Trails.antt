-- A move more on a trail.
use Rattle.std.proofs.Common.{◌≡◌, List, [], ◌∷◌, ◌++◌, length, map, refl, ap, ◌∙◌}
use Rattle.std.specs.List.{AllByRecursion}
use Rattle.std.proofs.Math.Seq.{get_or-append_seam}
use Rattle.std.proofs.lemmas.List.{get_or_append_left}
use Rattle.pvp_types.specs.declared.step.Step.TheVariants.{Deliver}
use Rattle.headline.specs.declared.step.Move.{Move}
use Rattle.headline.specs.declared.step.Move.TheVariants.{Takes}
use Rattle.pvp_world.specs.declared.trail.TrailEntry.{TrailEntry}
use Rattle.pvp_world.specs.declared.trail.TrailEntry.TheVariants.{Delivery, Other}
use Rattle.pvp_world.specs.Trail.{IsThere, move_of}

-- what an entry stands for stays
same-move : (others : List Move) (made : Move) (entry : TrailEntry) → IsThere others entry → move_of (others ++ made ∷ []) entry ≡ move_of others entry
same-move others made (Delivery number) there = refl
same-move others made (Other place) there = get_or_append_left others (made ∷ []) (Takes (Deliver 0)) place there

-- one more that is no delivery
pub push-other : (others : List Move) (entries : List TrailEntry) (made : Move) → AllByRecursion (IsThere others) entries
    → map (move_of (others ++ made ∷ [])) (entries ++ Other (length others) ∷ []) ≡ map (move_of others) entries ++ made ∷ []
push-other others [] made there = ap (λ m. m ∷ []) (get_or-append_seam others made [] (Takes (Deliver 0)))
push-other others (entry ∷ entries) made there =
    ap (λ m. m ∷ map (move_of (others ++ made ∷ [])) (entries ++ Other (length others) ∷ [])) (same-move others made entry there.0)
    ∙ ap (λ ms. move_of others entry ∷ ms) (push-other others entries made there.1)
