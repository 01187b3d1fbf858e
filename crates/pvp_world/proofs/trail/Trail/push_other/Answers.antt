use Rattle.std.proofs.Common.{rules, ◌≡◌, ◌∷◌, ◌++◌, [], length, map, ap, ◌∙◌}
use Rattle.pvp_world.specs.declared.trail.TrailEntry.TheVariants.{Other}
use Rattle.pvp_world.specs.Trail.{move_of}
use Rattle.pvp_world.proofs.Trails.{push-other}
use Rattle.pvp_world.proofs.trail.Trail.push_other.Goals as goal

pub returns : goal.returns
returns c =
    let others = c.self.inside.others.items in
    let entries = c.self.inside.entries.items in
    let grown : c.push_reserved.new.self.items ≡ others ++ c.args.made ∷ [] = search rules in
    let longer : c.push_reserved-2.new.self.items ≡ entries ++ Other (length others) ∷ [] = search rules in
    ap (λ os. map (move_of os) c.push_reserved-2.new.self.items) grown ∙ ap (map (move_of (others ++ c.args.made ∷ []))) longer
    ∙ push-other others entries c.args.made c.self.invariant ∙ ap (λ ms. ms ++ c.args.made ∷ []) (search rules)
