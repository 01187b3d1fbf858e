use Rattle.std.proofs.Common.{◌≡◌, ◌<◌, ◌||◌, false, Some, get_or, length, slice_get, sym, ap, ◌∙◌, arith}
use Rattle.std.specs.List.{list_any}
use Rattle.std.specs.Option.{option_map_or}
use Rattle.std.proofs.lemmas.List.{take_all}
use Rattle.std.proofs.lemmas.List.Folds.{list_any_more}
use Rattle.std.proofs.lemmas.Option.{slice_get-get_or}
use Rattle.pvp_types.specs.declared.step.Step.TheVariants.{Deliver}
use Rattle.headline.specs.declared.step.Move.TheVariants.{Takes}
use Rattle.pvp_live.specs.Scripts.{is_fall}
use Rattle.pvp_live.proofs.scripts.has_fall.Goals as goal
use Rattle.pvp_live.proofs.scripts.has_fall.Goals.{then-found, else-found}

pub loop-at-preserved : goal.loop-at-preserved
loop-at-preserved c =
    let moves = c.args.trail.now.items in
    let n = c.loop-at.at in
    let within : n < length moves = omega (arith, c.loop-at-test.true, c.len-at-end.ensures) in
    let move = get_or moves n (Takes (Deliver 0)) in
    let there : slice_get moves n ≡ Some move = slice_get-get_or moves n (Takes (Deliver 0)) within in
    let more = list_any_more is_fall moves n (Takes (Deliver 0)) within in
    elim c.if-found.branch [
      | then-found w ↦ w.found-is ∙ w.if-found.true ∙ sym (more ∙ ap (λ b. b || is_fall move) (sym c.loop-at.invariant ∙ w.if-found.true))
      | else-found w ↦ w.found-is ∙ c.is_fall_at-falls.ensures ∙ ap (λ o. option_map_or is_fall o false) there
          ∙ sym (more ∙ ap (λ b. b || is_fall move) (sym c.loop-at.invariant ∙ w.if-found.false))
    ]

pub returns : goal.returns
returns c =
    let moves = c.args.trail.now.items in
    c.loop-at.invariant ∙ ap (list_any is_fall) (take_all c.loop-at.at moves (omega (arith, c.loop-at-test.false, c.len-at-end.ensures)))
