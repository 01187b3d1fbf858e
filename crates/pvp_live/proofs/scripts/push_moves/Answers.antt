use Rattle.std.proofs.Common.{◌≡◌, ◌<◌, [], ◌++◌, Some, get_or, length, slice_get, string_bytes, ap, ◌∙◌, arith}
use Rattle.std.specs.Option.{option_map_or}
use Rattle.std.proofs.lemmas.List.{take_more}
use Rattle.std.proofs.lemmas.Option.{slice_get-get_or}
use Rattle.pvp_types.specs.declared.step.Step.TheVariants.{Deliver}
use Rattle.headline.specs.declared.step.Move.TheVariants.{Takes}
use Rattle.pvp_trace.proofs.TextLemmas.{one-more, all-written}
use Rattle.pvp_live.specs.Scripts.{line_text}
use Rattle.pvp_live.proofs.scripts.push_moves.Goals as goal

pub loop-at-preserved : goal.loop-at-preserved
loop-at-preserved c =
    let moves = c.args.world.now.trail in
    let n = c.loop-at.at in
    let within : n < length moves = omega (arith, c.loop-at-test.true, c.len-at-end.ensures, ap length c.trail.ensures) in
    let move = get_or moves n (Takes (Deliver 0)) in
    let there : slice_get moves n ≡ Some move = slice_get-get_or moves n (Takes (Deliver 0)) within in
    one-more (line_text c.args.world.now.setup) [] moves (string_bytes c.push_move.new.text) (string_bytes c.loop-at.text) (string_bytes c.args.text.now) n move
    (take_more moves n (Takes (Deliver 0)) within)
    (c.in_ok-push_move.ensures ∙ ap (λ o. string_bytes c.loop-at.text ++ option_map_or (line_text c.args.world.now.setup) o []) there) c.loop-at.invariant

pub returns : goal.returns
returns c =
    all-written (line_text c.args.world.now.setup) [] c.args.world.now.trail (string_bytes c.loop-at.text) (string_bytes c.args.text.now) c.loop-at.at
    (omega (arith, c.loop-at-test.false, c.len-at-end.ensures, ap length c.trail.ensures)) c.loop-at.invariant
