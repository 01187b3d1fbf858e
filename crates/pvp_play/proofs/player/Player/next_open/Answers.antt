use Rattle.std.proofs.Common.{◌+◌, cond, Some, drop, ap, sym, ◌∙◌}
use Rattle.std.specs.List.{position_from}
use Rattle.pvp_play.specs.Player.{is_open}
use Rattle.pvp_play.proofs.PlayerLemmas.{position-here, at-place}
use Rattle.pvp_play.proofs.player.Player.next_open.Goals as goal

pub returns-then-is_open : goal.returns-then-is_open
returns-then-is_open g c =
    let p = c.args.self.now in
    let place = c.loop-place.place in
    let here = at-place c.envelope.result c.in_ok-envelope.envelope place _ p c.self.view_is c.envelope.ensures c.in_ok-envelope.was in
    let passes = sym c.is_open.ensures ∙ c.if-is_open.true in
    sym (position-here (is_open p.cut) place (place + 1) p.world.post c.in_ok-envelope.envelope.now here
    ∙ ap (λ b. cond b (Some (place + 1)) (position_from (is_open p.cut) (place + 1 + 1) (drop (place + 1) p.world.post))) passes)
    ∙ c.loop-place.invariant

pub loop-place-preserved : goal.loop-place-preserved
loop-place-preserved g c =
    let p = c.args.self.now in
    let place = c.loop-place.place in
    let here = at-place c.envelope.result c.in_ok-envelope.envelope place _ p c.self.view_is c.envelope.ensures c.in_ok-envelope.was in
    let shut = sym c.is_open.ensures ∙ c.if-is_open.false in
    sym (position-here (is_open p.cut) place (place + 1) p.world.post c.in_ok-envelope.envelope.now here
    ∙ ap (λ b. cond b (Some (place + 1)) (position_from (is_open p.cut) (place + 1 + 1) (drop (place + 1) p.world.post))) shut)
    ∙ c.loop-place.invariant
