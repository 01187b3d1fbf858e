use Rattle.std.proofs.Common.{subst}
use Rattle.pvp_play.specs.Chaos.{TakesTurn, words_of, Does, Stops, RageStops}
use Rattle.pvp_play.proofs.PlayerLemmas.{Turns-more, on-error}
use Rattle.pvp_play.proofs.ChaosLemmas.{act-chosen}
use Rattle.pvp_play.proofs.chaos.rage.Goals as goal

pub loop-turn-preserved : goal.loop-turn-preserved
loop-turn-preserved g c =
    let old = c.loop-turn.player in
    let new = c.do_act.new.player in
    let words = c.loop-turn.words in
    let left = c.next_word-b.new.self in
    let chosen = act-chosen words c.next_word-a.new.self left c.next_word-a.result c.next_word-b.result c.act_of-act.result c.world.result.now old.world
    c.next_word-a.ensures c.next_word-b.ensures c.world.ensures c.act_of-act.ensures in
    Turns-more (TakesTurn g.C.BootCell) c.loop-turn.turn (words_of c.args.seed, c.args.player.now) (words, old) (left, new) c.loop-turn.invariant
    (chosen.1, subst (λ act. Does g.C.BootCell act old new) chosen.0 c.in_ok-do_act.ensures.done)

pub returns-in_err-do_act-clause-stopped : goal.returns-in_err-do_act-clause-stopped
returns-in_err-do_act-clause-stopped g c =
    let old = c.loop-turn.player in
    let new = c.do_act.new.player in
    let words = c.loop-turn.words in
    let chosen =
    act-chosen words c.next_word-a.new.self c.next_word-b.new.self c.next_word-a.result c.next_word-b.result c.act_of-act.result
    c.world.result.now old.world
    c.next_word-a.ensures c.next_word-b.ensures c.world.ensures c.act_of-act.ensures in
    on-error c.from_residual.result (RageStops g.C.BootCell c.args.seed c.args.turns c.args.player.now new)
    (record {
      taken = c.loop-turn.turn;
      few = c.loop-turn-test.true;
      words = words;
      mid = old;
      turns_taken = c.loop-turn.invariant;
      stops = subst (λ act. Stops g.C.BootCell act old new) chosen.0 c.in_err-do_act.ensures.stopped;
    })
