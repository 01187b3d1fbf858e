use Rattle.std.proofs.Common.{refl, sym, ◌∙◌}
use Rattle.pvp_play.specs.Player.{DrainStops}
use Rattle.pvp_play.specs.Turns.{next_open}
use Rattle.pvp_play.proofs.Draining.{drained-none, drained-turn, drained-end, drained-stop}
use Rattle.pvp_play.proofs.PlayerLemmas.{on-error}
use Rattle.pvp_play.proofs.player.Player.drain.Goals as goal

pub loop-turn-init : goal.loop-turn-init
loop-turn-init g c = drained-none g.C.BootCell c.args.self.now

pub loop-turn-preserved : goal.loop-turn-preserved
loop-turn-preserved g c =
    drained-turn g.C.BootCell c.loop-turn.turn c.args.self.now c.loop-turn.self c.loop-turn.invariant (next_open c.loop-turn.self) c.drain_one.new.self refl
    c.in_ok-drain_one.ensures.drained (sym c.if-not-branch.false ∙ c.in_ok-drain_one.ensures.there)

pub returns-then-not-branch-clause-drained : goal.returns-then-not-branch-clause-drained
returns-then-not-branch-clause-drained g c =
    drained-end g.C.BootCell c.loop-turn.turn c.args.self.now c.loop-turn.self c.loop-turn.invariant c.args.turns
    (next_open c.loop-turn.self) c.drain_one.new.self
    c.loop-turn-test.true refl c.in_ok-drain_one.ensures.drained (sym c.if-not-branch.true ∙ c.in_ok-drain_one.ensures.there)

pub returns-in_err-drain_one-clause-stopped : goal.returns-in_err-drain_one-clause-stopped
returns-in_err-drain_one-clause-stopped g c =
    on-error c.from_residual.result (DrainStops g.C.BootCell c.args.turns c.args.self.now c.drain_one.new.self)
    (drained-stop g.C.BootCell c.loop-turn.turn c.args.self.now c.loop-turn.self c.loop-turn.invariant c.args.turns
    (next_open c.loop-turn.self) c.drain_one.new.self
    c.loop-turn-test.true refl c.in_err-drain_one.ensures.wants)
