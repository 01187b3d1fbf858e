use Rattle.std.proofs.Common.{◌≡◌, ◌<◌, ◌-◌, true, false, refl, arith}
use Rattle.pvp_rooms.specs.Runs.{number_at}
use Rattle.pvp_parties.proofs.Rising.{number_got, rises}
use Rattle.pvp_parties.proofs.order.are_in_order.Goals as goal

pub loop-i-preserved : goal.loop-i-preserved
loop-i-preserved c =
    let closed = c.args.closed.now in
    let i = c.loop-i.i in
    let low = number_got closed (i - 1) c.index-closed-i.result (omega (arith, c.loop-i-test.true)) c.index-closed-i.is in
    let high = number_got closed i c.index-closed-i-in-loop-i.result c.loop-i-test.true c.index-closed-i-in-loop-i.is in
    let step : number_at closed (i - 1) < number_at closed i = omega (arith, low, high, c.if-closed-i.false) in
    rises (number_at closed) i c.loop-i.auto.i c.loop-i.invariant step

pub returns-then-closed-i : goal.returns-then-closed-i
returns-then-closed-i c = (
  λ e. let clash : false ≡ true = e in cc,
  λ all.
      let closed = c.args.closed.now in
      let i = c.loop-i.i in
      let low = number_got closed (i - 1) c.index-closed-i.result (omega (arith, c.loop-i-test.true)) c.index-closed-i.is in
      let high = number_got closed i c.index-closed-i-in-loop-i.result c.loop-i-test.true c.index-closed-i-in-loop-i.is in
      let step : number_at closed (i - 1) < number_at closed i = all (i - 1) i (omega (arith, c.loop-i.auto.i)) c.loop-i-test.true in
      absurd (omega (arith, low, high, step, c.if-closed-i.true)),
)

pub returns : goal.returns
returns c = (λ _. λ j k lt below. c.loop-i.invariant j k lt (omega (arith, below, c.loop-i-test.false)), λ _. refl)
