use Rattle.std.proofs.Common.{arith}
use Rattle.pvp_rooms.proofs.Rises.{rises_on, rises_above}
use Rattle.pvp_rooms.proofs.clocks.check_clocks.Goals as goal
use Rattle.pvp_rooms.proofs.clocks.check_clocks.Goals.{then-r-last-via-then-r-last, then-r-last-via-else-r-last+then-r-clock_of}

pub loop-at-preserved : goal.loop-at-preserved
loop-at-preserved g c =
    let i = c.loop-at.invariant in
    let r = c.index-history-at.result in
    let p =
    rises_on c.args.history.now c.loop-at.at c.loop-at.last r c.loop-at-test.true c.index-history-at.is i.rising i.last (omega (arith, c.if-r-last.false))
    (omega (arith, c.if-r-clock_of.false, c.clock_of.ensures)) in
    record { within = omega (arith, c.loop-at-test.true); rising = p.0; last = p.1 }

pub returns-then-r-last-clause-err : goal.returns-then-r-last-clause-err
returns-then-r-last-clause-err g c =
    let i = c.loop-at.invariant in
    let r = c.index-history-at.result in (
      c.loop-at-test.true,
      i.rising,
      λ rising.
          let p = rises_above c.args.history.now c.loop-at.at c.loop-at.last r c.loop-at-test.true c.index-history-at.is i.last rising in
          elim c.then-r-last.branch [
            | then-r-last-via-then-r-last w ↦ omega (arith, w.if-r-last.true, p.0)
            | then-r-last-via-else-r-last+then-r-clock_of w ↦ omega (arith, w.if-r-clock_of.true, w.clock_of.ensures, p.1)
          ],
    )
