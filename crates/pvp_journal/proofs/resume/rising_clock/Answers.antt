use Rattle.std.proofs.Common.{arith}
use Rattle.pvp_rooms.proofs.Rises.{rises_on}
use Rattle.pvp_journal.proofs.Replaying.{rises_at}
use Rattle.pvp_journal.proofs.resume.rising_clock.Goals as goal
use Rattle.pvp_journal.proofs.resume.rising_clock.Goals.{then-r-last-via-then-r-last, then-r-last-via-else-r-last+then-r-clock_of}

pub loop-r-preserved : goal.loop-r-preserved
loop-r-preserved g c =
    let i = c.loop-r.invariant in
    let r = c.r-item.result in
    let p = rises_on c.args.history.now c.loop-r.r-index c.loop-r.last r c.loop-r-test.true c.r-item.is i.rising i.last
    (omega (arith, c.if-r-last.false)) (omega (arith, c.if-r-clock_of.false, c.clock_of.ensures)) in
    record { rising = p.0; last = p.1 }

pub returns-then-r-last-clause-none : goal.returns-then-r-last-clause-none
returns-then-r-last-clause-none g c = λ rising.
    let p = rises_at c.args.history.now c.loop-r.r-index c.loop-r.last c.r-item.result c.loop-r-test.true c.r-item.is c.loop-r.invariant.last rising in
    elim c.then-r-last.branch [
      | then-r-last-via-then-r-last w ↦ omega (arith, w.if-r-last.true, p.0)
      | then-r-last-via-else-r-last+then-r-clock_of w ↦ omega (arith, w.if-r-clock_of.true, w.clock_of.ensures, p.1)
    ]
