use Rattle.std.proofs.Common.{◌+◌, length, refl, subst, arith}
use Rattle.std.proofs.lemmas.Option.{slice_get_read, slice_get_within}
use Rattle.pvp_rooms.specs.Histories.{IsRising}
use Rattle.pvp_rooms.specs.Verdicts.{HasRisingClocks, ClockFails}
use Rattle.pvp_rooms.proofs.Looks.{below_place}
use Rattle.pvp_rooms.proofs.verdict.first_clock.Goals as goal

pub returns-in-Err-clause-some : goal.returns-in-Err-clause-some
returns-in-Err-clause-some g c =
    let closed = c.args.closed.now in
    let k = c.loop-k.k in
    let one = c.index-closed-k.result in
    let is = slice_get_read closed (length closed) k one refl c.loop-k-test.true c.index-closed-k.is in
    let err = c.in-Err.ensures.err in
    let clock : ClockFails c.as_slice.result.now (c.in-Err.at + 1) =
    record { many = c.in-Err.at; count = refl; within = err.0; rising = err.1; fails = err.2 } in
    record {
      place = k;
      who = one;
      is = record { is = is; number = refl };
      before = c.loop-k.invariant;
      fails = subst (λ h. ClockFails h (c.in-Err.at + 1)) c.as_slice.ensures.value clock;
    }

pub loop-k-preserved : goal.loop-k-preserved
loop-k-preserved g c =
    let closed = c.args.closed.now in
    let k = c.loop-k.k in
    let one = c.index-closed-k.result in
    let is = slice_get_read closed (length closed) k one refl c.loop-k-test.true c.index-closed-k.is in
    below_place (λ j d. HasRisingClocks d) closed k one is c.loop-k.invariant (subst (λ h. IsRising h 0) c.as_slice.ensures.value c.in_default.ensures.ok)

pub returns-clause-none : goal.returns-clause-none
returns-clause-none g c = λ j d is. (let w = slice_get_within c.args.closed.now j d is in c.loop-k.invariant j d is (omega (arith, w, c.loop-k-test.false)))
