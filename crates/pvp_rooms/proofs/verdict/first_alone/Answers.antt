use Rattle.std.proofs.Common.{◌+◌, IfSome, IfNone, length, refl, subst, arith}
use Rattle.std.proofs.lemmas.Option.{slice_get_read, slice_get_within}
use Rattle.pvp_rooms.specs.Histories.{IsRising}
use Rattle.pvp_rooms.specs.Verdicts.{AreReceived, IsAlone, ReceiptsFail, ClockFails}
use Rattle.pvp_rooms.proofs.Looks.{below_place}
use Rattle.pvp_rooms.proofs.verdict.first_alone.Goals as goal

pub returns-in-Ok-Some-clause-some : goal.returns-in-Ok-Some-clause-some
returns-in-Ok-Some-clause-some g c =
    let closed = c.args.closed.now in
    let k = c.loop-k.k in
    let one = c.index-closed-k.result in
    let is = slice_get_read closed (length closed) k one refl c.loop-k-test.true c.index-closed-k.is in
    record {
      place = k;
      who = one;
      is = record { is = is; number = refl };
      before = c.loop-k.invariant;
      fails =
          subst (λ h. ReceiptsFail h one.seats.items c.in-Ok-Some.event) c.as_slice.ensures.value
          (subst (λ s. ReceiptsFail c.as_slice.result.now s c.in-Ok-Some.event) c.as_slice-in-loop-k.ensures.value
          (subst (λ o. IfSome o (λ event. ReceiptsFail c.as_slice.result.now c.as_slice-in-loop-k.result.now event)) c.in-Ok-Some.field-0-is
          c.in-Ok-Some.ensures.some));
    }

pub returns-in-Err-check_clocks-clause-some : goal.returns-in-Err-check_clocks-clause-some
returns-in-Err-check_clocks-clause-some g c =
    let closed = c.args.closed.now in
    let k = c.loop-k.k in
    let one = c.index-closed-k.result in
    let is = slice_get_read closed (length closed) k one refl c.loop-k-test.true c.index-closed-k.is in
    let err = c.in-Err-check_clocks.ensures.err in
    let clock : ClockFails c.as_slice-in-loop-k-2.result.now (c.in-Err-check_clocks.at + 1) =
    record { many = c.in-Err-check_clocks.at; count = refl; within = err.0; rising = err.1; fails = err.2 } in
    record {
      place = k;
      who = one;
      is = record { is = is; number = refl };
      before = c.loop-k.invariant;
      fails = (
        subst (λ h. AreReceived h one.seats.items) c.as_slice.ensures.value
            (subst (λ s. AreReceived c.as_slice.result.now s) c.as_slice-in-loop-k.ensures.value
            (subst (λ o. IfNone o (AreReceived c.as_slice.result.now c.as_slice-in-loop-k.result.now)) c.in-Ok-None.field-0-is c.in-Ok-None.ensures.none)),
        subst (λ h. ClockFails h (c.in-Err-check_clocks.at + 1)) c.as_slice-in-loop-k-2.ensures.value clock,
      );
    }

pub loop-k-preserved : goal.loop-k-preserved
loop-k-preserved g c =
    let closed = c.args.closed.now in
    let k = c.loop-k.k in
    let one = c.index-closed-k.result in
    let is = slice_get_read closed (length closed) k one refl c.loop-k-test.true c.index-closed-k.is in
    below_place (λ j d. IsAlone d) closed k one is c.loop-k.invariant (record {
      receipts =
          subst (λ h. AreReceived h one.seats.items) c.as_slice.ensures.value
          (subst (λ s. AreReceived c.as_slice.result.now s) c.as_slice-in-loop-k.ensures.value
          (subst (λ o. IfNone o (AreReceived c.as_slice.result.now c.as_slice-in-loop-k.result.now)) c.in-Ok-None.field-0-is c.in-Ok-None.ensures.none));
      clocks = subst (λ h. IsRising h 0) c.as_slice-in-loop-k-2.ensures.value c.in_default.ensures.ok;
    })

pub returns-clause-none : goal.returns-clause-none
returns-clause-none g c = λ j d is. (let w = slice_get_within c.args.closed.now j d is in c.loop-k.invariant j d is (omega (arith, w, c.loop-k-test.false)))
