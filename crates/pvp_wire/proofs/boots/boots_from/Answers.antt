use Rattle.std.proofs.Common.{◌≡◌, ◌+◌, ◌++◌, ◌∷◌, [], false, length, arith}
use Rattle.std.proofs.lemmas.Result.{err_from_is_err_and}
use Rattle.std.proofs.lemmas.List.{length-append}
use Rattle.pvp_wire.specs.Shape.{number_at, items_from}
use Rattle.pvp_wire.proofs.Loop.{goes_on, ends, is_done}
use Rattle.pvp_wire.proofs.boots.boots_from.Goals as goal

pub returns-in_err-boot : goal.returns-in_err-boot
returns-in_err-boot c =
    let p = err_from_is_err_and c.from_residual.result c.from_residual.ensures.1 in
    let all = items_from (number_at 4) false c.args.count c.args.bytes.now in
    rw (p.1, p.2) (ends (number_at 4) c.in_err-boot.field-0.0 c.loop.known c.args.count c.loop.counter c.loop.rest.now all c.loop-test.true
    c.in_err-boot.ensures c.loop.invariant.1)

pub loop-preserved : goal.loop-preserved
loop-preserved c =
    let all = items_from (number_at 4) false c.args.count c.args.bytes.now in
    let grown : length (c.loop.known ++ c.in_ok-boot.boot ∷ []) ≡ c.loop.counter + 1 =
    omega (arith, length-append c.loop.known (c.in_ok-boot.boot ∷ []), c.loop.invariant.0) in
    rw c.push.ensures (
      grown,
      goes_on (number_at 4) c.loop.known c.args.count c.loop.counter c.loop.rest.now c.in_ok-boot.boot c.in_ok-boot.after.now all c.loop-test.true
          c.in_ok-boot.ensures c.loop.invariant.1,
    )

pub returns : goal.returns
returns c =
    let all = items_from (number_at 4) false c.args.count c.args.bytes.now in
    is_done (number_at 4) c.loop.known c.args.count c.loop.counter c.loop.rest.now all c.loop-test.false c.loop.invariant.1
