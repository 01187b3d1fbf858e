use Rattle.std.proofs.Common.{◌≡◌, ◌+◌, ◌++◌, ◌∷◌, [], false, length, inl, inr, refl, arith}
use Rattle.std.proofs.lemmas.Result.{err_from_is_err_and}
use Rattle.std.proofs.lemmas.List.{length-append}
use Rattle.pvp_wire.specs.Layout.{row}
use Rattle.pvp_wire.specs.Shape.{items_from}
use Rattle.pvp_wire.proofs.Loop.{goes_on, ends, is_done, asks}
use Rattle.pvp_wire.proofs.rows.rows_from.Goals as goal

pub returns-in_err-row : goal.returns-in_err-row
returns-in_err-row c =
    let p = err_from_is_err_and c.from_residual.result c.from_residual.ensures.1 in
    rw (p.1, p.2) (inl (ends (row.read false) c.in_err-row.field-0.0 c.loop.rows c.args.count c.loop.counter c.loop.rest.now
    (items_from (row.read false) false c.args.count c.args.bytes.now) c.loop-test.true c.in_err-row.ensures c.loop.invariant.1))

pub returns-in_err-push : goal.returns-in_err-push
returns-in_err-push c =
    let p = err_from_is_err_and c.from_residual-in_err-push.result c.from_residual-in_err-push.ensures.1 in
    rw (p.1, p.2)
    (inr (
      refl,
      asks (row.read false) c.args.count c.loop.counter c.loop.rest.now c.args.bytes.now c.in_ok-row.row c.in_ok-row.after.now c.loop-test.true
          c.in_ok-row.ensures c.loop.invariant.2,
    ))

pub loop-preserved : goal.loop-preserved
loop-preserved c =
    let grown : length (c.loop.rows ++ c.in_ok-row.row ∷ []) ≡ c.loop.counter + 1 =
    omega (arith, length-append c.loop.rows (c.in_ok-row.row ∷ []), c.loop.invariant.0) in
    rw c.in_ok-push.ensures.ok (
      grown,
      goes_on (row.read false) c.loop.rows c.args.count c.loop.counter c.loop.rest.now c.in_ok-row.row c.in_ok-row.after.now
          (items_from (row.read false) false c.args.count c.args.bytes.now) c.loop-test.true c.in_ok-row.ensures c.loop.invariant.1,
      inr (asks (row.read false) c.args.count c.loop.counter c.loop.rest.now c.args.bytes.now c.in_ok-row.row c.in_ok-row.after.now c.loop-test.true
          c.in_ok-row.ensures c.loop.invariant.2),
    )

pub returns : goal.returns
returns c =
    is_done (row.read false) c.loop.rows c.args.count c.loop.counter c.loop.rest.now (items_from (row.read false) false c.args.count c.args.bytes.now)
    c.loop-test.false c.loop.invariant.1
