use Rattle.std.proofs.lemmas.Result.{err_from_is_err_and}
use Rattle.pvp_journal.specs.Reading.{frames_from}
use Rattle.pvp_journal.proofs.Loop.{goes_on, ends_or, is_done}
use Rattle.pvp_journal.proofs.sent.frames_from.Goals as goal

pub returns-in_err-envelope : goal.returns-in_err-envelope
returns-in_err-envelope c =
    let p = err_from_is_err_and c.from_residual.result c.from_residual.ensures.1 in
    rw (p.1, p.2) (ends_or c.args.me c.args.clock c.in_err-envelope.field-0.0 c.loop-place.sent.items c.args.count c.loop-place.place c.loop-place.rest.now
    (frames_from c.args.me c.args.clock c.args.count 0 c.args.bytes.now) c.loop-place-test.true c.in_err-envelope.ensures c.loop-place.invariant)

pub loop-place-preserved : goal.loop-place-preserved
loop-place-preserved c =
    rw c.in_ok-keep.ensures (goes_on c.args.me c.args.clock c.loop-place.sent.items c.args.count c.loop-place.place c.loop-place.rest.now
    c.in_ok-envelope.envelope c.in_ok-envelope.after.now (frames_from c.args.me c.args.clock c.args.count 0 c.args.bytes.now) c.loop-place-test.true
    c.in_ok-envelope.ensures c.loop-place.invariant)

pub returns : goal.returns
returns c =
    rw c.new.ensures
    (rw c.shrink_to_fit.ensures.items (is_done c.args.me c.args.clock c.loop-place.sent.items c.args.count c.loop-place.place c.loop-place.rest.now
    (frames_from c.args.me c.args.clock c.args.count 0 c.args.bytes.now) c.loop-place-test.false c.loop-place.invariant))
