use Rattle.std.proofs.Common.{◌≡◌, Err, map, ap, sym, ◌∙◌, arith}
use Rattle.std.proofs.lemmas.List.{get_or-map, length-map}
use Rattle.std.proofs.lemmas.Result.{err_from_is_err_and}
use Rattle.pvp_journal.specs.declared.fault.WriteFault.TheVariants.{Unfit}
use Rattle.pvp_journal.specs.Summaries.{entry_of}
use Rattle.pvp_journal.proofs.Written.{head_written, record_written, all_written, one_unfit}
use Rattle.pvp_journal.proofs.writing.write_journal.Goals as goal

pub loop-taken-init : goal.loop-taken-init
loop-taken-init c =
    let put = c.in_ok-sum.ensures in
    head_written c.args.head.now (map entry_of c.args.history.now) c.args.out.now.items c.write_head.new.out.items c.in_ok-sum.sum put.written put.sum put.head

pub loop-taken-preserved : goal.loop-taken-preserved
loop-taken-preserved c =
    let put = c.in_ok-sum-2.ensures in
    let history = c.args.history.now in
    let at = c.loop-taken.taken-index in
    let taken = c.taken-item.result in
    record_written c.args.head.now (map entry_of history) c.args.out.now.items at c.loop-taken.out.items c.loop-taken.sum (entry_of taken)
    c.write_record.new.out.items c.in_ok-sum-2.sum c.loop-taken.invariant (omega (arith, c.loop-taken-test.true, length-map history entry_of))
    (ap entry_of c.taken-item.is ∙ sym (get_or-map entry_of history at taken (entry_of taken) c.loop-taken-test.true))
    put.written put.sum put.journalable

pub returns-in_err-sum-2-clause-unfit : goal.returns-in_err-sum-2-clause-unfit
returns-in_err-sum-2-clause-unfit c = λ told fits.
    let p = err_from_is_err_and c.from_residual-in_err-sum-2.result c.from_residual-in_err-sum-2.ensures.1 in
    let is : c.in_err-sum-2.field-0.0 ≡ Unfit = cc (told, p.1, p.2) in
    one_unfit c.args.head.now.actor c.args.history.now c.loop-taken.taken-index c.taken-item.result c.loop-taken-test.true c.taken-item.is
    (c.in_err-sum-2.ensures.unfit (ap Err is)) fits.each

pub returns : goal.returns
returns c =
    let history = map entry_of c.args.history.now in
    let all = all_written c.args.head.now history c.args.out.now.items c.loop-taken.taken-index c.loop-taken.out.items c.loop-taken.sum
    c.loop-taken.invariant (omega (arith, c.loop-taken-test.false, length-map c.args.history.now entry_of)) in
    record { written = all.0; journalable = all.1; unfit = λ told. absurd cc }
