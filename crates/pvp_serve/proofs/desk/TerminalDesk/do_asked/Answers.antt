use Rattle.std.proofs.Common.{refl}
use Rattle.std.proofs.lemmas.Result.{err_from_is_err_and}
use Rattle.pvp_serve.proofs.Terminals.{unkept, unserved, untold}
use Rattle.pvp_serve.proofs.desk.TerminalDesk.do_asked.Goals as goal

pub returns-in_err-letters-clause-refused : goal.returns-in_err-letters-clause-refused
returns-in_err-letters-clause-refused g c =
    let p = err_from_is_err_and c.from_residual-in_err-letters.result c.from_residual-in_err-letters.ensures.1 in
    unserved _ _ _ c.args.event _ _ _ (unkept _ _ _ c.args.event _ c.take_event.new.self.room _ c.in_err-letters.field-0.0 p.0 _ p.1 p.2
    c.in_ok-take_event.ensures.takes c.in_err-letters.ensures.refused c.in_err-letters.ensures.gone)

pub returns-in_err-tell_owed-clause-refused : goal.returns-in_err-tell_owed-clause-refused
returns-in_err-tell_owed-clause-refused g c =
    let p = err_from_is_err_and c.from_residual-in_err-tell_owed.result c.from_residual-in_err-tell_owed.ensures.1 in
    untold _ _ _ c.args.event _ c.take_event.new.self.room _ c.in_ok-letters.letters.items c.in_err-tell_owed.field-0.0 p.0 _ p.1 p.2
    c.in_ok-take_event.ensures.takes c.in_ok-letters.ensures.written c.in_err-tell_owed.ensures.refused.0

pub returns-in_err-tell_outcome-clause-refused : goal.returns-in_err-tell_outcome-clause-refused
returns-in_err-tell_outcome-clause-refused g c =
    let p = err_from_is_err_and c.from_residual-in_err-tell_outcome.result c.from_residual-in_err-tell_outcome.ensures.1 in
    untold _ _ _ c.args.event _ c.take_event.new.self.room _ c.in_ok-letters.letters.items c.in_err-tell_outcome.field-0.0 p.0 _ p.1 p.2
    c.in_ok-take_event.ensures.takes c.in_ok-letters.ensures.written c.in_err-tell_outcome.ensures

pub returns-clause-done : goal.returns-clause-done
returns-clause-done g c = record {
  between = c.take_event.new.self.room;
  letters = c.in_ok-letters.letters.items;
  takes = c.in_ok-take_event.ensures.takes;
  written = c.in_ok-letters.ensures.written;
  kept = λ any syncs. c.in_ok-letters.ensures.synced (rw c.take_event.ensures.rest syncs) any refl;
  left = rw (c.waits_told-self.ensures, c.request.ensures, c.last_told-told.ensures, c.as_slice.ensures.value) refl;
}
