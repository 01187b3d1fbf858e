use Rattle.std.proofs.Common.{refl, inl, inr}
use Rattle.std.proofs.lemmas.Result.{err_from_is_err_and}
use Rattle.pvp_serve.proofs.desk.TerminalDesk.take.Goals as goal

pub returns-in_err-ask-clause-refused : goal.returns-in_err-ask-clause-refused
returns-in_err-ask-clause-refused g c =
    let p = err_from_is_err_and c.from_residual-in_err-ask.result c.from_residual-in_err-ask.ensures.1 in
    rw (p.1, p.2) (inr (inl (record {
      handled = record { desk = c.handle.new.self; room = c.handle.new.serving.room };
      handles = c.in_ok-handle.ensures.handles;
      asks = rw c.handle.ensures.rest at c.in_err-ask.ensures.refused;
    })))

pub returns-in_err-pay_answer-clause-refused : goal.returns-in_err-pay_answer-clause-refused
returns-in_err-pay_answer-clause-refused g c =
    let p = err_from_is_err_and c.from_residual-in_err-pay_answer.result c.from_residual-in_err-pay_answer.ensures.1 in
    rw (p.1, p.2) (inr (inr (record {
      handled = record { desk = c.handle.new.self; room = c.handle.new.serving.room };
      asked = record { desk = c.ask.new.self; room = c.ask.new.serving.room };
      handles = c.in_ok-handle.ensures.handles;
      asks = rw c.handle.ensures.rest at c.in_ok-ask.ensures.asks;
      owes = c.in_err-pay_answer.ensures.refused.0;
      lost = c.in_err-pay_answer.ensures.refused.1;
      left = c.in_err-pay_answer.ensures.stays;
    })))

pub returns-clause-takes : goal.returns-clause-takes
returns-clause-takes g c = record {
  handled = record { desk = c.handle.new.self; room = c.handle.new.serving.room };
  asked = record { desk = c.ask.new.self; room = c.ask.new.serving.room };
  handles = c.in_ok-handle.ensures.handles;
  asks = rw c.handle.ensures.rest at c.in_ok-ask.ensures.asks;
  pays = rw (c.ask.ensures.rest, c.handle.ensures.rest) at c.in_ok-pay_answer.ensures.pays;
  goes = rw (c.is_done.ensures, c.request.ensures) refl;
}
