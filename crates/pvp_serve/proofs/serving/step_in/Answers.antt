use Rattle.std.proofs.Common.{refl, sym, ◌∙◌}
use Rattle.std.proofs.lemmas.Result.{err_from_is_err_and}
use Rattle.pvp_serve.proofs.Taking.{unwritten, without_clock, without_memory}
use Rattle.pvp_serve.proofs.serving.step_in.Goals as goal

pub returns-in_err-room-clause-refused : goal.returns-in_err-room-clause-refused
returns-in_err-room-clause-refused g c =
    let p = err_from_is_err_and c.from_residual.result c.from_residual.ensures.1 in
    unwritten _ _ _ c.in_err-room.field-0.0 p.0 _ p.1 p.2 (rw (sym c.take.ensures.value ∙ c.in-Some.is) refl) c.take.ensures.after

pub returns-in-Done-clause-takes : goal.returns-in-Done-clause-takes
returns-in-Done-clause-takes g c = record {
  before = c.in-Some.room;
  after = c.in_ok-room.room;
  clock = c.in-Done.field-0;
  had = sym c.take.ensures.value ∙ c.in-Some.is;
  has = rw c.put_back.ensures refl;
  steps = rw c.in-Done.is at c.in_ok-room.ensures.ok;
}

pub returns-in-NoMemory-clause-refused : goal.returns-in-NoMemory-clause-refused
returns-in-NoMemory-clause-refused g c = without_memory _ _ _ c.in-Some.room c.in_ok-room.room
    (sym c.take.ensures.value ∙ c.in-Some.is)
    (rw c.put_back.ensures refl)
    (rw c.in-NoMemory.is at c.in_ok-room.ensures.ok)

pub returns-in-ClockSpent-clause-refused : goal.returns-in-ClockSpent-clause-refused
returns-in-ClockSpent-clause-refused g c = without_clock _ _ _ c.in-Some.room c.in_ok-room.room
    (sym c.take.ensures.value ∙ c.in-Some.is)
    (rw c.put_back.ensures refl)
    (rw c.in-ClockSpent.is at c.in_ok-room.ensures.ok)
