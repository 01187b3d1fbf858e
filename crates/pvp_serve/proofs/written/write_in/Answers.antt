use Rattle.std.proofs.Common.{refl, sym, ◌∙◌}
use Rattle.pvp_serve.proofs.Taking.{flushed_already}
use Rattle.pvp_serve.proofs.written.write_in.Goals as goal

pub returns-then-is_flushed-clause-written : goal.returns-then-is_flushed-clause-written
returns-then-is_flushed-clause-written g c = record {
  before = c.in-Some.room;
  after = c.in-Some.room;
  had = sym c.take.ensures.value ∙ c.in-Some.is;
  has = rw c.put_back.ensures refl;
  flushes = λ past keeps.
      let already = flushed_already _ _ _ c.in-Some.room (sym c.is_flushed.ensures ∙ c.if-is_flushed.true) past keeps in
      (c.new-letters.ensures.items ∙ already.0, already.1);
}

pub returns-in-Ok-clause-written : goal.returns-in-Ok-clause-written
returns-in-Ok-clause-written g c = record {
  before = c.in-Some.room;
  after = c.in-Ok.room;
  had = sym c.take.ensures.value ∙ c.in-Some.is;
  has = rw c.put_back-in-Ok.ensures refl;
  flushes = c.in-Ok.ensures.flushes;
}
