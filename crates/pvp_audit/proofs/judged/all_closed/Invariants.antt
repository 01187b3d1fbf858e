use Rattle.pvp_audit.specs.Banked.{AreOfBank}
use Rattle.pvp_audit.specs.Histories.{AreLeftBy}
use Rattle.pvp_audit.proofs.judged.all_closed.Given as goal

-- the histories so far have their actors, which are the bank's
abbrev pub invariant-loop-history : goal.invariant-loop-history
invariant-loop-history l = record {
  left : AreLeftBy l.closed.items l.yielded;
  bank : AreOfBank l.setup l.closed.items;
}
