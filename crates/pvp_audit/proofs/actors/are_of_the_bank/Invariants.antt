use Rattle.std.proofs.Common.{◌≡◌, ℕ, ◌<◌, Some, slice_get}
use Rattle.pvp_audit.specs.declared.history.History.{History}
use Rattle.pvp_audit.specs.Actors.{IsOfPlace}
use Rattle.pvp_audit.proofs.actors.are_of_the_bank.Given as goal

-- those so far are the bank's
abbrev pub invariant-loop-k : goal.invariant-loop-k
invariant-loop-k l = (j : ℕ) (h : History) → slice_get l.histories j ≡ Some h → j < l.k → IsOfPlace l.setup j h
