use Rattle.std.proofs.Common.{◌≡◌, ℕ, [], map, replicate, Vec}
use Rattle.pvp_audit.proofs.numbers.Numbers.new.Given as goal

abbrev pub invariant-loop : goal.invariant-loop
invariant-loop l = map (λ (events : Vec ℕ _). events.items) l.firsts.items ≡ replicate l.counter []
