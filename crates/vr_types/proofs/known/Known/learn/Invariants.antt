use Rattle.std.proofs.Common.{◌≡◌, length, take}
use Rattle.vr_types.specs.Step.{greater}
use Rattle.vr_types.proofs.known.Known.learn.Given as goal

-- of the sites so far what was told is taken over
abbrev pub invariant-loop-site : goal.invariant-loop-site
invariant-loop-site l = record {
  learnt : l.self ≡ greater l.initial.self (take l.site l.told);
  long : length l.self ≡ length l.initial.self;
}
