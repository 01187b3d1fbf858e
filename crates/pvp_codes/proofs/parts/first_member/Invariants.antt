use Rattle.std.proofs.Common.{◌≡◌, [], take, drop}
use Rattle.pvp_codes.specs.Parts.{member_fault, first_part}
use Rattle.pvp_codes.proofs.parts.first_member.Given as goal

-- no member so far breaks the rule
abbrev pub invariant-loop-place : goal.invariant-loop-place
invariant-loop-place l =
    first_part (member_fault l.rule l.setup) [] l.members
    ≡ first_part (member_fault l.rule l.setup) (take l.place l.members) (drop l.place l.members)
