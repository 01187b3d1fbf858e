use Rattle.std.proofs.Common.{◌≡◌, [], take, drop}
use Rattle.pvp_codes.specs.Parts.{currency_fault, first_part}
use Rattle.pvp_codes.proofs.parts.first_currency.Given as goal

-- no currency so far breaks the rule
abbrev pub invariant-loop-place : goal.invariant-loop-place
invariant-loop-place l =
    first_part (currency_fault l.rule) [] l.currencies
    ≡ first_part (currency_fault l.rule) (take l.place l.currencies) (drop l.place l.currencies)
