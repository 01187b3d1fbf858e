-- A command that is not refused fails none of its checks.
use Rattle.std.proofs.Common.{◌≡◌, Bool, true, false, not, List, [], ◌∷◌, refl, true≢false}
use Rattle.std.specs.Prelude.{if◌then◌else◌}
use Rattle.std.specs.List.{AllByRecursion}
use Rattle.pvp_types.specs.declared.command.Reply.{Reply}
use Rattle.pvp_types.specs.declared.command.Reply.TheVariants.{No}
use Rattle.pvp_types.specs.declared.command.Reason.{Reason}
use Rattle.pvp_book.specs.Answer.{is_refusal, unless}

abbrev pub Passed : List (Bool × Reason) → Type 0
Passed checks = AllByRecursion (λ (t : Bool × Reason). t.0 ≡ false) checks

pub passed : (checks : List (Bool × Reason)) (reply : Reply) → is_refusal (unless checks reply) ≡ false → Passed checks
passed [] reply e = tt
passed ((fails, reason) ∷ more) reply e = by fails e (passed more reply)
  where
    by : (b : Bool) → is_refusal (if b then No reason else unless more reply) ≡ false → (is_refusal (unless more reply) ≡ false → Passed more)
        → (b ≡ false) × Passed more
    by true e rest = absurd (cc e)
    by false e rest = (refl, rest e)

pub unless-is : (checks : List (Bool × Reason)) (reply : Reply) → is_refusal (unless checks reply) ≡ false → unless checks reply ≡ reply
unless-is [] reply e = refl
unless-is ((fails, reason) ∷ more) reply e = by fails e (unless-is more reply)
  where
    by : (b : Bool) → is_refusal (if b then No reason else unless more reply) ≡ false → (is_refusal (unless more reply) ≡ false → unless more reply ≡ reply)
        → (if b then No reason else unless more reply) ≡ reply
    by true e rest = absurd (cc e)
    by false e rest = rest e

pub is-so : (b : Bool) → not b ≡ false → b ≡ true
is-so true e = refl
is-so false e = absurd (true≢false e)
