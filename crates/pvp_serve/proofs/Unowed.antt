-- A known request that a primary loses, though it is its sender's first of late, is dropped by the rules.
use Rattle.std.proofs.Common.{◌≡◌, ℕ, ◌==◌, ◌&&◌, Bool, true, false, not, nat_lt, List, take, Option, Some, None, refl, sym, ap, ◌∙◌, true≢false, if◌then◌else◌}
use Rattle.std.specs.Option.{option_map_or}
use Rattle.vr_types.specs.declared.event.Why.{Why}
use Rattle.vr_types.specs.declared.event.Why.TheVariants as why
use Rattle.vr_types.specs.declared.message.MsgOf.TheVariants.{Request}
use Rattle.vr_types.specs.declared.message.RequestOf.{RequestOf}
use Rattle.vr_types.specs.declared.row.RowOf.{RowOf}
use Rattle.vr_types.specs.Choice.{Choice}
use Rattle.vr_types.specs.Normal.{answers_again, appends, on_request}
use Rattle.vr_types.specs.Rows.{last_of, newest}
use Rattle.vr_types.specs.Site.{Site, is_normal}
use Rattle.vr_types.specs.Step.{Step, drops}
use Rattle.vr_types.specs.Group.{primary}
use Rattle.pvp_types.specs.declared.command.Cmd.{Cmd}
use Rattle.pvp_serve.specs.declared.admission.Admission.{Admission}
use Rattle.pvp_serve.specs.declared.admission.Admission.TheVariants.{Again, Known}
use Rattle.pvp_serve.specs.declared.admission.Seen.{Seen}
use Rattle.pvp_serve.specs.Admission.{admission_of_known}
use Rattle.pvp_serve.specs.Desks.{IsDropped}

is_again : Admission → Bool
is_again Again = true
is_again _ = false

-- what is lost is not owed its answer
not_owed : (a b : Bool) → (if a && b && true && true then Again else Known) ≡ Known → (a && b) ≡ false
unfolding is_again
not_owed true true is = absurd (true≢false (ap is_again is))
not_owed true false is = refl
not_owed false b is = refl

module _ {C R O : Type 0} (x : Site C) where
  again : (number newest : ℕ) (last : Option (ℕ × RowOf C))
      → ((number == newest) && (option_map_or (λ placed. placed.1.number) last 0 == number)) ≡ false
      → (told : Why) × (answers_again {R = R} {O = O} x number newest last ≡ drops x told)
  again number newest None is = (why.Known, refl)
  again number newest (Some last) is = (why.Known, rw is refl)

  behind : (normal leads : Bool) (rest : Step C R O) → (told : Why) × (rest ≡ drops x told)
      → (told : Why) × ((if not normal then drops x why.Status else if not leads then drops x why.NotPrimary else rest) ≡ drops x told)
  behind false leads rest is = (why.Status, refl)
  behind true false rest is = (why.NotPrimary, refl)
  behind true true rest is = is

  unowed : (f me : ℕ) (row : RowOf C) → nat_lt (newest x.log row.client) row.number ≡ false
      → ((row.number == newest x.log row.client) && (newest (take x.done x.log) row.client == row.number)) ≡ false
      → (told : Why) × (on_request {R = R} {O = O} f me x row ≡ drops x told)
  unfolding on_request
  unowed f me row old is =
      behind (is_normal x.status) (primary f x.view == me) _
      (rw old (again row.number (newest x.log row.client) (last_of (take x.done x.log) row.client) is))

pub lost_dropped : {R O : Type 0} (choose : Choice Cmd) (f me actor : ℕ) (x : Site Cmd) (m : RequestOf Cmd) (seen : Seen)
    → seen.newest ≡ newest x.log actor → seen.answered ≡ newest (take x.done x.log) actor
    → nat_lt seen.newest m.number ≡ false → nat_lt 0 m.number ≡ true → admission_of_known seen 0 m.number ≡ Known
    → IsDropped {R = R} {O = O} choose f me x actor (Request m)
lost_dropped choose f me actor x m seen new old known some is =
    unowed x f me (record { client = actor; number = m.number; cmd = m.cmd }) (rw new at known)
    (rw (new, old) at (not_owed (m.number == seen.newest) (seen.answered == m.number) (rw some at is)))
