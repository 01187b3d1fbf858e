-- A message that is out of date is dropped by whichever rule takes it.
use Rattle.std.proofs.Common.{◌≡◌, ℕ, ◌==◌, ◌&&◌, Bool, true, false, not, nat_lt, Option, Some, None, refl, sym, arith, true≢false, if◌then◌else◌}
use Rattle.std.proofs.lemmas.Bool.{eqb-true, ltb-true}
use Rattle.std.specs.Option.{option_map_or}
use Rattle.headline.proofs.Basics.{and_right}
use Rattle.vr_types.specs.declared.event.Why.{Why}
use Rattle.vr_types.specs.declared.event.Why.TheVariants.{NotPrimary, Status, View}
use Rattle.vr_types.specs.declared.message.MsgOf.{MsgOf}
use Rattle.vr_types.specs.declared.message.MsgOf.TheVariants.{Request, Prepare, PrepareOk, Commit, StartViewChange, DoViewChange, StartView, GetState, NewState, Recovery, RecoveryResponse, Reply, PayOrder}
use Rattle.vr_types.specs.Site.{Site, is_running}
use Rattle.vr_types.specs.Choice.{Choice}
use Rattle.vr_types.specs.Step.{Step, drops}
use Rattle.vr_types.specs.Handling.{on_message}
use Rattle.vr_types.specs.Normal.{on_prepare, on_prepare_ok, on_commit}
use Rattle.vr_types.specs.Change.{on_start_view_change, on_do_view_change, on_start_view}
use Rattle.vr_types.specs.Transfer.{on_get_state, on_new_state}
use Rattle.pvp_serve.specs.Desks.{IsDropped, view_of}

-- a number below another is not it
differs : (a b : ℕ) → nat_lt a b ≡ true → not (a == b) ≡ true
differs a b less = grind arith

module _ {C R O : Type 0} (x : Site C) where
  -- a rule that drops what is late, behind another test or two
  behind_one : (r late : Bool) (why : Why) (rest : Step C R O) → late ≡ true
      → (told : Why) × ((if r then drops {R = R} {O = O} x why else if late then drops x View else rest) ≡ drops x told)
  behind_one true late why rest is = (why, refl)
  behind_one false true why rest is = (View, refl)
  behind_one false false why rest is = absurd (true≢false (sym is))

  behind_two : (p r late : Bool) (rest : Step C R O) → late ≡ true
      → (told : Why) × ((if p then drops {R = R} {O = O} x NotPrimary else if r then drops x Status else if late then drops x View else rest) ≡ drops x told)
  behind_two true r late rest is = (NotPrimary, refl)
  behind_two false true late rest is = (Status, refl)
  behind_two false false true rest is = (View, refl)
  behind_two false false false rest is = absurd (true≢false (sym is))

dropped : {C R O : Type 0} (choose : Choice C) (f me actor : ℕ) (x : Site C) (msg : MsgOf C R O)
    → option_map_or (λ view. nat_lt view x.view) (view_of msg) false ≡ true → IsDropped choose f me x actor msg
unfolding on_prepare on_prepare_ok on_commit on_start_view_change on_do_view_change on_start_view on_get_state on_new_state
dropped choose f me actor x (Prepare msg) late = behind_two x _ _ _ _ late
dropped choose f me actor x (PrepareOk msg) late = behind_one x _ _ _ _ (differs _ _ late)
dropped choose f me actor x (Commit msg) late = behind_two x _ _ _ _ late
dropped choose f me actor x (StartViewChange msg) late = behind_one x _ _ _ _ late
dropped choose f me actor x (DoViewChange msg) late = behind_one x _ _ _ _ late
dropped choose f me actor x (StartView msg) late = behind_two x _ _ _ _ late
dropped choose f me actor x (GetState msg) late = behind_one x _ _ _ _ (differs _ _ late)
dropped choose f me actor x (NewState msg) late = behind_two x _ _ _ _ late
dropped choose f me actor x (Request msg) late = absurd (true≢false (sym late))
dropped choose f me actor x (Recovery msg) late = absurd (true≢false (sym late))
dropped choose f me actor x (RecoveryResponse msg) late = absurd (true≢false (sym late))
dropped choose f me actor x (Reply msg) late = absurd (true≢false (sym late))
dropped choose f me actor x (PayOrder msg) late = absurd (true≢false (sym late))

pub outdated_dropped : {C R O : Type 0} (choose : Choice C) (f me actor : ℕ) (x : Site C) (msg : MsgOf C R O) (r : Bool) (view : ℕ)
    → view ≡ x.view → (r && option_map_or (λ v. nat_lt v view) (view_of msg) false) ≡ true → IsDropped choose f me x actor msg
outdated_dropped choose f me actor x msg r view same late =
    dropped choose f me actor x msg (rw same at (and_right r _ late))
