-- Which case of RECOVERY it is.
use Rattle.std.proofs.Common.{◌≡◌, ℕ, [], ◌∷◌, true, false, nat_lt}
use Rattle.vr_types.specs.declared.event.Why.TheVariants.{Status, Stale}
use Rattle.vr_types.specs.declared.message.MsgOf.TheVariants.{RecoveryResponse}
use Rattle.vr_types.specs.declared.message.Recovery.{Recovery as RecoveryMsg}
use Rattle.vr_types.specs.Group.{mail}
use Rattle.vr_types.specs.Recovery.{on_recovery, notes, state_of_view}
use Rattle.vr_types.specs.Site.{Site, boot_of, is_normal}
use Rattle.vr_types.specs.Step.{Step, drops, does}

module _ {C R O : Type 0} (f me : ℕ) (x : Site C) (from : ℕ) (msg : RecoveryMsg) where
  pub on_recovery-status : is_normal x.status ≡ false → ◌≡◌ {A = Step C R O} (on_recovery f me x from msg) (drops x Status)
  unfolding on_recovery
  on_recovery-status e = rw e

  pub on_recovery-stale : is_normal x.status ≡ true → nat_lt msg.nonce (boot_of x.known from) ≡ true
      → ◌≡◌ {A = Step C R O} (on_recovery f me x from msg) (drops x Stale)
  unfolding on_recovery
  on_recovery-stale e low = rw (e, low)

  pub on_recovery-normal : is_normal x.status ≡ true → nat_lt msg.nonce (boot_of x.known from) ≡ false
      → ◌≡◌ {A = Step C R O} (on_recovery f me x from msg) (let y = notes from msg.nonce x in
      does y (mail me from (RecoveryResponse (record { view = y.view; nonce = msg.nonce; state = state_of_view f me y; known = y.known })) ∷ []))
  unfolding on_recovery
  on_recovery-normal e high = rw (e, high)
