-- What follows from that an event was handled: the nonce of a RECOVERY was saved before, and what is dropped takes no memory.
use Rattle.std.proofs.Common.{◌≡◌, ℕ, ◌+◌, ◌<◌, ◌≤◌, ◌==◌, ◌&&◌, ◌||◌, zero, suc, Bool, true, false, nat_le, min, List, [], ◌∷◌, Option, Some, None, slice_index, refl, sym, ap, ◌∙◌, subst, arith, eq-eqb}
use Rattle.std.specs.Prelude.{All, Result, Ok, Err, IfOk, IsOk}
use Rattle.std.specs.Cmp.{IsEquivalence}
use Rattle.std.specs.List.{list_any}
use Rattle.std.proofs.lemmas.Bool.{ne_eqb}
use Rattle.std.proofs.lemmas.Bool.Decides.{nat_tests}
use Rattle.vr_types.specs.declared.cell.BootCell.{Ghosts as Cell}
use Rattle.vr_types.specs.declared.event.EventOf.{EventOf}
use Rattle.vr_types.specs.declared.event.OutcomeOf.{OutcomeOf}
use Rattle.vr_types.specs.declared.event.SiteFault.{SiteFault}
use Rattle.vr_types.specs.declared.event.Why.{Why}
use Rattle.vr_types.specs.declared.machine.Machine.{Ghosts}
use Rattle.vr_types.specs.Choice.{Choice, IsRight, has_acknowledged}
use Rattle.vr_types.specs.Handling.{refusal, refused_or, on_event, site_step, envelopes}
use Rattle.vr_types.specs.Saved.{IsSavedFor}
use Rattle.vr_types.specs.Site.{Ack}
use Rattle.vr_types.specs.Step.{Dropped, Refused}
use Rattle.vr_types.proofs.Choosing.{choice_of}
use Rattle.vr_types.proofs.ChoosingRight.{choice_of-right}
use Rattle.vr_types.proofs.Saving.{step_saved, envelopes_saved}
use Rattle.vr_log.specs.Running.{SumUp}
use Rattle.vr_site.specs.Replica.{ShownSite, site_shown, Handles}

-- one acknowledgement of each site, of all that it acknowledged
abbrev acks_from : ℕ → List ℕ → List Ack
acks_from k [] = []
acks_from k (a ∷ more) = record { from = k; place = a; rows = a } ∷ acks_from (k + 1) more

-- the site acknowledged the first n rows
abbrev tells : ℕ → ℕ → Ack → Bool
tells n j ack = (ack.from == j) && nat_le n (min ack.place ack.rows)

none_before : (k : ℕ) (acked : List ℕ) (n j : ℕ) → j < k → list_any (tells n j) (acks_from k acked) ≡ false
none_before k [] n j low = refl
none_before k (a ∷ more) n j low =
    let other : (k == j) ≡ false = ne_eqb k j (λ e. absurd (omega arith)) in
    let rest = none_before (k + 1) more n j (omega arith) in
    rw (other, rest) refl

or_false : (b : Bool) → (b || false) ≡ b
or_false true = refl
or_false false = refl

told_by : (k : ℕ) (acked : List ℕ) (n j : ℕ) → 0 < n → list_any (tells n (k + j)) (acks_from k acked) ≡ nat_le n (slice_index acked j)
told_by k [] n j some = grind (arith, nat_tests)
told_by k (a ∷ more) n zero some =
    let here : (k == k + 0) ≡ true = eq-eqb k (k + 0) (omega arith) in
    let least : min a a ≡ a = omega arith in
    let rest = none_before (k + 1) more n (k + 0) (omega arith) in
    rw (here, least, rest) (or_false (nat_le n a))
told_by k (a ∷ more) n (suc j) some =
    let other : (k == k + suc j) ≡ false = ne_eqb k (k + suc j) (λ e. absurd (omega arith)) in
    let next : k + suc j ≡ k + 1 + j = omega arith in
    rw other (ap (λ q. list_any (tells n q) (acks_from (k + 1) more)) next ∙ told_by (k + 1) more n j some)

-- numbers are always summed up by some acknowledgements
abbrev pub acks_of : List ℕ → List Ack
acks_of acked = acks_from 0 acked

pub acks_of_summed : (acked : List ℕ) → SumUp acked (acks_of acked)
acks_of_summed acked = λ j n. by_count j n
  where
    by_count : (j n : ℕ) → has_acknowledged (acks_of acked) n j ≡ nat_le n (slice_index acked j)
    by_count j zero = grind (arith, nat_tests)
    by_count j (suc n) =
        let at : j ≡ 0 + j = omega arith in
        let none : (suc n == 0) ≡ false = ne_eqb (suc n) 0 (λ e. absurd (omega arith)) in
        rw none (ap (λ q. list_any (tells (suc n) q) (acks_from 0 acked)) at ∙ told_by 0 acked (suc n) j (omega arith))

module _ {H C R O S B : Type 0} (m : Ghosts H C R O S) (c : Cell B) (old new : ShownSite C S B) (event : EventOf C R O) where
  -- what is sent was saved before
  pub handled_is_saved : (choose : Choice C) → IsRight old.f choose → (out : OutcomeOf C R O)
      → Handles m c old new event (Ok out) → All (λ e. IsSavedFor (c.held new.cell) e.msg) out.sent.items
  handled_is_saved choose right out h =
      let acks = acks_of old.volatile.acked in
      let x = site_shown c.held old acks in
      let step = site_step choose old.f old.me x event in
      let does = h.step choose acks right (acks_of_summed old.volatile.acked) in
      let saved = envelopes_saved m (m.start old.setup) old.me step (step_saved choose old.f old.me x event) in
      subst (λ es. All (λ e. IsSavedFor (c.held new.cell) e.msg) es) (sym does.sent)
      (subst (λ b. All (λ e. IsSavedFor b e.msg) (envelopes m (m.start old.setup) old.me step)) (ap (λ y. y.cell) does.site) saved)

  -- the same of what came of it
  pub result_is_saved : (choose : Choice C) → IsRight old.f choose → (result : Result (OutcomeOf C R O) SiteFault)
      → Handles m c old new event result → IfOk result (λ out. All (λ e. IsSavedFor (c.held new.cell) e.msg) out.sent.items)
  result_is_saved choose right (Ok out) h = handled_is_saved choose right out h
  result_is_saved choose right (Err fault) h = tt

  dropped_not_refused : (o : Option SiteFault) → refusal old.f old.me (site_shown c.held old []) event ≡ o → (fault : SiteFault)
      → Handles m c old new event (Err fault) → (choose : Choice C) (acks : List Ack) (why : Why)
      → IsRight old.f choose → SumUp old.volatile.acked acks → (site_step choose old.f old.me (site_shown c.held old acks) event).ending ≡ Dropped why → ⊥
  dropped_not_refused None none fault h choose acks why right summed e = let handled = (h.fall none choose acks right summed).handled in absurd (cc)
  dropped_not_refused (Some other) some fault h choose acks why right summed e =
      let refused : (site_step choose old.f old.me (site_shown c.held old acks) event).ending ≡ Refused other =
      ap (λ o. (refused_or (site_shown c.held old acks) o (on_event choose old.f old.me (site_shown c.held old acks) event)).ending) some in
      absurd (cc)

  -- what is dropped is handled
  pub dropped_is_ok : (result : Result (OutcomeOf C R O) SiteFault) → Handles m c old new event result → (choose : Choice C) (acks : List Ack) (why : Why)
      → IsRight old.f choose → SumUp old.volatile.acked acks
      → (site_step choose old.f old.me (site_shown c.held old acks) event).ending ≡ Dropped why → IsOk result
  dropped_is_ok (Ok out) h choose acks why right summed e = refl
  dropped_is_ok (Err fault) h choose acks why right summed e =
      absurd (dropped_not_refused (refusal old.f old.me (site_shown c.held old []) event) refl fault h choose acks why right summed e)

-- commands can be told apart, so there is a right choice
pub any_choice : {C : Type 0} (f : ℕ) (eq : C → C → Bool) → 1 ≤ f → IsEquivalence eq → ((a b : C) → eq a b ≡ true → a ≡ b)
    → (choose : Choice C) × IsRight f choose
any_choice f eq some laws exact = (choice_of eq f, choice_of-right f eq some (λ a b. (exact a b, λ e. subst (λ d. eq a d ≡ true) e (laws.refl a))))
