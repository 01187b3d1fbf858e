-- The rules of a recovery keep what holds.
use Rattle.std.proofs.Common.{◌≡◌, ◌≢◌, ◌⊎◌, inl, inr, ℕ, zero, suc, ◌+◌, ◌*◌, ◌<◌, ◌≤◌, nat_lt, Bool, true, false, not, ◌==◌, if◌then◌else◌, List, [], ◌∷◌, length, Option, Some, None, refl, sym, ap, ◌∙◌, subst, arith}
use Rattle.std.specs.Prelude.{Contains, MatchOption}
use Rattle.std.specs.List.{filter}
use Rattle.std.proofs.lemmas.List.Elements.{Contains-append_cases}
use Rattle.vr_types.specs.declared.event.Status.TheVariants.{Normal, Recovering, Down}
use Rattle.vr_types.specs.declared.message.EnvelopeOf.{EnvelopeOf}
use Rattle.vr_types.specs.declared.message.MsgOf.{MsgOf}
use Rattle.vr_types.specs.declared.message.MsgOf.TheVariants.{Recovery, RecoveryResponse}
use Rattle.vr_types.specs.declared.message.StateOf.{StateOf}
use Rattle.vr_types.specs.declared.message.Recovery.{Recovery as RecoveryMsg}
use Rattle.vr_types.specs.declared.row.RowOf.{RowOf}
use Rattle.vr_types.specs.Group.{primary, mail, to_all}
use Rattle.vr_types.specs.Site.{Response, Site, boot_of, is_normal, is_recovering, over}
use Rattle.vr_types.specs.Choice.{Choice, Regained, IsRegained, IsRight}
use Rattle.vr_types.specs.Step.{does, is_outdated, learns}
use Rattle.vr_types.specs.Recovery.{on_recovery, notes, state_of_view, has_as_late, with_response, regains, on_recovery_response, beats_recovering, on_crash}
use Rattle.vr_types.proofs.ChoosingPick.{Contains-cases, Contains-none}
use Rattle.agreement.proofs.Members.{filter-has}
use Rattle.agreement.proofs.Histories.{History}
use Rattle.agreement.proofs.OneLog.{IsLogOf}
use Rattle.agreement.proofs.PreparedRows.{Prepared}
use Rattle.vr_types.proofs.Vectors.{greater_is, greater_right, set_here}
use Rattle.agreement.proofs.Votes.{answer_by, HasAsked, RecoversBy, IsTold, IsKeptResponse, nonce_of, asks_now, same_cell, still_recovers}
use Rattle.agreement.proofs.StatesCover.{MayBeState}
use Rattle.agreement.proofs.Vouched.{IsVouched}
use Rattle.agreement.proofs.Elections.{IsElected}
use Rattle.agreement.proofs.Standing.{StandsRunning}
use Rattle.agreement.proofs.Invariant.{Holds}
use Rattle.agreement.proofs.Prior.{prepared_within}
use Rattle.agreement.proofs.Later.{log_of_later, told_later}
use Rattle.agreement.proofs.Moves.{Kept, kept_same, kept_go, kept_if, Says, says_one, says_to_all, say, later_say, prepared_say, mail-same}
use Rattle.agreement.proofs.Parts.{kept_tell, kept_tell_boots, kept_quiet, kept_down}
use Rattle.agreement.proofs.Takes.{kept_regains}
use Rattle.agreement.proofs.Learns.{kept_learns_recovering, kept_notes}
use Rattle.agreement.proofs.NormalRules.{done_later}
use Rattle.agreement.proofs.Tests.{eq_of, ge_of, runs_up, not_false, normal_of, recovering_of, normal_runs, recovering_rests}

module _ {C R O : Type 0} (f me : ℕ) (g : History C R O) (s : ℕ → Site C) (holds : Holds f g s) where
  -- a normal site answers a restart that it has noted
  answers_kept : (from nonce : ℕ) → HasAsked (s from) nonce → nonce ≤ boot_of (s me).known from → (s me).status ≡ Normal
      → Kept f g s me
      (does (s me) (mail me from (RecoveryResponse (record { view = (s me).view; nonce = nonce; state = state_of_view f me (s me); known = (s me).known }))
      ∷ []))
  answers_kept from nonce fresh noted normal = answers (primary f (s me).view == me) refl
    where
      r : StandsRunning f g me (s me)
      r = (holds.sites me).running (normal_runs _ normal)

      msg : Option (StateOf C) → MsgOf C R O
      msg state = RecoveryResponse (record { view = (s me).view; nonce = nonce; state = state; known = (s me).known })

      to_sender : (state : Option (StateOf C)) (to : ℕ) → Contains (mail me from (msg state) ∷ []) (mail me to (msg state)) → from ≡ to
      to_sender state to in' = by_place (Contains-cases (mail me from (msg state)) (mail me to (msg state)) [] in')
        where
          by_place : (mail me from (msg state) ≡ mail me to (msg state)) ⊎ Contains [] (mail me to (msg state)) → from ≡ to
          by_place (inl e) = (mail-same me me from to (msg state) (msg state) e).1
          by_place (inr none) = absurd (Contains-none _ none)

      -- its view is above each that it helped to open and in which the other prepared anything
      abreast : (state : Option (StateOf C)) → (v n : ℕ) → Prepared f (say (mail me from (msg state) ∷ []) g) from v n → g.electors v me ≡ true
          → v ≤ (s me).view
      abreast state zero n p e = omega arith
      abreast state (suc v) n p e =
          let old = prepared_say f g me (msg state) (mail me from (msg state) ∷ []) tt (says_one me from (msg state)) from (suc v) n p in
          let elected : IsElected f g (suc v) = holds.elected (suc v) (omega arith) (prepared_within f g s holds from (suc v) n old).opened in
          let x = elected.each me e in
          r.at_view.promised x.to _ x.voted

      tells : (state : Option (StateOf C)) → MayBeState f (say (mail me from (msg state) ∷ []) g) s from (s me).view nonce state
          → Kept f g s me (does (s me) (mail me from (msg state) ∷ []))
      tells state good = kept_tell_boots f g s me holds (msg state) (mail me from (msg state) ∷ []) tt (says_one me from (msg state))
          (λ to in'. (
            record { running = normal_runs _ normal; view = refl; known = refl },
            subst (λ (j : ℕ). nonce ≤ boot_of (s me).known j) (to_sender state to in') noted,
          ))
          (λ to in'. subst (λ (j : ℕ). IsVouched f (say (mail me from (msg state) ∷ []) g) s me j (msg state)) (to_sender state to in') (
            fresh,
            good,
            told_later f g (say (mail me from (msg state) ∷ []) g) me 0
                (later_say f g me (msg state) (mail me from (msg state) ∷ []) tt (says_one me from (msg state)) 0) me (s me).view (s me).known
                (record { boots = (holds.sites me).hears.heard; lived = r.at_view.lived }),
            record { opened = ap g.opened (sym (r.normal normal)) ∙ r.log_of.opened; covers = λ _ v n p e. abreast state v n p e },
          ))

      answers : (b : Bool) → (primary f (s me).view == me) ≡ b
          → Kept f g s me
          (does (s me)
          (mail me from
          (RecoveryResponse (record {
            view = (s me).view;
            nonce = nonce;
            state = if b then Some (record { done = (s me).done; rows = (s me).log }) else None;
            known = (s me).known;
          })) ∷ []))
      answers false e = tells None tt
      answers true e = tells (Some state) (record {
        log_of =
            log_of_later f g (say es g) me 0 (later_say f g me (msg (Some state)) es tt says 0) _ _
            (subst (λ (v : ℕ). IsLogOf g v (s me).log) (r.normal normal) r.log_of);
        done = done_later f me g s holds normal (msg (Some state)) es (later_say f g me (msg (Some state)) es tt says);
        covers = λ _ n p. subst (λ (l : List (RowOf C)). n ≤ length l) (sym (r.leads normal (sym (eq_of _ _ e))))
            (prepared_within f g s holds from (s me).view n (prepared_say f g me (msg (Some state)) es tt says from (s me).view n p)).within;
      })
        where
          state : StateOf C
          state = record { done = (s me).done; rows = (s me).log }

          es : List (EnvelopeOf C R O)
          es = mail me from (msg (Some state)) ∷ []

          says : Says me (msg (Some state)) es
          says = says_one me from (msg (Some state))

  pub kept_beat_recovering : Kept f g s me (beats_recovering f me (s me))
  unfolding beats_recovering
  kept_beat_recovering =
      let msg : MsgOf C R O = Recovery (record { nonce = nonce_of (s me) }) in
      kept_tell f g s me holds msg (to_all f me msg) tt (says_to_all f me msg) (λ to in'. asks_now (s me))

  pub kept_crash : Kept f g s me (on_crash (s me))
  kept_crash = kept_down f g s me holds (s me).cell (same_cell (s me) (over (s me).cell Down) refl)

  -- the state that is regained came from the primary of its view, another site, after this restart
  regains_kept : (responses : List (Response C)) (regained : Option (Regained C)) → (s me).collected.responses ≡ responses → (s me).status ≡ Recovering
      → MatchOption regained ((x : Regained C) → ¬ IsRegained f responses x) (IsRegained f responses) → Kept f g s me (regains (s me) regained)
  regains_kept responses None same recovering right = kept_same f g s me holds _ refl refl
  regains_kept responses (Some regained) same recovering right = kept_regains f g s me holds responses regained recovering same right

  -- a response that is of its sender's boot that is known is kept
  response_kept : (response : Response C) → (s me).status ≡ Recovering → response.from ≢ me → IsKeptResponse (s me).known response
      → Contains g.said (mail response.from me (RecoveryResponse (answer_by ((s me).cell.boots) response)))
      → Kept f g s me (does (with_response response (s me)) [])
  response_kept response recovering other good said =
      kept_quiet f g s me holds y (still_recovers (s me) y refl (λ _. recovering)) (record {
        running = λ run. absurd (recovering_rests (s me).status recovering run);
        rests = (holds.sites me).rests;
        hears = (holds.sites me).hears;
        responses = λ nonce by a in'. each nonce by a (Contains-append_cases _ (response ∷ []) a in');
        current = λ e a in'. current a (Contains-append_cases _ (response ∷ []) a in');
      })
    where
      y : Site C
      y = with_response response (s me)

      each : (nonce : ℕ) → RecoversBy y nonce → (a : Response C)
          → Contains (filter (λ old. not (old.from == response.from)) (s me).collected.responses) a ⊎ Contains (response ∷ []) a
          → (a.from ≢ me) × Contains g.said (mail a.from me (RecoveryResponse (answer_by nonce a)))
      each nonce by a (inl old) =
          (holds.sites me).responses nonce (record { status = recovering; boots = by.boots }) a (filter-has _ (s me).collected.responses a old)
      each nonce by a (inr new) = this (Contains-cases response a [] new)
        where
          this : (response ≡ a) ⊎ Contains [] a → (a.from ≢ me) × Contains g.said (mail a.from me (RecoveryResponse (answer_by nonce a)))
          this (inl e) = subst (λ (b : Response C). (b.from ≢ me) × Contains g.said (mail b.from me (RecoveryResponse (answer_by nonce b)))) e
              (other, subst (λ (n : ℕ). Contains g.said (mail response.from me (RecoveryResponse (answer_by n response)))) by.boots said)
          this (inr none) = absurd (Contains-none a none)

      current : (a : Response C) → Contains (filter (λ old. not (old.from == response.from)) (s me).collected.responses) a ⊎ Contains (response ∷ []) a
          → IsKeptResponse (s me).known a
      current a (inl old) = (holds.sites me).current recovering a (filter-has _ (s me).collected.responses a old)
      current a (inr new) = this (Contains-cases response a [] new)
        where
          this : (response ≡ a) ⊎ Contains [] a → IsKeptResponse (s me).known a
          this (inl e) = subst (λ (b : Response C). IsKeptResponse (s me).known b) e good
          this (inr none) = absurd (Contains-none a none)

module _ {C R O : Type 0} (f me : ℕ) (g : History C R O) (s : ℕ → Site C) (holds : Holds f g s) where
  pub kept_recovery : (from to : ℕ) (msg : RecoveryMsg) → from < 2 * f + 1 → Contains g.said (mail from to (Recovery (record { nonce = msg.nonce })))
      → Kept f g s me (on_recovery f me (s me) from msg)
  unfolding on_recovery
  kept_recovery from to msg small in' =
      kept_if f g s me (not (is_normal (s me).status)) (λ _. kept_same f g s me holds _ refl refl) (λ e₁.
      kept_if f g s me (nat_lt msg.nonce (boot_of (s me).known from)) (λ _. kept_same f g s me holds _ refl refl) (λ e₂.
      answers (normal_of _ (not_false _ e₁)) (ge_of _ _ e₂)))
    where
      y : Site C
      y = notes from msg.nonce (s me)

      answers : (s me).status ≡ Normal → boot_of (s me).known from ≤ msg.nonce
          → Kept f g s me
          (does y (mail me from (RecoveryResponse (record { view = y.view; nonce = msg.nonce; state = state_of_view f me y; known = y.known })) ∷ []))
      answers normal low =
          let long = (holds.sites me).hears.long (runs_up _ (normal_runs _ normal)) in
          let fits : from < length (s me).known = omega arith in
          kept_go f g s me y [] (λ x. x)
          (λ x. mail me from (RecoveryResponse (record { view = x.view; nonce = msg.nonce; state = state_of_view f me x; known = x.known })) ∷ [])
          (kept_notes f g s me holds from to msg.nonce normal fits low in')
          (λ h t grown e later. answers_kept f me h t later from msg.nonce (later.said from to (Recovery (record { nonce = msg.nonce })) (grown.said _ in'))
          (let is = set_here (s me).known from msg.nonce fits in let d = ap (λ (x : Site C). boot_of x.known from) e in omega arith)
          (ap (λ (x : Site C). x.status) e ∙ normal))

  pub kept_recovery_response : (choose : Choice C) → IsRight f choose → (nonce : ℕ) (response : Response C) → response.from ≢ me
      → Contains g.said (mail response.from me (RecoveryResponse (answer_by nonce response)))
      → Kept f g s me (on_recovery_response choose (s me) nonce response)
  unfolding on_recovery_response
  kept_recovery_response choose right nonce response other in' =
      kept_if f g s me (not (is_recovering (s me).status)) (λ _. kept_same f g s me holds _ refl refl) (λ e₁.
      kept_if f g s me (not (nonce == (s me).cell.boots)) (λ _. kept_same f g s me holds _ refl refl) (λ e₂.
      kept_if f g s me (is_outdated (s me).known response.from response.known) (λ _. kept_same f g s me holds _ refl refl) (λ e₃.
      kept_if f g s me (has_as_late y.collected.responses response) (λ _. kept_same f g s me holds _ refl refl) (λ _.
      regains_then (recovering_of _ (not_false _ e₁)) (eq_of _ _ (not_false _ e₂)) e₃))))
    where
      y : Site C
      y = learns response.known (s me)

      z : Site C
      z = with_response response y

      chosen : Option (Regained C)
      chosen = choose.regained z.collected.responses

      told : IsTold g response.from response.view response.known
      told = (holds.said response.from me (RecoveryResponse (answer_by nonce response)) in').2

      regains_then : (s me).status ≡ Recovering → nonce ≡ (s me).cell.boots → is_outdated (s me).known response.from response.known ≡ false
          → Kept f g s me (regains z chosen)
      regains_then recovering is fresh = regains_by chosen (right.regained z.collected.responses)
        where
          good : (x : Site C) → x ≡ y → IsKeptResponse x.known response
          good x e = subst (λ (u : Site C). IsKeptResponse u.known response) (sym e) (record {
            within = greater_right (s me).known response.known;
            current =
                (let d = greater_is (s me).known response.known response.from in
                let l = ge_of (boot_of response.known response.from) (boot_of (s me).known response.from) fresh in omega arith);
          })

          kept_z : Kept f g s me (does z [])
          kept_z = kept_go f g s me y [] (λ x. with_response response x) (λ x. []) (kept_learns_recovering f g s me holds response.known told.boots recovering)
              (λ h t grown e later. response_kept f me h t later response (ap (λ (x : Site C). x.status) e ∙ recovering) other (good (t me) e)
              (subst (λ (n : ℕ). Contains h.said (mail response.from me (RecoveryResponse (answer_by n response))))
              (is ∙ sym (ap (λ (x : Site C). x.cell.boots) e)) (grown.said _ in')))

          regains_by : (regained : Option (Regained C))
              → MatchOption regained ((x : Regained C) → ¬ IsRegained f z.collected.responses x) (IsRegained f z.collected.responses)
              → Kept f g s me (regains z regained)
          regains_by None none = kept_z
          regains_by (Some regained) fact = kept_go f g s me z [] (λ x. (regains {R = R} {O = O} x (Some regained)).site) (λ x. []) kept_z
              (λ h t grown e later. regains_kept f me h t later (t me).collected.responses (Some regained) refl (ap (λ (x : Site C). x.status) e ∙ recovering)
              (subst (λ (x : Site C). IsRegained f x.collected.responses regained) (sym e) fact))
