-- A client that asks again.
use Rattle.std.proofs.Common.{◌≡◌, ◌≢◌, ℕ, ◌-◌, ◌≤◌, List, [], ◌∷◌, map, take, Option, Some, None, refl, sym, ap, ◌∙◌, subst, arith, eq-eqb}
use Rattle.std.specs.List.{filter_map, cons_option}
use Rattle.std.specs.Option.{option_map}
use Rattle.std.specs.Prelude.{Result, IfOk}
use Rattle.std.specs.declared.alloc.AllocError.{AllocError}
use Rattle.std.proofs.lemmas.Bool.{ne_eqb}
use Rattle.std.proofs.lemmas.List.{take-take, length-take}
use Rattle.std.proofs.lemmas.Option.{slice_get_within}
use Rattle.vr_types.specs.declared.event.Why.TheVariants.{Known}
use Rattle.vr_types.specs.declared.event.OutcomeOf.{OutcomeOf}
use Rattle.vr_types.specs.declared.machine.Machine.{Ghosts}
use Rattle.vr_types.specs.declared.message.EnvelopeOf.{EnvelopeOf}
use Rattle.vr_types.specs.declared.message.MsgOf.TheVariants.{Reply}
use Rattle.vr_types.specs.declared.row.RowOf.{RowOf}
use Rattle.vr_types.specs.Execution.{held_after, answer_at}
use Rattle.vr_types.specs.Group.{actor_of}
use Rattle.vr_types.specs.Normal.{answers_again}
use Rattle.vr_types.specs.Rows.{last_of}
use Rattle.vr_types.specs.Site.{Site}
use Rattle.vr_types.specs.Step.{Step, drops, answers}
use Rattle.vr_log.specs.declared.kept.AnswerOf.{AnswerOf}
use Rattle.vr_log.specs.Kept.{answer_to, reply_mail}
use Rattle.vr_log.specs.Outcomes.{Sends}
use Rattle.vr_log.proofs.Rows.{last_of-placed, slice_get-take}

module _ {H C R O S : Type 0} (m : Ghosts H C R O S) (start : H) (x : Site C) where
  -- what a client was told of a placed row
  abbrev pub told : ℕ × RowOf C → ℕ × R
  told placed = (placed.1.number, answer_at m start (take x.done x.log) placed.0 placed.1)

  pub again-none : (number newest : ℕ) (last : Option (ℕ × RowOf C)) → option_map told last ≡ None
      → ◌≡◌ {A = Step C R O} (answers_again x number newest last) (drops x Known)
  again-none number newest None e = refl
  again-none number newest (Some placed) e = cc

  pub again-other : (number newest : ℕ) (last : Option (ℕ × RowOf C)) → number ≢ newest
      → ◌≡◌ {A = Step C R O} (answers_again x number newest last) (drops x Known)
  again-other number newest None other = refl
  again-other number newest (Some placed) other = rw (ne_eqb _ _ other)

  pub again-older : (number newest : ℕ) (last : Option (ℕ × RowOf C)) (a : ℕ × R) → option_map told last ≡ Some a → number ≡ newest → a.0 ≢ number
      → ◌≡◌ {A = Step C R O} (answers_again x number newest last) (drops x Known)
  again-older number newest None a e same older = refl
  again-older number newest (Some placed) a e same older =
      let pair : told placed ≡ a = cc in
      let ne : placed.1.number ≢ number = λ d. older (sym (ap (λ v. v.0) pair) ∙ d) in
      rw (eq-eqb _ _ same, ne_eqb _ _ ne)

  -- the row that a client is told of again
  pub record IsAgain (number newest q : ℕ) (last : Option (ℕ × RowOf C)) (a : ℕ × R) : Type 0 where
    pub place : ℕ
    pub step : ◌≡◌ {A = Step C R O} (answers_again x number newest last) (answers x (place ∷ []))
    pub answer : answer_to m start x.log place ≡ Some (record { client = q; number = a.0; reply = a.1 })

  placed_answer : (q : ℕ) (p : ℕ × RowOf C) (a : ℕ × R) → last_of (take x.done x.log) q ≡ Some p → told p ≡ a
      → answer_to m start x.log p.0 ≡ Some (record { client = q; number = a.0; reply = a.1 })
  placed_answer q p a e pair =
      let rows = take x.done x.log in
      let at = last_of-placed rows q p e in
      let there = slice_get-take x.log x.done (p.0 - 1) p.1 at.there in
      let within = slice_get_within rows (p.0 - 1) p.1 at.there in
      let low : p.0 - 1 ≤ x.done = omega (arith, within, length-take x.done x.log) in
      let before = take-take (p.0 - 1) x.done x.log low in
      let made : ℕ → ℕ → R → Option (AnswerOf R) = λ client number reply. Some (record { client = client; number = number; reply = reply }) in
      ap (option_map (λ (row : RowOf C). let o : AnswerOf R = record { client = row.client; number = row.number; reply = answer_at m start x.log p.0 row } in
      o)) there
      ∙ ap (λ client. made client p.1.number (answer_at m start x.log p.0 p.1)) at.whose
      ∙ ap (λ number. made q number (answer_at m start x.log p.0 p.1)) (ap (λ v. v.0) pair)
      ∙ ap (λ reply. made q a.0 reply) (ap (λ before. m.answer (held_after m start before) p.1.client p.1.cmd) (sym before) ∙ ap (λ v. v.1) pair)

  pub again-same : (number newest q : ℕ) (last : Option (ℕ × RowOf C)) (a : ℕ × R) → last_of (take x.done x.log) q ≡ last → option_map told last ≡ Some a
      → number ≡ newest → a.0 ≡ number → IsAgain number newest q last a
  again-same number newest q None a at e same now = absurd (cc)
  again-same number newest q (Some p) a at e same now =
      let pair : told p ≡ a = cc in
      let is_now : p.1.number ≡ number = ap (λ v. v.0) pair ∙ now in
      record { place = p.0; step = rw (eq-eqb _ _ same, eq-eqb _ _ is_now); answer = placed_answer q p a at pair }

  -- the envelope that tells a client again
  pub again_mails : (me view number q place : ℕ) (last : ℕ × R) (e : EnvelopeOf C R O) (result : Result (OutcomeOf C R O) AllocError)
      → e ≡ record { from = actor_of me; to = q; msg = Reply (record { view = view; number = number; reply = last.1 }) } → last.0 ≡ number
      → answer_to m start x.log place ≡ Some (record { client = q; number = last.0; reply = last.1 })
      → IfOk result (λ out. Sends out (e ∷ [])) → IfOk result (λ out. Sends out (map (reply_mail me view) (filter_map (answer_to m start x.log) (place ∷ []))))
  again_mails me view number q place last e result is now answer h =
      subst (λ mails. IfOk result (λ out. Sends out mails)) (ap one is ∙ ap again (sym now) ∙ ap mails (sym answer)) h
    where
      one : EnvelopeOf C R O → List (EnvelopeOf C R O)
      one d = d ∷ []

      again : ℕ → List (EnvelopeOf C R O)
      again n = record { from = actor_of me; to = q; msg = Reply (record { view = view; number = n; reply = last.1 }) } ∷ []

      mails : Option (AnswerOf R) → List (EnvelopeOf C R O)
      mails o = map (reply_mail me view) (cons_option o [])
