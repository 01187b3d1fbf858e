-- What was done meets a step.
use Rattle.std.proofs.Common.{true, false, true≢false, ◌≡◌, ℕ, ◌-◌, List, [], ◌∷◌, ◌++◌, map, slice_get, Option, Some, None, refl, sym, ap, ◌∙◌, subst, append-nil}
use Rattle.std.specs.Prelude.{Result, Ok, Err, IfOk, OnOk, IsErr}
use Rattle.std.specs.List.{filter_map, cons_option}
use Rattle.std.specs.Option.{option_map}
use Rattle.std.specs.declared.alloc.AllocError.{AllocError}
use Rattle.vr_types.specs.declared.cell.Boot.{Boot}
use Rattle.vr_types.specs.declared.event.OutcomeOf.{OutcomeOf}
use Rattle.vr_types.specs.declared.event.Why.{Why}
use Rattle.vr_types.specs.declared.machine.Machine.{Ghosts}
use Rattle.vr_types.specs.declared.message.EnvelopeOf.{EnvelopeOf}
use Rattle.vr_types.specs.declared.message.MsgOf.TheVariants.{Reply}
use Rattle.vr_types.specs.declared.row.RowOf.{RowOf}
use Rattle.vr_types.specs.Execution.{answer_at}
use Rattle.vr_types.specs.Group.{actor_of}
use Rattle.vr_types.specs.Handling.{reply_to}
use Rattle.vr_types.specs.Site.{Ack, Site, is_running, is_recovering}
use Rattle.vr_types.specs.declared.event.Status.{Status}
use Rattle.vr_types.specs.declared.event.Status.TheVariants.{Normal, Change, Recovering, Down}
use Rattle.vr_types.specs.Step.{Step, Handled, drops, does, answers}
use Rattle.vr_log.specs.declared.running.Running.{Running}
use Rattle.vr_log.specs.Kept.{answer_to, reply_mail}
use Rattle.vr_log.specs.Outcomes.{Sends, Drops, ended}
use Rattle.vr_log.specs.Running.{IsRunning, Meets, Follows, site_of}

module _ {H C R O S : Type 0} (m : Ghosts H C R O S) (start : H) (f me : ℕ) where
  -- it follows the step that this one is
  pub follows_as : (r : Running H C R O S) (result : Result (OutcomeOf C R O) AllocError) (a b : Step C R O) → a ≡ b → Follows m start f me r result b
      → Follows m start f me r result a
  follows_as r result a b e p = subst (λ s. Follows m start f me r result s) (sym e) p

  pub meets_as : (r : Running H C R O S) (out : OutcomeOf C R O) (a b : Step C R O) → a ≡ b → Meets m start f me r out b → Meets m start f me r out a
  meets_as r out a b e p = subst (λ s. Meets m start f me r out s) (sym e) p

  -- a growth was refused
  pub err_follows : (r : Running H C R O S) (result : Result (OutcomeOf C R O) AllocError) (step : Step C R O) → IsErr result → step.ending ≡ Handled
      → Follows m start f me r result step
  err_follows r (Ok out) step e h = absurd (true≢false (sym e))
  err_follows r (Err error) step e h = h

  -- the event was dropped
  pub drops_meets : (r : Running H C R O S) (out : OutcomeOf C R O) (acks : List Ack) (cell : Boot) (why : Why) → Drops out why → IsRunning m start f r acks
      → Meets m start f me r out (drops (site_of r acks cell) why)
  drops_meets r out acks cell why d runs = record { running = runs; site = refl; sent = d.mails; ending = ap ended (sym d.dropped) }

  -- this was sent to sites, and clients heard nothing
  pub does_meets : (r : Running H C R O S) (out : OutcomeOf C R O) (x : Site C) (sent : List (EnvelopeOf C R O)) → Sends out sent
      → IsRunning m start f r x.collected.acks → x ≡ site_of r x.collected.acks x.cell → Meets m start f me r out (does x sent)
  does_meets r out x sent s runs site = record {
    running = runs;
    site = site;
    sent = s.mails ∙ sym (append-nil sent) ∙ sym (append-nil (sent ++ []));
    ending = ap ended (sym s.dropped);
  }

  -- the same, or a growth was refused
  pub does_follows : (r : Running H C R O S) (result : Result (OutcomeOf C R O) AllocError) (x : Site C) (sent : List (EnvelopeOf C R O))
      → IfOk result (λ out. Sends out sent) → IsRunning m start f r x.collected.acks → x ≡ site_of r x.collected.acks x.cell
      → Follows m start f me r result (does x sent)
  does_follows r (Ok out) x sent s runs site = does_meets r out x sent s runs site
  does_follows r (Err e) x sent s runs site = refl

  -- the envelopes of the answers to the rows at these places
  pub reply_mails : (x : Site C) (places : List ℕ)
      → filter_map (reply_to m start me x) places ≡ map (reply_mail me x.view) (filter_map (answer_to m start x.log) places)
  reply_mails x [] = refl
  reply_mails x (place ∷ places) = one (slice_get x.log (place - 1)) (reply_mails x places)
    where
      one : (o : Option (RowOf C)) → filter_map (reply_to m start me x) places ≡ map (reply_mail me x.view) (filter_map (answer_to m start x.log) places)
          → cons_option (option_map (λ row.
          let e : EnvelopeOf C R O =
          record {
            from = actor_of me;
            to = row.client;
            msg = Reply (record { view = x.view; number = row.number; reply = answer_at m start x.log place row });
          } in e) o)
          (filter_map (reply_to m start me x) places)
          ≡ map (reply_mail me x.view)
          (cons_option (option_map (λ row. record { client = row.client; number = row.number; reply = answer_at m start x.log place row }) o)
          (filter_map (answer_to m start x.log) places))
      one None h = h
      one (Some row) h =
          ap (λ mails. let e : EnvelopeOf C R O =
          record {
            from = actor_of me;
            to = row.client;
            msg = Reply (record { view = x.view; number = row.number; reply = answer_at m start x.log place row });
          } in e ∷ mails) h

  -- clients are answered, and sites are sent nothing
  pub answers_meets : (r : Running H C R O S) (out : OutcomeOf C R O) (x : Site C) (places : List ℕ)
      → Sends out (map (reply_mail me x.view) (filter_map (answer_to m start x.log) places)) → IsRunning m start f r x.collected.acks
      → x ≡ site_of r x.collected.acks x.cell → Meets m start f me r out (answers x places)
  answers_meets r out x places s runs site = record {
    running = runs;
    site = site;
    sent = s.mails ∙ sym (reply_mails x places) ∙ sym (append-nil (filter_map (reply_to m start me x) places));
    ending = ap ended (sym s.dropped);
  }

  -- the same, or a growth was refused
  pub answers_follows : (r : Running H C R O S) (result : Result (OutcomeOf C R O) AllocError) (x : Site C) (places : List ℕ)
      → IfOk result (λ out. Sends out (map (reply_mail me x.view) (filter_map (answer_to m start x.log) places))) → IsRunning m start f r x.collected.acks
      → x ≡ site_of r x.collected.acks x.cell → Follows m start f me r result (answers x places)
  answers_follows r (Ok out) x places s runs site = answers_meets r out x places s runs site
  answers_follows r (Err e) x places s runs site = refl

-- what holds anyway holds on Ok
pub on_ok : {T E : Type 0} (result : Result T E) (P : Type 0) → P → OnOk result P
on_ok (Ok value) P p = p
on_ok (Err error) P p = tt

-- sites with one log and as many rows executed are one
pub same_site : {C : Type 0} (x : Site C) (l k : List (RowOf C)) (d e : ℕ) → l ≡ k → d ≡ e
    → ◌≡◌ {A = Site C} (record x { log = l; done = d }) (record x { log = k; done = e })
same_site {C} x l k d e p q =
    let at : List (RowOf C) → ℕ → Site C = λ log done. record x { log = log; done = done } in
    ap (λ log. at log d) p ∙ ap (λ done. at k done) q

-- a running site isn't recovering
pub running_is_here : (s : Status) → is_running s ≡ true → is_recovering s ≡ false
running_is_here Normal e = refl
running_is_here Change e = refl
running_is_here Recovering e = sym e
running_is_here Down e = refl
