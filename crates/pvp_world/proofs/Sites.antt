-- One site: what its handling of an event is, of the bank's site that it shows.
use Rattle.std.proofs.Common.{◌≡◌, ◌⊎◌, inl, inr, ℕ, ◌==◌, Bool, true, false, if◌then◌else◌, List, [], Option, Some, None, Result, Ok, Err, refl, sym, ap, ◌∙◌, subst, true≢false, arith}
use Rattle.std.proofs.lemmas.Bool.Decides.{nat_tests}
use Rattle.std.specs.Prelude.{◌≢◌, not, ◌&&◌, IfErr, IfOk, IsOk}
use Rattle.pvp_types.specs.declared.setup.Setup.{Setup}
use Rattle.pvp_types.specs.declared.command.Cmd.{Cmd}
use Rattle.pvp_types.specs.declared.command.Reply.{Reply as Answer}
use Rattle.pvp_types.specs.declared.command.PayOrder.{PayOrder as PaymentOrder}
use Rattle.pvp_types.specs.Setup.{faults}
use Rattle.vr_types.specs.declared.cell.Boot.{Boot}
use Rattle.vr_types.specs.declared.cell.BootCell.{Ghosts as Cell}
use Rattle.vr_types.specs.declared.event.EventOf.{EventOf}
use Rattle.vr_types.specs.declared.event.EventOf.TheVariants.{Deliver, Timer, Beat, Crash, Restart}
use Rattle.vr_types.specs.declared.event.OutcomeOf.{OutcomeOf}
use Rattle.vr_types.specs.declared.event.SiteFault.{SiteFault}
use Rattle.vr_types.specs.declared.event.SiteFault.TheVariants.{NoMemory, CellFault, NotUp, AlreadyUp, ViewsSpent, BootsSpent, NotMine}
use Rattle.vr_types.specs.declared.event.Status.{Status}
use Rattle.vr_types.specs.declared.event.Status.TheVariants.{Down}
use Rattle.vr_types.specs.declared.event.Why.{Why}
use Rattle.vr_types.specs.declared.machine.Machine.{Ghosts}
use Rattle.vr_types.specs.Cell.{max_number, is_spent}
use Rattle.vr_types.specs.Choice.{Choice, IsRight}
use Rattle.vr_types.specs.Group.{is_mine}
use Rattle.vr_types.specs.Handling.{refusal, refused_or, on_event, site_step, is_refused, IsFall}
use Rattle.vr_types.specs.Recovery.{on_restart}
use Rattle.vr_types.specs.Site.{Site, Ack, over, is_down, is_recovering}
use Rattle.vr_types.specs.Step.{Step, Ending, Handled}
use Rattle.vr_log.specs.Outcomes.{ended}
use Rattle.vr_log.specs.Running.{SumUp}
use Rattle.vr_site.specs.Life.{lost}
use Rattle.vr_site.specs.Saving.{IsOneSave}
use Rattle.vr_site.specs.Replica.{ShownSite, site_shown, Does, Falls, Handles}
use Rattle.rtgs_node.specs.Node.{Envelope}
use Rattle.headline.proofs.Basics.{some-same, none-some}
use Rattle.pvp_world.specs.World.{IsSite}
use Rattle.pvp_world.specs.Steps.{is_fall}
use Rattle.pvp_world.specs.Serving.{IsUnserved, IsDown, HasRefused}
use Rattle.pvp_world.proofs.Silent.{IsSilent, dropped-silent, crash-silent, silent-sends}

-- A refusal is no fall.
two-stay : (a b : Bool) (p q fault : SiteFault) → is_fall p ≡ false → is_fall q ≡ false → (if a then Some p else if b then Some q else None) ≡ Some fault
    → is_fall fault ≡ false
two-stay true b p q fault first second e = subst (λ (z : SiteFault). is_fall z ≡ false) (some-same p fault e) first
two-stay false true p q fault first second e = subst (λ (z : SiteFault). is_fall z ≡ false) (some-same q fault e) second
two-stay false false p q fault first second e = absurd (none-some fault e)

pub refusal-stays : {C R O : Type 0} (f me : ℕ) (x : Site C) (event : EventOf C R O) (fault : SiteFault) → refusal f me x event ≡ Some fault
    → is_fall fault ≡ false
refusal-stays f me x (Deliver envelope) fault = two-stay (is_down x.status) (not (is_mine f me envelope)) NotUp NotMine fault refl refl
refusal-stays f me x Timer fault = two-stay (is_down x.status) (not (is_recovering x.status) && (x.view == max_number)) NotUp ViewsSpent fault refl refl
refusal-stays f me x Beat fault = two-stay (is_down x.status) false NotUp NotUp fault refl refl
refusal-stays f me x Crash fault = two-stay (is_down x.status) false NotUp NotUp fault refl refl
refusal-stays f me x Restart fault = two-stay (not (is_down x.status)) (is_spent x.cell) AlreadyUp BootsSpent fault refl refl

none_summed : SumUp [] []
none_summed = λ j n. grind (arith, nat_tests)

ended-allowed : (why : Option Why) → is_refused (ended why) ≡ false
ended-allowed None = refl
ended-allowed (Some why) = refl

pub err-not-ok : {A E : Type 0} (result : Result A E) (fault : E) → result ≡ Err fault → IsOk result → ⊥
err-not-ok (Ok done) fault e ok = cc
err-not-ok (Err told) fault e ok = absurd (true≢false (sym ok))

err-same : {A : Type 0} (result : Result A SiteFault) (a b : SiteFault) → result ≡ Err a → result ≡ Err b → a ≡ b
err-same result a b e d = cc

restart-handled : (choose : Choice Cmd) (f me : ℕ) (x : Site Cmd) → is_refused (on_event {R = Answer} {O = PaymentOrder} choose f me x Restart).ending ≡ false
unfolding on_restart
restart-handled choose f me x = refl

module _ {H B : Type 0} (m : Ghosts H Cmd Answer PaymentOrder Setup) (c : Cell B) (setup : Setup) (i : ℕ) (old new : ShownSite Cmd Setup B)
    (event : EventOf Cmd Answer PaymentOrder) (x : Site Cmd) (choose : Choice Cmd) (right : IsRight (faults setup) choose)
    (is : IsSite c.held setup i old x) where
  abbrev step : Step Cmd Answer PaymentOrder
  step = site_step choose (faults setup) i x event

  abbrev named : Step Cmd Answer PaymentOrder
  named = site_step choose old.f old.me (site_shown c.held old x.collected.acks) event

  right_here : IsRight old.f choose
  right_here = subst (λ (f : ℕ). IsRight f choose) (sym is.f) right

  same : named ≡ step
  same =
      ap (λ (f : ℕ). site_step choose f old.me (site_shown c.held old x.collected.acks) event) is.f
      ∙ ap (λ (me : ℕ). site_step choose (faults setup) me (site_shown c.held old x.collected.acks) event) is.me
      ∙ ap (λ (y : Site Cmd). site_step choose (faults setup) i y event) (sym is.site)

  -- the site is down over what its cell holds
  down-is : (y : Site Cmd) → new.f ≡ old.f → new.me ≡ old.me → new.setup ≡ old.setup → SumUp new.volatile.acked []
      → site_shown c.held new [] ≡ over (c.held new.cell) Down
      → IsSite c.held setup i new (over (c.held new.cell) Down)
  down-is y f me made acks down = record { f = f ∙ is.f; me = me ∙ is.me; made_from = made ∙ is.made_from; acks = acks; site = sym down }

  over-same : (y : Site Cmd) (k : Boot) → y ≡ over k Down → y ≡ over y.cell Down
  over-same y k e = e ∙ ap (λ (b : Boot). over b Down) (sym (ap (λ (z : Site Cmd). z.cell) e))

  falls-down : (y : Site Cmd) (s : Step Cmd Answer PaymentOrder) → IsFall x s y → y ≡ over y.cell Down
  falls-down y s fall = by fall.down
    where
      by : (y ≡ over x.cell Down) ⊎ (y ≡ over s.site.cell Down) → y ≡ over y.cell Down
      by (inl e) = over-same y x.cell e
      by (inr e) = over-same y s.site.cell e

  -- a crash that is not refused is taken
  no-crash : (result : Result (OutcomeOf Cmd Answer PaymentOrder) SiteFault) (fault : SiteFault) → (event ≡ Crash → old.volatile.status ≢ Down → IsOk result)
      → result ≡ Err fault → refusal old.f old.me (site_shown c.held old []) event ≡ None → event ≢ Crash
  no-crash result fault taken answered allowed crash = err-not-ok result fault answered (taken crash up)
    where
      at : refusal {R = Answer} {O = PaymentOrder} old.f old.me (site_shown c.held old []) Crash ≡ None
      at = subst (λ (e : EventOf Cmd Answer PaymentOrder). refusal old.f old.me (site_shown c.held old []) e ≡ None) crash allowed

      up : old.volatile.status ≢ Down
      up down = none-some NotUp (sym at ∙ ap (λ (s : Status). if is_down s then Some NotUp else None) down)

  -- what a site's own refusal is, of the bank's site
  named-refusal : refusal {R = Answer} {O = PaymentOrder} old.f old.me (site_shown c.held old []) event ≡ refusal (faults setup) i x event
  named-refusal =
      ap (λ (f : ℕ). refusal f old.me (site_shown c.held old x.collected.acks) event) is.f
      ∙ ap (λ (me : ℕ). refusal (faults setup) me (site_shown c.held old x.collected.acks) event) is.me
      ∙ ap (λ (y : Site Cmd). refusal (faults setup) i y event) (sym is.site)

  -- what was done is the step
  done : (out : OutcomeOf Cmd Answer PaymentOrder) (mid : ShownSite Cmd Setup B) (result : Result (OutcomeOf Cmd Answer PaymentOrder) SiteFault)
      → Handles m c old mid event result → result ≡ Ok out → Does m c old mid out named
  done out mid result handles answered =
      subst (λ (r : Result (OutcomeOf Cmd Answer PaymentOrder) SiteFault).
      IfOk r (λ out. (choose : Choice Cmd) (acks : List Ack) → IsRight old.f choose → SumUp old.volatile.acked acks
      → Does m c old mid out (site_step choose old.f old.me (site_shown c.held old acks) event))) answered handles.step choose
      x.collected.acks right_here is.acks

  -- what was answered is a refusal, or a fall
  pub unserved : (result : Result (OutcomeOf Cmd Answer PaymentOrder) SiteFault) (fault : SiteFault) (post posted : List Envelope)
      → Handles m c old new event result → (event ≡ Crash → old.volatile.status ≢ Down → IsOk result) → result ≡ Err fault → posted ≡ post
      → IsUnserved c.held setup choose i x event old new post posted fault
  unserved result fault post posted handles taken answered kept = by (refusal old.f old.me (site_shown c.held old []) event) refl
    where
      falls : refusal old.f old.me (site_shown c.held old []) event ≡ None → (Falls c old new (site_shown c.held old x.collected.acks) named fault)
          → IsUnserved c.held setup choose i x event old new post posted fault
      falls unrefused f =
          let fell = subst (λ (y : Site Cmd). IsFall y named (site_shown c.held new [])) (sym is.site) f.site in
          let at = falls-down (site_shown c.held new []) named fell in
          let site = subst (λ (y : Site Cmd). IsFall x named y) at fell in
          record {
            sent = kept;
            refused = λ no. absurd (true≢false (sym (is_one f.fault) ∙ no));
            fell = λ yes. record {
              falls = subst (λ (s : Step Cmd Answer PaymentOrder). IsFall x s (over (c.held new.cell) Down)) same site;
              handled = ap (λ (s : Step Cmd Answer PaymentOrder). s.ending) (sym same) ∙ f.handled;
              no_crash = no-crash result fault taken answered unrefused;
              site = down-is x f.f f.me f.setup f.acks at;
            };
          }
        where
          is_one : (fault ≡ NoMemory) ⊎ ((fault ≡ CellFault) × IsOneSave c old.cell named.site.cell new.cell) → is_fall fault ≡ true
          is_one (inl e) = ap (λ (z : SiteFault). is_fall z) e
          is_one (inr e) = ap (λ (z : SiteFault). is_fall z) e.0

      by : (found : Option SiteFault) → refusal old.f old.me (site_shown c.held old []) event ≡ found
          → IsUnserved c.held setup choose i x event old new post posted fault
      by (Some r) at =
          let t = handles.refused r at in
          let one = err-same result r fault t.0 answered in
          let no = refusal-stays old.f old.me (site_shown c.held old []) event fault (at ∙ ap (λ (z : SiteFault). Some z) one) in
          record {
            sent = kept;
            refused = λ _. (t.1, sym named-refusal ∙ at ∙ ap (λ (z : SiteFault). Some z) one);
            fell = λ yes. absurd (true≢false (sym yes ∙ no));
          }
      by None at =
          falls at (subst (λ (r : Result (OutcomeOf Cmd Answer PaymentOrder) SiteFault).
          IfErr r (λ fault. (choose : Choice Cmd) (acks : List Ack) → IsRight old.f choose → SumUp old.volatile.acked acks
          → Falls c old new (site_shown c.held old acks) (site_step choose old.f old.me (site_shown c.held old acks) event) fault)) answered
          (handles.fall at) choose x.collected.acks right_here is.acks)

  -- its cell then holds what the event saves
  pub saved-after : (out : OutcomeOf Cmd Answer PaymentOrder) (mid : ShownSite Cmd Setup B) (result : Result (OutcomeOf Cmd Answer PaymentOrder) SiteFault)
      → Handles m c old mid event result → result ≡ Ok out → new ≡ record mid { volatile = lost }
      → c.held new.cell ≡ step.site.cell
  saved-after out mid result handles answered fallen =
      ap (λ (v : ShownSite Cmd Setup B). c.held v.cell) fallen
      ∙ sym (ap (λ (s : Step Cmd Answer PaymentOrder). s.site.cell) (sym same) ∙ ap (λ (y : Site Cmd). y.cell) (done out mid result handles answered).site)

  -- a site that handled the event, and then fell
  pub down-after : (out : OutcomeOf Cmd Answer PaymentOrder) (mid : ShownSite Cmd Setup B) (result : Result (OutcomeOf Cmd Answer PaymentOrder) SiteFault)
      → Handles m c old mid event result → result ≡ Ok out → new ≡ record mid { volatile = lost }
      → IsDown c.held setup choose i x event new
  down-after out mid result handles answered fallen = record {
    falls = record { allowed = allowed; down = inr (ap (λ (k : Boot). over k Down) (saved-after out mid result handles answered fallen)) };
    site = record {
      f = ap (λ (v : ShownSite Cmd Setup B). v.f) fallen ∙ does.f ∙ is.f;
      me = ap (λ (v : ShownSite Cmd Setup B). v.me) fallen ∙ does.me ∙ is.me;
      made_from = ap (λ (v : ShownSite Cmd Setup B). v.setup) fallen ∙ does.setup ∙ is.made_from;
      acks = subst (λ (v : ShownSite Cmd Setup B). SumUp v.volatile.acked []) (sym fallen) none_summed;
      site = ap (λ (k : Boot). over k Down) cell_is ∙ ap (λ (v : ShownSite Cmd Setup B). site_shown c.held v []) (sym fallen);
    };
  }
    where
      does : Does m c old mid out named
      does = done out mid result handles answered

      allowed : is_refused step.ending ≡ false
      allowed =
          ap (λ (s : Step Cmd Answer PaymentOrder). is_refused s.ending) (sym same) ∙ ap (λ (e : Ending). is_refused e) does.ending ∙ ended-allowed out.dropped

      cell_is : c.held new.cell ≡ c.held mid.cell
      cell_is = ap (λ (v : ShownSite Cmd Setup B). c.held v.cell) fallen

  -- a site that handled the event, and fell as the post took nothing of what it sent
  pub fell-after : (out : OutcomeOf Cmd Answer PaymentOrder) (mid : ShownSite Cmd Setup B) (result : Result (OutcomeOf Cmd Answer PaymentOrder) SiteFault)
      (post posted : List Envelope)
      → Handles m c old mid event result → result ≡ Ok out → new ≡ record mid { volatile = lost } → posted ≡ post → out.sent.items ≢ []
      → IsUnserved c.held setup choose i x event old new post posted NoMemory
  fell-after out mid result post posted handles answered fallen kept some =
      let down = down-after out mid result handles answered fallen in
      record {
        sent = kept;
        refused = λ no. absurd (true≢false no);
        fell = λ yes. record {
          falls = down.falls;
          handled = ap (λ (s : Step Cmd Answer PaymentOrder). s.ending) (sym same) ∙ handled out.dropped does.ending;
          no_crash =
              λ crash.
              said (subst (λ (e : EventOf Cmd Answer PaymentOrder). IsSilent (site_step choose old.f old.me (site_shown c.held old x.collected.acks) e))
              (sym crash)
              (crash-silent Answer PaymentOrder choose old.f old.me (site_shown c.held old x.collected.acks)));
          site = down.site;
        };
      }
    where
      does : Does m c old mid out named
      does = done out mid result handles answered

      said : IsSilent named → ⊥
      said silent = some (does.sent ∙ silent-sends m (m.start old.setup) old.me named silent)

      handled : (why : Option Why) → named.ending ≡ ended why → named.ending ≡ Handled
      handled None e = e
      handled (Some why) e = absurd (said (dropped-silent Answer PaymentOrder choose old.f old.me (site_shown c.held old x.collected.acks) event why e))

  -- a site that did not handle the event is down, or as it was
  pub down-unserved : (result : Result (OutcomeOf Cmd Answer PaymentOrder) SiteFault) (fault : SiteFault)
      → Handles m c old new event result → (event ≡ Crash → old.volatile.status ≢ Down → IsOk result) → result ≡ Err fault → is_fall fault ≡ true
      → IsDown c.held setup choose i x event new
  down-unserved result fault handles taken answered falls =
      let fell = (unserved result fault [] [] handles taken answered refl).fell falls in
      record { falls = fell.falls; site = fell.site }

  pub kept-unserved : (result : Result (OutcomeOf Cmd Answer PaymentOrder) SiteFault) (fault : SiteFault)
      → Handles m c old new event result → (event ≡ Crash → old.volatile.status ≢ Down → IsOk result) → result ≡ Err fault → is_fall fault ≡ false
      → HasRefused setup i x event old new fault
  kept-unserved result fault handles taken answered stays =
      let kept = (unserved result fault [] [] handles taken answered refl).refused stays in
      record { same = kept.0; refused = kept.1 }

  -- a site that refuses the event and is as it was
  pub kept-refused : (fault : SiteFault) → refusal {R = Answer} {O = PaymentOrder} old.f old.me (site_shown c.held old []) event ≡ Some fault → new ≡ old
      → HasRefused setup i x event old new fault
  kept-refused fault at kept = record { same = kept; refused = sym named-refusal ∙ at }

  -- a site that falls in place of a restart, before it saves
  pub down-before : refusal {R = Answer} {O = PaymentOrder} old.f old.me (site_shown c.held old []) event ≡ None → event ≡ Restart
      → new ≡ record old { volatile = lost }
      → IsDown c.held setup choose i x event new
  down-before at restart fallen = record {
    falls = record { allowed = allowed; down = inl (ap (λ (k : Boot). over k Down) (cell_is ∙ ap (λ (y : Site Cmd). y.cell) (sym is.site))) };
    site = record {
      f = ap (λ (v : ShownSite Cmd Setup B). v.f) fallen ∙ is.f;
      me = ap (λ (v : ShownSite Cmd Setup B). v.me) fallen ∙ is.me;
      made_from = ap (λ (v : ShownSite Cmd Setup B). v.setup) fallen ∙ is.made_from;
      acks = subst (λ (v : ShownSite Cmd Setup B). SumUp v.volatile.acked []) (sym fallen) none_summed;
      site = ap (λ (k : Boot). over k Down) cell_is ∙ ap (λ (v : ShownSite Cmd Setup B). site_shown c.held v []) (sym fallen);
    };
  }
    where
      cell_is : c.held new.cell ≡ c.held old.cell
      cell_is = ap (λ (v : ShownSite Cmd Setup B). c.held v.cell) fallen

      allowed : is_refused step.ending ≡ false
      allowed =
          ap (λ (r : Option SiteFault). is_refused (refused_or x r (on_event {R = Answer} {O = PaymentOrder} choose (faults setup) i x event)).ending)
          (sym named-refusal ∙ at)
          ∙ ap (λ (e : EventOf Cmd Answer PaymentOrder). is_refused (on_event choose (faults setup) i x e).ending) restart
          ∙ restart-handled choose (faults setup) i x
