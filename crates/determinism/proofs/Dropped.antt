-- Why a site drops an event is one too, whatever right choices its step takes as given.
use Rattle.std.proofs.Common.{◌≡◌, ℕ, ◌≤◌, List, [], length, slice_get, Option, Some, None, refl, sym, ap, ◌∙◌, subst}
use Rattle.std.specs.Prelude.{Contains}
use Rattle.std.specs.Option.{option_and_then}
use Rattle.pvp_types.proofs.SetupLemmas.{valid-members}
use Rattle.pvp_types.specs.declared.setup.Setup.{Setup}
use Rattle.pvp_types.specs.declared.command.Cmd.{Cmd}
use Rattle.pvp_types.specs.declared.command.Reply.{Reply as Answer}
use Rattle.pvp_types.specs.declared.command.PayOrder.{PayOrder as PaymentOrder}
use Rattle.pvp_types.specs.declared.step.Step.{Step}
use Rattle.pvp_types.specs.Setup.{faults}
use Rattle.vr_types.specs.declared.event.EventOf.{EventOf}
use Rattle.vr_types.specs.declared.event.Why.{Why}
use Rattle.vr_types.specs.Choice.{Choice}
use Rattle.vr_types.specs.Handling.{site_step, dropped_as}
use Rattle.vr_types.specs.Site.{Site}
use Rattle.vr_types.specs.Step as site
use Rattle.agreement.specs.Worlds as worlds
use Rattle.agreement.proofs.Unique.{one_step}
use Rattle.headline.specs.declared.step.Turn.{Turn}
use Rattle.headline.specs.declared.step.Turn.TheVariants.{OfSite, OfNode, OfClient}
use Rattle.headline.specs.Bank.{Bank, turn}
use Rattle.headline.specs.Legal.{Acts, Steps, LegalList}
use Rattle.headline.proofs.Basics.{there}
use Rattle.headline.proofs.Invariant.{Holds}
use Rattle.headline.proofs.Reached.{legal-holds}
use Rattle.headline.proofs.Unique.{banks_once}
use Rattle.pvp_world.specs.Steps.{dropped_in}

-- at a site of a legal list every right choice leads to the same step
same-step : (s : Setup) (a b : LegalList s (faults s)) (i : ℕ) (event : EventOf Cmd Answer PaymentOrder) (x : Site Cmd) → slice_get a.bank.sites i ≡ Some x
    → site_step {R = Answer} {O = PaymentOrder} a.choose (faults s) i x event ≡ site_step b.choose (faults s) i x event
same-step s a b i event x at =
    let few = (valid-members s a.valid).1 in
    let h = legal-holds s few a.choose (faults s) a.right a.cells a.moves a.bank a.legal.all a.legal.run in
    one_step (faults s) (record { choose = a.choose; right = a.right; cells = a.cells; events = h.events; world = h.world; legal = h.alone }) b.choose b.right i
    x
    (subst (λ (l : List (Site Cmd)). Contains l x) (sym h.sites) (there a.bank.sites i x at)) event

module _ (f : ℕ) where
  dropped_by : Choice Cmd → Option (Site Cmd) → ℕ → EventOf Cmd Answer PaymentOrder → Option Why
  dropped_by choose None i event = None
  dropped_by choose (Some x) i event = dropped_as (site_step {R = Answer} {O = PaymentOrder} choose f i x event).ending

  dropped_at : Choice Cmd → Bank → Option Turn → Option Why
  dropped_at choose bank None = None
  dropped_at choose bank (Some (OfSite i event)) = dropped_by choose (slice_get bank.sites i) i event
  dropped_at choose bank (Some (OfNode c event)) = None
  dropped_at choose bank (Some (OfClient k event)) = None

  in-at : (s : Setup) (choose : Choice Cmd) (bank : Bank) (t : Turn) (after : Bank) (acts : Acts s choose f bank t after)
      → dropped_in s choose f bank t after acts ≡ dropped_at choose bank (Some t)
  unfolding dropped_at dropped_by
  in-at s choose bank (OfSite i event) after acts = ap (λ (o : Option (Site Cmd)). dropped_by choose o i event) (sym acts.is_there)
  in-at s choose bank (OfNode c event) after acts = refl
  in-at s choose bank (OfClient k event) after acts = refl

choice-free : (s : Setup) (a b : LegalList s (faults s)) (t : Option Turn) → dropped_at (faults s) a.choose a.bank t ≡ dropped_at (faults s) b.choose a.bank t
unfolding dropped_at dropped_by
choice-free s a b None = refl
choice-free s a b (Some (OfSite i event)) = by (slice_get a.bank.sites i) refl
  where
    by : (o : Option (Site Cmd)) → slice_get a.bank.sites i ≡ o → dropped_by (faults s) a.choose o i event ≡ dropped_by (faults s) b.choose o i event
    by None at = refl
    by (Some x) at = ap (λ (l : site.Step Cmd Answer PaymentOrder). dropped_as l.ending) (same-step s a b i event x at)
choice-free s a b (Some (OfNode c event)) = refl
choice-free s a b (Some (OfClient k event)) = refl

within-one : (s : Setup) (a b : LegalList s (faults s)) → a.cells ≡ b.cells → a.moves ≡ b.moves → (step : Step) (after other : Bank)
    (p : Steps s a.choose (faults s) a.bank step after) (q : Steps s b.choose (faults s) b.bank step other)
    → dropped_in s a.choose (faults s) a.bank p.turn_is after p.acts ≡ dropped_in s b.choose (faults s) b.bank q.turn_is other q.acts
within-one s a b cells moves step after other p q =
    in-at (faults s) s a.choose a.bank p.turn_is after p.acts
    ∙ ap (λ (t : Option Turn). dropped_at (faults s) a.choose a.bank t) (sym p.has_turn)
    ∙ choice-free s a b (turn a.bank.post step)
    ∙ ap (λ (k : Bank). dropped_at (faults s) b.choose k (turn k.post step)) (banks_once s (faults s) a b cells moves)
    ∙ ap (λ (t : Option Turn). dropped_at (faults s) b.choose b.bank t) q.has_turn
    ∙ sym (in-at (faults s) s b.choose b.bank q.turn_is other q.acts)

-- two legal lists of one setup, one opening and the same moves drop an event for one reason
pub dropped-once : (s t : Setup) → s ≡ t → (a : LegalList s (faults s)) (b : LegalList t (faults t)) → a.cells ≡ b.cells → a.moves ≡ b.moves
    → (step : Step) (after other : Bank)
    (p : Steps s a.choose (faults s) a.bank step after) (q : Steps t b.choose (faults t) b.bank step other)
    → dropped_in s a.choose (faults s) a.bank p.turn_is after p.acts ≡ dropped_in t b.choose (faults t) b.bank q.turn_is other q.acts
dropped-once s t e a b cells moves step after other p q =
    subst (λ (t : Setup). (b : LegalList t (faults t)) → a.cells ≡ b.cells → a.moves ≡ b.moves
    → (other : Bank) (q : Steps t b.choose (faults t) b.bank step other)
    → dropped_in s a.choose (faults s) a.bank p.turn_is after p.acts ≡ dropped_in t b.choose (faults t) b.bank q.turn_is other q.acts) e
    (λ b cells moves other q. within-one s a b cells moves step after other p q) b cells moves other q
