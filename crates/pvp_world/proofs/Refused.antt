-- A world tells the reason that its bank has, where nothing hinders a step.
use Rattle.std.proofs.Common.{◌≡◌, ◌⊎◌, inl, inr, ℕ, zero, suc, ◌<◌, true, false, nat_lt, List, [], ◌∷◌, length, slice_get, Option, Some, None, option_map, refl, sym, ap, ◌∙◌, arith, true≢false}
use Rattle.std.proofs.lemmas.Bool.Decides.{nat_tests}
use Rattle.std.proofs.lemmas.Option.{slice_get_past}
use Rattle.pvp_types.specs.declared.setup.Setup.{Setup}
use Rattle.pvp_types.specs.declared.command.Cmd.{Cmd}
use Rattle.pvp_types.specs.declared.command.Reply.{Reply as Answer}
use Rattle.pvp_types.specs.declared.command.PayOrder.{PayOrder as PaymentOrder}
use Rattle.pvp_types.specs.declared.step.Step.{Step}
use Rattle.pvp_types.specs.Setup.{faults}
use Rattle.vr_types.specs.declared.cell.Boot.{Boot}
use Rattle.vr_types.specs.declared.event.EventOf.{EventOf}
use Rattle.vr_types.specs.declared.event.SiteFault.{SiteFault}
use Rattle.vr_types.specs.declared.event.SiteFault.TheVariants as site_fault
use Rattle.vr_types.specs.Choice.{Choice}
use Rattle.vr_types.specs.Handling.{refusal, site_step, is_refused, refused_or, on_event}
use Rattle.vr_types.specs.Site.{Site}
use Rattle.vr_site.specs.Replica.{ShownSite, site_shown}
use Rattle.rtgs_node.specs.declared.event.NodeEvent.{NodeEvent}
use Rattle.rtgs_node.specs.declared.fault.NodeFault.{NodeFault}
use Rattle.rtgs_node.specs.declared.fault.NodeFault.TheVariants as node_fault
use Rattle.rtgs_node.specs.Node.{Node, node_step}
use Rattle.rtgs_node.specs.Shown as node
use Rattle.rtgs_node.specs.Shown.{ShownNode}
use Rattle.headline.specs.declared.step.ClientEvent.{ClientEvent}
use Rattle.headline.specs.declared.step.ClientFault.{ClientFault}
use Rattle.headline.specs.declared.step.ClientFault.TheVariants as client_fault
use Rattle.headline.specs.declared.step.Turn.{Turn}
use Rattle.headline.specs.declared.step.Turn.TheVariants.{OfSite, OfNode, OfClient}
use Rattle.headline.specs.Client.{Client, client_step}
use Rattle.headline.specs.Bank.{Bank, turn}
use Rattle.headline.specs.Legal.{Acts, FallsBy}
use Rattle.headline.proofs.Basics.{none-some}
use Rattle.pvp_world.specs.Client as client
use Rattle.pvp_world.specs.Client.{ShownClient}
use Rattle.pvp_world.specs.World.{ShownWorld, IsSite, ShowsBank}
use Rattle.pvp_world.specs.Steps.{IsWhy, SiteRefuses, NodeRefuses, ClientRefuses, has_actor, is_fall, is_world_fall, told_as}
use Rattle.pvp_world.specs.declared.fault.WorldFault.{WorldFault}
use Rattle.pvp_world.specs.declared.fault.WorldFault.TheVariants as fault
use Rattle.pvp_world.specs.Falling.{is_of_site}
use Rattle.pvp_world.specs.Refusals.{site_refuses, node_refuses, client_refuses, turn_refuses, bank_refuses, hinders, hinders_site, hinders_node}

past : {A : Type 0} (xs : List A) (i : ℕ) → nat_lt i (length xs) ≡ false → slice_get xs i ≡ None
past xs i off = slice_get_past xs i (grind (arith, nat_tests))

pub within : {A C : Type 0} (xs : List A) (ys : List C) (i : ℕ) (x : A) → length xs ≡ length ys → slice_get xs i ≡ Some x → (y : C) × (slice_get ys i ≡ Some y)
within [] ys i x count e = absurd (none-some x e)
within (z ∷ xs) [] i x count e = absurd (omega arith)
within (z ∷ xs) (y ∷ ys) zero x count e = (y, refl)
within (z ∷ xs) (y ∷ ys) (suc i) x count e = within xs ys i x (omega arith) e

-- a step that is allowed is refused for no reason
allowed-none : (choose : Choice Cmd) (f i : ℕ) (x : Site Cmd) (event : EventOf Cmd Answer PaymentOrder)
    → is_refused (site_step {R = Answer} {O = PaymentOrder} choose f i x event).ending ≡ false → refusal {R = Answer} {O = PaymentOrder} f i x event ≡ None
allowed-none choose f i x event allowed = by (refusal {R = Answer} {O = PaymentOrder} f i x event) allowed
  where
    by : (why : Option SiteFault) → is_refused (refused_or x why (on_event {R = Answer} {O = PaymentOrder} choose f i x event)).ending ≡ false → why ≡ None
    by None e = refl
    by (Some why) e = absurd (true≢false e)

module _ (setup : Setup) (choose : Choice Cmd) (bank : Bank) where
  pub taken-none : (t : Turn) (after : Bank) → Acts setup choose (faults setup) bank t after → turn_refuses setup (faults setup) bank (Some t) ≡ None
  taken-none (OfSite i event) after a =
      ap (λ (o : Option (Site Cmd)). site_refuses (faults setup) i event o) a.is_there
      ∙ ap (λ (o : Option SiteFault). option_map (λ why. fault.Site why) o) (allowed-none choose (faults setup) i a.before event a.allowed)
  taken-none (OfNode c event) after a =
      ap (λ (o : Option Node). node_refuses setup (faults setup) c event o) a.is_there ∙ ap
      (λ (o : Option NodeFault). option_map (λ why. fault.Node why) o) a.allowed
  taken-none (OfClient k event) after a =
      ap (λ (o : Option Client). client_refuses (faults setup) k event o) a.is_there ∙ ap (λ (o : Option ClientFault). option_map told_as o) a.allowed

  pub fallen-none : (t : Turn) (cell : Boot) (after : Bank) → FallsBy setup choose (faults setup) bank t cell after
      → turn_refuses setup (faults setup) bank (Some t) ≡ None
  fallen-none (OfSite i event) cell after a =
      ap (λ (o : Option (Site Cmd)). site_refuses (faults setup) i event o) a.is_there
      ∙ ap (λ (o : Option SiteFault). option_map (λ why. fault.Site why) o) (allowed-none choose (faults setup) i a.before event a.falls.allowed)
  fallen-none (OfNode c event) cell after a = absurd a
  fallen-none (OfClient k event) cell after a = absurd a

  pub falls-of-site : (t : Turn) (cell : Boot) (after : Bank) → FallsBy setup choose (faults setup) bank t cell after → is_of_site t ≡ true
  falls-of-site (OfSite i event) cell after a = refl
  falls-of-site (OfNode c event) cell after a = absurd a
  falls-of-site (OfClient k event) cell after a = absurd a

module _ {B : Type 0} (held : B → Boot) (w : ShownWorld B) (bank : Bank) (shows : ShowsBank held w bank) (step : Step) where
  abbrev f : ℕ
  f = faults w.setup

  turns : (t : Option Turn) → turn w.post step ≡ t → bank_refuses w.setup f bank step ≡ turn_refuses w.setup f bank t
  turns t is = ap (λ (o : Option Turn). turn_refuses w.setup f bank o) (ap (λ p. turn p step) (sym shows.post) ∙ is)

  absent : (t : Turn) → has_actor w t ≡ false → turn_refuses w.setup f bank (Some t) ≡ Some fault.NoSuchActor
  absent (OfSite i event) off =
      ap (λ (o : Option (Site Cmd)). site_refuses f i event o) (past bank.sites i (ap (λ n. nat_lt i n) (sym shows.sites.count) ∙ off))
  absent (OfNode c event) off =
      ap (λ (o : Option Node). node_refuses w.setup f c event o) (past bank.nodes c (ap (λ n. nat_lt c n) (sym shows.nodes.count) ∙ off))
  absent (OfClient k event) off =
      ap (λ (o : Option Client). client_refuses f k event o) (past bank.clients k (ap (λ n. nat_lt k n) (sym shows.clients.count) ∙ off))

  named : (i : ℕ) (v : ShownSite Cmd Setup B) (x : Site Cmd) (event : EventOf Cmd Answer PaymentOrder) → IsSite held w.setup i v x
      → refusal {R = Answer} {O = PaymentOrder} f i x event ≡ refusal v.f v.me (site_shown held v []) event
  named i v x event shown =
      ap (λ (y : Site Cmd). refusal {R = Answer} {O = PaymentOrder} f i y event) shown.site
      ∙ ap (λ (me : ℕ). refusal {R = Answer} {O = PaymentOrder} f me (site_shown held v x.collected.acks) event) (sym shown.me)
      ∙ ap (λ (g : ℕ). refusal {R = Answer} {O = PaymentOrder} g v.me (site_shown held v x.collected.acks) event) (sym shown.f)

  site-why : (t : Turn) (why : SiteFault) → SiteRefuses held w why t → turn_refuses w.setup f bank (Some t) ≡ Some (fault.Site why)
  site-why (OfSite i event) why r =
      let x = within w.sites bank.sites i r.0 shows.sites.count r.1 in
      ap (λ (o : Option (Site Cmd)). site_refuses f i event o) x.1
      ∙ ap (λ (o : Option SiteFault). option_map (λ why. fault.Site why) o) (named i r.0 x.0 event (shows.sites.each i r.0 x.0 r.1 x.1) ∙ r.2)
  site-why (OfNode c event) why r = absurd r
  site-why (OfClient k event) why r = absurd r

  node-told : (c : ℕ) (event : NodeEvent) (v : ShownNode) (x : Node) (why : NodeFault) → hinders_node why ≡ false
      → v ≡ record { setup = w.setup; ccy = c; node = x }
      → node.IsRefusal v v (node.step_of v event) why → (node_step w.setup f c x event).fault ≡ Some why
  unfolding node.step_of
  node-told c event v x why had shown r = by r.why
    where
      same : (node_step w.setup f c x event).fault ≡ (node_step v.setup (faults v.setup) v.ccy v.node event).fault
      same = ap (λ (u : ShownNode). (node_step u.setup (faults u.setup) u.ccy u.node event).fault) (sym shown)

      by : ((node_step v.setup (faults v.setup) v.ccy v.node event).fault ≡ Some why)
          ⊎ ((why ≡ node_fault.NoMemory) × ((node_step v.setup (faults v.setup) v.ccy v.node event).fault ≡ None)
          × (node.takes_memory v.node (node_step v.setup (faults v.setup) v.ccy v.node event) ≡ true))
          → (node_step w.setup f c x event).fault ≡ Some why
      by (inl e) = same ∙ e
      by (inr e) = absurd (true≢false (ap hinders_node (sym e.0) ∙ had))

  node-why : (t : Turn) (why : NodeFault) → hinders_node why ≡ false → NodeRefuses w why t → turn_refuses w.setup f bank (Some t) ≡ Some (fault.Node why)
  node-why (OfSite i event) why had r = absurd r
  node-why (OfNode c event) why had r =
      let x = within w.nodes bank.nodes c r.0 shows.nodes.count r.1 in
      ap (λ (o : Option Node). node_refuses w.setup f c event o) x.1
      ∙ ap (λ (o : Option NodeFault). option_map (λ why. fault.Node why) o) (node-told c event r.0 x.0 why had (shows.nodes.each c r.0 x.0 r.1 x.1) r.2)
  node-why (OfClient k event) why had r = absurd r

  client-told : (k : ℕ) (event : ClientEvent) (v : ShownClient) (x : Client) (why : ClientFault) → hinders (told_as why) ≡ false
      → v ≡ record { f = f; me = k; client = x }
      → client.IsRefusal v v (client.step_of v event) why → (client_step f k x event).fault ≡ Some why
  client-told k event v x why had shown r = by r.why
    where
      same : (client_step f k x event).fault ≡ (client_step v.f v.me v.client event).fault
      same = ap (λ (u : ShownClient). (client_step u.f u.me u.client event).fault) (sym shown)

      by : ((client_step v.f v.me v.client event).fault ≡ Some why)
          ⊎ ((why ≡ client_fault.NoMemory) × ((client_step v.f v.me v.client event).fault ≡ None) × (0 < length (client_step v.f v.me v.client event).sent))
          → (client_step f k x event).fault ≡ Some why
      by (inl e) = same ∙ e
      by (inr e) = absurd (true≢false (ap (λ (c : ClientFault). hinders (told_as c)) (sym e.0) ∙ had))

  client-why : (t : Turn) (why : ClientFault) → hinders (told_as why) ≡ false → ClientRefuses w why t
      → turn_refuses w.setup f bank (Some t) ≡ Some (told_as why)
  client-why (OfSite i event) why had r = absurd r
  client-why (OfNode c event) why had r = absurd r
  client-why (OfClient k event) why had r =
      let x = within w.clients bank.clients k r.0 shows.clients.count r.1 in
      ap (λ (o : Option Client). client_refuses f k event o) x.1
      ∙ ap (λ (o : Option ClientFault). option_map told_as o) (client-told k event r.0 x.0 why had (shows.clients.each k r.0 x.0 r.1 x.1) r.2)

  -- each reason that a world has is its bank's
  pub why-told : (why : WorldFault) → hinders why ≡ false → IsWhy held w step why → bank_refuses w.setup f bank step ≡ Some why
  why-told fault.NoSuchEnvelope had is = turns None is
  why-told fault.NoSuchActor had is = turns (Some is.turn_is) is.has_turn ∙ absent is.turn_is is.there
  why-told fault.Outstanding had is = turns (Some is.0) is.1 ∙ client-why is.0 client_fault.Outstanding had is.2
  why-told (fault.Site why) had is = turns (Some is.0) is.1 ∙ site-why is.0 why is.2
  why-told (fault.Node why) had is = turns (Some is.0) is.1 ∙ node-why is.0 why had is.2
  why-told fault.Spent had is = turns (Some is.0) is.1 ∙ client-why is.0 client_fault.Spent had is.2
  why-told fault.NoMemory had is = absurd (true≢false had)

-- WHAT IS NO FALL

pub fall-hinders : (why : SiteFault) → hinders_site why ≡ false → is_fall why ≡ false
fall-hinders site_fault.NoMemory had = had
fall-hinders site_fault.CellFault had = had
fall-hinders site_fault.NotUp had = refl
fall-hinders site_fault.AlreadyUp had = refl
fall-hinders site_fault.ViewsSpent had = refl
fall-hinders site_fault.BootsSpent had = refl
fall-hinders site_fault.NotMine had = refl

pub no-fall : (why : WorldFault) → hinders why ≡ false → is_world_fall why ≡ false
no-fall (fault.Site why) had = fall-hinders why had
no-fall fault.NoSuchEnvelope had = refl
no-fall fault.NoSuchActor had = refl
no-fall fault.Outstanding had = refl
no-fall (fault.Node why) had = refl
no-fall fault.Spent had = refl
no-fall fault.NoMemory had = refl
