-- A step that a world's trail allows is refused only where memory is.
use Rattle.std.proofs.Common.{◌≡◌, ◌≢◌, inl, inr, ℕ, Bool, true, false, List, [], ◌∷◌, ◌++◌, slice_get, Some, None, Err, refl, sym, ap, ◌∙◌, subst, true≢false}
use Rattle.pvp_types.specs.declared.setup.Setup.{Setup}
use Rattle.pvp_types.specs.Setup.{faults}
use Rattle.pvp_types.specs.declared.command.Cmd.{Cmd}
use Rattle.pvp_types.specs.declared.command.Reply.{Reply as Answer}
use Rattle.pvp_types.specs.declared.command.PayOrder.{PayOrder as PaymentOrder}
use Rattle.pvp_types.specs.declared.step.Step.{Step}
use Rattle.vr_types.specs.declared.cell.Boot.{Boot}
use Rattle.vr_types.specs.declared.cell.BootCell.{Ghosts as Cell}
use Rattle.vr_types.specs.declared.event.EventOf.{EventOf}
use Rattle.vr_types.specs.declared.event.Status.TheVariants.{Down}
use Rattle.vr_types.specs.Handling.{site_step, is_refused, envelopes}
use Rattle.vr_types.specs.Site.{Site, over}
use Rattle.pvp_book.specs.Ledger.{opening}
use Rattle.rtgs_node.specs.Node.{Envelope}
use Rattle.vr_types.specs.declared.event.SiteFault.TheVariants as site_fault
use Rattle.headline.specs.declared.step.Move.{Move}
use Rattle.headline.specs.declared.step.Move.TheVariants.{Takes, Falls}
use Rattle.headline.specs.declared.step.Turn.{Turn}
use Rattle.headline.specs.declared.step.Turn.TheVariants.{OfSite, OfNode, OfClient}
use Rattle.headline.specs.Machine.{book}
use Rattle.headline.specs.Bank.{Bank, turn, with_site}
use Rattle.headline.specs.Legal.{LegalList, SiteFalls, FallsBy}
use Rattle.headline.proofs.Basics.{none-some, some-same, set-here}
use Rattle.headline.proofs.Runs.{legal-more}
use Rattle.pvp_world.specs.World.{ShownWorld, ShowsBank, IsAt}
use Rattle.pvp_world.specs.Steps.{IsWhy, IsRefused, TellsFailures, AreReliable, saved_in}
use Rattle.pvp_world.specs.Falling.{is_of_site, HoldsAnother, IsWhyNot, FellAsSaved, FallsTo, KeepsReliable}
use Rattle.pvp_world.specs.Refusals.{turn_refuses, bank_refuses, hinders, wants, wants_fall, IsAllowed}
use Rattle.pvp_world.specs.declared.fault.WorldFault.{WorldFault}
use Rattle.pvp_world.specs.declared.fault.WorldFault.TheVariants as fault
use Rattle.pvp_world.specs.declared.fault.FallFault.{FallFault}
use Rattle.pvp_world.specs.declared.fault.FallFault.TheVariants as fall_fault
use Rattle.pvp_world.proofs.Refused.{taken-none, fallen-none, falls-of-site, why-told, no-fall}

-- what hinders a step, and is no failed save, is want of memory
pub wants-memory : (why : WorldFault) → hinders why ≡ true → why ≢ fault.Site site_fault.CellFault → wants why ≡ true
wants-memory fault.NoSuchEnvelope had off = had
wants-memory fault.NoSuchActor had off = had
wants-memory fault.Outstanding had off = had
wants-memory (fault.Node why) had off = had
wants-memory fault.Spent had off = had
wants-memory fault.NoMemory had off = refl
wants-memory (fault.Site site_fault.NoMemory) had off = refl
wants-memory (fault.Site site_fault.CellFault) had off = absurd (off refl)
wants-memory (fault.Site site_fault.NotUp) had off = had
wants-memory (fault.Site site_fault.AlreadyUp) had off = had
wants-memory (fault.Site site_fault.ViewsSpent) had off = had
wants-memory (fault.Site site_fault.BootsSpent) had off = had
wants-memory (fault.Site site_fault.NotMine) had off = had

module _ {B : Type 0} (held : B → Boot) (one_bank : (setup : Setup) (f : ℕ) (a b : LegalList setup f) → a.cells ≡ b.cells → a.moves ≡ b.moves → a.bank ≡ b.bank)
    (world : ShownWorld B) (at : IsAt held world) where
  -- the world shows the bank to which any legal list of its trail leads
  pub shows-other : (list : LegalList world.setup (faults world.setup)) → list.cells ≡ world.opening → list.moves ≡ world.trail → ShowsBank held world list.bank
  shows-other list cells moves =
      subst (λ (b : Bank). ShowsBank held world b) (one_bank world.setup (faults world.setup) at.list list (at.cells ∙ sym cells) (at.moves ∙ sym moves))
      at.shows

  -- no actor refuses what is allowed
  pub no-why : (step : Step) → IsAllowed world (Takes step) → (why : WorldFault) → hinders why ≡ false → IsWhy held world step why → ⊥
  no-why step allowed why had is =
      let list = allowed.list in
      let told = why-told held world list.bank (shows-other list allowed.cells allowed.moves) step why had is in
      let free = taken-none world.setup list.choose list.bank allowed.leads.turn_is allowed.after allowed.leads.acts in
      let taken : bank_refuses world.setup (faults world.setup) list.bank step ≡ None =
      ap (λ t. turn_refuses world.setup (faults world.setup) list.bank t) allowed.leads.has_turn ∙ free in
      none-some why (sym taken ∙ told)

  -- an allowed step that is refused, over reliable cells, was refused memory
  pub memory-alone : (c : Cell B) → (step : Step) → IsAllowed world (Takes step) → AreReliable c world → (new : ShownWorld B) (why : WorldFault)
      → IsRefused held world new step why → TellsFailures c world new step (Err why) → wants why ≡ true
  memory-alone c step allowed reliable new why refused tells = by (hinders why) refl
    where
      by : (b : Bool) → hinders why ≡ b → wants why ≡ true
      by true had = wants-memory why had (λ e. (tells.reliable reliable).1 (ap (λ (w : WorldFault). Err w) e))
      by false had = absurd (no-why step allowed why had (refused.kept (no-fall why had)).1)

  -- A FALL THAT IS ALLOWED

  module _ (step : Step) (cell : Boot) (a : IsAllowed world (Falls step cell)) where
    abbrev f : ℕ
    f = faults world.setup

    shown : ShowsBank held world a.list.bank
    shown = shows-other a.list a.cells a.moves

    no-why-fall : (why : WorldFault) → hinders why ≡ false → IsWhy held world step why → ⊥
    no-why-fall why had is =
        let told = why-told held world a.list.bank shown step why had is in
        let free = fallen-none world.setup a.list.choose a.list.bank a.leads.turn_is cell a.after a.leads.falls in
        let taken : bank_refuses world.setup f a.list.bank step ≡ None = ap (λ t. turn_refuses world.setup f a.list.bank t) a.leads.has_turn ∙ free in
        none-some why (sym taken ∙ told)

    no-why-not : (why : WorldFault) → hinders why ≡ false → IsWhyNot held world step why → ⊥
    no-why-not why had (inl is) = no-why-fall why had is
    no-why-not why had (inr off) =
        let other = off.1 in
        let same : other.0 ≡ a.leads.turn_is =
        some-same other.0 a.leads.turn_is (sym other.1 ∙ ap (λ (post : List Envelope). turn post step) shown.post ∙ a.leads.has_turn) in
        let of : is_of_site a.leads.turn_is ≡ true = falls-of-site world.setup a.list.choose a.list.bank a.leads.turn_is cell a.after a.leads.falls in
        true≢false (sym of ∙ ap is_of_site (sym same) ∙ other.2)

    -- what a step of a site leaves is one, whatever right choices it takes
    one-site : (b : LegalList world.setup f) → b.cells ≡ world.opening → b.moves ≡ world.trail → (i : ℕ) (event : EventOf Cmd Answer PaymentOrder)
        → turn a.list.bank.post step ≡ Some (OfSite i event)
        → (x : Site Cmd) → slice_get a.list.bank.sites i ≡ Some x
        → is_refused (site_step {R = Answer} {O = PaymentOrder} a.list.choose f i x event).ending ≡ false
        → is_refused (site_step {R = Answer} {O = PaymentOrder} b.choose f i x event).ending ≡ false
        → (site_step {R = Answer} {O = PaymentOrder} a.list.choose f i x event).site ≡ (site_step {R = Answer} {O = PaymentOrder} b.choose f i x event).site
    one-site b cells moves i event at_turn x there allowed allowed_b =
        let banks : a.list.bank ≡ b.bank = one_bank world.setup f a.list b (a.cells ∙ sym cells) (a.moves ∙ sym moves) in
        let one = goes-on a.list at_turn there allowed in
        let two =
        goes-on b (ap (λ (k : Bank). turn k.post step) (sym banks) ∙ at_turn) (ap (λ (k : Bank). slice_get k.sites i) (sym banks) ∙ there) allowed_b in
        let both : one.0.bank ≡ two.0.bank =
        one_bank world.setup f one.0 two.0 (one.1 ∙ a.cells ∙ sym cells ∙ sym two.1)
        (one.2 ∙ ap (λ (ms : List Move). ms ++ Takes step ∷ []) (a.moves ∙ sym moves) ∙ sym two.2) in
        some-same _ _ (sym one.3 ∙ ap (λ (k : Bank). slice_get k.sites i) both ∙ two.3)
      where
        goes-on : (l : LegalList world.setup f) → turn l.bank.post step ≡ Some (OfSite i event) → slice_get l.bank.sites i ≡ Some x
            → is_refused (site_step {R = Answer} {O = PaymentOrder} l.choose f i x event).ending ≡ false
            → (m : LegalList world.setup f) × (m.cells ≡ l.cells) × (m.moves ≡ l.moves ++ Takes step ∷ [])
            × (slice_get m.bank.sites i ≡ Some (site_step {R = Answer} {O = PaymentOrder} l.choose f i x event).site)
        goes-on l turned is free = (
          record {
            valid = l.valid;
            choose = l.choose;
            right = l.right;
            cells = l.cells;
            moves = l.moves ++ Takes step ∷ [];
            bank = with_site l.bank i (site_step l.choose f i x event).site (envelopes book (opening world.setup) i (site_step l.choose f i x event));
            legal = legal-more world.setup l.choose f l.cells l.moves l.bank (Takes step)
                (with_site l.bank i (site_step l.choose f i x event).site (envelopes book (opening world.setup) i (site_step l.choose f i x event))) l.legal
                (record { turn_is = OfSite i event; has_turn = turned; acts = record { before = x; is_there = is; allowed = free; leads = refl } });
          },
          refl,
          refl,
          set-here l.bank.sites i x (site_step l.choose f i x event).site is,
        )

    cell-of : (b d : Boot) → over {C = Cmd} b Down ≡ over d Down → b ≡ d
    cell-of b d e = ap (λ (y : Site Cmd). y.cell) e

    same-site : (i j : ℕ) (e g : EventOf Cmd Answer PaymentOrder) → ◌≡◌ {A = Turn} (OfSite i e) (OfSite j g) → i ≡ j
    same-site i j e g h = cc

    same-event : (i j : ℕ) (e g : EventOf Cmd Answer PaymentOrder) → ◌≡◌ {A = Turn} (OfSite i e) (OfSite j g) → e ≡ g
    same-event i j e g h = cc

    -- it is none over another value that the step saves
    pub no-fall-elsewhere : (new : ShownWorld B) → FellAsSaved held world new step cell → ⊥
    no-fall-elsewhere new told =
        by a.leads.turn_is a.leads.has_turn a.leads.falls told.fell.moves.leads.turn_is told.fell.moves.leads.has_turn told.fell.moves.leads.falls told.saved
      where
        banks : a.list.bank ≡ told.fell.moves.list.bank
        banks = one_bank world.setup f a.list told.fell.moves.list (a.cells ∙ sym told.fell.moves.cells) (a.moves ∙ sym told.fell.moves.moves)

        at_site : (i : ℕ) (event : EventOf Cmd Answer PaymentOrder) → turn a.list.bank.post step ≡ Some (OfSite i event)
            → SiteFalls world.setup a.list.choose f a.list.bank i event cell a.after
            → (fallen : SiteFalls world.setup told.fell.moves.list.choose f told.fell.moves.list.bank i event told.fell.other told.fell.moves.after)
            → told.fell.other ≡ (site_step {R = Answer} {O = PaymentOrder} told.fell.moves.list.choose f i fallen.before event).site.cell → ⊥
        at_site i event turned ours fallen saved =
            let x = ours.before in
            let before : fallen.before ≡ x =
            some-same fallen.before x (sym fallen.is_there ∙ ap (λ (k : Bank). slice_get k.sites i) (sym banks) ∙ ours.is_there) in
            let free : is_refused (site_step {R = Answer} {O = PaymentOrder} told.fell.moves.list.choose f i x event).ending ≡ false =
            subst (λ (y : Site Cmd). is_refused (site_step {R = Answer} {O = PaymentOrder} told.fell.moves.list.choose f i y event).ending ≡ false)
            before fallen.falls.allowed in
            let one = one-site told.fell.moves.list told.fell.moves.cells told.fell.moves.moves i event turned x ours.is_there ours.falls.allowed free in
            let held_other : told.fell.other ≡ (site_step {R = Answer} {O = PaymentOrder} a.list.choose f i x event).site.cell =
            saved ∙ ap (λ (y : Site Cmd). (site_step {R = Answer} {O = PaymentOrder} told.fell.moves.list.choose f i y event).site.cell) before
            ∙ ap (λ (y : Site Cmd). y.cell) (sym one) in
            elim ours.falls.down [
              | inl e ↦ another i event turned x ours.is_there (cell-of cell x.cell e)
              | inr e ↦ told.fell.is_other (held_other ∙ sym (cell-of cell (site_step {R = Answer} {O = PaymentOrder} a.list.choose f i x event).site.cell e))
            ]
          where
            another : (i : ℕ) (event : EventOf Cmd Answer PaymentOrder) → turn a.list.bank.post step ≡ Some (OfSite i event) → (x : Site Cmd)
                → slice_get a.list.bank.sites i ≡ Some x → cell ≡ x.cell → ⊥
            another i event turned x there is =
                old told.fell.was_another.0 (some-same _ _ (sym told.fell.was_another.1 ∙ ap (λ (post : List Envelope). turn post step) shown.post ∙ turned))
                told.fell.was_another.2
              where
                old : (t : Turn) → t ≡ OfSite i event → HoldsAnother held world cell t → ⊥
                old (OfSite j e) same has =
                    let at : slice_get world.sites i ≡ Some has.0 = ap (λ (n : ℕ). slice_get world.sites n) (sym (same-site j i e event same)) ∙ has.1 in
                    has.2 (sym (ap (λ (y : Site Cmd). y.cell) (shown.sites.each i has.0 x at there).site) ∙ sym is)
                old (OfNode j e) same has = absurd has
                old (OfClient j e) same has = absurd has

        by : (t : Turn) → turn a.list.bank.post step ≡ Some t → FallsBy world.setup a.list.choose f a.list.bank t cell a.after
            → (u : Turn) → turn told.fell.moves.list.bank.post step ≡ Some u
            → (fallen : FallsBy world.setup told.fell.moves.list.choose f told.fell.moves.list.bank u told.fell.other told.fell.moves.after)
            → told.fell.other ≡ saved_in world.setup told.fell.moves.list.choose f told.fell.moves.list.bank u told.fell.other told.fell.moves.after fallen → ⊥
        by (OfSite i event) turned ours (OfSite j other) turned_too fallen saved =
            let same : OfSite i event ≡ OfSite j other =
            some-same (OfSite i event) (OfSite j other) (sym turned ∙ ap (λ (k : Bank). turn k.post step) banks ∙ turned_too) in
            let P : ℕ → EventOf Cmd Answer PaymentOrder → Type 0 =
            λ n e. (g : SiteFalls world.setup told.fell.moves.list.choose f told.fell.moves.list.bank n e told.fell.other told.fell.moves.after)
            → told.fell.other ≡ (site_step {R = Answer} {O = PaymentOrder} told.fell.moves.list.choose f n g.before e).site.cell → ⊥ in
            subst (λ (n : ℕ). P n other) (same-site i j event other same)
            (subst (λ (e : EventOf Cmd Answer PaymentOrder). P i e) (same-event i j event other same) (λ g s. at_site i event turned ours g s)) fallen saved
        by (OfSite i event) turned ours (OfNode j other) turned_too fallen saved = absurd fallen
        by (OfSite i event) turned ours (OfClient j other) turned_too fallen saved = absurd fallen
        by (OfNode i event) turned ours u turned_too fallen saved = absurd ours
        by (OfClient i event) turned ours u turned_too fallen saved = absurd ours

    -- where it is not the move, memory was refused
    pub fall-memory-alone : (c : Cell B) → AreReliable c world → (new : ShownWorld B) (why : FallFault) → FallsTo held world new step cell (Err why)
        → KeepsReliable c world new (Err why) → wants_fall why ≡ true
    fall-memory-alone c reliable new fall_fault.Elsewhere falls keeps = absurd (no-fall-elsewhere new falls)
    fall-memory-alone c reliable new (fall_fault.Step why) falls keeps = by (hinders why) refl
      where
        by : (b : Bool) → hinders why ≡ b → wants why ≡ true
        by true had = wants-memory why had (λ e. (keeps reliable).1 (ap (λ (w : WorldFault). Err (fall_fault.Step w)) e))
        by false had = absurd (no-why-not why had (falls.kept (no-fall why had)).1)
