-- What a world does with a step is what the bank of any list of its trail does, whatever right choices the sites take.
use Rattle.std.proofs.Common.{◌≡◌, ℕ, true, false, List, ◌++◌, slice_get, Option, Some, Err, refl, sym, ap, subst, ◌∙◌}
use Rattle.std.specs.Prelude.{Contains}
use Rattle.std.proofs.lemmas.List.{append_cancel_left}
use Rattle.pvp_types.specs.declared.setup.Setup.{Setup}
use Rattle.pvp_types.proofs.SetupLemmas.{valid-members}
use Rattle.pvp_types.specs.declared.command.Cmd.{Cmd}
use Rattle.pvp_types.specs.declared.command.Reply.{Reply as Answer}
use Rattle.pvp_types.specs.declared.command.PayOrder.{PayOrder as PaymentOrder}
use Rattle.pvp_types.specs.declared.step.Step.{Step}
use Rattle.pvp_types.specs.Setup.{faults}
use Rattle.vr_types.specs.declared.cell.Boot.{Boot}
use Rattle.vr_types.specs.declared.cell.MemCell.{MemCell}
use Rattle.vr_types.specs.declared.event.EventOf.{EventOf}
use Rattle.vr_types.specs.declared.event.Why.{Why}
use Rattle.vr_types.specs.declared.event.Status.TheVariants.{Down}
use Rattle.vr_types.specs.MemoryCell.{held_by}
use Rattle.vr_types.specs.Choice.{Choice}
use Rattle.vr_types.specs.Handling.{site_step, is_refused, dropped_as, IsFall, envelopes}
use Rattle.vr_types.specs.Site.{Site, over}
use Rattle.vr_types.specs.Step as site
use Rattle.agreement.proofs.Unique.{one_step}
use Rattle.pvp_book.specs.Ledger.{opening}
use Rattle.rtgs_node.specs.Node.{Envelope, Node, node_step}
use Rattle.headline.specs.Machine.{book}
use Rattle.headline.specs.Client.{Client, client_step}
use Rattle.headline.specs.declared.step.Move.TheVariants.{Falls}
use Rattle.headline.specs.declared.step.Turn.{Turn}
use Rattle.headline.specs.declared.step.Turn.TheVariants.{OfSite, OfNode, OfClient}
use Rattle.headline.specs.Bank.{Bank, turn, with_site, with_node, with_client}
use Rattle.headline.specs.Legal.{Acts, FallsBy, Steps, Fails, LegalList}
use Rattle.headline.proofs.Basics.{none-some, some-same, there}
use Rattle.headline.proofs.Reached.{legal-holds}
use Rattle.pvp_world.specs.World.{ShownWorld, IsAt}
use Rattle.pvp_world.specs.Steps.{Moves, IsTaken, IsRefused, AreReliable, dropped_in}
use Rattle.pvp_world.specs.Falling.{FallsTo, KeepsReliable}
use Rattle.pvp_world.specs.Refusals.{bank_refuses, turn_refuses, hinders, wants_fall}
use Rattle.pvp_world.specs.declared.report.Report.{Report}
use Rattle.pvp_world.specs.declared.fault.WorldFault.{WorldFault}
use Rattle.pvp_world.specs.declared.fault.FallFault.{FallFault}
use Rattle.pvp_world.proofs.Refused.{taken-none, why-told, no-fall}
use Rattle.pvp_world.proofs.Allowed.{shows-other, no-why, fall-memory-alone}
use Rattle.pvp_parties.specs.Made.{memory}
use Rattle.pvp_audit.specs.Coming.{StepsSo, FallsSo}

-- ONE CHOICE OR ANOTHER

module _ (setup : Setup) (a b : LegalList setup (faults setup)) where
  abbrev f : ℕ
  f = faults setup

  -- at a site of a legal list every right choice leads to the same step
  same_step : (i : ℕ) (event : EventOf Cmd Answer PaymentOrder) (x : Site Cmd) → slice_get a.bank.sites i ≡ Some x
      → site_step {R = Answer} {O = PaymentOrder} a.choose f i x event ≡ site_step b.choose f i x event
  same_step i event x is =
      let h = legal-holds setup (valid-members setup a.valid).1 a.choose f a.right a.cells a.moves a.bank a.legal.all a.legal.run in
      one_step f (record { choose = a.choose; right = a.right; cells = a.cells; events = h.events; world = h.world; legal = h.alone }) b.choose b.right i x
      (subst (λ (l : List (Site Cmd)). Contains l x) (sym h.sites) (there a.bank.sites i x is)) event

  -- an actor takes its turn by the one as by the other, and drops it for the same reason
  abbrev ActsToo : Bank → Turn → Bank → Option Why → Type 0
  ActsToo bank t after dropped = (q : Acts setup b.choose f bank t after) × (dropped_in setup b.choose f bank t after q ≡ dropped)

  acts_too : (t : Turn) (after : Bank) (p : Acts setup a.choose f a.bank t after) → ActsToo a.bank t after (dropped_in setup a.choose f a.bank t after p)
  acts_too (OfSite i event) after p =
      let same = same_step i event p.before p.is_there in (
        record {
          before = p.before;
          is_there = p.is_there;
          allowed = ap (λ (s : site.Step Cmd Answer PaymentOrder). is_refused s.ending) (sym same) ∙ p.allowed;
          leads = p.leads ∙ ap (λ (s : site.Step Cmd Answer PaymentOrder). with_site a.bank i s.site (envelopes book (opening setup) i s)) same;
        },
        ap (λ (s : site.Step Cmd Answer PaymentOrder). dropped_as s.ending) (sym same),
      )
  acts_too (OfNode c event) after p = (record { before = p.before; is_there = p.is_there; allowed = p.allowed; leads = p.leads }, refl)
  acts_too (OfClient k event) after p = (record { before = p.before; is_there = p.is_there; allowed = p.allowed; leads = p.leads }, refl)

  falls_too : (t : Turn) (cell : Boot) (after : Bank) → FallsBy setup a.choose f a.bank t cell after → FallsBy setup b.choose f a.bank t cell after
  falls_too (OfSite i event) cell after p = record {
    before = p.before;
    is_there = p.is_there;
    falls = subst (λ (s : site.Step Cmd Answer PaymentOrder). IsFall p.before s (over cell Down)) (same_step i event p.before p.is_there) p.falls;
    leads = p.leads;
  }
  falls_too (OfNode c event) cell after p = absurd p
  falls_too (OfClient k event) cell after p = absurd p

-- a turn leads to one bank, and is dropped for one reason
acts_once : (setup : Setup) (choose : Choice Cmd) (f : ℕ) (bank : Bank) (t : Turn) (after later : Bank) (p : Acts setup choose f bank t after)
    (q : Acts setup choose f bank t later)
    → (after ≡ later) × (dropped_in setup choose f bank t after p ≡ dropped_in setup choose f bank t later q)
acts_once setup choose f bank (OfSite i event) after later p q =
    let same = some-same p.before q.before (sym p.is_there ∙ q.is_there) in (
      p.leads ∙ ap (λ (x : Site Cmd). let step = site_step choose f i x event in
          with_site bank i step.site (envelopes book (opening setup) i step)) same ∙ sym q.leads,
      ap (λ (x : Site Cmd). dropped_as (site_step {R = Answer} {O = PaymentOrder} choose f i x event).ending) same,
    )
acts_once setup choose f bank (OfNode c event) after later p q = (
  p.leads ∙ ap (λ (x : Node). let step = node_step setup f c x event in
      with_node bank c step.node step.sent) (some-same p.before q.before (sym p.is_there ∙ q.is_there)) ∙ sym q.leads,
  refl,
)
acts_once setup choose f bank (OfClient k event) after later p q = (
  p.leads ∙ ap (λ (x : Client). let step = client_step f k x event in
      with_client bank k step.client step.sent) (some-same p.before q.before (sym p.is_there ∙ q.is_there)) ∙ sym q.leads,
  refl,
)

-- what a turn sends is put behind what was sent
acts_more : (setup : Setup) (choose : Choice Cmd) (f : ℕ) (bank : Bank) (t : Turn) (after : Bank) → Acts setup choose f bank t after
    → (more : List Envelope) × (after.post ≡ bank.post ++ more)
acts_more setup choose f bank (OfSite i event) after p =
    (envelopes book (opening setup) i (site_step choose f i p.before event), ap (λ (b : Bank). b.post) p.leads)
acts_more setup choose f bank (OfNode c event) after p = ((node_step setup f c p.before event).sent, ap (λ (b : Bank). b.post) p.leads)
acts_more setup choose f bank (OfClient k event) after p = ((client_step f k p.before event).sent, ap (λ (b : Bank). b.post) p.leads)

-- WHAT A WORLD DOES

module _ (one_bank : (setup : Setup) (f : ℕ) (a b : LegalList setup f) → a.cells ≡ b.cells → a.moves ≡ b.moves → a.bank ≡ b.bank) (world : ShownWorld MemCell)
    (at : IsAt held_by world)
    (list : LegalList world.setup (faults world.setup)) (cells : list.cells ≡ world.opening) (moves : list.moves ≡ world.trail) (step : Step)
    (new : ShownWorld MemCell) where
  abbrev g : ℕ
  g = faults world.setup

  -- a step that was taken

  module _ (report : Report) (taken : IsTaken held_by world new step report) where
    abbrev other : LegalList world.setup g
    other = taken.moves.list

    banks : other.bank ≡ list.bank
    banks = one_bank world.setup g other list (taken.moves.cells ∙ sym cells) (taken.moves.moves ∙ sym moves)

    abbrev by : Steps world.setup other.choose g other.bank step taken.moves.after
    by = taken.moves.leads

    -- what was put on the post
    pub posted : (more : List Envelope) × (new.post ≡ world.post ++ more)
    posted =
        let m = acts_more world.setup other.choose g other.bank by.turn_is taken.moves.after by.acts in
        (m.0, taken.moves.shows_after.post ∙ m.1 ∙ ap (λ (l : List Envelope). l ++ m.0) (sym taken.moves.shows.post))

    too : ActsToo world.setup other list list.bank by.turn_is taken.moves.after report.dropped
    too =
        let t = acts_too world.setup other list by.turn_is taken.moves.after by.acts in
        subst (λ (b : Bank). ActsToo world.setup other list b by.turn_is taken.moves.after report.dropped) banks (t.0, t.1 ∙ sym taken.told.dropped)

    turn_is : turn list.bank.post step ≡ Some by.turn_is
    turn_is = ap (λ (b : Bank). turn b.post step) (sym banks) ∙ by.has_turn

    world_post : world.post ≡ list.bank.post
    world_post = taken.moves.shows.post ∙ ap (λ (b : Bank). b.post) banks

    module _ (sent : List Envelope) (dropped : Option Why) where
      pub taken_so : report.dropped ≡ dropped → posted.0 ≡ sent → StepsSo list step sent dropped
      taken_so why same = record {
        after = taken.moves.after;
        leads = record { turn_is = by.turn_is; has_turn = turn_is; acts = too.0 };
        sends =
            sym taken.moves.shows_after.post ∙ posted.1 ∙ ap (λ (l : List Envelope). l ++ posted.0) world_post
            ∙ ap (λ (l : List Envelope). list.bank.post ++ l) same;
        drops = too.1 ∙ why;
      }

      pub taken_only : StepsSo list step sent dropped → (report.dropped ≡ dropped) × (posted.0 ≡ sent)
      taken_only s =
          let turns : by.turn_is ≡ s.leads.turn_is = some-same by.turn_is s.leads.turn_is (sym turn_is ∙ s.leads.has_turn) in
          let mine : ActsToo world.setup other list list.bank s.leads.turn_is taken.moves.after report.dropped =
          subst (λ (t : Turn). ActsToo world.setup other list list.bank t taken.moves.after report.dropped) turns too in
          let once = acts_once world.setup list.choose g list.bank s.leads.turn_is taken.moves.after s.after mine.0 s.leads.acts in
          let both : world.post ++ posted.0 ≡ world.post ++ sent =
          sym posted.1 ∙ taken.moves.shows_after.post ∙ ap (λ (b : Bank). b.post) once.0 ∙ s.sends ∙ ap (λ (l : List Envelope). l ++ sent) (sym world_post) in
          (sym mine.1 ∙ once.1 ∙ s.drops, append_cancel_left world.post posted.0 sent both)

    -- the bank does not refuse it
    pub taken_free : (why : WorldFault) → bank_refuses world.setup g list.bank step ≡ Some why → ⊥
    taken_free why told =
        let free = taken-none world.setup list.choose list.bank by.turn_is taken.moves.after too.0 in
        none-some why (sym (ap (λ t. turn_refuses world.setup g list.bank t) turn_is ∙ free) ∙ told)

  -- a step that was not taken

  module _ (why : WorldFault) (had : hinders why ≡ false) (refused : IsRefused held_by world new step why) where
    pub refused_never : (sent : List Envelope) (dropped : Option Why) → StepsSo list step sent dropped → ⊥
    refused_never sent dropped s =
        no-why held_by one_bank world at step (record { list = list; cells = cells; moves = moves; after = s.after; leads = s.leads }) why had
        (refused.kept (no-fall why had)).1

    pub refused_for : bank_refuses world.setup g list.bank step ≡ Some why
    refused_for = why-told held_by world list.bank (shows-other held_by one_bank world at list cells moves) step why had (refused.kept (no-fall why had)).1

  -- a fall

  pub fallen_so : (cell : Boot) → Moves held_by world new (Falls step cell) → FallsSo list step cell
  fallen_so cell m =
      let same : m.list.bank ≡ list.bank = one_bank world.setup g m.list list (m.cells ∙ sym cells) (m.moves ∙ sym moves) in
      let l : Fails world.setup m.list.choose g m.list.bank step cell m.after = m.leads in (
        m.after,
        record {
          turn_is = l.turn_is;
          has_turn = ap (λ (b : Bank). turn b.post step) (sym same) ∙ l.has_turn;
          falls =
              subst (λ (b : Bank). FallsBy world.setup list.choose g b l.turn_is cell m.after) same
              (falls_too world.setup m.list list l.turn_is cell m.after l.falls);
        },
      )

  pub fallen_never : (cell : Boot) → AreReliable memory world → (why : FallFault) → wants_fall why ≡ false → FallsTo held_by world new step cell (Err why)
      → KeepsReliable memory world new (Err why) → FallsSo list step cell → ⊥
  fallen_never cell reliable why free falls keeps s =
      let e : true ≡ false =
      sym (fall-memory-alone held_by one_bank world at step cell (record { list = list; cells = cells; moves = moves; after = s.0; leads = s.1 }) memory
      reliable new why falls keeps) ∙ free in cc
