-- A list of moves leads to one bank: falls name their cells.
use Rattle.std.proofs.Common.{◌≡◌, ℕ, ◌≤◌, List, [], ◌∷◌, ◌++◌, length, slice_get, Some, sym, ap, ◌∙◌, subst}
use Rattle.std.specs.Prelude.{Contains}
use Rattle.pvp_types.proofs.SetupLemmas.{valid-members}
use Rattle.pvp_types.specs.declared.command.Reply.{Reply as Answer}
use Rattle.pvp_types.specs.declared.command.PayOrder.{PayOrder as PaymentOrder}
use Rattle.vr_types.specs.declared.event.EventOf.{EventOf}
use Rattle.vr_types.specs.declared.event.Status.TheVariants.{Down}
use Rattle.vr_types.specs.Step as site
use Rattle.agreement.specs.Worlds as worlds
use Rattle.agreement.proofs.Unique.{one_step}
use Rattle.pvp_types.specs.declared.setup.Setup.{Setup}
use Rattle.pvp_types.specs.declared.command.Cmd.{Cmd}
use Rattle.vr_types.specs.declared.cell.Boot.{Boot}
use Rattle.vr_types.specs.Site.{Site, over}
use Rattle.vr_types.specs.Choice.{Choice, IsRight}
use Rattle.vr_types.specs.Handling.{site_step, is_refused, IsFall, envelopes}
use Rattle.pvp_book.specs.Ledger.{opening}
use Rattle.headline.specs.Machine.{book}
use Rattle.rtgs_node.specs.Node.{Node, node_step}
use Rattle.headline.specs.Client.{Client, client_step}
use Rattle.headline.specs.declared.step.Move.{Move}
use Rattle.headline.specs.declared.step.Move.TheVariants.{Takes, Falls}
use Rattle.headline.specs.declared.step.Turn.{Turn}
use Rattle.headline.specs.declared.step.Turn.TheVariants.{OfSite, OfNode, OfClient}
use Rattle.headline.specs.Bank.{Bank, opening_bank, with_site, with_node, with_client}
use Rattle.headline.specs.Legal.{Acts, FallsBy, Leads, IsRun, LegalList}
use Rattle.headline.proofs.Basics.{some-same, there}
use Rattle.headline.proofs.Invariant.{Holds}
use Rattle.headline.proofs.Reached.{opening-holds, move-keeps}

module _ (setup : Setup) (choose : Choice Cmd) (f : ℕ) where
  acts_once : (bank : Bank) (t : Turn) (a b : Bank) → Acts setup choose f bank t a → Acts setup choose f bank t b → a ≡ b
  acts_once bank (OfSite i event) a b p q =
      p.leads ∙ ap (λ (x : Site Cmd). let step = site_step choose f i x event in
      with_site bank i step.site (envelopes book (opening setup) i step)) (some-same p.before q.before (sym p.is_there ∙ q.is_there)) ∙ sym q.leads
  acts_once bank (OfNode c event) a b p q =
      p.leads ∙ ap (λ (x : Node). let step = node_step setup f c x event in
      with_node bank c step.node step.sent) (some-same p.before q.before (sym p.is_there ∙ q.is_there)) ∙ sym q.leads
  acts_once bank (OfClient k event) a b p q =
      p.leads ∙ ap (λ (x : Client). let step = client_step f k x event in
      with_client bank k step.client step.sent) (some-same p.before q.before (sym p.is_there ∙ q.is_there)) ∙ sym q.leads

  falls_once : (bank : Bank) (t : Turn) (cell : Boot) (a b : Bank) → FallsBy setup choose f bank t cell a → FallsBy setup choose f bank t cell b → a ≡ b
  falls_once bank (OfSite i event) cell a b p q = p.leads ∙ sym q.leads
  falls_once bank (OfNode c event) cell a b p q = absurd p
  falls_once bank (OfClient k event) cell a b p q = absurd p

  leads_once : (bank : Bank) (move : Move) (a b : Bank) → Leads setup choose f bank move a → Leads setup choose f bank move b → a ≡ b
  leads_once bank (Takes step) a b p q =
      acts_once bank q.turn_is a b (subst (λ (t : Turn). Acts setup choose f bank t a) (some-same p.turn_is q.turn_is (sym p.has_turn ∙ q.has_turn)) p.acts)
      q.acts
  leads_once bank (Falls step cell) a b p q =
      falls_once bank q.turn_is cell a b (subst (λ (t : Turn). FallsBy setup choose f bank t cell a)
      (some-same p.turn_is q.turn_is (sym p.has_turn ∙ q.has_turn)) p.falls) q.falls

  pub runs_once : (bank : Bank) (moves : List Move) (a b : Bank) → IsRun setup choose f bank moves a → IsRun setup choose f bank moves b → a ≡ b
  runs_once bank [] a b p q = p ∙ sym q
  runs_once bank (move ∷ moves) a b p q =
      runs_once q.0 moves a b (subst (λ (next : Bank). IsRun setup choose f next moves a) (leads_once bank move p.0 q.0 p.1 q.1) p.2) q.2

-- Any two right choices lead to one bank: each site is one of a legal list, where they lead to the same step.
module _ (setup : Setup) (few : length setup.members ≤ 64) (f : ℕ) (cells : List Boot) (choose other : Choice Cmd) (right : IsRight f choose)
    (too : IsRight f other) where
  abbrev alone : (moves : List Move) (bank : Bank) → Holds setup choose f cells moves bank → worlds.LegalList Cmd Answer PaymentOrder f
  alone moves bank h = record { choose = choose; right = right; cells = cells; events = h.events; world = h.world; legal = h.alone }

  same_step : (moves : List Move) (bank : Bank) (h : Holds setup choose f cells moves bank) (i : ℕ) (event : EventOf Cmd Answer PaymentOrder) (x : Site Cmd)
      → slice_get bank.sites i ≡ Some x
      → site_step {R = Answer} {O = PaymentOrder} choose f i x event ≡ site_step other f i x event
  same_step moves bank h i event x at =
      one_step f (alone moves bank h) other too i x (subst (λ (l : List (Site Cmd)). Contains l x) (sym h.sites) (there bank.sites i x at)) event

  acts_too : (moves : List Move) (bank : Bank) (h : Holds setup choose f cells moves bank) (t : Turn) (after : Bank) → Acts setup choose f bank t after
      → Acts setup other f bank t after
  acts_too moves bank h (OfSite i event) after a =
      let same = same_step moves bank h i event a.before a.is_there in
      record {
        before = a.before;
        is_there = a.is_there;
        allowed = ap (λ (s : site.Step Cmd Answer PaymentOrder). is_refused s.ending) (sym same) ∙ a.allowed;
        leads = a.leads ∙ ap (λ (s : site.Step Cmd Answer PaymentOrder). with_site bank i s.site (envelopes book (opening setup) i s)) same;
      }
  acts_too moves bank h (OfNode c event) after a = record { before = a.before; is_there = a.is_there; allowed = a.allowed; leads = a.leads }
  acts_too moves bank h (OfClient k event) after a = record { before = a.before; is_there = a.is_there; allowed = a.allowed; leads = a.leads }

  falls_too : (moves : List Move) (bank : Bank) (h : Holds setup choose f cells moves bank) (t : Turn) (cell : Boot) (after : Bank)
      → FallsBy setup choose f bank t cell after → FallsBy setup other f bank t cell after
  falls_too moves bank h (OfSite i event) cell after a = record {
    before = a.before;
    is_there = a.is_there;
    falls = subst (λ (s : site.Step Cmd Answer PaymentOrder). IsFall a.before s (over cell Down)) (same_step moves bank h i event a.before a.is_there) a.falls;
    leads = a.leads;
  }
  falls_too moves bank h (OfNode c event) cell after a = a
  falls_too moves bank h (OfClient k event) cell after a = a

  leads_too : (moves : List Move) (bank : Bank) (h : Holds setup choose f cells moves bank) (move : Move) (after : Bank) → Leads setup choose f bank move after
      → Leads setup other f bank move after
  leads_too moves bank h (Takes step) after l = record { turn_is = l.turn_is; has_turn = l.has_turn; acts = acts_too moves bank h l.turn_is after l.acts }
  leads_too moves bank h (Falls step cell) after l =
      record { turn_is = l.turn_is; has_turn = l.has_turn; falls = falls_too moves bank h l.turn_is cell after l.falls }

  runs_too : (moves : List Move) (bank : Bank) (h : Holds setup choose f cells moves bank) (more : List Move) (after : Bank)
      → IsRun setup choose f bank more after → IsRun setup other f bank more after
  runs_too moves bank h [] after run = run
  runs_too moves bank h (move ∷ more) after run = (
    run.0,
    leads_too moves bank h move run.0 run.1,
    runs_too (moves ++ move ∷ []) run.0
        (move-keeps setup few choose f right cells moves bank h move run.0 run.1).holds more after run.2,
  )

pub banks_once : (setup : Setup) (f : ℕ) (a b : LegalList setup f) → a.cells ≡ b.cells → a.moves ≡ b.moves → a.bank ≡ b.bank
banks_once setup f a b cells moves =
    let few = (valid-members setup a.valid).1 in
    let run =
    runs_too setup few f a.cells a.choose b.choose a.right b.right [] (opening_bank setup f a.cells)
    (opening-holds setup a.choose f a.cells a.legal.all) a.moves a.bank a.legal.run in
    runs_once setup b.choose f (opening_bank setup f b.cells) b.moves a.bank b.bank
    (subst (λ (cs : List Boot). IsRun setup b.choose f (opening_bank setup f cs) b.moves a.bank) cells
    (subst (λ (ms : List Move). IsRun setup b.choose f (opening_bank setup f a.cells) ms a.bank) moves run)) b.legal.run
