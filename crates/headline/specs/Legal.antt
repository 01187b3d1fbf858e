-- Which lists of moves are legal, and where they lead.
use Rattle.std.specs.Prelude.{◌≡◌, ℕ, ◌+◌, ◌*◌, false, List, [], ◌∷◌, ◌++◌, length, slice_get, slice_set, Some, None}
use Rattle.pvp_types.specs.declared.setup.Setup.{Setup}
use Rattle.pvp_types.specs.declared.command.Cmd.{Cmd}
use Rattle.pvp_types.specs.declared.command.Reply.{Reply as Answer}
use Rattle.pvp_types.specs.declared.command.PayOrder.{PayOrder as PaymentOrder}
use Rattle.pvp_types.specs.declared.step.Step.{Step}
use Rattle.pvp_types.specs.Setup.{IsValid}
use Rattle.vr_types.specs.declared.cell.Boot.{Boot}
use Rattle.vr_types.specs.declared.event.EventOf.{EventOf}
use Rattle.vr_types.specs.declared.event.Status.TheVariants.{Down}
use Rattle.vr_types.specs.Site.{Site, over}
use Rattle.vr_types.specs.Choice.{Choice, IsRight}
use Rattle.vr_types.specs.Handling.{site_step, is_refused, IsFall, envelopes}
use Rattle.pvp_book.specs.Ledger.{opening}
use Rattle.headline.specs.Machine.{book}
use Rattle.rtgs_node.specs.declared.event.NodeEvent.{NodeEvent}
use Rattle.rtgs_node.specs.Node.{Node, node_step}
use Rattle.headline.specs.declared.step.ClientEvent.{ClientEvent}
use Rattle.headline.specs.Client.{Client, client_step}
use Rattle.headline.specs.declared.step.Move.{Move}
use Rattle.headline.specs.declared.step.Move.TheVariants.{Takes, Falls}
use Rattle.headline.specs.declared.step.Turn.{Turn}
use Rattle.headline.specs.declared.step.Turn.TheVariants.{OfSite, OfNode, OfClient}
use Rattle.headline.specs.Bank.{Bank, opening_bank, turn, with_site, with_node, with_client}

module _ (setup : Setup) (choose : Choice Cmd) (f : ℕ) where
  -- a site takes a step that it does not refuse
  pub record SiteActs (bank : Bank) (i : ℕ) (event : EventOf Cmd Answer PaymentOrder) (after : Bank) : Type 0 where
    pub before : Site Cmd
    pub is_there : slice_get bank.sites i ≡ Some before
    pub allowed : is_refused (site_step {R = Answer} {O = PaymentOrder} choose f i before event).ending ≡ false
    pub leads : let step = site_step choose f i before event in
        after ≡ with_site bank i step.site (envelopes book (opening setup) i step)

  -- a node takes a step that it does not refuse
  pub record NodeActs (bank : Bank) (c : ℕ) (event : NodeEvent) (after : Bank) : Type 0 where
    pub before : Node
    pub is_there : slice_get bank.nodes c ≡ Some before
    pub allowed : (node_step setup f c before event).fault ≡ None
    pub leads : let step = node_step setup f c before event in after ≡ with_node bank c step.node step.sent

  -- a client takes a step that it does not refuse
  pub record ClientActs (bank : Bank) (k : ℕ) (event : ClientEvent) (after : Bank) : Type 0 where
    pub before : Client
    pub is_there : slice_get bank.clients k ≡ Some before
    pub allowed : (client_step f k before event).fault ≡ None
    pub leads : let step = client_step f k before event in after ≡ with_client bank k step.client step.sent

  -- a site falls in place of a step that it does not refuse, over a cell of this value
  pub record SiteFalls (bank : Bank) (i : ℕ) (event : EventOf Cmd Answer PaymentOrder) (cell : Boot) (after : Bank)
      : Type 0 where
    pub before : Site Cmd
    pub is_there : slice_get bank.sites i ≡ Some before
    pub falls : IsFall before (site_step {R = Answer} {O = PaymentOrder} choose f i before event) (over cell Down)
    pub leads : after ≡ record bank { sites = slice_set bank.sites i (over cell Down) }

  -- an actor takes its turn
  abbrev pub Acts : Bank → Turn → Bank → Type 0
  Acts bank (OfSite i event) after = SiteActs bank i event after
  Acts bank (OfNode c event) after = NodeActs bank c event after
  Acts bank (OfClient k event) after = ClientActs bank k event after

  -- only sites fall
  abbrev pub FallsBy : Bank → Turn → Boot → Bank → Type 0
  FallsBy bank (OfSite i event) cell after = SiteFalls bank i event cell after
  FallsBy bank (OfNode c event) cell after = ⊥
  FallsBy bank (OfClient k event) cell after = ⊥

  -- a move is allowed here, and leads there
  pub record Steps (bank : Bank) (step : Step) (after : Bank) : Type 0 where
    pub turn_is : Turn
    pub has_turn : turn bank.post step ≡ Some turn_is
    pub acts : Acts bank turn_is after

  pub record Fails (bank : Bank) (step : Step) (cell : Boot) (after : Bank) : Type 0 where
    pub turn_is : Turn
    pub has_turn : turn bank.post step ≡ Some turn_is
    pub falls : FallsBy bank turn_is cell after

  abbrev pub Leads : Bank → Move → Bank → Type 0
  Leads bank (Takes step) after = Steps bank step after
  Leads bank (Falls step cell) after = Fails bank step cell after

  -- a list of moves leads from a bank to another
  abbrev pub IsRun : Bank → List Move → Bank → Type 0
  IsRun bank [] after = after ≡ bank
  IsRun bank (move ∷ moves) after = (next : Bank) × Leads bank move next × IsRun next moves after

  -- a list of moves is legal from the opening over these cells of 2f+1 sites, and leads to this bank
  pub record IsLegal (cells : List Boot) (moves : List Move) (bank : Bank) : Type 0 where
    pub all : length cells ≡ 2 * f + 1
    pub run : IsRun (opening_bank setup f cells) moves bank

  -- a moment of a legal list: some of its first moves lead to this bank, and from there the others go on
  pub record Moment (cells : List Boot) (moves : List Move) (bank : Bank) : Type 0 where
    pub before : List Move
    pub after : List Move
    pub parts : before ++ after ≡ moves
    pub then : Bank
    pub legal : IsLegal cells before then
    pub rest : IsRun then after bank

-- WHAT THE HEADLINE SPEAKS OF: any legal list, over a setup that breaks no rule, from cells of any value, where the
-- choices that the sites' steps take as given are right; and the bank that it leads to.
pub record LegalList (setup : Setup) (f : ℕ) : Type 0 where
  pub valid : IsValid setup
  pub choose : Choice Cmd
  pub right : IsRight f choose
  pub cells : List Boot
  pub moves : List Move
  pub bank : Bank
  pub legal : IsLegal setup choose f cells moves bank

-- any continuation of a legal list, and the bank that it leads to
pub record Continued {setup : Setup} {f : ℕ} (list : LegalList setup f) : Type 0 where
  pub moves : List Move
  pub bank : Bank
  pub run : IsRun setup list.choose f list.bank moves bank

-- a moment of a legal list
abbrev pub MomentOf : {setup : Setup} {f : ℕ} → LegalList setup f → Type 0
MomentOf {setup} {f} list = Moment setup list.choose f list.cells list.moves list.bank

abbrev pub MomentUpTo : {setup : Setup} {f : ℕ} (early : LegalList setup f) → Continued early → Type 0
MomentUpTo {setup} {f} early late = Moment setup early.choose f early.cells (early.moves ++ late.moves) late.bank
