-- A legal list, computed: a member pays in, asks for a payment, and the node makes it.
use Rattle.std.proofs.Common.{◌≡◌, ℕ, Bool, true, false, if◌then◌else◌, IsTrue, ◌↔◌, List, [], ◌∷◌, ◌++◌, map, length, slice_get, Option, Some, None, codes, refl, sym, arith, ℤ, pos, ◌-ℤ◌}
use Rattle.std.specs.List.{range_with_len}
use Rattle.pvp_types.specs.declared.setup.Setup.{Setup}
use Rattle.pvp_types.specs.declared.setup.Member.{Member}
use Rattle.pvp_types.specs.declared.command.Cmd.{Cmd}
use Rattle.pvp_types.specs.declared.command.Cmd.TheVariants.{PayOut, Fund, Returned}
use Rattle.pvp_types.specs.declared.command.Reply.{Reply as Answer}
use Rattle.pvp_types.specs.declared.command.PayOrder.{PayOrder as PaymentOrder}
use Rattle.pvp_types.specs.declared.step.Step.{Step}
use Rattle.pvp_types.specs.declared.step.Step.TheVariants.{Deliver as Delivers, PayIn as PaysIn, Close as Closes, Submit as Submits, Beat as Beats}
use Rattle.pvp_types.specs.Setup.{IsValid, meets}
use Rattle.vr_types.specs.declared.cell.Boot.{Boot}
use Rattle.vr_types.specs.declared.event.EventOf.{EventOf}
use Rattle.vr_types.specs.Site.{Site}
use Rattle.vr_types.specs.Choice.{Choice}
use Rattle.vr_types.specs.Step as site
use Rattle.vr_types.specs.Normal.{on_request, on_prepare, on_prepare_ok, on_commit, beats_normal}
use Rattle.vr_types.specs.Handling.{site_step, is_refused, envelopes}
use Rattle.vr_types.proofs.Choosing.{choice_of}
use Rattle.vr_types.proofs.ChoosingRight.{choice_of-right}
use Rattle.pvp_book.specs.Settlement.{both_pass, pass, taken_by, settled_after, settled_pairs}
use Rattle.pvp_book.specs.Ledger.{opening, figure}
use Rattle.pvp_book.specs.Answer.{answer}
use Rattle.headline.specs.Machine.{book}
use Rattle.rtgs_node.specs.declared.event.NodeEvent.{NodeEvent}
use Rattle.rtgs_node.specs.Node.{Node, account, node_step, opening_node}
use Rattle.pvp_book.specs.declared.entry.Entry.{Entry}
use Rattle.pvp_types.specs.declared.command.Reply.TheVariants.{Done, Order}
use Rattle.headline.specs.Way.{way}
use Rattle.headline.specs.declared.step.ClientEvent.{ClientEvent}
use Rattle.headline.specs.Client.{Client, client_step}
use Rattle.headline.specs.declared.step.Move.TheVariants.{Takes}
use Rattle.headline.specs.declared.step.Turn.{Turn}
use Rattle.headline.specs.declared.step.Turn.TheVariants.{OfSite, OfNode, OfClient}
use Rattle.headline.specs.Bank.{Bank, opening_bank, turn, with_site, with_node, with_client}
use Rattle.headline.specs.Legal.{Acts, IsRun, LegalList}
use Rattle.headline.specs.Headline.{executed_book}
use Rattle.headline.proofs.Basics.{none-some, some-same}

-- A STEP, COMPUTED

module _ (setup : Setup) (choose : Choice Cmd) (f : ℕ) (bank : Bank) where
  if_none : {F : Type 0} → Option F → Bank → Option Bank
  if_none None after = Some after
  if_none (Some fault) after = None

  site_acts : ℕ → Option (Site Cmd) → (Site Cmd → site.Step Cmd Answer PaymentOrder) → Option Bank
  site_acts i None step = None
  site_acts i (Some x) step = if is_refused (step x).ending then None else Some (with_site bank i (step x).site (envelopes book (opening setup) i (step x)))

  node_acts : ℕ → NodeEvent → Option Node → Option Bank
  node_acts c event None = None
  node_acts c event (Some x) = let step = node_step setup f c x event in if_none step.fault (with_node bank c step.node step.sent)

  client_acts : ℕ → ClientEvent → Option Client → Option Bank
  client_acts k event None = None
  client_acts k event (Some x) = let step = client_step f k x event in if_none step.fault (with_client bank k step.client step.sent)

  acts : Turn → Option Bank
  acts (OfSite i event) = site_acts i (slice_get bank.sites i) (λ x. site_step choose f i x event)
  acts (OfNode c event) = node_acts c event (slice_get bank.nodes c)
  acts (OfClient k event) = client_acts k event (slice_get bank.clients k)

  steps : Option Turn → Option Bank
  steps None = None
  steps (Some t) = acts t

  none-is : {F : Type 0} (fault : Option F) (after b : Bank) → if_none fault b ≡ Some after → (fault ≡ None) × (after ≡ b)
  unfolding if_none
  none-is None after b is = (refl, sym (some-same b after is))
  none-is (Some fault) after b is = absurd (none-some after is)

  site-sound : (i : ℕ) (event : EventOf Cmd Answer PaymentOrder) (after : Bank) → acts (OfSite i event) ≡ Some after
      → Acts setup choose f bank (OfSite i event) after
  unfolding acts site_acts
  site-sound i event after is = by (slice_get bank.sites i) refl is
    where
      by_test : (x : Site Cmd) → slice_get bank.sites i ≡ Some x → (refused : Bool)
          → is_refused (site_step {R = Answer} {O = PaymentOrder} choose f i x event).ending ≡ refused
          → (if refused then None else Some (with_site bank i (site_step choose f i x event).site
          (envelopes book (opening setup) i (site_step choose f i x event)))) ≡ Some after
          → Acts setup choose f bank (OfSite i event) after
      by_test x at true e is = absurd (none-some after is)
      by_test x at false e is = record { before = x; is_there = at; allowed = e; leads = sym (some-same _ after is) }

      by : (found : Option (Site Cmd)) → slice_get bank.sites i ≡ found → site_acts i found (λ x. site_step choose f i x event) ≡ Some after
          → Acts setup choose f bank (OfSite i event) after
      by None at e = absurd (none-some after e)
      by (Some x) at e = by_test x at (is_refused (site_step {R = Answer} {O = PaymentOrder} choose f i x event).ending) refl e

  acts-sound : (t : Turn) (after : Bank) → acts t ≡ Some after → Acts setup choose f bank t after
  unfolding acts node_acts client_acts
  acts-sound (OfSite i event) after is = site-sound i event after is
  acts-sound (OfNode c event) after is = by (slice_get bank.nodes c) refl is
    where
      by : (found : Option Node) → slice_get bank.nodes c ≡ found → node_acts c event found ≡ Some after → Acts setup choose f bank (OfNode c event) after
      by None at e = absurd (none-some after e)
      by (Some x) at e = let t = none-is (node_step setup f c x event).fault after _ e in record { before = x; is_there = at; allowed = t.0; leads = t.1 }
  acts-sound (OfClient k event) after is = by (slice_get bank.clients k) refl is
    where
      by : (found : Option Client) → slice_get bank.clients k ≡ found → client_acts k event found ≡ Some after
          → Acts setup choose f bank (OfClient k event) after
      by None at e = absurd (none-some after e)
      by (Some x) at e = let t = none-is (client_step f k x event).fault after _ e in record { before = x; is_there = at; allowed = t.0; leads = t.1 }

module _ (setup : Setup) (choose : Choice Cmd) (f : ℕ) where
  plays : Option Bank → List Step → Option Bank
  plays None more = None
  plays (Some bank) [] = Some bank
  plays (Some bank) (s ∷ more) = plays (steps setup choose f bank (turn bank.post s)) more

  plays-sound : (bank : Bank) (more : List Step) (after : Bank) → plays (Some bank) more ≡ Some after
      → IsRun setup choose f bank (map (λ s. Takes s) more) after
  unfolding plays steps
  plays-sound bank [] after is = sym (some-same bank after is)
  plays-sound bank (s ∷ more) after is = by (turn bank.post s) refl is (λ next. plays-sound next more after)
    where
      by_next : (t : Turn) → turn bank.post s ≡ Some t → (found : Option Bank) → acts setup choose f bank t ≡ found → plays found more ≡ Some after
          → ((next : Bank) → plays (Some next) more ≡ Some after → IsRun setup choose f next (map (λ s. Takes s) more) after)
          → IsRun setup choose f bank (Takes s ∷ map (λ s. Takes s) more) after
      by_next t turns None e is rest = absurd (none-some after is)
      by_next t turns (Some next) e is rest = (next, record { turn_is = t; has_turn = turns; acts = acts-sound setup choose f bank t next e }, rest next is)

      by : (t : Option Turn) → turn bank.post s ≡ t → plays (steps setup choose f bank t) more ≡ Some after
          → ((next : Bank) → plays (Some next) more ≡ Some after → IsRun setup choose f next (map (λ s. Takes s) more) after)
          → IsRun setup choose f bank (Takes s ∷ map (λ s. Takes s) more) after
      by None turns is rest = absurd (none-some after is)
      by (Some t) turns is rest = by_next t turns (acts setup choose f bank t) refl is rest

-- A BANK of three currencies and two members

member : List ℕ → Member
member name = record { name = name; aggregate = 150000; short = 1000 ∷ 1000 ∷ 100000 ∷ []; deposit = 10000 ∷ 10000 ∷ 1000000 ∷ [] }

worked : Setup
unfolding member
worked = record {
  sites = 3;
  currencies = record { code = codes "EUR"; rate = 110; haircut = 500 }
      ∷ record { code = codes "USD"; rate = 100; haircut = 0 }
      ∷ record { code = codes "JPY"; rate = 1; haircut = 1000 } ∷ [];
  members = member (codes "ALFA") ∷ member (codes "BETA") ∷ [];
}

worked_is_valid : IsValid worked
unfolding worked member meets
worked_is_valid = refl

abbrev cell : Boot
cell = record { boots = 0 }

abbrev cells : List Boot
cells = cell ∷ cell ∷ cell ∷ []

abbrev deliver : ℕ → ℕ → List Step
deliver from count = map (λ n. Delivers n) (range_with_len from count)

-- ALFA pays in 1200 at the node of USD, all is delivered, and the primary's beat tells the backups; then ALFA asks for
-- 200, all of that is delivered, and the primary's beat orders the payment: envelope 21
abbrev first : List Step
first = PaysIn 1 1 1200 ∷ [] ++ deliver 1 8 ++ Beats 200 ∷ [] ++ deliver 9 2 ++ Submits 1 (PayOut 1 200) ∷ [] ++ deliver 11 8 ++ Beats 200 ∷ []

-- all is delivered, and the order once more
abbrev second : List Step
second = first ++ deliver 19 11 ++ Delivers 21 ∷ []

-- the same with ALFA's account at USD closed before it asks
abbrev closing : List Step
closing = PaysIn 1 1 1200 ∷ [] ++ deliver 1 8 ++ Beats 200 ∷ [] ++ deliver 9 2 ++ Closes 1 1 ∷ Submits 1 (PayOut 1 200) ∷ [] ++ deliver 11 8 ++ Beats 200 ∷ []

abbrev closed : List Step
closed = closing ++ deliver 19 11 ++ Delivers 21 ∷ Beats 200 ∷ [] ++ deliver 30 2

-- what is seen of USD: the account, the pay-outs done, how much was sent, and of each site the figure and the way
seen : Option Bank → List ℤ
seen None = []
seen (Some bank) = shown bank (slice_get bank.nodes 1)
  where
    shown : Bank → Option Node → List ℤ
    shown bank None = []
    shown bank (Some x) =
        account x ∷ pos (length x.pay_outs) ∷ pos (length bank.post) ∷ []
        ++ map (λ s. figure worked (executed_book worked s) 1) bank.sites ++ map (λ s. way 1 x (executed_book worked s)) bank.sites

module _ (same : Cmd → Cmd → Bool) (tells : (a b : Cmd) → IsTrue (same a b) ↔ (a ≡ b)) where
  abbrev choose : Choice Cmd
  choose = choice_of same 1

  abbrev played : List Step → Option Bank
  played moves = plays worked choose 1 (Some (opening_bank worked 1 cells)) moves

  after_first : seen (played first) ≡ pos 1200 ∷ pos 0 ∷ pos 21 ∷ pos 1000 ∷ pos 1200 ∷ pos 1200 ∷ pos 200 ∷ pos 0 ∷ pos 0 ∷ []
  unfolding seen plays steps acts site_acts node_acts client_acts if_none worked member on_request on_prepare on_prepare_ok on_commit beats_normal answer
      both_pass pass taken_by settled_after settled_pairs
  after_first = refl

  after_second : seen (played second) ≡ pos 1000 ∷ pos 1 ∷ pos 29 ∷ pos 1000 ∷ pos 1000 ∷ pos 1000 ∷ pos 0 ∷ pos 0 ∷ pos 0 ∷ []
  unfolding seen plays steps acts site_acts node_acts client_acts if_none worked member on_request on_prepare on_prepare_ok on_commit beats_normal answer
      both_pass pass taken_by settled_after settled_pairs
  after_second = refl

  -- ALFA's account is closed before the order comes: the node returns it, and the amount is ALFA's again in each book
  closed_first : seen (played closing) ≡ pos 1200 ∷ pos 0 ∷ pos 21 ∷ pos 1000 ∷ pos 1200 ∷ pos 1200 ∷ pos 200 ∷ pos 0 ∷ pos 0 ∷ []
  unfolding seen plays steps acts site_acts node_acts client_acts if_none worked member on_request on_prepare on_prepare_ok on_commit beats_normal answer
      both_pass pass taken_by settled_after settled_pairs
  closed_first = refl

  closed_second : seen (played closed) ≡ pos 1200 ∷ pos 0 ∷ pos 31 ∷ pos 1200 ∷ pos 1200 ∷ pos 1200 ∷ pos 0 ∷ pos 0 ∷ pos 0 ∷ []
  unfolding seen plays steps acts site_acts node_acts client_acts if_none worked member on_request on_prepare on_prepare_ok on_commit beats_normal answer
      both_pass pass taken_by settled_after settled_pairs
  closed_second = refl

  -- the headline speaks of it
  worked_list : (end : Bank) → played second ≡ Some end → LegalList worked 1
  worked_list end is = record {
    valid = worked_is_valid;
    choose = choose;
    right = choice_of-right 1 same (omega arith) tells;
    cells = cells;
    moves = map (λ s. Takes s) second;
    bank = end;
    legal = record { all = refl; run = plays-sound worked choose 1 (opening_bank worked 1 cells) second end is };
  }

-- THE WAY IS A SUM OF PAYMENTS, and not what account and figure differ by. That the two are equal is the headline's, of legal
-- lists; no such list has a book that was told of a pay-in which its node never took.

-- a pay-in of 5, and what its node says of it
abbrev untold : Node
untold = record opening_node { pay_ins = record { member = 1; amt = 5 } ∷ [] }

abbrev told : Entry
told = record { client = 101; cmd = Fund 0 1 1 5; reply = Done }

not_told_yet : way 0 untold [] ≡ pos 5
not_told_yet = refl

credited_there : way 0 untold (told ∷ []) ≡ pos 0
credited_there = refl

never_taken : way 0 opening_node (told ∷ []) ≡ pos 0
never_taken = refl

its_figure : figure worked (told ∷ []) 0 ≡ pos 5
unfolding worked settled_pairs settled_after taken_by
its_figure = refl

-- an order of 5, what its node says of it where it cannot pay, and a node that paid it
abbrev ordered : Entry
ordered = record { client = 1; cmd = PayOut 0 5; reply = Order 1 }

abbrev given_back : Entry
given_back = record { client = 101; cmd = Returned 0 1; reply = Done }

abbrev did : Node
did = record opening_node { pay_outs = record { ccy = 0; out = 1; member = 1; amt = 5 } ∷ [] }

not_done_yet : way 0 opening_node (ordered ∷ []) ≡ pos 5
not_done_yet = refl

done_there : way 0 did (ordered ∷ []) ≡ pos 0
done_there = refl

not_ordered_yet : way 0 did [] ≡ pos 0 -ℤ pos 5
not_ordered_yet = refl

returned_there : way 0 opening_node (ordered ∷ given_back ∷ []) ≡ pos 0
returned_there = refl

done_and_returned : way 0 did (ordered ∷ given_back ∷ []) ≡ pos 0
done_and_returned = refl
