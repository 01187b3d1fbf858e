-- What a book keeps beside its entries stays what the entries say.
use Rattle.std.proofs.Common.{◌≡◌, ℕ, suc, zero, ◌+◌, ◌<◌, Bool, true, false, List, [], ◌∷◌, ◌++◌, ◌*◌, ◌≤◌, length, map, filter, count_by, arith, refl, ap, sym, subst, ◌∙◌, Option, Some, None, add-one, ℤ, pos, ◌+ℤ◌, ◌-ℤ◌, replicate, slice_get, slice_index_or, ◌⊎◌, inl, inr}
use Rattle.std.specs.Prelude.{not, if◌then◌else◌, ◌&&◌, ◌||◌, ◌==◌}
use Rattle.std.specs.List.{cons_option, AllByRecursion}
use Rattle.std.proofs.lemmas.Int.{ints}
use Rattle.std.proofs.lemmas.Bool.{ltb-true, eqb-true}
use Rattle.std.proofs.lemmas.List.{get_or-replicate, length-replicate}
use Rattle.std.proofs.lemmas.List.Elements.{filter_map-append}
use Rattle.pvp_types.specs.declared.setup.Setup.{Setup}
use Rattle.pvp_types.specs.declared.command.Instruction.{Instruction}
use Rattle.pvp_types.specs.declared.command.Cmd.{Cmd}
use Rattle.pvp_types.specs.declared.command.Cmd.TheVariants.{Instruct, Settle, PayOut, Paid, Returned}
use Rattle.pvp_types.specs.declared.command.Reply.{Reply}
use Rattle.pvp_types.specs.declared.command.Reply.TheVariants.{Done, Matched, Settled, Order, No}
use Rattle.pvp_types.specs.declared.command.Reason.TheVariants.{NotYours, UnknownMember, UnknownCurrency, BadAmount, UnknownReference, Repeated, Mismatch}
use Rattle.pvp_types.specs.Setup.{IsValid}
use Rattle.pvp_book.specs.declared.entry.Entry.{Entry}
use Rattle.pvp_book.specs.declared.pair.Pair.{Pair}
use Rattle.pvp_book.specs.declared.pair.PairState.TheVariants.{Unmatched}
use Rattle.pvp_book.specs.Pairs.{opened_by, pairs, matched_by, matched_pairs, pair_of, has_reference}
use Rattle.pvp_book.specs.Settlement.{candidates, pass, taken_by, settled_after, settled_pairs}
use Rattle.pvp_types.specs.declared.command.PayOrder.{PayOrder}
use Rattle.pvp_types.proofs.SetupLemmas.{valid-currencies, valid-members}
use Rattle.pvp_book.specs.declared.account.Account.{Account}
use Rattle.pvp_book.specs.declared.account.Movement.{Movement}
use Rattle.pvp_book.specs.Orders.{orders, has_end}
use Rattle.pvp_book.specs.Accounts.{balance_with}
use Rattle.pvp_book.specs.Laws.{AreOrdered, IsCovered}
use Rattle.pvp_book.specs.Ledger.{Ledger, opening, queue, balance, figure, sum_of_balances, state_of, is_state, is_pay_in, has_pay_in}
use Rattle.pvp_book.specs.Bounds.{IsLedger, total, most_total, IsWithin}
use Rattle.pvp_book.specs.Kept.{Kept, KeepsLedger, IsLine, CanPost, empty_account, no_account, IsAccount, AreAccounts, AreFigures, movement_with, movement_by, moved_to, accounts_after, figures_after}
use Rattle.pvp_book.specs.PayIns.{ArePaidIn}
use Rattle.pvp_book.specs.declared.pay_ins.PayIns.{PayIns}
use Rattle.pvp_book.specs.Answer.{Row, end_checks, book_of, has_member, answer, answer_to, after, with_entry, is_walk, is_refusal, is_mirror, on_mirror, on_instruct, is_member_number, has_currency, is_amount}
use Rattle.pvp_book.proofs.SettlementLemmas.{append-nil, settled-push, IsWithinMatched-nil}
use Rattle.pvp_book.proofs.LedgerLemmas.{total-small, pairs-few, IsSmall-ledger, IsLedger-accepted, sum_of_balances-more}
use Rattle.pvp_book.proofs.Checks.{passed, is-so}
use Rattle.pvp_book.proofs.Reached.{entry_of, reached, reached-more}
use Rattle.pvp_book.proofs.OrderLemmas.{are-ordered, pay_out-order}
use Rattle.pvp_book.proofs.FigureLemmas.{orders-of-members, is-covered}
use Rattle.pvp_book.proofs.Members.{is-member}
use Rattle.pvp_book.proofs.KeptLemmas.{small-account, small-sum, AreAccounts-same, AreAccounts-moved, AreFigures-moved, IsAccount-empty}
use Rattle.pvp_book.proofs.WalkLemmas.{IsWalked-start, IsWalked-all}
use Rattle.pvp_book.proofs.WalkingLemmas.{IsTradable, IsOffered, IsWalking, IsUnderWay, offered-tradable}
use Rattle.pvp_book.proofs.CandidateLemmas.{line-of-candidates, line-more}
use Rattle.pvp_book.specs.declared.order_table.OrderTable.{OrderTable}
use Rattle.pvp_book.specs.OrderTable.{order_at, open_at, step_of, AreAscending, IsNext, AreMade}
use Rattle.std.proofs.lemmas.List.Kept.{AllPairs-filter}
use Rattle.pvp_book.proofs.OrderTableLemmas.{AreMade-still, order-kept}
use Rattle.pvp_book.specs.declared.tally.Tally.{Tally}
use Rattle.pvp_book.specs.declared.pair.PairState.{PairState}
use Rattle.pvp_book.specs.Tally.{kept_count, is_at}
use Rattle.std.specs.Option.{option_map}
use Rattle.std.proofs.lemmas.List.Folds.{list_any-append}
use Rattle.pvp_book.specs.declared.kept_pair.KeptPair.{KeptPair}
use Rattle.pvp_book.specs.KeptPair.{pair_with, kept_pair, by_reference, just_opened, state_kept, named_by, pair_noted, pair_in, pair_put, is_waiting}
use Rattle.pvp_book.proofs.PassLemmas.{AreDistinct, distinct-once}
use Rattle.pvp_book.proofs.Counts.{count-push, or-false}
use Rattle.pvp_book.proofs.TallyLemmas.{counted_in, counted-kept, found-counted, tally-put}
use Rattle.pvp_book.proofs.RecordLemmas.{at_named, kept-other, not-found, IsPut, noted-put, found-kept, waiting-kept, none-noted}
use Rattle.pvp_book.proofs.SoundLemmas.{sound}
use Rattle.pvp_book.proofs.FreshLemmas.{new-kept}
use Rattle.pvp_book.proofs.MovementLemmas.{numbered-ascend, walk-moves-none, balance-moved, known-movement, sum-moved, sum-still}

-- with no entries each balance is 0
none-held : (n c : ℕ) → sum_of_balances n [] [] c ≡ pos 0
none-held zero c = refl
none-held (suc n) c = ap (λ k. sum_of_balances k [] [] c) (sym (add-one n)) ∙ sum_of_balances-more [] [] n c ∙ ap (λ z. z +ℤ pos 0) (none-held n c)

empty-accounts : (n m : ℕ) → slice_index_or (replicate n empty_account) m no_account ≡ empty_account
    ⊎ slice_index_or (replicate n empty_account) m no_account ≡ no_account
empty-accounts zero m = inr refl
empty-accounts (suc n) zero = inl refl
empty-accounts (suc n) (suc m) = empty-accounts n m

zeros : (n c : ℕ) → slice_index_or (replicate n (pos 0)) c (pos 0) ≡ pos 0
zeros zero c = refl
zeros (suc n) zero = refl
zeros (suc n) (suc c) = zeros n c

pub KeepsLedger-opening : (setup : Setup) (paid : PayIns) (table : OrderTable) (tally : Tally) → IsValid setup → ArePaidIn [] paid → AreMade [] table
    → ((s : PairState) → kept_count tally s ≡ 0)
    → KeepsLedger (opening setup) (record {
      pairs = [];
      line = [];
      members = replicate (length setup.members + 1) empty_account;
      totals = replicate 8 (pos 0);
      paid = paid;
      table = table;
      tally = tally;
    })
unfolding settled_pairs settled_after
KeepsLedger-opening setup paid table tally valid paid_in made none = record {
  ledger = record { valid = valid; few = omega arith; small = omega arith; fewer = omega arith; within = IsWithinMatched-nil };
  history = [];
  reached = refl;
  accounts = record {
    places = length-replicate (length setup.members + 1) empty_account;
    each = λ m within.
        subst (IsAccount setup.currencies)
        (sym (get_or-replicate (length setup.members + 1) m empty_account no_account
        (subst (λ l. m < l) (length-replicate (length setup.members + 1) empty_account) within)))
        (IsAccount-empty setup.currencies);
    same = λ m c. by c (slice_index_or (replicate (length setup.members + 1) empty_account) m no_account) (empty-accounts (length setup.members + 1) m);
  };
  figures = record { places = refl; same = λ c. zeros 8 c ∙ sym (none-held (length setup.members) c) };
  pay_ins = paid_in;
  orders = made;
  states = none;
  line = record { waits = refl; known = tt };
  pairs = refl;
}
  where
    by : (c : ℕ) (account : Account) → (account ≡ empty_account) ⊎ (account ≡ no_account) → slice_index_or account.balances c (pos 0) ≡ pos 0
    by c account (inl same) = ap (λ (a : Account). slice_index_or a.balances c (pos 0)) same ∙ zeros 8 c
    by c account (inr same) = ap (λ (a : Account). slice_index_or a.balances c (pos 0)) same

-- an instruction that is answered Done names a reference that has no pair
done-new : (setup : Setup) (entries : List Entry) (client : ℕ) (asked : Instruction)
    → Done ≡ on_instruct setup entries client asked → pair_of entries asked.reference ≡ None
done-new setup entries client asked e =
    by (is_member_number client) (has_member setup client && (has_member setup asked.other && not (asked.other == client)))
    (has_currency setup asked.sell && (has_currency setup asked.buy && not (asked.sell == asked.buy)))
    (is_amount asked.sell_amt && is_amount asked.buy_amt) (asked.reference == 0)
    (pair_of entries asked.reference) e
  where
    mirror : (pair : Option Pair) → Done ≡ on_mirror setup entries client pair asked → pair ≡ None
    mirror None e = refl
    mirror (Some p) e =
        cases ((client == p.first) || not (is_state (state_of setup entries p) Unmatched)) (is_mirror p client asked) e
      where
        cases : (a b : Bool) → Done ≡ (if a then No Repeated else if not b then No Mismatch else Matched) → Some p ≡ None
        cases true b e = absurd (cc e)
        cases false true e = absurd (cc e)
        cases false false e = absurd (cc e)

    by : (yours member currency small none : Bool) (pair : Option Pair)
        → Done ≡ (if not yours then No NotYours else if not member then No UnknownMember else if not currency then No UnknownCurrency
        else if not small then No BadAmount else if none then No UnknownReference else on_mirror setup entries client pair asked)
        → pair ≡ None
    by true true true true false pair e = mirror pair e
    by _ _ _ _ _ pair e = absurd (cc e)

-- so an entry opens a pair of a new reference
pub opened-new : (setup : Setup) (entries : List Entry) (client : ℕ) (cmd : Cmd) (reply : Reply) (p : Pair)
    → opened_by client cmd reply ≡ Some p → reply ≡ answer setup entries client cmd → pair_of entries p.reference ≡ None
unfolding answer
opened-new setup entries client (Instruct asked) Done p opened answered =
    let same : asked.reference ≡ p.reference = cc in
    subst (λ r. pair_of entries r ≡ None) same (done-new setup entries client asked answered)
opened-new setup entries client _ _ p opened answered = absurd (cc opened)

-- an accepted command that is no walk settles nothing
settles-none : (setup : Setup) (entries : List Entry) (done : List Pair) (client : ℕ) (cmd : Cmd)
    → is_walk client cmd ≡ false → is_refusal (answer setup entries client cmd) ≡ false → taken_by setup entries done cmd ≡ []
unfolding answer taken_by
settles-none setup entries done client (Settle most) other accepted = by (client == 0) other accepted
  where
    by : (b : Bool) → b ≡ false
        → is_refusal (if not b then No NotYours
        else Settled (length (pass setup entries (settled_pairs setup entries) most (candidates entries (settled_pairs setup entries))))) ≡ false
        → pass setup entries done most (candidates entries done) ≡ []
    by true other accepted = absurd (cc other)
    by false other accepted = absurd (cc accepted)
settles-none setup entries done client _ h accepted = refl

-- what a history's book has
pub record IsReached (setup : Setup) (entries : List Entry) : Type 0 where
  pub ordered : (c : ℕ) → AreOrdered entries c
  pub members : (c : ℕ) → AllByRecursion (λ (o : PayOrder). has_member setup o.member ≡ true) (orders entries c)

pub is-reached : (setup : Setup) (entries : List Entry) (history : List Row) → entries ≡ book_of setup history → IsReached setup entries
is-reached setup entries history same =
    subst (IsReached setup) (sym same) (record { ordered = λ c. are-ordered setup c history; members = λ c. orders-of-members setup history c })

-- the history with one command more
more-reached : (setup : Setup) (entries : List Entry) (history : List Row) (client : ℕ) (cmd : Cmd) → entries ≡ book_of setup history
    → is_refusal (answer setup entries client cmd) ≡ false
    → entries ++ entry_of setup entries client cmd ∷ [] ≡ book_of setup (history ++ record { client = client; number = 0; cmd = cmd } ∷ [])
more-reached setup entries history client cmd same accepted =
    ap (λ b. if b then entries else entries ++ entry_of setup entries client cmd ∷ []) (sym accepted)
    ∙ ap (λ es. with_entry es client cmd (answer setup es client cmd)) same ∙ sym
    (reached-more setup history (record { client = client; number = 0; cmd = cmd }))

-- what is kept of members and currencies once an entry is posted
module _ (held : Ledger) (client : ℕ) (cmd : Cmd) (members : List Account) (totals : List ℤ) (reached : IsReached held.setup held.entries)
    (valid : IsValid held.setup)
    (accepted : is_refusal (answer held.setup held.entries client cmd) ≡ false)
    (later : settled_pairs held.setup (held.entries ++ entry_of held.setup held.entries client cmd ∷ []) ≡ settled_pairs held.setup held.entries) where
  moved : (m c : ℕ)
      → balance held.setup (held.entries ++ entry_of held.setup held.entries client cmd ∷ []) m c
      ≡ balance held.setup held.entries m c +ℤ moved_to m c (movement_by held.entries client cmd)
  moved m c =
      ap (λ done. balance_with (held.entries ++ entry_of held.setup held.entries client cmd ∷ []) done m c) later
      ∙ balance-moved held.setup held.entries (settled_pairs held.setup held.entries) client cmd accepted reached.ordered m c

  pub kept-accounts : AreAccounts held.setup.currencies (length held.setup.members) (balance held.setup held.entries) members
      → AreAccounts held.setup.currencies (length held.setup.members) (balance held.setup (held.entries ++ entry_of held.setup held.entries client cmd ∷ []))
      (accounts_after held.setup.currencies (movement_by held.entries client cmd) members)
  kept-accounts are = by (movement_by held.entries client cmd) refl
    where
      by : (x : Option Movement) → movement_by held.entries client cmd ≡ x
          → AreAccounts held.setup.currencies (length held.setup.members)
          (balance held.setup (held.entries ++ entry_of held.setup held.entries client cmd ∷ [])) (accounts_after held.setup.currencies x members)
      by None is =
          AreAccounts-same held.setup.currencies (length held.setup.members) (balance held.setup held.entries)
          (balance held.setup (held.entries ++ entry_of held.setup held.entries client cmd ∷ [])) members
          (λ m c. zero-added (balance held.setup held.entries m c) ∙ ap (λ x. balance held.setup held.entries m c +ℤ moved_to m c x) (sym is) ∙ sym (moved m c))
          are
        where
          zero-added : (b : ℤ) → b ≡ b +ℤ pos 0
          zero-added b = omega (arith, ints)
      by (Some x) is =
          let known = known-movement held.setup held.entries client cmd x accepted reached.members is in
          let member = is-member held.setup x.member known.member in
          let places = are.places in
          let high = member.1 in
          let currency = ltb-true x.ccy (length held.setup.currencies) known.currency in
          let few = (valid-currencies held.setup valid).1 in
          AreAccounts-same held.setup.currencies (length held.setup.members) (λ m c. balance held.setup held.entries m c +ℤ moved_to m c (Some x))
          (balance held.setup (held.entries ++ entry_of held.setup held.entries client cmd ∷ [])) (accounts_after held.setup.currencies (Some x) members)
          (λ m c. ap (λ o. balance held.setup held.entries m c +ℤ moved_to m c o) (sym is) ∙ sym (moved m c))
          (AreAccounts-moved held.setup.currencies (length held.setup.members) (balance held.setup held.entries) members x are (omega arith) (omega arith))

  pub kept-figures : AreFigures (figure held.setup held.entries) totals
      → AreFigures (figure held.setup (held.entries ++ entry_of held.setup held.entries client cmd ∷ []))
      (figures_after (movement_by held.entries client cmd) totals)
  kept-figures are = by (movement_by held.entries client cmd) refl
    where
      by : (x : Option Movement) → movement_by held.entries client cmd ≡ x
          → AreFigures (figure held.setup (held.entries ++ entry_of held.setup held.entries client cmd ∷ [])) (figures_after x totals)
      by None is = record {
        places = are.places;
        same =
            λ c. are.same c ∙ sym (sum-still (held.entries ++ entry_of held.setup held.entries client cmd ∷ []) held.entries
            (settled_pairs held.setup (held.entries ++ entry_of held.setup held.entries client cmd ∷ []))
            (settled_pairs held.setup held.entries) (movement_by held.entries client cmd) c (λ m. moved m c) (length held.setup.members) is);
      }
      by (Some x) is =
          let known = known-movement held.setup held.entries client cmd x accepted reached.members is in
          let member = is-member held.setup x.member known.member in
          let currency = ltb-true x.ccy (length held.setup.currencies) known.currency in
          let few = (valid-currencies held.setup valid).1 in
          let next = AreFigures-moved (figure held.setup held.entries) totals x are (omega arith) in
          record {
            places = next.places;
            same =
                λ c.
                next.same c ∙ sym
                ((sum-moved (held.entries ++ entry_of held.setup held.entries client cmd ∷ []) held.entries
                (settled_pairs held.setup (held.entries ++ entry_of held.setup held.entries client cmd ∷ []))
                (settled_pairs held.setup held.entries) (movement_by held.entries client cmd) c (λ m. moved m c) (length held.setup.members) x is member.0).1
                member.1);
          }

-- what an entry moves can be posted
pub can-post : (held : Ledger) (client : ℕ) (cmd : Cmd) (kept : Kept) (x : Movement) → KeepsLedger held kept
    → is_refusal (answer held.setup held.entries client cmd) ≡ false → movement_by held.entries client cmd ≡ Some x → IsWithin most_total x.amt
    → CanPost held.setup kept.members kept.totals x
can-post held client cmd kept x is accepted moves amount =
    let reached = is-reached held.setup held.entries is.history is.reached in
    let known = known-movement held.setup held.entries client cmd x accepted reached.members moves in
    let member = is-member held.setup x.member known.member in
    let high = member.1 in
    let places = is.accounts.places in
    let small = IsSmall-ledger held is.ledger in
    let within : x.member < length kept.members = omega arith in
    let few = (valid-members held.setup is.ledger.valid).1 in
    record {
      member = within;
      currency = ltb-true x.ccy (length held.setup.currencies) known.currency;
      account = is.accounts.each x.member within;
      small =
          small-account held.entries (settled_pairs held.setup held.entries) held.setup.currencies
          (length held.setup.members) kept.members small is.accounts x.member;
      amount = amount;
      places = is.figures.places;
      figure = subst (IsWithin (64 * most_total)) (sym (is.figures.same x.ccy))
          (wider (figure held.setup held.entries x.ccy) few
          (small-sum held.entries (settled_pairs held.setup held.entries) x.ccy small (length held.setup.members)));
    }
  where
    wider : (z : ℤ) → length held.setup.members ≤ 64 → IsWithin (length held.setup.members * most_total) z → IsWithin (64 * most_total) z
    wider z few small = let low = small.above in let high = small.below in record { above = omega (arith, ints); below = omega (arith, ints) }

-- no two pairs have one reference
pairs-once : (setup : Setup) (history : List Row) (r : ℕ) → count_by (λ (p : Pair). p.reference == r) (pairs (book_of setup history)) ≤ 1
pairs-once setup history r =
    reached setup (λ entries. count_by (λ (p : Pair). p.reference == r) (pairs entries) ≤ 1) (omega arith)
    (λ entries client cmd held accepted.
    subst (λ ps. count_by (λ (p : Pair). p.reference == r) ps ≤ 1)
    (sym (filter_map-append (λ (x : Entry). opened_by x.client x.cmd x.reply) entries (entry_of setup entries client cmd ∷ [])))
    (step entries client cmd held (opened_by client cmd (answer setup entries client cmd)) refl))
    history
  where
    step : (entries : List Entry) (client : ℕ) (cmd : Cmd) → count_by (λ (p : Pair). p.reference == r) (pairs entries) ≤ 1 → (o : Option Pair)
        → opened_by client cmd (answer setup entries client cmd) ≡ o
        → count_by (λ (p : Pair). p.reference == r) (pairs entries ++ cons_option o []) ≤ 1
    step entries client cmd few None opened = subst (λ ps. count_by (λ (p : Pair). p.reference == r) ps ≤ 1) (sym (append-nil (pairs entries))) few
    step entries client cmd few (Some p) opened =
        count-push (λ (q : Pair). q.reference == r) (pairs entries) p few
        (λ is. subst (λ k. has_reference (pairs entries) k ≡ false) (eqb-true p.reference r is)
        (not-found (pairs entries) p.reference (opened-new setup entries client cmd (answer setup entries client cmd) p opened refl)))

pub pairs-distinct : (held : Ledger) → {kept : Kept} → KeepsLedger held kept → AreDistinct (pairs held.entries)
pairs-distinct held is =
    subst (λ es. AreDistinct (pairs es)) (sym is.reached) (distinct-once (pairs (book_of held.setup is.history)) (pairs-once held.setup is.history))

-- what is kept of the pair that an entry names
pub found-now : (held : Ledger) (kept : Kept) → KeepsLedger held kept → (named : Option ℕ)
    → pair_in kept.pairs named ≡ option_map (kept_pair held.setup held.entries) (at_named held.entries named)
found-now held kept is named = ap (λ ps. pair_in ps named) is.pairs ∙ found-kept held.entries (settled_pairs held.setup held.entries) named

-- what a tally has of it, and that no count is great
tallied-kept : (held : Ledger) (kept : Kept) → KeepsLedger held kept → (s : PairState) → kept_count kept.tally s ≡ counted_in s kept.pairs
tallied-kept held kept is s =
    is.states s ∙ sym (counted-kept held.entries (settled_pairs held.setup held.entries) s (pairs held.entries)) ∙ ap (counted_in s) (sym is.pairs)

pub tally-there : (held : Ledger) (kept : Kept) → KeepsLedger held kept → (named : Option ℕ) (s : PairState)
    → is_at (option_map state_kept (pair_in kept.pairs named)) s ≤ kept_count kept.tally s
tally-there held kept is named s = let all = tallied-kept held kept is s in let some = found-counted s kept.pairs named in omega arith

pub tally-few : (held : Ledger) (kept : Kept) → KeepsLedger held kept → (s : PairState) → kept_count kept.tally s ≤ 65535
tally-few held kept is s =
    let few = pairs-few held is.ledger (settled_pairs held.setup held.entries) s in
    let applied : held.applied ≤ 65535 = is.ledger.few in
    let same = is.states s in
    omega arith

-- an entry that is no walk adds at most a pair, and moves what it moves
pub KeepsLedger-accepted : (held : Ledger) (entry : Entry) (kept : Kept) (paid : PayIns) (table : OrderTable) (tally : Tally)
    → ArePaidIn (held.entries ++ entry ∷ []) paid → AreMade (held.entries ++ entry ∷ []) table
    → ((s : PairState) → kept_count tally s + is_at (option_map state_kept (pair_in kept.pairs (named_by entry.cmd))) s
    ≡ kept_count kept.tally s
    + is_at (option_map state_kept (pair_noted entry.client entry.cmd entry.reply (pair_in kept.pairs (named_by entry.cmd)))) s)
    → KeepsLedger held kept → held.applied < 65535
    → is_walk entry.client entry.cmd ≡ false → entry.reply ≡ answer_to held entry.client entry.cmd → is_refusal entry.reply ≡ false
    → KeepsLedger (record { setup = held.setup; entries = held.entries ++ entry ∷ []; applied = held.applied + 1 }) (record {
      pairs = pair_put kept.pairs (pair_noted entry.client entry.cmd entry.reply (pair_in kept.pairs (named_by entry.cmd)));
      line = kept.line ++ cons_option (matched_by entry.client entry.cmd entry.reply) [];
      members = accounts_after held.setup.currencies (movement_by held.entries entry.client entry.cmd) kept.members;
      totals = figures_after (movement_by held.entries entry.client entry.cmd) kept.totals;
      paid = paid;
      table = table;
      tally = tally;
    })
KeepsLedger-accepted held entry kept paid table tally paid_in made moves is room other answered accepted =
    let done = settled_pairs held.setup held.entries in
    let longer = held.entries ++ entry ∷ [] in
    let taken = ap is_refusal (sym answered) ∙ accepted in
    let none = settles-none held.setup held.entries (settled_pairs held.setup held.entries) entry.client entry.cmd other taken in
    let with_none : settled_pairs held.setup (held.entries ++ entry ∷ []) ≡ settled_pairs held.setup held.entries ++ [] =
    settled-push held.setup held.entries entry ∙ ap (λ ps. settled_pairs held.setup held.entries ++ ps) none in
    let still = with_none ∙ append-nil (settled_pairs held.setup held.entries) in
    let same : entry ≡ entry_of held.setup held.entries entry.client entry.cmd = λ i. record { client = entry.client; cmd = entry.cmd; reply = answered i } in
    let reached = is-reached held.setup held.entries is.history is.reached in
    let still_so = ap (λ e. settled_pairs held.setup (held.entries ++ e ∷ [])) (sym same) ∙ still in
    let history = is.history ++ record { client = entry.client; number = 0; cmd = entry.cmd } ∷ [] in
    let reached_now = ap (λ e. held.entries ++ e ∷ []) same ∙ more-reached held.setup held.entries is.history entry.client entry.cmd is.reached taken in
    let matched_known =
    subst (λ es. AllByRecursion (λ p. pair_of es p.reference ≡ Some p) (matched_pairs es)) (sym reached_now) (sound held.setup history).known in
    let new : (p : Pair) → opened_by entry.client entry.cmd entry.reply ≡ Some p
    → (pair_of held.entries p.reference ≡ None) × (pair_with held.entries done p ≡ just_opened p) =
    λ p opened.
    let none = opened-new held.setup held.entries entry.client entry.cmd entry.reply p opened answered in
    (none, new-kept held.setup held.entries is.history is.reached p none) in
    let noted = subst (λ o. IsPut held.entries entry done (pair_noted entry.client entry.cmd entry.reply o)) (sym (found-now held kept is (named_by entry.cmd)))
    (noted-put held.entries entry done (pairs-distinct held is) new) in
    let pairs_now = ap (λ ps. pair_put ps (pair_noted entry.client entry.cmd entry.reply (pair_in kept.pairs (named_by entry.cmd)))) is.pairs ∙ noted.put
    ∙ ap (λ ps. by_reference (pair_with longer ps) (pairs longer)) (sym still) in
    record {
      ledger = IsLedger-accepted held entry.client entry.cmd entry.reply is.ledger room answered accepted;
      history = history;
      reached = reached_now;
      accounts =
          subst (λ e. AreAccounts held.setup.currencies (length held.setup.members) (balance held.setup (held.entries ++ e ∷ []))
          (accounts_after held.setup.currencies (movement_by held.entries entry.client entry.cmd) kept.members))
          (sym same) (kept-accounts held entry.client entry.cmd kept.members kept.totals reached is.ledger.valid taken still_so is.accounts);
      figures =
          subst (λ e. AreFigures (figure held.setup (held.entries ++ e ∷ [])) (figures_after (movement_by held.entries entry.client entry.cmd) kept.totals))
          (sym same) (kept-figures held entry.client entry.cmd kept.members kept.totals reached is.ledger.valid taken still_so is.figures);
      pay_ins = paid_in;
      orders = made;
      states = λ s.
          tally-put s kept.pairs (named_by entry.cmd) (pair_noted entry.client entry.cmd entry.reply (pair_in kept.pairs (named_by entry.cmd)))
          noted.own (none-noted entry.client entry.cmd entry.reply (pair_in kept.pairs (named_by entry.cmd))) (tallied-kept held kept is s) (moves s)
          ∙ ap (counted_in s) pairs_now ∙ counted-kept longer (settled_pairs held.setup longer) s (pairs longer);
      line = subst (λ ps. IsLine longer ps (kept.line ++ cons_option (matched_by entry.client entry.cmd entry.reply) [])) (sym with_none)
          (line-more held.entries entry done [] kept.line matched_known is.line);
      pairs = pairs_now;
    }

-- the answer to the operator's word to settle
pub answer-walk : (held : Ledger) (most : ℕ)
    → answer_to held 0 (Settle most) ≡ Settled
    (length (pass held.setup held.entries (settled_pairs held.setup held.entries) most (candidates held.entries (settled_pairs held.setup held.entries))))
unfolding answer
answer-walk held most = refl

-- a walk changes no figure
figure-walked : (setup : Setup) (entries : List Entry) (history : List Row) (most c : ℕ) → entries ≡ book_of setup history
    → is_refusal (answer setup entries 0 (Settle most)) ≡ false
    → figure setup (entries ++ entry_of setup entries 0 (Settle most) ∷ []) c ≡ figure setup entries c
figure-walked setup entries history most c same accepted =
    let longer = history ++ record { client = 0; number = 0; cmd = Settle most } ∷ [] in
    let before = subst (λ es. IsCovered setup es c) (sym same) (is-covered setup c history) in
    let after_it = subst (λ es. IsCovered setup es c) (sym (more-reached setup entries history 0 (Settle most) same accepted)) (is-covered setup c longer) in
    let moves = walk-moves-none setup entries most c in
    after_it.difference ∙ (λ i. (pos (moves.0 i) -ℤ pos (moves.1 i)) +ℤ pos (moves.2 i)) ∙ sym before.difference

-- those of the line that wait, by what is kept, are what a walk is offered
pub offered-from : {held : Ledger} {kept : Kept} {line offered : List Pair} → KeepsLedger held kept → line ≡ kept.line
    → offered ≡ filter (λ p. is_waiting kept.pairs p) line → offered ≡ candidates held.entries (settled_pairs held.setup held.entries)
offered-from {held} {kept} is same waits =
    waits ∙ (λ i. filter (λ p. is_waiting (is.pairs i) p) (same i))
    ∙ waiting-kept held.entries (settled_pairs held.setup held.entries) kept.line is.line.known ∙ is.line.waits

-- so the waiting pair at a place is that of the queue
pub queue-at : {held now : Ledger} {kept : Kept} {line : List Pair} {found : Option Pair} (at : ℕ) → KeepsLedger held kept → held ≡ now → line ≡ kept.line
    → found ≡ slice_get (filter (λ p. is_waiting kept.pairs p) line) at → found ≡ slice_get (queue now.setup now.entries) at
queue-at at is view same read =
    read ∙ ap (λ ps. slice_get ps at) (offered-from is same refl) ∙ ap (λ (l : Ledger). slice_get (queue l.setup l.entries) at) view

-- what an entry moves, by the table of orders
pub moved-same : (entries : List Entry) (table : OrderTable) → AreMade entries table → (client : ℕ) (cmd : Cmd)
    → movement_by entries client cmd ≡ movement_with (order_at table) client cmd
moved-same entries table are client cmd = λ i. movement_with (λ c n. sym (are.made c n) i) client cmd

-- the pay-ins, and the table of orders, may be other values of which the same is so
pub KeepsLedger-same : (held : Ledger) (kept : Kept) (paid : PayIns) (table : OrderTable) → KeepsLedger held kept → ArePaidIn held.entries paid
    → AreMade held.entries table
    → KeepsLedger held (record {
      pairs = kept.pairs;
      line = kept.line;
      members = kept.members;
      totals = kept.totals;
      paid = paid;
      table = table;
      tally = kept.tally;
    })
KeepsLedger-same held kept paid table is paid_in made = record {
  ledger = is.ledger;
  history = is.history;
  reached = is.reached;
  accounts = is.accounts;
  figures = is.figures;
  pay_ins = paid_in;
  orders = made;
  states = is.states;
  line = is.line;
  pairs = is.pairs;
}

-- the open orders of a currency ascend by number
pub open-ascending : (held : Ledger) (kept : Kept) (table : OrderTable) → KeepsLedger held kept → AreMade held.entries table → (c : ℕ)
    → AreAscending (open_at table c)
open-ascending held kept table is are c =
    let ordered = (is-reached held.setup held.entries is.history is.reached).ordered c in
    subst AreAscending (sym (are.outstanding c))
    (AllPairs-filter (λ (a b : PayOrder). a.out < b.out) (λ (o : PayOrder). not (has_end held.entries c o.out)) (orders held.entries c)
    (numbered-ascend 1 (orders held.entries c) ordered.numbered))

-- an order that is made has the next number, and one that ends is there
next-step : (setup : Setup) (entries : List Entry) (client : ℕ) (cmd : Cmd) (reply : Reply) (table : OrderTable) → AreMade entries table
    → reply ≡ answer setup entries client cmd → is_refusal (answer setup entries client cmd) ≡ false → IsNext (step_of client cmd reply) table
unfolding answer
next-step setup entries client (PayOut ccy amt) (Order out) table are answered accepted =
    let next : out ≡ length (orders entries ccy) + 1 = cc (answered ∙ pay_out-order setup entries client ccy amt accepted) in
    next ∙ ap (λ n. n + 1) (sym (are.counts ccy))
next-step setup entries client (PayOut ccy amt) _ table are answered accepted = tt
next-step setup entries client (Paid ccy out) reply table are answered accepted =
    order-kept entries table are ccy out (is-so _ (passed (end_checks setup entries client ccy out) Done accepted).1.1.0)
next-step setup entries client (Returned ccy out) reply table are answered accepted =
    order-kept entries table are ccy out (is-so _ (passed (end_checks setup entries client ccy out) Done accepted).1.1.0)
next-step setup entries client _ reply table are answered accepted = tt

pub IsNext-accepted : (held : Ledger) (table : OrderTable) (client : ℕ) (cmd : Cmd) (reply : Reply) → IsLedger held
    → AreMade held.entries table → reply ≡ answer_to held client cmd → is_refusal reply ≡ false → IsNext (step_of client cmd reply) table
IsNext-accepted held table client cmd reply is are answered accepted =
    next-step held.setup held.entries client cmd reply table are answered (ap is_refusal (sym answered) ∙ accepted)

-- each matched pair is found by its reference
matched-known : (held : Ledger) (kept : Kept) → KeepsLedger held kept
    → AllByRecursion (λ p. pair_of held.entries p.reference ≡ Some p) (matched_pairs held.entries)
matched-known held kept is =
    subst (λ es. AllByRecursion (λ p. pair_of es p.reference ≡ Some p) (matched_pairs es)) (sym is.reached) (sound held.setup is.history).known

-- what a walk starts with
pub walk-offered : (held : Ledger) (kept : Kept) (es : List Entry) (offered : List Pair)
    → KeepsLedger held kept → es ≡ held.entries → offered ≡ candidates held.entries (settled_pairs held.setup held.entries) → IsOffered held.setup es offered
walk-offered held kept es offered is same given = record {
  valid = is.ledger.valid;
  small = subst (λ x. total x ≤ most_total) (sym same) (total-small held is.ledger);
  tradable =
      subst (AllByRecursion (IsTradable held.setup)) (sym given)
      (offered-tradable held.setup held.entries (settled_pairs held.setup held.entries) is.history is.reached);
  known =
      subst (λ x. AllByRecursion (λ p. pair_of x p.reference ≡ Some p) offered) (sym same)
      (subst (AllByRecursion (λ p. pair_of held.entries p.reference ≡ Some p)) (sym given)
      (line-of-candidates held.entries (settled_pairs held.setup held.entries) (matched-known held kept is)).known);
  distinct = subst (λ x. AreDistinct (pairs x)) (sym same) (pairs-distinct held is);
}

pub walk-start : (held : Ledger) (kept : Kept) (es : List Entry) (offered : List Pair) (most : ℕ)
    → KeepsLedger held kept → es ≡ held.entries → offered ≡ candidates held.entries (settled_pairs held.setup held.entries)
    → IsUnderWay held.setup es (settled_pairs held.setup es) offered most 0 0 kept.pairs kept.members kept.tally
walk-start held kept es offered most is same given =
    let posted = settled_pairs held.setup held.entries in
    let start : IsWalking held.setup held.entries posted (candidates held.entries posted) most 0 0 posted kept.members = record {
      walked = IsWalked-start held.setup held.entries posted (candidates held.entries posted) (matched_pairs held.entries) most is.ledger.within;
      accounts = is.accounts;
      counted = omega arith;
    } in
    let under_way : IsUnderWay held.setup held.entries posted (candidates held.entries posted) most 0 0 kept.pairs kept.members kept.tally = record {
      now = posted;
      walking = start;
      pairs_kept = is.pairs;
      tallied = tallied-kept held kept is;
    } in
    subst (λ x. IsUnderWay held.setup x (settled_pairs held.setup x) offered most 0 0 kept.pairs kept.members kept.tally) (sym same)
    (subst (λ ps. IsUnderWay held.setup held.entries posted ps most 0 0 kept.pairs kept.members kept.tally) (sym given) under_way)

-- and what it ends with
module _ {held : Ledger} {most i count : ℕ} {kept : Kept} {later_pairs : List (ℕ × KeptPair)} {later : List Account} {tally : Tally} {es : List Entry}
    {offered : List Pair} (is : KeepsLedger held kept) (same : es ≡ held.entries)
    (given : offered ≡ candidates held.entries (settled_pairs held.setup held.entries))
    (past : length offered ≤ i) (read : IsUnderWay held.setup es (settled_pairs held.setup es) offered most i count later_pairs later tally) where
  all : length (candidates held.entries (settled_pairs held.setup held.entries)) ≤ i
  all = subst (λ ps. length ps ≤ i) given past

  under_way : IsUnderWay held.setup held.entries (settled_pairs held.setup held.entries)
      (candidates held.entries (settled_pairs held.setup held.entries)) most i count
      later_pairs later tally
  under_way =
      subst (λ x. IsUnderWay held.setup x (settled_pairs held.setup x) (candidates held.entries (settled_pairs held.setup held.entries)) most i
      count later_pairs later tally)
      same (subst (λ ps. IsUnderWay held.setup es (settled_pairs held.setup es) ps most i count later_pairs later tally) given read)

  ended : (under_way.now ≡ settled_pairs held.setup held.entries ++ pass held.setup held.entries (settled_pairs held.setup held.entries) most
      (candidates held.entries (settled_pairs held.setup held.entries)))
      × (count ≡ length (pass held.setup held.entries (settled_pairs held.setup held.entries) most
      (candidates held.entries (settled_pairs held.setup held.entries))))
  ended =
      IsWalked-all held.setup held.entries (settled_pairs held.setup held.entries) (candidates held.entries (settled_pairs held.setup held.entries))
      (matched_pairs held.entries) most i count under_way.now all under_way.walking.walked

  pub walk-answer : Settled count ≡ answer_to held 0 (Settle most)
  walk-answer = ap Settled ended.1 ∙ sym (answer-walk held most)

  pub KeepsLedger-walked : held.applied < 65535
      → KeepsLedger (record {
        setup = held.setup;
        entries = held.entries ++ record { client = 0; cmd = Settle most; reply = Settled count } ∷ [];
        applied = held.applied + 1;
      }) (record {
        pairs = later_pairs;
        line = candidates held.entries (settled_pairs held.setup held.entries);
        members = later;
        totals = kept.totals;
        paid = kept.paid;
        table = kept.table;
        tally = tally;
      })
  unfolding taken_by
  KeepsLedger-walked room =
      let entry : Entry = record { client = 0; cmd = Settle most; reply = Settled count } in
      let posted = settled_pairs held.setup held.entries in
      let now = under_way.now in
      let more : pairs (held.entries ++ entry ∷ []) ≡ pairs held.entries ++ [] =
      filter_map-append (λ (x : Entry). opened_by x.client x.cmd x.reply) held.entries (entry ∷ []) in
      let same : entry ≡ entry_of held.setup held.entries 0 (Settle most) = λ i. record { client = 0; cmd = Settle most; reply = walk-answer i } in
      let accepted : is_refusal (answer held.setup held.entries 0 (Settle most)) ≡ false = ap is_refusal (answer-walk held most) in
      let reached = is-reached held.setup held.entries is.history is.reached in
      let history = is.history ++ record { client = 0; number = 0; cmd = Settle most } ∷ [] in
      let reached_now = ap (λ e. held.entries ++ e ∷ []) same ∙ more-reached held.setup held.entries is.history 0 (Settle most) is.reached accepted in
      let settled_now : now ≡ settled_pairs held.setup (held.entries ++ entry ∷ []) = ended.0 ∙ sym (settled-push held.setup held.entries entry) in
      let pairs_now = under_way.pairs_kept
      ∙ (λ i. map (λ p. (p.reference, kept-other held.entries entry now p (λ same. cc same) i)) (sym (more ∙ append-nil (pairs held.entries)) i))
      ∙ ap (λ done. by_reference (pair_with (held.entries ++ entry ∷ []) done) (pairs (held.entries ++ entry ∷ []))) settled_now in
      record {
        ledger = IsLedger-accepted held 0 (Settle most) (Settled count) is.ledger room walk-answer refl;
        history = history;
        reached = reached_now;
        accounts =
            AreAccounts-same held.setup.currencies (length held.setup.members) (balance_with held.entries now)
            (balance held.setup (held.entries ++ entry ∷ [])) later
            (λ m c. none (balance_with held.entries now m c) ∙ sym (balance-moved held.setup held.entries now 0 (Settle most) accepted reached.ordered m c)
            ∙ ap (λ e. balance_with (held.entries ++ e ∷ []) now m c) (sym same) ∙ ap (λ done. balance_with (held.entries ++ entry ∷ []) done m c) settled_now)
            under_way.walking.accounts;
        figures = record {
          places = is.figures.places;
          same =
              λ c. is.figures.same c ∙ sym (ap (λ e. figure held.setup (held.entries ++ e ∷ []) c) same
              ∙ figure-walked held.setup held.entries is.history most c is.reached accepted);
        };
        pay_ins = λ c k.
            is.pay_ins c k ∙ sym (list_any-append (λ (x : Entry). is_pay_in c k x.cmd) held.entries (entry ∷ [])
            ∙ or-false (has_pay_in held.entries c k));
        orders = AreMade-still held.entries entry kept.table refl is.orders;
        states = λ s. under_way.tallied s ∙ ap (counted_in s) pairs_now
            ∙ counted-kept (held.entries ++ entry ∷ []) (settled_pairs held.setup (held.entries ++ entry ∷ [])) s (pairs (held.entries ++ entry ∷ []));
        line = subst (λ ps. IsLine (held.entries ++ entry ∷ []) ps (candidates held.entries posted)) (sym (settled-push held.setup held.entries entry))
            (subst (IsLine (held.entries ++ entry ∷ []) (posted ++ pass held.setup held.entries posted most (candidates held.entries posted)))
            (append-nil (candidates held.entries posted))
            (line-more held.entries entry posted (pass held.setup held.entries posted most (candidates held.entries posted)) (candidates held.entries posted)
            (subst (λ es. AllByRecursion (λ p. pair_of es p.reference ≡ Some p) (matched_pairs es)) (sym reached_now) (sound held.setup history).known)
            (line-of-candidates held.entries posted (matched-known held kept is))));
        pairs = pairs_now;
      }
    where
      none : (b : ℤ) → b ≡ b +ℤ pos 0
      none b = omega (arith, ints)

-- what a walk leaves
pub after-walk : (held : Ledger) (most count : ℕ) → Settled count ≡ answer_to held 0 (Settle most)
    → record { setup = held.setup; entries = held.entries ++ record { client = 0; cmd = Settle most; reply = Settled count } ∷ []; applied = held.applied + 1 }
    ≡ after held 0 (Settle most)
after-walk held most count answered =
    ap (λ reply. record { setup = held.setup; entries = with_entry held.entries 0 (Settle most) reply; applied = held.applied + 1 }) answered
