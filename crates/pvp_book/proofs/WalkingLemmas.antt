-- The walk, on the kept accounts.
use Rattle.std.proofs.Common.{◌≡◌, ℕ, suc, zero, ◌+◌, ◌-◌, ◌≤◌, ◌<◌, Bool, true, false, List, [], ◌∷◌, ◌++◌, length, arith, refl, ap, sym, subst, ◌∙◌, drop, get_or}
use Rattle.std.specs.Prelude.{not, ◌&&◌, ◌==◌, if◌then◌else◌, nat_lt}
use Rattle.std.specs.List.{cons_option, AllByRecursion}
use Rattle.std.proofs.lemmas.Bool.{and_parts, and_left, and_right, le-ltb, ltb-true}
use Rattle.std.proofs.lemmas.List.Elements.{filter_map-append}
use Rattle.pvp_types.specs.declared.setup.Setup.{Setup}
use Rattle.pvp_types.specs.declared.command.Instruction.{Instruction}
use Rattle.pvp_types.specs.declared.command.Cmd.{Cmd}
use Rattle.pvp_types.specs.declared.command.Cmd.TheVariants.{Instruct}
use Rattle.pvp_types.specs.declared.command.Reply.{Reply}
use Rattle.pvp_types.specs.declared.command.Reply.TheVariants.{Matched, No}
use Rattle.pvp_types.specs.declared.command.Reason.TheVariants.{NotYours, UnknownMember, UnknownCurrency}
use Rattle.pvp_types.specs.Setup.{IsValid}
use Rattle.pvp_book.specs.declared.account.Account.{Account}
use Rattle.pvp_book.specs.declared.entry.Entry.{Entry}
use Rattle.pvp_book.specs.declared.pair.Pair.{Pair}
use Rattle.pvp_book.specs.Accounts.{balance_with}
use Rattle.pvp_book.specs.Pairs.{opened_by, pairs, pair_of, matched_by, matched_pairs, has_reference, both_have_asked}
use Rattle.pvp_book.specs.Settlement.{both_pass, candidates}
use Rattle.pvp_book.specs.Bounds.{total, most_total, IsSmall}
use Rattle.pvp_book.specs.Kept.{AreAccounts, CanSettle, both_pass_with, accounts_with}
use Rattle.pvp_book.specs.Answer.{Row, answer, on_instruct, is_member_number, has_member, has_currency, book_of}
use Rattle.pvp_book.specs.Laws.{IsExchange}
use Rattle.pvp_book.proofs.Counts.{each-append, each-both, each-filter}
use Rattle.pvp_book.proofs.Reached.{entry_of, reached}
use Rattle.pvp_book.proofs.SoundLemmas.{sound}
use Rattle.pvp_book.proofs.Members.{is-member}
use Rattle.pvp_book.proofs.LedgerLemmas.{IsSmall-within, length-filter_map-le}
use Rattle.pvp_book.proofs.WalkLemmas.{IsWalked, IsWalked-taken, IsWalked-passed, IsSmall-more, offered-here}
use Rattle.pvp_book.proofs.KeptLemmas.{small-account, small-pair, both-pass-kept, AreAccounts-settled}
use Rattle.std.proofs.Common.{Some}
use Rattle.std.specs.Option.{option_map}
use Rattle.std.proofs.lemmas.List.Sums.{length-filter, count_by-le-length}
use Rattle.pvp_book.specs.declared.kept_pair.KeptPair.{KeptPair}
use Rattle.pvp_book.specs.KeptPair.{pair_with, by_reference, state_kept, once_settled, pair_in, pair_put}
use Rattle.pvp_book.specs.declared.tally.Tally.{Tally}
use Rattle.pvp_book.specs.declared.pair.PairState.{PairState}
use Rattle.pvp_book.specs.Ledger.{state_with, is_state}
use Rattle.pvp_book.specs.Tally.{kept_count, is_at}
use Rattle.pvp_book.proofs.PassLemmas.{AreDistinct}
use Rattle.pvp_book.proofs.TallyLemmas.{counted_in, counted-kept, found-counted, tally-put}
use Rattle.pvp_book.proofs.RecordLemmas.{found-kept, kept-settled, put-settled}

-- a pair of two members in two currencies of the setup
pub record IsTradable (setup : Setup) (p : Pair) : Type 0 where
  pub exchange : IsExchange setup p
  pub sell : p.sell < length setup.currencies
  pub buy : p.buy < length setup.currencies

HasCurrencies : Setup → Pair → Type 0
HasCurrencies setup p = (p.sell < length setup.currencies) × (p.buy < length setup.currencies)

instruct-currencies : (setup : Setup) (entries : List Entry) (client : ℕ) (asked : Instruction)
    → on_instruct setup entries client asked ≡ Matched
    → (has_currency setup asked.sell && (has_currency setup asked.buy && not (asked.sell == asked.buy))) ≡ true
instruct-currencies setup entries client asked e =
    cases (is_member_number client) (has_member setup client && (has_member setup asked.other && not (asked.other == client)))
    (has_currency setup asked.sell && (has_currency setup asked.buy && not (asked.sell == asked.buy))) _ e
  where
    cases : (yours member currency : Bool) (rest : Reply)
        → (if not yours then No NotYours else if not member then No UnknownMember else if not currency then No UnknownCurrency else rest) ≡ Matched
        → currency ≡ true
    cases true true true rest e = refl
    cases _ _ _ rest e = absurd (cc e)

new-currencies : (setup : Setup) (entries : List Entry) (client : ℕ) (cmd : Cmd)
    → AllByRecursion (HasCurrencies setup) (cons_option (matched_by client cmd (answer setup entries client cmd)) [])
unfolding answer HasCurrencies
new-currencies setup entries client (Instruct asked) =
    by (on_instruct setup entries client asked) refl
  where
    by : (r : Reply) → on_instruct setup entries client asked ≡ r
        → AllByRecursion (λ (p : Pair). (p.sell < length setup.currencies) × (p.buy < length setup.currencies))
        (cons_option (matched_by client (Instruct asked) r) [])
    by Matched e =
        let both = and_parts _ _ (instruct-currencies setup entries client asked e) in
        ((ltb-true _ _ (and_parts _ _ both.1).0, ltb-true _ _ both.0), tt)
    by _ e = tt
new-currencies setup entries client _ = tt

known-currencies : (setup : Setup) (history : List Row) → AllByRecursion (HasCurrencies setup) (matched_pairs (book_of setup history))
known-currencies setup history =
    reached setup (λ entries. AllByRecursion (HasCurrencies setup) (matched_pairs entries)) tt
    (λ entries client cmd held accepted.
    subst (AllByRecursion (HasCurrencies setup))
    (sym (filter_map-append (λ (x : Entry). matched_by x.client x.cmd x.reply) entries (entry_of setup entries client cmd ∷ [])))
    (each-append (HasCurrencies setup) (matched_pairs entries) (cons_option (matched_by client cmd (answer setup entries client cmd)) []) held
    (new-currencies setup entries client cmd)))
    history

-- so is each that a walk is offered
pub offered-tradable : (setup : Setup) (entries : List Entry) (done : List Pair) (history : List Row) → entries ≡ book_of setup history
    → AllByRecursion (IsTradable setup) (candidates entries done)
unfolding HasCurrencies
offered-tradable setup entries done history same =
    each-filter (IsTradable setup) (λ p. not (has_reference done p.reference) && not (both_have_asked entries p)) (matched_pairs entries)
    (subst (λ es. AllByRecursion (IsTradable setup) (matched_pairs es)) (sym same)
    (each-both (IsExchange setup) (λ p. (p.sell < length setup.currencies) × (p.buy < length setup.currencies)) (IsTradable setup)
    (matched_pairs (book_of setup history))
    (λ p exchange known. record { exchange = exchange; sell = known.0; buy = known.1 }) (sound setup history).exchange (known-currencies setup history)))

each-at : (P : Pair → Type 0) (ps : List Pair) (k : ℕ) (nothing : Pair) → k < length ps → AllByRecursion P ps → P (get_or ps k nothing)
each-at P [] k nothing known all = absurd (omega arith)
each-at P (p ∷ ps) zero nothing known all = all.0
each-at P (p ∷ ps) (suc k) nothing known all = each-at P ps k nothing (omega arith) all.1

-- what a walk is offered
pub record IsOffered (setup : Setup) (entries : List Entry) (offered : List Pair) : Type 0 where
  pub valid : IsValid setup
  pub small : total entries ≤ most_total
  pub tradable : AllByRecursion (IsTradable setup) offered
  pub known : AllByRecursion (λ p. pair_of entries p.reference ≡ Some p) offered
  pub distinct : AreDistinct (pairs entries)

-- The first i of the offered pairs were walked over, and the accounts are those with what it settled.
pub record IsWalking (setup : Setup) (entries : List Entry) (start offered : List Pair) (most i count : ℕ) (now : List Pair) (members : List Account)
    : Type 0 where
  pub walked : IsWalked setup entries start offered (matched_pairs entries) most i count now
  pub accounts : AreAccounts setup.currencies (length setup.members) (balance_with entries now) members
  pub counted : count ≤ i

-- The same, with what is settled now known by what is kept of each pair.
pub record IsUnderWay (setup : Setup) (entries : List Entry) (start offered : List Pair) (most i count : ℕ) (kept : List (ℕ × KeptPair))
    (members : List Account) (tally : Tally) : Type 0 where
  pub now : List Pair
  pub walking : IsWalking setup entries start offered most i count now members
  pub pairs_kept : kept ≡ by_reference (pair_with entries now) (pairs entries)
  pub tallied : (s : PairState) → kept_count tally s ≡ counted_in s kept

module _ (setup : Setup) (entries : List Entry) (start offered : List Pair) (most i count : ℕ) (now : List Pair) (members : List Account) (nothing : Pair)
    (are : IsOffered setup entries offered) (within : i < length offered) (is : IsWalking setup entries start offered most i count now members) where
  tradable : IsTradable setup (get_or offered i nothing)
  tradable = each-at (IsTradable setup) offered i nothing within are.tradable

  small-with : IsSmall entries (now ++ get_or offered i nothing ∷ [])
  small-with = IsSmall-more setup entries start offered most i count now nothing within are.small is.walked

  pub can-settle : CanSettle setup members (get_or offered i nothing)
  can-settle =
      let first = is-member setup (get_or offered i nothing).first tradable.exchange.first in
      let second = is-member setup (get_or offered i nothing).second tradable.exchange.second in
      let places = is.accounts.places in
      let high = first.1 in
      let most_high = second.1 in
      let amounts = small-pair entries now (get_or offered i nothing) small-with in
      record {
        first = omega arith;
        second = omega arith;
        sell = tradable.sell;
        buy = tradable.buy;
        sell_amt = amounts.0;
        buy_amt = amounts.1;
        each = is.accounts.each;
        small =
            small-account entries now setup.currencies (length setup.members) members
            (IsSmall-within entries now (drop i offered) is.walked.within are.small) is.accounts;
      }

  here : drop i offered ≡ get_or offered i nothing ∷ drop (i + 1) offered
  here = offered-here offered i nothing within

  same : both_pass_with setup (get_or offered i nothing) members ≡ both_pass setup entries (now ++ get_or offered i nothing ∷ []) (get_or offered i nothing)
  same = both-pass-kept setup entries now members (get_or offered i nothing) are.valid tradable.exchange tradable.sell tradable.buy is.accounts

  pub walking-taken : count < most → both_pass_with setup (get_or offered i nothing) members ≡ true
      → IsWalking setup entries start offered most (i + 1) (count + 1) (now ++ get_or offered i nothing ∷ [])
      (accounts_with setup.currencies (get_or offered i nothing) members)
  walking-taken room passed =
      let counted : count ≤ i = is.counted in
      record {
        walked =
            IsWalked-taken setup entries start offered (matched_pairs entries) most i count now (get_or offered i nothing) here room
            (sym same ∙ passed) is.walked;
        accounts = AreAccounts-settled setup entries now members (get_or offered i nothing) are.valid tradable.exchange tradable.sell tradable.buy is.accounts;
        counted = omega arith;
      }

  pub walking-failed : both_pass_with setup (get_or offered i nothing) members ≡ false → IsWalking setup entries start offered most (i + 1) count now members
  walking-failed failed =
      let counted : count ≤ i = is.counted in
      record {
        walked =
            IsWalked-passed setup entries start offered (matched_pairs entries) most i count now (get_or offered i nothing) here
            (and_right (nat_lt 0 (most - count)) _ (sym same ∙ failed)) is.walked;
        accounts = is.accounts;
        counted = omega arith;
      }

  pub walking-past : most ≤ count → IsWalking setup entries start offered most (i + 1) count now members
  walking-past enough =
      let counted : count ≤ i = is.counted in
      record {
        walked = IsWalked-passed setup entries start offered (matched_pairs entries) most i count now (get_or offered i nothing) here
            (and_left (nat_lt 0 (most - count)) _ (le-ltb 0 (most - count) (omega arith))) is.walked;
        accounts = is.accounts;
        counted = omega arith;
      }

-- the same steps, with what is kept of each pair
module _ {setup : Setup} {entries : List Entry} {start offered : List Pair} {most i count : ℕ} {kept : List (ℕ × KeptPair)} {members : List Account}
    {tally : Tally} (nothing : Pair)
    (are : IsOffered setup entries offered) (within : i < length offered)
    (is : IsUnderWay setup entries start offered most i count kept members tally) where
  pub can-settle-here : CanSettle setup members (get_or offered i nothing)
  can-settle-here = can-settle setup entries start offered most i count is.now members nothing are within is.walking

  known-here : pair_of entries (get_or offered i nothing).reference ≡ Some (get_or offered i nothing)
  known-here = each-at (λ p. pair_of entries p.reference ≡ Some p) offered i nothing within are.known

  -- what is kept of the pair
  pub found-here : pair_in kept (Some (get_or offered i nothing).reference) ≡ Some (pair_with entries is.now (get_or offered i nothing))
  found-here =
      let pair = get_or offered i nothing in
      ap (λ k. pair_in k (Some pair.reference)) is.pairs_kept ∙ found-kept entries is.now (Some pair.reference)
      ∙ ap (option_map (pair_with entries is.now)) known-here

  -- it is in the tally, and no count is great
  pub tally-there-here : (s : PairState)
      → is_at (option_map state_kept (pair_in kept (Some (get_or offered i nothing).reference))) s ≤ kept_count tally s
  tally-there-here s =
      let some = found-counted s kept (Some (get_or offered i nothing).reference) in
      let all = is.tallied s in
      omega arith

  pub tally-few-here : length entries ≤ 65535 → (s : PairState) → kept_count tally s ≤ 65535
  tally-few-here few s =
      let part = length-filter_map-le (λ (e : Entry). opened_by e.client e.cmd e.reply) entries in
      let same = length-filter (λ p. is_state (state_with entries is.now p) s) (pairs entries) in
      let some = count_by-le-length (λ p. is_state (state_with entries is.now p) s) (pairs entries) in
      let all = is.tallied s ∙ ap (counted_in s) is.pairs_kept ∙ counted-kept entries is.now s (pairs entries) in
      omega arith

  pub under-way-taken : (next : Tally)
      → ((s : PairState) → kept_count next s + is_at (option_map state_kept (pair_in kept (Some (get_or offered i nothing).reference))) s
      ≡ kept_count tally s + is_at (option_map state_kept (option_map once_settled (pair_in kept (Some (get_or offered i nothing).reference)))) s)
      → count < most → both_pass_with setup (get_or offered i nothing) members ≡ true
      → IsUnderWay setup entries start offered most (i + 1) (count + 1)
      (pair_put kept (option_map once_settled (pair_in kept (Some (get_or offered i nothing).reference))))
      (accounts_with setup.currencies (get_or offered i nothing) members) next
  under-way-taken next moves room passed =
      let pair = get_or offered i nothing in
      let known = known-here in
      let now_kept : option_map once_settled (pair_in kept (Some pair.reference)) ≡ Some (pair_with entries (is.now ++ pair ∷ []) pair) =
      ap (option_map once_settled) found-here ∙ ap Some (kept-settled entries is.now pair) in
      record {
        now = is.now ++ pair ∷ [];
        walking = walking-taken setup entries start offered most i count is.now members nothing are within is.walking room passed;
        pairs_kept = (λ i. pair_put (is.pairs_kept i) (now_kept i)) ∙ put-settled entries is.now pair are.distinct known;
        tallied = λ s.
            tally-put s kept (Some pair.reference) (Some (pair_with entries (is.now ++ pair ∷ []) pair)) refl (λ e. absurd (cc e)) (is.tallied s)
            (moves s ∙ ap (λ o. kept_count tally s + is_at (option_map state_kept o) s) now_kept)
            ∙ ap (λ o. counted_in s (pair_put kept o)) (sym now_kept);
      }

  pub under-way-failed : both_pass_with setup (get_or offered i nothing) members ≡ false
      → IsUnderWay setup entries start offered most (i + 1) count kept members tally
  under-way-failed failed = record {
    now = is.now;
    walking = walking-failed setup entries start offered most i count is.now members nothing are within is.walking failed;
    pairs_kept = is.pairs_kept;
    tallied = is.tallied;
  }

  pub under-way-past : most ≤ count → IsUnderWay setup entries start offered most (i + 1) count kept members tally
  under-way-past enough = record {
    now = is.now;
    walking = walking-past setup entries start offered most i count is.now members nothing are within is.walking enough;
    pairs_kept = is.pairs_kept;
    tallied = is.tallied;
  }
