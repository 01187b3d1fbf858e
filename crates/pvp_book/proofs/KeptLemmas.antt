-- The kept accounts and figures stay what the entries say.
use Rattle.std.proofs.Common.{◌≡◌, ℕ, suc, zero, ◌+◌, ◌*◌, ◌-◌, ◌≤◌, ◌<◌, Bool, true, false, List, [], ◌∷◌, ◌++◌, length, arith, refl, ap, sym, subst, ◌∙◌, Option, Some, None, ℤ, pos, ◌+ℤ◌, ◌-ℤ◌, neg_ℤ, sum_by, All, slice_index_or, slice_set, slice_get, replicate, add-one, ◌⊎◌, inl, inr}
use Rattle.std.specs.Prelude.{◌&&◌, ◌==◌, if◌then◌else◌, nat_le, int_lt, not}
use Rattle.std.specs.List.{zip, range_with_len, list_all}
use Rattle.std.specs.Option.{option_map_or}
use Rattle.std.proofs.lemmas.Int.{ints}
use Rattle.std.proofs.lemmas.Bool.{ne_eqb, eq-eqb, cases_eq, cases_lt}
use Rattle.std.proofs.lemmas.List.{get_or-set_same, get_or-set_other, get_or_past, length-set}
use Rattle.std.proofs.lemmas.List.Elements.{All-from_get_or}
use Rattle.std.proofs.lemmas.List.FromFn.{get_or-map-range_with_len, length-range_with_len}
use Rattle.std.proofs.lemmas.List.{length-map}
use Rattle.std.proofs.lemmas.List.Sums.{sum_by-cons, sum_by-append}
use Rattle.pvp_types.specs.declared.setup.Setup.{Setup}
use Rattle.pvp_types.specs.declared.setup.Currency.{Currency}
use Rattle.pvp_types.specs.declared.setup.Member.{Member}
use Rattle.pvp_book.specs.declared.account.Account.{Account}
use Rattle.pvp_book.specs.declared.account.Movement.{Movement}
use Rattle.pvp_book.specs.declared.entry.Entry.{Entry}
use Rattle.pvp_book.specs.declared.pair.Pair.{Pair}
use Rattle.pvp_book.specs.Accounts.{pay_ins, pay_outs, amount_returned, amount_bought, amount_sold, amount_received, amount_given, balance_with}
use Rattle.pvp_book.specs.Limits.{below, worth_of, debt_of, shortage_of, value_of, is_within_short, is_within_aggregate, meets_limits, passes, balances_with}
use Rattle.pvp_types.specs.Setup.{IsValid}
use Rattle.pvp_types.proofs.SetupLemmas.{valid-currencies}
use Rattle.pvp_book.specs.Settlement.{both_pass, settled_pairs}
use Rattle.pvp_book.specs.Ledger.{balance, value, sum_of_balances}
use Rattle.pvp_book.specs.Bounds.{most_total, IsWithin, IsSmall}
use Rattle.pvp_book.specs.Answer.{has_member, balances_less}
use Rattle.pvp_book.specs.Laws.{IsExchange}
use Rattle.pvp_book.proofs.LimitsLemmas.{short-places}
use Rattle.pvp_book.proofs.LedgerLemmas.{difference-small, sum_of_balances-more}
use Rattle.pvp_book.proofs.Members.{is-member}
use Rattle.pvp_book.specs.Kept.{empty_account, no_account, IsAccount, after_posting, after_trade, is_within_limits, passes_with, both_pass_with, first_with, second_with, accounts_with, account_at, balance_at, AreAccounts, AreFigures, moved_to, moved_in, accounts_after, figures_after}

-- an amount added at one place of a list of balances
pub read-added : (bs : List ℤ) (k c : ℕ) (amt : ℤ) → k < length bs
    → slice_index_or (slice_set bs k (slice_index_or bs k (pos 0) +ℤ amt)) c (pos 0) ≡ slice_index_or bs c (pos 0) +ℤ (if k == c then amt else pos 0)
read-added bs k c amt within = by (cases_eq k c)
  where
    by : (k ≡ c) ⊎ (k ≡ c → ⊥)
        → slice_index_or (slice_set bs k (slice_index_or bs k (pos 0) +ℤ amt)) c (pos 0) ≡ slice_index_or bs c (pos 0) +ℤ (if k == c then amt else pos 0)
    by (inl same) =
        ap (λ i. slice_index_or (slice_set bs k (slice_index_or bs k (pos 0) +ℤ amt)) i (pos 0)) (sym same)
        ∙ get_or-set_same bs k (slice_index_or bs k (pos 0) +ℤ amt) (pos 0) within
        ∙ ap (λ i. slice_index_or bs i (pos 0) +ℤ amt) same ∙ ap (λ b. slice_index_or bs c (pos 0) +ℤ (if b then amt else pos 0)) (sym (eq-eqb k c same))
    by (inr other) =
        get_or-set_other bs k c (slice_index_or bs k (pos 0) +ℤ amt) (pos 0) (λ e. other (sym e))
        ∙ none (slice_index_or bs c (pos 0)) ∙ ap (λ b. slice_index_or bs c (pos 0) +ℤ (if b then amt else pos 0)) (sym (ne_eqb k c other))
      where
        none : (b : ℤ) → b ≡ b +ℤ pos 0
        none b = omega (arith, ints)

module _ (currencies : List Currency) (n : ℕ) where
  -- one account is another
  pub AreAccounts-set : (balance later : ℕ → ℕ → ℤ) (accounts : List Account) (m : ℕ) (account : Account) → AreAccounts currencies n balance accounts
      → m < length accounts
      → IsAccount currencies account → ((c : ℕ) → slice_index_or account.balances c (pos 0) ≡ later m c) → ((k c : ℕ) → (k ≡ m → ⊥) → balance k c ≡ later k c)
      → AreAccounts currencies n later (slice_set accounts m account)
  AreAccounts-set balance later accounts m account are within is here others = record {
    places = length-set accounts m account ∙ are.places;
    each = λ k known. by-each k known (cases_eq k m);
    same = λ k c. by-same k c (cases_eq k m);
  }
    where
      there : account_at (slice_set accounts m account) m ≡ account
      there = get_or-set_same accounts m account _ within

      elsewhere : (k : ℕ) → (k ≡ m → ⊥) → account_at (slice_set accounts m account) k ≡ account_at accounts k
      elsewhere k other = get_or-set_other accounts m k account _ other

      by-each : (k : ℕ) → k < length (slice_set accounts m account) → (k ≡ m) ⊎ (k ≡ m → ⊥) → IsAccount currencies (account_at (slice_set accounts m account) k)
      by-each k known (inl same) =
          subst (λ j. IsAccount currencies (account_at (slice_set accounts m account) j)) (sym same) (subst (IsAccount currencies) (sym there) is)
      by-each k known (inr other) =
          subst (IsAccount currencies) (sym (elsewhere k other)) (are.each k (subst (λ l. k < l) (length-set accounts m account) known))

      by-same : (k c : ℕ) → (k ≡ m) ⊎ (k ≡ m → ⊥) → balance_at (slice_set accounts m account) k c ≡ later k c
      by-same k c (inl same) =
          ap (λ j. balance_at (slice_set accounts m account) j c) same ∙ ap (λ (a : Account). slice_index_or a.balances c (pos 0)) there ∙ here c
          ∙ ap (λ j. later j c) (sym same)
      by-same k c (inr other) = ap (λ (a : Account). slice_index_or a.balances c (pos 0)) (elsewhere k other) ∙ are.same k c ∙ others k c other

  -- other words for the same balances
  pub AreAccounts-same : (balance later : ℕ → ℕ → ℤ) (accounts : List Account) → ((m c : ℕ) → balance m c ≡ later m c)
      → AreAccounts currencies n balance accounts → AreAccounts currencies n later accounts
  AreAccounts-same balance later accounts same are = record { places = are.places; each = are.each; same = λ m c. are.same m c ∙ same m c }

  pub IsAccount-posted : (account : Account) (c : ℕ) (amt : ℤ) → IsAccount currencies account → IsAccount currencies (after_posting currencies c amt account)
  IsAccount-posted account c amt is = record { places = length-set account.balances c _ ∙ is.places; same = refl }

  -- a movement is posted
  pub AreAccounts-moved : (balance : ℕ → ℕ → ℤ) (accounts : List Account) (x : Movement) → AreAccounts currencies n balance accounts
      → x.member < length accounts → x.ccy < 8
      → AreAccounts currencies n (λ m c. balance m c +ℤ moved_to m c (Some x)) (accounts_after currencies (Some x) accounts)
  AreAccounts-moved balance accounts x are within known =
      let account = account_at accounts x.member in
      let is = are.each x.member within in
      let place : x.ccy < length account.balances = let all = is.places in omega arith in
      AreAccounts-set balance (λ m c. balance m c +ℤ moved_to m c (Some x)) accounts x.member (after_posting currencies x.ccy x.amt account) are within
      (IsAccount-posted account x.ccy x.amt is)
      (λ c. read-added account.balances x.ccy c x.amt place ∙ ap (λ z. z +ℤ (if x.ccy == c then x.amt else pos 0)) (are.same x.member c)
      ∙ ap (λ b. balance x.member c +ℤ (if b && (x.ccy == c) then x.amt else pos 0)) (sym (eq-eqb x.member x.member refl)))
      (λ k c other. none (balance k c) ∙ ap (λ b. balance k c +ℤ (if b && (x.ccy == c) then x.amt else pos 0)) (sym (ne_eqb x.member k (λ e. other (sym e)))))
    where
      none : (b : ℤ) → b ≡ b +ℤ pos 0
      none b = omega (arith, ints)

pub AreFigures-moved : (figure : ℕ → ℤ) (figures : List ℤ) (x : Movement) → AreFigures figure figures → x.ccy < 8
    → AreFigures (λ c. figure c +ℤ moved_in c (Some x)) (figures_after (Some x) figures)
AreFigures-moved figure figures x are known =
    let place : x.ccy < length figures = let all = are.places in omega arith in
    record {
      places = length-set figures x.ccy _ ∙ are.places;
      same = λ c. read-added figures x.ccy c x.amt place ∙ ap (λ z. z +ℤ (if x.ccy == c then x.amt else pos 0)) (are.same c);
    }

-- lists of balances that read alike weigh alike
pub zip-same : {X : Type 0} (xs : List X) (bs ds : List ℤ) → length xs ≤ length bs → length xs ≤ length ds
    → ((c : ℕ) → c < length xs → slice_index_or bs c (pos 0) ≡ slice_index_or ds c (pos 0)) → zip xs bs ≡ zip xs ds
zip-same [] bs ds few many same = refl
zip-same (x ∷ xs) [] ds few many same = absurd (omega arith)
zip-same (x ∷ xs) (b ∷ bs) [] few many same = absurd (omega arith)
zip-same (x ∷ xs) (b ∷ bs) (d ∷ ds) few many same =
    λ i. (x, same 0 (omega arith) i) ∷ zip-same xs bs ds (omega arith) (omega arith) (λ c within. same (suc c) (omega arith)) i

-- the tests on what is kept are the tests on balances that read alike
pub within-limits : (currencies : List Currency) (member : Member) (account : Account) (ds : List ℤ) → IsAccount currencies account
    → length currencies ≤ 8 → length member.short ≡ length currencies → length ds ≡ length currencies
    → ((c : ℕ) → c < length currencies → slice_index_or account.balances c (pos 0) ≡ slice_index_or ds c (pos 0))
    → is_within_limits member account ≡ meets_limits currencies member ds
within-limits currencies member account ds is few short places same =
    let all = is.places in
    let pairs = zip-same currencies account.balances ds (omega arith) (omega arith) same in
    let limits = zip-same member.short account.balances ds (omega arith) (omega arith) (λ c within. same c (omega arith)) in
    let value : account.value ≡ value_of currencies ds =
    ap (λ (a : Account). a.value) is.same ∙ (λ i. pos (sum_by worth_of (pairs i)) -ℤ pos (sum_by debt_of (pairs i))) in
    let shortage : account.shortage ≡ sum_by shortage_of (zip currencies ds) = ap (λ (a : Account). a.shortage) is.same ∙ (λ i. sum_by shortage_of (pairs i)) in
    (λ i. not (int_lt (value i) (pos 0)) && (list_all (λ p. nat_le (below p.1) p.0) (limits i) && nat_le (shortage i) member.aggregate))
    ∙ ap (λ b. b && (is_within_short member.short ds && is_within_aggregate member.aggregate currencies ds))
    (covered (sum_by worth_of (zip currencies ds)) (sum_by debt_of (zip currencies ds)))
  where
    covered : (w d : ℕ) → not (int_lt (pos w -ℤ pos d) (pos 0)) ≡ nat_le d w
    covered w d = grind (arith, ints)

-- once a pair is settled, a balance has its legs
pub balance-settled : (entries : List Entry) (done : List Pair) (p : Pair) (m c : ℕ)
    → balance_with entries (done ++ p ∷ []) m c ≡ balance_with entries done m c +ℤ (pos (amount_bought m c p) -ℤ pos (amount_sold m c p))
balance-settled entries done p m c =
    let came = sum_by-append (amount_bought m c) done (p ∷ []) in
    let one_came = sum_by-cons (amount_bought m c) p [] in
    let went = sum_by-append (amount_sold m c) done (p ∷ []) in
    let one_went = sum_by-cons (amount_sold m c) p [] in
    joined (pay_ins entries m c + amount_returned entries m c) (sum_by (amount_bought m c) done) (amount_bought m c p) (pay_outs entries m c)
    (sum_by (amount_sold m c) done) (amount_sold m c p)
    (sum_by (amount_bought m c) (done ++ p ∷ [])) (sum_by (amount_sold m c) (done ++ p ∷ [])) (omega arith) (omega arith)
  where
    joined : (i b x o s y b' s' : ℕ) → b' ≡ b + x → s' ≡ s + y → pos (i + b') -ℤ pos (o + s') ≡ (pos (i + b) -ℤ pos (o + s)) +ℤ (pos x -ℤ pos y)
    joined i b x o s y b' s' is_b is_s = omega (arith, ints)

-- the tests of a member on its account
pub passes-kept : (setup : Setup) (entries : List Entry) (done : List Pair) (m : ℕ) (account : Account) → IsValid setup → IsAccount setup.currencies account
    → ((c : ℕ) → slice_index_or account.balances c (pos 0) ≡ balance_with entries done m c)
    → passes_with setup m account ≡ passes setup m (balances_with setup entries done m)
passes-kept setup entries done m account valid is same = by (slice_get setup.members (m - 1)) refl
  where
    places : length (balances_with setup entries done m) ≡ length setup.currencies
    places = length-map (range_with_len 0 (length setup.currencies)) (λ c. balance_with entries done m c) ∙ length-range_with_len 0 (length setup.currencies)

    by : (found : Option Member) → slice_get setup.members (m - 1) ≡ found
        → option_map_or (λ member. is_within_limits member account) found false
        ≡ option_map_or (λ member. meets_limits setup.currencies member (balances_with setup entries done m)) found false
    by None none = refl
    by (Some member) there =
        within-limits setup.currencies member account (balances_with setup entries done m) is (valid-currencies setup valid).1
        (short-places setup valid (m - 1) member there) places
        (λ c within. same c ∙ sym (get_or-map-range_with_len (λ d. balance_with entries done m d) 0 (length setup.currencies) c c (pos 0) within (omega arith)))

-- a pair that can be settled, on accounts that are right
module _ (setup : Setup) (entries : List Entry) (done : List Pair) (accounts : List Account) (p : Pair) (valid : IsValid setup) (exchange : IsExchange setup p)
    (sells : p.sell < length setup.currencies) (buys : p.buy < length setup.currencies)
    (are : AreAccounts setup.currencies (length setup.members) (balance_with entries done) accounts) where
  known : (m : ℕ) → has_member setup m ≡ true → m < length accounts
  known m is = let member = is-member setup m is in let high = member.1 in let all = are.places in omega arith

  few : length setup.currencies ≤ 8
  few = (valid-currencies setup valid).1

  -- what an account reads once it sold and bought
  pub traded-reads : (m sell sell_amt buy buy_amt c : ℕ) → m < length accounts → sell < length setup.currencies → buy < length setup.currencies
      → slice_index_or (after_trade setup.currencies sell sell_amt buy buy_amt (account_at accounts m)).balances c (pos 0)
      ≡ (balance_with entries done m c +ℤ (if sell == c then neg_ℤ (pos sell_amt) else pos 0)) +ℤ (if buy == c then pos buy_amt else pos 0)
  traded-reads m sell sell_amt buy buy_amt c within first second =
      let bs = (account_at accounts m).balances in
      let all = (are.each m within).places in
      let most = few in
      let x = slice_index_or bs sell (pos 0) +ℤ neg_ℤ (pos sell_amt) in
      let longer : buy < length (slice_set bs sell x) = subst (λ l. buy < l) (sym (length-set bs sell x)) (omega arith) in
      read-added (slice_set bs sell x) buy c (pos buy_amt) longer
      ∙ ap (λ z. z +ℤ (if buy == c then pos buy_amt else pos 0))
      (read-added bs sell c (neg_ℤ (pos sell_amt)) (omega arith) ∙ ap (λ z. z +ℤ (if sell == c then neg_ℤ (pos sell_amt) else pos 0)) (are.same m c))

  pub traded-is : (m sell sell_amt buy buy_amt : ℕ) → m < length accounts
      → IsAccount setup.currencies (after_trade setup.currencies sell sell_amt buy buy_amt (account_at accounts m))
  traded-is m sell sell_amt buy buy_amt within =
      IsAccount-posted setup.currencies (length setup.members) (after_posting setup.currencies sell (neg_ℤ (pos sell_amt)) (account_at accounts m)) buy
      (pos buy_amt)
      (IsAccount-posted setup.currencies (length setup.members) (account_at accounts m) sell (neg_ℤ (pos sell_amt)) (are.each m within))

  first-reads : (c : ℕ) → slice_index_or (first_with setup.currencies p accounts).balances c (pos 0) ≡ balance_with entries (done ++ p ∷ []) p.first c
  first-reads c =
      traded-reads p.first p.sell p.sell_amt p.buy p.buy_amt c (known p.first exchange.first) sells buys
      ∙ sym (balance-settled entries done p p.first c ∙ ap
      (λ b. balance_with entries done p.first c +ℤ
      (pos ((if b && (p.buy == c) then p.buy_amt else 0) + (if (p.second == p.first) && (p.sell == c) then p.sell_amt else 0))
      -ℤ pos ((if b && (p.sell == c) then p.sell_amt else 0) + (if (p.second == p.first) && (p.buy == c) then p.buy_amt else 0)))) (eq-eqb p.first p.first refl)
      ∙ ap (λ b. balance_with entries done p.first c +ℤ (pos ((if p.buy == c then p.buy_amt else 0) + (if b && (p.sell == c) then p.sell_amt else 0))
      -ℤ pos ((if p.sell == c then p.sell_amt else 0) + (if b && (p.buy == c) then p.buy_amt else 0))))
      (ne_eqb p.second p.first (λ e. exchange.members (sym e)))
      ∙ by (balance_with entries done p.first c) (p.sell == c) (p.buy == c))
    where
      by : (b : ℤ) (sell buy : Bool) → b +ℤ (pos ((if buy then p.buy_amt else 0) + 0) -ℤ pos ((if sell then p.sell_amt else 0) + 0))
          ≡ (b +ℤ (if sell then neg_ℤ (pos p.sell_amt) else pos 0)) +ℤ (if buy then pos p.buy_amt else pos 0)
      by b true true = omega (arith, ints)
      by b true false = omega (arith, ints)
      by b false true = omega (arith, ints)
      by b false false = omega (arith, ints)

  second-reads : (c : ℕ) → slice_index_or (second_with setup.currencies p accounts).balances c (pos 0) ≡ balance_with entries (done ++ p ∷ []) p.second c
  second-reads c =
      traded-reads p.second p.buy p.buy_amt p.sell p.sell_amt c (known p.second exchange.second) buys sells
      ∙ sym (balance-settled entries done p p.second c ∙ ap
      (λ b. balance_with entries done p.second c +ℤ
      (pos ((if (p.first == p.second) && (p.buy == c) then p.buy_amt else 0) + (if b && (p.sell == c) then p.sell_amt else 0))
      -ℤ pos ((if (p.first == p.second) && (p.sell == c) then p.sell_amt else 0) + (if b && (p.buy == c) then p.buy_amt else 0))))
      (eq-eqb p.second p.second refl)
      ∙ ap (λ b. balance_with entries done p.second c +ℤ (pos ((if b && (p.buy == c) then p.buy_amt else 0) + (if p.sell == c then p.sell_amt else 0))
      -ℤ pos ((if b && (p.sell == c) then p.sell_amt else 0) + (if p.buy == c then p.buy_amt else 0)))) (ne_eqb p.first p.second exchange.members)
      ∙ by (balance_with entries done p.second c) (p.sell == c) (p.buy == c))
    where
      by : (b : ℤ) (sell buy : Bool) → b +ℤ (pos (0 + (if sell then p.sell_amt else 0)) -ℤ pos (0 + (if buy then p.buy_amt else 0)))
          ≡ (b +ℤ (if buy then neg_ℤ (pos p.buy_amt) else pos 0)) +ℤ (if sell then pos p.sell_amt else pos 0)
      by b true true = omega (arith, ints)
      by b true false = omega (arith, ints)
      by b false true = omega (arith, ints)
      by b false false = omega (arith, ints)

  -- the tests with it settled are those on the two accounts
  pub both-pass-kept : both_pass_with setup p accounts ≡ both_pass setup entries (done ++ p ∷ []) p
  unfolding both_pass
  both-pass-kept =
      λ i. passes-kept setup entries (done ++ p ∷ []) p.first (first_with setup.currencies p accounts) valid
      (traded-is p.first p.sell p.sell_amt p.buy p.buy_amt (known p.first exchange.first)) first-reads i
      && passes-kept setup entries (done ++ p ∷ []) p.second (second_with setup.currencies p accounts) valid
      (traded-is p.second p.buy p.buy_amt p.sell p.sell_amt (known p.second exchange.second)) second-reads i

  -- and with both accounts posted the balances are those with it settled
  pub AreAccounts-settled : AreAccounts setup.currencies (length setup.members) (balance_with entries (done ++ p ∷ []))
      (accounts_with setup.currencies p accounts)
  AreAccounts-settled =
      let later = balance_with entries (done ++ p ∷ []) in
      let between = λ (k c : ℕ). if k == p.first then balance_with entries (done ++ p ∷ []) k c else balance_with entries done k c in
      let once =
      AreAccounts-set setup.currencies (length setup.members) (balance_with entries done) between accounts p.first
      (first_with setup.currencies p accounts) are (known p.first exchange.first)
      (traded-is p.first p.sell p.sell_amt p.buy p.buy_amt (known p.first exchange.first))
      (λ c. first-reads c ∙ ap (λ b. if b then balance_with entries (done ++ p ∷ []) p.first c else balance_with entries done p.first c)
      (sym (eq-eqb p.first p.first refl)))
      (λ k c other. ap (λ b. if b then balance_with entries (done ++ p ∷ []) k c else balance_with entries done k c) (sym (ne_eqb k p.first other))) in
      AreAccounts-set setup.currencies (length setup.members) between later (slice_set accounts p.first (first_with setup.currencies p accounts)) p.second
      (second_with setup.currencies p accounts) once
      (subst (λ l. p.second < l) (sym (length-set accounts p.first (first_with setup.currencies p accounts))) (known p.second exchange.second))
      (traded-is p.second p.buy p.buy_amt p.sell p.sell_amt (known p.second exchange.second)) second-reads (λ k c other. others k c other (cases_eq k p.first))
    where
      none : (k c : ℕ) (b : ℤ) → (p.first == k) ≡ false → (p.second == k) ≡ false → b ≡ b +ℤ (pos (amount_bought k c p) -ℤ pos (amount_sold k c p))
      none k c b first second =
          same b ∙ sym (ap (λ t. b +ℤ (pos ((if t && (p.buy == c) then p.buy_amt else 0) + (if (p.second == k) && (p.sell == c) then p.sell_amt else 0))
          -ℤ pos ((if t && (p.sell == c) then p.sell_amt else 0) + (if (p.second == k) && (p.buy == c) then p.buy_amt else 0)))) first
          ∙ ap (λ t. b +ℤ (pos (0 + (if t && (p.sell == c) then p.sell_amt else 0)) -ℤ pos (0 + (if t && (p.buy == c) then p.buy_amt else 0)))) second)
        where
          same : (b : ℤ) → b ≡ b +ℤ (pos (0 + 0) -ℤ pos (0 + 0))
          same b = omega (arith, ints)

      others : (k c : ℕ) → (k ≡ p.second → ⊥) → (k ≡ p.first) ⊎ (k ≡ p.first → ⊥)
          → (if k == p.first then balance_with entries (done ++ p ∷ []) k c else balance_with entries done k c) ≡ balance_with entries (done ++ p ∷ []) k c
      others k c other (inl same) = ap (λ b. if b then balance_with entries (done ++ p ∷ []) k c else balance_with entries done k c) (eq-eqb k p.first same)
      others k c other (inr neither) =
          ap (λ b. if b then balance_with entries (done ++ p ∷ []) k c else balance_with entries done k c) (ne_eqb k p.first neither)
          ∙ none k c (balance_with entries done k c) (ne_eqb p.first k (λ e. neither (sym e))) (ne_eqb p.second k (λ e. other (sym e)))
          ∙ sym (balance-settled entries done p k c)

-- no balance that is kept is large
pub small-account : (entries : List Entry) (done : List Pair) (currencies : List Currency) (n : ℕ) (accounts : List Account) → IsSmall entries done
    → AreAccounts currencies n (balance_with entries done) accounts → (m : ℕ) → All (IsWithin most_total) (account_at accounts m).balances
small-account entries done currencies n accounts small are m =
    All-from_get_or (IsWithin most_total) (account_at accounts m).balances (pos 0)
    (λ c within. subst (IsWithin most_total) (sym (are.same m c))
    (difference-small (amount_received entries done m c) (amount_given entries done m c) (small.received m c) (small.given m c)))

-- nor a figure
pub small-sum : (entries : List Entry) (done : List Pair) (c : ℕ) → IsSmall entries done → (n : ℕ)
    → IsWithin (n * most_total) (sum_of_balances n entries done c)
small-sum entries done c small zero = record { above = omega (arith, ints); below = omega (arith, ints) }
small-sum entries done c small (suc n) =
    let rest = small-sum entries done c small n in
    let here =
    difference-small (amount_received entries done (n + 1) c) (amount_given entries done (n + 1) c) (small.received (n + 1) c) (small.given (n + 1) c) in
    let more = ap (λ k. sum_of_balances k entries done c) (sym (add-one n)) ∙ sum_of_balances-more entries done n c in
    subst (IsWithin (suc n * most_total)) (sym more) (sum (sum_of_balances n entries done c) (balance_with entries done (n + 1) c) rest here)
  where
    sum : (a b : ℤ) → IsWithin (n * most_total) a → IsWithin most_total b → IsWithin (suc n * most_total) (a +ℤ b)
    sum a b first second =
        let la = first.above in let ha = first.below in let lb = second.above in let hb = second.below in
        record { above = omega (arith, ints); below = omega (arith, ints) }

-- a pair's amounts are small where it is settled with the rest
pub small-pair : (entries : List Entry) (done : List Pair) (p : Pair) → IsSmall entries (done ++ p ∷ []) → (p.sell_amt ≤ most_total) × (p.buy_amt ≤ most_total)
small-pair entries done p small =
    let sell = small.given p.first p.sell in
    let buy = small.received p.first p.buy in
    let went = sum_by-append (amount_sold p.first p.sell) done (p ∷ []) in
    let one_went = sum_by-cons (amount_sold p.first p.sell) p [] in
    let came = sum_by-append (amount_bought p.first p.buy) done (p ∷ []) in
    let one_came = sum_by-cons (amount_bought p.first p.buy) p [] in
    let its_sell : p.sell_amt ≤ amount_sold p.first p.sell p =
    subst (λ b. p.sell_amt ≤ (if b && (p.sell == p.sell) then p.sell_amt else 0) + (if (p.second == p.first) && (p.buy == p.sell) then p.buy_amt else 0))
    (sym (eq-eqb p.first p.first refl))
    (subst (λ b. p.sell_amt ≤ (if b then p.sell_amt else 0) + (if (p.second == p.first) && (p.buy == p.sell) then p.buy_amt else 0))
    (sym (eq-eqb p.sell p.sell refl)) (omega arith)) in
    let its_buy : p.buy_amt ≤ amount_bought p.first p.buy p =
    subst (λ b. p.buy_amt ≤ (if b && (p.buy == p.buy) then p.buy_amt else 0) + (if (p.second == p.first) && (p.sell == p.buy) then p.sell_amt else 0))
    (sym (eq-eqb p.first p.first refl))
    (subst (λ b. p.buy_amt ≤ (if b then p.buy_amt else 0) + (if (p.second == p.first) && (p.sell == p.buy) then p.sell_amt else 0))
    (sym (eq-eqb p.buy p.buy refl)) (omega arith)) in
    (omega arith, omega arith)

-- an account with nothing in it
zeros : (f : Currency × ℤ → ℕ) → ((c : Currency) → f (c, pos 0) ≡ 0) → (cs : List Currency) (n : ℕ) → sum_by f (zip cs (replicate n (pos 0))) ≡ 0
zeros f none [] n = refl
zeros f none (c ∷ cs) zero = refl
zeros f none (c ∷ cs) (suc n) = let here = none c in let rest = zeros f none cs n in let all = sum_by-cons f (c, pos 0) (zip cs (replicate n (pos 0))) in
    omega arith

pub IsAccount-empty : (currencies : List Currency) → IsAccount currencies empty_account
IsAccount-empty currencies =
    let worth = sym (zeros worth_of (λ c. omega arith) currencies 8) in
    let debt = sym (zeros debt_of (λ c. omega arith) currencies 8) in
    let shortage = sym (zeros shortage_of (λ c. omega arith) currencies 8) in
    record {
      places = refl;
      same = λ i. record { balances = replicate 8 (pos 0); value = pos (worth i) -ℤ pos (debt i); shortage = shortage i };
    }

-- a member's value
pub value-kept : (setup : Setup) (entries : List Entry) (accounts : List Account) (m : ℕ) → IsValid setup
    → AreAccounts setup.currencies (length setup.members) (balance setup entries) accounts
    → (account_at accounts m).value ≡ value setup entries m
value-kept setup entries accounts m valid are = by (cases_lt m (length accounts))
  where
    same : (account : Account) → length setup.currencies ≤ length account.balances
        → ((c : ℕ) → slice_index_or account.balances c (pos 0) ≡ balance setup entries m c)
        → value_of setup.currencies account.balances ≡ value setup entries m
    same account many reads =
        let pairs =
        zip-same setup.currencies account.balances (balances_with setup entries (settled_pairs setup entries) m) many (simp length-balances (omega arith))
        (λ c within. reads c ∙ sym (get_or-map-range_with_len (λ d. balance setup entries m d) 0 (length setup.currencies) c c (pos 0) within (omega arith))) in
        λ i. pos (sum_by worth_of (pairs i)) -ℤ pos (sum_by debt_of (pairs i))
      where
        length-balances : length (balances_with setup entries (settled_pairs setup entries) m) ≡ length setup.currencies
        length-balances =
            length-map (range_with_len 0 (length setup.currencies)) (λ c. balance_with entries (settled_pairs setup entries) m c)
            ∙ length-range_with_len 0 (length setup.currencies)

    by : (m < length accounts) ⊎ (length accounts ≤ m) → (account_at accounts m).value ≡ value setup entries m
    by (inl known) =
        let is = are.each m known in
        let places = is.places in
        let few = (valid-currencies setup valid).1 in
        ap (λ (a : Account). a.value) is.same ∙ same (account_at accounts m) (omega arith) (λ c. are.same m c)
    by (inr past) =
        let none : account_at accounts m ≡ no_account = get_or_past accounts m no_account past in
        let few = (valid-currencies setup valid).1 in
        ap (λ (a : Account). a.value) none ∙ ap (λ (a : Account). a.value) (IsAccount-empty setup.currencies).same
        ∙ same empty_account few (λ c. zeros-read 8 c ∙ ap (λ (a : Account). slice_index_or a.balances c (pos 0)) (sym none) ∙ are.same m c)
      where
        zeros-read : (n c : ℕ) → slice_index_or (replicate n (pos 0)) c (pos 0) ≡ pos 0
        zeros-read zero c = refl
        zeros-read (suc n) zero = refl
        zeros-read (suc n) (suc c) = zeros-read n c

-- the tests once an amount is paid out
pub passes-less : (setup : Setup) (entries : List Entry) (done : List Pair) (accounts : List Account) (m c amt : ℕ) → IsValid setup → m < length accounts
    → c < length setup.currencies
    → AreAccounts setup.currencies (length setup.members) (balance_with entries done) accounts
    → passes_with setup m (after_posting setup.currencies c (neg_ℤ (pos amt)) (account_at accounts m))
    ≡ passes setup m (balances_less setup entries done m c amt)
passes-less setup entries done accounts m c amt valid known here are = by (slice_get setup.members (m - 1)) refl
  where
    places : length (balances_less setup entries done m c amt) ≡ length setup.currencies
    places =
        length-set (balances_with setup entries done m) c (balance_with entries done m c -ℤ pos amt)
        ∙ length-map (range_with_len 0 (length setup.currencies)) (λ d. balance_with entries done m d) ∙ length-range_with_len 0 (length setup.currencies)

    its : length (balances_with setup entries done m) ≡ length setup.currencies
    its = length-map (range_with_len 0 (length setup.currencies)) (λ d. balance_with entries done m d) ∙ length-range_with_len 0 (length setup.currencies)

    less : (b : ℤ) → b +ℤ neg_ℤ (pos amt) ≡ b -ℤ pos amt
    less b = omega (arith, ints)

    all : c < length (account_at accounts m).balances
    all = let is = (are.each m known).places in let few = (valid-currencies setup valid).1 in omega arith

    reads : (d : ℕ) → d < length setup.currencies → (d ≡ c) ⊎ (d ≡ c → ⊥)
        → slice_index_or (after_posting setup.currencies c (neg_ℤ (pos amt)) (account_at accounts m)).balances d (pos 0)
        ≡ slice_index_or (balances_less setup entries done m c amt) d (pos 0)
    reads d within (inl same) =
        ap (λ k. slice_index_or (after_posting setup.currencies c (neg_ℤ (pos amt)) (account_at accounts m)).balances k (pos 0)) same
        ∙ get_or-set_same (account_at accounts m).balances c _ (pos 0) all ∙ ap (λ b. b +ℤ neg_ℤ (pos amt)) (are.same m c)
        ∙ less (balance_with entries done m c)
        ∙ sym (ap (λ k. slice_index_or (balances_less setup entries done m c amt) k (pos 0)) same
        ∙ get_or-set_same (balances_with setup entries done m) c _ (pos 0) (subst (λ l. c < l) (sym its) here))
    reads d within (inr other) =
        get_or-set_other (account_at accounts m).balances c d _ (pos 0) other ∙ are.same m d
        ∙ sym (get_or-set_other (balances_with setup entries done m) c d _ (pos 0) other
        ∙ get_or-map-range_with_len (λ k. balance_with entries done m k) 0 (length setup.currencies) d d (pos 0) within (omega arith))

    by : (found : Option Member) → slice_get setup.members (m - 1) ≡ found
        → option_map_or (λ member. is_within_limits member (after_posting setup.currencies c (neg_ℤ (pos amt)) (account_at accounts m))) found false
        ≡ option_map_or (λ member. meets_limits setup.currencies member (balances_less setup entries done m c amt)) found false
    by None none = refl
    by (Some member) there =
        within-limits setup.currencies member (after_posting setup.currencies c (neg_ℤ (pos amt)) (account_at accounts m))
        (balances_less setup entries done m c amt)
        (IsAccount-posted setup.currencies (length setup.members) (account_at accounts m) c (neg_ℤ (pos amt)) (are.each m known))
        (valid-currencies setup valid).1 (short-places setup valid (m - 1) member there) places
        (λ d within. reads d within (cases_eq d c))

-- what the code reads at a place is the account there
pub account-read : (accounts : List Account) (at m : ℕ) (read : Account) → read ≡ slice_index_or accounts at read → at ≡ m → m < length accounts
    → read ≡ account_at accounts m
account-read accounts at m read is here within = is ∙ ap (λ k. slice_index_or accounts k read) here ∙ any accounts m within
  where
    any : (xs : List Account) (k : ℕ) → k < length xs → slice_index_or xs k read ≡ account_at xs k
    any [] k known = absurd (omega arith)
    any (x ∷ xs) zero known = refl
    any (x ∷ xs) (suc k) known = any xs k (omega arith)
