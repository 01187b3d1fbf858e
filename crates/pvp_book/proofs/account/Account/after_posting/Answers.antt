use Rattle.std.proofs.Common.{◌≡◌, ◌+◌, ◌-◌, arith, ap, sym, ◌∙◌, ℕ, List, pos, ◌+ℤ◌, to_z, of_z, w64, slice_index_or, slice_set}
use Rattle.pvp_types.specs.declared.setup.Currency.{Currency}
use Rattle.pvp_types.proofs.SetupLemmas.{valid-currencies}
use Rattle.pvp_book.specs.Limits.{standing_of, shortage_of}
use Rattle.pvp_book.proofs.AccountLemmas.{IsPosting, posting-fair, posting-after, posting-read, posting-value, posting-shortage, posting-shortage-fits, posting-is, value-less, value-more}
use Rattle.pvp_book.proofs.account.Account.after_posting.Goals as goal

-- the currency that the code reads is the setup's at that place
read : (cs now : List Currency) (at c : ℕ) (d : Currency) → now ≡ cs → at ≡ c → d ≡ slice_index_or now at d → slice_index_or cs c d ≡ d
read cs now at c d same here is = (λ i. slice_index_or (sym same i) (sym here i) d) ∙ sym is

pub bounds-self-from : goal.bounds-self-from
bounds-self-from c =
    let few = (valid-currencies c.args.setup.now c.requires.valid).1 in let known = c.requires.known in let same = c.from-2.ensures in omega arith

pub bounds-balances-from : goal.bounds-balances-from
bounds-balances-from c =
    let few = (valid-currencies c.args.setup.now c.requires.valid).1 in let known = c.requires.known in let same = c.from-3.ensures in omega arith

is : (c : goal.After-result-1) → IsPosting c.args.setup.now c.args.self.now c.args.c c.args.amt c.index-as_slice-from.result
is c = record {
  valid = c.requires.valid;
  account = c.requires.account;
  known = c.requires.known;
  small = c.requires.small;
  amount = c.requires.amount;
  currency =
      read c.args.setup.now.currencies c.as_slice.result.now c.from.result c.args.c c.index-as_slice-from.result c.as_slice.ensures c.from.ensures
      c.index-as_slice-from.is;
}

is-2 : (c : goal.After-standing_of) → IsPosting c.args.setup.now c.args.self.now c.args.c c.args.amt c.index-as_slice-from.result
is-2 c = record {
  valid = c.requires.valid;
  account = c.requires.account;
  known = c.requires.known;
  small = c.requires.small;
  amount = c.requires.amount;
  currency =
      read c.args.setup.now.currencies c.as_slice.result.now c.from.result c.args.c c.index-as_slice-from.result c.as_slice.ensures c.from.ensures
      c.index-as_slice-from.is;
}

is-3 : (c : goal.After-shortage_of-2) → IsPosting c.args.setup.now c.args.self.now c.args.c c.args.amt c.index-as_slice-from.result
is-3 c = record {
  valid = c.requires.valid;
  account = c.requires.account;
  known = c.requires.known;
  small = c.requires.small;
  amount = c.requires.amount;
  currency =
      read c.args.setup.now.currencies c.as_slice.result.now c.from.result c.args.c c.index-as_slice-from.result c.as_slice.ensures c.from.ensures
      c.index-as_slice-from.is;
}

pub standing_of-requires-clause-fair : goal.standing_of-requires-clause-fair
standing_of-requires-clause-fair c = posting-fair _ _ _ _ _ (is c)

pub overflow_sub-result : goal.overflow_sub-result
overflow_sub-result c = value-less c.args.self.now.value c.standing_of.result (posting-value _ _ _ _ _ (is-2 c)) c.standing_of.ensures.small

pub standing_of-requires-2-clause-fair : goal.standing_of-requires-2-clause-fair
standing_of-requires-2-clause-fair c = posting-fair _ _ _ _ _ (is-2 c)

pub standing_of-requires-2-clause-small : goal.standing_of-requires-2-clause-small
standing_of-requires-2-clause-small c = (posting-after _ _ _ _ _ (is-2 c) c.from-2.result c.from-2.ensures).1

is-4 : (c : goal.After-standing_of-2) → IsPosting c.args.setup.now c.args.self.now c.args.c c.args.amt c.index-as_slice-from.result
is-4 c = record {
  valid = c.requires.valid;
  account = c.requires.account;
  known = c.requires.known;
  small = c.requires.small;
  amount = c.requires.amount;
  currency =
      read c.args.setup.now.currencies c.as_slice.result.now c.from.result c.args.c c.index-as_slice-from.result c.as_slice.ensures c.from.ensures
      c.index-as_slice-from.is;
}

is-5 : (c : goal.After-shortage_of) → IsPosting c.args.setup.now c.args.self.now c.args.c c.args.amt c.index-as_slice-from.result
is-5 c = record {
  valid = c.requires.valid;
  account = c.requires.account;
  known = c.requires.known;
  small = c.requires.small;
  amount = c.requires.amount;
  currency =
      read c.args.setup.now.currencies c.as_slice.result.now c.from.result c.args.c c.index-as_slice-from.result c.as_slice.ensures c.from.ensures
      c.index-as_slice-from.is;
}

pub overflow_add-result : goal.overflow_add-result
overflow_add-result c =
    (value-more c.args.self.now.value c.standing_of.result c.standing_of-2.result (posting-value _ _ _ _ _ (is-4 c)) c.standing_of.ensures.small
    c.standing_of-2.ensures.small).0

pub overflow_sub-result-2 : goal.overflow_sub-result-2
overflow_sub-result-2 c =
    posting-shortage _ _ _ _ _ (is-5 c) c.shortage_of.result
    (c.shortage_of.ensures ∙ ap (λ b. shortage_of (c.index-as_slice-from.result, b)) (posting-read _ _ _ _ _ (is-5 c) c.from-2.result c.from-2.ensures))

pub overflow_add-result-2 : goal.overflow_add-result-2
overflow_add-result-2 c =
    posting-shortage-fits _ _ _ _ _ (is-3 c) _ c.shortage_of.result c.shortage_of-2.result
    (posting-after _ _ _ _ _ (is-3 c) c.from-2.result c.from-2.ensures).1 c.shortage_of-2.ensures

pub returns : goal.returns
returns c =
    let values =
    (value-more c.args.self.now.value c.standing_of.result c.standing_of-2.result (posting-value _ _ _ _ _ (is-3 c)) c.standing_of.ensures.small
    c.standing_of-2.ensures.small).1 in
    let before = posting-read _ _ _ _ _ (is-3 c) c.from-2.result c.from-2.ensures in
    let after = (posting-after _ _ _ _ _ (is-3 c) c.from-2.result c.from-2.ensures).0 in
    (λ i. record {
      balances =
          slice_set c.args.self.now.balances c.from-3.result
          (to_z w64 (of_z w64 (to_z w64 (of_z w64 (slice_index_or c.args.self.now.balances c.from-2.result (pos 0))) +ℤ to_z w64 (of_z w64 c.args.amt))));
      value = values i;
      shortage = c.args.self.now.shortage - c.shortage_of.result + c.shortage_of-2.result;
    })
    ∙ posting-is _ _ _ _ _ (is-3 c) c.from-3.result _ c.standing_of.result c.standing_of-2.result c.shortage_of.result
    c.shortage_of-2.result c.from-3.ensures after
    (c.standing_of.ensures.value ∙ ap (λ b. standing_of (c.index-as_slice-from.result, b)) before) c.standing_of-2.ensures.value
    (c.shortage_of.ensures ∙ ap (λ b. shortage_of (c.index-as_slice-from.result, b)) before) c.shortage_of-2.ensures
