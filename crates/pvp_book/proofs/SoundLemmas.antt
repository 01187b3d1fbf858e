-- What is settled was instructed by both sides, once, and is not taken back.
use Rattle.std.proofs.Common.{◌≡◌, ℕ, ◌≤◌, Bool, true, false, List, [], ◌∷◌, ◌++◌, arith, refl, ap, sym, subst, ◌∙◌, Option, Some, None, count_by, eqb-true, append_assoc, ◌⊎◌, inl, inr}
use Rattle.std.specs.Prelude.{not, ◌&&◌, ◌||◌, ◌==◌, if◌then◌else◌, nat_lt, ◌-◌}
use Rattle.std.specs.List.{cons_option, AllByRecursion}
use Rattle.std.proofs.lemmas.Bool.{and_parts, not-true, eqb-false}
use Rattle.std.proofs.lemmas.List.Elements.{filter_map-append}
use Rattle.std.proofs.lemmas.List.Folds.{list_any-append}
use Rattle.pvp_types.specs.declared.setup.Setup.{Setup}
use Rattle.pvp_types.specs.declared.command.Instruction.{Instruction}
use Rattle.pvp_types.specs.declared.command.Cmd.{Cmd}
use Rattle.pvp_types.specs.declared.command.Cmd.TheVariants.{Instruct, Rescind, Settle}
use Rattle.pvp_types.specs.declared.command.Reply.{Reply}
use Rattle.pvp_types.specs.declared.command.Reply.TheVariants.{Done, Matched, No}
use Rattle.pvp_types.specs.declared.command.Reason.TheVariants.{NotYours, UnknownMember, UnknownCurrency, BadAmount, UnknownReference, Repeated, Mismatch, Late}
use Rattle.pvp_types.specs.Instruction.{mirror}
use Rattle.pvp_book.specs.declared.entry.Entry.{Entry}
use Rattle.pvp_book.specs.declared.pair.Pair.{Pair}
use Rattle.pvp_book.specs.declared.pair.PairState.TheVariants as state
use Rattle.pvp_book.specs.Pairs.{pair_from, matched_by, pairs, matched_pairs, pair_of, has_reference, is_matched, is_rescission, has_asked, both_have_asked, is_rescinded}
use Rattle.pvp_book.specs.Settlement.{both_pass, candidates, pass, taken_by, settled_after, settled_pairs}
use Rattle.pvp_book.specs.Ledger.{state_with, state_of, is_state}
use Rattle.pvp_book.specs.Bounds.{IsWithinMatched}
use Rattle.pvp_book.specs.Answer.{Row, answer, is_refusal, on_instruct, on_mirror, on_rescind, on_pair, is_mirror, is_side, has_member, has_currency, is_amount, is_member_number, book_of}
use Rattle.pvp_book.specs.Laws.{IsExchange}
use Rattle.pvp_book.proofs.SettlementLemmas.{append-nil, settled-push, IsWithinMatched-push, IsWithinMatched-nil, same-self}
use Rattle.pvp_book.proofs.CandidateLemmas.{turned, known-longer}
use Rattle.pvp_book.proofs.Reached.{entry_of, reached}
use Rattle.pvp_book.proofs.Counts.{each-append, each-left, each-weaker, each-both, each-filter, each-passes, each-false, count-push, find-passes}

-- what a walk takes was offered
pub each-pass : (P : Pair → Type 0) (setup : Setup) (entries : List Entry) (done : List Pair) (most : ℕ) (offered : List Pair)
    → AllByRecursion P offered → AllByRecursion P (pass setup entries done most offered)
unfolding pass
each-pass P setup entries done most [] all = tt
each-pass P setup entries done most (p ∷ rest) all =
    by (nat_lt 0 most && both_pass setup entries (done ++ p ∷ []) p) all.0
    (each-pass P setup entries (done ++ p ∷ []) (most - 1) rest all.1) (each-pass P setup entries done most rest all.1)
  where
    by : (b : Bool) → P p → AllByRecursion P (pass setup entries (done ++ p ∷ []) (most - 1) rest) → AllByRecursion P (pass setup entries done most rest)
        → AllByRecursion P (if b then p ∷ pass setup entries (done ++ p ∷ []) (most - 1) rest else pass setup entries done most rest)
    by true here more _ = (here, more)
    by false here _ more = more

-- what a command takes was a candidate
each-taken : (P : Pair → Type 0) (setup : Setup) (entries : List Entry) (done : List Pair) (cmd : Cmd)
    → AllByRecursion P (candidates entries done) → AllByRecursion P (taken_by setup entries done cmd)
unfolding taken_by
each-taken P setup entries done (Settle most) all = each-pass P setup entries done most (candidates entries done) all
each-taken P setup entries done _ all = tt

-- what is so of each matched pair is so of each settled one
each-settled-after : (P : Pair → Type 0) (setup : Setup) (entries : List Entry) (done : List Pair) (rest : List Entry)
    → AllByRecursion P done → AllByRecursion P (matched_pairs (entries ++ rest)) → AllByRecursion P (settled_after setup entries done rest)
unfolding settled_after
each-settled-after P setup entries done [] so_far all = so_far
each-settled-after P setup entries done (e ∷ rest) so_far all =
    let split = filter_map-append (λ (x : Entry). matched_by x.client x.cmd x.reply) entries (e ∷ rest) in
    let first = each-left P (matched_pairs entries) (matched_pairs (e ∷ rest)) (subst (AllByRecursion P) split all) in
    let taken =
    each-taken P setup entries done e.cmd (each-filter P (λ p. not (has_reference done p.reference) && not (both_have_asked entries p))
    (matched_pairs entries) first) in
    each-settled-after P setup (entries ++ e ∷ []) (done ++ taken_by setup entries done e.cmd) rest
    (each-append P done (taken_by setup entries done e.cmd) so_far taken)
    (subst (λ es. AllByRecursion P (matched_pairs es)) (sym (append_assoc entries (e ∷ []) rest)) all)

pub each-settled : (P : Pair → Type 0) (setup : Setup) (entries : List Entry) → AllByRecursion P (matched_pairs entries)
    → AllByRecursion P (settled_pairs setup entries)
unfolding settled_pairs
each-settled P setup entries all = each-settled-after P setup [] [] entries tt all

-- each pair's reference is among the pairs' references
pub each-among : (ps : List Pair) → AllByRecursion (λ p. has_reference ps p.reference ≡ true) ps
each-among [] = tt
each-among (p ∷ ps) = (
  ap (λ b. b || has_reference ps p.reference) (same-self p.reference),
  each-weaker (λ q. has_reference ps q.reference ≡ true) (λ q. has_reference (p ∷ ps) q.reference ≡ true) ps
      (λ q there. by (p.reference == q.reference) (has_reference ps q.reference) there) (each-among ps),
)
  where
    by : (a b : Bool) → b ≡ true → (a || b) ≡ true
    by true b there = refl
    by false b there = there

-- What a matching instruction was tested for: its pair waits unmatched, and its words are the mirror.
record Matches (setup : Setup) (entries : List Entry) (client : ℕ) (asked : Instruction) : Type 0 where
  sender : has_member setup client ≡ true
  known : has_member setup asked.other ≡ true
  members : (asked.other == client) ≡ false
  currencies : (asked.sell == asked.buy) ≡ false
  pair : Pair
  there : pair_of entries asked.reference ≡ Some pair
  waits : is_state (state_of setup entries pair) state.Unmatched ≡ true
  mirror : is_mirror pair client asked ≡ true

mirrors : (setup : Setup) (entries : List Entry) (client : ℕ) (asked : Instruction) (found : Option Pair)
    → on_mirror setup entries client found asked ≡ Matched
    → (p : Pair) × (found ≡ Some p) × (is_state (state_of setup entries p) state.Unmatched ≡ true) × (is_mirror p client asked ≡ true)
mirrors setup entries client asked None e = absurd (cc e)
mirrors setup entries client asked (Some p) e =
    let both = by (client == p.first) (is_state (state_of setup entries p) state.Unmatched) (is_mirror p client asked) e in
    (p, refl, both.0, both.1)
  where
    by : (own waits mirror : Bool) → (if own || not waits then No Repeated else if not mirror then No Mismatch else Matched) ≡ Matched
        → (waits ≡ true) × (mirror ≡ true)
    by false true true e = (refl, refl)
    by _ _ _ e = absurd (cc e)

matches : (setup : Setup) (entries : List Entry) (client : ℕ) (asked : Instruction)
    → on_instruct setup entries client asked ≡ Matched
    → Matches setup entries client asked
matches setup entries client asked e =
    let tests =
    by (is_member_number client) (has_member setup client) (has_member setup asked.other) (asked.other == client) (has_currency setup asked.sell)
    (has_currency setup asked.buy) (asked.sell == asked.buy)
    (is_amount asked.sell_amt && is_amount asked.buy_amt) (asked.reference == 0) (on_mirror setup entries client (pair_of entries asked.reference) asked) e in
    let found = mirrors setup entries client asked (pair_of entries asked.reference) tests.4 in
    record { sender = tests.0; known = tests.1; members = tests.2; currencies = tests.3; pair = found.0; there = found.1; waits = found.2; mirror = found.3 }
  where
    by : (yours a b c d f g small none : Bool) (rest : Reply)
        → (if not yours then No NotYours else if not (a && (b && not c)) then No UnknownMember else if not (d && (f && not g)) then No UnknownCurrency
        else if not small then No BadAmount else if none then No UnknownReference else rest) ≡ Matched
        → (a ≡ true) × (b ≡ true) × (c ≡ false) × (g ≡ false) × (rest ≡ Matched)
    by true true true false true true false true false rest e = (refl, refl, refl, refl, e)
    by _ _ _ _ _ _ _ _ _ rest e = absurd (cc e)

-- an unmatched pair is not among the matched
unmatched : (entries : List Entry) (done : List Pair) (p : Pair) → is_state (state_with entries done p) state.Unmatched ≡ true → is_matched entries p ≡ false
unmatched entries done p waits = by (has_reference done p.reference) (is_rescinded entries p) (is_matched entries p) waits
  where
    by : (a b c : Bool)
        → is_state (if a then state.Settled else if b then state.Rescinded else if c then state.Matched else state.Unmatched) state.Unmatched ≡ true → c ≡ false
    by false false false e = refl
    by _ _ _ e = absurd (cc e)

-- the pair that a matching instruction names is the one that waited
same-pair : (p : Pair) (client : ℕ) (asked : Instruction) → (asked.reference == p.reference) ≡ true
    → is_mirror p client asked ≡ true
    → p ≡ pair_from asked.other (mirror client asked)
same-pair p client asked same mirror =
    let a = and_parts (p.first == asked.other) _ mirror in
    let b = and_parts (p.second == client) _ a.1 in
    let c = and_parts (p.sell == asked.buy) _ b.1 in
    let d = and_parts (p.sell_amt == asked.buy_amt) _ c.1 in
    let f = and_parts (p.buy == asked.sell) (p.buy_amt == asked.sell_amt) d.1 in
    let r = sym (eqb-true asked.reference p.reference same) in
    let first = eqb-true p.first asked.other a.0 in
    let second = eqb-true p.second client b.0 in
    let sold = eqb-true p.sell asked.buy c.0 in
    let sold_amt = eqb-true p.sell_amt asked.buy_amt d.0 in
    let bought = eqb-true p.buy asked.sell f.0 in
    let bought_amt = eqb-true p.buy_amt asked.sell_amt f.1 in
    λ i. record { reference = r i; first = first i; second = second i; sell = sold i; sell_amt = sold_amt i; buy = bought i; buy_amt = bought_amt i }

-- a pair that an entry newly matches
record NewPair (setup : Setup) (entries : List Entry) (made : Option Pair) : Type 0 where
  pair : Pair
  is : made ≡ Some pair
  exchange : IsExchange setup pair
  known : pair_of entries pair.reference ≡ Some pair
  fresh : has_reference (matched_pairs entries) pair.reference ≡ false

new-pair : (setup : Setup) (entries : List Entry) (client : ℕ) (asked : Instruction)
    → Matches setup entries client asked
    → NewPair setup entries
    (Some (pair_from asked.other (mirror client asked)))
new-pair setup entries client asked is =
    let named = find-passes (λ (p : Pair). asked.reference == p.reference) (pairs entries) is.pair is.there in
    let same = same-pair is.pair client asked named is.mirror in
    record {
      pair = pair_from asked.other (mirror client asked);
      is = refl;
      exchange = record {
        first = is.known;
        second = is.sender;
        members = eqb-false asked.other client is.members;
        currencies = λ e. eqb-false asked.sell asked.buy is.currencies (sym e);
      };
      known = is.there ∙ ap Some same;
      fresh =
          ap (λ r. has_reference (matched_pairs entries) r) (eqb-true asked.reference is.pair.reference named)
          ∙ unmatched entries (settled_pairs setup entries) is.pair is.waits;
    }

newly-matched : (setup : Setup) (entries : List Entry) (client : ℕ) (cmd : Cmd)
    → (matched_by client cmd (answer setup entries client cmd) ≡ None) ⊎ NewPair setup entries (matched_by client cmd (answer setup entries client cmd))
unfolding answer
newly-matched setup entries client (Instruct asked) =
    by (on_instruct setup entries client asked) refl
  where
    by : (r : Reply) → on_instruct setup entries client asked ≡ r
        → (matched_by client (Instruct asked) r ≡ None)
        ⊎ NewPair setup entries (matched_by client (Instruct asked) r)
    by Matched e =
        inr (new-pair setup entries client asked (matches setup entries client asked e))
    by _ e = inl refl
newly-matched setup entries client _ = inl refl

each-always : (P : Pair → Type 0) (ps : List Pair) → ((p : Pair) → P p) → AllByRecursion P ps
each-always P [] always = tt
each-always P (p ∷ ps) always = (always p, each-always P ps always)

-- what is taken back is not settled
late-free : (setup : Setup) (entries : List Entry) (client reference : ℕ) → is_refusal (on_rescind setup entries client reference) ≡ false
    → has_reference (settled_pairs setup entries) reference ≡ false
late-free setup entries client reference accepted =
    by (is_member_number client) (has_member setup client) (pair_of entries reference) refl accepted
  where
    found : (p : Pair) → pair_of entries reference ≡ Some p → is_refusal (on_pair setup entries client (Some p)) ≡ false
        → has_reference (settled_pairs setup entries) reference ≡ false
    found p there accepted =
        let named = eqb-true reference p.reference (find-passes (λ (q : Pair). reference == q.reference) (pairs entries) p there) in
        ap (λ r. has_reference (settled_pairs setup entries) r) named ∙ tests (is_side entries p client)
        (has_reference (settled_pairs setup entries) p.reference)
        (is_rescinded entries p) accepted
      where
        tests : (side there back : Bool) → is_refusal (if not side then No NotYours else if there || back then No Late else Done) ≡ false → there ≡ false
        tests false there back e = absurd (cc e)
        tests true true back e = absurd (cc e)
        tests true false back e = refl

    by : (yours member : Bool) (pair : Option Pair) → pair_of entries reference ≡ pair
        → is_refusal (if not yours then No NotYours else if not member then No UnknownMember else on_pair setup entries client pair) ≡ false
        → has_reference (settled_pairs setup entries) reference ≡ false
    by true true (Some p) is e = found p is e
    by _ _ _ is e = absurd (cc e)

-- so an accepted command takes no settled pair back
none-taken-back : (setup : Setup) (entries : List Entry) (client : ℕ) (cmd : Cmd) → is_refusal (answer setup entries client cmd) ≡ false
    → AllByRecursion (λ p. is_rescission p.reference cmd ≡ false) (settled_pairs setup entries)
unfolding answer
none-taken-back setup entries client (Rescind reference) accepted =
    each-weaker (λ p. (p.reference == reference) ≡ false) (λ p. (reference == p.reference) ≡ false) (settled_pairs setup entries)
    (λ p e. turned reference p.reference ∙ e)
    (each-false (λ (p : Pair). p.reference == reference) (settled_pairs setup entries) (late-free setup entries client reference accepted))
none-taken-back setup entries client _ accepted = each-always (λ p. false ≡ false) (settled_pairs setup entries) (λ p. refl)

-- nor one that it settles
none-back-taken : (setup : Setup) (entries : List Entry) (done : List Pair) (cmd : Cmd)
    → AllByRecursion (λ p. is_rescission p.reference cmd ≡ false) (taken_by setup entries done cmd)
unfolding taken_by
none-back-taken setup entries done (Settle most) = each-always (λ p. false ≡ false) (pass setup entries done most (candidates entries done)) (λ p. refl)
none-back-taken setup entries done _ = tt

asked-stays : (entries : List Entry) (e : Entry) (p : Pair) → is_rescission p.reference e.cmd ≡ false → both_have_asked entries p ≡ false
    → both_have_asked (entries ++ e ∷ []) p ≡ false
asked-stays entries e p other kept =
    ap (λ b. b && has_asked (entries ++ e ∷ []) p.second p.reference) (one p.first)
    ∙ ap (λ b. has_asked entries p.first p.reference && b) (one p.second) ∙ kept
  where
    none : (a r b : Bool) → r ≡ false → (b || ((a && r) || false)) ≡ b
    none a true b e = absurd (cc e)
    none true false true e = refl
    none true false false e = refl
    none false false true e = refl
    none false false false e = refl

    one : (client : ℕ) → has_asked (entries ++ e ∷ []) client p.reference ≡ has_asked entries client p.reference
    one client =
        list_any-append (λ (x : Entry). (x.client == client) && is_rescission p.reference x.cmd) entries (e ∷ [])
        ∙ none (e.client == client) (is_rescission p.reference e.cmd) (has_asked entries client p.reference) other

-- what is so of every book's matched and settled pairs
pub record IsSoundBook (setup : Setup) (entries : List Entry) : Type 0 where
  pub exchange : AllByRecursion (IsExchange setup) (matched_pairs entries)
  pub known : AllByRecursion (λ p. pair_of entries p.reference ≡ Some p) (matched_pairs entries)
  pub once : (r : ℕ) → count_by (λ p. p.reference == r) (matched_pairs entries) ≤ 1
  pub within : IsWithinMatched (settled_pairs setup entries) (candidates entries (settled_pairs setup entries)) (matched_pairs entries)
  pub kept : AllByRecursion (λ p. both_have_asked entries p ≡ false) (settled_pairs setup entries)

-- the matched pairs' part of a step
record MatchedPart (setup : Setup) (entries longer : List Entry) (ps : List Pair) : Type 0 where
  exchange : AllByRecursion (IsExchange setup) ps
  known : AllByRecursion (λ p. pair_of longer p.reference ≡ Some p) ps
  once : (r : ℕ) → count_by (λ p. p.reference == r) ps ≤ 1

matched-part : (setup : Setup) (entries : List Entry) (client : ℕ) (cmd : Cmd) → IsSoundBook setup entries
    → MatchedPart setup entries (entries ++ entry_of setup entries client cmd ∷ [])
    (matched_pairs entries ++ cons_option (matched_by client cmd (answer setup entries client cmd)) [])
matched-part setup entries client cmd is = by (newly-matched setup entries client cmd)
  where
    longer : AllByRecursion (λ p. pair_of (entries ++ entry_of setup entries client cmd ∷ []) p.reference ≡ Some p) (matched_pairs entries)
    longer =
        each-weaker (λ p. pair_of entries p.reference ≡ Some p) (λ p. pair_of (entries ++ entry_of setup entries client cmd ∷ []) p.reference ≡ Some p)
        (matched_pairs entries)
        (λ p known. known-longer entries (entry_of setup entries client cmd) p known) is.known

    by : (matched_by client cmd (answer setup entries client cmd) ≡ None) ⊎ NewPair setup entries (matched_by client cmd (answer setup entries client cmd))
        → MatchedPart setup entries (entries ++ entry_of setup entries client cmd ∷ [])
        (matched_pairs entries ++ cons_option (matched_by client cmd (answer setup entries client cmd)) [])
    by (inl none) =
        subst (MatchedPart setup entries (entries ++ entry_of setup entries client cmd ∷ []))
        (sym (ap (λ o. matched_pairs entries ++ cons_option o []) none ∙ append-nil (matched_pairs entries)))
        (record { exchange = is.exchange; known = longer; once = is.once })
    by (inr new) =
        subst (MatchedPart setup entries (entries ++ entry_of setup entries client cmd ∷ [])) (sym (ap (λ o. matched_pairs entries ++ cons_option o []) new.is))
        (record {
          exchange = each-append (IsExchange setup) (matched_pairs entries) (new.pair ∷ []) is.exchange (new.exchange, tt);
          known =
              each-append (λ p. pair_of (entries ++ entry_of setup entries client cmd ∷ []) p.reference ≡ Some p) (matched_pairs entries) (new.pair ∷ []) longer
              (known-longer entries (entry_of setup entries client cmd) new.pair new.known, tt);
          once = λ r. count-push (λ (p : Pair). p.reference == r) (matched_pairs entries) new.pair (is.once r)
              (λ same. ap (λ n. has_reference (matched_pairs entries) n) (sym (eqb-true new.pair.reference r same)) ∙ new.fresh);
        })

IsSoundBook-nil : (setup : Setup) → IsSoundBook setup []
unfolding settled_pairs settled_after
IsSoundBook-nil setup = record { exchange = tt; known = tt; once = λ r. omega arith; within = IsWithinMatched-nil; kept = tt }

pub IsSoundBook-push : (setup : Setup) (entries : List Entry) (client : ℕ) (cmd : Cmd) → IsSoundBook setup entries
    → is_refusal (answer setup entries client cmd) ≡ false
    → IsSoundBook setup (entries ++ entry_of setup entries client cmd ∷ [])
IsSoundBook-push setup entries client cmd is accepted =
    let e = entry_of setup entries client cmd in
    let done = settled_pairs setup entries in
    let taken = taken_by setup entries done cmd in
    let pairs_now = sym (filter_map-append (λ (x : Entry). matched_by x.client x.cmd x.reply) entries (e ∷ [])) in
    let part = subst (MatchedPart setup entries (entries ++ e ∷ [])) pairs_now (matched-part setup entries client cmd is) in
    let offered =
    each-both (λ p. p ≡ p) (λ p. (not (has_reference done p.reference) && not (both_have_asked entries p)) ≡ true) (λ p. both_have_asked entries p ≡ false)
    (candidates entries done)
    (λ p _ keeps. not-true (both_have_asked entries p) (and_parts _ _ keeps).1) (each-always (λ p. p ≡ p) (candidates entries done) (λ p. refl))
    (each-passes (λ p. not (has_reference done p.reference) && not (both_have_asked entries p)) (matched_pairs entries)) in
    let kept =
    each-append (λ p. both_have_asked entries p ≡ false) done taken is.kept
    (each-taken (λ p. both_have_asked entries p ≡ false) setup entries done cmd offered) in
    let others =
    each-append (λ p. is_rescission p.reference cmd ≡ false) done taken (none-taken-back setup entries client cmd accepted)
    (none-back-taken setup entries done cmd) in
    record {
      exchange = part.exchange;
      known = part.known;
      once = part.once;
      within = subst (λ now. IsWithinMatched now (candidates (entries ++ e ∷ []) now) (matched_pairs (entries ++ e ∷ []))) (sym (settled-push setup entries e))
          (IsWithinMatched-push setup entries done e is.within);
      kept = subst (AllByRecursion (λ p. both_have_asked (entries ++ e ∷ []) p ≡ false)) (sym (settled-push setup entries e))
          (each-both (λ p. is_rescission p.reference cmd ≡ false) (λ p. both_have_asked entries p ≡ false)
          (λ p. both_have_asked (entries ++ e ∷ []) p ≡ false) (done ++ taken)
          (λ p other asked. asked-stays entries e p other asked) others kept);
    }

pub sound : (setup : Setup) (history : List Row) → IsSoundBook setup (book_of setup history)
sound setup history =
    reached setup (IsSoundBook setup) (IsSoundBook-nil setup) (λ entries client cmd is accepted. IsSoundBook-push setup entries client cmd is accepted) history
