-- What is kept of each pair after one more entry, and after one more pair is settled.
use Rattle.std.proofs.Common.{◌≡◌, ℕ, Bool, true, false, cond, List, [], ◌∷◌, ◌++◌, filter, find, map, nat_eq, refl, ap, sym, subst, ◌∙◌, Option, Some, None}
use Rattle.std.specs.Prelude.{◌&&◌, ◌||◌, ◌==◌, IfSome}
use Rattle.std.specs.List.{cons_option, AllByRecursion}
use Rattle.std.specs.Option.{option_map, option_map_or}
use Rattle.std.specs.Map.{lookup}
use Rattle.std.proofs.lemmas.Bool.{eq-eqb, ne_eqb, eqb-true, eqb-false}
use Rattle.std.proofs.lemmas.List.Folds.{list_any-append}
use Rattle.std.proofs.lemmas.List.Elements.{filter_map-append}
use Rattle.indexmap.specs.IndexMap.{insert_entry}
use Rattle.pvp_types.specs.declared.command.Cmd.{Cmd}
use Rattle.pvp_types.specs.declared.command.Cmd.TheVariants.{Instruct, Rescind}
use Rattle.pvp_types.specs.declared.command.Reply.{Reply}
use Rattle.pvp_types.specs.declared.command.Reply.TheVariants.{Done, Matched}
use Rattle.pvp_book.specs.declared.entry.Entry.{Entry}
use Rattle.pvp_book.specs.declared.pair.Pair.{Pair}
use Rattle.pvp_book.specs.declared.kept_pair.KeptPair.{KeptPair}
use Rattle.pvp_book.specs.Pairs.{opened_by, pairs, matched_by, matched_pairs, pair_of, has_reference, is_matched, is_rescission, has_asked}
use Rattle.pvp_book.specs.KeptPair.{pair_with, by_reference, just_opened, still_waits, once_settled, noted_by, pair_noted, named_by, pair_in, pair_put, is_waiting}
use Rattle.pvp_book.specs.Kept.{waiting_pairs}
use Rattle.pvp_book.proofs.Counts.{find-passes, or-false}
use Rattle.pvp_book.proofs.PassLemmas.{AreDistinct, filter-same}
use Rattle.pvp_book.proofs.SettlementLemmas.{append-nil, same-self}
use Rattle.pvp_book.proofs.CandidateLemmas.{turned}

-- what the entries say of a reference with one more
matched-more : (entries : List Entry) (e : Entry) (r : ℕ)
    → has_reference (matched_pairs (entries ++ e ∷ [])) r
    ≡ (has_reference (matched_pairs entries) r || has_reference (cons_option (matched_by e.client e.cmd e.reply) []) r)
matched-more entries e r =
    ap (λ ps. has_reference ps r) (filter_map-append (λ (x : Entry). matched_by x.client x.cmd x.reply) entries (e ∷ []))
    ∙ list_any-append (λ (p : Pair). p.reference == r) (matched_pairs entries) (cons_option (matched_by e.client e.cmd e.reply) [])

pub asked-more : (entries : List Entry) (e : Entry) (m r : ℕ)
    → has_asked (entries ++ e ∷ []) m r ≡ (has_asked entries m r || ((e.client == m) && is_rescission r e.cmd))
asked-more entries e m r =
    list_any-append (λ (x : Entry). (x.client == m) && is_rescission r x.cmd) entries (e ∷ [])
    ∙ ap (λ b. has_asked entries m r || b) (or-false ((e.client == m) && is_rescission r e.cmd))

-- an entry says nothing of a reference: it neither matches its pair nor takes it back
record IsOther (client : ℕ) (cmd : Cmd) (reply : Reply) (k : ℕ) : Type 0 where
  matched : has_reference (cons_option (matched_by client cmd reply) []) k ≡ false
  asked : is_rescission k cmd ≡ false

is-other : (client : ℕ) (cmd : Cmd) (reply : Reply) (k : ℕ) → (named_by cmd ≡ Some k → ⊥) → IsOther client cmd reply k
is-other client (Instruct asked) Matched k apart =
    record { matched = ap (λ b. b || false) (ne_eqb asked.reference k (λ e. apart (ap Some e))); asked = refl }
is-other client (Rescind reference) reply k apart = record { matched = refl; asked = ne_eqb reference k (λ e. apart (ap Some e)) }
is-other client (Instruct asked) _ k apart = record { matched = refl; asked = refl }
is-other client _ reply k apart = record { matched = refl; asked = refl }

-- a pair with what came of it
abbrev pub as_kept : Pair → Bool → Bool → Bool → Bool → KeptPair
as_kept p matched settled first second = record { pair = p; matched = matched; settled = settled; first_back = first; second_back = second }

or-true : (b : Bool) → (b || true) ≡ true
or-true true = refl
or-true false = refl

or-none : (a b : Bool) → (b || (a && false)) ≡ b
or-none true b = or-false b
or-none false b = or-false b

-- of a pair that an entry does not name the same is kept
pub kept-other : (entries : List Entry) (e : Entry) (done : List Pair) (p : Pair) → (named_by e.cmd ≡ Some p.reference → ⊥)
    → pair_with entries done p ≡ pair_with (entries ++ e ∷ []) done p
kept-other entries e done p apart =
    let other = is-other e.client e.cmd e.reply p.reference apart in
    let m = matched-more entries e p.reference ∙ ap (λ b. is_matched entries p || b) other.matched ∙ or-false (is_matched entries p) in
    let a =
    λ (k : ℕ). asked-more entries e k p.reference ∙ ap (λ b. has_asked entries k p.reference || ((e.client == k) && b)) other.asked
    ∙ or-none (e.client == k) (has_asked entries k p.reference) in
    λ i. as_kept p (sym m i) (has_reference done p.reference) (sym (a p.first) i) (sym (a p.second) i)

-- of a pair that it names it is noted
noted-longer : (p : Pair) (matched settled first second : Bool) (client : ℕ) (cmd : Cmd) (reply : Reply) → named_by cmd ≡ Some p.reference
    → noted_by client cmd reply (as_kept p matched settled first second)
    ≡ as_kept p (matched || has_reference (cons_option (matched_by client cmd reply) []) p.reference) settled
    (first || ((client == p.first) && is_rescission p.reference cmd)) (second || ((client == p.second) && is_rescission p.reference cmd))
noted-longer p matched settled first second client (Instruct asked) Matched named =
    let same : asked.reference ≡ p.reference = cc in
    λ i. as_kept p (sym (ap (λ b. matched || (b || false)) (eq-eqb asked.reference p.reference same) ∙ or-true matched) i) settled
    (sym (or-none (client == p.first) first) i) (sym (or-none (client == p.second) second) i)
noted-longer p matched settled first second client (Rescind reference) reply named =
    let same : reference ≡ p.reference = cc in
    let said = λ (b c : Bool). ap (λ t. b || (c && t)) (eq-eqb reference p.reference same) ∙ and-true b c in
    λ i. as_kept p (sym (or-false matched) i) settled (sym (said first (client == p.first)) i) (sym (said second (client == p.second)) i)
  where
    and-true : (a b : Bool) → (a || (b && true)) ≡ (a || b)
    and-true a true = refl
    and-true a false = refl
noted-longer p matched settled first second client (Instruct asked) _ named =
    λ i. as_kept p (sym (or-false matched) i) settled (sym (or-none (client == p.first) first) i) (sym (or-none (client == p.second) second) i)
noted-longer p matched settled first second client _ reply named = absurd (cc named)

kept-named : (entries : List Entry) (e : Entry) (done : List Pair) (p : Pair) → named_by e.cmd ≡ Some p.reference
    → noted_by e.client e.cmd e.reply (pair_with entries done p) ≡ pair_with (entries ++ e ∷ []) done p
kept-named entries e done p named =
    noted-longer p (is_matched entries p) (has_reference done p.reference) (has_asked entries p.first p.reference) (has_asked entries p.second p.reference)
    e.client e.cmd e.reply named
    ∙ (λ i. as_kept p (sym (matched-more entries e p.reference) i) (has_reference done p.reference) (sym (asked-more entries e p.first p.reference) i)
    (sym (asked-more entries e p.second p.reference) i))

-- an entry that opens a pair names it, and says no more of it
record Opens (client : ℕ) (cmd : Cmd) (reply : Reply) (p : Pair) : Type 0 where
  named : named_by cmd ≡ Some p.reference
  noted : (k : KeptPair) → noted_by client cmd reply k ≡ k

opened-says : (client : ℕ) (cmd : Cmd) (reply : Reply) (p : Pair) → opened_by client cmd reply ≡ Some p → Opens client cmd reply p
opened-says client (Instruct asked) Done p opened =
    let same : asked.reference ≡ p.reference = cc in record { named = ap Some same; noted = λ k. refl }
opened-says client (Instruct asked) _ p opened = absurd (cc opened)
opened-says client _ reply p opened = absurd (cc opened)

-- the pair that a command names
abbrev pub at_named : List Entry → Option ℕ → Option Pair
at_named entries None = None
at_named entries (Some r) = pair_of entries r

-- where none is found, none has the reference
pub not-found : (ps : List Pair) (r : ℕ) → find (λ p. r == p.reference) ps ≡ None → has_reference ps r ≡ false
not-found [] r none = refl
not-found (p ∷ ps) r none = by (r == p.reference) refl none (λ rest. not-found ps r rest)
  where
    by : (b : Bool) → (r == p.reference) ≡ b → cond b (Some p) (find (λ q. r == q.reference) ps) ≡ None
        → (find (λ q. r == q.reference) ps ≡ None → has_reference ps r ≡ false) → ((p.reference == r) || has_reference ps r) ≡ false
    by true is none rest = absurd (cc none)
    by false is none rest = ap (λ b. b || has_reference ps r) (turned p.reference r ∙ is) ∙ rest none

pub found-reference : (entries : List Entry) (r : ℕ) (p : Pair) → pair_of entries r ≡ Some p → r ≡ p.reference
found-reference entries r p found = eqb-true r p.reference (find-passes (λ (q : Pair). r == q.reference) (pairs entries) p found)

-- the pair of a reference is found among those that are kept
pub lookup-kept : (t : Pair → KeptPair) (ps : List Pair) (r : ℕ) → lookup (nat_eq r) (by_reference t ps) ≡ option_map t (find (λ p. r == p.reference) ps)
lookup-kept t [] r = refl
lookup-kept t (p ∷ ps) r = ap (cond (r == p.reference) (Some (t p))) (lookup-kept t ps r) ∙ by (r == p.reference)
  where
    by : (b : Bool) → cond b (Some (t p)) (option_map t (find (λ q. r == q.reference) ps)) ≡ option_map t (cond b (Some p) (find (λ q. r == q.reference) ps))
    by true = refl
    by false = refl

-- pairs of which something is kept, and of which something else is kept of the one of a reference
module _ (t u : Pair → KeptPair) (r : ℕ) (others : (p : Pair) → (p.reference ≡ r → ⊥) → t p ≡ u p) where
  kept-apart : (ps : List Pair) → has_reference ps r ≡ false → by_reference t ps ≡ by_reference u ps
  kept-apart [] none = refl
  kept-apart (p ∷ ps) none = by (p.reference == r) refl none (λ rest. kept-apart ps rest)
    where
      by : (b : Bool) → (p.reference == r) ≡ b → (b || has_reference ps r) ≡ false → (has_reference ps r ≡ false → by_reference t ps ≡ by_reference u ps)
          → by_reference t (p ∷ ps) ≡ by_reference u (p ∷ ps)
      by true is none rest = absurd (cc none)
      by false is none rest = λ i. (p.reference, others p (eqb-false p.reference r is) i) ∷ rest none i

  put-there : (ps : List Pair) (p : Pair) → AreDistinct ps → find (λ q. r == q.reference) ps ≡ Some p
      → insert_entry nat_eq (by_reference t ps) r (u p) ≡ by_reference u ps
  unfolding AreDistinct
  put-there [] p are found = absurd (cc found)
  put-there (q ∷ ps) p are found = by (r == q.reference) refl found (λ rest. put-there ps p are.1 rest)
    where
      by : (b : Bool) → (r == q.reference) ≡ b → cond b (Some q) (find (λ x. r == x.reference) ps) ≡ Some p
          → (find (λ x. r == x.reference) ps ≡ Some p → insert_entry nat_eq (by_reference t ps) r (u p) ≡ by_reference u ps)
          → cond b ((q.reference, u p) ∷ by_reference t ps) ((q.reference, t q) ∷ insert_entry nat_eq (by_reference t ps) r (u p)) ≡ by_reference u (q ∷ ps)
      by true is found rest =
          let same : p ≡ q = cc found in
          let alone = subst (λ k. has_reference ps k ≡ false) (sym (eqb-true r q.reference is)) are.0 in
          λ i. (q.reference, u (same i)) ∷ kept-apart ps alone i
      by false is found rest = λ i. (q.reference, others q (λ e. eqb-false r q.reference is (sym e)) i) ∷ rest found i

  put-last : (ps : List Pair) (p : Pair) → r ≡ p.reference → find (λ q. r == q.reference) ps ≡ None
      → insert_entry nat_eq (by_reference t ps) p.reference (u p) ≡ by_reference u (ps ++ p ∷ [])
  put-last [] p is none = refl
  put-last (q ∷ ps) p is none = by (r == q.reference) refl none (λ rest. put-last ps p is rest)
    where
      by : (b : Bool) → (r == q.reference) ≡ b → cond b (Some q) (find (λ x. r == x.reference) ps) ≡ None
          → (find (λ x. r == x.reference) ps ≡ None → insert_entry nat_eq (by_reference t ps) p.reference (u p) ≡ by_reference u (ps ++ p ∷ []))
          → insert_entry nat_eq (by_reference t (q ∷ ps)) p.reference (u p) ≡ by_reference u (q ∷ ps ++ p ∷ [])
      by true found none rest = absurd (cc none)
      by false found none rest =
          ap (λ b. cond b ((q.reference, u p) ∷ by_reference t ps) ((q.reference, t q) ∷ insert_entry nat_eq (by_reference t ps) p.reference (u p)))
          (ap (λ k. k == q.reference) (sym is) ∙ found)
          ∙ (λ i. (q.reference, others q (λ e. eqb-false r q.reference found (sym e)) i) ∷ rest none i)

-- What is kept of the named pair, put in its place, makes what is kept what the entries say with one more.
pub record IsPut (entries : List Entry) (e : Entry) (done : List Pair) (after : Option KeptPair) : Type 0 where
  pub put : pair_put (by_reference (pair_with entries done) (pairs entries)) after
      ≡ by_reference (pair_with (entries ++ e ∷ []) done) (pairs (entries ++ e ∷ []))
  pub own : IfSome after (λ k. named_by e.cmd ≡ Some k.pair.reference)

-- so does what is noted of it, where a pair that is opened is new
pub noted-put : (entries : List Entry) (e : Entry) (done : List Pair) → AreDistinct (pairs entries)
    → ((p : Pair) → opened_by e.client e.cmd e.reply ≡ Some p → (pair_of entries p.reference ≡ None) × (pair_with entries done p ≡ just_opened p))
    → IsPut entries e done (pair_noted e.client e.cmd e.reply (option_map (pair_with entries done) (at_named entries (named_by e.cmd))))
noted-put entries e done are new = by (opened_by e.client e.cmd e.reply) refl (named_by e.cmd) refl
  where
    longer : (opened : Option Pair) → opened_by e.client e.cmd e.reply ≡ opened
        → by_reference (pair_with (entries ++ e ∷ []) done) (pairs entries ++ cons_option opened [])
        ≡ by_reference (pair_with (entries ++ e ∷ []) done) (pairs (entries ++ e ∷ []))
    longer opened is =
        ap (by_reference (pair_with (entries ++ e ∷ []) done))
        (sym (filter_map-append (λ (x : Entry). opened_by x.client x.cmd x.reply) entries (e ∷ []) ∙ ap (λ o. pairs entries ++ cons_option o []) is))

    none-longer : opened_by e.client e.cmd e.reply ≡ None
        → by_reference (pair_with (entries ++ e ∷ []) done) (pairs entries) ≡ by_reference (pair_with (entries ++ e ∷ []) done) (pairs (entries ++ e ∷ []))
    none-longer opened = ap (by_reference (pair_with (entries ++ e ∷ []) done)) (sym (append-nil (pairs entries))) ∙ longer None opened

    there : (r : ℕ) → named_by e.cmd ≡ Some r → opened_by e.client e.cmd e.reply ≡ None → (found : Option Pair) → pair_of entries r ≡ found
        → IsPut entries e done (pair_noted e.client e.cmd e.reply (option_map (pair_with entries done) found))
    there r named opened None found =
        subst (IsPut entries e done) (sym (ap (option_map just_opened) opened)) (record {
          put =
              kept-apart (pair_with entries done) (pair_with (entries ++ e ∷ []) done) r
              (λ p apart. kept-other entries e done p (λ same. apart (cc (sym same ∙ named))))
              (pairs entries) (not-found (pairs entries) r found)
              ∙ none-longer opened;
          own = tt;
        })
    there r named opened (Some p) found =
        let same = found-reference entries r p found in
        subst (IsPut entries e done) (ap Some (sym (kept-named entries e done p (named ∙ ap Some same)))) (record {
          put =
              ap (λ k. insert_entry nat_eq (by_reference (pair_with entries done) (pairs entries)) k (pair_with (entries ++ e ∷ []) done p)) (sym same)
              ∙ put-there (pair_with entries done) (pair_with (entries ++ e ∷ []) done) r
              (λ q apart. kept-other entries e done q (λ same. apart (cc (sym same ∙ named))))
              (pairs entries) p are found
              ∙ none-longer opened;
          own = named ∙ ap Some same;
        })

    by : (opened : Option Pair) → opened_by e.client e.cmd e.reply ≡ opened → (named : Option ℕ) → named_by e.cmd ≡ named
        → IsPut entries e done (pair_noted e.client e.cmd e.reply (option_map (pair_with entries done) (at_named entries named)))
    by None opened None named =
        subst (IsPut entries e done) (sym (ap (option_map just_opened) opened)) (record {
          put = (λ i. map (λ p. (p.reference, kept-other entries e done p (λ same. cc (sym named ∙ same)) i)) (pairs entries)) ∙ none-longer opened;
          own = tt;
        })
    by None opened (Some r) named = there r named opened (pair_of entries r) refl
    by (Some p) opened named is =
        let says = opened-says e.client e.cmd e.reply p opened in
        let none : at_named entries named ≡ None = ap (at_named entries) (sym is ∙ says.named) ∙ (new p opened).0 in
        let its = sym ((new p opened).1) ∙ sym (says.noted (pair_with entries done p)) ∙ kept-named entries e done p says.named in
        subst (IsPut entries e done)
        (sym (ap (λ o. pair_noted e.client e.cmd e.reply (option_map (pair_with entries done) o)) none ∙ ap (option_map just_opened) opened ∙ ap Some its))
        (record {
          put =
              put-last (pair_with entries done) (pair_with (entries ++ e ∷ []) done) p.reference
              (λ q apart. kept-other entries e done q (λ same. apart (cc (sym same ∙ says.named)))) (pairs entries) p refl (new p opened).0
              ∙ longer (Some p) opened;
          own = says.named;
        })

-- what is noted of no pair is of none
pub none-noted : (client : ℕ) (cmd : Cmd) (reply : Reply) (before : Option KeptPair) → pair_noted client cmd reply before ≡ None → before ≡ None
none-noted client cmd reply None none = refl
none-noted client cmd reply (Some k) none = absurd (cc none)

-- what is found of the named pair
pub found-kept : (entries : List Entry) (done : List Pair) (named : Option ℕ)
    → pair_in (by_reference (pair_with entries done) (pairs entries)) named ≡ option_map (pair_with entries done) (at_named entries named)
found-kept entries done None = refl
found-kept entries done (Some r) = lookup-kept (pair_with entries done) (pairs entries) r

-- what is kept has its own pair
pub pair-back : (entries : List Entry) (done : List Pair) (found : Option Pair) → option_map (λ k. k.pair) (option_map (pair_with entries done) found) ≡ found
pair-back entries done None = refl
pair-back entries done (Some p) = refl

pub each-kept : (entries : List Entry) (done : List Pair) (found : Option Pair) (kept : Option KeptPair) → kept ≡ option_map (pair_with entries done) found
    → IfSome kept (λ k. k ≡ pair_with entries done k.pair)
each-kept entries done found kept is = subst (λ o. IfSome o (λ k. k ≡ pair_with entries done k.pair)) (sym is) (by found)
  where
    by : (o : Option Pair) → IfSome (option_map (pair_with entries done) o) (λ k. k ≡ pair_with entries done k.pair)
    by None = tt
    by (Some p) = refl

-- one more settled pair
settled-more : (now : List Pair) (p : Pair) (r : ℕ) → has_reference (now ++ p ∷ []) r ≡ (has_reference now r || (p.reference == r))
settled-more now p r = list_any-append (λ (x : Pair). x.reference == r) now (p ∷ []) ∙ ap (λ b. has_reference now r || b) (or-false (p.reference == r))

kept-settled-other : (entries : List Entry) (now : List Pair) (p q : Pair) → (q.reference ≡ p.reference → ⊥)
    → pair_with entries now q ≡ pair_with entries (now ++ p ∷ []) q
kept-settled-other entries now p q apart =
    let still =
    settled-more now p q.reference ∙ ap (λ b. has_reference now q.reference || b) (ne_eqb p.reference q.reference (λ e. apart (sym e)))
    ∙ or-false (has_reference now q.reference) in
    λ i. as_kept q (is_matched entries q) (sym still i) (has_asked entries q.first q.reference) (has_asked entries q.second q.reference)

pub kept-settled : (entries : List Entry) (now : List Pair) (p : Pair) → once_settled (pair_with entries now p) ≡ pair_with entries (now ++ p ∷ []) p
kept-settled entries now p =
    let is = settled-more now p p.reference ∙ ap (λ b. has_reference now p.reference || b) (same-self p.reference) ∙ or-true (has_reference now p.reference) in
    λ i. as_kept p (is_matched entries p) (sym is i) (has_asked entries p.first p.reference) (has_asked entries p.second p.reference)

pub put-settled : (entries : List Entry) (now : List Pair) (p : Pair) → AreDistinct (pairs entries) → pair_of entries p.reference ≡ Some p
    → pair_put (by_reference (pair_with entries now) (pairs entries)) (Some (pair_with entries (now ++ p ∷ []) p))
    ≡ by_reference (pair_with entries (now ++ p ∷ [])) (pairs entries)
put-settled entries now p are known =
    put-there (pair_with entries now) (pair_with entries (now ++ p ∷ [])) p.reference (λ q apart. kept-settled-other entries now p q apart)
    (pairs entries) p are known

-- those of a line that wait, by what is kept
pub waiting-kept : (entries : List Entry) (done line : List Pair) → AllByRecursion (λ p. pair_of entries p.reference ≡ Some p) line
    → filter (λ p. is_waiting (by_reference (pair_with entries done) (pairs entries)) p) line ≡ waiting_pairs entries done line
waiting-kept entries done line known =
    filter-same (λ p. is_waiting (by_reference (pair_with entries done) (pairs entries)) p) (λ p. still_waits (pair_with entries done p)) line
    (each-waits line known)
  where
    each-waits : (ps : List Pair) → AllByRecursion (λ p. pair_of entries p.reference ≡ Some p) ps
        → AllByRecursion (λ p. is_waiting (by_reference (pair_with entries done) (pairs entries)) p ≡ still_waits (pair_with entries done p)) ps
    each-waits [] all = tt
    each-waits (p ∷ ps) all = (
      ap (λ o. option_map_or still_waits o false) (lookup-kept (pair_with entries done) (pairs entries) p.reference
          ∙ ap (option_map (pair_with entries done)) all.0),
      each-waits ps all.1,
    )
