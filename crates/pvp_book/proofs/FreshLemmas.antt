-- Of a reference that has no pair nothing has come.
use Rattle.std.proofs.Common.{◌≡◌, ℕ, Bool, true, false, List, [], ◌∷◌, ◌++◌, refl, ap, sym, subst, ◌∙◌, Option, Some, None}
use Rattle.std.specs.Prelude.{not, ◌&&◌, ◌||◌, ◌==◌, if◌then◌else◌}
use Rattle.std.specs.List.{AllByRecursion}
use Rattle.std.proofs.lemmas.Bool.{eqb-true}
use Rattle.pvp_types.specs.declared.setup.Setup.{Setup}
use Rattle.pvp_types.specs.declared.command.Cmd.{Cmd}
use Rattle.pvp_types.specs.declared.command.Cmd.TheVariants.{Rescind}
use Rattle.pvp_types.specs.declared.command.Reply.TheVariants.{No}
use Rattle.pvp_types.specs.declared.command.Reason.TheVariants.{NotYours, UnknownMember}
use Rattle.pvp_book.specs.declared.entry.Entry.{Entry}
use Rattle.pvp_book.specs.declared.pair.Pair.{Pair}
use Rattle.pvp_book.specs.Pairs.{pair_of, matched_pairs, has_reference, is_rescission, has_asked}
use Rattle.pvp_book.specs.Settlement.{settled_pairs}
use Rattle.pvp_book.specs.KeptPair.{kept_pair, just_opened}
use Rattle.pvp_book.specs.Answer.{Row, answer, is_refusal, on_pair, has_member, is_member_number, book_of}
use Rattle.pvp_book.proofs.CandidateLemmas.{known-longer}
use Rattle.pvp_book.proofs.Reached.{entry_of, reached}
use Rattle.pvp_book.proofs.RecordLemmas.{as_kept, asked-more, found-reference}
use Rattle.pvp_book.proofs.SoundLemmas.{each-settled, sound}

-- an accepted rescission names a pair that is there
rescinds-known : (setup : Setup) (entries : List Entry) (client : ℕ) (cmd : Cmd) (r : ℕ) → is_refusal (answer setup entries client cmd) ≡ false
    → pair_of entries r ≡ None → is_rescission r cmd ≡ false
unfolding answer
rescinds-known setup entries client (Rescind reference) r accepted none = by (reference == r) refl
  where
    tests : (yours member : Bool) (pair : Option Pair) → pair ≡ None
        → is_refusal (if not yours then No NotYours else if not member then No UnknownMember else on_pair setup entries client pair) ≡ false → ⊥
    tests true true (Some p) none e = cc none
    tests _ _ _ none e = cc e

    by : (b : Bool) → (reference == r) ≡ b → b ≡ false
    by true is =
        absurd (tests (is_member_number client) (has_member setup client) (pair_of entries reference)
        (ap (pair_of entries) (eqb-true reference r is) ∙ none) accepted)
    by false is = refl
rescinds-known setup entries client _ r accepted none = refl

-- no side has taken back what is not there
NoneAsked : List Entry → Type 0
NoneAsked entries = (r m : ℕ) → pair_of entries r ≡ None → has_asked entries m r ≡ false

none-asked : (setup : Setup) (history : List Row) → NoneAsked (book_of setup history)
unfolding NoneAsked
none-asked setup history =
    reached setup NoneAsked (λ r m none. refl)
    (λ entries client cmd held accepted. λ r m none.
    let before = shorter entries (entry_of setup entries client cmd) r none in
    asked-more entries (entry_of setup entries client cmd) m r
    ∙ (λ i. held r m before i || ((client == m) && rescinds-known setup entries client cmd r accepted before i)) ∙ and-false (client == m))
    history
  where
    and-false : (b : Bool) → (false || (b && false)) ≡ false
    and-false true = refl
    and-false false = refl

    shorter : (entries : List Entry) (e : Entry) (r : ℕ) → pair_of (entries ++ e ∷ []) r ≡ None → pair_of entries r ≡ None
    shorter entries e r none = by (pair_of entries r) refl
      where
        by : (o : Option Pair) → pair_of entries r ≡ o → o ≡ None
        by None found = refl
        by (Some p) found =
            let same = found-reference entries r p found in
            absurd (cc (sym none ∙ ap (pair_of (entries ++ e ∷ [])) same
            ∙ known-longer entries e p (ap (pair_of entries) (sym same) ∙ found)))

-- none of some pairs that are there has a reference that is not
none-has : (entries : List Entry) (r : ℕ) → pair_of entries r ≡ None → (ps : List Pair) → AllByRecursion (λ p. pair_of entries p.reference ≡ Some p) ps
    → has_reference ps r ≡ false
none-has entries r none [] known = refl
none-has entries r none (p ∷ ps) known = by (p.reference == r) refl (none-has entries r none ps known.1)
  where
    by : (b : Bool) → (p.reference == r) ≡ b → has_reference ps r ≡ false → (b || has_reference ps r) ≡ false
    by true is rest = absurd (cc (sym known.0 ∙ ap (pair_of entries) (eqb-true p.reference r is) ∙ none))
    by false is rest = rest

-- so of a pair of a new reference what is kept is that of one just opened
pub new-kept : (setup : Setup) (entries : List Entry) (history : List Row) → entries ≡ book_of setup history → (p : Pair)
    → pair_of entries p.reference ≡ None → kept_pair setup entries p ≡ just_opened p
unfolding NoneAsked
new-kept setup entries history same p none =
    let known = subst (λ es. AllByRecursion (λ q. pair_of es q.reference ≡ Some q) (matched_pairs es)) (sym same) (sound setup history).known in
    let asked = subst NoneAsked (sym same) (none-asked setup history) in
    λ i. as_kept p (none-has entries p.reference none (matched_pairs entries) known i)
    (none-has entries p.reference none (settled_pairs setup entries) (each-settled (λ q. pair_of entries q.reference ≡ Some q) setup entries known) i)
    (asked p.reference p.first none i) (asked p.reference p.second none i)
