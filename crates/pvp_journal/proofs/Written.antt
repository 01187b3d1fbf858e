-- Writing the records of a journal one after the other, as a loop does.
use Rattle.std.proofs.Common.{◌≡◌, ℕ, zero, suc, ◌+◌, ◌<◌, ◌≤◌, Result, Ok, Err, List, [], ◌∷◌, ◌++◌, length, map, take, get_or, sym, ap, ◌∙◌, append_assoc, subst, All, arith}
use Rattle.std.proofs.lemmas.List.{append-nil, take_all, take_more}
use Rattle.std.proofs.lemmas.List.Elements.{All-head, All-tail, All-nil, All-push}
use Rattle.pvp_journal.specs.declared.head.Head.{Head}
use Rattle.pvp_journal.specs.Spelling.{Entry, head_text, head_sum, record_text, record_sum, journal_text, journal_sum}
use Rattle.pvp_journal.specs.Summaries.{Taken, entry_of}
use Rattle.pvp_journal.specs.Writing.{Puts}
use Rattle.pvp_journal.specs.declared.fault.WriteFault.{WriteFault}
use Rattle.pvp_journal.specs.Fits.{IsHead, IsJournalable, AreJournalable}
use Rattle.pvp_journal.proofs.Recorded.{journal-more, journal_sum-more}

-- the journal of the first so many events is there, behind which this is the checksum
pub record IsWritten (head : Head) (history : List Entry) (before : List ℕ) (place : ℕ) (out : List ℕ) (sum : ℕ) : Type 0 where
  pub text : out ≡ before ++ journal_text head (take place history)
  pub goes_on : sum ≡ journal_sum head (take place history)
  pub fits : AreJournalable head (take place history)

pub head_written : (head : Head) (history : List Entry) (before out : List ℕ) (sum : ℕ) → out ≡ before ++ head_text head → sum ≡ head_sum head → IsHead head
    → IsWritten head history before 0 out sum
head_written head history before out sum put sum-is fits = record {
  text = put ∙ ap (λ (x : List ℕ). before ++ x) (sym (append-nil (head_text head)));
  goes_on = sum-is;
  fits = record { is_head = fits; each = All-nil (IsJournalable head.actor) };
}

pub record_written : (head : Head) (history : List Entry) (before : List ℕ) (place : ℕ) (out : List ℕ) (sum : ℕ) (entry : Entry) (new : List ℕ) (after : ℕ)
    → IsWritten head history before place out sum → place < length history → entry ≡ get_or history place entry
    → new ≡ out ++ record_text head.actor sum entry → after ≡ record_sum head.actor sum entry → IsJournalable head.actor entry
    → IsWritten head history before (place + 1) new after
record_written head history before place out sum entry new after so lt is put sum-is fits =
    let front = take place history in
    let more : take (place + 1) history ≡ front ++ entry ∷ [] =
    take_more history place entry lt ∙ ap (λ (r : Entry). front ++ r ∷ []) (sym is) in
    let text = record_text head.actor (journal_sum head front) entry in
    let texts : new ≡ before ++ journal_text head (front ++ entry ∷ []) =
    put ∙ ap (λ (s : ℕ). out ++ record_text head.actor s entry) so.goes_on ∙ ap (λ (x : List ℕ). x ++ text) so.text
    ∙ append_assoc before (journal_text head front) text ∙ ap (λ (x : List ℕ). before ++ x) (sym (journal-more head front entry)) in
    let sums : after ≡ journal_sum head (front ++ entry ∷ []) =
    sum-is ∙ ap (λ (s : ℕ). record_sum head.actor s entry) so.goes_on ∙ sym (journal_sum-more head front entry) in
    record {
      text = texts ∙ ap (λ (l : List Entry). before ++ journal_text head l) (sym more);
      goes_on = sums ∙ ap (λ (l : List Entry). journal_sum head l) (sym more);
      fits = record {
        is_head = so.fits.is_head;
        each = subst (λ (l : List Entry). All (IsJournalable head.actor) l) (sym more)
            (All-push (IsJournalable head.actor) front entry so.fits.each fits);
      };
    }

-- all of them
pub all_written : (head : Head) (history : List Entry) (before : List ℕ) (place : ℕ) (out : List ℕ) (sum : ℕ) → IsWritten head history before place out sum
    → length history ≤ place
    → (out ≡ before ++ journal_text head history) × AreJournalable head history
all_written head history before place out sum so le =
    let all : take place history ≡ history = take_all place history le in
    (so.text ∙ ap (λ (l : List Entry). before ++ journal_text head l) all, subst (λ (l : List Entry). AreJournalable head l) all so.fits)

-- an event whose entry does not fit
pub one_unfit : (me : ℕ) (history : List Taken) (place : ℕ) (taken : Taken) → place < length history → taken ≡ get_or history place taken
    → (IsJournalable me (entry_of taken) → ⊥) → All (IsJournalable me) (map entry_of history) → ⊥
one_unfit me [] place taken lt is unfit all = absurd (omega (arith, lt))
one_unfit me (r ∷ more) zero taken lt is unfit all =
    unfit (subst (λ (t : Taken). IsJournalable me (entry_of t)) (sym is) (All-head (IsJournalable me) (entry_of r) (map entry_of more) all))
one_unfit me (r ∷ more) (suc place) taken lt is unfit all =
    one_unfit me more place taken (omega (arith, lt)) is unfit (All-tail (IsJournalable me) (entry_of r) (map entry_of more) all)

-- WHAT A RECORD SAYS: the clock, the event, and then the summary
pub body_put : {C E : Type 0} (S : Type 0) (old one two new clock event summary : List ℕ) (result : Result (Unit {0}) WriteFault) → one ≡ old ++ clock
    → two ≡ one ++ event → C → E → Puts two summary S result new → Puts old ((clock ++ event) ++ summary) (C × E × S) result new
body_put S old one two new clock event summary (Ok done) first then c e put = (
  put.0 ∙ ap (λ (x : List ℕ). x ++ summary) (then ∙ ap (λ (x : List ℕ). x ++ event) first ∙ append_assoc old clock event)
      ∙ append_assoc old (clock ++ event) summary,
  (c, e, put.1),
)
body_put S old one two new clock event summary (Err fault) first then c e put = λ unfit all. put unfit all.2
