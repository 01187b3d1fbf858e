-- The records of a room of the bank are those of a journal.
use Rattle.std.proofs.Common.{◌≡◌, ℕ, List, [], ◌∷◌, ◌++◌, map, refl, sym, ap, ◌∙◌, subst, append_assoc}
use Rattle.std.proofs.lemmas.List.{append-nil}
use Rattle.pvp_wire.specs.Fits.{IsBytes}
use Rattle.pvp_journal.specs.declared.journal.Journal.{Journal}
use Rattle.pvp_journal.specs.declared.journal.Left.TheVariants.{Nothing}
use Rattle.pvp_journal.specs.Spelling.{Entry, head_text, head_sum, journal_text, journal_sum, record_text, record_sum, records_text, records_sum}
use Rattle.pvp_journal.specs.Summaries.{Taken, entry_of}
use Rattle.pvp_journal.specs.Journals.{IsLeft, IsRead}
use Rattle.pvp_journal.proofs.Spelled.{read_spelled}
use Rattle.pvp_journal.specs.Rooms.{bank_texts, records}

pub records-are : (me before : ℕ) (history : List Taken) → records (bank_texts me) before history ≡ records_text me before (map entry_of history)
records-are me before [] = refl
records-are me before (r ∷ more) =
    ap (λ bytes. record_text me before (entry_of r) ++ bytes) (records-are me (record_sum me before (entry_of r)) more)

-- records behind records
records-behind : (me before : ℕ) (xs ys : List Entry)
    → records_text me before (xs ++ ys) ≡ records_text me before xs ++ records_text me (records_sum me before xs) ys
records-behind me before [] ys = refl
records-behind me before (x ∷ xs) ys =
    let sum = record_sum me before x in
    ap (λ bytes. record_text me before x ++ bytes) (records-behind me sum xs ys)
    ∙ sym (append_assoc (record_text me before x) (records_text me sum xs) (records_text me (records_sum me sum xs) ys))

pub journal_goes_on : (bytes : List ℕ) (journal : Journal) (later : List Taken) → IsBytes bytes → IsRead bytes journal → journal.left ≡ Nothing
    → bytes ++ records (bank_texts journal.head.actor) journal.sum later ≡ journal_text journal.head (journal.history.items ++ map entry_of later)
journal_goes_on bytes journal later fits read whole =
    let head = journal.head in
    let me = head.actor in
    let history = journal.history.items in
    let spelled = read_spelled bytes head history read.end fits read.reads in
    let none : read.end.bytes ≡ [] = subst (λ left. IsLeft bytes read.end left) whole read.left in
    let text : bytes ≡ journal_text head history =
    spelled.0 ∙ ap (λ rest. journal_text head history ++ rest) none ∙ append-nil (journal_text head history) in
    ap (λ front. front ++ records (bank_texts me) journal.sum later) text
    ∙ ap (λ sum. journal_text head history ++ records (bank_texts me) sum later) (read.sum ∙ spelled.2)
    ∙ ap (λ more. journal_text head history ++ more) (records-are me (journal_sum head history) later)
    ∙ append_assoc (head_text head) (records_text me (head_sum head) history) (records_text me (journal_sum head history) (map entry_of later))
    ∙ ap (λ more. head_text head ++ more) (sym (records-behind me (head_sum head) history (map entry_of later)))
