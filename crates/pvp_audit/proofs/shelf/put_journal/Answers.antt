use Rattle.std.proofs.Common.{◌≡◌, ℕ, All, Err, List, map, Option, ap, refl, subst, sym}
use Rattle.std.proofs.lemmas.Result.{err_from_is_err_and}
use Rattle.pvp_journal.specs.declared.fault.WriteFault.{WriteFault}
use Rattle.pvp_journal.specs.declared.fault.WriteFault.TheVariants as write
use Rattle.pvp_journal.specs.declared.head.Head.{Head}
use Rattle.pvp_journal.specs.Fits.{AreJournalable, IsHead, IsJournalable}
use Rattle.pvp_journal.specs.Summaries.{Taken, entry_of}
use Rattle.pvp_audit.specs.Judged.{Left}
use Rattle.pvp_journal.specs.declared.fault.ShelfFault.{ShelfFault}
use Rattle.pvp_audit.specs.Shelves.{PutFails, put_told}
use Rattle.pvp_audit.proofs.shelf.put_journal.Goals as goal

-- what was told of a journal that was not written
told_fails : (said : Option ShelfFault) (left : Left) (fault : WriteFault)
    → (fault ≡ write.Unfit → ¬ (All (IsJournalable left.number) (map entry_of left.history.items))) → PutFails said left (put_told fault)
told_fails said left write.Unfit unfit = unfit refl
told_fails said left write.NoMemory unfit = tt

-- a journal of events that all have a text has one itself
journalable : (left : Left) (head : Head) (history : List Taken) → head.actor ≡ left.number → IsHead head → history ≡ left.history.items
    → All (IsJournalable left.number) (map entry_of left.history.items) → AreJournalable head (map entry_of history)
journalable left head history number is_head same all = record {
  is_head = is_head;
  each = subst (λ (n : ℕ). All (IsJournalable n) (map entry_of history)) (sym number)
      (subst (λ (l : List Taken). All (IsJournalable left.number) (map entry_of l)) (sym same) all);
}

-- src/shelf.rt
pub returns-in_err-write_journal-clause-err : goal.returns-in_err-write_journal-clause-err
returns-in_err-write_journal-clause-err g c =
    let left = c.args.left.now in
    let said = g.S.Shelf.said c.args.shelf.now in
    let fault = c.in_err-write_journal.field-0.0 in
    let p = err_from_is_err_and c.from_residual.result c.from_residual.ensures.1 in
    let told : PutFails said left (put_told fault) = told_fails said left fault (λ is all. c.in_err-write_journal.ensures.unfit (ap Err is)
    (journalable left c.head_of-head.result c.as_slice.result.now (ap (λ (h : Head). h.actor) c.head_of-head.ensures.is) c.head_of-head.ensures.head
    c.as_slice.ensures.value all)) in
    rw (p.1, p.2) told
