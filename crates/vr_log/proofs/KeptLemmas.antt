-- What is kept stays so when a row is added, and when the next row is executed.
use Rattle.std.proofs.Common.{◌≡◌, ℕ, ◌+◌, ◌-◌, ◌==◌, ◌≤◌, Bool, true, false, List, [], ◌∷◌, ◌++◌, length, take, slice_get, Option, Some, None, if◌then◌else◌, refl, sym, ap, ◌∙◌, arith, length-append}
use Rattle.std.specs.Option.{option_map}
use Rattle.std.proofs.lemmas.List.{take-append-le}
use Rattle.std.proofs.lemmas.List.Sums.{fold-append}
use Rattle.std.proofs.lemmas.Option.{slice_get_within}
use Rattle.std.proofs.Math.Seq.{take-append_seam}
use Rattle.vr_types.specs.declared.machine.Machine.{Ghosts}
use Rattle.vr_types.specs.declared.row.RowOf.{RowOf}
use Rattle.vr_types.specs.Execution.{held_after, answer_at}
use Rattle.vr_types.specs.Rows.{last_of, newest}
use Rattle.vr_log.specs.declared.kept.Kept.{Kept}
use Rattle.vr_log.specs.Clients.{newest_in, reply_in}
use Rattle.vr_log.specs.Kept.{IsKept, last_answer}
use Rattle.vr_types.proofs.Lists.{take_next}
use Rattle.vr_log.proofs.Rows.{last_of-snoc, last_of-placed, newest-snoc}

module _ {H C R O S : Type 0} (m : Ghosts H C R O S) (start : H) where
  pub held_after-snoc : (rows : List (RowOf C)) (row : RowOf C) → held_after m start (rows ++ row ∷ []) ≡ m.after (held_after m start rows) row.client row.cmd
  held_after-snoc rows row = fold-append (λ now r. m.after now r.client r.cmd) start rows (row ∷ [])

  -- the answer to a row depends on the rows before it alone
  pub answer_at-append : (rows more : List (RowOf C)) (place : ℕ) (row : RowOf C) → place ≤ length rows + 1
      → answer_at m start (rows ++ more) place row ≡ answer_at m start rows place row
  answer_at-append rows more place row le =
      let low : place - 1 ≤ length rows = omega arith in
      ap (λ before. m.answer (held_after m start before) row.client row.cmd) (take-append-le (place - 1) rows more low)

  -- one more row is executed
  pub last_answer-snoc : (rows : List (RowOf C)) (row : RowOf C) (q : ℕ)
      → last_answer m start (rows ++ row ∷ []) q ≡ (if row.client == q then Some (row.number, m.answer (held_after m start rows) row.client row.cmd)
      else last_answer m start rows q)
  last_answer-snoc rows row q = ap told (last_of-snoc rows row q) ∙ by_test (row.client == q)
    where
      all : List (RowOf C)
      all = rows ++ row ∷ []

      told : Option (ℕ × RowOf C) → Option (ℕ × R)
      told last = option_map (λ placed. (placed.1.number, answer_at m start all placed.0 placed.1)) last

      new : answer_at m start all (length rows + 1) row ≡ m.answer (held_after m start rows) row.client row.cmd
      new = let e : length rows + 1 - 1 ≡ length rows = omega arith in
          ap (λ before. m.answer (held_after m start before) row.client row.cmd) (ap (λ n. take n all) e ∙ take-append_seam rows (row ∷ []))

      old : (last : Option (ℕ × RowOf C)) → last_of rows q ≡ last
          → told last ≡ option_map (λ placed. (placed.1.number, answer_at m start rows placed.0 placed.1)) last
      old None e = refl
      old (Some placed) e =
          let at = last_of-placed rows q placed e in
          let within = slice_get_within rows (placed.0 - 1) placed.1 at.there in
          ap (λ reply. let o : Option (ℕ × R) = Some (placed.1.number, reply) in
          o) (answer_at-append rows (row ∷ []) placed.0 placed.1 (omega (arith, within, at.after)))

      by_test : (b : Bool)
          → told (if b then Some (length rows + 1, row) else last_of rows q)
          ≡ (if b then Some (row.number, m.answer (held_after m start rows) row.client row.cmd) else last_answer m start rows q)
      by_test true = ap (λ reply. let o : Option (ℕ × R) = Some (row.number, reply) in o) new
      by_test false = old (last_of rows q) refl

  -- a row was added and noted
  pub IsKept-append : (k n : Kept H C R O S) (row : RowOf C) → n.log ≡ k.log ++ row ∷ [] → n.done ≡ k.done → n.machine ≡ k.machine
      → ((q : ℕ) → newest_in n.clients q ≡ (if row.client == q then row.number else newest_in k.clients q))
      → ((q : ℕ) → reply_in n.clients q ≡ reply_in k.clients q)
      → IsKept m start k → IsKept m start n
  IsKept-append k n row log done machine noted same was =
      let first : take n.done n.log ≡ take k.done k.log =
      ap (λ d. take d n.log) done ∙ ap (λ l. take k.done l) log ∙ take-append-le k.done k.log (row ∷ []) was.within in
      record {
        within = omega (arith, done, was.within, ap (λ l. length l) log ∙ length-append k.log (row ∷ []));
        count = ap m.count machine ∙ was.count ∙ sym done;
        held = machine ∙ was.held ∙ ap (held_after m start) (sym first);
        newest =
            λ q. noted q ∙ ap (λ v. if row.client == q then row.number else v) (was.newest q) ∙ sym (newest-snoc k.log row q) ∙ ap (λ l. newest l q) (sym log);
        replies = λ q. same q ∙ was.replies q ∙ ap (λ rows. last_answer m start rows q) (sym first);
      }

  -- the next row was executed and answered
  pub IsKept-next : (k n : Kept H C R O S) (row : RowOf C) → slice_get k.log k.done ≡ Some row → n.log ≡ k.log → n.done ≡ k.done + 1
      → n.machine ≡ m.after k.machine row.client row.cmd → m.count n.machine ≡ n.done
      → ((q : ℕ) → newest_in n.clients q ≡ newest_in k.clients q)
      → ((q : ℕ) → reply_in n.clients q ≡ (if row.client == q then Some (row.number, m.answer k.machine row.client row.cmd) else reply_in k.clients q))
      → IsKept m start k → IsKept m start n
  IsKept-next k n row there log done machine count same told was =
      let before = take k.done k.log in
      let more : take n.done n.log ≡ before ++ row ∷ [] = ap (λ l. take n.done l) log ∙ ap (λ d. take d k.log) done ∙ take_next k.log k.done row there in
      let within = slice_get_within k.log k.done row there in
      record {
        within = omega (arith, done, within, ap (λ l. length l) log);
        count = count;
        held = machine ∙ ap (λ h. m.after h row.client row.cmd) was.held ∙ sym (held_after-snoc before row) ∙ ap (held_after m start) (sym more);
        newest = λ q. same q ∙ was.newest q ∙ ap (λ l. newest l q) (sym log);
        replies = λ q. told q
            ∙ ap (λ h. if row.client == q then Some (row.number, m.answer h row.client row.cmd) else reply_in k.clients q) was.held
            ∙ ap (λ v. if row.client == q then Some (row.number, m.answer (held_after m start before) row.client row.cmd) else v) (was.replies q)
            ∙ sym (last_answer-snoc before row q) ∙ ap (λ rows. last_answer m start rows q) (sym more);
      }
