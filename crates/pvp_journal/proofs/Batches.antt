-- A history that grows in a batch, and a batch that is written.
use Rattle.std.proofs.Common.{◌≡◌, ℕ, List, [], ◌∷◌, ◌++◌, map, Option, Some, None, refl, sym, ap, ◌∙◌, subst, append_assoc}
use Rattle.std.specs.Prelude.{IfSome, unwrap_or}
use Rattle.std.proofs.lemmas.List.{append-nil, map-append}
use Rattle.pvp_rooms.specs.declared.actor.Actor.{Ghosts}
use Rattle.pvp_rooms.specs.declared.message.Input.{Input}
use Rattle.pvp_rooms.specs.declared.message.Recorded.{Recorded}
use Rattle.pvp_rooms.specs.Rooms.{ShownRoom, IsRoom, Acted, Took, receipt, clock_after}
use Rattle.pvp_rooms.proofs.Growing.{room_next}
use Rattle.pvp_journal.specs.declared.room.Letter.{Letter}
use Rattle.pvp_journal.specs.Log.{with_more}
use Rattle.pvp_journal.specs.Rooms.{Texts, records, sum_after, letter, Held, Past, shown_room, Keeps, past_of, with_pending, all_written}

module _ {E O : Type 0} (t : Texts E O) where
  -- records behind records
  pub records-append : (before : ℕ) (xs ys : List (Recorded E O)) → records t before (xs ++ ys) ≡ records t before xs ++ records t (sum_after t before xs) ys
  records-append before [] ys = refl
  records-append before (r ∷ xs) ys =
      ap (λ bytes. t.record_of before r ++ bytes) (records-append (t.sum_of before r) xs ys)
      ∙ sym (append_assoc (t.record_of before r) (records t (t.sum_of before r) xs) (records t (sum_after t (t.sum_of before r) xs) ys))

  pub sum-append : (before : ℕ) (xs ys : List (Recorded E O)) → sum_after t before (xs ++ ys) ≡ sum_after t (sum_after t before xs) ys
  sum-append before [] ys = refl
  sum-append before (r ∷ xs) ys = sum-append (t.sum_of before r) xs ys

  -- a record more
  pub records-push : (before : ℕ) (xs : List (Recorded E O)) (r : Recorded E O)
      → records t before xs ++ t.record_of (sum_after t before xs) r ≡ records t before (xs ++ r ∷ [])
  records-push before xs r =
      ap (λ bytes. records t before xs ++ bytes) (sym (append-nil (t.record_of (sum_after t before xs) r)))
      ∙ sym (records-append before xs (r ∷ []))

-- what the log holds once the batch is in it
log-written : {E O : Type 0} (t : Texts E O) (past : Past E O) (batch : List ℕ) (old : Option (List ℕ))
    → IfSome old (λ bytes. bytes ≡ past.head ++ records t past.start past.written)
    → batch ≡ records t (sum_after t past.start past.written) past.pending
    → IfSome (with_more old batch) (λ bytes. bytes ≡ past.head ++ records t past.start (past.written ++ past.pending))
log-written t past batch None was spelled = tt
log-written t past batch (Some old) was spelled =
    ap (λ bytes. bytes ++ batch) was ∙ append_assoc past.head (records t past.start past.written) batch
    ∙ ap (λ bytes. past.head ++ (records t past.start past.written ++ bytes)) spelled
    ∙ ap (λ bytes. past.head ++ bytes) (sym (records-append t past.start past.written past.pending))

module _ {N A E O L : Type 0} (m : Ghosts A N E O) (texts : ℕ → Texts E O) (seen : L → Option (List ℕ)) where
  -- a room whose batch was written
  pub flushed : (old : Held N A O L) (log : L) (past : Past E O) → Keeps m texts seen old past → seen log ≡ with_more (seen old.log) old.batch
      → Keeps m texts seen (record old { log = log; batch = []; waiting = [] }) (all_written past)
  flushed old log past kept appended = record {
    sound =
        subst (λ history. IsRoom m (record { opening = old.opening; actor = old.actor; clock = old.clock; history = history }))
        (sym (ap (λ history. past.earlier ++ history) (append-nil (past.written ++ past.pending)))) kept.sound;
    log = subst (λ found. IfSome found (λ bytes. bytes ≡ past.head ++ records (texts old.number) past.start (past.written ++ past.pending))) (sym appended)
        (log-written (texts old.number) past old.batch (seen old.log) kept.log kept.batch);
    batch = refl;
    sum = kept.sum ∙ ap (sum_after (texts old.number) past.start) (sym (append-nil (past.written ++ past.pending)));
    waiting = refl;
  }

  -- a room that took an event
  pub taken : (old : Held N A O L) (actor : A) (input : Input E) (clock : ℕ) (outcome : O) (past : Past E O) → Keeps m texts seen old past
      → Acted m old.actor actor input.event outcome → clock_after old.clock input.stamp ≡ Some clock
      → let r = receipt input clock outcome in
      let new : Held N A O L = record old {
        actor = actor;
        clock = clock;
        sum = (texts old.number).sum_of old.sum r;
        batch = old.batch ++ (texts old.number).record_of old.sum r;
        waiting = old.waiting ++ letter r ∷ [];
      } in
      Took m input (shown_room old past) (shown_room new (with_pending past r)) clock outcome × Keeps m texts seen new (with_pending past r)
  taken old actor input clock outcome past kept acted next =
      let r = receipt input clock outcome in
      let t = texts old.number in
      let later : (past.written ++ past.pending) ++ r ∷ [] ≡ past.written ++ (past.pending ++ r ∷ []) = append_assoc past.written past.pending (r ∷ []) in
      let longer : (past.earlier ++ (past.written ++ past.pending)) ++ r ∷ [] ≡ past.earlier ++ (past.written ++ (past.pending ++ r ∷ [])) =
      append_assoc past.earlier (past.written ++ past.pending) (r ∷ []) ∙ ap (λ history. past.earlier ++ history) later in
      let room = room_next m (shown_room old past) actor input clock outcome kept.sound acted next in
      let start : sum_after t past.start (past.written ++ past.pending) ≡ sum_after t (sum_after t past.start past.written) past.pending =
      sum-append t past.start past.written past.pending in (
        record {
          opening = refl;
          next = next;
          clock_is = refl;
          history = sym longer;
          acted = acted;
        },
        record {
          sound = subst (λ history. IsRoom m (record { opening = old.opening; actor = actor; clock = clock; history = history })) longer room;
          log = kept.log;
          batch = ap (λ bytes. bytes ++ t.record_of old.sum r) kept.batch
              ∙ ap (λ sum. records t (sum_after t past.start past.written) past.pending ++ t.record_of sum r) (kept.sum ∙ start)
              ∙ records-push t (sum_after t past.start past.written) past.pending r;
          sum = ap (λ sum. t.sum_of sum r) kept.sum
              ∙ sym (sum-append t past.start (past.written ++ past.pending) (r ∷ []))
              ∙ ap (sum_after t past.start) later;
          waiting = ap (λ letters. letters ++ letter r ∷ []) kept.waiting ∙ sym (map-append letter past.pending (r ∷ []));
        },
      )

module _ {N A E O L : Type 0} (m : Ghosts A N E O) (texts : ℕ → Texts E O) (seen : L → Option (List ℕ)) where
  -- a log that has no record yet
  log-opened : (t : Texts E O) (found : Option (List ℕ)) (start : ℕ) → IfSome found (λ bytes. bytes ≡ unwrap_or found [] ++ records t start [])
  log-opened t None start = tt
  log-opened t (Some bytes) start = sym (append-nil bytes)

  -- a room that wrote nothing yet
  pub stands : (room : Held N A O L) (history : List (Recorded E O))
      → IsRoom m (record { opening = room.opening; actor = room.actor; clock = room.clock; history = history })
      → room.batch ≡ [] → room.waiting ≡ [] → Keeps m texts seen room (past_of history (seen room.log) room.sum)
  stands room history is batch waiting = record {
    sound =
        subst (λ all. IsRoom m (record { opening = room.opening; actor = room.actor; clock = room.clock; history = all })) (sym (append-nil history)) is;
    log = log-opened (texts room.number) (seen room.log) room.sum;
    batch = batch;
    sum = refl;
    waiting = waiting;
  }

  -- one that took nothing yet
  pub begins : (room : Held N A O L) → ((x : m.State) → m.opens room.actor room.opening x → m.shows room.actor x)
      → room.clock ≡ 0 → room.batch ≡ [] → room.waiting ≡ [] → Keeps m texts seen room (past_of [] (seen room.log) room.sum)
  begins room opened clock batch waiting =
      stands room [] (record { replayed = λ x opens. (tt, opened x opens); rising = tt; last = sym clock }) batch waiting
