-- Rooms that go on by some events.
use Rattle.std.proofs.Common.{◌≡◌, ◌⊎◌, inl, inr, ℕ, zero, suc, ◌+◌, ◌-◌, ◌<◌, ◌≤◌, Result, Ok, Err, List, [], ◌∷◌, ◌++◌, map, Option, Some, None, refl, sym, ap, ◌∙◌, subst, arith, append_assoc}
use Rattle.std.specs.Prelude.{IfOk}
use Rattle.std.specs.List.{range_with_len}
use Rattle.std.proofs.lemmas.Bool.{cases_lt}
use Rattle.std.proofs.lemmas.List.{append-nil, map-append}
use Rattle.pvp_rooms.specs.declared.actor.Actor.{Ghosts}
use Rattle.pvp_rooms.specs.declared.message.Recorded.{Recorded}
use Rattle.pvp_rooms.specs.Histories.{Takes}
use Rattle.pvp_rooms.specs.Rooms.{receipt, clock_after}
use Rattle.pvp_parties.specs.declared.party.PartyOf.{PartyOf}
use Rattle.pvp_parties.specs.declared.party.PartyEvent.{PartyEvent}
use Rattle.pvp_parties.specs.declared.party.PartyOutcome.{PartyOutcome}
use Rattle.pvp_journal.specs.Resumed.{room_over, a_fall, falls_between}
use Rattle.pvp_journal.specs.Rooms.{Texts, Held, Past, letter, Keeps, TookOne, with_pending, unstamped_record, NotedOne, Mark, AreMarked, with_all, WentOn, GoesOn}
use Rattle.pvp_journal.proofs.Batches.{taken}

AreMarked-append : {E O : Type 0} (more later : List (Recorded E O)) (marks next : List (Mark E O))
    → AreMarked more marks → AreMarked later next → AreMarked (more ++ later) (marks ++ next)
AreMarked-append [] later [] next are then_are = then_are
AreMarked-append (r ∷ more) later (mark ∷ marks) next are then_are = (are.0, are.1, are.2, AreMarked-append more later marks next are.3 then_are)
AreMarked-append [] later (mark ∷ marks) next are then_are = absurd are
AreMarked-append (r ∷ more) later [] next are then_are = absurd are

module _ {N A B D E O L : Type 0} (m : Ghosts A N E O) (n : Ghosts B N E O) (k : Ghosts D N E O) (texts : ℕ → Texts E O) (seen : L → Option (List ℕ)) where
  -- by some events, and then by others
  pub goes_on : (old : Held N A O L) (mid : Held N B O L) (new : Held N D O L) (marks next : List (Mark E O))
      → GoesOn m n texts seen old mid marks → GoesOn n k texts seen mid new next → GoesOn m k texts seen old new (marks ++ next)
  goes_on old mid new marks next first second = λ past kept.
      let a = first past kept in
      let b = second (with_all past a.more) a.keeps in
      record {
        more = a.more ++ b.more;
        are = AreMarked-append a.more b.more marks next a.are b.are;
        opening = b.opening ∙ a.opening;
        keeps = subst (λ pending. Keeps k texts seen new (record past { pending = pending })) (append_assoc past.pending a.more b.more) b.keeps;
      }

module _ {N A B E O L : Type 0} (m : Ghosts A N E O) (n : Ghosts B N E O) (texts : ℕ → Texts E O) (seen : L → Option (List ℕ)) where
  -- by none
  pub stays : (old : Held N A O L) (new : Held N B O L) → new.opening ≡ old.opening
      → ((past : Past E O) → Keeps m texts seen old past → Keeps n texts seen new past) → GoesOn m n texts seen old new []
  stays old new opening keeps = λ past kept.
      record {
        more = [];
        are = tt;
        opening = opening;
        keeps = subst (λ pending. Keeps n texts seen new (record past { pending = pending })) (sym (append-nil past.pending)) (keeps past kept);
      }

module _ {N A E O L : Type 0} (m : Ghosts A N E O) (texts : ℕ → Texts E O) (seen : L → Option (List ℕ)) where
  -- by one that its actor took
  pub took : (old new : Held N A O L) (event : E) (clock : ℕ)
      → ((past : Past E O) → Keeps m texts seen old past → TookOne m texts seen (record { event = event; stamp = None }) old new past clock)
      → GoesOn m m texts seen old new (record { event = event; came = None } ∷ [])
  took old new event clock steps = λ past kept.
      let one = steps past kept in
      record { more = receipt (record { event = event; stamp = None }) clock one.0 ∷ []; are = (refl, refl, tt, tt); opening = one.1.opening; keeps = one.2 }

  -- by one that was noted
  pub noted_on : (old new : Held N A O L) (event : E) (outcome : O) → NotedOne m texts seen event outcome old new
      → GoesOn m m texts seen old new (record { event = event; came = Some outcome } ∷ [])
  noted_on old new event outcome one = λ past kept.
      record { more = unstamped_record event new.clock outcome ∷ []; are = (refl, refl, refl, tt); opening = one.opening; keeps = one.keeps past kept }

  -- the same actor, of which nothing is told
  abbrev silent : Ghosts A N E O
  silent = record m { tells = λ old new event outcome. Unit {0} }

  -- an event more in the batch, which came out so
  pub noted_one : (old : Held N A O L) (actor : A) (event : E) (clock : ℕ) (outcome : O)
      → ((x : m.State) → m.shows old.actor x → Takes m.comes m.after x event outcome (m.shows actor))
      → ((opening : N) (x : m.State) → m.opens actor opening x → m.opens old.actor opening x)
      → clock_after old.clock None ≡ Some clock
      → let r = unstamped_record event clock outcome in
      let new : Held N A O L = record old {
        actor = actor;
        clock = clock;
        sum = (texts old.number).sum_of old.sum r;
        batch = old.batch ++ (texts old.number).record_of old.sum r;
        waiting = old.waiting ++ letter r ∷ [];
      } in
      (past : Past E O) → Keeps m texts seen old past → Keeps m texts seen new (with_pending past r)
  noted_one old actor event clock outcome step opens next past kept =
      let before : Keeps silent texts seen old past = record {
        sound = record { replayed = kept.sound.replayed; rising = kept.sound.rising; last = kept.sound.last };
        log = kept.log;
        batch = kept.batch;
        sum = kept.sum;
        waiting = kept.waiting;
      } in
      let both = taken silent texts seen old actor (record { event = event; stamp = None }) clock outcome past before
      (record { step = step; opens = opens; told = tt }) next in
      let keeps = both.1 in
      record {
        sound = record { replayed = keeps.sound.replayed; rising = keeps.sound.rising; last = keeps.sound.last };
        log = keeps.log;
        batch = keeps.batch;
        sum = keeps.sum;
        waiting = keeps.waiting;
      }

-- the ways back
module _ {N A B E O L : Type 0} (m : Ghosts A N E O) (n : Ghosts B N E O) (texts : ℕ → Texts E O) (seen : L → Option (List ℕ)) where
  pub restarts : (old down : Held N A O L) (over new : Held N B O L) (crash : List (Mark E O)) (restart : Mark E O)
      → GoesOn m m texts seen old down crash → GoesOn m n texts seen down over [] → GoesOn n n texts seen over new (restart ∷ [])
      → GoesOn m n texts seen old new (crash ++ restart ∷ [])
  restarts old down over new crash restart crashed moved restarted =
      goes_on m m n texts seen old down new crash (restart ∷ []) crashed
      (goes_on m n n texts seen down over new [] (restart ∷ []) moved restarted)

  pub falls : (old down fell : Held N A O L) (over new : Held N B O L) (crash falls_of : List (Mark E O)) (restart : Mark E O)
      → GoesOn m m texts seen old down crash → GoesOn m m texts seen down fell falls_of → GoesOn m n texts seen fell over []
      → GoesOn n n texts seen over new (restart ∷ []) → GoesOn m n texts seen old new (crash ++ (falls_of ++ restart ∷ []))
  falls old down fell over new crash falls_of restart crashed fallen moved restarted =
      goes_on m m n texts seen old down new crash (falls_of ++ restart ∷ []) crashed
      (restarts down fell over new falls_of restart fallen moved restarted)

pub if_ok : {T F : Type 0} {P Q : T → Type 0} (r : Result T F) → ((x : T) → P x → Q x) → IfOk r P → IfOk r Q
if_ok (Ok x) by had = by x had
if_ok (Err fault) by had = tt

pub over_opening : {N B D O L : Type 0} (room : Held N (PartyOf B) O L) (cell : D) (new : Held N (PartyOf D) O L)
    → new ≡ room_over room cell → new.opening ≡ room.opening
over_opening room cell new is = cc

-- a restart that saved so many boots and fell
abbrev pub fall : ℕ → Mark PartyEvent PartyOutcome
fall n = a_fall (record { boots = n })

range_more : (a k : ℕ) → range_with_len a (k + 1) ≡ range_with_len a k ++ (a + k) ∷ []
range_more a zero = let e : a ≡ a + 0 = omega arith in ap (λ k. k ∷ []) e
range_more a (suc k) =
    let e : suc k + 1 ≡ suc (k + 1) = omega arith in
    let last : a + 1 + k ≡ a + suc k = omega arith in
    rw e (ap (λ xs. a ∷ xs) (range_more (a + 1) k ∙ ap (λ j. range_with_len (a + 1) k ++ j ∷ []) last))

-- the falls up to one more are those before it and that one
falls_next : (known n : ℕ) → known ≤ n → falls_between known (n + 1) ≡ falls_between known n ++ fall (n + 1) ∷ []
falls_next known n le =
    let e : n + 1 - known ≡ n - known + 1 = omega arith in
    let last : known + 1 + (n - known) ≡ n + 1 = omega arith in
    ap (map fall) (ap (range_with_len (known + 1)) e ∙ range_more (known + 1) (n - known)
    ∙ ap (λ k. range_with_len (known + 1) (n - known) ++ k ∷ []) last)
    ∙ map-append fall (range_with_len (known + 1) (n - known)) ((n + 1) ∷ [])

-- there are none up to what was known
falls_none : (known held : ℕ) → held ≤ known → falls_between known held ≡ []
falls_none known held le = let e : held - known ≡ 0 = omega arith in ap (λ k. map fall (range_with_len (known + 1) k)) e

-- a count that ends the loop over them is as good as the last
falls_same : (known b held : ℕ) → held ≤ b → (known ≤ held → b ≤ held) → (held ≤ known → b ≡ known)
    → falls_between known b ≡ falls_between known held
falls_same known b held least most none = by (cases_lt known held)
  where
    by : (known < held) ⊎ (held ≤ known) → falls_between known b ≡ falls_between known held
    by (inl less) = let top : b ≤ held = most (omega arith) in let e : b ≡ held = omega arith in ap (falls_between known) e
    by (inr le) =
        let e : b ≡ known = none le in
        ap (falls_between known) e ∙ falls_none known known (omega arith) ∙ sym (falls_none known held le)

module _ {N A L : Type 0} (m : Ghosts A N PartyEvent PartyOutcome) (texts : ℕ → Texts PartyEvent PartyOutcome) (seen : L → Option (List ℕ)) where
  -- by none of them
  pub fell_none : (room : Held N A PartyOutcome L) (known held : ℕ) → held ≤ known
      → GoesOn m m texts seen room room (falls_between known held)
  fell_none room known held le =
      subst (λ marks. GoesOn m m texts seen room room marks) (sym (falls_none known held le))
      (stays m m texts seen room room refl (λ past kept. kept))

  -- by one more
  pub fell_more : (old mid new : Held N A PartyOutcome L) (known n : ℕ) → known ≤ n
      → GoesOn m m texts seen old mid (falls_between known n) → GoesOn m m texts seen mid new (fall (n + 1) ∷ [])
      → GoesOn m m texts seen old new (falls_between known (n + 1))
  fell_more old mid new known n le first second =
      subst (λ marks. GoesOn m m texts seen old new marks) (sym (falls_next known n le))
      (goes_on m m m texts seen old mid new (falls_between known n) (fall (n + 1) ∷ []) first second)

  -- by all of them
  pub fell_all : (old new : Held N A PartyOutcome L) (known b held : ℕ) → held ≤ b → (known ≤ held → b ≤ held)
      → (held ≤ known → b ≡ known) → GoesOn m m texts seen old new (falls_between known b)
      → GoesOn m m texts seen old new (falls_between known held)
  fell_all old new known b held least most none gone =
      subst (λ marks. GoesOn m m texts seen old new marks) (falls_same known b held least most none) gone
