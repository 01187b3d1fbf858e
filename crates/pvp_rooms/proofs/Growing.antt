-- A history that grows at its end, and a room that took one event more.
use Rattle.std.proofs.Common.{◌≡◌, ℕ, ◌+◌, ◌<◌, ◌^◌, max, nat_lt, List, [], ◌∷◌, ◌++◌, Bool, true, false, Option, Some, None, if◌then◌else◌, refl, sym, subst, arith}
use Rattle.pvp_wire.specs.declared.stamped.Stamp.{Stamp}
use Rattle.pvp_rooms.specs.declared.message.Input.{Input}
use Rattle.pvp_rooms.specs.declared.message.Recorded.{Recorded}
use Rattle.pvp_rooms.specs.declared.message.Answer.{Answer}
use Rattle.pvp_rooms.specs.declared.message.Answer.TheVariants.{Done, NoMemory, ClockSpent}
use Rattle.pvp_rooms.specs.declared.actor.Actor.{Ghosts}
use Rattle.pvp_rooms.specs.Histories.{replay, AreSteps, stamp_clock, IsRising, last_clock}
use Rattle.pvp_rooms.specs.Rooms.{ShownRoom, IsReplayed, IsRoom, Acted, Told, clock_after, receipt}
use Rattle.pvp_rooms.specs.Seats.{AnswersStep}
use Rattle.pvp_rooms.specs.Closing.{IsClosed}

pub replay-push : {S E O : Type 0} (after : S → E → O → S) (history : List (Recorded E O)) (r : Recorded E O) (x : S)
    → replay after (history ++ r ∷ []) x ≡ after (replay after history x) r.event r.outcome
replay-push after [] r x = refl
replay-push after (q ∷ more) r x = replay-push after more r (after x q.event q.outcome)

pub AreSteps-push : {S E O : Type 0} (comes : S → E → O → Type 0) (after : S → E → O → S) (history : List (Recorded E O)) (r : Recorded E O) (x : S)
    → AreSteps comes after history x → comes (replay after history x) r.event r.outcome → AreSteps comes after (history ++ r ∷ []) x
AreSteps-push comes after [] r x steps here = (here, tt)
AreSteps-push comes after (q ∷ more) r x steps here = (steps.0, AreSteps-push comes after more r (after x q.event q.outcome) steps.1 here)

pub last_clock-push : {E O : Type 0} (history : List (Recorded E O)) (r : Recorded E O) (last : ℕ) → last_clock (history ++ r ∷ []) last ≡ r.clock
last_clock-push [] r last = refl
last_clock-push (q ∷ more) r last = last_clock-push more r q.clock

pub IsRising-push : {E O : Type 0} (history : List (Recorded E O)) (r : Recorded E O) (last : ℕ)
    → IsRising history last → last_clock history last < r.clock → stamp_clock r.stamp < r.clock → IsRising (history ++ r ∷ []) last
IsRising-push [] r last rising above over = (above, over, tt)
IsRising-push (q ∷ more) r last rising above over = (rising.0, rising.1, IsRising-push more r q.clock rising.2 above over)

-- the next clock is above the room's own and the stamp's
clock_above : (own : ℕ) (stamp : Option Stamp) (clock : ℕ) → clock_after own stamp ≡ Some clock → (own < clock) × (stamp_clock stamp < clock)
clock_above own stamp clock next = by (nat_lt (max own (stamp_clock stamp) + 1) (2 ^ 64)) next
  where
    some : {A : Type 0} (x y : A) → Some x ≡ Some y → x ≡ y
    some x y e = cc

    by : (b : Bool) → (if b then Some (max own (stamp_clock stamp) + 1) else None) ≡ Some clock → (own < clock) × (stamp_clock stamp < clock)
    by true e = let is : max own (stamp_clock stamp) + 1 ≡ clock = some _ _ e in (omega (arith, is), omega (arith, is))
    by false e = cc

-- the actor is the replay of one event more
pub replayed_next : {A N E O : Type 0} (m : Ghosts A N E O) (opening : N) (old new : A) (history : List (Recorded E O)) (r : Recorded E O)
    → IsReplayed m opening old history → Acted m old new r.event r.outcome → IsReplayed m opening new (history ++ r ∷ [])
replayed_next m opening old new history r replayed acted = λ x opens.
    let before = replayed x (acted.opens opening x opens) in
    let here = acted.step _ before.1 in (
      AreSteps-push m.comes m.after history r x before.0 here.0,
      subst (m.shows new) (sym (replay-push m.after history r x)) here.1,
    )

pub room_next : {A N E O : Type 0} (m : Ghosts A N E O) (old : ShownRoom N A E O) (new : A) (input : Input E) (clock : ℕ) (outcome : O)
    → IsRoom m old → Acted m old.actor new input.event outcome → clock_after old.clock input.stamp ≡ Some clock
    → IsRoom m (record { opening = old.opening; actor = new; clock = clock; history = old.history ++ receipt input clock outcome ∷ [] })
room_next m old new input clock outcome room acted next =
    let r = receipt input clock outcome in
    let above = clock_above old.clock input.stamp clock next in
    record {
      replayed = replayed_next m old.opening old.actor new old.history r room.replayed acted;
      rising = IsRising-push old.history r 0 room.rising (subst (λ n. n < clock) (sym room.last) above.0) above.1;
      last = last_clock-push old.history r 0;
    }

-- what a room answers was taken
pub answers_step : {A N E O : Type 0} (m : Ghosts A N E O) (input : Input E) (old new : ShownRoom N A E O) (answer : Answer O)
    → Told m input old new answer → IsRoom m old → IsRoom m new → AnswersStep m input answer
answers_step {E = E} {O = O} m input old new (Done clock outcome) told was sound =
    let P : List (Recorded E O) → Type 0 = λ h. IsReplayed m new.opening new.actor h in
    record {
      opening = new.opening;
      before = old.actor;
      actor = new.actor;
      history = old.history;
      was = subst (λ opening. IsReplayed m opening old.actor old.history) (sym told.opening) was.replayed;
      replayed = subst P told.history sound.replayed;
      told = told.acted.told;
      rising = subst (λ h. IsRising h 0) told.history sound.rising;
    }
answers_step m input old new NoMemory told was sound = tt
answers_step m input old new ClockSpent told was sound = tt

-- what a room hands out is closed
pub closes : {A N E O : Type 0} (m : Ghosts A N E O) (room : ShownRoom N A E O) (opening : N) (history : List (Recorded E O)) (end : A)
    → opening ≡ room.opening → history ≡ room.history → end ≡ room.actor → IsRoom m room → IsClosed m opening history end
closes {E = E} {O = O} m room opening history end first all last kept = record {
  replayed =
      subst (λ a. IsReplayed m opening a history) (sym last)
      (subst (λ (h : List (Recorded E O)). IsReplayed m opening room.actor h) (sym all)
      (subst (λ o. IsReplayed m o room.actor room.history) (sym first) kept.replayed));
  rising = subst (λ (h : List (Recorded E O)). IsRising h 0) (sym all) kept.rising;
}
