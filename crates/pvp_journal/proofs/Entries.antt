-- Events that were taken, one after another, and the entries of them.
use Rattle.std.proofs.Common.{◌≡◌, ℕ, ◌<◌, List, [], ◌∷◌, ◌++◌, refl, sym, ap, subst}
use Rattle.pvp_rooms.specs.declared.message.Recorded.{Recorded}
use Rattle.pvp_rooms.specs.Histories.{replay, AreSteps, IsRising, last_clock, stamp_clock}
use Rattle.pvp_journal.specs.Spelling.{Entry}
use Rattle.pvp_journal.specs.Summaries.{Taken, IsEntryOf, AreEntriesOf}

-- an event in mid-history came out so in the state that those before it led to
pub AreSteps-at : {S E O : Type 0} (comes : S → E → O → Type 0) (after : S → E → O → S)
    (before : List (Recorded E O)) (r : Recorded E O) (more : List (Recorded E O)) (x : S)
    → AreSteps comes after (before ++ r ∷ more) x → comes (replay after before x) r.event r.outcome
AreSteps-at comes after [] r more x steps = steps.0
AreSteps-at comes after (q ∷ before) r more x steps = AreSteps-at comes after before r more (after x q.event q.outcome) steps.1

-- the first steps of some
pub AreSteps-front : {S E O : Type 0} (comes : S → E → O → Type 0) (after : S → E → O → S) (front behind : List (Recorded E O)) (x : S)
    → AreSteps comes after (front ++ behind) x → AreSteps comes after front x
AreSteps-front comes after [] behind x steps = tt
AreSteps-front comes after (r ∷ front) behind x steps = (steps.0, AreSteps-front comes after front behind (after x r.event r.outcome) steps.1)

-- one more
pub entries-push : (entries : List Entry) (history : List Taken) (entry : Entry) (r : Taken) → AreEntriesOf entries history → IsEntryOf entry r
    → AreEntriesOf (entries ++ entry ∷ []) (history ++ r ∷ [])
entries-push [] [] entry r of here = (here, tt)
entries-push [] (q ∷ more) entry r of here = absurd of
entries-push (e ∷ entries) [] entry r of here = absurd of
entries-push (e ∷ entries) (q ∷ more) entry r of here = (of.0, entries-push entries more entry r of.1 here)

-- what comes before an entry, of which it is, and what comes behind it
pub record IsSplit (before : List Entry) (entry : Entry) (history : List Taken) : Type 0 where
  pub front : List Taken
  pub at : Taken
  pub behind : List Taken
  pub parts : history ≡ front ++ at ∷ behind
  pub entries_of : AreEntriesOf before front
  pub entry_of : IsEntryOf entry at

pub entries-split : (before : List Entry) (entry : Entry) (more : List Entry) (history : List Taken) → AreEntriesOf (before ++ entry ∷ more) history
    → IsSplit before entry history
entries-split [] entry more [] of = absurd of
entries-split [] entry more (r ∷ rest) of = record { front = []; at = r; behind = rest; parts = refl; entries_of = tt; entry_of = of.0 }
entries-split (e ∷ before) entry more [] of = absurd of
entries-split (e ∷ before) entry more (r ∷ rest) of =
    let later = entries-split before entry more rest of.1 in
    record {
      front = r ∷ later.front;
      at = later.at;
      behind = later.behind;
      parts = ap (λ (list : List Taken). r ∷ list) later.parts;
      entries_of = (of.0, later.entries_of);
      entry_of = later.entry_of;
    }

-- they have the same clocks and the same stamps
pub rising_of : (entries : List Entry) (history : List Taken) (last : ℕ) → AreEntriesOf entries history → IsRising entries last → IsRising history last
rising_of [] [] last of rising = tt
rising_of [] (r ∷ more) last of rising = absurd of
rising_of (e ∷ entries) [] last of rising = absurd of
rising_of (e ∷ entries) (r ∷ more) last of rising =
    let clock = sym of.0.clock in
    let stamped = subst (λ n. stamp_clock e.stamp < n) clock rising.1 in (
      subst (λ n. last < n) clock rising.0,
      subst (λ s. stamp_clock s < r.clock) (sym of.0.stamp) stamped,
      rising_of entries more r.clock of.1 (subst (λ n. IsRising entries n) clock rising.2),
    )

pub rising_in : (entries : List Entry) (history : List Taken) (last : ℕ) → AreEntriesOf entries history → IsRising history last → IsRising entries last
rising_in [] [] last of rising = tt
rising_in [] (r ∷ more) last of rising = absurd of
rising_in (e ∷ entries) [] last of rising = absurd of
rising_in (e ∷ entries) (r ∷ more) last of rising =
    let clock = of.0.clock in
    let stamped = subst (λ n. stamp_clock r.stamp < n) clock rising.1 in (
      subst (λ n. last < n) clock rising.0,
      subst (λ s. stamp_clock s < e.clock) of.0.stamp stamped,
      rising_in entries more e.clock of.1 (subst (λ n. IsRising more n) clock rising.2),
    )

pub last_of : (entries : List Entry) (history : List Taken) (last : ℕ) → AreEntriesOf entries history → last_clock entries last ≡ last_clock history last
last_of [] [] last of = refl
last_of [] (r ∷ more) last of = absurd of
last_of (e ∷ entries) [] last of = absurd of
last_of (e ∷ entries) (r ∷ more) last of =
    subst (λ n. last_clock entries n ≡ last_clock more r.clock) of.0.clock (last_of entries more r.clock of.1)
