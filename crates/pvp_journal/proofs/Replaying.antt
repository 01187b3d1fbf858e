-- A history that is taken again, event by event.
use Rattle.std.proofs.Common.{◌≡◌, ℕ, ◌+◌, ◌<◌, Option, None, true, false, List, [], ◌∷◌, ◌++◌, length, take, drop, get_or, refl, sym, ap, ◌∙◌, subst}
use Rattle.std.specs.Prelude.{Some, IfSome, is_some}
use Rattle.std.proofs.lemmas.List.{take-append-drop, drop_more}
use Rattle.pvp_rooms.specs.declared.actor.Actor.{Ghosts}
use Rattle.pvp_rooms.specs.declared.message.Recorded.{Recorded}
use Rattle.pvp_rooms.specs.Histories.{Takes, replay, AreSteps, IsRising, last_clock, stamp_clock}
use Rattle.pvp_rooms.proofs.Growing.{AreSteps-push, replay-push}
use Rattle.pvp_rooms.proofs.Rises.{one_more}
use Rattle.pvp_journal.specs.declared.resume.Replayed.{Replayed}
use Rattle.vr_types.specs.declared.cell.Boot.{Boot}
use Rattle.pvp_parties.specs.Made.{memory}
use Rattle.pvp_parties.specs.Parties.{Party, PartyState, Opens, Shows, Comes, after}
use Rattle.pvp_journal.specs.Spelling.{Entry}
use Rattle.pvp_journal.specs.declared.summary.Summary.{Summary}
use Rattle.pvp_journal.specs.Summaries.{Taken, Retakes, SumsUp, AreEntriesOf}
use Rattle.pvp_parties.specs.declared.party.PartyEvent.{PartyEvent}
use Rattle.pvp_parties.specs.declared.party.PartyOutcome.{PartyOutcome}
use Rattle.pvp_journal.proofs.Entries.{AreSteps-at, AreSteps-front, entries-push, entries-split, rising_of, rising_in, last_of}
use Rattle.pvp_journal.proofs.Retaking.{one_history}
use Rattle.pvp_journal.specs.Resumed.{TookAll, ComesAgain, TookEntries, Replays, IsOpened, IsAgain, IsAgainOf, in_memory}

-- a history is what comes before a place, what stands there, and what comes behind it
pub split_at : {X : Type 0} (xs : List X) (i : ℕ) (x : X) → i < length xs → x ≡ get_or xs i x → xs ≡ take i xs ++ x ∷ drop (i + 1) xs
split_at xs i x here is = sym (take-append-drop i xs) ∙ ap (λ rest. take i xs ++ rest) (drop_more xs i x here ∙ ap (λ y. y ∷ drop (i + 1) xs) (sym is))

-- a clock in mid-history is above the one before it and its stamp's
IsRising-at : {E O : Type 0} (before : List (Recorded E O)) (r : Recorded E O) (more : List (Recorded E O)) (last : ℕ)
    → IsRising (before ++ r ∷ more) last → (last_clock before last < r.clock) × (stamp_clock r.stamp < r.clock)
IsRising-at [] r more last rising = (rising.0, rising.1)
IsRising-at (q ∷ before) r more last rising = IsRising-at before r more q.clock rising.2

pub rises_at : {E O : Type 0} (history : List (Recorded E O)) (i last : ℕ) (r : Recorded E O) → i < length history → r ≡ get_or history i r
    → last_clock (take i history) 0 ≡ last → IsRising history 0 → (last < r.clock) × (stamp_clock r.stamp < r.clock)
rises_at history i last r here is before rising =
    let both = IsRising-at (take i history) r (drop (i + 1) history) 0 (subst (λ rs. IsRising rs 0) (split_at history i r here is) rising) in
    (subst (λ n. n < r.clock) before both.0, both.1)

module _ {A N E O : Type 0} (m : Ghosts A N E O) where
  pub took_none : (old : A) → TookAll m old old []
  took_none old = record { steps = λ x shows. (tt, shows); opens = λ opening x opens. opens }

  -- one event more
  pub took_push : (old now new : A) (history : List (Recorded E O)) (r : Recorded E O) → TookAll m old now history
      → ((x : m.State) → m.shows now x → Takes m.comes m.after x r.event r.outcome (m.shows new))
      → ((opening : N) (x : m.State) → m.opens new opening x → m.opens now opening x)
      → TookAll m old new (history ++ r ∷ [])
  took_push old now new history r took step opens = record {
    steps = λ x shows.
        let was = took.steps x shows in
        let next = step _ was.1 in (
          AreSteps-push m.comes m.after history r x was.0 next.0,
          subst (m.shows new) (sym (replay-push m.after history r x)) next.1,
        );
    opens = λ opening x opened. took.opens opening x (opens opening x opened);
  }

  -- an actor that took all of a history, as it opened, is the replay of it
  pub again : (old : A) (found : Replayed A) (history : List (Recorded E O)) (opening : N) → IsOpened m old opening
      → TookAll m old found.actor history → IsRising history 0 → last_clock history 0 ≡ found.clock → IsAgain m opening found history
  again old found history opening opened took rising last = record {
    replayed = λ x opens. took.steps x (opened x (took.opens opening x opens));
    rising = rising;
    last = last;
  }

-- EVENTS OF WHICH A JOURNAL HAS THE ENTRIES

-- what was found of an event that was summed up
pub again_sent : (old new : Party) (event : PartyEvent) (summary : Summary) (found : Option PartyOutcome)
    → ((x : PartyState) → Shows memory old x → Retakes x event summary found (Shows memory new)) → IfSome found (SumsUp summary)
    → ComesAgain old event summary new (is_some found)
again_sent old new event summary (Some outcome) step summed = (outcome, summed, step)
again_sent old new event summary None step summed = λ outcome is x shows. step x shows outcome is

pub entries_none : (old : Party) → TookEntries old old []
entries_none old = record { history = []; entries_of = tt; took = took_none in_memory old }

pub entries_one : (old now new : Party) (entries : List Entry) (i : ℕ) (entry : Entry) → i < length entries → entry ≡ get_or entries i entry
    → TookEntries old now (take i entries) → ComesAgain now entry.event entry.outcome new true
    → ((opening : Option Boot) (x : PartyState) → Opens new opening x → Opens now opening x)
    → TookEntries old new (take (i + 1) entries)
entries_one old now new entries i entry here is took again opens =
    let r : Taken = record { event = entry.event; stamp = entry.stamp; clock = entry.clock; outcome = again.0 } in
    subst (λ es. TookEntries old new es) (sym (one_more entries i entry here is)) (record {
      history = took.history ++ r ∷ [];
      entries_of = entries-push (take i entries) took.history entry r took.entries_of
          (record { event = refl; stamp = refl; clock = refl; outcome = again.1 });
      took = took_push in_memory old now new took.history r took.took again.2 opens;
    })

pub entries_never : (old now new : Party) (entries : List Entry) (i : ℕ) (entry : Entry) → i < length entries → entry ≡ get_or entries i entry
    → TookEntries old now (take i entries) → ComesAgain now entry.event entry.outcome new false → Replays old entries None
entries_never old now new entries i entry here is took never history of x shows = λ came.
    let parts = subst (λ es. AreEntriesOf es history) (split_at entries i entry here is) of in
    let cut = entries-split (take i entries) entry (drop (i + 1) entries) history parts in
    let steps = subst (λ list. AreSteps Comes after list x) cut.parts came.0 in
    let mine = took.took.steps x shows in
    let front = AreSteps-front Comes after cut.front (cut.at ∷ cut.behind) x steps in
    let same = one_history (take i entries) took.history cut.front x took.entries_of cut.entries_of mine.0 front in
    let at = AreSteps-at Comes after cut.front cut.at cut.behind x steps in
    never cut.at.outcome cut.entry_of.outcome (replay after cut.front x) (subst (λ list. Shows memory now (replay after list x)) same mine.1)
    (subst (λ event. Comes (replay after cut.front x) event cut.at.outcome) cut.entry_of.event at)

-- where the clocks of entries do not rise, no history has them
pub never_rising : (old : Party) (entries : List Entry) → ¬ (IsRising entries 0) → Replays old entries None
never_rising old entries falls history of x shows = λ came. falls (rising_in entries history 0 of came.1)

-- all of them
pub again_of : (old : Party) (found : Replayed Party) (entries : List Entry) (opening : Option Boot) → IsOpened in_memory old opening
    → TookEntries old found.actor entries → IsRising entries 0 → last_clock entries 0 ≡ found.clock → IsAgainOf opening found entries
again_of old found entries opening opened took rising last = record {
  history = took.history;
  entries_of = took.entries_of;
  is_again = again in_memory old found took.history opening opened took.took (rising_of entries took.history 0 took.entries_of rising)
      (sym (last_of entries took.history 0 took.entries_of) ∙ last);
}
