-- Filling in a history, event by event.
use Rattle.std.proofs.Common.{◌≡◌, inl, inr, Bool, true, false, List, [], ◌∷◌, ◌++◌, Option, Some, None, refl, subst, sym, ap, ◌∙◌, true≢false}
use Rattle.std.specs.Prelude.{IsTrue, IsFalse}
use Rattle.pvp_rooms.specs.Histories.{Takes, replay, AreSteps}
use Rattle.pvp_rooms.proofs.Growing.{AreSteps-push, replay-push}
use Rattle.pvp_parties.specs.declared.party.PartyEvent.{PartyEvent}
use Rattle.pvp_parties.specs.declared.party.PartyOutcome.{PartyOutcome}
use Rattle.pvp_parties.specs.Made.{memory}
use Rattle.pvp_parties.specs.declared.party.PartyEvent.TheVariants as of
use Rattle.pvp_parties.specs.Parties.{Party, PartyState, AtSite, AtNode, AtClient, Comes, Shows, after}
use Rattle.pvp_journal.specs.declared.summary.Summary.{Summary}
use Rattle.pvp_journal.specs.Spelling.{Entry}
use Rattle.pvp_journal.specs.Summaries.{Taken, Retakes, SumsUp}
use Rattle.pvp_journal.proofs.Entries.{AreSteps-at, AreSteps-front}
use Rattle.pvp_journal.proofs.Retaking.{one_record, one_summed}
use Rattle.pvp_audit.specs.Filled.{IsEventOf, AreEventsOf, no_outcome, AreLost, FillsIn, AreFilledIn}

events-push : (entries : List Entry) (history : List Taken) (entry : Entry) (r : Taken) → AreEventsOf entries history → IsEventOf entry r
    → AreEventsOf (entries ++ entry ∷ []) (history ++ r ∷ [])
events-push [] [] entry r are here = (here, tt)
events-push [] (q ∷ more) entry r are here = absurd are
events-push (e ∷ entries) [] entry r are here = absurd are
events-push (e ∷ entries) (q ∷ more) entry r are here = (are.0, events-push entries more entry r are.1 here)

lost-push : (history : List Taken) (r : Taken) → AreLost history → r.outcome ≡ no_outcome r.event → AreLost (history ++ r ∷ [])
lost-push [] r are here = (here, tt)
lost-push (q ∷ more) r are here = (are.0, lost-push more r are.1 here)

filled-push : (x : PartyState) (entries : List Entry) (history : List Taken) (entry : Entry) (r : Taken) → AreFilledIn x entries history
    → (AreSteps Comes after history x → FillsIn (replay after history x) entry.outcome r.event r.outcome)
    → ((¬ AreSteps Comes after history x) → r.outcome ≡ no_outcome r.event)
    → AreFilledIn x (entries ++ entry ∷ []) (history ++ r ∷ [])
filled-push x [] [] entry r are here lost = (here tt, λ came. tt, λ never. tt)
filled-push x [] (q ∷ more) entry r are here lost = absurd are
filled-push x (e ∷ entries) [] entry r are here lost = absurd are
filled-push x (e ∷ entries) (q ∷ more) entry r are here lost = (
  are.0,
  λ came. filled-push (after x q.event q.outcome) entries more entry r (are.1 came) (λ steps. here (came, steps)) (λ never. lost (λ all. never all.1)),
  λ never. lost-push more r (are.2 never) (lost (λ all. never all.0)),
)

-- WHERE FILLING IN STANDS: the actor took all events, or one of them cannot have come so
pub record StandsSo (first actor : Party) (entries : List Entry) (history : List Taken) (goes : Bool) : Type 0 where
  pub events : AreEventsOf entries history
  pub filled : (x : PartyState) → Shows memory first x → AreFilledIn x entries history
  pub on : IsTrue goes → (x : PartyState) → Shows memory first x → AreSteps Comes after history x × Shows memory actor (replay after history x)
  pub stops : IsFalse goes → (x : PartyState) → Shows memory first x → ¬ AreSteps Comes after history x

pub stands_first : (first : Party) (history : List Taken) (goes : Bool) → history ≡ [] → IsTrue goes → StandsSo first first [] history goes
stands_first first history true none goes = subst (λ (h : List Taken). StandsSo first first [] h true) (sym none) (record {
  events = tt;
  filled = λ x shows. tt;
  on = λ yes x shows. (tt, shows);
  stops = λ no. absurd (true≢false no);
})
stands_first first history false none goes = absurd (true≢false (sym goes))

-- one event more
module _ (first old new : Party) (entries : List Entry) (history : List Taken) (entry : Entry) (r : Taken) (goes comes : Bool) where
  pub stands_next : StandsSo first old entries history goes → IsEventOf entry r
      → (IsTrue goes → (x : PartyState) → Shows memory old x → FillsIn x entry.outcome r.event r.outcome)
      → (IsTrue comes → IsTrue goes × ((x : PartyState) → Shows memory old x → Takes Comes after x r.event r.outcome (Shows memory new)))
      → (IsFalse comes → IsTrue goes → (x : PartyState) → Shows memory old x → ¬ Comes x r.event r.outcome)
      → (IsFalse goes → r.outcome ≡ no_outcome r.event)
      → StandsSo first new (entries ++ entry ∷ []) (history ++ r ∷ []) comes
  stands_next so event fills came fails lost = record {
    events = events-push entries history entry r so.events event;
    filled = λ x shows. filled-push x entries history entry r (so.filled x shows) (λ steps. by_fill goes so fills x shows steps)
        (λ never. by_lost goes so lost x shows never);
    on = λ yes x shows.
        let was = so.on (came yes).0 x shows in
        let next = (came yes).1 (replay after history x) was.1 in (
          AreSteps-push Comes after history r x was.0 next.0,
          subst (Shows memory new) (sym (replay-push after history r x)) next.1,
        );
    stops = λ no x shows steps. by_fail goes so (fails no) x shows steps;
  }
    where
      by_fill : (b : Bool) → StandsSo first old entries history b
          → (IsTrue b → (x : PartyState) → Shows memory old x → FillsIn x entry.outcome r.event r.outcome)
          → (x : PartyState) → Shows memory first x → AreSteps Comes after history x
          → FillsIn (replay after history x) entry.outcome r.event r.outcome
      by_fill true so fills x shows steps = fills refl (replay after history x) (so.on refl x shows).1
      by_fill false so fills x shows steps = absurd (so.stops refl x shows steps)

      by_lost : (b : Bool) → StandsSo first old entries history b → (IsFalse b → r.outcome ≡ no_outcome r.event)
          → (x : PartyState) → Shows memory first x → (¬ AreSteps Comes after history x) → r.outcome ≡ no_outcome r.event
      by_lost true so lost x shows never = absurd (never (so.on refl x shows).0)
      by_lost false so lost x shows never = lost refl

      by_fail : (b : Bool) → StandsSo first old entries history b
          → (IsTrue b → (x : PartyState) → Shows memory old x → ¬ Comes x r.event r.outcome)
          → (x : PartyState) → Shows memory first x → AreSteps Comes after (history ++ r ∷ []) x → ⊥
      by_fail true so fails x shows steps =
          fails refl (replay after history x) (so.on refl x shows).1 (AreSteps-at Comes after history r [] x steps)
      by_fail false so fails x shows steps = so.stops refl x shows (AreSteps-front Comes after history (r ∷ []) x steps)

-- ONE HISTORY ALONE IS FILLED IN

never_comes : (x : PartyState) (event : PartyEvent) → ¬ Comes x event (no_outcome event)
never_comes (AtSite x) (of.OfSite event) = λ came. came
never_comes (AtSite x) (of.OfNode event) = λ came. came
never_comes (AtSite x) (of.OfClient event) = λ came. came
never_comes (AtNode x) (of.OfSite event) = λ came. came
never_comes (AtNode x) (of.OfNode event) = λ came. came
never_comes (AtNode x) (of.OfClient event) = λ came. came
never_comes (AtClient x) (of.OfSite event) = λ came. came
never_comes (AtClient x) (of.OfNode event) = λ came. came
never_comes (AtClient x) (of.OfClient event) = λ came. came

one_event : (entry : Entry) (r q : Taken) → IsEventOf entry r → IsEventOf entry q → r.outcome ≡ q.outcome → r ≡ q
one_event entry r q of also same =
    one_record r q (of.event ∙ sym also.event) (of.stamp ∙ sym also.stamp) (of.clock ∙ sym also.clock) same

one_lost : (entries : List Entry) (history other : List Taken) → AreEventsOf entries history → AreEventsOf entries other → AreLost history → AreLost other
    → history ≡ other
one_lost [] [] [] of also lost gone = refl
one_lost [] [] (q ∷ rest) of also lost gone = absurd also
one_lost [] (r ∷ more) other of also lost gone = absurd of
one_lost (entry ∷ entries) [] other of also lost gone = absurd of
one_lost (entry ∷ entries) (r ∷ more) [] of also lost gone = absurd also
one_lost (entry ∷ entries) (r ∷ more) (q ∷ rest) of also lost gone =
    let event : r.event ≡ q.event = of.0.event ∙ sym also.0.event in
    let first = one_event entry r q of.0 also.0 (lost.0 ∙ ap no_outcome event ∙ sym gone.0) in
    ap (λ (t : Taken). t ∷ more) first ∙ ap (λ (list : List Taken). q ∷ list) (one_lost entries more rest of.1 also.1 lost.1 gone.1)

pub filled_once : (x : PartyState) (entries : List Entry) (history other : List Taken) → AreEventsOf entries history → AreFilledIn x entries history
    → AreEventsOf entries other → AreFilledIn x entries other → history ≡ other
filled_once x [] [] [] of filled also again = refl
filled_once x [] [] (q ∷ rest) of filled also again = absurd also
filled_once x [] (r ∷ more) other of filled also again = absurd of
filled_once x (entry ∷ entries) [] other of filled also again = absurd of
filled_once x (entry ∷ entries) (r ∷ more) [] of filled also again = absurd also
filled_once x (entry ∷ entries) (r ∷ more) (q ∷ rest) of filled also again =
    both filled.0 again.0 (λ z mine theirs. filled_once z entries more rest of.1 mine also.1 theirs)
  where
    event : q.event ≡ r.event
    event = also.0.event ∙ sym of.0.event

    joined : r ≡ q → more ≡ rest → r ∷ more ≡ q ∷ rest
    joined first then = ap (λ (t : Taken). t ∷ more) first ∙ ap (λ (list : List Taken). q ∷ list) then

    both : FillsIn x entry.outcome r.event r.outcome → FillsIn x entry.outcome q.event q.outcome
        → ((z : PartyState) → AreFilledIn z entries more → AreFilledIn z entries rest → more ≡ rest) → r ∷ more ≡ q ∷ rest
    both (inl a) (inl b) later =
        let came : Comes x r.event q.outcome = subst (λ e. Comes x e q.outcome) event b.1 in
        let same = one_event entry r q of.0 also.0 (one_summed x r.event entry.outcome r.outcome q.outcome a.1 a.0 came b.0) in
        let behind : AreFilledIn (after x r.event r.outcome) entries rest =
        subst (λ (t : Taken). AreFilledIn (after x t.event t.outcome) entries rest) (sym same) (again.1 b.1) in
        joined same (later (after x r.event r.outcome) (filled.1 a.1) behind)
    both (inr a) (inr b) later =
        let same = one_event entry r q of.0 also.0 (a.0 ∙ ap no_outcome (sym event) ∙ sym b.0) in
        let lost : AreLost more = filled.2 (λ came. never_comes x r.event (subst (λ o. Comes x r.event o) a.0 came)) in
        let gone : AreLost rest = again.2 (λ came. never_comes x q.event (subst (λ o. Comes x q.event o) b.0 came)) in
        joined same (one_lost entries more rest of.1 also.1 lost gone)
    both (inl a) (inr b) later = absurd (b.1 r.outcome a.0 (subst (λ e. Comes x e r.outcome) (sym event) a.1))
    both (inr a) (inl b) later = absurd (a.1 q.outcome b.0 (subst (λ e. Comes x e q.outcome) event b.1))
