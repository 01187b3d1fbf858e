-- The opening of a view.
use Rattle.std.proofs.Common.{arith, ◌≡◌, ℕ, ◌<◌, List, [], ◌∷◌, ◌++◌, length, map, max, min, None, sym, ap, ◌∙◌, append-nil, true, false}
use Rattle.std.specs.List.{filter_map}
use Rattle.std.specs.Prelude.{Contains, Result, Ok, Err, OnOk}
use Rattle.std.proofs.lemmas.List.Sums.{fold-append}
use Rattle.vr_types.specs.declared.event.OutcomeOf.{OutcomeOf}
use Rattle.vr_types.specs.declared.event.Why.TheVariants.{Stale}
use Rattle.vr_types.specs.declared.machine.Machine.{Ghosts}
use Rattle.vr_types.specs.declared.message.EnvelopeOf.{EnvelopeOf}
use Rattle.vr_types.specs.declared.message.MsgOf.TheVariants.{StartView}
use Rattle.vr_types.specs.declared.row.RowOf.{RowOf}
use Rattle.vr_types.specs.Change.{opened_with}
use Rattle.vr_types.specs.Choice.{Choice, IsRight, IsPick, OneEach}
use Rattle.vr_types.specs.Group.{to_all}
use Rattle.vr_types.specs.Site.{Site, Vote}
use Rattle.vr_types.proofs.Choosing.{most_done_of}
use Rattle.vr_types.proofs.ChoosingPick.{pick-one, most_done-right}
use Rattle.vr_types.proofs.ChoosingPlace.{IsLargest-one}
use Rattle.vr_types.specs.Step.{Step, drops, places_between, executed_to, normal_in, begins_with_executed}
use Rattle.vr_log.specs.declared.running.Running.{Running}
use Rattle.vr_log.specs.Kept.{answer_to, reply_mail}
use Rattle.vr_log.specs.Outcomes.{ended}
use Rattle.vr_log.specs.Running.{IsRunning, Meets, site_of}
use Rattle.vr_log.proofs.OutcomeLemmas.{reply_mails}
use Rattle.vr_change.specs.Parts.{opens_with}
use Rattle.vr_change.proofs.Sites.{normal_with}

-- so many rows are executed in all
abbrev pub done_in_all : {C : Type 0} → Site C → ℕ → List (RowOf C) → ℕ
done_in_all x k log = max x.done (min k (length log))

-- the view was opened
pub opened_meets : {H C R O S : Type 0} (m : Ghosts H C R O S) (start : H) (f me : ℕ) (n : Running H C R O S) (out : OutcomeOf C R O) (x : Site C)
    (log : List (RowOf C)) (k : ℕ) (sent : List (EnvelopeOf C R O)) → out.dropped ≡ None
    → out.sent.items ≡ (sent ++ to_all f me (StartView (record { view = x.view; done = done_in_all x k log; rows = log })))
    ++ map (reply_mail me x.view) (filter_map (answer_to m start log) (places_between x.done (done_in_all x k log)))
    → IsRunning m start f n [] → normal_with x.view (done_in_all x k log) log x.known x.cell ≡ site_of n [] x.cell
    → Meets m start f me n out (opened_with f me log k (record { site = x; sent = sent }))
opened_meets m start f me n out x log k sent dropped mails runs site =
    let told = sent ++ to_all f me (StartView (record { view = x.view; done = done_in_all x k log; rows = log })) in
    let y = executed_to k (normal_in x.view log x) in
    record {
      running = runs;
      site = site;
      sent = mails ∙ ap (λ l. told ++ l) (sym (reply_mails m start f me y (places_between x.done (done_in_all x k log)))) ∙ sym (append-nil _);
      ending = ap ended (sym dropped);
    }

module _ {C R O : Type 0} (choose : Choice C) (f me : ℕ) (x y : Site C) (sent : List (EnvelopeOf C R O)) (log : List (RowOf C)) (k : ℕ) where
  pub opens_with-stale : begins_with_executed choose.same y log ≡ false → ◌≡◌ {A = Step C R O} (opens_with choose f me x y sent log k) (drops x Stale)
  opens_with-stale e = rw e

  pub opens_with-opens : begins_with_executed choose.same y log ≡ true
      → ◌≡◌ {A = Step C R O} (opens_with choose f me x y sent log k) (opened_with f me log k (record { site = y; sent = sent }))
  opens_with-opens e = rw e

-- the view is opened over one log, with as many rows executed
pub opened_over : {C R O : Type 0} (f me : ℕ) (x : Site C) (log own : List (RowOf C)) (done k : ℕ) (sent : List (EnvelopeOf C R O)) → log ≡ own → x.done ≡ done
    → ◌≡◌ {A = Step C R O} (opened_with f me log k (record { site = x; sent = sent }))
    (opened_with f me own k (record { site = record x { done = done }; sent = sent }))
opened_over {C} {R} {O} f me x log own done k sent e d =
    let at : List (RowOf C) → ℕ → Step C R O = λ l n. opened_with f me l k (record { site = record x { done = n }; sent = sent }) in
    ap (λ l. at l x.done) e ∙ ap (λ n. at own n) d

-- what follows on Ok
pub on_ok_then : {T E : Type 0} (result : Result T E) (P Q : Type 0) → (P → Q) → OnOk result P → OnOk result Q
on_ok_then (Ok value) P Q h p = h p
on_ok_then (Err error) P Q h p = tt

-- the right choice opens the view with this vote's log and this commit-number
pub opens_picked : {C R O : Type 0} (choose : Choice C) (f me : ℕ) (x y : Site C) (sent : List (EnvelopeOf C R O)) (ballot : List (Vote C)) (vote : Vote C)
    (k : ℕ) → IsRight f choose → OneEach (λ (v : Vote C). v.from) ballot → IsPick ballot vote → k ≡ most_done_of ballot
    → ◌≡◌ {A = Step C R O} (opens_with choose f me x y sent (choose.pick ballot).log (choose.most_done ballot)) (opens_with choose f me x y sent vote.log k)
opens_picked {C} {R} {O} choose f me x y sent ballot vote k right each p done =
    let some : 0 < length ballot = contains_some ballot vote p.kept in
    let pick : choose.pick ballot ≡ vote = pick-one ballot (choose.pick ballot) vote each (right.pick ballot some) p in
    let most : choose.most_done ballot ≡ k =
    IsLargest-one _ (choose.most_done ballot) (most_done_of ballot) (right.most_done ballot some) (most_done-right ballot some) ∙ sym done in
    let at : Vote C → ℕ → Step C R O = λ v n. opens_with choose f me x y sent v.log n in
    ap (λ v. at v (choose.most_done ballot)) pick ∙ ap (at vote) most
  where
    contains_some : (xs : List (Vote C)) (v : Vote C) → Contains xs v → 0 < length xs
    contains_some xs v (i, low, e) = omega arith

-- one more vote's commit-number
pub most_done-more : {C : Type 0} (votes : List (Vote C)) (vote : Vote C) → max (most_done_of votes) vote.done ≡ most_done_of (votes ++ vote ∷ [])
most_done-more votes vote = sym (fold-append (λ most v. max most v.done) 0 votes (vote ∷ []))
