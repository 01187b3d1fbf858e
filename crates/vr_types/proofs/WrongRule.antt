-- Two wrong rules, each computed on a run of WorkedRuns: two sites then execute different rows at one place.
use Rattle.std.proofs.Common.{◌≡◌, ℕ, ◌==◌, ◌&&◌, not, nat_lt, List, [], ◌∷◌, map, if◌then◌else◌, refl}
use Rattle.vr_types.specs.declared.event.EventOf.{EventOf}
use Rattle.vr_types.specs.declared.event.EventOf.TheVariants.{Deliver}
use Rattle.vr_types.specs.declared.event.Why.TheVariants.{Status, View, NotPrimary, Stale}
use Rattle.vr_types.specs.declared.message.MsgOf.{MsgOf}
use Rattle.vr_types.specs.declared.message.MsgOf.TheVariants.{StartViewChange, DoViewChange, Recovery, RecoveryResponse}
use Rattle.vr_types.specs.Group.{primary, mail, site_of}
use Rattle.vr_types.specs.Site.{Site, Start, Vote, is_normal, is_recovering, executed_rows}
use Rattle.vr_types.specs.Step.{Step, does, drops, greater, is_outdated}
use Rattle.vr_types.specs.Normal.{on_request, on_prepare, on_prepare_ok, on_commit, beats_normal}
use Rattle.vr_types.specs.Change.{vote_of, starts_later_view, with_start, with_vote, votes_where_due, opens_where_due, on_start_view_change, on_do_view_change, on_start_view, on_timer, beats_in_change}
use Rattle.vr_types.specs.Transfer.{on_get_state, on_new_state}
use Rattle.vr_types.specs.Recovery.{state_of_view, on_recovery, on_recovery_response, beats_recovering, on_restart}
use Rattle.vr_types.specs.Handling.{refusal, refused_or, on_message}
use Rattle.vr_types.proofs.Choosing.{choice_of}
use Rattle.vr_types.proofs.Runs.{Ask, Add, World, same_ask, opening, step, run_with}
use Rattle.vr_types.proofs.WorkedRuns.{late_vote, old_vote}

-- the step of a site, but for the messages that are taken so
abbrev step_but : (ℕ → Site Ask → ℕ → MsgOf Ask ℕ ℕ → Step Ask ℕ ℕ) → ℕ → ℕ → Site Ask → EventOf Ask ℕ ℕ → Step Ask ℕ ℕ
step_but takes f me x (Deliver envelope) = refused_or x (refusal f me x (Deliver envelope)) (takes me x envelope.from envelope.msg)
step_but takes f me x e = step f me x e

-- THE FIRST: a normal site answers RECOVERY and does not note whom it answers.
abbrev answers_unnoted : ℕ → ℕ → Site Ask → ℕ → ℕ → Step Ask ℕ ℕ
answers_unnoted f me x from nonce =
    if not (is_normal x.status) then drops x Status
    else does x (mail me from (RecoveryResponse (record { view = x.view; nonce = nonce; state = state_of_view f me x; known = x.known })) ∷ [])

abbrev takes_unnoted : ℕ → ℕ → Site Ask → ℕ → MsgOf Ask ℕ ℕ → Step Ask ℕ ℕ
takes_unnoted f me x actor (Recovery msg) = answers_unnoted f me x (site_of actor) msg.nonce
takes_unnoted f me x actor msg = on_message (choice_of same_ask f) f me x actor msg

abbrev unnoted : World
unnoted = run_with (step_but (takes_unnoted 1) 1) 1 (opening 1) late_vote

unnoted_executes : map executed_rows unnoted.sites ≡ (record { client = 102; number = 1; cmd = Add 1 } ∷ [])
    ∷ (record { client = 102; number = 2; cmd = Add 2 } ∷ []) ∷ [] ∷ []
unfolding on_request on_prepare on_prepare_ok on_commit beats_normal on_start_view_change on_do_view_change on_start_view on_timer beats_in_change on_get_state
    on_new_state on_recovery on_recovery_response beats_recovering on_restart
unnoted_executes = refl

-- THE SECOND: what a sender knew is learnt, and what is collected stays, of whatever boot it is.
abbrev learns_alone : List ℕ → Site Ask → Site Ask
learns_alone told x = record x { known = greater x.known told }

abbrev starts_keeping : ℕ → ℕ → Site Ask → ℕ → Start → Step Ask ℕ ℕ
starts_keeping f me x w start =
    if is_recovering x.status then drops x Status
    else if nat_lt w x.view then drops x View
    else if is_normal x.status && (w == x.view) then drops x Status
    else if is_outdated x.known start.from start.known then drops x Stale
    else (
    let started = starts_later_view f me w (learns_alone start.known x) in
    let kept = record started { site = with_start start started.site } in
    opens_where_due (choice_of same_ask f) f me x (votes_where_due f me kept))

abbrev votes_keeping : ℕ → ℕ → Site Ask → ℕ → Vote Ask → Step Ask ℕ ℕ
votes_keeping f me x w vote =
    if is_recovering x.status then drops x Status
    else if nat_lt w x.view then drops x View
    else if not (primary f w == me) then drops x NotPrimary
    else if is_normal x.status && (w == x.view) then drops x Status
    else if is_outdated x.known vote.from vote.known then drops x Stale
    else (
    let started = starts_later_view f me w (learns_alone vote.known x) in
    opens_where_due (choice_of same_ask f) f me x (record started { site = with_vote vote started.site }))

abbrev takes_keeping : ℕ → ℕ → Site Ask → ℕ → MsgOf Ask ℕ ℕ → Step Ask ℕ ℕ
takes_keeping f me x actor (StartViewChange msg) = starts_keeping f me x msg.view (record { from = site_of actor; known = msg.known })
takes_keeping f me x actor (DoViewChange msg) = votes_keeping f me x msg.view (vote_of (site_of actor) msg)
takes_keeping f me x actor msg = on_message (choice_of same_ask f) f me x actor msg

abbrev keeping : World
keeping = run_with (step_but (takes_keeping 2) 2) 2 (opening 2) old_vote

keeping_executes : map executed_rows keeping.sites ≡ (record { client = 102; number = 1; cmd = Add 1 } ∷ [])
    ∷ (record { client = 102; number = 2; cmd = Add 2 } ∷ []) ∷ [] ∷ [] ∷ [] ∷ []
unfolding on_request on_prepare on_prepare_ok on_commit beats_normal on_start_view_change on_do_view_change on_start_view on_timer beats_in_change on_get_state
    on_new_state on_recovery on_recovery_response beats_recovering on_restart
keeping_executes = refl
