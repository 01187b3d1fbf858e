-- Recovery, by section 4.3 of 'Viewstamped Replication Revisited' (MIT-CSAIL-TR-2012-021), whose steps are named. This
-- project's own: the boot cell holds only the count of restarts, which is the nonce; each site keeps what it has heard
-- of the counts of the others.
use Rattle.std.specs.Prelude.{ℕ, ◌==◌, ◌&&◌, Bool, not, nat_lt, nat_le, List, [], ◌∷◌, ◌++◌, filter, slice_set, Option, Some, None, if◌then◌else◌}
use Rattle.std.specs.List.{list_any}
use Rattle.vr_types.specs.declared.event.Status.TheVariants.{Down}
use Rattle.vr_types.specs.declared.event.Why.TheVariants.{Status, Known, Stale}
use Rattle.vr_types.specs.declared.message.MsgOf.TheVariants.{Recovery, RecoveryResponse}
use Rattle.vr_types.specs.declared.message.RecoveryResponseOf.{RecoveryResponseOf}
use Rattle.vr_types.specs.declared.message.StateOf.{StateOf}
use Rattle.vr_types.specs.declared.message.Recovery.{Recovery as RecoveryMsg}
use Rattle.vr_types.specs.Cell.{nonce_of, raised}
use Rattle.vr_types.specs.Group.{primary, mail, to_all}
use Rattle.vr_types.specs.Site.{Site, Response, over, restarted, boot_of, is_normal, is_recovering}
use Rattle.vr_types.specs.Choice.{Choice, Regained}
use Rattle.vr_types.specs.Step.{Step, does, drops, is_outdated, learns, executed_to, normal_in}

-- the state of its view that a site gives: only the primary gives its log and commit-number
abbrev pub state_of_view : {C : Type 0} → ℕ → ℕ → Site C → Option (StateOf C)
state_of_view f me x = if primary f x.view == me then Some (record { done = x.done; rows = x.log }) else None

-- the boot number of a site is noted
abbrev pub notes : {C : Type 0} → ℕ → ℕ → Site C → Site C
notes from boot x = record x { known = slice_set x.known from boot }

-- RECOVERY (step 2). This project's own: the nonce is noted before it is answered, and an earlier one is dropped.
unfoldable pub on_recovery : {C R O : Type 0} → ℕ → ℕ → Site C → ℕ → RecoveryMsg → Step C R O
on_recovery f me x from msg =
    if not (is_normal x.status) then drops x Status
    else if nat_lt msg.nonce (boot_of x.known from) then drops x Stale
    else (let y = notes from msg.nonce x in
    does y
    (mail me from
    (RecoveryResponse (record { view = y.view; nonce = msg.nonce; state = state_of_view f me y; known = y.known }))
    ∷ []))

-- what a site answers by its RECOVERYRESPONSE
abbrev pub response_of : {C : Type 0} → ℕ → RecoveryResponseOf C → Response C
response_of from msg = record { from = from; view = msg.view; state = msg.state; known = msg.known }

-- a response of this site, of this view or a later one, is kept
abbrev pub has_as_late : {C : Type 0} → List (Response C) → Response C → Bool
has_as_late responses new = list_any (λ old. (old.from == new.from) && nat_le new.view old.view) responses

-- the response is kept in place of any other of its sender
abbrev pub with_response : {C : Type 0} → Response C → Site C → Site C
with_response new x =
    record x {
      collected = record (x.collected) {
        responses = filter
            (λ old. not (old.from == new.from)) x.collected.responses ++ new ∷ [];
      };
    }

-- the state is regained, where one is: a fresh machine executes as far as the primary had; no client is answered
abbrev pub regains : {C R O : Type 0} → Site C → Option (Regained C) → Step C R O
regains x None = does x []
regains x (Some regained) =
    does (executed_to regained.state.done (normal_in regained.view regained.state.rows x)) []

-- The site at the point where it decides whether a state is regained: it has learnt what the sender knew, and kept its
-- response.
abbrev pub after_response : {C : Type 0} → Response C → Site C → Site C
after_response response x = with_response response (learns response.known x)

-- RECOVERYRESPONSE (step 3)
unfoldable pub on_recovery_response : {C R O : Type 0} → Choice C → Site C → ℕ → Response C → Step C R O
on_recovery_response choose x nonce response =
    if not (is_recovering x.status) then drops x Status
    else if not (nonce == nonce_of x.cell) then drops x Stale
    else if is_outdated x.known response.from response.known then drops x Stale
    else if has_as_late (learns response.known x).collected.responses response then drops x Known
    else (let y = after_response response x in regains y (choose.regained y.collected.responses))

-- Beat of a recovering site: it asks again (step 1).
unfoldable pub beats_recovering : {C R O : Type 0} → ℕ → ℕ → Site C → Step C R O
beats_recovering f me x = does x (to_all f me (Recovery (record { nonce = nonce_of x.cell })))

-- Crash: all is lost but the cell.
abbrev pub on_crash : {C R O : Type 0} → Site C → Step C R O
on_crash x = does (over x.cell Down) []

-- Restart of a site that is down (step 1): the count of restarts is raised and saved, and all others are asked. At the
-- greatest count the event was refused before.
unfoldable pub on_restart : {C R O : Type 0} → ℕ → ℕ → Site C → Step C R O
on_restart f me x =
    let cell = raised x.cell in does (restarted f me cell) (to_all f me (Recovery (record { nonce = nonce_of cell })))
