-- Which steps of a run a scene shows, and what it has of each, and of envelopes.
use denote.Ref.{Bor}
use Rattle.std.specs.Prelude.{◌≡◌, Bool, true, false, not, ◌&&◌, ℕ, ◌+◌, ◌-◌, List, [], ◌∷◌, bytes_eq, length, min, slice_get, Option, Some, None, option_map, unwrap_or, Result, Ok, Err, All, string_bytes}
use Rattle.std.specs.List.{list_any}
use Rattle.pvp_types.specs.declared.setup.Setup.{Setup}
use Rattle.rtgs_node.specs.Node.{Envelope}
use Rattle.vr_types.specs.declared.event.Why.{Why}
use Rattle.vr_types.specs.declared.event.Why.TheVariants as why
use Rattle.pvp_world.specs.declared.fault.WorldFault.{WorldFault}
use Rattle.pvp_world.specs.declared.report.Report.{Report}
use Rattle.pvp_trace.specs.declared.attempt.Attempt.{Attempt}
use Rattle.pvp_trace.specs.Attempts.{envelope_of, step_text}
use Rattle.pvp_trace.specs.Messages.{envelope_text}
use Rattle.pvp_picture.specs.declared.scene.Ending.{Ending}
use Rattle.pvp_picture.specs.declared.scene.Ending.TheVariants.{Taken, Dropped, Refused}
use Rattle.pvp_picture.specs.declared.scene.Flight.{Flight}
use Rattle.pvp_picture.specs.declared.scene.Scene.{Scene}
use Rattle.pvp_picture.specs.declared.scene.ShownStep.{ShownStep}
use Rattle.pvp_picture.specs.declared.scene.Snapshot.{Snapshot}

-- what came of a step

abbrev pub dropped_for : Option Why → Ending
dropped_for None = Taken
dropped_for (Some why) = Dropped why

abbrev pub ending_of : Result Report WorldFault → Ending
ending_of (Ok report) = dropped_for report.dropped
ending_of (Err fault) = Refused fault

-- an event for which a log has no room
abbrev pub is_full : Why → Bool
is_full why.Full = true
is_full other = false

-- WHAT WENT WRONG: a step that was refused, or by which a site fell, and an event for which a log has no room; all else
-- that a site drops is as the protocol has it
abbrev pub is_wrong : Ending → Bool
is_wrong Taken = false
is_wrong (Dropped reason) = is_full reason
is_wrong (Refused fault) = true

-- where sites stood after so many steps
abbrev pub snapshots_after : List (List Snapshot) → ℕ → List Snapshot
snapshots_after along count = unwrap_or (slice_get along count) []

-- A STEP AS A SCENE HAS IT: its number, counted from 1, its words as a trace has them but for the kind of a message,
-- what came of it, and where the sites stood after it
pub record IsShownStep (setup : Setup) (post : List Envelope) (noted : List Attempt) (along : List (List Snapshot))
    (place : ℕ) (step : ShownStep) : Type 0 where
  pub attempt : Attempt
  pub is_noted : slice_get noted place ≡ Some attempt
  pub number : step.number ≡ place + 1
  pub words : string_bytes step.words ≡ step_text setup post attempt.step
  pub ending : step.ending ≡ ending_of attempt.result
  pub snapshots : step.snapshots.items ≡ snapshots_after along (place + 1)

-- so many steps from a place on
pub record AreShownSteps (setup : Setup) (post : List Envelope) (noted : List Attempt) (along : List (List Snapshot))
    (first size : ℕ) (steps : List ShownStep) : Type 0 where
  pub count : length steps ≡ size
  pub each : (i : ℕ) (step : ShownStep) → slice_get steps i ≡ Some step
      → IsShownStep setup post noted along (first + i) step

-- AN ENVELOPE AS A SCENE HAS IT: one of the post, by its number, between whom it goes, and its whole message as a trace
-- has it
pub record IsFlight (setup : Setup) (post : List Envelope) (flight : Flight) : Type 0 where
  pub envelope : Envelope
  pub is_sent : envelope_of post flight.number ≡ Some envelope
  pub from : flight.from ≡ envelope.from
  pub to : flight.to ≡ envelope.to
  pub words : string_bytes flight.words ≡ envelope_text setup envelope

-- A SCENE of the steps of a run that stand from `first` on and before `end`: all of them that there are, with how many
-- stand before and after, and where the sites stood before
pub record ShowsPart (setup : Setup) (post : List Envelope) (noted : List Attempt) (along : List (List Snapshot))
    (first end : ℕ) (scene : Scene) : Type 0 where
  pub earlier : scene.earlier ≡ min first (min end (length noted))
  pub later : scene.later ≡ length noted - min end (length noted)
  pub steps : AreShownSteps setup post noted along scene.earlier
      (min end (length noted) - scene.earlier) scene.steps.items
  pub opening : scene.opening.items ≡ snapshots_after along scene.earlier
  pub flights : All (IsFlight setup post) scene.flights.items

-- a name is among these
abbrev pub has : List (Bor (List ℕ)) → List ℕ → Bool
has names name = list_any (λ other. bytes_eq other.now name) names

-- it is, where there are any
abbrev pub has_or_none : List (Bor (List ℕ)) → List ℕ → Bool
has_or_none [] name = true
has_or_none (first ∷ others) name = has (first ∷ others) name

-- AN ACTOR IS SHOWN that is one of those that are alone to be, where any are, and none of those that are not
abbrev pub is_shown : List (Bor (List ℕ)) → List (Bor (List ℕ)) → List ℕ → Bool
is_shown only hide name = has_or_none only name && not (has hide name)
