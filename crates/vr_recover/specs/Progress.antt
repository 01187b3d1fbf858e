-- What a response leads to.
use Rattle.std.specs.Prelude.{◌≡◌, ℕ, List, [], Result, MatchResult}
use Rattle.std.specs.declared.alloc.AllocError.{AllocError}
use Rattle.vr_types.specs.declared.cell.Boot.{Boot}
use Rattle.vr_types.specs.declared.machine.Machine.{Ghosts}
use Rattle.vr_types.specs.Site.{Ack}
use Rattle.vr_types.specs.Step.{Step, Handled, does, drops}
use Rattle.vr_log.specs.Running.{IsRunning, site_of}
use Rattle.vr_recover.specs.declared.progress.Progress.{Progress}
use Rattle.vr_recover.specs.declared.progress.Progress.TheVariants.{Dropped, Waits, Regained}
use Rattle.vr_recover.specs.declared.recovering.RecoveringOf.{RecoveringOf}
use Rattle.vr_recover.specs.Recovering.{IsSoundRecovering, recovering_site}

-- What is kept afterwards is sound, or the running state is sound.
abbrev pub IsSoundProgress : {H C R O S : Type 0} → Ghosts H C R O S → H → ℕ → RecoveringOf C → Progress H C R O S
    → Type 0
IsSoundProgress m start f kept (Dropped why) = IsSoundRecovering f kept
IsSoundProgress m start f kept Waits = IsSoundRecovering f kept
IsSoundProgress m start f kept (Regained r) = IsRunning m start f r []

-- It is the step, where this is kept afterwards: the response is dropped or kept, or the state is regained.
abbrev pub IsProgress : {H C R O S : Type 0} → RecoveringOf C → List Ack → Boot → Progress H C R O S → Step C R O
    → Type 0
IsProgress kept acks cell (Dropped why) step = step ≡ drops (recovering_site kept acks cell) why
IsProgress kept acks cell Waits step = step ≡ does (recovering_site kept acks cell) []
IsProgress kept acks cell (Regained r) step = step ≡ does (site_of r [] cell) []

-- The same, or memory was refused, which happens only where the event is handled.
abbrev pub FollowsProgress : {H C R O S : Type 0} → RecoveringOf C → List Ack → Boot
    → Result (Progress H C R O S) AllocError → Step C R O → Type 0
FollowsProgress kept acks cell result step =
    MatchResult result (λ progress. IsProgress kept acks cell progress step) (λ _. step.ending ≡ Handled)
