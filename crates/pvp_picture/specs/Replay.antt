-- Where the sites of a world stand, and where they stood along a run; and what rows came to.
use Rattle.std.specs.Prelude.{◌≡◌, ℕ, ◌+◌, ◌*◌, ◌==◌, ◌&&◌, true, List, [], ◌∷◌, Option, option_map, slice_get}
use Rattle.std.specs.List.{filter_map, range_with_len}
use Rattle.pvp_types.specs.declared.command.Cmd.{Cmd}
use Rattle.pvp_types.specs.declared.setup.Setup.{Setup}
use Rattle.pvp_types.specs.Setup.{faults}
use Rattle.vr_types.specs.declared.cell.MemCell.{MemCell}
use Rattle.vr_types.specs.MemoryCell.{held_by}
use Rattle.vr_types.specs.Group.{primary}
use Rattle.vr_types.specs.Site.{is_normal}
use Rattle.vr_site.specs.Replica.{ShownSite}
use Rattle.pvp_world.specs.World.{ShownWorld}
use Rattle.pvp_trace.specs.declared.attempt.Attempt.{Attempt}
use Rattle.pvp_trace.specs.contracts.attempt.AttemptPartialEq.TheImpl.{ghosts as equal}
use Rattle.pvp_trace.specs.Attempts.{Attempts}
use Rattle.pvp_book.specs.Ledger.{Ledger}
use Rattle.pvp_book.specs.Answer.{answer_to, after}
use Rattle.pvp_picture.specs.declared.executed.Executed.{Executed}
use Rattle.pvp_picture.specs.declared.executed.Executions.{Executions}
use Rattle.pvp_picture.specs.declared.scene.Snapshot.{Snapshot}

-- where a site stands: it leads where it is normal, in a view of which it is the primary
abbrev pub snapshot_of : ℕ → ℕ → ShownSite Cmd Setup MemCell → Snapshot
snapshot_of f number site = record {
  status = site.volatile.status;
  view = site.volatile.view;
  leads = is_normal site.volatile.status && (primary f site.volatile.view == number);
  done = site.volatile.done;
  boots = (held_by site.cell).boots;
}

-- where a site of a world stands, if it is there
abbrev pub snapshot_at : ShownWorld MemCell → ℕ → Option Snapshot
snapshot_at world number = option_map (snapshot_of (faults world.setup) number) (slice_get world.sites number)

-- where all sites of a world stand, in order
abbrev pub snapshots_of : ShownWorld MemCell → List Snapshot
snapshots_of world = filter_map (snapshot_at world) (range_with_len 0 (2 * faults world.setup + 1))

-- a step that was noted was tried again, and came out the same, as `==` finds
pub record ComesAgain (old new : ShownWorld MemCell) (noted : Attempt) : Type 0 where
  pub again : Attempt
  pub attempts : Attempts held_by old new noted.step again
  pub same : equal.eq again noted ≡ true

-- the attempts one after another: each came out the same in the world that the one before it left; and where the sites
-- stand after each
abbrev pub Replays : ShownWorld MemCell → List Attempt → ShownWorld MemCell → List (List Snapshot) → Type 0
Replays first [] last after = (last ≡ first) × (after ≡ [])
Replays first (attempt ∷ attempts) last after =
    (next : ShownWorld MemCell) × ComesAgain first next attempt
    × (others : List (List Snapshot)) × (after ≡ snapshots_of next ∷ others) × Replays next attempts last others

-- before the first attempt, and after each up to this world
abbrev pub StandUpTo : ShownWorld MemCell → List Attempt → ShownWorld MemCell → List (List Snapshot) → Type 0
StandUpTo first attempts last all =
    (after : List (List Snapshot)) × (all ≡ snapshots_of first ∷ after) × Replays first attempts last after

-- WHERE SITES STAND along a run of attempts from this world on
abbrev pub StandAlong : ShownWorld MemCell → List Attempt → List (List Snapshot) → Type 0
StandAlong first attempts all = (last : ShownWorld MemCell) × StandUpTo first attempts last all

-- ROWS ARE ANSWERED one after another, each as a book answers it that went through those before it; and the book after
-- them
abbrev pub AreAnswered : Ledger → List Executed → Ledger → Type 0
AreAnswered first [] last = last ≡ first
AreAnswered first (executed ∷ others) last =
    (executed.reply ≡ answer_to first executed.row.client executed.row.cmd)
    × AreAnswered (after first executed.row.client executed.row.cmd) others last

-- so are those that are there later, where those that were there before are
abbrev pub StayAnswered : Executions → Executions → Type 0
StayAnswered old new =
    (first : Ledger) → AreAnswered first old.rows.items old.book → AreAnswered first new.rows.items new.book
