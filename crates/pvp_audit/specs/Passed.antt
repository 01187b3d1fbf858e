-- What one pass of all events through one world says.
use Rattle.std.specs.Prelude.{◌≡◌, ◌↔◌, ℕ, List, slice_get, Some}
use Rattle.pvp_types.specs.declared.setup.Setup.{Setup}
use Rattle.vr_types.specs.declared.cell.MemCell.{MemCell}
use Rattle.vr_types.specs.MemoryCell.{held_by}
use Rattle.pvp_world.specs.World.{ShownWorld, IsProved}
use Rattle.pvp_rooms.specs.Histories.{replay}
use Rattle.pvp_rooms.specs.Runs.{AreOpenings, IsLegal, number_at}
use Rattle.pvp_rooms.specs.declared.verdict.AuditTest.{AuditTest}
use Rattle.pvp_rooms.specs.declared.verdict.AuditTest.TheVariants.{End}
use Rattle.pvp_rooms.specs.Verdicts.{HoldBelow, IsOfRun}
use Rattle.pvp_rooms.specs.Merging.{HasFailed}
use Rattle.pvp_parties.specs.Made.{memory}
use Rattle.pvp_parties.specs.Parties.{PartyState, Reads, after, delivers, sent_envelopes, is_for}
use Rattle.pvp_audit.specs.declared.pass.Passed.{Passed}
use Rattle.pvp_audit.specs.declared.pass.Passed.TheVariants.{All, Failed}
use Rattle.pvp_audit.specs.declared.verdict.Verdict.{Verdict}
use Rattle.pvp_audit.specs.declared.verdict.Verdict.TheVariants.{Yes, No}
use Rattle.pvp_audit.specs.Judged.{Left, party, openings, AreReplayed, ReadsWorld, EndsAgree}
use Rattle.pvp_audit.specs.Retold.{WentThrough}

-- whatever right choices the sites take
abbrev pub OfOpenings : List Left → ((ℕ → PartyState) → Type 0) → Type 0
OfOpenings closed Holds = (start : ℕ → PartyState) → AreOpenings party closed start → Holds start

-- an end reads like the replay of its history exactly where it reads like the world's actor
abbrev pub ReadAsReplays : List Left → ShownWorld MemCell → (ℕ → PartyState) → Type 0
ReadAsReplays closed world start =
    (k : ℕ) (c : Left) → slice_get closed k ≡ Some c
    → Reads memory c.end (replay after c.history.items (start k)) ↔ ReadsWorld world c.number c.end

-- ALL EVENTS PASSED: they are one run, through which this world went
pub record HavePassed (setup : Setup) (closed : List Left) (world : ShownWorld MemCell) : Type 0 where
  pub went : WentThrough setup (openings closed) closed world
  pub replayed : AreReplayed closed world
  pub legal : OfOpenings closed (λ start. IsLegal party delivers sent_envelopes is_for closed start)
  pub reads : OfOpenings closed (λ start. ReadAsReplays closed world start)

-- AN EVENT OF AN ACTOR FAILED A TEST, and none before it
pub record HasStopped (closed : List Left) (actor event : ℕ) (why : AuditTest) : Type 0 where
  pub place : ℕ
  pub number : number_at closed place ≡ actor
  pub test : IsOfRun why
  pub fails : OfOpenings closed (λ start. HasFailed party delivers sent_envelopes is_for closed start place event why)

abbrev pub PassesSo : Setup → List Left → Passed → Type 0
PassesSo setup closed (All world) = HavePassed setup closed world
PassesSo setup closed (Failed actor event why) = HasStopped closed actor event why

-- the end of the actor at a place does not read like the world's actor, and each end before it does
pub record DiffersFirst (closed : List Left) (world : ShownWorld MemCell) (place : ℕ) : Type 0 where
  pub who : Left
  pub is : slice_get closed place ≡ Some who
  pub before : HoldBelow closed place (λ c. ReadsWorld world c.number c.end)
  pub unlike : ¬ ReadsWorld world who.number who.end

-- WHAT IS SAID OF THE ENDS, where all events passed through a world: that each reads like that world's actor, or which
-- is the first that does not
abbrev pub EndsSo : List Left → ShownWorld MemCell → Verdict → Type 0
EndsSo closed world (Yes by) = (by ≡ world) × EndsAgree closed world × IsProved held_by world
EndsSo closed world (No actor event why) =
    (place : ℕ) × (number_at closed place ≡ actor) × (event ≡ 0) × (why ≡ End) × DiffersFirst closed world place
