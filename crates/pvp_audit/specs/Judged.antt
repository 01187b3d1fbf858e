-- What the audit of a whole bank says.
use Rattle.std.specs.Prelude.{◌≡◌, ℕ, ◌-◌, List, [], ◌∷◌, ◌++◌, slice_get, option_to_list, Option, Some}
use Rattle.pvp_types.specs.declared.setup.Setup.{Setup}
use Rattle.vr_types.specs.declared.actors.TheConstants.{FIRST_SITE}
use Rattle.vr_types.specs.declared.cell.Boot.{Boot}
use Rattle.vr_types.specs.declared.cell.BootCell.{Ghosts as Cell}
use Rattle.vr_types.specs.declared.cell.MemCell.{MemCell}
use Rattle.vr_types.specs.MemoryCell.{held_by}
use Rattle.rtgs_node.specs.Shown.{ShownNode}
use Rattle.headline.specs.Machine.{book}
use Rattle.pvp_world.specs.Client.{ShownClient}
use Rattle.pvp_world.specs.World.{ShownWorld, IsProved}
use Rattle.pvp_rooms.specs.declared.actor.Actor.{Ghosts}
use Rattle.pvp_rooms.specs.declared.cell.Closed.{Closed}
use Rattle.pvp_rooms.specs.Histories.{replay}
use Rattle.pvp_rooms.specs.Nodes as nodes
use Rattle.pvp_rooms.specs.Clients as clients
use Rattle.pvp_rooms.specs.Sites as sites
use Rattle.pvp_rooms.specs.declared.verdict.Finding.{Finding}
use Rattle.pvp_rooms.specs.declared.verdict.Finding.TheVariants.{Yes as Passes, No as Fails}
use Rattle.pvp_rooms.specs.Runs.{AreOpenings}
use Rattle.pvp_rooms.specs.declared.verdict.AuditTest.{AuditTest}
use Rattle.pvp_rooms.specs.Verdicts.{Means, MeansRun, IsTested}
use Rattle.pvp_parties.specs.Made.{memory}
use Rattle.pvp_parties.specs.Parties.{Party}
use Rattle.pvp_parties.specs.declared.party.PartyOf.{PartyOf}
use Rattle.pvp_parties.specs.declared.party.PartyOf.TheVariants.{Site, Node, Client}
use Rattle.pvp_parties.specs.declared.party.PartyEvent.{PartyEvent}
use Rattle.pvp_parties.specs.declared.party.PartyOutcome.{PartyOutcome}
use Rattle.pvp_parties.specs.Alike as alike
use Rattle.pvp_parties.specs.Alike.{AreAlikeSites}
use Rattle.pvp_parties.specs.Parties.{PartyState, AtSite, AtNode, AtClient, Opens, Shows, Comes, Reads, Tells, Brings, after, delivers, sent_envelopes, is_for}
use Rattle.pvp_audit.specs.declared.verdict.Verdict.{Verdict}
use Rattle.pvp_audit.specs.declared.verdict.Verdict.TheVariants.{Yes, No}
use Rattle.pvp_audit.specs.Moves.{currency_of_node}
use Rattle.pvp_audit.specs.Retold.{WentThrough}

-- what an actor of the bank left
abbrev pub Left : Type 0
Left = Closed Party (Option Boot) PartyEvent PartyOutcome

-- the ghost members of an actor of the bank over such a boot cell, where it has one
abbrev pub party_with : {B : Type 0} → Cell B → Ghosts (PartyOf B) (Option Boot) PartyEvent PartyOutcome
party_with c =
    record {
      State = PartyState;
      opens = Opens;
      shows = Shows c;
      comes = Comes;
      after = after;
      reads = Reads c;
      tells = λ old new event told. Tells c told old new event;
      brings = Brings;
    }

-- the same over a cell in memory
abbrev pub party : Ghosts Party (Option Boot) PartyEvent PartyOutcome
party = party_with memory

-- what the sites opened over, in order
abbrev pub openings : List Left → List Boot
openings [] = []
openings (c ∷ more) = option_to_list c.opening ++ openings more

-- the verdict is right, whatever right choices the sites take
abbrev pub IsRightVerdict : List Left → Finding → Type 0
IsRightVerdict closed verdict =
    (start : ℕ → PartyState) → AreOpenings party closed start
    → Means party delivers sent_envelopes is_for closed start verdict

-- all tests pass
abbrev pub AreSound : List Left → Type 0
AreSound closed = IsRightVerdict closed Passes

-- the verdict of histories alone is right, whatever right choices the sites take
abbrev pub IsRightOfRun : List Left → Finding → Type 0
IsRightOfRun closed verdict =
    (start : ℕ → PartyState) → AreOpenings party closed start
    → MeansRun party delivers sent_envelopes is_for closed start verdict

-- the histories are one run
abbrev pub AreOneRun : List Left → Type 0
AreOneRun closed = IsRightOfRun closed Passes

-- the world's actor of this number is in this state; of a site's it shows what its reading calls show
abbrev pub ShowsState : ShownWorld MemCell → ℕ → PartyState → Type 0
ShowsState world number (AtSite x) =
    (v : alike.Site) × (slice_get world.sites (number - FIRST_SITE) ≡ Some v) × sites.Shows book memory v x
ShowsState world number (AtNode x) = slice_get world.nodes (currency_of_node number) ≡ Some x
ShowsState world number (AtClient x) = slice_get world.clients number ≡ Some x

-- A VERDICT IS A FUNCTION OF WHAT IS TESTED: of the same actors, over the same states in which they opened, no two are
-- right, but for one that memory was refused
abbrev pub HasOneVerdict : List Left → Type 0
HasOneVerdict closed =
    (start : ℕ → PartyState) (a b : Finding) → IsTested a → IsTested b
    → Means party delivers sent_envelopes is_for closed start a
    → Means party delivers sent_envelopes is_for closed start b → a ≡ b

-- and so of histories alone
abbrev pub HasOneVerdictOfRun : List Left → Type 0
HasOneVerdictOfRun closed =
    (start : ℕ → PartyState) (a b : Finding) → MeansRun party delivers sent_envelopes is_for closed start a
    → MeansRun party delivers sent_envelopes is_for closed start b → a ≡ b

-- THE WORLD'S ACTORS ARE WHERE THE HISTORIES LEAD, from where the actors opened, by right choices of the sites
pub record AreReplayed (closed : List Left) (world : ShownWorld MemCell) : Type 0 where
  pub start : ℕ → PartyState
  pub opens : AreOpenings party closed start
  pub shown : (k : ℕ) (c : Left) → slice_get closed k ≡ Some c
      → ShowsState world c.number (replay after c.history.items (start k))

-- THE RUN IS THIS WORLD'S: it went through the merged list from a new one, over what the sites opened over; its actors
-- are where the histories lead; and the headline holds of it
pub record IsWorldOfRun (setup : Setup) (closed : List Left) (world : ShownWorld MemCell) : Type 0 where
  pub went : WentThrough setup (openings closed) closed world
  pub replayed : AreReplayed closed world
  pub headline : IsProved held_by world

-- what an actor's reading calls show is what those of the world's actor of this number show
abbrev pub ReadsWorld : ShownWorld MemCell → ℕ → Party → Type 0
ReadsWorld world number (Site p) =
    (v : alike.Site) × (slice_get world.sites (number - FIRST_SITE) ≡ Some v) × AreAlikeSites p.now v
ReadsWorld world number (Node p) =
    (v : ShownNode) × (slice_get world.nodes (currency_of_node number) ≡ Some v) × nodes.Reads p.now v
ReadsWorld world number (Client p) =
    (v : ShownClient) × (slice_get world.clients number ≡ Some v) × clients.Reads p.now v

-- so of each actor
abbrev pub EndsAgree : List Left → ShownWorld MemCell → Type 0
EndsAgree closed world = (k : ℕ) (c : Left) → slice_get closed k ≡ Some c → ReadsWorld world c.number c.end

-- A YES: all tests pass; all events went through this world; and each actor ended as the world's
pub record IsYes (setup : Setup) (closed : List Left) (world : ShownWorld MemCell) : Type 0 where
  pub sound : AreSound closed
  pub of_run : IsWorldOfRun setup closed world
  pub ends : EndsAgree closed world

abbrev pub Judges : Setup → List Left → Verdict → Type 0
Judges setup closed (Yes world) = IsYes setup closed world
Judges setup closed (No actor event why) = IsRightVerdict closed (Fails actor event why)

-- A YES OF HISTORIES, whatever receipts and ends there are: they are one run, and this world's
pub record IsYesOfRun (setup : Setup) (closed : List Left) (world : ShownWorld MemCell) : Type 0 where
  pub run : AreOneRun closed
  pub of_run : IsWorldOfRun setup closed world

abbrev pub JudgesRun : Setup → List Left → Verdict → Type 0
JudgesRun setup closed (Yes world) = IsYesOfRun setup closed world
JudgesRun setup closed (No actor event why) = IsRightOfRun closed (Fails actor event why)

-- a No is of such a test
abbrev pub TellsWhy : (AuditTest → Type 0) → Verdict → Type 0
TellsWhy Is (Yes world) = Unit {0}
TellsWhy Is (No actor event why) = Is why
