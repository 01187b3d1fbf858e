-- An actor, and what it was made from.
use Rattle.std.specs.Prelude.{◌≡◌, ℕ}
use Rattle.pvp_types.specs.declared.setup.Setup.{Setup}
use Rattle.pvp_types.specs.Setup.{faults}
use Rattle.vr_types.specs.declared.cell.BootCell.{Ghosts as Cell}
use Rattle.vr_types.specs.declared.cell.MemCell.{MemCell}
use Rattle.vr_types.specs.MemoryCell.{held_by, faults_of, IsReliable, after_save}
use Rattle.vr_site.specs.Replica.{with_cell}
use Rattle.rtgs_node.specs.Shown.{ShownNode}
use Rattle.pvp_world.specs.Client.{ShownClient}
use Rattle.pvp_parties.specs.Alike.{SiteOf}

-- the ghost members of the cell in memory
abbrev pub memory : Cell MemCell
memory =
    record {
      held = held_by;
      faults = faults_of;
      is_reliable = IsReliable;
      saves = λ old boot new. new ≡ after_save old boot;
    }

-- the setup of the bank, which of its kind the actor is, and what it shows now
pub record Made (A : Type 0) : Type 0 where
  pub setup : Setup
  pub place : ℕ
  pub now : A

-- a site over another cell
abbrev pub made_over : {B D : Type 0} → Made (SiteOf B) → D → Made (SiteOf D)
made_over p cell = record { setup = p.setup; place = p.place; now = with_cell p.now cell }

-- an actor as it was made

abbrev pub made_site : {B : Type 0} → Made (SiteOf B) → SiteOf B
made_site p = record p.now { f = faults p.setup; me = p.place; setup = p.setup }

abbrev pub made_node : Made ShownNode → ShownNode
made_node p = record p.now { setup = p.setup; ccy = p.place }

abbrev pub made_client : Made ShownClient → ShownClient
made_client p = record p.now { f = faults p.setup; me = p.place }
