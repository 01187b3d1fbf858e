-- What it means that the reading calls of two actors show the same.
use Rattle.std.specs.Prelude.{◌≡◌, ◌<◌, ℕ, true, length}
use Rattle.pvp_types.specs.declared.setup.Setup.{Setup}
use Rattle.pvp_types.specs.declared.command.Cmd.{Cmd}
use Rattle.vr_types.specs.declared.cell.MemCell.{MemCell}
use Rattle.vr_types.specs.declared.limits.TheConstants.{MOST_SITES}
use Rattle.vr_types.specs.MemoryCell.{held_by}
use Rattle.vr_types.specs.Site.{boot_of}
use Rattle.vr_site.specs.Replica.{ShownSite}
use Rattle.pvp_book.specs.Answer.{has_member}
use Rattle.rtgs_node.specs.Node.{member_account}
use Rattle.rtgs_node.specs.Shown.{ShownNode}

-- what a site of the bank shows, over a cell of this kind, and over one in memory
abbrev pub SiteOf : Type 0 → Type 0
SiteOf B = ShownSite Cmd Setup B

abbrev pub Site : Type 0
Site = SiteOf MemCell

-- the same boots are known of each site
abbrev pub KnowTheSame : Site → Site → Type 0
KnowTheSame v w = (i : ℕ) → i < MOST_SITES → boot_of v.volatile.known i ≡ boot_of w.volatile.known i

pub record AreAlikeSites (v w : Site) : Type 0 where
  pub status : v.volatile.status ≡ w.volatile.status
  pub view : v.volatile.view ≡ w.volatile.view
  pub log : v.volatile.log ≡ w.volatile.log
  pub done : v.volatile.done ≡ w.volatile.done
  pub known : KnowTheSame v w
  pub cell : held_by v.cell ≡ held_by w.cell

-- there are as many members, and each member's account holds the same
pub record HoldTheSame (v w : ShownNode) : Type 0 where
  pub count : length v.setup.members ≡ length w.setup.members
  pub members : (m : ℕ) → has_member v.setup m ≡ true
      → member_account v.setup v.ccy m v.node ≡ member_account w.setup w.ccy m w.node
