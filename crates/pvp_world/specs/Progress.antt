-- What a world needs to go on, and where it then can go.
use Rattle.std.specs.Prelude.{ℕ, ◌+◌, ◌-◌, ◌*◌, ◌&&◌, if◌then◌else◌, Bool, nat_lt, nat_le, List, [], length, take, count_by, sum_by, is_some}
use Rattle.std.specs.List.{list_all}
use Rattle.pvp_types.specs.declared.setup.Setup.{Setup}
use Rattle.pvp_types.specs.declared.command.Cmd.{Cmd}
use Rattle.pvp_types.specs.Setup.{faults}
use Rattle.vr_types.specs.declared.limits.TheConstants.{MAX_ROWS}
use Rattle.vr_types.specs.Cell.{max_number}
use Rattle.vr_types.specs.Site.{is_running}
use Rattle.vr_site.specs.Replica.{ShownSite}
use Rattle.pvp_book.specs.Answer.{Row}
use Rattle.headline.specs.Progress as progress
use Rattle.pvp_world.specs.World.{ShownWorld, OfTrail}

-- the bank that the trail leads to has what it needs to go on
abbrev pub CanGoOn : {B : Type 0} → ShownWorld B → Type 0
CanGoOn world = OfTrail world (λ list. progress.CanGoOn world.setup (faults world.setup) list.bank)

-- AND THE TRAIL IS NO DEAD END
abbrev pub GoesOn : {B : Type 0} → ShownWorld B → Type 0
GoesOn world = OfTrail world (λ list. progress.Progresses list)

-- how many sites run, and how many notices are not answered
abbrev pub running_count : {B : Type 0} → ShownWorld B → ℕ
running_count world = count_by (λ site. is_running site.volatile.status) world.sites

abbrev pub unanswered_count : {B : Type 0} → ShownWorld B → ℕ
unanswered_count world = sum_by (λ shown. length shown.node.notices - shown.node.answered) world.nodes

-- how many clients wait
abbrev pub waiting_count : {B : Type 0} → ShownWorld B → ℕ
waiting_count world = count_by (λ shown. is_some shown.client.waiting) world.clients

-- the executed rows that a site shows
abbrev pub executed_in : {B : Type 0} → ShownSite Cmd Setup B → List Row
executed_in site = if is_running site.volatile.status then take site.volatile.done site.volatile.log else []

-- how many orders may be open in its log
abbrev pub may_be_open : {B : Type 0} → ShownSite Cmd Setup B → ℕ
may_be_open site =
    progress.open_in site.setup (executed_in site) + (length site.volatile.log - length (executed_in site))

-- how many rows are still to come of what was asked
abbrev pub still_asked : {B : Type 0} → ShownWorld B → ℕ
still_asked world = 2 * waiting_count world + unanswered_count world

-- the view of a site is not near its end, and its log has room for what is open
abbrev pub has_room : {B : Type 0} → ShownWorld B → ShownSite Cmd Setup B → Bool
has_room world site =
    nat_le (site.volatile.view + 2 * (2 * faults world.setup + 1)) max_number
    && nat_lt (length site.volatile.log + may_be_open site + still_asked world) MAX_ROWS

-- most sites run, and each has room
abbrev pub can_go_on : {B : Type 0} → ShownWorld B → Bool
can_go_on world = nat_lt (faults world.setup) (running_count world) && list_all (has_room world) world.sites
