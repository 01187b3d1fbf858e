-- A site's status, and in words what a step changed of it.
use Rattle.std.specs.Prelude.{ℕ, ◌+◌, ◌==◌, ◌&&◌, Bool, nat_lt, if◌then◌else◌, List, [], ◌++◌, slice_get, Option, Some, None, option_map, option_and_then, codes, decimal}
use Rattle.pvp_types.specs.declared.setup.Setup.{Setup}
use Rattle.pvp_types.specs.declared.command.Cmd.{Cmd}
use Rattle.pvp_types.specs.declared.step.Step.{Step}
use Rattle.vr_types.specs.declared.event.Status.{Status}
use Rattle.vr_types.specs.declared.event.Status.TheVariants.{Normal, Change, Recovering, Down}
use Rattle.vr_types.specs.Site.{is_normal, is_change, is_recovering, is_down}
use Rattle.vr_site.specs.Replica.{ShownSite}
use Rattle.rtgs_node.specs.Node.{Envelope}
use Rattle.headline.specs.declared.step.Turn.{Turn}
use Rattle.headline.specs.declared.step.Turn.TheVariants.{OfSite, OfNode, OfClient}
use Rattle.headline.specs.Bank.{turn}
use Rattle.pvp_world.specs.World.{ShownWorld}
use Rattle.pvp_trace.specs.declared.stand.Stand.{Stand}

-- WHERE A SITE STANDS, by its number
abbrev pub stand_of : {B : Type 0} → ℕ → ShownSite Cmd Setup B → Stand
stand_of i site =
    record { site = i; status = site.volatile.status; view = site.volatile.view; done = site.volatile.done }

-- the site of a world that has this number, where there is one
abbrev pub stand_at : {B : Type 0} → ShownWorld B → ℕ → Option Stand
stand_at world i = option_map (stand_of i) (slice_get world.sites i)

-- THE SITE OF A STEP: whose turn it is
abbrev pub site_in_turn : Turn → Option ℕ
site_in_turn (OfSite i event) = Some i
site_in_turn (OfNode c event) = None
site_in_turn (OfClient k event) = None

abbrev pub site_of : List Envelope → Step → Option ℕ
site_of post step = option_and_then site_in_turn (turn post step)

-- IN WORDS

abbrev pub is_status : Status → Status → Bool
is_status Normal other = is_normal other
is_status Change other = is_change other
is_status Recovering other = is_recovering other
is_status Down other = is_down other

-- what a site is, and in which view
abbrev pub status_text : Status → ℕ → List ℕ
status_text Normal view = codes "normal in view " ++ decimal view
status_text Change view = codes "in change to view " ++ decimal view
status_text Recovering view = codes "recovering"
status_text Down view = codes "down"

-- its line, where its status or its view is another than before
abbrev pub turned_text : Stand → Stand → List ℕ
turned_text was now =
    if is_status was.status now.status && (was.view == now.view) then []
    else codes "   s" ++ decimal now.site ++ codes " is " ++ status_text now.status now.view ++ codes "\n"

-- the rows after so many, up to so many
abbrev pub places_text : ℕ → ℕ → List ℕ
places_text before last =
    if before + 1 == last then codes "row " ++ decimal last
    else codes "rows " ++ decimal (before + 1) ++ codes " to " ++ decimal last

-- its line, where it has executed more rows than before
abbrev pub executed_text : Stand → Stand → List ℕ
executed_text was now =
    if nat_lt was.done now.done then codes "   s" ++ decimal now.site ++ codes " executes "
    ++ places_text was.done now.done ++ codes "\n" else []

-- WHAT A STEP CHANGED of where its site stands
abbrev pub changes_text : Option Stand → Option Stand → List ℕ
changes_text (Some was) (Some now) = turned_text was now ++ executed_text was now
changes_text (Some was) None = []
changes_text None now = []
