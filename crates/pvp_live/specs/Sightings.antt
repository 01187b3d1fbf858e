-- The status of each site of a live run, as it is seen under its lock.
use Rattle.std.specs.Prelude.{◌≡◌, List, length, Option, Some, None}
use Rattle.std.specs.List.{All, filter}
use Rattle.vr_types.specs.Actors.{is_site}
use Rattle.vr_types.specs.declared.cell.BootCell.{Ghosts as Cell}
use Rattle.vr_types.specs.Group.{actor_of}
use Rattle.pvp_rooms.specs.Closing.{IsSeen}
use Rattle.pvp_rooms.specs.Seats.{Place}
use Rattle.pvp_parties.specs.declared.party.PartyOf.TheVariants.{Site, Node, Client}
use Rattle.pvp_parties.specs.declared.party.PartyOf.{PartyOf}
use Rattle.pvp_audit.specs.Judged.{party_with}
use Rattle.pvp_live.specs.declared.sighting.Sighting.{Sighting}

-- WHERE AN ACTOR STANDS: a site as its reading calls show it, a node or a client nowhere
abbrev pub sighting_of : {B : Type 0} → PartyOf B → Option Sighting
sighting_of (Site p) =
    Some (record { actor = actor_of p.place; status = p.now.volatile.status; view = p.now.volatile.view })
sighting_of (Node p) = None
sighting_of (Client p) = None

-- A LOOK: so stood an actor of the bank as a history of its own has left it
abbrev pub IsLook : {B : Type 0} → Cell B → Option Sighting → Type 0
IsLook c look = IsSeen (party_with c) (λ actor seen. seen ≡ sighting_of actor) look

-- one for each site of these actors
pub record AreLooks {B : Type 0} (c : Cell B) (cells : List Place) (looks : List (Option Sighting)) : Type 0 where
  pub count : length looks ≡ length (filter (λ cell. is_site cell.number) cells)
  pub each : All (IsLook c) looks
