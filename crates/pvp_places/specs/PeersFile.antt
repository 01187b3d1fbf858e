-- What a peers file says.
use Rattle.std.specs.Prelude.{ℕ, ◌≡◌, ◌+◌, ◌==◌, ◌&&◌, Bool, not, nat_lt, List, [], ◌∷◌, ◌++◌, Option, Some, None, find, map, Result, Ok, Err, codes, bytes_eq, if◌then◌else◌}
use Rattle.std.specs.List.{list_any, range_with_len}
use Rattle.pvp_types.specs.declared.setup.Setup.{Setup}
use Rattle.vr_types.specs.declared.actors.TheConstants.{FIRST_SITE}
use Rattle.vr_types.specs.declared.limits.TheConstants.{MOST_SITES}
use Rattle.pvp_text.specs.Reading.{◌>>=◌}
use Rattle.pvp_text.specs.ScriptWords.{is_empty, lines}
use Rattle.pvp_places.specs.declared.fault.PlaceWhy.{PlaceWhy}
use Rattle.pvp_places.specs.declared.fault.PlaceWhy.TheVariants as why
use Rattle.pvp_places.specs.declared.fault.PlaceFault.{PlaceFault}
use Rattle.pvp_places.specs.declared.fault.PlaceFault.TheVariants.{Missing}
use Rattle.pvp_places.specs.declared.peers.Place.{Place}
use Rattle.pvp_places.specs.declared.peers.Peers.{Peers}
use Rattle.pvp_places.specs.Address.{At, address_of, seen_at}
use Rattle.pvp_places.specs.Names.{site_named}
use Rattle.pvp_places.specs.Reading.{read_from}

-- where a site listens
pub record Listens : Type 0 where
  pub site : ℕ
  pub at : At

-- where the sites listen, and how this life of the bank is named
pub record Read : Type 0 where
  pub places : List Listens
  pub life : List ℕ

-- a site has a place
abbrev pub has_place : List Listens → ℕ → Bool
has_place places site = list_any (λ p. p.site == site) places

-- what a line `bank NAME` adds
abbrev pub with_life : Read → List ℕ → Result Read PlaceWhy
with_life read name = if is_empty read.life then Ok (record read { life = name }) else Err why.Twice

-- what a line of a site's name adds
abbrev pub with_address : Read → ℕ → Option At → Result Read PlaceWhy
with_address read site None = Err why.Address
with_address read site (Some at) = Ok (record read { places = read.places ++ (record { site = site; at = at }) ∷ [] })

abbrev pub with_place : Read → Option ℕ → List ℕ → Result Read PlaceWhy
with_place read None text = Err why.Name
with_place read (Some site) text =
    if has_place read.places site then Err why.Twice else with_address read site (address_of text)

abbrev pub with_site : Setup → Read → List ℕ → List ℕ → Result Read PlaceWhy
with_site setup read name text = with_place read (site_named setup name) text

-- what a line of two words adds
abbrev pub with_peer : Setup → Read → List ℕ → List ℕ → Result Read PlaceWhy
with_peer setup read name rest =
    if bytes_eq name (codes "bank") then with_life read rest else with_site setup read name rest

-- what the lines of a file say
abbrev pub lines_in : Setup → List ℕ → Result Read PlaceFault
lines_in setup bytes = read_from (with_peer setup) (record { places = []; life = [] }) 1 (lines bytes)

-- the bank has a site, and the site no place
abbrev pub is_missing : Setup → List Listens → ℕ → Bool
is_missing setup places site = nat_lt site setup.sites && not (has_place places site)

-- the first of them
abbrev pub missing_site : Setup → List Listens → Option ℕ
missing_site setup places = find (is_missing setup places) (range_with_len 0 MOST_SITES)

-- all of them have one
abbrev pub all_there : Read → Option ℕ → Result Read PlaceFault
all_there read None = Ok read
all_there read (Some site) = Err (Missing (FIRST_SITE + site))

-- THE PEERS OF A FILE
abbrev pub peers_in : Setup → List ℕ → Result Read PlaceFault
peers_in setup bytes = lines_in setup bytes >>= λ read. all_there read (missing_site setup read.places)

-- what a reader keeps, without where it lies in memory
abbrev pub listens : Place → Listens
listens place = record { site = place.site; at = seen_at place.address }

abbrev pub read_as : Peers → Read
read_as peers = record { places = map listens peers.places.items; life = peers.life.items }
