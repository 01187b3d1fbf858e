-- What a keys file says.
use Rattle.std.specs.Prelude.{ℕ, ◌≡◌, ◌==◌, Bool, List, [], ◌∷◌, ◌++◌, Option, Some, None, option_map, find, Result, Ok, Err, if◌then◌else◌}
use Rattle.std.specs.List.{list_any}
use Rattle.hex.specs.Hex.{decode_sized}
use Rattle.hex.specs.declared.error.FromHexError.{FromHexError}
use Rattle.pvp_types.specs.declared.setup.Setup.{Setup}
use Rattle.pvp_text.specs.ScriptWords.{lines}
use Rattle.pvp_places.specs.declared.fault.PlaceWhy.{PlaceWhy}
use Rattle.pvp_places.specs.declared.fault.PlaceWhy.TheVariants as why
use Rattle.pvp_places.specs.declared.fault.PlaceFault.{PlaceFault}
use Rattle.pvp_places.specs.declared.keys.Keys.{Keys}
use Rattle.pvp_places.specs.declared.keys.Shared.{Shared}
use Rattle.pvp_places.specs.Names.{actor_named}
use Rattle.pvp_places.specs.Reading.{read_from}

-- the key of an actor, in 64 digits
abbrev pub shared_as : ℕ → Result (List ℕ) FromHexError → Result Shared PlaceWhy
shared_as actor (Ok key) = Ok (record { actor = actor; key = key })
shared_as actor (Err fault) = Err why.Key

abbrev pub shared_with : Option ℕ → List ℕ → Result Shared PlaceWhy
shared_with None digits = Err why.Name
shared_with (Some actor) digits = shared_as actor (decode_sized digits 32)

-- an actor stands there already
abbrev pub is_shared : List Shared → ℕ → Bool
is_shared shared actor = list_any (λ s. s.actor == actor) shared

abbrev pub and_shared : List Shared → Result Shared PlaceWhy → Result (List Shared) PlaceWhy
and_shared shared (Ok s) = if is_shared shared s.actor then Err why.Twice else Ok (shared ++ s ∷ [])
and_shared shared (Err fault) = Err fault

-- what a line of a name and a key adds
abbrev pub with_key : Setup → List Shared → List ℕ → List ℕ → Result (List Shared) PlaceWhy
with_key setup shared name digits = and_shared shared (shared_with (actor_named setup name) digits)

-- THE KEYS OF A FILE
abbrev pub keys_in : Setup → List ℕ → Result (List Shared) PlaceFault
keys_in setup bytes = read_from (with_key setup) [] 1 (lines bytes)

-- the key that is shared with an actor
abbrev pub key_with : List Shared → ℕ → Option (List ℕ)
key_with shared actor = option_map (λ s. s.key) (find (λ s. s.actor == actor) shared)

-- the keys that a reader keeps
abbrev pub shared_in : Keys → List Shared
shared_in keys = keys.shared.items
