-- The parts of JSON: names are letters and digits, so they stand between quotes as they are; sums and amounts too.
use Rattle.std.specs.Prelude.{ℕ, ◌++◌, ◌==◌, List, [], codes, if◌then◌else◌}
use Rattle.pvp_types.specs.declared.setup.Setup.{Setup}
use Rattle.pvp_trace.specs.Names.{actor_text, currency_text}

-- an actor and a currency by their names
unfoldable pub actor_name : Setup → ℕ → List ℕ
actor_name setup actor = actor_text setup actor

unfoldable pub currency_name : Setup → ℕ → List ℕ
currency_name setup c = currency_text setup c

-- a comma before each item but the first
unfoldable pub comma : ℕ → List ℕ
comma at = if at == 0 then [] else codes ","

unfoldable pub quoted_text : List ℕ → List ℕ
quoted_text text = codes "\"" ++ text ++ codes "\""

unfoldable pub quoted_actor : Setup → ℕ → List ℕ
quoted_actor setup actor = codes "\"" ++ actor_name setup actor ++ codes "\""

unfoldable pub quoted_currency : Setup → ℕ → List ℕ
quoted_currency setup c = codes "\"" ++ currency_name setup c ++ codes "\""
