-- THE OTHER WINDOWS THAT A WINDOW NAMES: their pages may read it, and its console reads them.
use Rattle.std.specs.Prelude.{ℕ, ◌++◌, ◌==◌, not, List, length, filter, codes, if◌then◌else◌}
use Rattle.std.specs.List.{slice_split, flat_map, enumerate_from, list_all}
use Rattle.http_header.specs.Token.{is_value_byte}
use Rattle.pvp_window.specs.declared.page.TheConstants.{SUMS}
use Rattle.pvp_window.specs.Json.{comma, quoted_text}

-- their names: what stands between commas, where it is something
abbrev pub names_in : List ℕ → List (List ℕ)
names_in others = filter (λ name. not (length name == 0)) (slice_split (λ b. b == 44) others)

-- the pages of a window
abbrev pub origin_of : List ℕ → List ℕ
origin_of name = codes "http://" ++ name

-- the list of them
unfoldable pub name_item : ℕ × List ℕ → List ℕ
name_item (at, name) = comma at ++ quoted_text name

abbrev pub names_json : List (List ℕ) → List ℕ
names_json names = flat_map name_item (enumerate_from 0 names)

unfoldable pub listed_json : List (List ℕ) → List ℕ
listed_json names = codes "{\"windows\":[" ++ names_json names ++ codes "]}\n"

-- what the console's page may do: have its own script and style, and ask its own window and these
abbrev pub asks : List ℕ → List ℕ
asks name = codes " http://" ++ name

unfoldable pub policy_text : List (List ℕ) → List ℕ
policy_text names = SUMS.now ++ codes "; connect-src 'self'" ++ flat_map asks names

-- the field that says so; where no field can, the page may do nothing
abbrev pub policy_of : List (List ℕ) → List ℕ
policy_of names =
    if list_all is_value_byte (policy_text names) then policy_text names else codes "default-src 'none'"
