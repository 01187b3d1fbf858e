-- Where a site listens, as a text.
use Rattle.std.specs.Prelude.{ℕ, ◌^◌, ◌==◌, ◌&&◌, Bool, not, nat_lt, List, [], drop, slice_index, Option, Some, None, Result, Ok, Err, string_bytes, if◌then◌else◌}
use Rattle.std.specs.Char.{is_ascii_graphic}
use Rattle.std.specs.List.{list_all, before_first, after_first}
use Rattle.pvp_text.specs.declared.script.LineCode.{LineCode}
use Rattle.pvp_text.specs.ScriptFields.{number_at}
use Rattle.pvp_text.specs.ScriptWords.{is_empty}
use Rattle.pvp_places.specs.declared.address.Address.{Address}

-- a port is 1 to 65535
abbrev pub port_as : Result ℕ LineCode → Option ℕ
port_as (Ok port) = if nat_lt 0 port && nat_lt port 65536 then Some port else None
port_as (Err code) = None

-- in digits without a leading zero
abbrev pub port_of : List ℕ → Option ℕ
port_of digits = port_as (number_at (2 ^ 64) digits)

-- a host has visible characters
abbrev pub is_host : List ℕ → Bool
is_host host = not (is_empty host) && list_all is_ascii_graphic host

-- what stands behind the colon that follows a bracket
abbrev pub behind_bracket : List ℕ → List ℕ
behind_bracket rest = if slice_index rest 0 == 58 then drop 1 rest else []

abbrev pub parts_behind_bracket : List ℕ → List ℕ × List ℕ
parts_behind_bracket text = (before_first (λ b. b == 93) text, behind_bracket (after_first (λ b. b == 93) text))

-- a host and a port: a host in brackets, a colon and a port; or a host up to the first colon, and a port
abbrev pub parts_of : List ℕ → List ℕ × List ℕ
parts_of text =
    if slice_index text 0 == 91 then parts_behind_bracket (drop 1 text)
    else (before_first (λ b. b == 58) text, after_first (λ b. b == 58) text)

-- a host and a port there
pub record At : Type 0 where
  pub host : List ℕ
  pub port : ℕ

abbrev pub at_host : List ℕ → Option ℕ → Option At
at_host host None = None
at_host host (Some port) = if is_host host then Some (record { host = host; port = port }) else None

-- THE ADDRESS of a text
abbrev pub address_of : List ℕ → Option At
address_of text = at_host (parts_of text).0 (port_of (parts_of text).1)

-- an address without where its text lies in memory
abbrev pub seen_at : Address → At
seen_at address = record { host = string_bytes address.host; port = address.port }
