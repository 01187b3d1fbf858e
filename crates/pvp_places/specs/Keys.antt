-- The keys file of an actor.
use Rattle.std.specs.Prelude.{ℕ, ◌+◌, ◌/◌, ◌%◌, List, [], ◌∷◌, ◌++◌, codes, if◌then◌else◌, nat_lt}
use Rattle.std.specs.List.{flat_map}
use Rattle.pvp_types.specs.declared.setup.Setup.{Setup}
use Rattle.pvp_trace.specs.Names.{actor_text}
use Rattle.pvp_links.specs.Links.{talks}
use Rattle.byteorder.specs.Endian.{big_bytes}
use Rattle.vr_types.specs.declared.actors.TheConstants.{FIRST_NODE}
use Rattle.pvp_tags.specs.Hmac.{hmac}
use Rattle.pvp_tags.specs.Keys.{key_of}

-- a number from 0 to 15 as a digit of 0 to 9 and a to f
abbrev pub digit_at : ℕ → ℕ
digit_at value = if nat_lt value 10 then 48 + value else 87 + value

abbrev pub byte_text : ℕ → List ℕ
byte_text byte = digit_at (byte / 16) ∷ digit_at (byte % 16) ∷ []

abbrev pub hex_text : List ℕ → List ℕ
hex_text bytes = flat_map byte_text bytes

-- a line: an actor and a key
abbrev pub line_of : Setup → ℕ → List ℕ → List ℕ
line_of setup actor key = actor_text setup actor ++ codes " " ++ hex_text key ++ codes "\n"

-- that for an actor, where the two talk
abbrev pub key_line : Setup → List ℕ → ℕ → ℕ → List ℕ
key_line setup secret me actor = if talks me actor then line_of setup actor (key_of secret me actor) else []

-- THE KEYS FILE of an actor, by the bank's secret
abbrev pub keys_text : Setup → List ℕ → ℕ → List ℕ → List ℕ
keys_text setup secret me actors = flat_map (key_line setup secret me) actors

-- THE TOKENS of a bank's windows, by its secret: one for each client
abbrev pub token_of : List ℕ → ℕ → List ℕ
token_of secret actor = hmac secret (codes "window" ++ big_bytes 2 actor)

abbrev pub token_line : Setup → List ℕ → ℕ → List ℕ
token_line setup secret actor = if nat_lt actor FIRST_NODE then line_of setup actor (token_of secret actor) else []

abbrev pub tokens_text : Setup → List ℕ → List ℕ → List ℕ
tokens_text setup secret actors = flat_map (token_line setup secret) actors
