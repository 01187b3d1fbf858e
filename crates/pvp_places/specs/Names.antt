-- Whom a name stands for in the files of a process.
use Rattle.std.specs.Prelude.{ℕ, ◌+◌, ◌-◌, ◌==◌, ◌&&◌, Bool, nat_lt, List, ◌∷◌, length, slice_index, Option, Some, None, option_map, if◌then◌else◌}
use Rattle.std.specs.Char.{is_ascii_digit}
use Rattle.pvp_types.specs.declared.setup.Setup.{Setup}
use Rattle.pvp_types.specs.Names.{client_number, currency_number, first_of}
use Rattle.pvp_text.specs.ScriptFields.{operator_or_member}
use Rattle.pvp_places.specs.declared.order.Who.{Who}
use Rattle.pvp_places.specs.declared.order.Who.TheVariants as who
use Rattle.vr_types.specs.declared.actors.TheConstants.{FIRST_NODE, FIRST_SITE}
use Rattle.vr_types.specs.declared.limits.TheConstants.{MOST_SITES}

-- `s` and one digit
abbrev pub is_site_name : List ℕ → Bool
is_site_name name = (length name == 2) && ((slice_index name 0 == 115) && is_ascii_digit (slice_index name 1))

-- which the bank has
abbrev pub site_named : Setup → List ℕ → Option ℕ
site_named setup name =
    if is_site_name name && (nat_lt (slice_index name 1 - 48) MOST_SITES
    && nat_lt (slice_index name 1 - 48) setup.sites)
    then Some (slice_index name 1 - 48) else None

-- a client or a node, or else a site
abbrev pub actor_named : Setup → List ℕ → Option ℕ
actor_named setup name =
    first_of (client_number setup name) (option_map (λ site. FIRST_SITE + site) (site_named setup name))

-- the site of a place, with or without an `s` before it
abbrev pub site_asked : Setup → List ℕ → Option ℕ
site_asked setup word = site_named setup (if length word == 1 then 115 ∷ word else word)

-- WHOM A COMMAND LINE ASKS FOR: a site by its place, a node by its currency, the operator or a member by its name
abbrev pub actor_asked : Setup → Who → Option ℕ
actor_asked setup (who.Site word) = option_map (λ site. FIRST_SITE + site) (site_asked setup word.now)
actor_asked setup (who.Node code) = option_map (λ ccy. FIRST_NODE + ccy) (currency_number setup code.now)
actor_asked setup (who.Client name) = operator_or_member setup name.now
