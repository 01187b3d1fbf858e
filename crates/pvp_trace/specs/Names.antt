-- How actors and currencies are named: as scripts name them.
use Rattle.std.specs.Prelude.{ℕ, ◌-◌, ◌==◌, ◌++◌, nat_le, List, slice_get, if◌then◌else◌, codes, decimal}
use Rattle.std.specs.Option.{option_map_or}
use Rattle.pvp_types.specs.declared.setup.Setup.{Setup}
use Rattle.vr_types.specs.Actors.{id_of}
use Rattle.vr_types.specs.declared.actors.ActorId.{ActorId}
use Rattle.vr_types.specs.declared.actors.ActorId.TheVariants.{Client, Node, Site}

-- what the setup has no name for
abbrev pub number_text : ℕ → List ℕ
number_text n = codes "@" ++ decimal n

abbrev pub currency_text : Setup → ℕ → List ℕ
currency_text setup c = option_map_or (λ currency. currency.code) (slice_get setup.currencies c) (number_text c)

-- who an actor is, and another text where the setup has no such node or member
abbrev pub name_text : Setup → List ℕ → ActorId → List ℕ
name_text setup other (Site site) = codes "s" ++ decimal site
name_text setup other (Node ccy) = option_map_or (λ currency. currency.code) (slice_get setup.currencies ccy) other
name_text setup other (Client client) =
    if client == 0 then codes "OP" else option_map_or (λ member. member.name)
    (slice_get setup.members (client - 1)) other

-- a site by its number, a node by its currency's code, a client by its name
abbrev pub actor_text : Setup → ℕ → List ℕ
actor_text setup actor = name_text setup (number_text actor) (id_of actor)
