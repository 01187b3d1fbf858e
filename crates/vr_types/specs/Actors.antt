-- How actors are numbered: the operator is 0, members follow from 1, nodes from 101, sites from 200.
use Rattle.std.specs.Prelude.{ℕ, ◌+◌, ◌-◌, ◌^◌, ◌&&◌, ◌||◌, Bool, nat_le, min, Option, Some, None, if◌then◌else◌}
use Rattle.vr_types.specs.declared.actors.ActorId.{ActorId}
use Rattle.vr_types.specs.declared.actors.ActorId.TheVariants.{Client, Node, Site}
use Rattle.vr_types.specs.declared.actors.TheConstants.{FIRST_NODE, FIRST_SITE}
use Rattle.vr_types.specs.declared.limits.TheConstants.{MOST_MEMBERS, MOST_NODES, MOST_SITES}

-- the actor of a number
abbrev pub id_of : ℕ → ActorId
id_of number =
    if nat_le FIRST_SITE number then Site (number - FIRST_SITE)
    else if nat_le FIRST_NODE number then Node (number - FIRST_NODE)
    else Client number

-- the number of an actor, at most the greatest of 16 bits
abbrev pub number_of : ActorId → ℕ
number_of (Client client) = client
number_of (Node ccy) = min (FIRST_NODE + ccy) (2 ^ 16 - 1)
number_of (Site site) = min (FIRST_SITE + site) (2 ^ 16 - 1)

-- its number among the sites, where it is one
abbrev pub site_in : ActorId → Option ℕ
site_in (Site site) = Some site
site_in (Node ccy) = None
site_in (Client client) = None

-- the numbers of sites are above all others
abbrev pub is_site : ℕ → Bool
is_site actor = nat_le FIRST_SITE actor

-- the numbers of clients: the operator and the members, and the nodes
abbrev pub is_client : ℕ → Bool
is_client actor = nat_le actor MOST_MEMBERS || (nat_le FIRST_NODE actor && nat_le actor (FIRST_NODE + MOST_NODES - 1))

-- the numbers of all actors: clients and sites
abbrev pub is_actor : ℕ → Bool
is_actor actor = is_client actor || (nat_le FIRST_SITE actor && nat_le actor (FIRST_SITE + MOST_SITES - 1))
