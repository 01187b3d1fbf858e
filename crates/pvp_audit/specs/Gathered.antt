-- Which journals are those of one bank, and what is reported of others.
use Rattle.std.specs.Prelude.{◌≡◌, ◌*◌, ℕ, ◌+◌, ◌==◌, Bool, false, not, nat_le, nat_lt, List, ◌++◌, length, map, take, slice_get, Option, Some, None, codes, IsPermutation, if◌then◌else◌}
use Rattle.std.specs.List.{list_any, find, range_with_len}
use Rattle.std.specs.List.Sorted.{IsNonDecreasingBy}
use Rattle.std.specs.Str.{bytes_eq}
use Rattle.pvp_types.specs.declared.setup.Setup.{Setup}
use Rattle.pvp_types.specs.Setup.{faults}
use Rattle.vr_types.specs.Actors.{id_of}
use Rattle.vr_types.specs.declared.actors.ActorId.{ActorId}
use Rattle.vr_types.specs.declared.actors.ActorId.TheVariants.{Client, Node, Site}
use Rattle.vr_types.specs.declared.actors.TheConstants.{FIRST_NODE, FIRST_SITE}
use Rattle.vr_types.specs.declared.cell.Boot.{Boot}
use Rattle.pvp_journal.specs.declared.head.Head.{Head}
use Rattle.pvp_journal.specs.declared.journal.Journal.{Journal as Kept}
use Rattle.pvp_audit.specs.declared.history.History.{History}
use Rattle.pvp_journal.specs.declared.fault.EvidenceWhy.{EvidenceWhy}
use Rattle.pvp_journal.specs.declared.fault.EvidenceWhy.TheVariants as why
use Rattle.pvp_audit.specs.declared.gather.EvidenceFault.{EvidenceFault}
use Rattle.pvp_audit.specs.declared.gather.EvidenceFault.TheVariants.{Journal, Missing, NoMemory}

-- ---- the actors of a bank

-- it has this one, which may open over this: a site over what its cell held, a node and a client over nothing
abbrev pub is_actor : Setup → ActorId → Option Boot → Bool
is_actor setup (Site site) (Some boot) = nat_le site (2 * faults setup)
is_actor setup (Node ccy) None = nat_lt ccy (length setup.currencies)
is_actor setup (Client client) None = nat_le client (length setup.members)
is_actor setup _ _ = false

-- ---- one journal behind others

abbrev pub has_other_bank : List Kept → List ℕ → Bool
has_other_bank journals bank = list_any (λ journal. not (bytes_eq journal.head.bank bank)) journals

abbrev pub has_actor : List Kept → ℕ → Bool
has_actor journals actor = list_any (λ journal. journal.head.actor == actor) journals

-- WHAT IS WRONG WITH A JOURNAL of this head behind others, where the bank's setup has this mark: the first of these
abbrev pub wrong_with : Setup → List ℕ → List Kept → Head → Option EvidenceWhy
wrong_with setup mark before head =
    if not (bytes_eq (take 16 head.bank) mark) then Some why.Setup
    else if has_other_bank before head.bank then Some why.Life
    else if not (is_actor setup (id_of head.actor) head.opening) then Some why.Stranger
    else if has_actor before head.actor then Some why.Twice
    else None

-- nothing is wrong with any behind those before it
abbrev pub AreRight : Setup → List ℕ → List Kept → Type 0
AreRight setup mark journals =
    (at : ℕ) (journal : Kept) → slice_get journals at ≡ Some journal
    → wrong_with setup mark (take at journals) journal.head ≡ None

-- this is wrong with the first that is wrong, whose place is counted from 1
pub record IsWrongAt (setup : Setup) (mark : List ℕ) (journals : List Kept) (place : ℕ) (it : EvidenceWhy)
    : Type 0 where
  pub before : ℕ
  pub journal : Kept
  pub counted : place ≡ before + 1
  pub there : slice_get journals before ≡ Some journal
  pub right : AreRight setup mark (take before journals)
  pub wrong : wrong_with setup mark (take before journals) journal.head ≡ Some it

-- ---- all of them

-- the first of so many actors, from a number on, of whom there is none
abbrev pub missing_of : List Kept → ℕ → ℕ → Option ℕ
missing_of journals first count = find (λ actor. not (has_actor journals actor)) (range_with_len first count)

-- the bank's actors in order: the operator and the members, the nodes, the sites
abbrev pub actors_of : Setup → List ℕ
actors_of setup =
    range_with_len 0 (length setup.members + 1) ++ range_with_len FIRST_NODE (length setup.currencies)
    ++ range_with_len FIRST_SITE (2 * faults setup + 1)

-- the first of them of whom there is none
abbrev pub missing_in : Setup → List Kept → Option ℕ
missing_in setup journals = find (λ actor. not (has_actor journals actor)) (actors_of setup)

-- what a journal has of its actor
abbrev pub history_of : Kept → History
history_of journal = record { actor = journal.head.actor; opening = journal.head.opening; entries = journal.history }

-- THE JOURNALS ARE THOSE OF ONE BANK, of each actor one, and these are their histories, in order of the actors
pub record AreOneBank (setup : Setup) (mark : List ℕ) (journals : List Kept) (histories : List History) : Type 0 where
  pub right : AreRight setup mark journals
  pub all : missing_in setup journals ≡ None
  pub same : IsPermutation (map history_of journals) histories
  pub order : IsNonDecreasingBy (λ history. history.actor) histories

-- what is reported of journals that are not: of several things the first, and memory is asked for last
abbrev pub GatherFails : Setup → List ℕ → List Kept → EvidenceFault → Type 0
GatherFails setup mark journals (Journal place it) = IsWrongAt setup mark journals place it
GatherFails setup mark journals (Missing actor) =
    AreRight setup mark journals × (missing_in setup journals ≡ Some actor)
GatherFails setup mark journals NoMemory = AreRight setup mark journals × (missing_in setup journals ≡ None)

-- the first that is wrong was found, or none is
abbrev pub FindsWrong : Setup → List ℕ → List Kept → Option EvidenceFault → Type 0
FindsWrong setup mark journals (Some (Journal place it)) = IsWrongAt setup mark journals place it
FindsWrong setup mark journals (Some _) = ⊥
FindsWrong setup mark journals None = AreRight setup mark journals
