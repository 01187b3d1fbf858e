-- Clients of whom there is no journal.
use Rattle.std.specs.Prelude.{◌≡◌, ℕ, ◌+◌, not, List, [], ◌∷◌, ◌++◌, length, None}
use Rattle.std.specs.List.{filter, range_with_len}
use Rattle.pvp_types.specs.declared.setup.Setup.{Setup}
use Rattle.pvp_journal.specs.declared.head.Head.{Head}
use Rattle.pvp_journal.specs.declared.journal.Journal.{Journal as Kept}
use Rattle.pvp_journal.specs.declared.journal.Left.TheVariants.{Nothing}
use Rattle.pvp_audit.specs.Gathered.{has_actor}

-- the clients of a bank, from the operator on, of whom there is none
abbrev pub unseen_in : Setup → List Kept → List ℕ
unseen_in setup journals =
    filter (λ client. not (has_actor journals client)) (range_with_len 0 (length setup.members + 1))

-- a journal without a record, of this client, of the bank that has a journal of this head
pub record IsBlank (head : Head) (client : ℕ) (journal : Kept) : Type 0 where
  pub opens : journal.head ≡ record head { actor = client; opening = None }
  pub nothing : journal.history.items ≡ []
  pub whole : journal.left ≡ Nothing

-- one of each of these clients, in order
abbrev pub AreBlank : Head → List ℕ → List Kept → Type 0
AreBlank head [] [] = Unit {0}
AreBlank head (client ∷ clients) (journal ∷ journals) = IsBlank head client journal × AreBlank head clients journals
AreBlank head _ _ = ⊥

-- JOURNALS, AND BEHIND THEM ONE WITHOUT A RECORD for each of these clients; behind none there is none
abbrev pub HasBlanks : List Kept → List ℕ → List Kept → Type 0
HasBlanks [] clients all = all ≡ []
HasBlanks (first ∷ more) clients all =
    (blank : List Kept) × AreBlank first.head clients blank × (all ≡ (first ∷ more) ++ blank)
