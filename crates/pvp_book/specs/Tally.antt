-- How many pairs are in each state, as a book keeps it.
use Rattle.std.specs.Prelude.{◌≡◌, ℕ, if◌then◌else◌, List, length, filter, Option, Some, None}
use Rattle.pvp_types.specs.declared.setup.Setup.{Setup}
use Rattle.pvp_book.specs.declared.entry.Entry.{Entry}
use Rattle.pvp_book.specs.declared.pair.Pair.{Pair}
use Rattle.pvp_book.specs.declared.pair.PairState.{PairState}
use Rattle.pvp_book.specs.declared.pair.PairState.TheVariants.{Unmatched, Matched, Settled, Rescinded}
use Rattle.pvp_book.specs.declared.tally.Tally.{Tally}
use Rattle.pvp_book.specs.Ledger.{is_state, pairs_in}

abbrev pub kept_count : Tally → PairState → ℕ
kept_count tally Unmatched = tally.unmatched
kept_count tally Matched = tally.matched
kept_count tally Settled = tally.settled
kept_count tally Rescinded = tally.rescinded

-- 1 if a pair is in a state, else 0
abbrev pub is_at : Option PairState → PairState → ℕ
is_at None state = 0
is_at (Some found) state = if is_state found state then 1 else 0

-- how many pairs are in a state
abbrev pub count_in_state : (Pair → PairState) → PairState → List Pair → ℕ
count_in_state state_of state some = length (filter (λ p. is_state (state_of p) state) some)

-- a tally of all pairs
abbrev pub AreTallied : Setup → List Entry → Tally → Type 0
AreTallied setup entries tally = (state : PairState) → kept_count tally state ≡ length (pairs_in setup entries state)
