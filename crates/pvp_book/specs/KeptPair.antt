-- What a book keeps of each pair, and what that is by the entries.
use Rattle.std.specs.Prelude.{◌≡◌, ℕ, ◌+◌, ◌==◌, ◌&&◌, ◌||◌, Bool, true, false, not, if◌then◌else◌, List, [], ◌++◌, map, Option, Some, None, nat_eq}
use Rattle.std.specs.List.{cons_option}
use Rattle.std.specs.Option.{option_map, option_map_or}
use Rattle.std.specs.Map.{lookup}
use Rattle.indexmap.specs.IndexMap.{insert_entry}
use Rattle.pvp_types.specs.declared.setup.Setup.{Setup}
use Rattle.pvp_types.specs.declared.command.Cmd.{Cmd}
use Rattle.pvp_types.specs.declared.command.Cmd.TheVariants.{Instruct, Rescind}
use Rattle.pvp_types.specs.declared.command.Reply.{Reply}
use Rattle.pvp_types.specs.declared.command.Reply.TheVariants.{Matched}
use Rattle.pvp_book.specs.declared.entry.Entry.{Entry}
use Rattle.pvp_book.specs.declared.pair.Pair.{Pair}
use Rattle.pvp_book.specs.declared.pair.PairState.{PairState}
use Rattle.pvp_book.specs.declared.pair.PairState.TheVariants as state
use Rattle.pvp_book.specs.declared.kept_pair.KeptPair.{KeptPair}
use Rattle.pvp_book.specs.Pairs.{opened_by, matched_by, has_reference, is_matched, has_asked}
use Rattle.pvp_book.specs.Settlement.{settled_pairs}
use Rattle.pvp_book.specs.Tally.{kept_count, is_at}
use Rattle.pvp_book.specs.declared.tally.Tally.{Tally}

-- what is kept of a pair, where some pairs are settled
abbrev pub pair_with : List Entry → List Pair → Pair → KeptPair
pair_with entries settled p = record {
  pair = p;
  matched = is_matched entries p;
  settled = has_reference settled p.reference;
  first_back = has_asked entries p.first p.reference;
  second_back = has_asked entries p.second p.reference;
}

abbrev pub kept_pair : Setup → List Entry → Pair → KeptPair
kept_pair setup entries p = pair_with entries (settled_pairs setup entries) p

-- some pairs by reference, each with what is kept of it
abbrev pub by_reference : (Pair → KeptPair) → List Pair → List (ℕ × KeptPair)
by_reference kept some = map (λ p. (p.reference, kept p)) some

-- a pair that one side has just opened
abbrev pub just_opened : Pair → KeptPair
just_opened p = record { pair = p; matched = false; settled = false; first_back = false; second_back = false }

-- it was taken back: if it is matched, by both sides; otherwise by its first
abbrev pub is_back : KeptPair → Bool
is_back k = if k.matched then k.first_back && k.second_back else k.first_back

-- a side of it: the first side, or the second if it is matched
abbrev pub is_side_kept : KeptPair → ℕ → Bool
is_side_kept k client = (client == k.pair.first) || ((client == k.pair.second) && k.matched)

-- its state
abbrev pub state_kept : KeptPair → PairState
state_kept k =
    if k.settled then state.Settled
    else if is_back k then state.Rescinded
    else if k.matched then state.Matched
    else state.Unmatched

-- it still waits, if it is matched: it is neither settled nor taken back by both sides
abbrev pub still_waits : KeptPair → Bool
still_waits k = not k.settled && not (k.first_back && k.second_back)

-- the pair after it is settled
abbrev pub once_settled : KeptPair → KeptPair
once_settled k = record k { settled = true }

-- the pair after an entry that names its reference is noted
abbrev pub noted_by : ℕ → Cmd → Reply → KeptPair → KeptPair
noted_by client (Instruct asked) Matched k = record k { matched = true }
noted_by client (Rescind reference) reply k = record k {
  first_back = k.first_back || (client == k.pair.first);
  second_back = k.second_back || (client == k.pair.second);
}
noted_by client _ _ k = k

-- what is kept of a pair after an entry that names its reference is noted; the entry may open the pair
abbrev pub pair_noted : ℕ → Cmd → Reply → Option KeptPair → Option KeptPair
pair_noted client cmd reply None = option_map just_opened (opened_by client cmd reply)
pair_noted client cmd reply (Some k) = Some (noted_by client cmd reply k)

-- the reference that a command names
abbrev pub named_by : Cmd → Option ℕ
named_by (Instruct asked) = Some asked.reference
named_by (Rescind reference) = Some reference
named_by _ = None

-- what is kept under a reference
abbrev pub pair_in : List (ℕ × KeptPair) → Option ℕ → Option KeptPair
pair_in kept None = None
pair_in kept (Some r) = lookup (nat_eq r) kept

-- what is kept of the pair that a command names
abbrev pub named_in : List (ℕ × KeptPair) → Cmd → Option KeptPair
named_in kept cmd = pair_in kept (named_by cmd)

-- a pair kept under its reference, in place of what was kept there
abbrev pub pair_put : List (ℕ × KeptPair) → Option KeptPair → List (ℕ × KeptPair)
pair_put kept None = kept
pair_put kept (Some k) = insert_entry nat_eq kept k.pair.reference k

-- An entry is noted in its pair: in what is kept of pairs, in the line of matched ones, and in how many are in each
-- state.
pub record NotesPair (e : Entry) (kept later : List (ℕ × KeptPair)) (shorter longer : List Pair) (tally after : Tally)
    : Type 0 where
  pub pair : later ≡ pair_put kept (pair_noted e.client e.cmd e.reply (named_in kept e.cmd))
  pub line : longer ≡ shorter ++ cons_option (matched_by e.client e.cmd e.reply) []
  pub counts : (state : PairState) → kept_count after state + is_at (option_map state_kept (named_in kept e.cmd)) state
      ≡ kept_count tally state + is_at (option_map state_kept
      (pair_noted e.client e.cmd e.reply (named_in kept e.cmd))) state

-- a matched pair waits, as kept
abbrev pub is_waiting : List (ℕ × KeptPair) → Pair → Bool
is_waiting kept p = option_map_or still_waits (lookup (nat_eq p.reference) kept) false
