-- What the clients' table says.
use Rattle.std.specs.Prelude.{◌≡◌, ℕ, ◌*◌, ◌<◌, ◌≤◌, None, Some, List, Option, drop, get_or, length, slice_get, take}
use Rattle.std.specs.Option.{option_map_or}
use Rattle.vr_types.specs.declared.row.RowOf.{RowOf}
use Rattle.vr_types.specs.Pages.{page_rows}
use Rattle.vr_log.specs.declared.clients.ClientOf.{ClientOf}
use Rattle.vr_log.specs.declared.clients.ClientsOf.{ClientsOf}

-- a client that has sent nothing
abbrev pub unknown : {R : Type 0} → ClientOf R
unknown = record { newest = 0; answer = None }

-- what is known of a client
abbrev pub known_in : {R : Type 0} → ClientsOf R → ℕ → ClientOf R
known_in clients client = get_or clients.table.items client unknown

-- the number of a client's newest row, 0 for none
abbrev pub newest_in : {R : Type 0} → ClientsOf R → ℕ → ℕ
newest_in clients client = (known_in clients client).newest

-- the number of a client's last executed row, and the answer to it
abbrev pub reply_in : {R : Type 0} → ClientsOf R → ℕ → Option (ℕ × R)
reply_in clients client = (known_in clients client).answer

-- the number of the last executed row in such an entry, 0 for none
abbrev pub executed_of : {R : Type 0} → ClientOf R → ℕ
executed_of known = option_map_or (λ answer. answer.0) known.answer 0

-- the number of a client's last executed row, 0 for none
abbrev pub executed_in : {R : Type 0} → ClientsOf R → ℕ → ℕ
executed_in clients client = executed_of (known_in clients client)

-- the rows of a page, counted from 0; none behind the last one
abbrev pub rows_at : {X : Type 0} → List X → ℕ → List X
rows_at rows page = take page_rows (drop (page_rows * page) rows)

-- the client of each of these rows has a place, from the row at `from` up to the one at `to`
abbrev pub HavePlaces : {R : Type 0} {C : Type 0} → ClientsOf R → ℕ → ℕ → List (RowOf C) → Type 0
HavePlaces {R} {C} clients from to rows =
    (at : ℕ) (row : RowOf C) → from ≤ at → at < to → slice_get rows at ≡ Some row
    → row.client < length clients.table.items
