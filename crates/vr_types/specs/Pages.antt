-- Rows on pages of 64, of which the full ones are shared.
use Rattle.std.specs.Prelude.{ℕ, ◌≡◌, ◌*◌, ◌<◌, ◌≤◌, ◌++◌, ◌∷◌, [], List, Option, Some, None, Vec, length, take, drop, vec_capacity}
use Rattle.std.specs.Global.{Global}
use Rattle.std.specs.Arc.{arc_value}
use Rattle.std.specs.declared.sync.Arc.{Arc}
use Rattle.std.specs.List.{flat_map, AllByRecursion}
use Rattle.vr_types.specs.declared.row.RowOf.{RowOf}

-- how many rows a page has room for
abbrev pub page_rows : ℕ
page_rows = 64

-- the rows of a page that is shared
abbrev pub on_page : {C : Type 0} → Arc (Vec (RowOf C) Global) Global → List (RowOf C)
on_page page = (arc_value page).items

-- the rows of full pages and of the page behind them
abbrev pub rows_on : {C : Type 0} → List (Arc (Vec (RowOf C) Global) Global) → Vec (RowOf C) Global → List (RowOf C)
rows_on full last = flat_map on_page full ++ last.items

-- all pages but the last are full, the last has room for a whole page, and it is empty only where there are no rows
pub record AreOnPages {C : Type 0} (pages : List (Arc (Vec (RowOf C) Global) Global)) (end : Vec (RowOf C) Global)
    : Type 0 where
  pub full : AllByRecursion (λ page. length (on_page page) ≡ page_rows) pages
  pub last : length end.items ≤ page_rows
  pub room : 0 < length end.items → page_rows ≤ vec_capacity end
  pub none : length end.items ≡ 0 → length pages ≡ 0
  pub few : length (rows_on pages end) ≤ 65535

-- a page, where it has rows
abbrev pub as_page : {X : Type 0} → List X → Option (List X)
as_page [] = None
as_page (row ∷ rows) = Some (row ∷ rows)

-- the rows of a page, counted from 0; None behind the last one
abbrev pub page_of : {X : Type 0} → List X → ℕ → Option (List X)
page_of rows page = as_page (take page_rows (drop (page_rows * page) rows))
