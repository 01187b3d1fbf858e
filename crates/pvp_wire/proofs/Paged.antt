-- The rows of a list, page by page.
use Rattle.std.proofs.Common.{◌≡◌, ℕ, ◌+◌, ◌*◌, List, [], ◌∷◌, ◌++◌, length, take, Some, ap, ◌∙◌, arith, length-append}
use Rattle.std.proofs.Math.Seq.{take-add}
use Rattle.std.proofs.lemmas.Grind.{flat_map-append}
use Rattle.std.specs.List.{flat_map}
use Rattle.vr_types.specs.Pages.{page_rows, as_page}
use Rattle.pvp_wire.specs.Layout.{row, BankRow}
use Rattle.pvp_wire.specs.Pieces.{rows_at}
use Rattle.pvp_wire.specs.Shape.{EachFits}

-- a page that is lent has the rows that stand there
pub lent-page : {X : Type 0} (found lent : List X) → Some lent ≡ as_page found → lent ≡ found
lent-page [] lent is = absurd cc
lent-page (x ∷ rest) lent is = cc

-- the rows of a page more
pub page-more : (rows : List BankRow) (page : ℕ) → take (page_rows * (page + 1)) rows ≡ take (page_rows * page) rows ++ rows_at rows page
page-more rows page =
    let e : page_rows * (page + 1) ≡ page_rows * page + page_rows = omega arith in
    rw e (take-add (page_rows * page) page_rows rows)

-- how many they are
pub length-page-more : (rows : List BankRow) (page : ℕ)
    → length (take (page_rows * (page + 1)) rows) ≡ length (take (page_rows * page) rows) + length (rows_at rows page)
length-page-more rows page = ap (λ l. length l) (page-more rows page) ∙ length-append (take (page_rows * page) rows) (rows_at rows page)

-- their bytes
pub spelled-more : (rows : List BankRow) (page : ℕ)
    → flat_map row.spell (take (page_rows * (page + 1)) rows) ≡ flat_map row.spell (take (page_rows * page) rows) ++ flat_map row.spell (rows_at rows page)
spelled-more rows page = ap (flat_map row.spell) (page-more rows page) ∙ flat_map-append row.spell (take (page_rows * page) rows) (rows_at rows page)

pub EachFits-append : {A : Type 0} (ItemFits : A → Type 0) (xs ys : List A) → EachFits ItemFits xs → EachFits ItemFits ys → EachFits ItemFits (xs ++ ys)
EachFits-append ItemFits [] ys each more = more
EachFits-append ItemFits (x ∷ xs) ys each more = (each.0, EachFits-append ItemFits xs ys each.1 more)
