use Rattle.std.proofs.Common.{◌≡◌, ◌+◌, ◌∷◌, ◌&&◌, List, ℕ, Some, true, false, Bool, drop, slice_get, sym, ap, ◌∙◌}
use Rattle.std.specs.List.{list_all}
use Rattle.std.proofs.lemmas.List.{drop_more}
use Rattle.std.proofs.lemmas.Option.{slice_get_within, get_or_from_slice_get}
use Rattle.pvp_wire.specs.Spelling.{BankRow, has_client}
use Rattle.pvp_wire.proofs.admitted.are_of_clients.Goals as goal

-- what is left begins with the next row
next : (rows : List BankRow) (at : ℕ) (row : BankRow) (b : Bool) → slice_get rows at ≡ Some row → has_client row ≡ b
    → list_all has_client rows ≡ list_all has_client (drop at rows) → list_all has_client rows ≡ (b && list_all has_client (drop (at + 1) rows))
next rows at row b there is left =
    left
    ∙ ap (list_all has_client) (drop_more rows at row (slice_get_within rows at row there)
    ∙ ap (λ r. r ∷ drop (at + 1) rows) (get_or_from_slice_get rows at row row there))
    ∙ ap (λ c. c && list_all has_client (drop (at + 1) rows)) is

pub returns-then-not-is_client : goal.returns-then-not-is_client
returns-then-not-is_client c =
    sym (next c.args.rows.now c.loop-at.at c.row.result false c.row.ensures (sym c.is_client.ensures ∙ c.if-not-is_client.true) c.loop-at.invariant)

pub loop-at-preserved : goal.loop-at-preserved
loop-at-preserved c = next c.args.rows.now c.loop-at.at c.row.result true c.row.ensures (sym c.is_client.ensures ∙ c.if-not-is_client.false) c.loop-at.invariant
