use Rattle.std.proofs.Common.{◌*◌, length, drop, ap, arith}
use Rattle.std.proofs.lemmas.List.{length-take}
use Rattle.vr_types.specs.Pages.{page_rows}
use Rattle.pvp_wire.specs.Pieces.{rows_at}
use Rattle.pvp_wire.proofs.Paged.{lent-page}
use Rattle.pvp_wire.proofs.writing.page_at.Goals as goal

pub returns-in-Some-clause-few : goal.returns-in-Some-clause-few
returns-in-Some-clause-few c =
    let rows = c.args.rows.now in
    let page = c.args.page in
    let here = lent-page (rows_at rows page) c.in-Some.rows.now c.in-Some.ensures in
    omega (arith, ap (λ l. length l) here, length-take page_rows (drop (page_rows * page) rows))
