use Rattle.std.proofs.Common.{◌≡◌, ◌+◌, ◌*◌, length, take, sym, ap, ◌∙◌, subst, arith, length-append}
use Rattle.std.proofs.lemmas.List.{length-take}
use Rattle.std.specs.List.{flat_map}
use Rattle.vr_types.specs.Pages.{page_rows}
use Rattle.pvp_wire.specs.Layout.{row}
use Rattle.pvp_wire.specs.Pieces.{rows_at}
use Rattle.pvp_wire.specs.Shape.{EachFits}
use Rattle.pvp_wire.proofs.Paged.{page-more, length-page-more, spelled-more, EachFits-append}
use Rattle.pvp_wire.proofs.writing.each_len.Goals as goal

pub overflow_add-len : goal.overflow_add-len
overflow_add-len c =
    let rows = c.args.rows.now in
    let page = c.loop-page.page in
    let here = ap (λ l. length l) c.page_at.ensures.rows in
    omega (
      arith,
      c.loop-page.invariant.1,
      c.page_len-len.ensures.few,
      here,
      length-page-more rows page,
      length-take (page_rows * (page + 1)) rows,
      c.page_count-page-end.ensures.few,
    )

pub loop-page-preserved : goal.loop-page-preserved
loop-page-preserved c =
    let rows = c.args.rows.now in
    let page = c.loop-page.page in
    let more = rows_at rows page in
    let before = take (page_rows * page) rows in
    let here = c.page_at.ensures.rows in
    let bytes : length (flat_map row.spell (take (page_rows * (page + 1)) rows)) ≡ length (flat_map row.spell before) + length (flat_map row.spell more) =
    ap (λ l. length l) (spelled-more rows page) ∙ length-append (flat_map row.spell before) (flat_map row.spell more) in (
      omega (arith, bytes, c.loop-page.invariant.0, c.page_len-len.ensures.exact, ap (λ l. length (flat_map row.spell l)) here),
      omega (arith, c.loop-page.invariant.1, c.page_len-len.ensures.few, ap (λ l. length l) here, length-page-more rows page),
      subst (EachFits row.Fits) (sym (page-more rows page))
          (EachFits-append row.Fits before more c.loop-page.invariant.2 (subst (EachFits row.Fits) here c.page_len-len.ensures.fits)),
    )
