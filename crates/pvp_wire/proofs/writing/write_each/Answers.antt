use Rattle.std.proofs.Common.{◌≡◌, ◌+◌, ◌*◌, ◌++◌, take, sym, ap, ◌∙◌, subst, List, ℕ}
use Rattle.std.specs.Io.KnownBytes.{Appends}
use Rattle.std.specs.List.{flat_map}
use Rattle.vr_types.specs.Pages.{page_rows}
use Rattle.pvp_wire.specs.Layout.{row}
use Rattle.pvp_wire.proofs.Paged.{spelled-more}
use Rattle.pvp_wire.proofs.Written.{appends_then}
use Rattle.pvp_wire.proofs.writing.write_each.Goals as goal

pub loop-at-preserved : goal.loop-at-preserved
loop-at-preserved g c =
    let rows = c.args.rows.now in
    let at = c.loop-at.at in
    let here = c.page_at.result.now in
    let bytes = g.W.Write.contents in
    let before = flat_map row.spell (take (page_rows * at) rows) in
    let more : before ++ flat_map row.spell here ≡ flat_map row.spell (take (page_rows * (at + 1)) rows) =
    ap (λ l. before ++ flat_map row.spell l) c.page_at.ensures.rows ∙ sym (spelled-more rows at) in
    subst (λ (all : List ℕ). Appends (bytes c.args.writer.now) (bytes c.write_page.new.writer) all) more
    (appends_then (bytes c.args.writer.now) (bytes c.loop-at.writer) (bytes c.write_page.new.writer) before
    (flat_map row.spell here) c.loop-at.invariant c.in_ok-write_page.ensures)
