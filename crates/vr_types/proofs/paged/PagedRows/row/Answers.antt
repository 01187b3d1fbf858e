use Rattle.std.proofs.Common.{◌≡◌, ◌+◌, ◌*◌, ◌/◌, ◌%◌, ◌<◌, ap, sym, ◌∙◌, length, slice_get, get_or, arith, Vec, Global, refl}
use Rattle.std.proofs.lemmas.Option.{slice_get_read}
use Rattle.std.proofs.Math.Nat.{div-add-mod}
use Rattle.vr_types.specs.Pages.{on_page}
use Rattle.vr_types.proofs.Pages.{length-pages, full-page, row-on_page, row-behind}
use Rattle.vr_types.proofs.paged.PagedRows.row.Goals as goal

pub index-requires-else-page-len : goal.index-requires-else-page-len
index-requires-else-page-len g c =
    let long = length-pages on_page c.self.inside.full.items c.self.inside.last.items c.self.invariant.full in
    let same = ap (λ rows. length rows) c.self.view_is in
    omega (arith, long, same, c.requires, c.if-page-len.false, c.len.ensures, c.self.invariant.last)

pub returns-then-page-len : goal.returns-then-page-len
returns-then-page-len g c =
    let pages = c.self.inside.full.items in
    let last = c.self.inside.last.items in
    let page = c.args.at / 64 in
    let within = c.args.at % 64 in
    let there : page < length pages = omega (arith, c.if-page-len.true, c.len.ensures) in
    let here : length (on_page c.index.result.now) ≡ 64 =
    ap (λ page. length (on_page page)) c.index.ensures ∙ full-page on_page pages page c.index.result.now c.self.invariant.full there in
    ap (λ rows. slice_get rows c.args.at) (sym c.self.view_is)
    ∙ ap (slice_get _) (sym (div-add-mod c.args.at 64))
    ∙ row-on_page on_page pages last page within c.index.result.now c.self.invariant.full there (omega arith)
    ∙ ap (λ page. slice_get (on_page page) within) (sym c.index.ensures)
    ∙ slice_get_read (on_page c.index.result.now) 64 within c.index-then-page-len.result.now (sym here) (omega arith)
    (c.index-then-page-len.ensures ∙ ap (λ (page : Vec _ Global). get_or page.items within c.index-then-page-len.result.now) c.deref-rows.ensures)

pub returns-else-page-len : goal.returns-else-page-len
returns-else-page-len g c =
    let pages = c.self.inside.full.items in
    let last = c.self.inside.last.items in
    let within = c.args.at % 64 in
    let long = length-pages on_page pages last c.self.invariant.full in
    let same = ap (λ rows. length rows) c.self.view_is in
    let place : c.args.at ≡ 64 * length pages + within = omega (arith, long, same, c.requires, c.if-page-len.false, c.len.ensures, c.self.invariant.last) in
    let here : within < length last = omega (arith, long, same, c.requires, place) in
    ap (λ rows. slice_get rows c.args.at) (sym c.self.view_is)
    ∙ ap (slice_get _) place
    ∙ row-behind on_page pages last within c.self.invariant.full
    ∙ slice_get_read last (length last) within c.index-else-page-len.result.now refl here c.index-else-page-len.ensures
