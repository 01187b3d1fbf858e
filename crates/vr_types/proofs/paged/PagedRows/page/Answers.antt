use Rattle.std.proofs.Common.{◌≡◌, ◌+◌, ◌*◌, ◌≤◌, ◌<◌, ap, sym, ◌∙◌, length, Some, arith, Vec, Global, Option, List}
use Rattle.std.proofs.lemmas.Bool.Decides.{nat_tests}
use Rattle.vr_types.specs.Pages.{on_page, page_of}
use Rattle.vr_types.proofs.Pages.{page_of-full, page_of-last, page_of-past}
use Rattle.vr_types.proofs.paged.PagedRows.page.Goals as goal
use Rattle.vr_types.proofs.paged.PagedRows.page.Goals.{else-page-len-2-via-then-page-len-2+else-not-is_empty, else-page-len-2-via-else-page-len-2}

pub returns-then-page-len : goal.returns-then-page-len
returns-then-page-len g c =
    let pages = c.self.inside.full.items in
    let rest = c.self.inside.last.items in
    let within : c.args.page < length pages = omega (arith, c.if-page-len.true, c.len.ensures) in
    sym (ap (λ rows. page_of rows c.args.page) (sym c.self.view_is)
    ∙ page_of-full on_page pages rest c.args.page c.index.result.now c.self.invariant.full within
    ∙ ap (λ page. let rows : Option (List _) = Some (on_page page) in rows) (sym c.index.ensures)
    ∙ ap (λ (page : Vec _ Global). let rows : Option (List _) = Some page.items in rows) (sym c.deref-lent.ensures)
    ∙ ap Some (sym c.as_slice.ensures.value))

pub returns-then-not-is_empty : goal.returns-then-not-is_empty
returns-then-not-is_empty g c =
    let pages = c.self.inside.full.items in
    let rest = c.self.inside.last.items in
    let some : 0 < length rest = grind (arith, nat_tests, c.if-not-is_empty.true, c.is_empty.ensures) in
    let here : c.args.page ≡ length pages = omega (arith, c.if-page-len-2.true, c.len-else-page-len.ensures) in
    sym (ap (λ rows. page_of rows c.args.page) (sym c.self.view_is)
    ∙ ap (page_of _) here
    ∙ page_of-last on_page pages rest c.self.invariant.full some c.self.invariant.last
    ∙ ap Some (sym c.as_slice-then-not-is_empty.ensures.value))

pub returns-else-page-len-2 : goal.returns-else-page-len-2
returns-else-page-len-2 g c =
    let pages = c.self.inside.full.items in
    let rest = c.self.inside.last.items in
    let past : 64 * length pages + length rest ≤ 64 * c.args.page =
    elim c.else-page-len-2.branch [
      | else-page-len-2-via-then-page-len-2+else-not-is_empty w
          ↦ (let none : length rest ≡ 0 = grind (arith, nat_tests, w.if-not-is_empty.false, w.is_empty.ensures) in
          omega (arith, none, c.if-page-len.false, c.len.ensures))
      | else-page-len-2-via-else-page-len-2 w ↦ omega (
        arith,
        c.if-page-len.false,
        c.len.ensures,
        w.if-page-len-2.false,
        c.len-else-page-len.ensures,
        c.self.invariant.last,
      )
    ] in
    sym (ap (λ rows. page_of rows c.args.page) (sym c.self.view_is) ∙ page_of-past on_page pages rest c.args.page c.self.invariant.full past)
