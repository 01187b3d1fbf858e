use Rattle.std.proofs.Common.{◌≡◌, ◌*◌, ◌≤◌, ◌++◌, ◌-◌, take, subst, sym, ap, ◌∙◌, length, drop, arith, Vec}
use Rattle.std.specs.Arc.{arc_value}
use Rattle.std.specs.List.{AllZip, flat_map}
use Rattle.std.specs.Global.{Global}
use Rattle.std.proofs.lemmas.List.{take_all, drop_all, length-drop}
use Rattle.vr_types.specs.declared.row.RowOf.{RowOf}
use Rattle.vr_types.specs.Pages.{on_page, rows_on}
use Rattle.vr_types.proofs.Pages.{length-pages, drop-pages, full-drop, shared-rows, shared-full}
use Rattle.vr_types.proofs.paged.PagedRows.pages_from.Goals as goal

pub returns-then-page-len : goal.returns-then-page-len
returns-then-page-len g c =
    let long = length-pages on_page c.self.inside.full.items c.self.inside.last.items c.self.invariant.full in
    let same = ap (λ rows. length rows) c.self.view_is in
    c.new.ensures ∙ sym (drop_all (64 * c.args.page) c.args.self.now (omega (arith, long, same, c.if-page-len.true, c.len.ensures, c.self.invariant.last)))

-- the pages that are shared
shared : (g : _) (c : goal.In_ok-last g)
    → AllZip (λ page copy. arc_value copy ≡ arc_value page) (drop c.args.page c.self.inside.full.items) c.in_ok-full.full.items
shared g c =
    let pages = c.deref.result.now in
    let all : take (length pages - c.args.page) (drop c.args.page pages) ≡ drop c.args.page c.self.inside.full.items =
    take_all (length pages - c.args.page) (drop c.args.page pages) (let left = length-drop c.args.page pages in omega (arith, left))
    ∙ ap (drop c.args.page) c.deref.ensures.value in
    subst (λ shared. AllZip (λ page copy. arc_value copy ≡ arc_value page) shared c.in_ok-full.full.items) all c.in_ok-full.ensures.items

there : (g : _) (c : goal.In_ok-last g) → c.args.page ≤ length c.self.inside.full.items
there g c = omega (arith, c.if-page-len.false, c.len.ensures)

-- the rows that the pages hold
holds : (g : _) (c : goal.In_ok-last g) → rows_on c.in_ok-full.full.items c.in_ok-last.last ≡ drop (64 * c.args.page) c.args.self.now
holds g c =
    ap (λ l. l ++ c.in_ok-last.last.items) (shared-rows arc_value (λ (page : Vec (RowOf _) Global). page.items)
    (drop c.args.page c.self.inside.full.items) c.in_ok-full.full.items (shared g c))
    ∙ ap (λ l. flat_map on_page (drop c.args.page c.self.inside.full.items) ++ l) c.in_ok-last.ensures.items
    ∙ sym (drop-pages on_page c.self.inside.full.items c.self.inside.last.items c.args.page c.self.invariant.full (there g c))
    ∙ ap (drop (64 * c.args.page)) c.self.view_is

pub invariant_of-result : goal.invariant_of-result
invariant_of-result g c = record {
  full =
      shared-full arc_value (λ (page : Vec (RowOf _) Global). page.items) (drop c.args.page c.self.inside.full.items) c.in_ok-full.full.items (shared g c)
      (full-drop on_page c.self.inside.full.items c.args.page c.self.invariant.full);
  last = rw c.in_ok-last.ensures.items c.self.invariant.last;
  room = rw c.in_ok-last.ensures.items c.in_ok-last.ensures.room;
  none =
      λ none. (let same = ap (λ l. length l) c.in_ok-last.ensures.items in let left = length-drop c.args.page c.self.inside.full.items in
      let before = c.self.invariant.none (omega (arith, same, none)) in omega (arith, before, left, c.in_ok-full.ensures.len));
  few =
      (let few = c.self.invariant.few in let same = ap (λ l. length l) c.self.view_is in let left = length-drop (64 * c.args.page) c.args.self.now in
      let all = ap (λ l. length l) (holds g c) in omega (arith, few, same, left, all));
}

pub returns : goal.returns
returns g c = holds g c
