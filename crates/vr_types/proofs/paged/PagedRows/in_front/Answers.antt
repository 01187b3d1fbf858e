use Rattle.std.proofs.Common.{◌≡◌, ◌+◌, ◌<◌, ◌≤◌, ◌++◌, ◌∷◌, [], List, sym, ap, ◌∙◌, append_assoc, length, arith, length-append, Vec, Global}
use Rattle.std.specs.Arc.{arc_value}
use Rattle.std.specs.List.{flat_map}
use Rattle.std.specs.declared.sync.Arc.{Arc}
use Rattle.vr_types.specs.declared.row.RowOf.{RowOf}
use Rattle.vr_types.specs.Pages.{on_page, rows_on, AreOnPages}
use Rattle.vr_types.proofs.Pages.{length-pages, one-page}
use Rattle.vr_types.proofs.paged.PagedRows.in_front.Goals as goal

-- the page in front
front : {C : Type 0} (full : List (Arc (Vec (RowOf C) Global) Global)) (page : Vec (RowOf C) Global) (rows : List (RowOf C))
    → AreOnPages full page → rows_on full page ≡ rows → length rows ≡ 64 → page.items ≡ rows
front full page rows on is whole = sym (one-page on_page full page.items on.full on.none (ap (λ l. length l) is ∙ whole)) ∙ is

-- the rows that the pages then hold
behind : {C : Type 0} (full more all : List (Arc (Vec (RowOf C) Global) Global)) (first : Arc (Vec (RowOf C) Global) Global) (page last : Vec (RowOf C) Global)
    (rows part : List (RowOf C))
    → AreOnPages full page → rows_on full page ≡ rows → length rows ≡ 64 → rows_on more last ≡ part → all ≡ first ∷ more → arc_value first ≡ page
    → rows_on all last ≡ rows ++ part
behind full more all first page last rows part on is whole after both shared =
    ap (λ l. rows_on l last) both
    ∙ append_assoc (on_page first) (flat_map on_page more) last.items
    ∙ ap (λ l. on_page first ++ l) after
    ∙ ap (λ (v : Vec (RowOf _) Global). v.items ++ part) shared
    ∙ ap (λ l. l ++ part) (front full page rows on is whole)

-- and they lie on pages
on_pages : {C : Type 0} (full more all : List (Arc (Vec (RowOf C) Global) Global)) (first : Arc (Vec (RowOf C) Global) Global)
    (page last : Vec (RowOf C) Global) (rows part : List (RowOf C))
    → AreOnPages full page → rows_on full page ≡ rows → length rows ≡ 64 → AreOnPages more last → rows_on more last ≡ part → 0 < length part
    → 64 + length part ≤ 65535 → all ≡ first ∷ more → arc_value first ≡ page
    → AreOnPages all last
on_pages full more all first page last rows part on is whole after is_after some few both shared = record {
  full = rw both (ap (λ (v : Vec (RowOf _) Global). length v.items) shared ∙ ap (λ l. length l) (front full page rows on is whole) ∙ whole, after.full);
  last = after.last;
  room = after.room;
  none =
      λ none. (let long = length-pages on_page more last.items after.full in let size = ap (λ l. length l) is_after in let before = after.none none in
      absurd (omega (arith, long, size, before, none, some)));
  few =
      rw (behind full more all first page last rows part on is whole is_after both shared) (let long = length-append rows part in
      omega (arith, long, whole, few));
}

pub invariant_of-result : goal.invariant_of-result
invariant_of-result g c =
    on_pages c.self.inside.full.items c.part.inside.full.items c.append.new.self.items c.in_ok-first.first c.self.inside.last
    c.part.inside.last c.args.self c.args.part
    c.self.invariant c.self.view_is c.requires.page c.part.invariant c.part.view_is c.requires.some c.requires.few
    (c.in_ok-append.ensures.items ∙ ap (λ l. l ++ c.part.inside.full.items)
    (c.in_ok-push.ensures.items ∙ ap (λ l. l ++ c.in_ok-first.first ∷ []) (c.in_ok-reserve.ensures.items ∙ c.new-full.ensures.items)))
    c.in_ok-first.ensures.ok

pub returns : goal.returns
returns g c =
    behind c.self.inside.full.items c.part.inside.full.items c.append.new.self.items c.in_ok-first.first c.self.inside.last
    c.part.inside.last c.args.self c.args.part
    c.self.invariant c.self.view_is c.requires.page c.part.view_is
    (c.in_ok-append.ensures.items ∙ ap (λ l. l ++ c.part.inside.full.items)
    (c.in_ok-push.ensures.items ∙ ap (λ l. l ++ c.in_ok-first.first ∷ []) (c.in_ok-reserve.ensures.items ∙ c.new-full.ensures.items)))
    c.in_ok-first.ensures.ok
