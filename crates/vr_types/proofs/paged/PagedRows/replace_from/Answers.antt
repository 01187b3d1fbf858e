use Rattle.std.proofs.Common.{◌≡◌, ℕ, ◌+◌, ◌-◌, ◌*◌, ◌/◌, ◌≤◌, ◌<◌, ◌++◌, List, take, length, sym, ap, ◌∙◌, arith, length-append, Vec, Global}
use Rattle.std.specs.List.{slice_range}
use Rattle.std.proofs.lemmas.List.{length-take-le}
use Rattle.std.specs.declared.sync.Arc.{Arc}
use Rattle.vr_types.specs.declared.row.RowOf.{RowOf}
use Rattle.vr_types.specs.Pages.{on_page, rows_on, AreOnPages}
use Rattle.vr_types.proofs.Pages.{length-pages, length-slice_range, joined-pages, full-append, full-take}
use Rattle.vr_types.proofs.paged.PagedRows.replace_from.Goals as goal

-- the rows that the pages then hold
joined : {C : Type 0} (pages more all : List (Arc (Vec (RowOf C) Global) Global)) (last end : Vec (RowOf C) Global) (rows part tail : List (RowOf C)) (base : ℕ)
    → AreOnPages pages last → rows_on pages last ≡ rows → rows_on more end ≡ tail → 0 < base → base ≤ length rows
    → tail ≡ slice_range rows ((base - 1) / 64 * 64) base ++ part → all ≡ take ((base - 1) / 64) pages ++ more
    → rows_on all end ≡ take base rows ++ part
joined pages more all last end rows part tail base on is behind some within cut both =
    let long = length-pages on_page pages last.items on.full in
    let size : length (rows_on pages last) ≡ length rows = ap (λ l. length l) is in
    let whole : ℕ = (base - 1) / 64 in
    let fits : whole ≤ length pages = omega (arith, long, size, some, within, on.last) in
    let order : whole * 64 ≤ base = omega (arith, some) in
    let place : whole * 64 ≡ 64 * whole = omega arith in
    let parts : rows_on more end ≡ slice_range (rows_on pages last) (whole * 64) base ++ part =
    behind ∙ cut ∙ ap (λ l. slice_range l (whole * 64) base ++ part) (sym is) in
    ap (λ l. rows_on l end) both
    ∙ joined-pages on_page pages more last.items end.items part whole (whole * 64) base on.full fits place order parts
    ∙ ap (λ l. take base l ++ part) is

-- and they lie on pages
on_pages : {C : Type 0} (pages more all : List (Arc (Vec (RowOf C) Global) Global)) (last end : Vec (RowOf C) Global)
    (rows part tail : List (RowOf C)) (base whole : ℕ)
    → AreOnPages pages last → AreOnPages more end → rows_on more end ≡ tail → 0 < length tail → base ≤ length rows → base + length part ≤ 65535
    → all ≡ take whole pages ++ more → rows_on all end ≡ take base rows ++ part → AreOnPages all end
on_pages pages more all last end rows part tail base whole on behind is some within few both holds = record {
  full = rw both (full-append on_page (take whole pages) more (full-take on_page pages whole on.full) behind.full);
  last = behind.last;
  room = behind.room;
  none = λ none. absurd (omega (arith, long, size, some, none, behind.none none));
  few = rw holds (let upto = length-take-le base rows within in let all_long = length-append (take base rows) part in omega (arith, upto, all_long, few));
}
  where
    long : length (rows_on more end) ≡ 64 * length more + length end.items
    long = length-pages on_page more end.items behind.full

    size : length (rows_on more end) ≡ length tail
    size = ap (λ l. length l) is

-- the pages in front, and those of the tail behind them
all_pages : (g : _) (c : goal.After-drop-full-2 g)
    → c.append.new.self.items ≡ take ((c.args.base - 1) / 64) c.self.inside.full.items ++ c.tail.inside.full.items
all_pages g c =
    c.in_ok-append.ensures.items ∙ ap (λ l. l ++ c.tail.inside.full.items)
    (c.truncate.ensures.items ∙ ap (take ((c.args.base - 1) / 64)) c.in_ok-reserve.ensures.items)

holds : (g : _) (c : goal.After-drop-full-2 g) → rows_on c.append.new.self.items c.tail.inside.last ≡ take c.args.base c.args.self.now ++ c.args.part
holds g c =
    joined c.self.inside.full.items c.tail.inside.full.items c.append.new.self.items c.self.inside.last c.tail.inside.last c.args.self.now c.args.part
    c.in_ok-tail.tail c.args.base
    c.self.invariant c.self.view_is c.tail.view_is (c.requires.some) c.requires.base c.in_ok-tail.ensures (all_pages g c)

pub invariant_of-self-2 : goal.invariant_of-self-2
invariant_of-self-2 g c =
    let from = (c.args.base - 1) / 64 * 64 in
    let cut : length c.in_ok-tail.tail ≡ length (slice_range c.args.self.now from c.args.base) + length c.args.part =
    ap (λ l. length l) c.in_ok-tail.ensures ∙ length-append (slice_range c.args.self.now from c.args.base) c.args.part in
    let taken : length (slice_range c.args.self.now from c.args.base) ≡ c.args.base - from =
    length-slice_range c.args.self.now from c.args.base (omega arith) c.requires.base in
    on_pages c.self.inside.full.items c.tail.inside.full.items c.append.new.self.items c.self.inside.last c.tail.inside.last c.args.self.now c.args.part
    c.in_ok-tail.tail c.args.base ((c.args.base - 1) / 64)
    c.self.invariant c.tail.invariant c.tail.view_is (omega (arith, cut, taken, c.requires.some)) c.requires.base c.requires.few (all_pages g c) (holds g c)

pub returns-clause-ok : goal.returns-clause-ok
returns-clause-ok g c = holds g c
