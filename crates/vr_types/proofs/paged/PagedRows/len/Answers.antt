use Rattle.std.proofs.Common.{ap, length, arith}
use Rattle.vr_types.specs.Pages.{on_page}
use Rattle.vr_types.proofs.Pages.{length-pages}
use Rattle.vr_types.proofs.paged.PagedRows.len.Goals as goal

pub overflow_mul-result : goal.overflow_mul-result
overflow_mul-result g c = let long = length-pages on_page c.self.inside.full.items c.self.inside.last.items c.self.invariant.full in
    let few = c.self.invariant.few in omega (arith, long, few, c.len.ensures)

pub overflow_add-result : goal.overflow_add-result
overflow_add-result g c = let long = length-pages on_page c.self.inside.full.items c.self.inside.last.items c.self.invariant.full in
    let few = c.self.invariant.few in omega (arith, long, few, c.len.ensures, c.len-2.ensures)

pub returns-clause-length : goal.returns-clause-length
returns-clause-length g c =
    let long = length-pages on_page c.self.inside.full.items c.self.inside.last.items c.self.invariant.full in
    let same = ap (λ rows. length rows) c.self.view_is in
    omega (arith, long, same, c.len.ensures, c.len-2.ensures)

pub returns-clause-few : goal.returns-clause-few
returns-clause-few g c = let long = length-pages on_page c.self.inside.full.items c.self.inside.last.items c.self.invariant.full in
    let few = c.self.invariant.few in omega (arith, long, few, c.len.ensures, c.len-2.ensures)
