use Rattle.std.proofs.Common.{◌≡◌, ◌*◌, take}
use Rattle.vr_types.specs.Pages.{page_rows}
use Rattle.vr_log.proofs.kept.same_pages.Given as goal

-- the pages so far are the same
abbrev pub invariant-loop-page : goal.invariant-loop-page
invariant-loop-page g l = take (page_rows * l.page) l.a ≡ take (page_rows * l.page) l.b
