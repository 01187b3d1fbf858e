use Rattle.std.proofs.Common.{◌≡◌, ◌+◌, ◌-◌, ◌<◌, ◌++◌, length, take, get_or, true, false, true≢false, arith, sym, ◌∙◌, refl}
use Rattle.std.proofs.lemmas.Option.{get_or_from_slice_get}
use Rattle.vr_log.proofs.Begins.{begins_is, one_there, one_more, fewer}
use Rattle.vr_log.proofs.kept.Kept.keeps_executed.Goals as goal

pub returns-then-not-is_same_row-clause-same : goal.returns-then-not-is_same_row-clause-same
returns-then-not-is_same_row-clause-same g c = λ f choose right.
    let own = c.args.self.now.log in
    let rows = c.args.rows.now in
    let base = c.args.base in
    let done = c.args.self.now.done in
    let at = c.loop-at.at in
    let row = c.row.result in
    let there : row ≡ get_or rows (at - base) row = sym (get_or_from_slice_get rows (at - base) row row c.row.ensures) in
    begins_is choose.same right.same false done own (take base own ++ rows) c.requires.ready.within (
      (λ e. absurd (true≢false (sym e))),
      (λ same.
          absurd
          (true≢false
          (sym (c.is_same_row.ensures.1 (one_there own rows base at done row c.row-in-loop-at.result c.requires.base (omega arith)
          (omega arith) there c.row-in-loop-at.ensures same)) ∙ c.if-not-is_same_row.true))),
    )

pub loop-at-preserved : goal.loop-at-preserved
loop-at-preserved g c =
    let own = c.args.self.now.log in
    let rows = c.args.rows.now in
    let base = c.args.base in
    let at = c.loop-at.at in
    let row = c.row.result in
    let there : row ≡ get_or rows (at - base) row = sym (get_or_from_slice_get rows (at - base) row row c.row.ensures) in
    let room : at < base + length rows = omega arith in
    one_more own rows base at row c.row-in-loop-at.result c.requires.base (omega arith) room there c.row-in-loop-at.ensures
    (c.is_same_row.ensures.0 c.if-not-is_same_row.false) c.loop-at.invariant

pub returns-clause-same : goal.returns-clause-same
returns-clause-same g c = λ f choose right.
    let own = c.args.self.now.log in
    let log = take c.args.base own ++ c.args.rows.now in
    let done = c.args.self.now.done in
    begins_is choose.same right.same true done own log c.requires.ready.within
    ((λ _. fewer done c.loop-at.at own log (omega arith) c.loop-at.invariant), (λ _. refl))
