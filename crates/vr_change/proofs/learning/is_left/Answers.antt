use Rattle.std.proofs.Common.{◌&&◌, not, sym, ap, ◌∙◌}
use Rattle.vr_types.specs.Step.{is_outdated}
use Rattle.vr_change.proofs.Left.{left_by_both}
use Rattle.vr_change.proofs.learning.is_left.Goals as goal

pub returns-then-not-is_outdated : goal.returns-then-not-is_outdated
returns-then-not-is_outdated g c =
    let known = c.args.running.now.known in
    let told = c.args.told.now in
    let sent = c.args.sent.now in
    let now = c.is_outdated-then-not-is_outdated in
    ap not now.ensures ∙ ap (λ b. not b && not (is_outdated told c.args.from sent)) (sym c.if-not-is_outdated.true ∙ c.is_outdated.ensures)
    ∙ left_by_both known told c.args.from sent

pub returns-else-not-is_outdated : goal.returns-else-not-is_outdated
returns-else-not-is_outdated g c =
    let known = c.args.running.now.known in
    let told = c.args.told.now in
    let sent = c.args.sent.now in
    ap not c.if-not-is_outdated.false ∙ ap (λ b. not b && not (is_outdated told c.args.from sent)) (sym c.if-not-is_outdated.false ∙ c.is_outdated.ensures)
    ∙ left_by_both known told c.args.from sent
