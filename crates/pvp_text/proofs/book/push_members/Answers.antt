use Rattle.std.proofs.Common.{◌+◌, ◌<◌, ◌++◌, length, take, get_or, ap, sym, ◌∙◌, subst, arith}
use Rattle.pvp_types.proofs.SetupLemmas.{valid-members}
use Rattle.pvp_types.specs.declared.setup.Setup.{Setup}
use Rattle.std.specs.List.{flat_map, enumerate_from}
use Rattle.pvp_text.specs.BookText.{member_line}
use Rattle.pvp_text.proofs.BookTextLemmas.{appended, member_lines-more}
use Rattle.pvp_text.proofs.book.push_members.Goals as goal

pub overflow_cast-place : goal.overflow_cast-place
overflow_cast-place c =
    let few = valid-members c.setup.result.now c.setup.ensures.valid in
    let items = ap length c.as_slice-member-items.ensures in
    let within = c.loop-place-test.true in
    omega arith

pub overflow_add-place : goal.overflow_add-place
overflow_add-place c =
    let few = valid-members c.setup.result.now c.setup.ensures.valid in
    let items = ap length c.as_slice-member-items.ensures in
    let within = c.loop-place-test.true in
    omega arith

pub loop-place-preserved : goal.loop-place-preserved
loop-place-preserved c =
    let members = c.as_slice-member-items.ensures ∙ ap (λ (s : Setup). s.members) c.setup.ensures.same in
    let within : c.loop-place.place < length c.args.book.now.setup.members = subst (λ ms. c.loop-place.place < length ms) members c.loop-place-test.true in
    appended _ _ _ _ _ _ c.in_ok-push_member.ensures c.loop-place.invariant
    (member_lines-more c.args.indent.now c.args.book.now c.args.book.now.setup.members c.loop-place.place c.member-item.result within
    ∙ ap (λ m. flat_map (member_line c.args.indent.now c.args.book.now) (enumerate_from 1 (take c.loop-place.place c.args.book.now.setup.members))
    ++ member_line c.args.indent.now c.args.book.now (c.loop-place.place + 1, m))
    (ap (λ ms. get_or ms c.loop-place.place c.member-item.result) (sym members) ∙ sym c.member-item.is))
