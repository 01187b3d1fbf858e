use Rattle.std.proofs.Common.{ap, ◌≤◌, ◌∙◌, subst}
use Rattle.std.specs.Prelude.{map, slice_index_or, vec_capacity}
use Rattle.pvp_types.specs.declared.setup.Member.{Member}
use Rattle.rtgs_node.proofs.KeptLemmas.{IsKeptNode-opening}
use Rattle.rtgs_node.proofs.node.Node.new.Goals as goal

pub invariant_of-result : goal.invariant_of-result
invariant_of-result c =
    let members = c.in_ok-deposits.ensures ∙ ap (map (λ (m : Member). slice_index_or m.deposit c.args.ccy 0)) c.as_slice.ensures in
    let room = subst (λ n. n ≤ vec_capacity c.in_ok-with_capacity.field-0) c.len.ensures c.in_ok-with_capacity.ensures.capacity in
    rw (
      c.in_ok-copy.ensures,
      c.new.ensures.items,
      c.new-2.ensures.items,
      c.new-3.ensures.items,
      c.in_ok-with_capacity.ensures.items,
      c.new-4.ensures.items,
      members,
      c.new-5.ensures.empty,
    )
    (IsKeptNode-opening c.args.setup.now c.args.ccy _ c.requires.valid c.requires.known room)
