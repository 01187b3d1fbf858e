use Rattle.std.proofs.Common.{append_assoc, codes, string_bytes}
use Rattle.pvp_window.specs.Metrics.{of_node}
use Rattle.pvp_window.proofs.Parts.{ended}
use Rattle.pvp_window.proofs.metrics.push_of_node.Goals as goal

pub returns : goal.returns
unfolding of_node
returns c =
    ended c.push_str-4.result (string_bytes c.push_str-4.new.self) (string_bytes c.write.new.self)
    (string_bytes c.args.text.now)
    (codes "\n")
    (of_node c.args.setup.now c.args.node c.args.name.now c.args.kind.now c.args.help.now c.args.number) c.push_str-4.ensures.bytes
    (rw (
      c.in_ok-write.ensures.bytes,
      c.in_ok-push_str-3.ensures.bytes,
      c.in_ok-push_name.ensures,
      c.in_ok-push_str-2.ensures.bytes,
      c.in_ok-push_str.ensures.bytes,
      c.in_ok-push_head.ensures,
    )
    (simp append_assoc))
