-- What a node's fields show and keep.
use Rattle.std.specs.Prelude.{vec_capacity}
use Rattle.rtgs_node.specs.declared.node.Node.TheInside.{Inside}
use Rattle.rtgs_node.specs.Shown.{ShownNode}
use Rattle.rtgs_node.specs.Kept.{shown_of, IsKeptNode}

abbrev pub shown_node : Inside → ShownNode
shown_node a = shown_of a.setup a.ccy a.pay_ins.items a.pay_outs.items a.returned.items a.closed.items a.notices.items a.answered

abbrev pub IsHeld : Inside → Type 0
IsHeld a = IsKeptNode (shown_node a) a.bank a.members.items a.known.keys (vec_capacity a.closed)
