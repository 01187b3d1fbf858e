-- What holds of a node after any list of events.
use Rattle.std.specs.Prelude.{ℕ, List, length, map, fold, sum_by, ℤ, pos, ◌+ℤ◌}
use Rattle.std.specs.List.{range_with_len}
use Rattle.pvp_types.specs.declared.setup.Setup.{Setup}
use Rattle.rtgs_node.specs.declared.event.NodeEvent.{NodeEvent}
use Rattle.rtgs_node.specs.Node.{Node, opening_node, node_step, account, deposit, member_account}

-- the node of currency c after these events
abbrev pub node_after : Setup → ℕ → ℕ → List NodeEvent → Node
node_after setup f c events = fold (λ x event. (node_step setup f c x event).node) opening_node events

-- the bank's account and those of all members
abbrev pub all_accounts : Setup → ℕ → Node → ℤ
all_accounts setup c x =
    account x +ℤ fold ◌+ℤ◌ (pos 0) (map (λ m. member_account setup c m x) (range_with_len 1 (length setup.members)))

abbrev pub all_deposits : Setup → ℕ → ℕ
all_deposits setup c = sum_by (deposit setup c) (range_with_len 1 (length setup.members))
