use Rattle.std.proofs.Common.{◌≡◌, ℕ, ◌<◌, ◌+◌}
use Rattle.rtgs_node.specs.Node.{member_account}
use Rattle.pvp_parties.proofs.like.hold_the_same.Given as goal

-- the accounts so far hold the same
abbrev pub invariant-loop-i : goal.invariant-loop-i
invariant-loop-i l = (k : ℕ) → k < l.i → member_account l.a.setup l.a.ccy (k + 1) l.a.node ≡ member_account l.b.setup l.b.ccy (k + 1) l.b.node
