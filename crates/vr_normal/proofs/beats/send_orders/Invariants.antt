use Rattle.std.proofs.Common.{◌≡◌, ◌-◌, ◌≤◌, ◌++◌, map, drop, length, vec_len}
use Rattle.vr_types.specs.Handling.{order_to}
use Rattle.vr_normal.proofs.beats.send_orders.Given as goal

-- what was sent before, and the orders so far; what is left are the others
abbrev pub invariant-loop-due : goal.invariant-loop-due
invariant-loop-due g l =
    let orders = g.M.Machine.orders l.machine in
    record {
      sent : l.sent.items ++ map (order_to l.config.me) (drop l.at orders) ≡ l.fn.sent.items ++ map (order_to l.config.me) orders;
      few : l.at ≤ vec_len l.sent;
    }

abbrev pub decreases-loop-due : goal.decreases-loop-due
decreases-loop-due g l = length (g.M.Machine.orders l.machine) - l.at
