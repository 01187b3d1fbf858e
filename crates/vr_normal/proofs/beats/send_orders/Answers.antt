use Rattle.std.proofs.Common.{◌++◌, ◌∷◌, [], sym, ◌∙◌, ap, arith, map, drop, ◌+◌}
use Rattle.vr_types.specs.Handling.{order_to}
use Rattle.vr_normal.proofs.BeatLemmas.{orders_next, orders_end}
use Rattle.vr_normal.proofs.beats.send_orders.Goals as goal

pub loop-due-preserved : goal.loop-due-preserved
loop-due-preserved g c =
    let me = c.args.config.me in
    let orders = g.M.Machine.orders c.args.machine.now in
    let rest = map (order_to me) (drop (c.loop-due.at + 1) orders) in
    record {
      sent = ap (λ s. s ++ rest) (c.in_ok-push.ensures.items ∙ ap (λ mail. c.loop-due.sent.items ++ mail ∷ []) c.mail_to_client.ensures)
          ∙ orders_next (order_to me) c.loop-due.sent.items orders c.loop-due.at c.in-Some.due _ (sym c.open.ensures ∙ c.in-Some.is) c.loop-due.invariant.sent;
      few = omega (arith, c.in_ok-push.ensures.len);
    }

pub returns : goal.returns
returns g c =
    orders_end (order_to c.args.config.me) c.loop-due.sent.items (g.M.Machine.orders c.args.machine.now) c.loop-due.at _
    (sym c.open.ensures ∙ c.in_default.is) c.loop-due.invariant.sent
