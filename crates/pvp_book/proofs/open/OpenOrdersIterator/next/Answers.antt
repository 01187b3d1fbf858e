use Rattle.std.proofs.Common.{◌≡◌, ◌∷◌, ◌+◌, ◌<◌, ◌^◌, drop, length, arith, sym, ◌∙◌}
use Rattle.std.specs.VecDeque.{deque_items}
use Rattle.std.proofs.lemmas.Option.{slice_get_within}
use Rattle.pvp_book.specs.OrderTable.{open_at}
use Rattle.pvp_book.proofs.LedgerLemmas.{past-end}
use Rattle.pvp_book.proofs.OpenLemmas.{drop-next, drop-past, queue-small}
use Rattle.pvp_book.proofs.open.OpenOrdersIterator.next.Goals as goal

pub returns-in_err-order-clause-steps : goal.returns-in_err-order-clause-steps
returns-in_err-order-clause-steps c =
    let orders = open_at c.args.self.now.table.now c.args.self.now.ccy in
    let none = drop-past orders c.args.self.now.given (past-end orders c.args.self.now.given (sym c.open_at.ensures ∙ c.in_err-order.was)) in
    rw c.from_residual.ensures (none, none)

pub overflow_add-self : goal.overflow_add-self
overflow_add-self c =
    let orders = open_at c.args.self.now.table.now c.args.self.now.ccy in
    let within = slice_get_within orders c.args.self.now.given c.in_ok-order.order (sym c.open_at.ensures ∙ c.in_ok-order.was) in
    let small : length orders < 2 ^ 63 =
    queue-small deque_items (λ q. let same = q.ok in let small = q.small in omega arith) c.args.self.now.table.now.outstanding c.args.self.now.ccy in
    omega arith

pub returns-clause-steps : goal.returns-clause-steps
returns-clause-steps c =
    let orders = open_at c.args.self.now.table.now c.args.self.now.ccy in
    drop-next orders c.args.self.now.given c.in_ok-order.order (sym c.open_at.ensures ∙ c.in_ok-order.was)

pub returns-clause-goes : goal.returns-clause-goes
returns-clause-goes c =
    let orders = open_at c.args.self.now.table.now c.args.self.now.ccy in
    let next : drop c.args.self.now.given orders ≡ c.in_ok-order.order ∷ drop (c.args.self.now.given + 1) orders =
    drop-next orders c.args.self.now.given c.in_ok-order.order (sym c.open_at.ensures ∙ c.in_ok-order.was) in
    let fewer : length (drop (c.args.self.now.given + 1) orders) < length (drop c.args.self.now.given orders) = rw next (omega arith) in
    record { on = λ finite. (tt, tt, fewer); keeps = tt; rests = λ finite. tt }
