use Rattle.std.proofs.Common.{◌≡◌, ◌<◌, ◌∙◌, subst, length, suc, take, drop, ◌++◌, rules}
use Rattle.std.specs.Prelude.{OnSome}
use Rattle.std.proofs.lemmas.List.Sorted.{answers_always}
use Rattle.pvp_types.specs.declared.command.PayOrder.{PayOrder}
use Rattle.pvp_book.proofs.OpenLemmas.{nobody, found-one, found-none}
use Rattle.pvp_book.proofs.order_table.take_out.Goals as goal

-- the closure gives an order's number
pub returns-in-Ok : goal.returns-in-Ok
returns-in-Ok c =
    let items = c.args.queue.now.items in
    let place = c.in-Ok.place in
    let by_number = c.in-Ok.ensures.position (λ (o : PayOrder). o.out) (answers_always _ _ _ (λ f a r g called. search rules)) in
    let within : place < length items = subst (λ n. place < n) c.args.queue.now.ok.0 c.in-Ok.ensures.bound in
    subst (λ r. OnSome r (c.remove.new.self.items ≡ take place items ++ drop (suc place) items))
    (c.remove.ensures.succeeds nobody c.in-Ok.ensures.bound) c.remove.ensures.items
    ∙ found-one items c.args.out c.requires.ascending place within by_number

pub returns-in_default : goal.returns-in_default
returns-in_default c =
    let by_number = c.in_default.ensures.position (λ (o : PayOrder). o.out) (answers_always _ _ _ (λ f a r g called. search rules)) in
    found-none c.args.queue.now.items c.args.out c.requires.ascending c.in_default.field-0 by_number
