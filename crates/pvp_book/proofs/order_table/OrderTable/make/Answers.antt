use Rattle.std.proofs.Common.{◌≡◌, ◌<◌, ◌++◌, ◌∷◌, [], arith, length, sym}
use Rattle.std.specs.Prelude.{if◌then◌else◌}
use Rattle.std.specs.Vec.{vec_items}
use Rattle.std.specs.VecDeque.{deque_items}
use Rattle.pvp_book.specs.OrderTable.{just_made}
use Rattle.pvp_book.proofs.OpenLemmas.{queues-put}
use Rattle.pvp_book.proofs.SettlementLemmas.{append-nil}
use Rattle.pvp_book.proofs.order_table.OrderTable.make.Goals as goal

pub returns-clause-made : goal.returns-clause-made
returns-clause-made c =
    let ccy = c.from.ensures in
    let places = c.requires.places in
    let known = c.requires.known in
    let within : c.from.result < length c.args.self.now.made = omega arith in
    queues-put vec_items (λ more old new. new ≡ old ++ (if more then just_made c.args.order ∷ [] else [])) (λ os. sym (append-nil os)) c.args.self.now.made
    c.from.result c.push_reserved.new.self c.index-self-from.result within c.args.order.ccy ccy c.push_reserved.ensures.items

pub returns-clause-outstanding : goal.returns-clause-outstanding
returns-clause-outstanding c =
    let ccy = c.from-2.ensures in
    let places = c.requires.queues in
    let known = c.requires.known in
    let within : c.from-2.result < length c.args.self.now.outstanding = omega arith in
    queues-put deque_items (λ more old new. new ≡ old ++ (if more then c.args.order ∷ [] else [])) (λ os. sym (append-nil os)) c.args.self.now.outstanding
    c.from-2.result c.push_back_reserved.new.self c.index-self-from-2.result within c.args.order.ccy ccy c.push_back_reserved.ensures.items
