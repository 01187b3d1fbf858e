use Rattle.std.proofs.Common.{◌≡◌, ◌<◌, arith, true, length, refl, subst, sym, ℕ}
use Rattle.std.specs.Prelude.{is_some, ◌&&◌, ◌==◌}
use Rattle.std.specs.Option.{option_map}
use Rattle.std.specs.Vec.{vec_items}
use Rattle.std.specs.VecDeque.{deque_items}
use Rattle.pvp_book.specs.OrderTable.{AreAscending, at_number, once_ended}
use Rattle.pvp_book.proofs.OpenLemmas.{queue-here, queues-put, AreLess, none-less}
use Rattle.pvp_book.proofs.OrderTableLemmas.{none-ended}
use Rattle.pvp_book.proofs.order_table.OrderTable.end.Goals as goal

pub note_end-requires : goal.note_end-requires
note_end-requires c =
    let ccy = c.from.ensures in
    let places = c.requires.places in
    let known = c.requires.known in
    let within : c.from.result < length c.args.self.now.made = omega arith in
    let here = queue-here vec_items c.args.self.now.made c.from.result c.index-self-from.result within c.args.ccy ccy in
    record { there = subst (λ os. is_some (at_number os c.args.out) ≡ true) (sym here) c.requires.there }

pub take_out-requires : goal.take_out-requires
take_out-requires c =
    let ccy = c.from-2.ensures in
    let places = c.requires.queues in
    let known = c.requires.known in
    let within : c.from-2.result < length c.args.self.now.outstanding = omega arith in
    let here = queue-here deque_items c.args.self.now.outstanding c.from-2.result c.index-self-from-2.result within c.args.ccy ccy in
    record { ascending = subst AreAscending (sym here) c.requires.ascending }

pub returns-clause-made : goal.returns-clause-made
returns-clause-made c =
    let ccy = c.from.ensures in
    let places = c.requires.places in
    let known = c.requires.known in
    let within : c.from.result < length c.args.self.now.made = omega arith in
    queues-put vec_items (λ ends old new. length new ≡ length old) (λ os. refl) c.args.self.now.made c.from.result c.note_end.new.orders
    c.index-self-from.result within c.args.ccy ccy c.note_end.ensures.places

pub returns-clause-ended : goal.returns-clause-ended
returns-clause-ended c =
    let ccy = c.from.ensures in
    let places = c.requires.places in
    let known = c.requires.known in
    let within : c.from.result < length c.args.self.now.made = omega arith in
    queues-put vec_items (λ ends old new. (n : ℕ) → at_number new n ≡ option_map (once_ended (ends && (c.args.out == n))) (at_number old n))
    (λ os n. none-ended (at_number os n)) c.args.self.now.made c.from.result c.note_end.new.orders
    c.index-self-from.result within c.args.ccy ccy c.note_end.ensures.each

pub returns-clause-outstanding : goal.returns-clause-outstanding
returns-clause-outstanding c =
    let ccy = c.from-2.ensures in
    let places = c.requires.queues in
    let known = c.requires.known in
    let within : c.from-2.result < length c.args.self.now.outstanding = omega arith in
    queues-put deque_items (AreLess c.args.out) (none-less c.args.out) c.args.self.now.outstanding c.from-2.result c.take_out.new.queue
    c.index-self-from-2.result within c.args.ccy ccy c.take_out.ensures
