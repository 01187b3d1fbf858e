use Rattle.std.proofs.Common.{◌≡◌, ◌⊎◌, ℕ, ◌<◌, ◌≤◌, ◌+◌, ◌^◌, true, false, [], ◌∷◌, ◌++◌, length, length-set, slice_index, slice_set, None, arith, sym, subst, ap, ◌∙◌}
use Rattle.vr_types.specs.MemoryCell.{held_by}
use Rattle.pvp_rooms.specs.declared.message.Recorded.{Recorded}
use Rattle.pvp_rooms.specs.Runs.{history_of, number_in}
use Rattle.pvp_rooms.specs.Named.{IsNamed}
use Rattle.pvp_rooms.proofs.Grows.{zeros_none, zeros_many}
use Rattle.pvp_parties.specs.Parties.{delivers, sent_envelopes, is_for}
use Rattle.pvp_audit.specs.Banked.{IsOfBank}
use Rattle.pvp_audit.specs.Coming.{ComesSo}
use Rattle.pvp_audit.specs.Moves.{move_of}
use Rattle.pvp_audit.specs.Numbered.{noted_of, IsFound}
use Rattle.pvp_audit.specs.Passed.{PassesSo}
use Rattle.pvp_audit.specs.Retold.{Names, GoesBy}
use Rattle.pvp_audit.proofs.Passing.{reliable_sites, passing_none, passing_stamped, passing_mine, passing_named, passing_answered, passing_next, passing_all, passing_made, passing_reliable}
use Rattle.pvp_audit.proofs.Turns.{turn, place_low, event_read}
use Rattle.pvp_audit.proofs.pass.pass.Goals as goal

pub loop-k-init : goal.loop-k-init
loop-k-init c =
    let closed = c.args.closed.now in
    record {
      same = ap length c.in_ok-at.ensures ∙ zeros_many (length closed);
      so =
          passing_none c.args.setup.now closed c.requires.order c.requires.bank c.requires.clocks c.one_bank.ensures.right_choices c.requires.opened
          c.in_ok-at.at.items c.in_ok-numbers.numbers c.in_ok-world.world
          (λ k. ap (λ l. slice_index l k) c.in_ok-at.ensures ∙ zeros_none (length closed) k) c.in_ok-numbers.ensures
          c.in_ok-world.ensures.setup (c.in_ok-world.ensures.opening ∙ c.requires.held) c.in_ok-world.ensures.trail c.in_ok-world.ensures.headline
          (reliable_sites c.in_ok-world.world.sites c.args.cells.items c.in_ok-world.ensures.cells c.requires.reliable);
    }

pub returns-in_default : goal.returns-in_default
returns-in_default c =
    let closed = c.args.closed.now in
    let done : (k : ℕ) → length (history_of closed k) ≤ slice_index c.loop-k.at.items k =
    subst (λ l. (k : ℕ) → length (history_of closed k) ≤ slice_index l k) c.as_slice.ensures.value c.in_default.ensures.none in
    passing_all c.args.setup.now closed c.requires.order c.requires.bank c.requires.clocks c.one_bank.ensures.right_choices c.loop-k.at.items c.loop-k.numbers
    c.loop-k.world c.loop-k.invariant.so done

pub offset_bounds-as_slice-place : goal.offset_bounds-as_slice-place
offset_bounds-as_slice-place c =
    let closed = c.args.closed.now in
    let at = c.loop-k.at.items in
    let k = c.in-Some.k in
    let one = c.index-closed-k.result in
    let place = c.index-place.result.now in
    let t =
    turn closed at k place one c.as_slice.result.now c.as_slice.ensures.value c.loop-k.invariant.same c.in-Some.ensures.some
    c.index-closed-k.is c.index-place.ensures in
    let low = place_low closed at k place one t c.as_slice-in-loop-k.result.now c.as_slice-in-loop-k.ensures.value in
    omega (arith, low, c.as_slice-in-loop-k.ensures.len)

pub bounds-as_slice-place : goal.bounds-as_slice-place
bounds-as_slice-place c =
    let closed = c.args.closed.now in
    let at = c.loop-k.at.items in
    let k = c.in-Some.k in
    let one = c.index-closed-k.result in
    let place = c.index-place.result.now in
    let t =
    turn closed at k place one c.as_slice.result.now c.as_slice.ensures.value c.loop-k.invariant.same c.in-Some.ensures.some
    c.index-closed-k.is c.index-place.ensures in
    place_low closed at k place one t c.as_slice-in-loop-k.result.now c.as_slice-in-loop-k.ensures.value

pub overflow_add-event : goal.overflow_add-event
overflow_add-event c =
    let closed = c.args.closed.now in
    let at = c.loop-k.at.items in
    let k = c.in-Some.k in
    let one = c.index-closed-k.result in
    let place = c.index-place.result.now in
    let t =
    turn closed at k place one c.as_slice.result.now c.as_slice.ensures.value c.loop-k.invariant.same c.in-Some.ensures.some
    c.index-closed-k.is c.index-place.ensures in
    let low = place_low closed at k place one t c.as_slice-in-loop-k.result.now c.as_slice-in-loop-k.ensures.value in
    omega (arith, low, c.as_slice-in-loop-k.ensures.len)

pub loop-k-smaller : goal.loop-k-smaller
loop-k-smaller c =
    let closed = c.args.closed.now in
    let at = c.loop-k.at.items in
    let k = c.in-Some.k in
    let one = c.index-closed-k.result in
    let place = c.index-place.result.now in
    let t =
    turn closed at k place one c.as_slice.result.now c.as_slice.ensures.value c.loop-k.invariant.same c.in-Some.ensures.some
    c.index-closed-k.is c.index-place.ensures in
    t.less

pub returns-then-not-is_named : goal.returns-then-not-is_named
returns-then-not-is_named c =
    let closed = c.args.closed.now in
    let at = c.loop-k.at.items in
    let k = c.in-Some.k in
    let one = c.index-closed-k.result in
    let place = c.index-place.result.now in
    let t =
    turn closed at k place one c.as_slice.result.now c.as_slice.ensures.value c.loop-k.invariant.same c.in-Some.ensures.some
    c.index-closed-k.is c.index-place.ensures in
    let numbers = c.loop-k.numbers in
    let world = c.loop-k.world in
    let i = c.loop-k.invariant in
    let r = c.index-as_slice-place.result in
    let what = event_read closed at k place one t c.as_slice-in-loop-k.result.now c.as_slice-in-loop-k.ensures.value r c.index-as_slice-place.is in
    subst (λ p. PassesSo c.args.setup.now closed p) (sym c.failure_at.ensures) (record {
      place = k;
      number = ap number_in t.is;
      test = tt;
      fails =
          passing_stamped c.args.setup.now closed c.requires.order c.requires.bank c.requires.clocks c.one_bank.ensures.right_choices at numbers world i.so k
          t.next one t.is (place + 1) (ap (λ n. n + 1) (sym t.here)) (λ named. (
          let here =
          subst (λ l. IsNamed delivers sent_envelopes is_for closed l one.end r) (sym c.as_slice-in-loop-k-2.ensures.value)
          (subst (λ (v : Recorded _ _). IsNamed delivers sent_envelopes is_for closed at one.end v) what named) in
          let clash : true ≡ false = sym (c.is_named.ensures.1 here) ∙ c.if-not-is_named.true in cc));
    })

pub comes_so-requires-clause-bank : goal.comes_so-requires-clause-bank
comes_so-requires-clause-bank c =
    let closed = c.args.closed.now in
    let at = c.loop-k.at.items in
    let k = c.in-Some.k in
    let one = c.index-closed-k.result in
    let place = c.index-place.result.now in
    let t =
    turn closed at k place one c.as_slice.result.now c.as_slice.ensures.value c.loop-k.invariant.same c.in-Some.ensures.some
    c.index-closed-k.is c.index-place.ensures in
    let numbers = c.loop-k.numbers in
    let world = c.loop-k.world in
    let i = c.loop-k.invariant in
    subst (λ s. IsOfBank s one)
    (sym (passing_made c.args.setup.now closed c.requires.order c.requires.bank c.requires.clocks c.one_bank.ensures.right_choices at numbers world i.so))
    (c.requires.bank k one t.is)

pub comes_so-requires-clause-reliable : goal.comes_so-requires-clause-reliable
comes_so-requires-clause-reliable c =
    let closed = c.args.closed.now in
    let i = c.loop-k.invariant in
    passing_reliable c.args.setup.now closed c.requires.order c.requires.bank c.requires.clocks c.one_bank.ensures.right_choices c.loop-k.at.items
    c.loop-k.numbers c.loop-k.world i.so

pub comes_so-requires-clause-named : goal.comes_so-requires-clause-named
comes_so-requires-clause-named c =
    let closed = c.args.closed.now in
    let at = c.loop-k.at.items in
    let k = c.in-Some.k in
    let one = c.index-closed-k.result in
    let place = c.index-place.result.now in
    let t =
    turn closed at k place one c.as_slice.result.now c.as_slice.ensures.value c.loop-k.invariant.same c.in-Some.ensures.some
    c.index-closed-k.is c.index-place.ensures in
    let numbers = c.loop-k.numbers in
    let world = c.loop-k.world in
    let i = c.loop-k.invariant in
    let r = c.index-as_slice-place.result in
    let what = event_read closed at k place one t c.as_slice-in-loop-k.result.now c.as_slice-in-loop-k.ensures.value r c.index-as_slice-place.is in
    let named : IsNamed delivers sent_envelopes is_for closed at one.end t.next.what =
    subst (λ (v : Recorded _ _). IsNamed delivers sent_envelopes is_for closed at one.end v) (sym what)
    (subst (λ l. IsNamed delivers sent_envelopes is_for closed l one.end r) c.as_slice-in-loop-k-2.ensures.value
    (c.is_named.ensures.0 c.if-not-is_named.false)) in
    let found : IsFound closed numbers t.next.what.stamp c.find-number.result =
    subst (λ (v : Recorded _ _). IsFound closed numbers v.stamp c.find-number.result) (sym what) c.find-number.ensures in
    let posts = c.post_len.ensures in
    let fits : length world.post < 2 ^ 64 = omega (arith, posts, c.post_len.type_inv) in
    subst (λ (v : Recorded _ _). Names world.post c.find-number.result v.event) what
    (passing_named c.args.setup.now closed c.requires.order c.requires.bank c.requires.clocks c.one_bank.ensures.right_choices at numbers world i.so k t.next
    one t.is (place + 1) (ap (λ n. n + 1) (sym t.here)) named fits c.find-number.result found)

pub comes_so-requires-clause-mine : goal.comes_so-requires-clause-mine
comes_so-requires-clause-mine c =
    let closed = c.args.closed.now in
    let at = c.loop-k.at.items in
    let k = c.in-Some.k in
    let one = c.index-closed-k.result in
    let place = c.index-place.result.now in
    let t =
    turn closed at k place one c.as_slice.result.now c.as_slice.ensures.value c.loop-k.invariant.same c.in-Some.ensures.some
    c.index-closed-k.is c.index-place.ensures in
    let numbers = c.loop-k.numbers in
    let world = c.loop-k.world in
    let i = c.loop-k.invariant in
    let r = c.index-as_slice-place.result in
    let what = event_read closed at k place one t c.as_slice-in-loop-k.result.now c.as_slice-in-loop-k.ensures.value r c.index-as_slice-place.is in
    let named : IsNamed delivers sent_envelopes is_for closed at one.end t.next.what =
    subst (λ (v : Recorded _ _). IsNamed delivers sent_envelopes is_for closed at one.end v) (sym what)
    (subst (λ l. IsNamed delivers sent_envelopes is_for closed l one.end r) c.as_slice-in-loop-k-2.ensures.value
    (c.is_named.ensures.0 c.if-not-is_named.false)) in
    subst (λ (v : Recorded _ _). (delivers v.event ≡ None) ⊎ (is_for one.end v.event ≡ true)) what
    (passing_mine c.args.setup.now closed c.requires.order c.requires.bank c.requires.clocks c.one_bank.ensures.right_choices at numbers world i.so k t.next one
    t.is (place + 1) (ap (λ n. n + 1) (sym t.here)) named)

pub returns-then-not-branch : goal.returns-then-not-branch
returns-then-not-branch c =
    let closed = c.args.closed.now in
    let at = c.loop-k.at.items in
    let k = c.in-Some.k in
    let one = c.index-closed-k.result in
    let place = c.index-place.result.now in
    let t =
    turn closed at k place one c.as_slice.result.now c.as_slice.ensures.value c.loop-k.invariant.same c.in-Some.ensures.some
    c.index-closed-k.is c.index-place.ensures in
    let numbers = c.loop-k.numbers in
    let world = c.loop-k.world in
    let i = c.loop-k.invariant in
    let r = c.index-as_slice-place.result in
    let what = event_read closed at k place one t c.as_slice-in-loop-k.result.now c.as_slice-in-loop-k.ensures.value r c.index-as_slice-place.is in
    let named : IsNamed delivers sent_envelopes is_for closed at one.end t.next.what =
    subst (λ (v : Recorded _ _). IsNamed delivers sent_envelopes is_for closed at one.end v) (sym what)
    (subst (λ l. IsNamed delivers sent_envelopes is_for closed l one.end r) c.as_slice-in-loop-k-2.ensures.value
    (c.is_named.ensures.0 c.if-not-is_named.false)) in
    let so : ComesSo world one.end t.next.what c.in_ok-comes_so.field-0 =
    subst (λ (v : Recorded _ _). ComesSo world one.end v c.in_ok-comes_so.field-0) (sym what) c.in_ok-comes_so.ensures.so in
    subst (λ p. PassesSo c.args.setup.now closed p) (sym c.failure_at-then-not-branch.ensures) (record {
      place = k;
      number = ap number_in t.is;
      test = tt;
      fails =
          passing_answered c.args.setup.now closed c.requires.order c.requires.bank c.requires.clocks c.one_bank.ensures.right_choices at numbers world i.so k
          t.next one t.is (place + 1) (ap (λ n. n + 1) (sym t.here)) named c.in_ok-comes_so.field-0 so c.if-not-branch.true;
    })

pub loop-k-preserved : goal.loop-k-preserved
loop-k-preserved c =
    let closed = c.args.closed.now in
    let at = c.loop-k.at.items in
    let k = c.in-Some.k in
    let one = c.index-closed-k.result in
    let place = c.index-place.result.now in
    let t =
    turn closed at k place one c.as_slice.result.now c.as_slice.ensures.value c.loop-k.invariant.same c.in-Some.ensures.some
    c.index-closed-k.is c.index-place.ensures in
    let numbers = c.loop-k.numbers in
    let world = c.loop-k.world in
    let i = c.loop-k.invariant in
    let r = c.index-as_slice-place.result in
    let what = event_read closed at k place one t c.as_slice-in-loop-k.result.now c.as_slice-in-loop-k.ensures.value r c.index-as_slice-place.is in
    let named : IsNamed delivers sent_envelopes is_for closed at one.end t.next.what =
    subst (λ (v : Recorded _ _). IsNamed delivers sent_envelopes is_for closed at one.end v) (sym what)
    (subst (λ l. IsNamed delivers sent_envelopes is_for closed l one.end r) c.as_slice-in-loop-k-2.ensures.value
    (c.is_named.ensures.0 c.if-not-is_named.false)) in
    let so : ComesSo world one.end t.next.what c.in_ok-comes_so.field-0 =
    subst (λ (v : Recorded _ _). ComesSo world one.end v c.in_ok-comes_so.field-0) (sym what) c.in_ok-comes_so.ensures.so in
    let found : IsFound closed numbers t.next.what.stamp c.find-number.result =
    subst (λ (v : Recorded _ _). IsFound closed numbers v.stamp c.find-number.result) (sym what) c.find-number.ensures in
    let posts = c.post_len.ensures in
    let fits : length world.post < 2 ^ 64 = omega (arith, posts, c.post_len.type_inv) in
    let goes : GoesBy held_by world c.comes_so.new.world (move_of one.number t.next.what c.find-number.result) =
    subst (λ (v : Recorded _ _). GoesBy held_by world c.comes_so.new.world (move_of one.number v c.find-number.result)) (sym what)
    (c.in_ok-comes_so.ensures.goes c.if-not-branch.false) in
    record {
      same = length-set at k (place + 1) ∙ i.same;
      so =
          passing_next c.args.setup.now closed c.requires.order c.requires.bank c.requires.clocks c.one_bank.ensures.right_choices at numbers world i.so k
          t.next one t.is (place + 1) (ap (λ n. n + 1) (sym t.here)) named c.in_ok-comes_so.field-0 so c.if-not-branch.false fits
          (slice_set at k (place + 1)) t.steps c.find-number.result found
          c.comes_so.new.world goes c.in_ok-comes_so.ensures.proved c.in_ok-comes_so.ensures.reliable
          c.note.new.self (c.in_ok-note.ensures.ok ∙ ap (λ n. slice_set numbers k (noted_of numbers k ++ (n + 1) ∷ [])) posts);
    }
