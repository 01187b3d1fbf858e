use Rattle.std.proofs.Common.{◌≡◌, Some, length, slice_get, refl, subst, sym, ap, ◌∙◌, arith}
use Rattle.std.proofs.lemmas.Bool.{ltb-true, ltb-false}
use Rattle.std.proofs.lemmas.Option.{slice_get_read, slice_get_within}
use Rattle.pvp_rooms.specs.declared.message.Recorded.{Recorded}
use Rattle.pvp_rooms.specs.declared.cell.Closed.{Closed}
use Rattle.pvp_rooms.specs.Histories.{IsRising}
use Rattle.pvp_rooms.proofs.Order.{same_some}
use Rattle.pvp_audit.proofs.numbers.event_of.Goals as goal

pub returns-then-one-stamp-clause-none : goal.returns-then-one-stamp-clause-none
returns-then-one-stamp-clause-none g c = λ by place e.
    let closed = c.args.closed.now in
    let here = c.place_of-place.result in
    let one = c.in_ok-one.one.now in
    let seen = slice_get_read closed (length closed) here one refl (ltb-true _ _ (sym c.in_ok-one.ensures.lookup.0)) c.in_ok-one.ensures.lookup.1 in
    let at = c.place_of-place.ensures by e.who e.is e.actor in
    let same = same_some e.who one (sym e.is ∙ ap (slice_get closed) at ∙ seen) in
    c.if-one-stamp.true (sym (ap (λ (v : Closed _ _ _ _). v.number) same) ∙ e.actor)

pub place_at-event-requires : goal.place_at-event-requires
place_at-event-requires g c =
    let closed = c.args.closed.now in
    let here = c.place_of-place.result in
    let one = c.in_ok-one.one.now in
    let seen = slice_get_read closed (length closed) here one refl (ltb-true _ _ (sym c.in_ok-one.ensures.lookup.0)) c.in_ok-one.ensures.lookup.1 in
    subst (λ l. IsRising l 0) (sym c.as_slice-history.ensures.value) (c.requires.clocks here one seen)

pub returns-in_err-get-clause-none : goal.returns-in_err-get-clause-none
returns-in_err-get-clause-none g c = rw c.from_residual-in_err-get.ensures (λ by place e.
    let closed = c.args.closed.now in
    let here = c.place_of-place.result in
    let one = c.in_ok-one.one.now in
    let seen = slice_get_read closed (length closed) here one refl (ltb-true _ _ (sym c.in_ok-one.ensures.lookup.0)) c.in_ok-one.ensures.lookup.1 in
    let at = c.place_of-place.ensures by e.who e.is e.actor in
    let same = same_some e.who one (sym e.is ∙ ap (slice_get closed) at ∙ seen) in
    let history = c.as_slice-history.result.now in
    let held : slice_get history place ≡ Some e.what =
    ap (λ l. slice_get l place) c.as_slice-history.ensures.value ∙ ap (λ (v : Closed _ _ _ _). slice_get v.history.items place) (sym same) ∙ e.there in
    let within = slice_get_within history place e.what held in
    let found = c.place_at-event.ensures place e.what held e.clock in
    let past = ltb-false c.place_at-event.result (length history) (sym c.in_err-get.ensures.lookup.0) in
    omega (arith, found, within, past))

pub returns-then-branch-stamp-clause-none : goal.returns-then-branch-stamp-clause-none
returns-then-branch-stamp-clause-none g c = λ by place e.
    let closed = c.args.closed.now in
    let here = c.place_of-place.result in
    let one = c.in_ok-one.one.now in
    let seen = slice_get_read closed (length closed) here one refl (ltb-true _ _ (sym c.in_ok-one.ensures.lookup.0)) c.in_ok-one.ensures.lookup.1 in
    let at = c.place_of-place.ensures by e.who e.is e.actor in
    let same = same_some e.who one (sym e.is ∙ ap (slice_get closed) at ∙ seen) in
    let history = c.as_slice-history.result.now in
    let taken = c.in_ok-get.field-0.now in
    let held : slice_get history place ≡ Some e.what =
    ap (λ l. slice_get l place) c.as_slice-history.ensures.value ∙ ap (λ (v : Closed _ _ _ _). slice_get v.history.items place) (sym same) ∙ e.there in
    let found = c.place_at-event.ensures place e.what held e.clock in
    let read =
    slice_get_read history (length history) c.place_at-event.result taken refl (ltb-true _ _ (sym c.in_ok-get.ensures.lookup.0))
    c.in_ok-get.ensures.lookup.1 in
    let what = same_some e.what taken (sym held ∙ ap (slice_get history) found ∙ read) in
    c.if-branch-stamp.true (sym (ap (λ (r : Recorded _ _). r.clock) what) ∙ e.clock)

pub returns-clause-some : goal.returns-clause-some
returns-clause-some g c =
    let closed = c.args.closed.now in
    let here = c.place_of-place.result in
    let one = c.in_ok-one.one.now in
    let history = c.as_slice-history.result.now in
    let taken = c.in_ok-get.field-0.now in
    let read =
    slice_get_read history (length history) c.place_at-event.result taken refl (ltb-true _ _ (sym c.in_ok-get.ensures.lookup.0))
    c.in_ok-get.ensures.lookup.1 in
    record {
      who = one;
      is = slice_get_read closed (length closed) here one refl (ltb-true _ _ (sym c.in_ok-one.ensures.lookup.0)) c.in_ok-one.ensures.lookup.1;
      actor = c.if-one-stamp.false;
      what = taken;
      there = ap (λ l. slice_get l c.place_at-event.result) (sym c.as_slice-history.ensures.value) ∙ read;
      clock = c.if-branch-stamp.false;
    }
