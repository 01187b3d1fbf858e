use Rattle.std.proofs.Common.{length, slice_get, slice_index, refl, subst, sym, ap, ◌∙◌, arith}
use Rattle.std.specs.Option.{is_some}
use Rattle.std.proofs.lemmas.Bool.{ltb-true, ltb-false}
use Rattle.std.proofs.lemmas.Option.{slice_get_read, slice_get_within}
use Rattle.pvp_rooms.specs.declared.cell.Closed.{Closed}
use Rattle.pvp_rooms.specs.Named.{IsSentBy}
use Rattle.pvp_rooms.proofs.Order.{same_some}
use Rattle.pvp_rooms.proofs.sent.is_sent.Goals as goal

pub is_sent_by-requires : goal.is_sent_by-requires
is_sent_by-requires g c =
    let closed = c.args.closed.now in
    let seen =
    slice_get_read closed (length closed) c.place_of-place.result c.in-Some.one.now refl
    (ltb-true _ _ (sym c.in-Some.ensures.lookup.0)) c.in-Some.ensures.lookup.1 in
    c.requires.clocks c.place_of-place.result c.in-Some.one.now seen

pub returns-in-Some : goal.returns-in-Some
returns-in-Some g c =
    let closed = c.args.closed.now in
    let here = c.place_of-place.result in
    let seen = slice_get_read closed (length closed) here c.in-Some.one.now refl (ltb-true _ _ (sym c.in-Some.ensures.lookup.0)) c.in-Some.ensures.lookup.1 in (
      λ e. record {
        by = here;
        who = c.in-Some.one.now;
        is = seen;
        number = c.if-one-stamp.true;
        there = c.is_sent_by.ensures.0 e;
      },
      λ s.
          let at = c.place_of-place.ensures s.by s.who s.is s.number in
          let one = same_some s.who c.in-Some.one.now (sym s.is ∙ ap (slice_get closed) at ∙ seen) in
          let a = g.A.Audited in
          c.is_sent_by.ensures.1
          (subst (λ n. IsSentBy a.delivers a.sent c.in-Some.one.now.history.items (slice_index c.args.at.now n) c.args.stamp c.args.event.now) at
          (subst (λ (v : Closed _ _ _ _). IsSentBy a.delivers a.sent v.history.items (slice_index c.args.at.now s.by) c.args.stamp c.args.event.now) one
          s.there)),
    )

pub returns-in_default : goal.returns-in_default
returns-in_default g c = (
  λ e. cc,
  λ s.
      let closed = c.args.closed.now in
      let here = c.place_of-place.result in
      let seen = slice_get_read closed (length closed) here c.in-Some.one.now refl (ltb-true _ _ (sym c.in-Some.ensures.lookup.0)) c.in-Some.ensures.lookup.1 in
      let at = c.place_of-place.ensures s.by s.who s.is s.number in
      let one = same_some s.who c.in-Some.one.now (sym s.is ∙ ap (slice_get closed) at ∙ seen) in
      absurd (c.if-one-stamp.false (sym (ap (λ (v : Closed _ _ _ _). v.number) one) ∙ s.number)),
)

pub returns-in_default-2 : goal.returns-in_default-2
returns-in_default-2 g c = (
  λ e. cc,
  λ s.
      let closed = c.args.closed.now in
      let at = c.place_of-place.ensures s.by s.who s.is s.number in
      let within = slice_get_within closed s.by s.who s.is in
      let past = ltb-false c.place_of-place.result (length closed) (sym c.get.ensures.lookup.0 ∙ ap is_some c.in_default.is) in
      absurd (omega (arith, at, within, past)),
)
