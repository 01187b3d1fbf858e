use Rattle.std.proofs.Common.{◌≡◌, Some, length, slice_get, refl, subst, sym, ap, ◌∙◌, arith}
use Rattle.std.specs.Option.{is_some}
use Rattle.std.proofs.lemmas.Bool.{ltb-true, ltb-false}
use Rattle.std.proofs.lemmas.Option.{slice_get_read, slice_get_within}
use Rattle.pvp_rooms.specs.declared.message.Recorded.{Recorded}
use Rattle.pvp_rooms.specs.Runs.{Sends}
use Rattle.pvp_rooms.proofs.Order.{same_some}
use Rattle.pvp_rooms.proofs.sent.is_sent_by.Goals as goal

pub returns-in-Some : goal.returns-in-Some
returns-in-Some g c =
    let here = c.place_at-place.result in
    let read = c.as_slice-history.result.now in
    let seen = slice_get_read read (length read) here c.in-Some.r.now refl (ltb-true _ _ (sym c.in-Some.ensures.lookup.0)) c.in-Some.ensures.lookup.1 in
    let there = subst (λ l. slice_get l here ≡ Some c.in-Some.r.now) c.as_slice-history.ensures.value seen in (
      λ e. record {
        place = here;
        what = c.in-Some.r.now;
        within = c.if-place-upto.true;
        there = there;
        clock = c.if-r-stamp.true;
        sends = c.is_sent.ensures.0 e;
      },
      λ s.
          let at =
          c.place_at-place.ensures s.place s.what (subst (λ l. slice_get l s.place ≡ Some s.what) (sym c.as_slice-history.ensures.value) s.there) s.clock in
          let one = same_some s.what c.in-Some.r.now (sym s.there ∙ ap (slice_get c.args.one.now.history.items) at ∙ there) in
          c.is_sent.ensures.1 (subst (λ (v : Recorded _ _). Sends g.A.Audited.delivers g.A.Audited.sent c.args.event.now v.outcome c.args.stamp.index) one
          s.sends),
    )

pub returns-in_default : goal.returns-in_default
returns-in_default g c = (
  λ e. cc,
  λ s.
      let here = c.place_at-place.result in
      let read = c.as_slice-history.result.now in
      let seen = slice_get_read read (length read) here c.in-Some.r.now refl (ltb-true _ _ (sym c.in-Some.ensures.lookup.0)) c.in-Some.ensures.lookup.1 in
      let held = subst (λ l. slice_get l s.place ≡ Some s.what) (sym c.as_slice-history.ensures.value) s.there in
      let at = c.place_at-place.ensures s.place s.what held s.clock in
      let one = same_some s.what c.in-Some.r.now (sym held ∙ ap (slice_get read) at ∙ seen) in
      absurd (c.if-r-stamp.false (sym (ap (λ (v : Recorded _ _). v.clock) one) ∙ s.clock)),
)

pub returns-in_default-2 : goal.returns-in_default-2
returns-in_default-2 g c = (
  λ e. cc,
  λ s.
      let at =
      c.place_at-place.ensures s.place s.what (subst (λ l. slice_get l s.place ≡ Some s.what) (sym c.as_slice-history.ensures.value) s.there) s.clock in
      let within = s.within in
      absurd (omega (arith, at, within, c.if-place-upto.false)),
)

pub returns-in_default-3 : goal.returns-in_default-3
returns-in_default-3 g c = (
  λ e. cc,
  λ s.
      let held = subst (λ l. slice_get l s.place ≡ Some s.what) (sym c.as_slice-history.ensures.value) s.there in
      let at = c.place_at-place.ensures s.place s.what held s.clock in
      let within = slice_get_within c.as_slice-history.result.now s.place s.what held in
      let past = ltb-false c.place_at-place.result (length c.as_slice-history.result.now) (sym c.get.ensures.lookup.0 ∙ ap is_some c.in_default.is) in
      absurd (omega (arith, at, within, past)),
)
