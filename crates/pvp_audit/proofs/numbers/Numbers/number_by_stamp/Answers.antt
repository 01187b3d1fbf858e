use Rattle.std.proofs.Common.{◌≡◌, ℕ, List, Some, None, Vec, length, slice_get, ◌≤◌, refl, sym, ap, subst, ◌∙◌}
use Rattle.std.proofs.lemmas.Bool.{ltb-true, ltb-false}
use Rattle.std.proofs.lemmas.Option.{slice_get_read, slice_get_past}
use Rattle.pvp_audit.specs.Numbered.{noted_of}
use Rattle.pvp_audit.proofs.Noting.{noted_at, noted_past, names_none, sum_named, no_sum_named}
use Rattle.pvp_audit.proofs.numbers.Numbers.number_by_stamp.Goals as goal

pub returns-in_err-place-clause-none : goal.returns-in_err-place-clause-none
returns-in_err-place-clause-none g c = rw c.from_residual.ensures (λ number low n. c.in_err-place.ensures.none n.by n.place n.event)

pub returns-in_err-get-clause-none : goal.returns-in_err-get-clause-none
returns-in_err-get-clause-none g c =
    let by = c.in_ok-place.place in
    let place = c.in_ok-place.event in
    let firsts = c.self.inside.firsts.items in
    let read = c.deref.result.now in
    let past : length firsts ≤ by = subst (λ n. n ≤ by) (ap length c.deref.ensures.value) (ltb-false by (length read) (sym c.in_err-get.ensures.lookup.0)) in
    let none : slice_get (noted_of c.args.self.now by) place ≡ None =
    ap (λ l. slice_get (noted_of l by) place) (sym c.self.view_is) ∙ ap (λ (l : List ℕ). slice_get l place)
    (noted_past (λ (v : Vec ℕ _). v.items) firsts by past) in
    rw c.from_residual-in_err-get.ensures (names_none c.args.closed.now c.requires.order c.requires.clocks c.args.stamp c.args.self.now by place
    c.in_ok-place.ensures.some none)

pub returns-in_err-first-clause-none : goal.returns-in_err-first-clause-none
returns-in_err-first-clause-none g c =
    let by = c.in_ok-place.place in
    let place = c.in_ok-place.event in
    let firsts = c.self.inside.firsts.items in
    let read = c.deref.result.now in
    let events = c.in_ok-get.field-0.now in
    let seen = slice_get_read read (length read) by events refl (ltb-true by (length read) (sym c.in_ok-get.ensures.lookup.0)) c.in_ok-get.ensures.lookup.1 in
    let kept : slice_get firsts by ≡ Some events = ap (λ l. slice_get l by) (sym c.deref.ensures.value) ∙ seen in
    let noted : noted_of c.args.self.now by ≡ events.items =
    ap (λ l. noted_of l by) (sym c.self.view_is) ∙ noted_at (λ (v : Vec ℕ _). v.items) firsts by events kept in
    let list = c.deref-2.result.now in
    let none : slice_get (noted_of c.args.self.now by) place ≡ None =
    ap (λ l. slice_get l place) (noted ∙ sym c.deref-2.ensures.value) ∙ slice_get_past list place
    (ltb-false place (length list) (sym c.in_err-first.ensures.lookup.0)) in
    rw c.from_residual-in_err-first.ensures (names_none c.args.closed.now c.requires.order c.requires.clocks c.args.stamp c.args.self.now by place
    c.in_ok-place.ensures.some none)

pub returns-clause-some : goal.returns-clause-some
returns-clause-some g c =
    let by = c.in_ok-place.place in
    let place = c.in_ok-place.event in
    let firsts = c.self.inside.firsts.items in
    let read = c.deref.result.now in
    let events = c.in_ok-get.field-0.now in
    let seen = slice_get_read read (length read) by events refl (ltb-true by (length read) (sym c.in_ok-get.ensures.lookup.0)) c.in_ok-get.ensures.lookup.1 in
    let kept : slice_get firsts by ≡ Some events = ap (λ l. slice_get l by) (sym c.deref.ensures.value) ∙ seen in
    let noted : noted_of c.args.self.now by ≡ events.items =
    ap (λ l. noted_of l by) (sym c.self.view_is) ∙ noted_at (λ (v : Vec ℕ _). v.items) firsts by events kept in
    let list = c.deref-2.result.now in
    let first = c.in_ok-first.field-0.now in
    let is : slice_get (noted_of c.args.self.now by) place ≡ Some first =
    ap (λ l. slice_get l place) (noted ∙ sym c.deref-2.ensures.value) ∙ slice_get_read list (length list) place first refl
    (ltb-true place (length list) (sym c.in_ok-first.ensures.lookup.0)) c.in_ok-first.ensures.lookup.1 in
    sum_named c.args.closed.now c.requires.order c.requires.clocks c.args.stamp c.args.self.now by place c.in_ok-place.ensures.some first is
    c.checked_add.result c.checked_add.ensures

pub returns-clause-none : goal.returns-clause-none
returns-clause-none g c =
    let by = c.in_ok-place.place in
    let place = c.in_ok-place.event in
    let firsts = c.self.inside.firsts.items in
    let read = c.deref.result.now in
    let events = c.in_ok-get.field-0.now in
    let seen = slice_get_read read (length read) by events refl (ltb-true by (length read) (sym c.in_ok-get.ensures.lookup.0)) c.in_ok-get.ensures.lookup.1 in
    let kept : slice_get firsts by ≡ Some events = ap (λ l. slice_get l by) (sym c.deref.ensures.value) ∙ seen in
    let noted : noted_of c.args.self.now by ≡ events.items =
    ap (λ l. noted_of l by) (sym c.self.view_is) ∙ noted_at (λ (v : Vec ℕ _). v.items) firsts by events kept in
    let list = c.deref-2.result.now in
    let first = c.in_ok-first.field-0.now in
    let is : slice_get (noted_of c.args.self.now by) place ≡ Some first =
    ap (λ l. slice_get l place) (noted ∙ sym c.deref-2.ensures.value) ∙ slice_get_read list (length list) place first refl
    (ltb-true place (length list) (sym c.in_ok-first.ensures.lookup.0)) c.in_ok-first.ensures.lookup.1 in
    no_sum_named c.args.closed.now c.requires.order c.requires.clocks c.args.stamp c.args.self.now by place c.in_ok-place.ensures.some first is
    c.checked_add.result c.checked_add.ensures
