use Rattle.std.proofs.Common.{◌≡◌, Some, None, sym, ◌∙◌}
use Rattle.std.specs.Prelude.{IfNone, Option}
use Rattle.std.specs.List.{position}
use Rattle.vr_types.specs.Choice.{Regained, IsRegained}
use Rattle.vr_recover.specs.Recovering.{responses_of}
use Rattle.vr_recover.proofs.Regains.{is_of, regained_place, regained_has_state, found_is_regained}
use Rattle.vr_recover.proofs.recovering.take_regained.Goals as goal

-- what holds anyway holds of None
if_none : {X : Type 0} (o : Option X) (P : Type 0) → P → IfNone o P
if_none None P p = p
if_none (Some x) P p = tt

pub returns-in_err-at-clause-none : goal.returns-in_err-at-clause-none
returns-in_err-at-clause-none g c =
    let f = c.args.config.f in
    let kept = c.args.kept.now.items in
    let none : position (is_of c.primary_of.result c.in_ok-view.view) kept ≡ None =
    sym (rw c.as_slice-2.ensures.value at c.place_of.ensures) ∙ c.in_err-at.was in
    let only = rw c.as_slice.ensures.value at c.in_ok-view.ensures.only in
    let nothing : (regained : Regained g.row.C.Denot) → ¬ IsRegained f (responses_of kept) regained = λ regained h. (
    let e = only regained h in
    let view_is : c.in_ok-view.view ≡ regained.view = cc in
    regained_place f kept regained c.primary_of.result c.in_ok-view.view c.primary_of.ensures.site view_is none h) in
    if_none _ _ nothing

pub returns-in_err-state-clause-none : goal.returns-in_err-state-clause-none
returns-in_err-state-clause-none g c =
    let f = c.args.config.f in
    let kept = c.args.kept.now.items in
    let some : position (is_of c.primary_of.result c.in_ok-view.view) kept ≡ Some c.in_ok-at.at =
    sym (rw c.as_slice-2.ensures.value at c.place_of.ensures) ∙ c.in_ok-at.was in
    let only = rw c.as_slice.ensures.value at c.in_ok-view.ensures.only in
    let nothing : (regained : Regained g.row.C.Denot) → ¬ IsRegained f (responses_of kept) regained = λ regained h. (
    let e = only regained h in
    let view_is : c.in_ok-view.view ≡ regained.view = cc in
    regained_has_state f kept regained c.primary_of.result c.in_ok-view.view c.in_ok-at.at c.index_mut.result.now c.requires
    c.primary_of.ensures.site view_is some c.index_mut.ensures.value (sym c.take.ensures.value ∙ c.in_err-state.was) h) in
    if_none _ _ nothing

pub returns-clause-some : goal.returns-clause-some
returns-clause-some g c =
    let kept = c.args.kept.now.items in
    let some : position (is_of c.primary_of.result c.in_ok-view.view) kept ≡ Some c.in_ok-at.at =
    sym (rw c.as_slice-2.ensures.value at c.place_of.ensures) ∙ c.in_ok-at.was in
    found_is_regained c.args.config.f kept c.primary_of.result c.in_ok-view.view c.in_ok-at.at c.index_mut.result.now c.in_ok-state.state
    (rw c.as_slice.ensures.value at c.in_ok-view.ensures.enough) (rw c.as_slice.ensures.value at c.in_ok-view.ensures.greatest)
    c.primary_of.ensures.site some c.index_mut.ensures.value (sym c.take.ensures.value ∙ c.in_ok-state.was)

pub returns-in_err-view-clause-none : goal.returns-in_err-view-clause-none
returns-in_err-view-clause-none g c =
    let only = rw c.as_slice.ensures.value at c.in_err-view.ensures.only in
    let nothing : (regained : Regained g.row.C.Denot) → ¬ IsRegained c.args.config.f (responses_of c.args.kept.now.items) regained =
    λ regained h. (let e = only regained h in cc) in
    if_none _ _ nothing
