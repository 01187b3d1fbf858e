use Rattle.std.proofs.Common.{◌≡◌, ◌≢◌, ◌≤◌, true, false, nat_lt, length, refl, sym, ap, ◌∙◌, subst, arith}
use Rattle.std.proofs.lemmas.Bool.Decides.{nat_tests}
use Rattle.vr_types.specs.Recovery.{has_as_late, regains}
use Rattle.vr_types.specs.Step.{greater, is_outdated}
use Rattle.vr_recover.specs.Recovering.{response_of, responses_of, recovers_with, IsOneEach}
use Rattle.vr_recover.proofs.Lists.{greater_length}
use Rattle.vr_recover.proofs.ProgressLemmas.{kept_with, current_of, left_with, one_each_with, one_each_current, as_late-same, response_to_earlier, response_outdated, response_known, response_kept, regains_handled, progress_as, err_progress}
use Rattle.vr_recover.proofs.progress.take_response.Goals as goal

pub returns-then-nonce-boot-clause-step : goal.returns-then-nonce-boot-clause-step
returns-then-nonce-boot-clause-step g c = λ choose acks right.
    let old = c.args.recovering.now in
    response_to_earlier choose old.known old.responses.items acks c.args.boot c.args.nonce c.args.response c.if-nonce-boot.true

pub returns-then-is_outdated-clause-step : goal.returns-then-is_outdated-clause-step
returns-then-is_outdated-clause-step g c = λ choose acks right.
    let old = c.args.recovering.now in
    response_outdated choose old.known old.responses.items acks c.args.boot c.args.nonce c.args.response c.if-nonce-boot.false
    (sym c.is_outdated.ensures ∙ c.if-is_outdated.true)

pub returns-then-has_as_late-clause-step : goal.returns-then-has_as_late-clause-step
returns-then-has_as_late-clause-step g c = λ choose acks right.
    let old = c.args.recovering.now in
    let new = c.args.response in
    let current : is_outdated old.known new.from new.known ≡ false = sym c.is_outdated.ensures ∙ c.if-is_outdated.false in
    let known : has_as_late (responses_of (left_with old.known old.responses.items new)) (response_of new) ≡ true =
    as_late-same old.known old.responses.items new current ∙ sym (rw c.as_slice.ensures.value at c.has_as_late.ensures) ∙ c.if-has_as_late.true in
    response_known choose old.known old.responses.items acks c.args.boot c.args.nonce new c.if-nonce-boot.false current known

pub returns-in_err-keep-clause-step : goal.returns-in_err-keep-clause-step
returns-in_err-keep-clause-step g c = λ choose acks right.
    let old = c.args.recovering.now in
    let new = c.args.response in
    let current : is_outdated old.known new.from new.known ≡ false = sym c.is_outdated.ensures ∙ c.if-is_outdated.false in
    let later : has_as_late (responses_of (left_with old.known old.responses.items new)) (response_of new) ≡ false =
    as_late-same old.known old.responses.items new current ∙ sym (rw c.as_slice.ensures.value at c.has_as_late.ensures) ∙ c.if-has_as_late.false in
    err_progress (record { known = c.learn.new.recovering.known; responses = c.keep.new.kept }) acks c.args.boot c.from_residual.result _
    c.from_residual.ensures.0
    (ap (λ s. s.ending) (response_kept choose old.known old.responses.items acks c.args.boot c.args.nonce new c.if-nonce-boot.false current later)
    ∙ regains_handled _ _ _ _)

pub regain_where_due-requires-clause-sound : goal.regain_where_due-requires-clause-sound
regain_where_due-requires-clause-sound g c =
    let old = c.args.recovering.now in
    let new = c.args.response in
    let left = one_each_current c.learn.new.recovering.known old.responses.items c.requires.sound.one_each in
    record {
      known =
          rw c.learn.ensures.known (greater_length old.known new.known (let a = c.requires.told in let b = c.requires.sound.known in omega arith)
          ∙ c.requires.sound.known);
      one_each = subst IsOneEach (sym (c.in_ok-keep.ensures ∙ ap (λ kept. kept_with kept new) c.learn.ensures.current)) (one_each_with _ new left);
    }

pub returns-clause-step : goal.returns-clause-step
returns-clause-step g c = λ choose acks right.
    let old = c.args.recovering.now in
    let new = c.args.response in
    let cell = c.args.boot in
    let items = old.responses.items in
    let current : is_outdated old.known new.from new.known ≡ false = sym c.is_outdated.ensures ∙ c.if-is_outdated.false in
    let later : has_as_late (responses_of (left_with old.known items new)) (response_of new) ≡ false =
    as_late-same old.known items new current ∙ sym (rw c.as_slice.ensures.value at c.has_as_late.ensures) ∙ c.if-has_as_late.false in
    let known_is = c.learn.ensures.known in
    let kept_is : c.keep.new.kept.items ≡ kept_with (left_with old.known items new) new =
    c.in_ok-keep.ensures ∙ ap (λ kept. kept_with kept new) (c.learn.ensures.current ∙ ap (λ known. current_of known items) known_is) in
    progress_as c.regain_where_due.new.recovering acks cell c.regain_where_due.result _ _
    (response_kept choose old.known items acks cell c.args.nonce new c.if-nonce-boot.false current later
    ∙ ap (λ kept. regains (recovers_with (greater old.known new.known) kept acks cell) (choose.regained (responses_of kept))) (sym kept_is)
    ∙ ap (λ known. regains (recovers_with known c.keep.new.kept.items acks cell) (choose.regained (responses_of c.keep.new.kept.items))) (sym known_is))
    (c.regain_where_due.ensures.step choose acks right)
