use Rattle.std.proofs.Common.{◌==◌, ap, sym, ◌∙◌, if◌then◌else◌}
use Rattle.vr_types.specs.declared.event.Why.TheVariants.{Status, NotPrimary}
use Rattle.vr_types.specs.Group.{primary}
use Rattle.vr_types.specs.Handling.{on_message}
use Rattle.vr_types.specs.Recovery.{response_of, on_recovery_response}
use Rattle.vr_types.specs.Step.{drops}
use Rattle.vr_recover.specs.Recovering.{recovering_site}
use Rattle.vr_recover.proofs.ProgressLemmas.{progress_as}
use Rattle.vr_site.proofs.Recovering.{prepare_drops, commit_drops, start_view_drops, new_state_drops, others_drop}
use Rattle.vr_site.proofs.waiting.await_state.Goals as goal

pub returns-in-RecoveryResponse-clause-step : goal.returns-in-RecoveryResponse-clause-step
returns-in-RecoveryResponse-clause-step g c = λ choose acks right.
    let f = c.args.config.f in
    let me = c.args.config.me in
    let x = recovering_site c.args.recovering.now acks c.args.boot in
    let r = c.in-RecoveryResponse in
    progress_as c.take_response.new.recovering acks c.args.boot c.take_response.result _ _
    (ap (λ msg. on_message choose f me x c.args.from msg) r.is ∙ ap (λ s. on_recovery_response choose x r.msg.nonce (response_of s r.msg))
    (sym c.site_number-site.ensures))
    (c.take_response.ensures.step choose acks right)

pub returns-in-Prepare-clause-sound : goal.returns-in-Prepare-clause-sound
returns-in-Prepare-clause-sound g c = c.requires.sound

pub returns-in-Prepare-clause-step : goal.returns-in-Prepare-clause-step
returns-in-Prepare-clause-step g c = λ choose acks right.
    let f = c.args.config.f in
    let me = c.args.config.me in
    let kept = c.args.recovering.now in
    let x = recovering_site kept acks c.args.boot in
    ap (λ msg. on_message choose f me x c.args.from msg) c.in-Prepare.is ∙ prepare_drops f me kept acks c.args.boot _ c.in-Prepare.msg
    ∙ ap (drops x) (ap (λ s. if primary f c.in-Prepare.msg.view == s then Status else NotPrimary) (sym c.site_number-site.ensures) ∙ sym c.why_of.ensures)

pub returns-in-Commit-clause-sound : goal.returns-in-Commit-clause-sound
returns-in-Commit-clause-sound g c = c.requires.sound

pub returns-in-Commit-clause-step : goal.returns-in-Commit-clause-step
returns-in-Commit-clause-step g c = λ choose acks right.
    let f = c.args.config.f in
    let me = c.args.config.me in
    let kept = c.args.recovering.now in
    let x = recovering_site kept acks c.args.boot in
    ap (λ msg. on_message choose f me x c.args.from msg) c.in-Commit.is ∙ commit_drops f me kept acks c.args.boot _ c.in-Commit.msg
    ∙ ap (drops x) (ap (λ s. if primary f c.in-Commit.msg.view == s then Status else NotPrimary) (sym c.site_number-site.ensures)
    ∙ sym c.why_of-in-Commit.ensures)

pub returns-in-StartView-clause-sound : goal.returns-in-StartView-clause-sound
returns-in-StartView-clause-sound g c = c.requires.sound

pub returns-in-StartView-clause-step : goal.returns-in-StartView-clause-step
returns-in-StartView-clause-step g c = λ choose acks right.
    let f = c.args.config.f in
    let me = c.args.config.me in
    let kept = c.args.recovering.now in
    let x = recovering_site kept acks c.args.boot in
    ap (λ msg. on_message choose f me x c.args.from msg) c.in-StartView.is ∙ start_view_drops f me kept acks c.args.boot choose _ c.in-StartView.msg
    ∙ ap (drops x) (ap (λ s. if primary f c.in-StartView.msg.view == s then Status else NotPrimary) (sym c.site_number-site.ensures)
    ∙ sym c.why_of-in-StartView.ensures)

pub returns-in-NewState-clause-sound : goal.returns-in-NewState-clause-sound
returns-in-NewState-clause-sound g c = c.requires.sound

pub returns-in-NewState-clause-step : goal.returns-in-NewState-clause-step
returns-in-NewState-clause-step g c = λ choose acks right.
    let f = c.args.config.f in
    let me = c.args.config.me in
    let kept = c.args.recovering.now in
    let x = recovering_site kept acks c.args.boot in
    ap (λ msg. on_message choose f me x c.args.from msg) c.in-NewState.is ∙ new_state_drops f me kept acks c.args.boot choose _ c.in-NewState.msg
    ∙ ap (drops x) (ap (λ s. if primary f c.in-NewState.msg.view == s then Status else NotPrimary) (sym c.site_number-site.ensures)
    ∙ sym c.why_of-in-NewState.ensures)

pub returns : goal.returns
returns g c = record {
  sound = c.requires.sound;
  step = λ choose acks right.
      others_drop c.args.config.f c.args.config.me c.args.recovering.now acks c.args.boot choose c.args.from c.args.msg c.requires.may_come
      c.in_default.not-RecoveryResponse c.in_default.not-Prepare c.in_default.not-Commit c.in_default.not-StartView c.in_default.not-NewState;
}
