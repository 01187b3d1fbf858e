use Rattle.std.proofs.Common.{◌≡◌, true, false, map, get_or, sym, ap, ◌∙◌, subst}
use Rattle.vr_types.specs.Step.{learns, begins_with_executed}
use Rattle.vr_types.specs.Site.{Site}
use Rattle.vr_log.specs.Kept.{KeepsExecuted}
use Rattle.vr_log.specs.Running.{site_of, vote_of}
use Rattle.vr_log.proofs.OutcomeLemmas.{follows_as, meets_as, err_follows, drops_meets}
use Rattle.vr_change.proofs.Openings.{opens_with-stale, opens_with-opens, opened_over, on_ok_then}
use Rattle.vr_change.proofs.Ballots.{kept_at, some_one, one_element}
use Rattle.vr_change.proofs.Sites.{no_votes_one_each}
use Rattle.vr_change.proofs.opening.open_with_vote.Goals as goal

pub returns-then-not-keeps_executed-clause-step : goal.returns-then-not-keeps_executed-clause-step
returns-then-not-keeps_executed-clause-step g c = λ vote e choose start acks cell right h.
    let m = g.M.Machine in
    let f = c.args.config.f in
    let me = c.args.config.me in
    let r = c.args.running.now in
    let x = site_of r acks cell in
    let y : Site _ = learns c.args.told.now x in
    let votes = r.votes.items in
    let sent = c.args.sent.items in
    let a = c.index.result.now in
    let there = kept_at votes c.args.at a c.requires.at c.index.ensures in
    let same : a.log ≡ vote.log = ap (λ v. v.log) (some_one (sym there ∙ e)) in
    let begins : begins_with_executed choose.same y vote.log ≡ false =
    ap (begins_with_executed choose.same y) (sym same) ∙ sym (c.keeps_executed.ensures.same f choose right) ∙ c.if-not-keeps_executed.true in
    meets_as m start f me r c.dropped.result _ _ (opens_with-stale choose f me x y sent vote.log c.args.done begins)
    (drops_meets m start f me r c.dropped.result acks cell _ c.dropped.ensures h)

pub returns-in_err-take_rows-clause-step : goal.returns-in_err-take_rows-clause-step
returns-in_err-take_rows-clause-step g c = λ vote e choose start acks cell right h.
    let m = g.M.Machine in
    let f = c.args.config.f in
    let me = c.args.config.me in
    let r = c.args.running.now in
    let x = site_of r acks cell in
    let y : Site _ = learns c.args.told.now x in
    let votes = r.votes.items in
    let sent = c.args.sent.items in
    let a = c.index.result.now in
    let there = kept_at votes c.args.at a c.requires.at c.index.ensures in
    let same : a.log ≡ vote.log = ap (λ v. v.log) (some_one (sym there ∙ e)) in
    let begins : begins_with_executed choose.same y vote.log ≡ true =
    ap (begins_with_executed choose.same y) (sym same) ∙ sym (c.keeps_executed.ensures.same f choose right) ∙ c.if-not-keeps_executed.false in
    err_follows m start f me _ c.from_residual.result _ c.from_residual.ensures.0
    (ap (λ s. s.ending) (opens_with-opens choose f me x y sent vote.log c.args.done begins))

pub open-requires : goal.open-requires
open-requires g c =
    let votes = c.args.running.now.votes.items in
    let a = c.index.result.now in
    let b = c.swap_remove-vote.result in
    let one : a ≡ b =
    one_element votes c.args.at a b c.requires.at c.index.ensures
    (c.swap_remove-vote.ensures.value ∙ ap (λ v. get_or v.items c.args.at b) c.replace-votes.ensures.value) in
    let keeps : KeepsExecuted c.args.running.now.kept b.log =
    subst (λ v. KeepsExecuted c.args.running.now.kept v.log) one (c.keeps_executed.ensures.keeps c.if-not-keeps_executed.false) in
    let none = ap (λ v. v.items) c.replace-votes.ensures.after ∙ c.new.ensures.items in
    record { ready = c.in_ok-take_rows.ensures.ready keeps c.requires.ready; known = c.requires.known }

pub returns-clause-sound : goal.returns-clause-sound
returns-clause-sound g c =
    let votes = c.args.running.now.votes.items in
    let a = c.index.result.now in
    let b = c.swap_remove-vote.result in
    let one : a ≡ b =
    one_element votes c.args.at a b c.requires.at c.index.ensures
    (c.swap_remove-vote.ensures.value ∙ ap (λ v. get_or v.items c.args.at b) c.replace-votes.ensures.value) in
    let keeps : KeepsExecuted c.args.running.now.kept b.log =
    subst (λ v. KeepsExecuted c.args.running.now.kept v.log) one (c.keeps_executed.ensures.keeps c.if-not-keeps_executed.false) in
    let none = ap (λ v. v.items) c.replace-votes.ensures.after ∙ c.new.ensures.items in
    on_ok_then c.open.result _ _
    (λ h start s. h start (record {
      kept = c.in_ok-take_rows.ensures.kept start keeps s.kept;
      sites = s.sites;
      known = s.known;
      up = s.up;
      votes = no_votes_one_each _ (ap (map vote_of) none);
    })) c.open.ensures.sound

pub returns-clause-step : goal.returns-clause-step
returns-clause-step g c = λ vote e choose start acks cell right h.
    let m = g.M.Machine in
    let f = c.args.config.f in
    let me = c.args.config.me in
    let r = c.args.running.now in
    let x = site_of r acks cell in
    let y : Site _ = learns c.args.told.now x in
    let votes = r.votes.items in
    let sent = c.args.sent.items in
    let a = c.index.result.now in
    let there = kept_at votes c.args.at a c.requires.at c.index.ensures in
    let same : a.log ≡ vote.log = ap (λ v. v.log) (some_one (sym there ∙ e)) in
    let begins : begins_with_executed choose.same y vote.log ≡ true =
    ap (begins_with_executed choose.same y) (sym same) ∙ sym (c.keeps_executed.ensures.same f choose right) ∙ c.if-not-keeps_executed.false in
    let votes = c.args.running.now.votes.items in
    let a = c.index.result.now in
    let b = c.swap_remove-vote.result in
    let one : a ≡ b =
    one_element votes c.args.at a b c.requires.at c.index.ensures
    (c.swap_remove-vote.ensures.value ∙ ap (λ v. get_or v.items c.args.at b) c.replace-votes.ensures.value) in
    let keeps : KeepsExecuted c.args.running.now.kept b.log =
    subst (λ v. KeepsExecuted c.args.running.now.kept v.log) one (c.keeps_executed.ensures.keeps c.if-not-keeps_executed.false) in
    let none = ap (λ v. v.items) c.replace-votes.ensures.after ∙ c.new.ensures.items in
    let took = c.in_ok-take_rows.ensures in
    let log : vote.log ≡ c.take_rows.new.self.log = sym same ∙ ap (λ v. v.log) one ∙ sym took.log in
    follows_as m start f me _ c.open.result _ _ (opens_with-opens choose f me x y sent vote.log c.args.done begins)
    (follows_as m start f me _ c.open.result _ _ (opened_over f me y vote.log c.take_rows.new.self.log c.take_rows.new.self.done c.args.done sent log
    (sym c.take_rows.ensures.done))
    (c.open.ensures.step start acks cell
    (record {
      sound = record {
        kept = took.kept start keeps h.sound.kept;
        sites = h.sound.sites;
        known = h.sound.known;
        up = h.sound.up;
        votes = no_votes_one_each _ (ap (map vote_of) none);
      };
      summed = h.summed;
    })))
