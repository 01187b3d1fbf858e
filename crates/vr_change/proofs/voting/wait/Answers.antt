use Rattle.std.proofs.Common.{◌≡◌, List, [], true, map, sym, ap, ◌∙◌, subst}
use Rattle.vr_types.specs.declared.cell.Boot.{Boot}
use Rattle.vr_types.specs.Cell.{new_cell}
use Rattle.vr_types.specs.Change.{own_vote}
use Rattle.vr_types.specs.Choice.{OneEach}
use Rattle.vr_types.specs.Site.{Ack, Vote}
use Rattle.vr_types.specs.Step.{does}
use Rattle.vr_log.specs.Running.{site_of, start_of, vote_of}
use Rattle.vr_log.proofs.OutcomeLemmas.{meets_as, does_meets}
use Rattle.vr_change.specs.Ballot.{with_starter, with_ballot}
use Rattle.vr_change.specs.Parts.{gathered}
use Rattle.vr_change.proofs.Sites.{CollectsMore, collects_both, kept_sound, kept_running, collected_site}
use Rattle.vr_change.proofs.Votes.{one_each_ballot}
use Rattle.vr_change.proofs.voting.wait.Goals as goal

pub returns-then-not-votes-clause-sound : goal.returns-then-not-votes-clause-sound
returns-then-not-votes-clause-sound g c = λ start s.
    let r = c.learn.new.running in
    let t = c.learn.ensures.sound c.args.config.f start s in
    let first = c.in_ok-keep_start.ensures in
    let k = c.keep_start.new.running in
    let more : CollectsMore r k = λ i. record (first.stays i) { starts = k.starts; voted = k.voted; votes = k.votes } in
    kept_sound g.M.Machine start c.args.config.f r k more
    (subst (λ v. OneEach (λ (vote : Vote _). vote.from) (map vote_of v.items)) (λ i. (sym first.stays i).votes) t.votes) t

pub returns-then-not-votes-clause-step : goal.returns-then-not-votes-clause-step
returns-then-not-votes-clause-step g c = λ start acks cell h.
    let m = g.M.Machine in
    let f = c.args.config.f in
    let r = c.learn.new.running in
    let me = c.args.config.me in
    let st = start_of c.args.start in
    let first = c.in_ok-keep_start.ensures in
    let k = c.keep_start.new.running in
    let more : CollectsMore r k = λ i. record (first.stays i) { starts = k.starts; voted = k.voted; votes = k.votes } in
    let learnt = sym (c.learn.ensures.site acks cell) in
    let t = c.learn.ensures.running start f acks h in
    let sent = c.args.sent.items in
    meets_as m start f me k _ _ _ (ap (λ x. does (gathered c.args.votes me st x) sent) learnt
    ∙ ap (λ b. does (gathered b me st (site_of r acks cell)) sent) c.if-not-votes.true)
    (does_meets m start f me k c.handled.result _ sent c.handled.ensures
    (kept_running m start f r k acks more
    (subst (λ v. OneEach (λ (vote : Vote _). vote.from) (map vote_of v.items)) (λ i. (sym first.stays i).votes) t.sound.votes) t)
    (collected_site r k acks cell (with_starter (map start_of r.starts.items) st) r.voted
    (map vote_of r.votes.items) more first.starts (ap (λ v. v.voted) first.stays) (ap (λ v. map vote_of v.votes.items) first.stays)))

pub returns-clause-sound : goal.returns-clause-sound
returns-clause-sound g c = λ start s.
    let acks : List Ack = [] in
    let cell : Boot = new_cell in
    let r = c.learn.new.running in
    let t = c.learn.ensures.sound c.args.config.f start s in
    let me = c.args.config.me in
    let first = c.in_ok-keep_start.ensures in
    let k = c.keep_start.new.running in
    let n = c.keep_own_vote.new.running in
    let now = c.in_ok-keep_own_vote.ensures in
    let one : CollectsMore r k = λ i. record (first.stays i) { starts = k.starts; voted = k.voted; votes = k.votes } in
    let more = collects_both r k n one (λ i. record (now.stays i) { starts = n.starts; voted = n.voted; votes = n.votes }) in
    let own : own_vote me (site_of k acks cell) ≡ own_vote me (site_of r acks cell) =
    λ i. record {
      from = me;
      last_normal = (first.stays i).last_normal;
      done = (first.stays i).kept.done;
      log = (first.stays i).kept.log;
      known = (first.stays i).known;
    } in
    let votes : map vote_of n.votes.items ≡ with_ballot (map vote_of r.votes.items) (own_vote me (site_of r acks cell)) =
    now.votes acks cell ∙ ap (λ v. with_ballot (map vote_of v.items) (own_vote me (site_of k acks cell))) (λ i. (first.stays i).votes)
    ∙ ap (with_ballot (map vote_of r.votes.items)) own in
    kept_sound g.M.Machine start c.args.config.f r n more
    (subst (OneEach (λ (vote : Vote _). vote.from)) (sym votes) (one_each_ballot (map vote_of r.votes.items) (own_vote me (site_of r acks cell)) t.votes)) t

pub returns-clause-step : goal.returns-clause-step
returns-clause-step g c = λ start acks cell h.
    let m = g.M.Machine in
    let f = c.args.config.f in
    let r = c.learn.new.running in
    let me = c.args.config.me in
    let st = start_of c.args.start in
    let first = c.in_ok-keep_start.ensures in
    let k = c.keep_start.new.running in
    let n = c.keep_own_vote.new.running in
    let now = c.in_ok-keep_own_vote.ensures in
    let one : CollectsMore r k = λ i. record (first.stays i) { starts = k.starts; voted = k.voted; votes = k.votes } in
    let more = collects_both r k n one (λ i. record (now.stays i) { starts = n.starts; voted = n.voted; votes = n.votes }) in
    let own : own_vote me (site_of k acks cell) ≡ own_vote me (site_of r acks cell) =
    λ i. record {
      from = me;
      last_normal = (first.stays i).last_normal;
      done = (first.stays i).kept.done;
      log = (first.stays i).kept.log;
      known = (first.stays i).known;
    } in
    let votes : map vote_of n.votes.items ≡ with_ballot (map vote_of r.votes.items) (own_vote me (site_of r acks cell)) =
    now.votes acks cell ∙ ap (λ v. with_ballot (map vote_of v.items) (own_vote me (site_of k acks cell))) (λ i. (first.stays i).votes)
    ∙ ap (with_ballot (map vote_of r.votes.items)) own in
    let x = site_of r acks cell in
    let learnt = sym (c.learn.ensures.site acks cell) in
    let t = c.learn.ensures.running start f acks h in
    let sent = c.args.sent.items in
    let each = subst (OneEach (λ (vote : Vote _). vote.from)) (sym votes) (one_each_ballot (map vote_of r.votes.items) (own_vote me x) t.sound.votes) in
    meets_as m start f me n _ _ _ (ap (λ z. does (gathered c.args.votes me st z) sent) learnt ∙ ap (λ b. does (gathered b me st x) sent) c.if-not-votes.false)
    (does_meets m start f me n c.handled-2.result _ sent c.handled-2.ensures
    (kept_running m start f r n acks more each t)
    (collected_site r n acks cell (with_starter (map start_of r.starts.items) st) true (with_ballot (map vote_of r.votes.items) (own_vote me x))
    more (ap (λ v. map start_of v.starts.items) now.stays ∙ first.starts) (ap (λ v. v.voted) now.stays) votes))
