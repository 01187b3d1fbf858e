use Rattle.std.proofs.Common.{◌≡◌, ◌==◌, ◌++◌, ◌∷◌, [], true, false, map, refl, sym, ap, ◌∙◌, subst}
use Rattle.std.proofs.lemmas.Bool.{ne_eqb}
use Rattle.vr_types.specs.declared.message.MsgOf.TheVariants.{DoViewChange}
use Rattle.vr_types.specs.Change.{sends_vote, with_voted}
use Rattle.vr_types.specs.Choice.{OneEach}
use Rattle.vr_types.specs.Group.{primary, mail}
use Rattle.vr_types.specs.Site.{Site, Vote}
use Rattle.vr_types.specs.Step.{does, learns}
use Rattle.vr_log.specs.Running.{site_of, start_of, vote_of}
use Rattle.vr_log.proofs.OutcomeLemmas.{meets_as, err_follows, does_meets}
use Rattle.vr_change.specs.Ballot.{with_starter}
use Rattle.vr_change.proofs.Sites.{CollectsMore, kept_sound, kept_running, collected_site}
use Rattle.vr_change.proofs.Votes.{started, follow-silent, follow-votes, follow-handled}
use Rattle.vr_change.proofs.voting.follow.Goals as goal

pub returns-in_err-keep_start-clause-step : goal.returns-in_err-keep_start-clause-step
returns-in_err-keep_start-clause-step g c = λ choose start acks cell h.
    let f = c.args.config.f in
    let me = c.args.config.me in
    let r = c.args.running.now in
    let x = site_of r acks cell in
    let st = start_of c.args.start in
    let p : (primary f r.view == me) ≡ false = ne_eqb _ _ c.requires.other in
    err_follows g.M.Machine start f me _ c.from_residual.result _ c.from_residual.ensures.0
    (follow-handled choose f me x (learns st.known x) st c.args.sent.items p)

pub returns-in_err-own_vote-clause-step : goal.returns-in_err-own_vote-clause-step
returns-in_err-own_vote-clause-step g c = λ choose start acks cell h.
    let f = c.args.config.f in
    let me = c.args.config.me in
    let r = c.args.running.now in
    let x = site_of r acks cell in
    let st = start_of c.args.start in
    let p : (primary f r.view == me) ≡ false = ne_eqb _ _ c.requires.other in
    err_follows g.M.Machine start f me _ c.from_residual-in_err-own_vote.result _ c.from_residual-in_err-own_vote.ensures.0
    (follow-handled choose f me x (learns st.known x) st c.args.sent.items p)

pub returns-in_err-push-clause-step : goal.returns-in_err-push-clause-step
returns-in_err-push-clause-step g c = λ choose start acks cell h.
    let f = c.args.config.f in
    let me = c.args.config.me in
    let r = c.args.running.now in
    let x = site_of r acks cell in
    let st = start_of c.args.start in
    let p : (primary f r.view == me) ≡ false = ne_eqb _ _ c.requires.other in
    err_follows g.M.Machine start f me _ c.from_residual-in_err-push.result _ c.from_residual-in_err-push.ensures.0
    (follow-handled choose f me x (learns st.known x) st c.args.sent.items p)

pub returns-then-not-votes-clause-sound : goal.returns-then-not-votes-clause-sound
returns-then-not-votes-clause-sound g c = λ start s.
    let r = c.learn.new.running in
    let t = c.learn.ensures.sound c.args.config.f start s in
    let first = c.in_ok-keep_start.ensures in
    let k = c.keep_start.new.running in
    let more : CollectsMore r k = λ i. record (first.stays i) { starts = k.starts; voted = k.voted; votes = k.votes } in
    kept_sound g.M.Machine start c.args.config.f r k more
    (subst (λ v. OneEach (λ (vote : Vote _). vote.from) (map vote_of v.items)) (λ i. (sym first.stays i).votes) t.votes) t

pub returns-then-not-votes-clause-step : goal.returns-then-not-votes-clause-step
returns-then-not-votes-clause-step g c = λ choose start acks cell h.
    let m = g.M.Machine in
    let f = c.args.config.f in
    let me = c.args.config.me in
    let x = site_of c.args.running.now acks cell in
    let st = start_of c.args.start in
    let y : Site _ = learns st.known x in
    let r = c.learn.new.running in
    let learnt = sym (c.learn.ensures.site acks cell) in
    let t = c.learn.ensures.running start f acks h in
    let sent = c.args.sent.items in
    let p : (primary f x.view == me) ≡ false = ne_eqb _ _ c.requires.other in
    let first = c.in_ok-keep_start.ensures in
    let k = c.keep_start.new.running in
    let more : CollectsMore r k = λ i. record (first.stays i) { starts = k.starts; voted = k.voted; votes = k.votes } in
    meets_as m start f me k _ _ _
    (follow-silent choose f me x y st sent (sym (c.is_due-votes.ensures st acks cell refl) ∙ c.if-not-votes.true) p ∙ ap (λ z. does (started st z) sent) learnt)
    (does_meets m start f me k c.handled.result _ sent c.handled.ensures
    (kept_running m start f r k acks more
    (subst (λ v. OneEach (λ (vote : Vote _). vote.from) (map vote_of v.items)) (λ i. (sym first.stays i).votes) t.sound.votes) t)
    (collected_site r k acks cell (with_starter (map start_of r.starts.items) st) r.voted
    (map vote_of r.votes.items) more first.starts (ap (λ v. v.voted) first.stays) (ap (λ v. map vote_of v.votes.items) first.stays)))

pub returns-clause-sound : goal.returns-clause-sound
returns-clause-sound g c = λ start s.
    let r = c.learn.new.running in
    let t = c.learn.ensures.sound c.args.config.f start s in
    let first = c.in_ok-keep_start.ensures in
    let k = c.keep_start.new.running in
    let n = record k { voted = true } in
    let more : CollectsMore r n = λ i. record (first.stays i) { starts = k.starts; voted = true; votes = k.votes } in
    kept_sound g.M.Machine start c.args.config.f r n more
    (subst (λ v. OneEach (λ (vote : Vote _). vote.from) (map vote_of v.items)) (λ i. (sym first.stays i).votes) t.votes) t

pub returns-clause-step : goal.returns-clause-step
returns-clause-step g c = λ choose start acks cell h.
    let m = g.M.Machine in
    let f = c.args.config.f in
    let me = c.args.config.me in
    let x = site_of c.args.running.now acks cell in
    let st = start_of c.args.start in
    let y : Site _ = learns st.known x in
    let r = c.learn.new.running in
    let learnt = sym (c.learn.ensures.site acks cell) in
    let t = c.learn.ensures.running start f acks h in
    let z = site_of r acks cell in
    let sent = c.args.sent.items in
    let p : (primary f x.view == me) ≡ false = ne_eqb _ _ c.requires.other in
    let first = c.in_ok-keep_start.ensures in
    let k = c.keep_start.new.running in
    let n = record k { voted = true } in
    let more : CollectsMore r n = λ i. record (first.stays i) { starts = k.starts; voted = true; votes = k.votes } in
    let same : sends_vote f me (site_of n acks cell) ≡ sends_vote f me z =
    λ i. mail me (primary f (first.stays i).view)
    (DoViewChange (record {
      view = (first.stays i).view;
      last_normal = (first.stays i).last_normal;
      done = (first.stays i).kept.done;
      rows = (first.stays i).kept.log;
      known = (first.stays i).known;
    })) ∷ [] in
    let mails = c.in_ok-push.ensures.items ∙ ap (λ l. sent ++ l) (c.in_ok-own_vote.ensures acks cell ∙ same) in
    meets_as m start f me n _ _ _
    (follow-votes choose f me x y st sent (sym (c.is_due-votes.ensures st acks cell refl) ∙ c.if-not-votes.false) p
    ∙ ap (λ z. does (with_voted (started st z)) (sent ++ sends_vote f me z)) learnt)
    (does_meets m start f me n c.handled-2.result _ (sent ++ sends_vote f me z)
    (record { mails = c.handled-2.ensures.mails ∙ mails; dropped = c.handled-2.ensures.dropped })
    (kept_running m start f r n acks more
    (subst (λ v. OneEach (λ (vote : Vote _). vote.from) (map vote_of v.items)) (λ i. (sym first.stays i).votes) t.sound.votes) t)
    (collected_site r n acks cell (with_starter (map start_of r.starts.items) st) true
    (map vote_of r.votes.items) more first.starts refl (ap (λ v. map vote_of v.votes.items) first.stays)))
