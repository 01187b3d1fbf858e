use Rattle.std.proofs.Common.{◌≡◌, ◌++◌, ◌∷◌, [], true, false, map, refl, sym, ap, ◌∙◌, subst}
use Rattle.std.proofs.lemmas.List.{map-append}
use Rattle.vr_types.specs.Choice.{OneEach}
use Rattle.vr_types.specs.Site.{has_vote}
use Rattle.vr_types.specs.Change.{with_vote}
use Rattle.vr_types.specs.Step.{does}
use Rattle.vr_log.specs.Running.{site_of, start_of, vote_of}
use Rattle.vr_log.proofs.OutcomeLemmas.{meets_as, does_meets}
use Rattle.vr_change.proofs.Ballots.{one_each-more}
use Rattle.vr_change.proofs.Sites.{kept_sound, kept_running, collected_site}
use Rattle.vr_change.proofs.Votes.{with_vote-is, with_ballot-kept, with_ballot-new}
use Rattle.vr_change.proofs.voting.keep_vote.Goals as goal

pub returns-then-has_voted-clause-step : goal.returns-then-has_voted-clause-step
returns-then-has_voted-clause-step g c = λ config start acks cell h.
    let f = config.f in
    let me = config.me in
    let m = g.M.Machine in
    let r = c.learn.new.running in
    let x = site_of r acks cell in
    let sent = c.args.sent.items in
    let vs = map vote_of r.votes.items in
    let vote = vote_of c.args.vote in
    let has : has_vote vs vote.from ≡ true =
    ap (λ l. has_vote (map vote_of l) vote.from) (sym c.as_slice.ensures.value) ∙ sym c.has_voted.ensures ∙ c.if-has_voted.true in
    meets_as m start f me r _ _ _ (ap (λ y. does (with_vote vote y) sent) (sym (c.learn.ensures.site acks cell))
    ∙ ap (λ y. does y sent) (with_vote-is vote x ∙ ap (λ l. record x { collected = record (x.collected) { votes = l } }) (with_ballot-kept vs vote has)))
    (does_meets m start f me r c.handled.result x sent c.handled.ensures (c.learn.ensures.running start f acks h) refl)

pub returns-clause-sound : goal.returns-clause-sound
returns-clause-sound g c = λ f start s.
    let r = c.learn.new.running in
    let vs = map vote_of r.votes.items in
    let vote = vote_of c.args.vote in
    let has : has_vote vs vote.from ≡ false =
    ap (λ l. has_vote (map vote_of l) vote.from) (sym c.as_slice.ensures.value) ∙ sym c.has_voted.ensures ∙ c.if-has_voted.false in
    let more : map vote_of c.push.new.self.items ≡ vs ++ vote ∷ [] =
    ap (map vote_of) c.in_ok-push.ensures.items ∙ map-append vote_of r.votes.items (c.args.vote ∷ []) in
    let t = c.learn.ensures.sound f start s in
    kept_sound g.M.Machine start f r _ refl (subst (OneEach (λ v. v.from)) (sym more) (one_each-more vs vote t.votes has)) t

pub returns-clause-step : goal.returns-clause-step
returns-clause-step g c = λ config start acks cell h.
    let f = config.f in
    let me = config.me in
    let m = g.M.Machine in
    let r = c.learn.new.running in
    let x = site_of r acks cell in
    let sent = c.args.sent.items in
    let vs = map vote_of r.votes.items in
    let vote = vote_of c.args.vote in
    let has : has_vote vs vote.from ≡ false =
    ap (λ l. has_vote (map vote_of l) vote.from) (sym c.as_slice.ensures.value) ∙ sym c.has_voted.ensures ∙ c.if-has_voted.false in
    let more : map vote_of c.push.new.self.items ≡ vs ++ vote ∷ [] =
    ap (map vote_of) c.in_ok-push.ensures.items ∙ map-append vote_of r.votes.items (c.args.vote ∷ []) in
    let k = c.learn.ensures.running start f acks h in
    let n = record r { votes = c.push.new.self } in
    meets_as m start f me n _ _ _ (ap (λ y. does (with_vote vote y) sent) (sym (c.learn.ensures.site acks cell))
    ∙ ap (λ y. does y sent) (with_vote-is vote x ∙ ap (λ l. record x { collected = record (x.collected) { votes = l } }) (with_ballot-new vs vote has)))
    (does_meets m start f me n c.handled-2.result _ sent c.handled-2.ensures
    (kept_running m start f r n acks refl (subst (OneEach (λ v. v.from)) (sym more) (one_each-more vs vote k.sound.votes has)) k)
    (collected_site r n acks cell (map start_of r.starts.items) r.voted (vs ++ vote ∷ []) refl refl refl more))
