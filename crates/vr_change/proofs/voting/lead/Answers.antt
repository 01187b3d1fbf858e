use Rattle.std.proofs.Common.{◌≡◌, ◌==◌, ◌++◌, ◌∷◌, [], ◌⊎◌, inl, inr, true, false, map, count_by, nat_lt, if◌then◌else◌, refl, sym, ap, ◌∙◌, eq-eqb}
use Rattle.vr_types.specs.Change.{own_vote}
use Rattle.vr_types.specs.Group.{primary, sites}
use Rattle.vr_types.specs.Site.{Site, has_vote, is_change}
use Rattle.vr_types.specs.Step.{learns}
use Rattle.vr_log.specs.Running.{site_of, start_of, vote_of}
use Rattle.vr_log.proofs.OutcomeLemmas.{follows_as}
use Rattle.vr_change.specs.Ballot.{with_ballot, votes_left}
use Rattle.vr_change.specs.Parts.{gathered, opens_with}
use Rattle.vr_change.proofs.Votes.{lead-is, opens-not, opens-col, opens-now, not_open-own, not_open-few, ballot_whole, count_ballot, has_own_ballot, with_ballot-kept, with_ballot-new, changes}
use Rattle.vr_change.proofs.voting.lead.Goals as goal
use Rattle.vr_change.proofs.voting.lead.Goals.{else-not-votes-via-then-not-votes+else-not-has_own, else-not-votes-via-else-not-votes}

pub returns-then-not-has_own-clause-step : goal.returns-then-not-has_own-clause-step
returns-then-not-has_own-clause-step g c = λ choose start acks cell right h.
    let m = g.M.Machine in
    let f = c.args.config.f in
    let me = c.args.config.me in
    let r = c.args.running.now in
    let x = site_of r acks cell in
    let st = start_of c.args.start in
    let y : Site _ = learns st.known x in
    let sent = c.args.sent.items in
    let vs = votes_left r.known st.known (map vote_of r.votes.items) in
    let p : (primary f r.view == me) ≡ true = eq-eqb _ _ c.requires.mine in
    let own = own_vote me y in
    let votes = c.is_due-votes.result in
    let z = gathered votes me st y in
    let due = sym (c.is_due-votes.ensures st acks cell refl) in
    let has : has_vote vs me ≡ false = sym c.has_vote_left-has_own.ensures ∙ c.if-not-has_own.true in
    let none : has_vote z.collected.votes me ≡ false = ap (λ b. has_vote (if b then with_ballot vs own else vs) me) c.if-not-votes.true ∙ has in
    follows_as m start f me _ c.wait.result _ _ (lead-is choose f me x y st sent votes due p
    ∙ opens-not choose f me x y (record { site = z; sent = sent }) (not_open-own f me z none))
    (c.wait.ensures.step start acks cell h)

pub returns-then-not-enough_voted-clause-step : goal.returns-then-not-enough_voted-clause-step
returns-then-not-enough_voted-clause-step g c = λ choose start acks cell right h.
    let m = g.M.Machine in
    let f = c.args.config.f in
    let me = c.args.config.me in
    let r = c.args.running.now in
    let x = site_of r acks cell in
    let st = start_of c.args.start in
    let y : Site _ = learns st.known x in
    let sent = c.args.sent.items in
    let vs = votes_left r.known st.known (map vote_of r.votes.items) in
    let p : (primary f r.view == me) ≡ true = eq-eqb _ _ c.requires.mine in
    let own = own_vote me y in
    let votes = c.is_due-votes.result in
    let z = gathered votes me st y in
    let due = sym (c.is_due-votes.ensures st acks cell refl) in
    let either : (votes ≡ true) ⊎ (has_vote vs me ≡ true) = elim c.else-not-votes.branch [
      | else-not-votes-via-then-not-votes+else-not-has_own w ↦ inr (sym c.has_vote_left-has_own.ensures ∙ w.if-not-has_own.false)
      | else-not-votes-via-else-not-votes w ↦ inl w.if-not-votes.false
    ] in
    let whole : z.collected.votes ≡ with_ballot vs own = ballot_whole vs own votes either in
    let count : nat_lt f (count_by (has_vote z.collected.votes) (sites f)) ≡ false =
    ap (λ l. nat_lt f (count_by (has_vote l) (sites f))) whole ∙ ap (nat_lt f) (count_ballot f vs own) ∙ sym c.enough_voted.ensures
    ∙ c.if-not-enough_voted.true in
    follows_as m start f me _ c.wait-then-not-enough_voted.result _ _
    (lead-is choose f me x y st sent votes due p ∙ opens-not choose f me x y (record { site = z; sent = sent }) (not_open-few f me z count))
    (c.wait-then-not-enough_voted.ensures.step start acks cell h)

pub returns-then-has_own-clause-step : goal.returns-then-has_own-clause-step
returns-then-has_own-clause-step g c = λ choose start acks cell right h.
    let m = g.M.Machine in
    let f = c.args.config.f in
    let me = c.args.config.me in
    let r = c.args.running.now in
    let x = site_of r acks cell in
    let st = start_of c.args.start in
    let y : Site _ = learns st.known x in
    let sent = c.args.sent.items in
    let vs = votes_left r.known st.known (map vote_of r.votes.items) in
    let p : (primary f r.view == me) ≡ true = eq-eqb _ _ c.requires.mine in
    let own = own_vote me y in
    let votes = c.is_due-votes.result in
    let z = gathered votes me st y in
    let due = sym (c.is_due-votes.ensures st acks cell refl) in
    let either : (votes ≡ true) ⊎ (has_vote vs me ≡ true) = elim c.else-not-votes.branch [
      | else-not-votes-via-then-not-votes+else-not-has_own w ↦ inr (sym c.has_vote_left-has_own.ensures ∙ w.if-not-has_own.false)
      | else-not-votes-via-else-not-votes w ↦ inl w.if-not-votes.false
    ] in
    let whole : z.collected.votes ≡ with_ballot vs own = ballot_whole vs own votes either in
    let count : nat_lt f (count_by (has_vote z.collected.votes) (sites f)) ≡ true =
    ap (λ l. nat_lt f (count_by (has_vote l) (sites f))) whole ∙ ap (nat_lt f) (count_ballot f vs own) ∙ sym c.enough_voted.ensures
    ∙ c.if-not-enough_voted.false in
    let change : is_change r.status ≡ true = changes r.status h.sound.up c.requires.change in
    let opened = opens-now f me z change p (ap (λ l. has_vote l me) whole ∙ has_own_ballot vs own me refl) count in
    let has : has_vote vs me ≡ true = sym c.has_vote_left-has_own.ensures ∙ c.if-has_own.true in
    let ballot : z.collected.votes ≡ vs = whole ∙ with_ballot-kept vs own has in
    follows_as m start f me _ c.open_with_kept.result _ _
    (lead-is choose f me x y st sent votes due p ∙ opens-col choose f me x y z.collected sent opened
    ∙ ap (λ l. opens_with choose f me x y sent (choose.pick l).log (choose.most_done l)) ballot)
    (c.open_with_kept.ensures.step choose start acks cell right h)

pub returns-else-has_own-clause-step : goal.returns-else-has_own-clause-step
returns-else-has_own-clause-step g c = λ choose start acks cell right h.
    let m = g.M.Machine in
    let f = c.args.config.f in
    let me = c.args.config.me in
    let r = c.args.running.now in
    let x = site_of r acks cell in
    let st = start_of c.args.start in
    let y : Site _ = learns st.known x in
    let sent = c.args.sent.items in
    let vs = votes_left r.known st.known (map vote_of r.votes.items) in
    let p : (primary f r.view == me) ≡ true = eq-eqb _ _ c.requires.mine in
    let own = own_vote me y in
    let votes = c.is_due-votes.result in
    let z = gathered votes me st y in
    let due = sym (c.is_due-votes.ensures st acks cell refl) in
    let either : (votes ≡ true) ⊎ (has_vote vs me ≡ true) = elim c.else-not-votes.branch [
      | else-not-votes-via-then-not-votes+else-not-has_own w ↦ inr (sym c.has_vote_left-has_own.ensures ∙ w.if-not-has_own.false)
      | else-not-votes-via-else-not-votes w ↦ inl w.if-not-votes.false
    ] in
    let whole : z.collected.votes ≡ with_ballot vs own = ballot_whole vs own votes either in
    let count : nat_lt f (count_by (has_vote z.collected.votes) (sites f)) ≡ true =
    ap (λ l. nat_lt f (count_by (has_vote l) (sites f))) whole ∙ ap (nat_lt f) (count_ballot f vs own) ∙ sym c.enough_voted.ensures
    ∙ c.if-not-enough_voted.false in
    let change : is_change r.status ≡ true = changes r.status h.sound.up c.requires.change in
    let opened = opens-now f me z change p (ap (λ l. has_vote l me) whole ∙ has_own_ballot vs own me refl) count in
    let has : has_vote vs me ≡ false = sym c.has_vote_left-has_own.ensures ∙ c.if-has_own.false in
    let ballot : z.collected.votes ≡ vs ++ own ∷ [] = whole ∙ with_ballot-new vs own has in
    follows_as m start f me _ c.open_with_own.result _ _
    (lead-is choose f me x y st sent votes due p ∙ opens-col choose f me x y z.collected sent opened
    ∙ ap (λ l. opens_with choose f me x y sent (choose.pick l).log (choose.most_done l)) ballot)
    (c.open_with_own.ensures.step choose start acks cell right h)
