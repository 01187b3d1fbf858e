use Rattle.std.proofs.Common.{◌≡◌, ◌==◌, ◌&&◌, ◌++◌, ◌∷◌, [], Bool, true, false, not, refl, sym, ap, ◌∙◌, eq-eqb}
use Rattle.std.proofs.lemmas.Bool.{ne_eqb}
use Rattle.vr_types.specs.declared.message.MsgOf.TheVariants.{StartViewChange}
use Rattle.vr_types.specs.Group.{primary, to_all}
use Rattle.vr_log.specs.Running.{site_of}
use Rattle.vr_log.proofs.OutcomeLemmas.{err_follows, meets_as, does_meets}
use Rattle.vr_change.proofs.Cases.{beats_in_change-is, beats_in_change-votes, beats_in_change-silent}
use Rattle.vr_change.proofs.change.beat_in_change.Goals as goal
use Rattle.vr_change.proofs.change.beat_in_change.Goals.{then-running+then-primary_of-config+in_ok-own_vote+in_ok-push, else-running, else-running-via-then-running+else-primary_of-config, else-running-via-else-running}

pub returns-in_err-sent : goal.returns-in_err-sent
returns-in_err-sent g c = λ start acks cell h.
    let r = c.args.running.now in
    err_follows g.M.Machine start c.args.config.f c.args.config.me _ c.from_residual.result _ c.from_residual.ensures.0
    (ap (λ s. s.ending) (beats_in_change-is c.args.config.f c.args.config.me (site_of r acks cell) _ refl))

pub returns-in_err-own_vote : goal.returns-in_err-own_vote
returns-in_err-own_vote g c = λ start acks cell h.
    let r = c.args.running.now in
    err_follows g.M.Machine start c.args.config.f c.args.config.me _ c.from_residual-in_err-own_vote.result _ c.from_residual-in_err-own_vote.ensures.0
    (ap (λ s. s.ending) (beats_in_change-is c.args.config.f c.args.config.me (site_of r acks cell) _ refl))

pub returns-in_err-push : goal.returns-in_err-push
returns-in_err-push g c = λ start acks cell h.
    let r = c.args.running.now in
    err_follows g.M.Machine start c.args.config.f c.args.config.me _ c.from_residual-in_err-push.result _ c.from_residual-in_err-push.ensures.0
    (ap (λ s. s.ending) (beats_in_change-is c.args.config.f c.args.config.me (site_of r acks cell) _ refl))

both_fail : (a b : Bool) → b ≡ true → (a && not b) ≡ false
both_fail true b e = ap not e
both_fail false b e = refl

pub returns : goal.returns
returns g c = λ start acks cell h.
    let m = g.M.Machine in
    let f = c.args.config.f in
    let me = c.args.config.me in
    let r = c.args.running.now in
    let x = site_of r acks cell in
    let told = to_all f me (StartViewChange (record { view = r.view; known = r.known })) in
    elim c.if-running.branch [
      | then-running+then-primary_of-config+in_ok-own_vote+in_ok-push w ↦
          let p : (primary f r.view == me) ≡ false = ne_eqb _ _ (λ same. w.if-primary_of-config.true (w.primary_of.ensures.site ∙ same)) in
          meets_as m start f me r _ _ _ (beats_in_change-votes f me x w.if-running.true p)
          (does_meets m start f me r _ x _ (record {
            mails =
                ap (λ v. v.items) w.sent-is ∙ w.in_ok-push.ensures.items ∙ ap (λ l. l ++ w.in_ok-own_vote.field-0 ∷ []) c.in_ok-sent.ensures
                ∙ ap (λ l. told ++ l) (w.in_ok-own_vote.ensures acks cell);
            dropped = refl;
          }) h refl)
      | else-running w ↦
          let silent : (r.voted && not (primary f r.view == me)) ≡ false = elim w.else-running.branch [
            | else-running-via-then-running+else-primary_of-config v ↦ both_fail r.voted (primary f r.view == me)
                (eq-eqb _ _ (sym v.primary_of.ensures.site ∙ v.if-primary_of-config.false))
            | else-running-via-else-running v ↦ ap (λ b. b && not (primary f r.view == me)) v.if-running.false
          ] in
          meets_as m start f me r _ _ _ (beats_in_change-silent f me x silent)
          (does_meets m start f me r _ x told (record { mails = ap (λ v. v.items) w.sent-is ∙ c.in_ok-sent.ensures; dropped = refl }) h refl)
    ]
