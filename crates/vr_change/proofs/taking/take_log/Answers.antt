use Rattle.std.proofs.Common.{◌≡◌, ◌<◌, ◌≤◌, ◌++◌, [], true, false, length, take, max, min, refl, sym, ap, ◌∙◌, subst, arith}
use Rattle.vr_types.specs.Site.{is_running}
use Rattle.vr_types.specs.Step.{begins_with_executed}
use Rattle.vr_log.specs.Kept.{IsKept}
use Rattle.vr_log.specs.Running.{IsRunning, site_of}
use Rattle.vr_log.proofs.OutcomeLemmas.{meets_as, follows_as, err_follows, drops_meets, does_meets, does_follows, on_ok}
use Rattle.vr_change.proofs.Cases.{takes_log-stale, takes_log-is, takes_log-rest, takes_log-all}
use Rattle.vr_change.proofs.Sites.{gave_up_sound, normal_site}
use Rattle.vr_change.proofs.taking.take_log.Goals as goal

pub returns-then-not-keeps_executed-clause-step : goal.returns-then-not-keeps_executed-clause-step
returns-then-not-keeps_executed-clause-step g c = λ choose start acks cell right h.
    let m = g.M.Machine in
    let f = c.args.config.f in
    let me = c.args.config.me in
    let r = c.args.running.now in
    let x = site_of r acks cell in
    let log = take c.args.base r.kept.log ++ c.args.rows in
    let begins : begins_with_executed choose.same x log ≡ false = sym (c.keeps_executed.ensures.same f choose right) ∙ c.if-not-keeps_executed.true in
    meets_as m start f me r c.dropped.result _ _ (takes_log-stale choose f me x c.args.view c.args.done log begins)
    (drops_meets m start f me r c.dropped.result acks cell _ c.dropped.ensures h)

pub advance-requires : goal.advance-requires
advance-requires g c = c.in_ok-take_rows.ensures.ready (c.keeps_executed.ensures.keeps c.if-not-keeps_executed.false) c.requires.ready

pub returns-in_err-take_rows-clause-step : goal.returns-in_err-take_rows-clause-step
returns-in_err-take_rows-clause-step g c = λ choose start acks cell right h.
    let m = g.M.Machine in
    let f = c.args.config.f in
    let me = c.args.config.me in
    let r = c.args.running.now in
    let x = site_of r acks cell in
    let log = take c.args.base r.kept.log ++ c.args.rows in
    let begins : begins_with_executed choose.same x log ≡ true = sym (c.keeps_executed.ensures.same f choose right) ∙ c.if-not-keeps_executed.false in
    err_follows m start f me _ c.from_residual.result _ c.from_residual.ensures.0
    (ap (λ s. s.ending) (takes_log-is choose f me x c.args.view c.args.done log _ begins refl))

pub returns-in_err-advance-clause-step : goal.returns-in_err-advance-clause-step
returns-in_err-advance-clause-step g c = λ choose start acks cell right h.
    let m = g.M.Machine in
    let f = c.args.config.f in
    let me = c.args.config.me in
    let r = c.args.running.now in
    let x = site_of r acks cell in
    let log = take c.args.base r.kept.log ++ c.args.rows in
    let begins : begins_with_executed choose.same x log ≡ true = sym (c.keeps_executed.ensures.same f choose right) ∙ c.if-not-keeps_executed.false in
    err_follows m start f me _ c.from_residual-in_err-advance.result _ c.from_residual-in_err-advance.ensures.0
    (ap (λ s. s.ending) (takes_log-is choose f me x c.args.view c.args.done log _ begins refl))

pub returns-then-running-len-clause-step : goal.returns-then-running-len-clause-step
returns-then-running-len-clause-step g c = λ choose start acks cell right h.
    let m = g.M.Machine in
    let f = c.args.config.f in
    let me = c.args.config.me in
    let r = c.args.running.now in
    let x = site_of r acks cell in
    let n = c.be_normal.new.running in
    let log = take c.args.base r.kept.log ++ c.args.rows in
    let took = c.in_ok-take_rows.ensures in
    let ran = c.in_ok-advance.ensures in
    let now = c.be_normal.ensures in
    let keeps = c.keeps_executed.ensures.keeps c.if-not-keeps_executed.false in
    let begins : begins_with_executed choose.same x log ≡ true = sym (c.keeps_executed.ensures.same f choose right) ∙ c.if-not-keeps_executed.false in
    let gave = now.nothing in
    let rows : n.kept.log ≡ log = ap (λ k. k.log) now.kept ∙ ran.log ∙ took.log in
    let count : length n.kept.log ≡ length log = ap (λ l. length l) rows in
    let done : n.kept.done ≡ max r.kept.done (min c.args.done (length log)) =
    ap (λ k. k.done) now.kept ∙ ran.done ∙ ap (λ d. max d (min c.args.done (length c.take_rows.new.self.log))) c.take_rows.ensures.done
    ∙ ap (λ l. max r.kept.done (min c.args.done (length l))) took.log in
    let kept : IsKept m start n.kept = subst (IsKept m start) (sym now.kept) (ran.kept start (took.kept start keeps h.sound.kept)) in
    let runs : IsRunning m start f n [] = gave_up_sound m start f r n gave (ap is_running now.status) now.sites (ap length now.known) kept h.sound in
    let site =
    normal_site n cell c.args.view (max r.kept.done (min c.args.done (length log))) log r.known gave now.status now.view
    now.last_normal rows done now.known in
    let left : max r.kept.done (min c.args.done (length log)) < length log = omega (arith, c.len-len.ensures.length, c.if-running-len.true, count, done) in
    follows_as m start f me n c.acknowledge_log.result _ _ (takes_log-rest choose f me x c.args.view c.args.done log begins left)
    (does_follows m start f me n c.acknowledge_log.result _ _ (rw (c.len-len.ensures.length, rows) at c.acknowledge_log.ensures) runs site)

pub returns-else-running-len-clause-step : goal.returns-else-running-len-clause-step
returns-else-running-len-clause-step g c = λ choose start acks cell right h.
    let m = g.M.Machine in
    let f = c.args.config.f in
    let me = c.args.config.me in
    let r = c.args.running.now in
    let x = site_of r acks cell in
    let n = c.be_normal.new.running in
    let log = take c.args.base r.kept.log ++ c.args.rows in
    let took = c.in_ok-take_rows.ensures in
    let ran = c.in_ok-advance.ensures in
    let now = c.be_normal.ensures in
    let keeps = c.keeps_executed.ensures.keeps c.if-not-keeps_executed.false in
    let begins : begins_with_executed choose.same x log ≡ true = sym (c.keeps_executed.ensures.same f choose right) ∙ c.if-not-keeps_executed.false in
    let gave = now.nothing in
    let rows : n.kept.log ≡ log = ap (λ k. k.log) now.kept ∙ ran.log ∙ took.log in
    let count : length n.kept.log ≡ length log = ap (λ l. length l) rows in
    let done : n.kept.done ≡ max r.kept.done (min c.args.done (length log)) =
    ap (λ k. k.done) now.kept ∙ ran.done ∙ ap (λ d. max d (min c.args.done (length c.take_rows.new.self.log))) c.take_rows.ensures.done
    ∙ ap (λ l. max r.kept.done (min c.args.done (length l))) took.log in
    let kept : IsKept m start n.kept = subst (IsKept m start) (sym now.kept) (ran.kept start (took.kept start keeps h.sound.kept)) in
    let runs : IsRunning m start f n [] = gave_up_sound m start f r n gave (ap is_running now.status) now.sites (ap length now.known) kept h.sound in
    let site =
    normal_site n cell c.args.view (max r.kept.done (min c.args.done (length log))) log r.known gave now.status now.view
    now.last_normal rows done now.known in
    let all : length log ≤ max r.kept.done (min c.args.done (length log)) = omega (arith, c.len-len.ensures.length, c.if-running-len.false, count, done) in
    meets_as m start f me n c.silent.result _ _ (takes_log-all choose f me x c.args.view c.args.done log begins all)
    (does_meets m start f me n c.silent.result _ [] c.silent.ensures runs site)

pub returns-then-running-len-clause-sound : goal.returns-then-running-len-clause-sound
returns-then-running-len-clause-sound g c =
    let m = g.M.Machine in
    let f = c.args.config.f in
    let r = c.args.running.now in
    let n = c.be_normal.new.running in
    let now = c.be_normal.ensures in
    let keeps = c.keeps_executed.ensures.keeps c.if-not-keeps_executed.false in
    let gave = now.nothing in
    let kept : (start : _) → IsKept m start r.kept → IsKept m start n.kept =
    λ start was. subst (IsKept m start) (sym now.kept) (c.in_ok-advance.ensures.kept start (c.in_ok-take_rows.ensures.kept start keeps was)) in
    on_ok c.acknowledge_log.result _
    (λ start s. (gave_up_sound m start f r n gave (ap is_running now.status) now.sites (ap length now.known) (kept start s.kept) s).sound)

pub returns-else-running-len-clause-sound : goal.returns-else-running-len-clause-sound
returns-else-running-len-clause-sound g c =
    let m = g.M.Machine in
    let f = c.args.config.f in
    let r = c.args.running.now in
    let n = c.be_normal.new.running in
    let now = c.be_normal.ensures in
    let keeps = c.keeps_executed.ensures.keeps c.if-not-keeps_executed.false in
    let gave = now.nothing in
    let kept : (start : _) → IsKept m start r.kept → IsKept m start n.kept =
    λ start was. subst (IsKept m start) (sym now.kept) (c.in_ok-advance.ensures.kept start (c.in_ok-take_rows.ensures.kept start keeps was)) in
    (λ start s. (gave_up_sound m start f r n gave (ap is_running now.status) now.sites (ap length now.known) (kept start s.kept) s).sound)
