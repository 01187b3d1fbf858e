use Rattle.std.proofs.Common.{◌≡◌, [], ◌++◌, length, map, refl, sym, ap, ◌∙◌, subst}
use Rattle.std.specs.List.{filter_map}
use Rattle.vr_types.specs.declared.message.MsgOf.TheVariants.{StartView}
use Rattle.vr_types.specs.Group.{to_all}
use Rattle.vr_types.specs.Site.{Site, is_running}
use Rattle.vr_types.specs.Step.{greater, learns, places_between}
use Rattle.vr_log.specs.Kept.{IsKept, answer_to, reply_mail}
use Rattle.vr_log.specs.Running.{IsRunning, site_of}
use Rattle.vr_change.proofs.Openings.{opened_meets, done_in_all}
use Rattle.vr_change.proofs.Sites.{gave_up_sound, normal_site}
use Rattle.vr_change.proofs.Left.{greater_length}
use Rattle.vr_change.proofs.opening.open.Goals as goal

pub returns-clause-step : goal.returns-clause-step
returns-clause-step g c = λ start acks cell h.
    let m = g.M.Machine in
    let f = c.args.config.f in
    let me = c.args.config.me in
    let r = c.args.running.now in
    let told = c.args.told.now in
    let x : Site _ = learns told (site_of r acks cell) in
    let n = c.be_normal.new.running in
    let log = r.kept.log in
    let ran = c.in_ok-answers.ensures in
    let now = c.be_normal.ensures in
    let d = done_in_all x c.args.done log in
    let long : length n.known ≡ length r.known = ap length (now.known ∙ c.learn.ensures) ∙ greater_length r.known told c.requires.known in
    let gave = now.nothing in
    let rows : n.kept.log ≡ log = ap (λ k. k.log) now.kept ∙ ran.log in
    let done : n.kept.done ≡ d = ap (λ k. k.done) now.kept ∙ ran.done in
    let kept : IsKept m start n.kept = subst (IsKept m start) (sym now.kept) (ran.kept start h.sound.kept) in
    let runs : IsRunning m start f n [] = gave_up_sound m start f r n gave (ap is_running now.status) now.sites long kept h.sound in
    let said = c.args.sent.items ++ to_all f me (StartView (record { view = r.view; done = d; rows = log })) in
    let tells : c.tell_view.new.sent.items ≡ said = rw (now.view, done, rows) at c.in_ok-tell_view.ensures in
    let answers = ran.answers start h.sound.kept ∙ ap (λ e. filter_map (answer_to m start log) (places_between r.kept.done e)) ran.done in
    opened_meets m start f me n _ x log c.args.done c.args.sent.items refl
    (c.in_ok-send_replies.ensures ∙ ap (λ l. l ++ map (reply_mail me r.view) c.as_slice.result.now) tells
    ∙ ap (λ a. said ++ map (reply_mail me r.view) a) (c.as_slice.ensures.value ∙ answers))
    runs (normal_site n cell r.view d log (greater r.known told) gave now.status now.view now.last_normal rows done (now.known ∙ c.learn.ensures))

pub returns-clause-sound : goal.returns-clause-sound
returns-clause-sound g c = λ start s.
    let m = g.M.Machine in
    let r = c.args.running.now in
    let n = c.be_normal.new.running in
    let now = c.be_normal.ensures in
    let told = c.args.told.now in
    let long : length n.known ≡ length r.known = ap length (now.known ∙ c.learn.ensures) ∙ greater_length r.known told c.requires.known in
    let gave = now.nothing in
    let kept : IsKept m start n.kept = subst (IsKept m start) (sym now.kept) (c.in_ok-answers.ensures.kept start s.kept) in
    (gave_up_sound m start c.args.config.f r n gave (ap is_running now.status) now.sites long kept s).sound
