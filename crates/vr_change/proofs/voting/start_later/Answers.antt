use Rattle.std.proofs.Common.{◌≢◌, ◌<◌, ◌≤◌, length, refl, sym, ap, ◌∙◌, subst, arith}
use Rattle.std.specs.Prelude.{Result, Ok, Err, IfOk}
use Rattle.vr_types.specs.declared.event.Status.TheVariants.{Change}
use Rattle.vr_types.specs.declared.message.MsgOf.TheVariants.{StartViewChange}
use Rattle.vr_types.specs.Group.{to_all}
use Rattle.vr_types.specs.Site.{Site, nothing, is_running}
use Rattle.vr_log.specs.Kept.{IsKept}
use Rattle.vr_log.specs.Running.{site_of}
use Rattle.vr_change.specs.Parts.{IsPart}
use Rattle.vr_change.proofs.Left.{greater_length}
use Rattle.vr_change.proofs.Sites.{gave_up_sound, changed_site}
use Rattle.vr_change.proofs.Votes.{later_same, later_starts}
use Rattle.vr_change.proofs.voting.start_later.Goals as goal

-- what follows on Ok
if_ok : {T E : Type 0} (result : Result T E) (P Q : T → Type 0) → ((value : T) → P value → Q value) → IfOk result P → IfOk result Q
if_ok (Ok value) P Q h p = h value p
if_ok (Err error) P Q h p = tt

pub returns-then-view-running-clause-part : goal.returns-then-view-running-clause-part
returns-then-view-running-clause-part g c = λ start acks cell h.
    let f = c.args.config.f in
    let x = site_of c.args.running.now acks cell in
    subst (IsPart g.M.Machine start f c.args.running.now c.new.result.items)
    (sym (later_same f c.args.config.me c.args.view c.args.told.now x c.if-view-running.true))
    (record { running = h; site = refl; sent = c.new.ensures.items })

pub returns-clause-sound : goal.returns-clause-sound
returns-clause-sound g c = λ start s.
    let m = g.M.Machine in
    let k = c.learn.new.running in
    let n = c.start_change.new.running in
    let now = c.start_change.ensures in
    let t = c.learn.ensures.sound c.args.config.f start s in
    let gave = now.nothing in
    let kept : IsKept m start n.kept = subst (IsKept m start) (sym now.kept) t.kept in
    (gave_up_sound m start c.args.config.f k n gave (ap is_running now.status) now.sites (ap length now.known) kept t).sound

pub returns-clause-part : goal.returns-clause-part
returns-clause-part g c = if_ok c.tell_change.result _ _ (λ sent told start acks cell h.
    let m = g.M.Machine in
    let f = c.args.config.f in
    let me = c.args.config.me in
    let w = c.args.view in
    let x = site_of c.args.running.now acks cell in
    let k = c.learn.new.running in
    let n = c.start_change.new.running in
    let now = c.start_change.ensures in
    let t = c.learn.ensures.running start f acks h in
    let gave = now.nothing in
    let kept : IsKept m start n.kept = subst (IsKept m start) (sym now.kept) t.sound.kept in
    let late : x.view ≤ w = c.requires.later in
    let other : w ≢ x.view = c.if-view-running.false in
    let low : x.view < w = omega arith in
    subst (IsPart m start f n sent.items) (sym (later_starts f me w c.args.told.now x low))
    (record {
      running = gave_up_sound m start f k n gave (ap is_running now.status) now.sites (ap length now.known) kept t.sound;
      site = ap (λ (y : Site _). record y { status = Change; view = w; collected = nothing }) (sym (c.learn.ensures.site acks cell))
          ∙ changed_site k n acks cell w gave now.status now.view now.last_normal now.kept now.known;
      sent = told ∙ (λ i. to_all f me (StartViewChange (record { view = now.view i; known = (now.known ∙ c.learn.ensures.known) i })));
    })) c.tell_change.ensures

pub returns-clause-known : goal.returns-clause-known
returns-clause-known g c =
    ap length (c.start_change.ensures.known ∙ c.learn.ensures.known) ∙ greater_length c.args.running.now.known c.args.told.now c.requires.known
