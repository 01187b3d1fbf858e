use Rattle.std.proofs.Common.{◌≡◌, ◌≢◌, ◌∷◌, [], take, sym, ◌∙◌, refl}
use Rattle.vr_types.specs.Rows.{newest, last_of}
use Rattle.vr_log.specs.Running.{site_of}
use Rattle.vr_log.proofs.OutcomeLemmas.{meets_as, follows_as, drops_meets, answers_follows}
use Rattle.vr_normal.proofs.Again.{again-none, again-other, again-older, again-same, again_mails}
use Rattle.vr_normal.proofs.primary.answer_again.Goals as goal

pub returns-in_default : goal.returns-in_default
returns-in_default g c = λ start acks cell h.
    let m = g.M.Machine in
    let f = c.args.config.f in
    let me = c.args.config.me in
    let r = c.args.running.now in
    let x = site_of r acks cell in
    let said = sym (h.sound.kept.replies c.args.client) ∙ sym c.reply.ensures in
    meets_as m start f me r c.dropped.result _ _ (again-none m start x c.args.number _ _ (said ∙ c.in_default.is))
    (drops_meets m start f me r c.dropped.result acks cell _ c.dropped.ensures h)

pub returns-then-number-newest : goal.returns-then-number-newest
returns-then-number-newest g c = λ start acks cell h.
    let m = g.M.Machine in
    let f = c.args.config.f in
    let me = c.args.config.me in
    let r = c.args.running.now in
    let x = site_of r acks cell in
    let d = c.dropped-then-number-newest in
    let other : c.args.number ≢ newest r.kept.log c.args.client =
    λ e. c.if-number-newest.true (e ∙ sym (h.sound.kept.newest c.args.client) ∙ sym c.newest.ensures) in
    meets_as m start f me r d.result _ _ (again-other m start x c.args.number (newest r.kept.log c.args.client)
    (last_of (take r.kept.done r.kept.log) c.args.client) other)
    (drops_meets m start f me r d.result acks cell _ d.ensures h)

pub returns-then-last-number : goal.returns-then-last-number
returns-then-last-number g c = λ start acks cell h.
    let m = g.M.Machine in
    let f = c.args.config.f in
    let me = c.args.config.me in
    let r = c.args.running.now in
    let x = site_of r acks cell in
    let d = c.dropped-then-last-number in
    let said = sym (h.sound.kept.replies c.args.client) ∙ sym c.reply.ensures in
    let same : c.args.number ≡ newest r.kept.log c.args.client = c.if-number-newest.false ∙ c.newest.ensures ∙ h.sound.kept.newest c.args.client in
    meets_as m start f me r d.result _ _ (again-older m start x c.args.number _ _ c.in-Some.last (said ∙ c.in-Some.is) same c.if-last-number.true)
    (drops_meets m start f me r d.result acks cell _ d.ensures h)

pub returns : goal.returns
returns g c = λ start acks cell h.
    let m = g.M.Machine in
    let f = c.args.config.f in
    let me = c.args.config.me in
    let r = c.args.running.now in
    let x = site_of r acks cell in
    let said = sym (h.sound.kept.replies c.args.client) ∙ sym c.reply.ensures in
    let same : c.args.number ≡ newest r.kept.log c.args.client = c.if-number-newest.false ∙ c.newest.ensures ∙ h.sound.kept.newest c.args.client in
    let again = again-same m start x c.args.number _ c.args.client _ c.in-Some.last refl (said ∙ c.in-Some.is) same c.if-last-number.false in
    follows_as m start f me r c.sends_one.result _ _ again.step
    (answers_follows m start f me r c.sends_one.result x (again.place ∷ [])
    (again_mails m start x me r.view c.args.number c.args.client again.place c.in-Some.last c.mail_to_client.result c.sends_one.result c.mail_to_client.ensures
    c.if-last-number.false again.answer c.sends_one.ensures) h refl)
