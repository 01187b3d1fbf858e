use Rattle.std.proofs.Common.{◌≡◌, true, false, true≢false, refl, sym, ap, ◌∙◌}
use Rattle.vr_types.specs.declared.event.Status.{Status}
use Rattle.vr_types.specs.declared.event.Status.TheVariants.{Normal, Change, Recovering, Down}
use Rattle.vr_types.specs.Handling.{on_beat}
use Rattle.vr_types.specs.Site.{is_change, is_running}
use Rattle.vr_log.specs.Running.{site_of}
use Rattle.vr_log.proofs.OutcomeLemmas.{follows_as}
use Rattle.vr_site.proofs.serving.beat.Goals as goal

changes : (s : Status) → is_change s ≡ true → s ≡ Change
changes Normal e = absurd (true≢false (sym e))
changes Change e = refl
changes Recovering e = absurd (true≢false (sym e))
changes Down e = absurd (true≢false (sym e))

is_at_rest : (s : Status) → is_change s ≡ false → is_running s ≡ true → s ≡ Normal
is_at_rest Normal e up = refl
is_at_rest Change e up = absurd (true≢false e)
is_at_rest Recovering e up = absurd (true≢false (sym up))
is_at_rest Down e up = absurd (true≢false (sym up))

pub returns-then-changes_view : goal.returns-then-changes_view
returns-then-changes_view g c = λ start acks cell h.
    let f = c.args.config.f in
    let me = c.args.config.me in
    let r = c.args.running.now in
    follows_as g.M.Machine start f me r c.beat_in_change.result _ _
    (ap (on_beat f me (site_of r acks cell)) (changes r.status (sym c.changes_view.ensures ∙ c.if-changes_view.true)))
    (c.beat_in_change.ensures start acks cell h)

pub returns-else-changes_view : goal.returns-else-changes_view
returns-else-changes_view g c = λ start acks cell h.
    let f = c.args.config.f in
    let me = c.args.config.me in
    let r = c.args.running.now in
    follows_as g.M.Machine start f me r c.beat.result _ _
    (ap (on_beat f me (site_of r acks cell)) (is_at_rest r.status (sym c.changes_view.ensures ∙ c.if-changes_view.false) h.sound.up))
    (c.beat.ensures start acks cell h)
