use Rattle.std.proofs.Common.{◌≢◌, ◌++◌, ◌∷◌, [], sym, ◌∙◌, length, refl}
use Rattle.vr_types.specs.Normal.{with_row}
use Rattle.vr_log.specs.Running.{site_of}
use Rattle.vr_log.proofs.OutcomeLemmas.{meets_as, drops_meets, does_meets, same_site}
use Rattle.vr_normal.proofs.Cases.{appends-full, appends-room}
use Rattle.vr_normal.proofs.primary.append.Goals as goal
use Rattle.vr_types.specs.declared.limits.TheConstants.{MAX_ROWS}

pub returns-then-place-eq-MAX_ROWS-clause-step : goal.returns-then-place-eq-MAX_ROWS-clause-step
returns-then-place-eq-MAX_ROWS-clause-step g c = λ start acks cell h.
    let r = c.args.running.now in
    let f = c.args.config.f in
    let me = c.args.config.me in
    meets_as g.M.Machine start f me r c.dropped.result _ _
    (appends-full f me (site_of r acks cell) c.args.row (sym c.len-place.ensures.length ∙ c.if-place-eq-MAX_ROWS.true))
    (drops_meets g.M.Machine start f me r c.dropped.result acks cell _ c.dropped.ensures h)

pub returns-clause-sound : goal.returns-clause-sound
returns-clause-sound g c = λ start s. record { kept = c.in_ok-append.ensures.kept start s.kept; sites = s.sites; known = s.known; up = s.up; votes = s.votes }

pub returns-clause-step : goal.returns-clause-step
returns-clause-step g c = λ start acks cell h.
    let m = g.M.Machine in
    let r = c.args.running.now in
    let f = c.args.config.f in
    let me = c.args.config.me in
    let x = site_of r acks cell in
    let room : length r.kept.log ≢ MAX_ROWS = λ e. c.if-place-eq-MAX_ROWS.false (c.len-place.ensures.length ∙ e) in
    meets_as m start f me _ _ _ _ (appends-room f me x c.args.row room)
    (does_meets m start f me _ _ (with_row c.args.row x) _
    (record { mails = rw c.len-place.ensures.length at c.in_ok-sent.ensures; dropped = refl })
    (record {
      sound = record {
        kept = c.in_ok-append.ensures.kept start h.sound.kept;
        sites = h.sound.sites;
        known = h.sound.known;
        up = h.sound.up;
        votes = h.sound.votes;
      };
      summed = h.summed;
    })
    (same_site x (r.kept.log ++ c.args.row ∷ []) _ r.kept.done _ (sym c.in_ok-append.ensures.log) (sym c.append.ensures.done)))
