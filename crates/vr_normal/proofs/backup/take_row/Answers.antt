use Rattle.std.proofs.Common.{◌+◌, ◌≤◌, ◌<◌, ◌==◌, ◌++◌, ◌∷◌, [], sym, ◌∙◌, ap, arith, max, min, length, if◌then◌else◌}
use Rattle.vr_log.specs.Running.{site_of}
use Rattle.vr_log.proofs.OutcomeLemmas.{follows_as, does_follows, on_ok, same_site}
use Rattle.vr_normal.proofs.Cases.{prepared, prepares-missing, prepares-enough}
use Rattle.vr_normal.proofs.backup.take_row.Goals as goal

pub returns-then-len-msg-clause-sound : goal.returns-then-len-msg-clause-sound
returns-then-len-msg-clause-sound g c =
    on_ok c.ask_state.result _ (λ start s. record {
      kept = c.in_ok-advance.ensures.kept start (c.in_ok-append_next.ensures.kept start s.kept);
      sites = s.sites;
      known = s.known;
      up = s.up;
      votes = s.votes;
    })

pub returns-else-len-msg-clause-sound : goal.returns-else-len-msg-clause-sound
returns-else-len-msg-clause-sound g c =
    on_ok c.acknowledge_log.result _ (λ start s. record {
      kept = c.in_ok-advance.ensures.kept start (c.in_ok-append_next.ensures.kept start s.kept);
      sites = s.sites;
      known = s.known;
      up = s.up;
      votes = s.votes;
    })

pub returns-then-len-msg-clause-step : goal.returns-then-len-msg-clause-step
returns-then-len-msg-clause-step g c = λ start acks cell h.
    let m = g.M.Machine in
    let f = c.args.config.f in
    let me = c.args.config.me in
    let r = c.args.running.now in
    let x = site_of r acks cell in
    let put = c.in_ok-append_next.ensures in
    let now = c.in_ok-advance.ensures in
    let log = if c.args.msg.place == length r.kept.log + 1 then r.kept.log ++ c.args.msg.row ∷ [] else r.kept.log in
    let y = prepared c.args.msg x in
    let missing : length r.kept.log + 1 < c.args.msg.place = omega (arith, c.len-len.ensures.length, c.if-len-msg.true) in
    follows_as m start f me _ c.ask_state.result _ _ (prepares-missing f me x c.args.msg missing)
    (does_follows m start f me _ c.ask_state.result y _ (rw c.len-len.ensures.length at c.ask_state.ensures)
    (record {
      sound = record {
        kept = now.kept start (put.kept start h.sound.kept);
        sites = h.sound.sites;
        known = h.sound.known;
        up = h.sound.up;
        votes = h.sound.votes;
      };
      summed = h.summed;
    })
    (same_site x log _ (max r.kept.done (min c.args.msg.done (length log))) _ (sym (now.log ∙ put.log))
    (sym (now.done ∙ ap (λ d. max d (min c.args.msg.done (length c.append_next.new.kept.log))) c.append_next.ensures.done
    ∙ ap (λ l. max r.kept.done (min c.args.msg.done (length l))) put.log))))

pub returns-else-len-msg-clause-step : goal.returns-else-len-msg-clause-step
returns-else-len-msg-clause-step g c = λ start acks cell h.
    let m = g.M.Machine in
    let f = c.args.config.f in
    let me = c.args.config.me in
    let r = c.args.running.now in
    let x = site_of r acks cell in
    let put = c.in_ok-append_next.ensures in
    let now = c.in_ok-advance.ensures in
    let log = if c.args.msg.place == length r.kept.log + 1 then r.kept.log ++ c.args.msg.row ∷ [] else r.kept.log in
    let y = prepared c.args.msg x in
    let enough : c.args.msg.place ≤ length r.kept.log + 1 = omega (arith, c.len-len.ensures.length, c.if-len-msg.false) in
    follows_as m start f me _ c.acknowledge_log.result _ _ (prepares-enough f me x c.args.msg enough)
    (does_follows m start f me _ c.acknowledge_log.result y _ (rw (c.len.ensures.length, now.log, put.log) at c.acknowledge_log.ensures)
    (record {
      sound = record {
        kept = now.kept start (put.kept start h.sound.kept);
        sites = h.sound.sites;
        known = h.sound.known;
        up = h.sound.up;
        votes = h.sound.votes;
      };
      summed = h.summed;
    })
    (same_site x log _ (max r.kept.done (min c.args.msg.done (length log))) _ (sym (now.log ∙ put.log))
    (sym (now.done ∙ ap (λ d. max d (min c.args.msg.done (length c.append_next.new.kept.log))) c.append_next.ensures.done
    ∙ ap (λ l. max r.kept.done (min c.args.msg.done (length l))) put.log))))
