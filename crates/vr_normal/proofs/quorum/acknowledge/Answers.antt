use Rattle.std.proofs.Common.{◌≡◌, ◌<◌, ◌++◌, ◌∷◌, [], length, max, min, map, sym, ap, ◌∙◌, refl, arith, rules, slice_index, slice_set}
use Rattle.vr_types.specs.Choice.{IsAcknowledged}
use Rattle.vr_types.specs.Normal.{with_ack}
use Rattle.vr_types.specs.Step.{executed_to, places_between}
use Rattle.vr_types.proofs.ChoosingPlace.{IsLargest-one}
use Rattle.std.specs.List.{filter_map}
use Rattle.vr_log.specs.Kept.{answer_to, reply_mail}
use Rattle.vr_log.specs.Running.{site_of, SumUp}
use Rattle.vr_log.proofs.OutcomeLemmas.{answers_meets, same_site}
use Rattle.vr_normal.proofs.Supports.{IsLargest-summed, SumUp-more, get_or-any}
use Rattle.vr_normal.proofs.quorum.acknowledge.Goals as goal

pub returns-clause-step : goal.returns-clause-step
returns-clause-step g c = λ choose start acks cell right h.
    let m = g.M.Machine in
    let f = c.args.config.f in
    let me = c.args.config.me in
    let r = c.args.running.now in
    let from = c.args.from in
    let rows = length r.kept.log in
    let within : from < length r.acked.items = omega arith in
    let before : c.index-before.result.now ≡ slice_index r.acked.items from = c.index-before.ensures ∙ get_or-any r.acked.items from _ 0 within in
    let value : c.max.result ≡ max (slice_index r.acked.items from) (min c.args.place rows) =
    c.max.ensures ∙ rw (before, c.min.ensures, c.len-len.ensures.length) refl in
    let acked = slice_set r.acked.items from c.max.result in
    let more = acks ++ record { from = from; place = c.args.place; rows = rows } ∷ [] in
    let summed : SumUp acked more = rw value (SumUp-more r.acked.items acks from c.args.place rows h.summed within) in
    let now = c.in_ok-answers.ensures in
    let k = choose.commit_place me more in
    let same : k ≡ c.commit_place-upto.result =
    IsLargest-one (IsAcknowledged f me more) k c.commit_place-upto.result (right.commit_place me more)
    (IsLargest-summed f me acked more c.commit_place-upto.result summed (rw c.as_slice.ensures.value at c.commit_place-upto.ensures)) in
    let y = executed_to k (with_ack from c.args.place (site_of r acks cell)) in
    let done : max r.kept.done (min k rows) ≡ c.execute.new.self.done = ap (λ n. max r.kept.done (min n rows)) same ∙ sym now.done in
    answers_meets m start f me _ _ y (places_between r.kept.done y.done)
    (record {
      mails =
          c.in_ok-send_replies.ensures ∙ ap (λ sent. sent ++ map (reply_mail me r.view) c.as_slice-2.result.now) c.new-sent.ensures.items
          ∙ ap (map (reply_mail me r.view)) (c.as_slice-2.ensures.value ∙ now.answers start h.sound.kept
          ∙ ap (λ d. filter_map (answer_to m start r.kept.log) (places_between r.kept.done d)) (sym done));
      dropped = refl;
    })
    (record {
      sound = record { kept = now.kept start h.sound.kept; sites = search rules; known = h.sound.known; up = h.sound.up; votes = h.sound.votes };
      summed = summed;
    })
    (same_site (with_ack from c.args.place (site_of r acks cell)) r.kept.log _ (max r.kept.done (min k rows)) _ (sym now.log) done)
