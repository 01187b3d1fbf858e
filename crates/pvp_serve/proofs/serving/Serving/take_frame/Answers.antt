use Rattle.std.proofs.Common.{Some, ap, ◌∙◌, ◌≡◌, true, false}
use Rattle.pvp_rooms.specs.declared.message.Input.{Input}
use Rattle.pvp_parties.specs.declared.party.PartyEvent.{PartyEvent}
use Rattle.pvp_serve.specs.Serving.{input_of}
use Rattle.pvp_serve.proofs.serving.Serving.take_frame.Goals as goal

pub returns-clause-comes : goal.returns-clause-comes
returns-clause-comes g c =
    let same =
    ap (λ (e : PartyEvent). let i : Input PartyEvent = record { event = e; stamp = Some c.into_stamped-envelope.result.stamp } in i) c.deliver.ensures
    ∙ ap input_of c.into_stamped-envelope.ensures.is in
    record {
      far = λ far. (
          let lost : c.counts-is_far.result ≡ true = c.counts-is_far.ensures.far ∙ rw c.into_stamped-envelope.ensures.is far in
          rw c.counts-is_far.ensures.lost at c.step_unless.ensures.lost lost);
      near = λ near. (
          let believed : c.counts-is_far.result ≡ false = c.counts-is_far.ensures.far ∙ rw c.into_stamped-envelope.ensures.is near in
          rw (same, c.counts-is_far.ensures.lost) at c.step_unless.ensures.takes believed);
      refused = rw (c.into_stamped-envelope.ensures.is, c.counts-is_far.ensures.lost) at c.step_unless.ensures.refused;
    }
