-- What is delivered was sent before, and has the number that is found for it.
use Rattle.std.proofs.Common.{◌≡◌, ℕ, ◌-◌, ◌^◌, ◌<◌, Bool, List, length, Option, slice_get, inl, inr, sym, ap, subst, ◌∙◌}
use Rattle.rtgs_node.specs.Node.{Envelope}
use Rattle.pvp_wire.specs.declared.stamped.Stamp.{Stamp}
use Rattle.pvp_rooms.specs.declared.message.Recorded.{Recorded}
use Rattle.pvp_rooms.specs.declared.cell.Closed.{Closed}
use Rattle.pvp_rooms.specs.Runs.{Tagged, AreInOrder, Arrives}
use Rattle.pvp_rooms.specs.Verdicts.{ClocksRise}
use Rattle.pvp_rooms.specs.Merging.{IsMerged}
use Rattle.pvp_parties.specs.declared.party.PartyEvent.{PartyEvent}
use Rattle.pvp_parties.specs.declared.party.PartyOutcome.{PartyOutcome}
use Rattle.pvp_parties.specs.Parties.{delivers, sent_envelopes}
use Rattle.pvp_audit.specs.Retold.{Names}
use Rattle.pvp_audit.specs.Numbered.{post_of, AreNumbered, IsFound}
use Rattle.pvp_audit.proofs.Numbering.{number_found}

-- THE NUMBER THAT IS FOUND NAMES WHAT IS DELIVERED, where its stamp names an event of the run that sent it
pub number_names : {A N : Type 0} (is_for : A → PartyEvent → Bool) (closed : List (Closed A N PartyEvent PartyOutcome)) → AreInOrder closed → ClocksRise closed
    → (at : List ℕ) (run : List (Tagged PartyEvent PartyOutcome)) → IsMerged closed run at → (numbers : List (List ℕ)) → AreNumbered sent_envelopes run numbers
    → (post : List Envelope) → post ≡ post_of sent_envelopes run → length post < 2 ^ 64
    → (actor : A) (r : Recorded PartyEvent PartyOutcome) → Arrives delivers sent_envelopes is_for closed run actor r → (number : ℕ)
    → IsFound closed numbers r.stamp number → Names post number r.event
number_names is_for closed order clocks at run merged numbers numbered post is fits actor r arrives number found = elim arrives [
  | inl none ↦ inl none
  | inr w ↦ (
      let was = w.3 in
      let s = was.sends in
      let f =
      number_found sent_envelopes closed order clocks at run merged numbers numbered w.0 was.by was.place was.what was.there was.number was.clock s.0 s.2
      (subst (λ (l : List Envelope). length l < 2 ^ 64) is fits) number (subst (λ (o : Option Stamp). IsFound closed numbers o number) w.1 found) in
      inr (f.0, ap (λ (l : List Envelope). slice_get l (number - 1)) is ∙ f.1 ∙ sym s.1))
]
