-- Two actors that are one of a bank open alike.
use Rattle.std.proofs.Common.{◌≡◌, ℕ, Option, Some, None, sym, ap, ◌∙◌, arith}
use Rattle.pvp_types.specs.declared.setup.Setup.{Setup}
use Rattle.pvp_types.specs.Setup.{faults}
use Rattle.vr_types.specs.declared.cell.Boot.{Boot}
use Rattle.vr_types.specs.Site.{opening_site}
use Rattle.rtgs_node.specs.Node.{opening_node}
use Rattle.rtgs_node.specs.Shown.{ShownNode}
use Rattle.headline.specs.Client.{opening_client}
use Rattle.headline.specs.Machine.{book}
use Rattle.pvp_world.specs.Client.{ShownClient}
use Rattle.pvp_parties.specs.declared.party.PartyOf.TheVariants.{Site, Node, Client}
use Rattle.pvp_parties.specs.Parties.{Party, PartyState, AtSite, AtNode, AtClient, Opens}
use Rattle.pvp_audit.specs.Banked.{IsActorOf}

pub open_alike : (setup : Setup) (called : ℕ) (opening : Option Boot) (a b : Party) → IsActorOf setup called opening a → IsActorOf setup called opening b
    → (x : PartyState) → Opens a opening x → Opens b opening x
open_alike setup called (Some boot) (Site p) (Site q) ha hb (AtSite x) opens =
    let place : p.place ≡ q.place = omega (arith, sym ha.number ∙ hb.number) in
    let made : p.setup ≡ q.setup = ha.made_from ∙ sym hb.made_from in
    record {
      is = record {
        f = opens.is.f ∙ ap faults made;
        me = opens.is.me ∙ place;
        start = opens.is.start ∙ ap book.start made;
        right = opens.is.right;
      };
      site = opens.site ∙ ap (λ f. opening_site f boot) (ap faults made);
    }
open_alike setup called None (Node p) (Node q) ha hb (AtNode x) opens =
    let place : p.place ≡ q.place = omega (arith, sym ha.number ∙ hb.number) in
    let made : p.setup ≡ q.setup = ha.made_from ∙ sym hb.made_from in
    opens ∙ ap (λ (s : Setup). let y : ShownNode = record { setup = s; ccy = p.place; node = opening_node } in y) made
    ∙ ap (λ (k : ℕ). let y : ShownNode = record { setup = q.setup; ccy = k; node = opening_node } in y) place
open_alike setup called None (Client p) (Client q) ha hb (AtClient x) opens =
    let place : p.place ≡ q.place = sym ha.number ∙ hb.number in
    let made : p.setup ≡ q.setup = ha.made_from ∙ sym hb.made_from in
    opens ∙ ap (λ (f : ℕ). let y : ShownClient = record { f = f; me = p.place; client = opening_client } in y) (ap faults made)
    ∙ ap (λ (k : ℕ). let y : ShownClient = record { f = faults q.setup; me = k; client = opening_client } in y) place
open_alike setup called (Some boot) (Site p) (Node q) ha hb x opens = absurd hb.opened
open_alike setup called (Some boot) (Site p) (Client q) ha hb x opens = absurd hb.opened
open_alike setup called (Some boot) (Node p) b ha hb x opens = absurd ha.opened
open_alike setup called (Some boot) (Client p) b ha hb x opens = absurd ha.opened
open_alike setup called None (Site p) b ha hb x opens = absurd ha.opened
open_alike setup called None (Node p) (Site q) ha hb x opens = absurd hb.opened
open_alike setup called None (Node p) (Client q) ha hb x opens =
    let low = hb.place.1 in absurd (omega (arith, sym ha.number ∙ hb.number, low))
open_alike setup called None (Client p) (Site q) ha hb x opens = absurd hb.opened
open_alike setup called None (Client p) (Node q) ha hb x opens =
    let low = ha.place.1 in absurd (omega (arith, sym ha.number ∙ hb.number, low))
open_alike setup called (Some boot) (Site p) (Site q) ha hb (AtNode x) opens = absurd opens
open_alike setup called (Some boot) (Site p) (Site q) ha hb (AtClient x) opens = absurd opens
open_alike setup called None (Node p) (Node q) ha hb (AtSite x) opens = absurd opens
open_alike setup called None (Node p) (Node q) ha hb (AtClient x) opens = absurd opens
open_alike setup called None (Client p) (Client q) ha hb (AtSite x) opens = absurd opens
open_alike setup called None (Client p) (Client q) ha hb (AtNode x) opens = absurd opens
