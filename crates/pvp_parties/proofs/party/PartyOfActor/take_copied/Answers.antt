use Rattle.pvp_parties.proofs.Strays.{step_at_node, step_at_client, stray_at_site, stray_at_node, stray_at_client}
use Rattle.pvp_parties.proofs.party.PartyOfActor.take_copied.Goals as goal

pub returns-in-Site-clause-step : goal.returns-in-Site-clause-step
returns-in-Site-clause-step g c = stray_at_site g.C.BootCell _ _ _ _ c.in-Site.is c.in_default.not-OfSite c.stray_copies.ensures.answered

pub returns-in-Node-clause-step : goal.returns-in-Node-clause-step
returns-in-Node-clause-step g c = stray_at_node g.C.BootCell _ _ _ _ c.in-Node.is c.in_default-event.not-OfNode c.stray_copies-in_default-event.ensures.answered

pub returns-clause-step : goal.returns-clause-step
returns-clause-step g c =
    stray_at_client g.C.BootCell _ _ _ _ c.in-Client.is c.in_default-event-2.not-OfClient c.stray_copies-in_default-event-2.ensures.answered

pub returns-in-OfNode-clause-step : goal.returns-in-OfNode-clause-step
returns-in-OfNode-clause-step g c =
    step_at_node g.C.BootCell _ c.in-Node.node c.take_copied-in-OfNode.new.self _ c.in-OfNode.event _ _
    c.in-Node.is c.in-OfNode.is c.of_node.ensures.answered
    c.in_ok-take_copied-in-OfNode.ensures.step

pub returns-in-OfClient-clause-step : goal.returns-in-OfClient-clause-step
returns-in-OfClient-clause-step g c =
    step_at_client g.C.BootCell _ c.in-Client.client c.take_copied-in-OfClient.new.self _ c.in-OfClient.event _ _
    c.in-Client.is c.in-OfClient.is c.of_client.ensures.answered
    c.in_ok-take_copied-in-OfClient.ensures.step
