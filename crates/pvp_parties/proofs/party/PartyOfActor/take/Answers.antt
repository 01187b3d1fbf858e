use Rattle.std.proofs.Common.{refl}
use Rattle.pvp_parties.proofs.Strays.{step_at_node, step_at_client, stray_at_site, stray_at_node, stray_at_client}
use Rattle.pvp_parties.proofs.party.PartyOfActor.take.Goals as goal

pub returns-in-Site-clause-step : goal.returns-in-Site-clause-step
returns-in-Site-clause-step g c = stray_at_site g.C.BootCell _ _ _ _ c.in-Site.is c.in_default.not-OfSite refl

pub returns-in-Node-clause-step : goal.returns-in-Node-clause-step
returns-in-Node-clause-step g c = stray_at_node g.C.BootCell _ _ _ _ c.in-Node.is c.in_default-event.not-OfNode refl

pub returns-clause-step : goal.returns-clause-step
returns-clause-step g c =
    stray_at_client g.C.BootCell _ _ _ _ c.in-Client.is c.in_default-event-2.not-OfClient refl

pub returns-in-OfNode-clause-step : goal.returns-in-OfNode-clause-step
returns-in-OfNode-clause-step g c =
    step_at_node g.C.BootCell _ c.in-Node.node c.take-in-OfNode.new.self _ c.in-OfNode.event _ _
    c.in-Node.is c.in-OfNode.is refl c.take-in-OfNode.ensures.step

pub returns-in-OfClient-clause-step : goal.returns-in-OfClient-clause-step
returns-in-OfClient-clause-step g c =
    step_at_client g.C.BootCell _ c.in-Client.client c.take-in-OfClient.new.self _ c.in-OfClient.event _ _
    c.in-Client.is c.in-OfClient.is refl c.take-in-OfClient.ensures.step
