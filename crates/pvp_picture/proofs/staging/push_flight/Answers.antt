use Rattle.std.proofs.Common.{refl, sym, rules}
use Rattle.pvp_picture.proofs.SceneLemmas.{flights_more}
use Rattle.pvp_picture.proofs.staging.push_flight.Goals as goal

pub returns : goal.returns
returns c = flights_more c.args.world.now.setup c.args.world.now.post c.args.flights.now.items c.push.new.self.items _ c.in_ok-push.ensures.items
    (record { envelope = c.in-Some.envelope.now; is_sent = sym c.in-Some.ensures; from = refl; to = refl; words = search rules }) c.requires
