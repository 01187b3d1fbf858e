use Rattle.std.proofs.Common.{◌∙◌}
use Rattle.pvp_places.proofs.Places.{same_sites}
use Rattle.pvp_places.proofs.peers.has_place.Goals as goal

pub returns : goal.returns
returns c = c.is_among.ensures ∙ same_sites c.args.places.now c.args.site
