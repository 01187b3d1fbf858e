-- The places of a file, as a reader keeps them.
use Rattle.std.proofs.Common.{◌≡◌, ℕ, ◌==◌, ◌||◌, Bool, List, [], ◌∷◌, ◌++◌, map, refl, ap}
use Rattle.std.specs.List.{list_any}
use Rattle.pvp_places.specs.declared.peers.Place.{Place}
use Rattle.pvp_places.specs.PeersFile.{Listens, listens, has_place}

pub same_sites : (places : List Place) (site : ℕ) → list_any (λ (p : Place). p.site == site) places ≡ has_place (map listens places) site
same_sites [] site = refl
same_sites (p ∷ places) site = ap (λ (b : Bool). (p.site == site) || b) (same_sites places site)
