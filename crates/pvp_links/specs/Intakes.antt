-- What an intake does with a stream's bytes that are not taken yet.
use Rattle.std.specs.Prelude.{ℕ, ◌+◌, ◌≡◌, ◌⊎◌, Bool, true, false, List, drop, Option, Some, None, Result, Ok, Err}
use Rattle.pvp_links.specs.declared.fault.LinkFault.{LinkFault}
use Rattle.pvp_links.specs.declared.fault.LinkFault.TheVariants as fault
use Rattle.pvp_links.specs.declared.link.Link.{Link}
use Rattle.pvp_links.specs.declared.arrival.Piece.{Piece}
use Rattle.pvp_links.specs.declared.arrival.Piece.TheVariants.{Ping, Frame}
use Rattle.pvp_links.specs.Sealing.{tag_size, hello_length}
use Rattle.pvp_links.specs.Fronts.{Said, Lives, Says, hello_at, front, TakesMemory}

-- what a piece says
abbrev pub said_by : Piece → Said
said_by Ping = Lives
said_by (Frame arrival) = Says arrival.stamped

-- the same, with its size
abbrev pub said_with_size : Option (Piece × ℕ) → Option (Said × ℕ)
said_with_size None = None
said_with_size (Some x) = Some (said_by x.0, x.1)

-- A hello was taken, with its tag. Otherwise nothing changes.
abbrev pub TakesHello : Link → List ℕ → Result Bool LinkFault → List ℕ → Type 0
TakesHello link old (Ok true) new = (hello_at link old ≡ Ok true) × (new ≡ drop (4 + hello_length + tag_size link) old)
TakesHello link old (Ok false) new = (hello_at link old ≡ Ok false) × (new ≡ old)
TakesHello link old (Err why) new = (hello_at link old ≡ Err why) × (new ≡ old)

-- What stands in front was taken, with its tag. Otherwise nothing changes.
abbrev pub TakesNext : Link → List ℕ → Result (Option Piece) LinkFault → List ℕ → Type 0
TakesNext link old (Ok (Some piece)) new =
    (size : ℕ) × (front link old ≡ Ok (Some (said_by piece, size))) × (new ≡ drop size old)
TakesNext link old (Ok None) new = (front link old ≡ Ok None) × (new ≡ old)
TakesNext link old (Err why) new =
    ((front link old ≡ Err why) ⊎ ((why ≡ fault.NoMemory) × TakesMemory link old)) × (new ≡ old)
