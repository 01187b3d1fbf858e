-- What was heard on a link that is read to its end.
use Rattle.std.specs.Prelude.{◌≡◌, ◌≢◌, ◌⊎◌, ℕ, ◌<◌, ◌==◌, List, [], ◌∷◌, ◌++◌, length, drop, Option, Some, None, Ok, Err, if◌then◌else◌}
use Rattle.std.specs.Io.KnownBytes.{Consumes, IsAtEnd}
use Rattle.pvp_rooms.specs.Gates.{Hears}
use Rattle.pvp_links.specs.declared.fault.LinkFault.{LinkFault}
use Rattle.pvp_links.specs.declared.fault.LinkFault.TheVariants as fault
use Rattle.pvp_links.specs.declared.hearing.LinkEnd.{LinkEnd}
use Rattle.pvp_links.specs.declared.hearing.LinkEnd.TheVariants.{End, Cut, Read, Wrong, NoMemory, Unwanted}
use Rattle.pvp_links.specs.declared.link.Link.{Link}
use Rattle.pvp_links.specs.Sealing.{next}
use Rattle.pvp_links.specs.Fronts.{Said, front}

-- bytes of a link are these pieces, one behind another, and what is left
abbrev pub ArePieces : Link → List ℕ → List Said → List ℕ → Type 0
ArePieces link bytes [] rest = bytes ≡ rest
ArePieces link bytes (said ∷ more) rest =
    (size : ℕ) × (front link bytes ≡ Ok (Some (said, size))) × ArePieces (next link) (drop size bytes) more rest

-- the link when they have gone over it
abbrev pub link_after : Link → List Said → Link
link_after link [] = link
link_after link (said ∷ more) = link_after (next link) more

-- why a link is read no longer at a fault
abbrev pub end_at : LinkFault → LinkEnd
end_at fault.NoMemory = NoMemory
end_at fault.Hello = Wrong fault.Hello
end_at fault.Stranger = Wrong fault.Stranger
end_at fault.Length = Wrong fault.Length
end_at fault.Tag = Wrong fault.Tag
end_at (fault.Wire why) = Wrong (fault.Wire why)
end_at fault.Sender = Wrong fault.Sender
end_at fault.Receiver = Wrong fault.Receiver

-- how a stream ends with these bytes left over
abbrev pub end_with : List ℕ → LinkEnd
end_with rest = if length rest == 0 then End else Cut (length rest)

-- what stands at the front of what is left, where no more of what is held is heard
abbrev pub StopsSo : Link → Option LinkEnd → List ℕ → Type 0
StopsSo link None rest = front link rest ≡ Ok None
StopsSo link (Some (Wrong why)) rest = front link rest ≡ Err why
StopsSo link (Some NoMemory) rest = front link rest ≢ Ok None
StopsSo link (Some Unwanted) rest = Unit {0}
StopsSo link (Some End) rest = ⊥
StopsSo link (Some (Cut n)) rest = ⊥
StopsSo link (Some Read) rest = ⊥

-- bytes were taken so far: they are the pieces that were heard, each once and in order, and what is left; and where the
-- link stands now
pub record IsTaking {H : Type 0} (got : H → List Said → Type 0) (link now : Link) (bytes left : List ℕ) (old new : H)
    : Type 0 where
  pub said : List Said
  pub pieces : ArePieces link bytes said left
  pub behind : now ≡ link_after link said
  pub heard : Hears got old new said

-- all that is whole was heard, up to why no more is
abbrev pub HasTaken : {H : Type 0} → (H → List Said → Type 0) → Link → Link → List ℕ → List ℕ → H → H → Option LinkEnd
    → Type 0
HasTaken got link now bytes left old new end = IsTaking got link now bytes left old new × StopsSo now end left

-- a link was heard so far: what was held and what was read of its stream was taken, but for what is left
pub record IsHearing {H : Type 0} (got : H → List Said → Type 0) (link now : Link) (held : List ℕ)
    (before after : Option (List ℕ)) (old new : H) (left : List ℕ) : Type 0 where
  pub read : List ℕ
  pub consumed : Consumes before after read
  pub taking : IsTaking got link now (held ++ read) left old new

-- what is left where a link is read no longer
abbrev pub EndsSo : Link → LinkEnd → Option (List ℕ) → List ℕ → Type 0
EndsSo link End after left = IsAtEnd after × (left ≡ [])
EndsSo link (Cut n) after left = IsAtEnd after × (n ≡ length left) × (0 < n) × (front link left ≡ Ok None)
EndsSo link Read after left = front link left ≡ Ok None
EndsSo link (Wrong why) after left = front link left ≡ Err why
EndsSo link NoMemory after left = 0 < length left
EndsSo link Unwanted after left = Unit {0}

-- A LINK IS HEARD OUT: what was held and what was read of its stream are the pieces that were heard, each once and in
-- order, and what is left; and why it is read no longer
abbrev pub IsHeardOut : {H : Type 0} → (H → List Said → Type 0) → Link → List ℕ → Option (List ℕ) → Option (List ℕ) → H
    → H → LinkEnd → Type 0
IsHeardOut got link held before after old new end =
    (now : Link) × (left : List ℕ) × IsHearing got link now held before after old new left × EndsSo now end after left
