-- What becomes of the incoming streams of a system.
use Rattle.std.specs.Prelude.{◌≡◌, ℕ, ◌<◌, List, length, Option, Some, slice_index_or}
use denote.Ref.{MutBor}
use denote.Param.Members.{Shared}
use Rattle.std.specs.Fork.{ChangesEach}
use Rattle.pvp_types.specs.declared.command.Cmd.{Cmd}
use Rattle.pvp_types.specs.declared.command.Reply.{Reply}
use Rattle.pvp_types.specs.declared.command.PayOrder.{PayOrder}
use Rattle.vr_types.specs.declared.message.EnvelopeOf.{EnvelopeOf}
use Rattle.pvp_links.specs.declared.peer.PeerEnd.{PeerEnd}
use Rattle.pvp_rooms.specs.Gates.{Passing, Hears}
use Rattle.pvp_links.specs.Peers.{IsServed}
use Rattle.pvp_links.specs.Puts.{Put, HasPassed}
use Rattle.pvp_links.specs.declared.incoming.Peer.{Peer}

-- WHAT BECAME OF A PEER: its actor is the same, its stream was served to the end that is reported, and its seat has
-- gained receipts of the first frames of the bytes that were read
pub record IsPeerServed {A R N E O G : Type 0} (delivery : EnvelopeOf Cmd Reply PayOrder → E)
    (remaining : R → Option (List ℕ)) (old new : Peer A R G N E O) : Type 0 where
  pub cell : new.cell ≡ old.cell
  pub ended : PeerEnd
  pub told : new.end ≡ Some ended
  pub served : IsServed delivery (remaining old.reader) (remaining new.reader) old.seat new.seat ended

-- and its gate heard of a step for each of them
pub record IsPeerHeard {A R N E O G : Type 0} (heard : G → List Passing → Type 0) (old new : Peer A R G N E O)
    : Type 0 where
  pub ended : PeerEnd
  pub told : new.end ≡ Some ended
  pub passed : HasPassed heard old.cell.now.number old.seat new.seat old.gate new.gate ended.why

-- so of each peer, in its place

pub record AreServed {A R N E O G : Type 0} (delivery : EnvelopeOf Cmd Reply PayOrder → E)
    (remaining : R → Option (List ℕ)) (old new : List (Peer A R G N E O)) : Type 0 where
  pub many : length new ≡ length old
  pub each : (i : ℕ) (d : Peer A R G N E O) → i < length old
      → IsPeerServed delivery remaining (slice_index_or old i d) (slice_index_or new i d)

pub record AreHeard {A R N E O G : Type 0} (heard : G → List Passing → Type 0) (old new : List (Peer A R G N E O))
    : Type 0 where
  pub many : length new ≡ length old
  pub each : (i : ℕ) (d : Peer A R G N E O) → i < length old
      → IsPeerHeard heard (slice_index_or old i d) (slice_index_or new i d)

-- each of these is what a call of f left in its place
pub record AllChanged {F X : Type 0} (g : Shared F (ℕ × (MutBor X × Unit {0})) (Unit {0} × (MutBor X × Unit {0})))
    (f : F) (old new : List X) : Type 0 where
  pub each : ChangesEach g f old new

-- A PLAYER PLAYED: what its actors sent meanwhile was put into the outbox, once and in order
pub record IsPlayed {P B : Type 0} (plays : P → P → List Put → Type 0) (got : B → List Put → Type 0) (old new : P)
    (before after : B) : Type 0 where
  pub puts : List Put
  pub played : plays old new puts
  pub handed : Hears got before after puts

-- so some player played the script
pub record HasPlayed {P : Type 0} (plays : P → P → List Put → Type 0) (old new : P) : Type 0 where
  pub puts : List Put
  pub played : plays old new puts
