-- What becomes of a stream of frames at an actor.
use Rattle.std.specs.Prelude.{◌≡◌, ◌⊎◌, ◌≢◌, ℕ, ◌<◌, List, [], ◌∷◌, ◌++◌, length, Option, Some, None, Err}
use Rattle.std.specs.Io.KnownBytes.{Consumes, IsAtEnd}
use Rattle.pvp_types.specs.declared.command.Cmd.{Cmd}
use Rattle.pvp_types.specs.declared.command.Reply.{Reply}
use Rattle.pvp_types.specs.declared.command.PayOrder.{PayOrder}
use Rattle.vr_types.specs.declared.message.EnvelopeOf.{EnvelopeOf}
use Rattle.pvp_rooms.specs.declared.message.Recorded.{Recorded}
use Rattle.pvp_rooms.specs.Seats.{Held}
use Rattle.pvp_wire.specs.declared.stamped.Stamped.{Stamped}
use Rattle.pvp_wire.specs.declared.fault.WireFault.{WireFault}
use Rattle.pvp_wire.specs.declared.fault.WireFault.TheVariants.{Short, TooLong, Version, Kind, Field, Length, NoMemory}
use Rattle.pvp_wire.specs.Feeding.{Splits}
use Rattle.pvp_wire.specs.Reading.{frame_at}
use Rattle.pvp_links.specs.declared.peer.StreamEnd.{StreamEnd}
use Rattle.pvp_links.specs.declared.peer.StreamEnd.TheVariants.{End, Cut, Read, Wire, Memory, Clock}
use Rattle.pvp_links.specs.declared.peer.PeerEnd.{PeerEnd}

-- the receipt is of this frame
pub record IsReceiptOf {E O : Type 0} (delivery : EnvelopeOf Cmd Reply PayOrder → E) (r : Recorded E O)
    (frame : Stamped) : Type 0 where
  pub event : r.event ≡ delivery frame.envelope
  pub stamp : r.stamp ≡ Some frame.stamp

-- the receipts are of these frames, one by one
abbrev pub AreReceiptsOf : {E O : Type 0} → (EnvelopeOf Cmd Reply PayOrder → E) → List (Recorded E O) → List Stamped
    → Type 0
AreReceiptsOf delivery [] [] = Unit {0}
AreReceiptsOf delivery [] (frame ∷ frames) = ⊥
AreReceiptsOf delivery (r ∷ rs) [] = ⊥
AreReceiptsOf delivery (r ∷ rs) (frame ∷ frames) = IsReceiptOf delivery r frame × AreReceiptsOf delivery rs frames

-- all frames were taken where there is no reason to stop; else the first that is left was not
abbrev pub AllPosted : Option StreamEnd → List Stamped → Type 0
AllPosted None left = left ≡ []
AllPosted (Some why) left = ((why ≡ Memory) ⊎ (why ≡ Clock)) × (0 < length left)

-- the first of the frames were taken: the seat has a receipt more of each
pub record IsPosted {E O : Type 0} (delivery : EnvelopeOf Cmd Reply PayOrder → E) (frames : List Stamped)
    (old new : Held E O) (why : Option StreamEnd) : Type 0 where
  pub gained : List (Recorded E O)
  pub seat : new ≡ record old { receipts = old.receipts ++ gained }
  pub posted : List Stamped
  pub left : List Stamped
  pub frames_are : frames ≡ posted ++ left
  pub receipts : AreReceiptsOf delivery gained posted
  pub all : AllPosted why left

-- what the end says of the reader, of the frames that were not posted, and of the bytes behind them
abbrev pub EndsSo : StreamEnd → Option (List ℕ) → List Stamped → List ℕ → Type 0
EndsSo End after left rest = IsAtEnd after × (left ≡ []) × (rest ≡ [])
EndsSo (Cut n) after left rest = IsAtEnd after × (left ≡ []) × (n ≡ length rest) × (0 < n) × (frame_at rest ≡ Err Short)
EndsSo Read after left rest = left ≡ []
EndsSo (Wire fault) after left rest = (left ≡ []) × (frame_at rest ≡ Err fault) × (fault ≢ Short)
EndsSo Memory after left rest = (0 < length left) ⊎ (0 < length rest)
EndsSo Clock after left rest = 0 < length left

-- A STREAM WAS READ SO FAR: its bytes are frames and what is left, and the seat has a receipt more of each of the first
-- of them, in order
pub record HasRead {E O : Type 0} (delivery : EnvelopeOf Cmd Reply PayOrder → E) (before after : Option (List ℕ))
    (old new : Held E O) (why : StreamEnd) : Type 0 where
  pub gained : List (Recorded E O)
  pub seat : new ≡ record old { receipts = old.receipts ++ gained }
  pub read : List ℕ
  pub consumed : Consumes before after read
  pub posted : List Stamped
  pub left : List Stamped
  pub rest : List ℕ
  pub splits : Splits read (posted ++ left) rest
  pub receipts : AreReceiptsOf delivery gained posted
  pub end : EndsSo why after left rest

-- and of so many frames as are reported
pub record IsServed {E O : Type 0} (delivery : EnvelopeOf Cmd Reply PayOrder → E) (before after : Option (List ℕ))
    (old new : Held E O) (end : PeerEnd) : Type 0 where
  pub stream : HasRead delivery before after old new end.why
  pub count : length stream.gained ≡ end.frames

-- some frames were taken, and these are left
pub record IsPosting {E O : Type 0} (delivery : EnvelopeOf Cmd Reply PayOrder → E) (frames : List Stamped)
    (old new : Held E O) (left : List Stamped) : Type 0 where
  pub gained : List (Recorded E O)
  pub seat : new ≡ record old { receipts = old.receipts ++ gained }
  pub posted : List Stamped
  pub frames_are : frames ≡ posted ++ left
  pub receipts : AreReceiptsOf delivery gained posted

-- a stream was read so far, and all of its frames were taken
pub record IsReading {E O : Type 0} (delivery : EnvelopeOf Cmd Reply PayOrder → E) (before after : Option (List ℕ))
    (old new : Held E O) (held : List ℕ) : Type 0 where
  pub gained : List (Recorded E O)
  pub seat : new ≡ record old { receipts = old.receipts ++ gained }
  pub read : List ℕ
  pub consumed : Consumes before after read
  pub posted : List Stamped
  pub splits : Splits read posted held
  pub receipts : AreReceiptsOf delivery gained posted

-- why a stream is served no longer at a fault of its feeder
abbrev pub why_of : WireFault → StreamEnd
why_of NoMemory = Memory
why_of Short = Wire Short
why_of TooLong = Wire TooLong
why_of Version = Wire Version
why_of Kind = Wire Kind
why_of Field = Wire Field
why_of Length = Wire Length
