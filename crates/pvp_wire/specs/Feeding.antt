-- What a feeder holds, and what it makes of a stream that comes in pieces.
use Rattle.std.specs.Prelude.{◌≡◌, ◌≢◌, ◌⊎◌, ◌≤◌, ℕ, List, [], ◌∷◌, ◌++◌, All, Option, Some, None, Result, Ok, Err, IsOk, vec_len}
use Rattle.std.specs.Vec.{vec_capacity}
use Rattle.std.specs.Global.{Vec}
use Rattle.std.specs.List.{flat_map}
use Rattle.pvp_wire.specs.declared.fault.WireFault.{WireFault}
use Rattle.pvp_wire.specs.declared.fault.WireFault.TheVariants.{Short, TooLong, Version, Kind, Field, Length, NoMemory}
use Rattle.pvp_wire.specs.declared.stamped.Stamped.{Stamped}
use Rattle.pvp_wire.specs.Spelling.{spelling}
use Rattle.pvp_wire.specs.Fits.{IsSpelled}
use Rattle.pvp_wire.specs.Reading.{frame_at, TakesMemory}

-- the bytes that came after the last complete frame, and the fault at their front
pub record Fed : Type 0 where
  pub held : List ℕ
  pub fault : Option WireFault

-- a new feeder
abbrev pub empty : Fed
empty = record { held = []; fault = None }

-- No fault is there, and what is held begins with no complete frame. Or one is: it is what is wrong with the bytes
-- that are held, whatever comes after them.
abbrev pub IsAt : List ℕ → Option WireFault → Type 0
IsAt held None = frame_at held ≡ Err Short
IsAt held (Some fault) = (frame_at held ≡ Err fault) × (fault ≢ Short) × (fault ≢ NoMemory)

-- this holds of every feeder between its calls
abbrev pub IsFed : Fed → Type 0
IsFed fed = IsAt fed.held fed.fault

-- the stream is these frames, followed by the rest
pub record Splits (stream : List ℕ) (frames : List Stamped) (rest : List ℕ) : Type 0 where
  pub whole : stream ≡ flat_map spelling frames ++ rest
  pub each : All IsSpelled frames

-- The frame at the front is kept behind these frames, and its size is answered; or there is none. Memory may be
-- refused for its rows, or where there is no room for one more frame.
abbrev pub Keeps : Vec Stamped → List ℕ → Result ℕ WireFault → Vec Stamped → Type 0
Keeps old bytes (Ok size) new = (s : Stamped) × (frame_at bytes ≡ Ok (s, size)) × (new.items ≡ old.items ++ s ∷ [])
Keeps old bytes (Err fault) new = (new.items ≡ old.items) × ((frame_at bytes ≡ Err fault)
    ⊎ ((fault ≡ NoMemory) × (TakesMemory bytes ⊎ (IsOk (frame_at bytes) × (vec_capacity old ≤ vec_len old)))))

-- memory was refused for the frame behind those that were kept, or for its rows
pub record IsCutShort (bytes : List ℕ) (frames : Vec Stamped) : Type 0 where
  pub rest : List ℕ
  pub splits : Splits bytes frames.items rest
  pub needs : TakesMemory rest ⊎ IsOk (frame_at rest)

-- a fault at the front is returned
pub record IsTold (old : Fed) (piece : List ℕ) (told : WireFault) (new : Fed) : Type 0 where
  pub held : new.held ≡ old.held ++ piece
  pub fault : new.fault ≡ Some told
  pub waits_for_no_more : told ≢ Short
  pub is_of_the_stream : told ≢ NoMemory

-- memory was refused for the piece, which is not empty, and nothing changes
pub record IsRefused (old : Fed) (piece : List ℕ) (told : WireFault) (new : Fed) : Type 0 where
  pub some : piece ≢ []
  pub memory : told ≡ NoMemory
  pub same : new ≡ old

-- What a feeder without a fault makes of a piece: the frames that are now complete are answered, and the rest is held.
-- A fault behind frames is returned at the next call; one in front of all of them at once.
abbrev pub Takes : Fed → List ℕ → Result (Vec Stamped) WireFault → Fed → Type 0
Takes old piece (Ok frames) new =
    Splits (old.held ++ piece) frames.items new.held × ((frames.items ≢ []) ⊎ (new.fault ≡ None))
Takes old piece (Err fault) new = IsTold old piece fault new ⊎ IsRefused old piece fault new

-- What a feeder makes of a piece: a fault from before is returned again, and the piece is not taken.
abbrev pub FeedsAt : Option WireFault → Fed → List ℕ → Result (Vec Stamped) WireFault → Fed → Type 0
FeedsAt None old piece result new = Takes old piece result new
FeedsAt (Some fault) old piece result new = (result ≡ Err fault) × (new ≡ old)

abbrev pub Feeds : Fed → List ℕ → Result (Vec Stamped) WireFault → Fed → Type 0
Feeds old piece result new = FeedsAt old.fault old piece result new

-- ---- a stream, piece by piece

-- one call: the piece, what was answered, what the feeder then holds
pub record Call : Type 0 where
  pub piece : List ℕ
  pub answer : Result (Vec Stamped) WireFault
  pub after : Fed

-- Calls, one after the other, of a feeder that holds this at first. After each the feeder is as every feeder is.
abbrev pub AreFed : Fed → List Call → Type 0
AreFed fed [] = Unit {0}
AreFed fed (call ∷ calls) = Feeds fed call.piece call.answer call.after × IsFed call.after × AreFed call.after calls

-- what is held after them
abbrev pub after_calls : Fed → List Call → Fed
after_calls fed [] = fed
after_calls fed (call ∷ calls) = after_calls call.after calls

-- the frames that were answered
abbrev pub answered : Result (Vec Stamped) WireFault → List Stamped
answered (Ok frames) = frames.items
answered (Err fault) = []

abbrev pub all_answered : List Call → List Stamped
all_answered calls = flat_map (λ call. answered call.answer) calls

-- a piece that an answer takes: all but where memory was refused
abbrev pub taken_by : Result (Vec Stamped) WireFault → List ℕ → List ℕ
taken_by (Ok frames) piece = piece
taken_by (Err NoMemory) piece = []
taken_by (Err Short) piece = piece
taken_by (Err TooLong) piece = piece
taken_by (Err Version) piece = piece
taken_by (Err Kind) piece = piece
taken_by (Err Field) piece = piece
taken_by (Err Length) piece = piece

-- the same for a feeder with this fault, which takes no piece
abbrev pub taken_at : Option WireFault → Result (Vec Stamped) WireFault → List ℕ → List ℕ
taken_at None answer piece = taken_by answer piece
taken_at (Some fault) answer piece = []

-- the pieces that were taken, joined
abbrev pub all_taken : Fed → List Call → List ℕ
all_taken fed [] = []
all_taken fed (call ∷ calls) = taken_at fed.fault call.answer call.piece ++ all_taken call.after calls

-- the pieces that were given, joined: also those that came after a fault, but none for which memory was refused
abbrev pub all_given : List Call → List ℕ
all_given calls = flat_map (λ call. taken_by call.answer call.piece) calls
