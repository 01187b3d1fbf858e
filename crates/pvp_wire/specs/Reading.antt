-- How bytes are read as a stamped envelope: which fault comes first, and what is read where none comes.
use Rattle.std.specs.Prelude.{ℕ, ◌+◌, ◌==◌, ◌&&◌, ◌||◌, ◌≡◌, ◌≢◌, ◌⊎◌, Bool, true, false, not, nat_lt, nat_le, List, [], ◌∷◌, length, take, drop, Result, Ok, Err, if◌then◌else◌}
use Rattle.byteorder.specs.Endian.{big_number}
use Rattle.vr_types.specs.Actors.{is_actor}
use Rattle.vr_types.specs.Messages.{rows_in}
use Rattle.pvp_wire.specs.declared.fault.WireFault.{WireFault}
use Rattle.pvp_wire.specs.declared.fault.WireFault.TheVariants.{Short, TooLong, Version, Kind, Field, Length, NoMemory}
use Rattle.pvp_wire.specs.declared.stamped.Stamped.{Stamped}
use Rattle.pvp_wire.specs.Shape.{listed_at}
use Rattle.pvp_wire.specs.Layout.{BankMsg, stamp, message_at}
use Rattle.pvp_wire.specs.Spelling.{version}
pub use Rattle.pvp_wire.specs.Shape.{◌>>=◌, Reads, number_at}

-- what follows the version and the kind
unfoldable pub envelope_at : Bool → ℕ → List ℕ → Reads Stamped
envelope_at refused kind bytes = do
  stamp ← stamp.read false bytes
  to ← listed_at 2 is_actor stamp.1
  msg ← message_at refused kind to.1
  Ok (record { stamp = stamp.0; envelope = record { from = stamp.0.actor; to = to.0; msg = msg.0 } }, msg.1)

-- no bytes of a frame may be left over
abbrev pub all_read : {A : Type 0} → A × List ℕ → Result A WireFault
all_read x = if length x.1 == 0 then Ok x.0 else Err Length

-- the bytes that a frame's length counts, at least two: version, kind and the rest
unfoldable pub counted_at : Bool → List ℕ → Result Stamped WireFault
counted_at refused [] = Err Length
counted_at refused (number ∷ []) = Err Length
counted_at refused (number ∷ kind ∷ bytes) =
    if not (number == version) then Err Version
    else if not (nat_le 1 kind && nat_le kind 13) then Err Kind
    else (envelope_at refused kind bytes >>= all_read)

-- the longest frame, after its length
abbrev pub most_length : ℕ
most_length = 4194304

-- the frame at the front of bytes, and how many bytes it takes; else what is wrong: the first of these tests that
-- fails
unfoldable pub frame_where : Bool → List ℕ → Result (Stamped × ℕ) WireFault
frame_where refused bytes =
    let len = big_number 4 bytes in
    if nat_lt (length bytes) 4 then Err Short
    else if nat_lt most_length len then Err TooLong
    else if nat_lt len 18 then Err Length
    else if nat_lt (length bytes) (4 + len) then Err Short
    else (counted_at refused (take len (drop 4 bytes)) >>= λ s. Ok (s, 4 + len))

-- THE FRAME at the front of bytes
abbrev pub frame_at : List ℕ → Result (Stamped × ℕ) WireFault
frame_at bytes = frame_where false bytes

-- Reading this frame takes memory: all tests before its rows are passed, and the first row is read.
abbrev pub TakesMemory : List ℕ → Type 0
TakesMemory bytes = frame_where true bytes ≡ Err NoMemory

-- the kinds of messages that carry a list of rows
abbrev pub carries_a_list : ℕ → Bool
carries_a_list kind = (kind == 6) || ((kind == 7) || ((kind == 9) || (kind == 11)))

-- a message that carries a row
abbrev pub HasARow : BankMsg → Type 0
HasARow msg = rows_in msg ≢ []

-- what is wrong with fields: one has a value that it may not have, or they end before the frame does, or after it
abbrev pub IsOfField : WireFault → Type 0
IsOfField fault = (fault ≡ Field) ⊎ (fault ≡ Length)

-- ---- what a function returned

-- What a function that takes no memory returned, seen by view, is what reading gives.
abbrev pub Finds : {X Y E : Type 0} → (X → Y) → Result X E → Result Y E → Type 0
Finds view (Ok x) read = read ≡ Ok (view x)
Finds view (Err fault) read = read ≡ Err fault

-- What a function that takes memory for rows returned is what reading gives where memory is not refused. It may return
-- that memory was refused only where reading comes to a row that it has to keep.
abbrev pub Gives : {X Y : Type 0} → (X → Y) → Result X WireFault → (Bool → Result Y WireFault) → Type 0
Gives view (Ok x) read = read false ≡ Ok (view x)
Gives view (Err fault) read = (read false ≡ Err fault) ⊎ ((fault ≡ NoMemory) × (read true ≡ Err NoMemory))
