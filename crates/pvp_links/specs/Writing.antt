-- What a writer does with the frames that it takes off its channel, over streams whose bytes are known.
use Rattle.std.specs.Prelude.{◌≡◌, ◌⊎◌, ℕ, ◌==◌, ◌≤◌, Bool, true, false, List, [], ◌∷◌, position, slice_get, slice_set, IsPermutation, Contains, Option, Some, None}
use Rattle.std.specs.List.{flat_map, filter, count_by}
use Rattle.std.specs.Io.KnownBytes.{Appends}
use Rattle.pvp_wire.specs.declared.stamped.Stamped.{Stamped}
use Rattle.pvp_wire.specs.Spelling.{spelling}
use Rattle.pvp_links.specs.declared.writer.Outgoing.{Outgoing}

-- the place of the stream to an actor
abbrev pub place_of : {W : Type 0} → List (Outgoing W) → ℕ → Option ℕ
place_of streams to = position (λ out. out.to == to) streams

-- A FRAME WAS WRITTEN, whole, to the stream of its receiver, and nothing to another
pub record IsWritten {W : Type 0} (contents : W → Option (List ℕ)) (frame : Stamped) (old new : List (Outgoing W))
    : Type 0 where
  pub at : ℕ
  pub place : place_of old frame.envelope.to ≡ Some at
  pub out : Outgoing W
  pub there : slice_get old at ≡ Some out
  pub after : W
  pub bytes : Appends (contents out.stream) (contents after) (spelling frame)
  pub streams : new ≡ slice_set old at (record out { stream = after })

-- or that stream was closed, and nothing was written to another
pub record IsClosed {W : Type 0} (frame : Stamped) (old new : List (Outgoing W)) : Type 0 where
  pub closed : Outgoing W
  pub receiver : closed.to ≡ frame.envelope.to
  pub others : IsPermutation old (closed ∷ new)

-- or there is none any more, and it is lost
pub record IsLost {W : Type 0} (frame : Stamped) (old new : List (Outgoing W)) : Type 0 where
  pub nowhere : place_of old frame.envelope.to ≡ None
  pub same : new ≡ old

abbrev pub Writes : {W : Type 0} → (W → Option (List ℕ)) → Stamped → List (Outgoing W) → List (Outgoing W) → Bool
    → Type 0
Writes contents frame old new true = IsWritten contents frame old new
Writes contents frame old new false = IsClosed frame old new ⊎ IsLost frame old new

-- so of some frames, one after another
abbrev pub AreWritten : {W : Type 0} → (W → Option (List ℕ)) → List Stamped → List (Outgoing W) → List (Outgoing W)
    → Type 0
AreWritten contents [] old new = new ≡ old
AreWritten {W} contents (frame ∷ more) old new =
    (mid : List (Outgoing W)) × (whole : Bool) × Writes contents frame old mid whole × AreWritten contents more mid new

-- WHAT A WRITER WROTE: some frames, each of them so
pub record HasWritten {W : Type 0} (contents : W → Option (List ℕ)) (old new : List (Outgoing W)) : Type 0 where
  pub frames : List Stamped
  pub written : AreWritten contents frames old new

-- at most one stream goes to each receiver
abbrev pub HasOneEach : {W : Type 0} → List (Outgoing W) → Type 0
HasOneEach streams = (to : ℕ) → count_by (λ out. out.to == to) streams ≤ 1

-- the bytes of the frames for a receiver, in order
abbrev pub bytes_for : ℕ → List Stamped → List ℕ
bytes_for to frames = flat_map spelling (filter (λ frame. frame.envelope.to == to) frames)

-- A STREAM HAS TAKEN ALL OF ITS FRAMES, whole and in order, and nothing else
pub record HasTakenAll {W : Type 0} (contents : W → Option (List ℕ)) (frames : List Stamped) (old : List (Outgoing W))
    (out : Outgoing W) : Type 0 where
  pub before : W
  pub was : Contains old (record out { stream = before })
  pub bytes : Appends (contents before) (contents out.stream) (bytes_for out.to frames)
