-- What a closed cell leaves.
use Rattle.std.specs.Prelude.{ℕ, ◌+◌, ◌==◌, ◌&&◌, List, [], ◌∷◌, ◌++◌, Bool, true, zero, suc}
use Rattle.pvp_rooms.specs.declared.message.Recorded.{Recorded}
use Rattle.pvp_rooms.specs.declared.actor.Actor.{Ghosts}
use Rattle.pvp_rooms.specs.Histories.{IsRising}
use Rattle.pvp_rooms.specs.Rooms.{IsReplayed}
use Rattle.pvp_rooms.specs.Seats.{Held}

-- the end is the replay of the history, whose clocks rise
pub record IsClosed {A N E O : Type 0} (m : Ghosts A N E O) (opening : N) (history : List (Recorded E O)) (end : A)
    : Type 0 where
  pub replayed : IsReplayed m opening end history
  pub rising : IsRising history 0

-- so much is seen of an actor that a history of its own has left
abbrev pub IsSeen : {A N E O S : Type 0} → Ghosts A N E O → (A → S → Type 0) → S → Type 0
IsSeen {A} {N} {E} {O} m sees sight =
    (opening : N) × (history : List (Recorded E O)) × (actor : A) × IsClosed m opening history actor × sees actor sight

-- these are all seats of this actor, numbered on from here, in order
abbrev pub are_complete : {E O : Type 0} → List (Held E O) → ℕ → ℕ → Bool
are_complete [] actor next = true
are_complete (seat ∷ more) actor next =
    (seat.actor == actor) && (seat.number == next) && are_complete more actor (next + 1)

-- so many new seats of an actor
abbrev pub fresh_seats : {E O : Type 0} → ℕ → ℕ → List (Held E O)
fresh_seats zero actor = []
fresh_seats (suc n) actor = fresh_seats n actor ++ record { actor = actor; number = n; receipts = [] } ∷ []
