-- What the outbox and the gate of a worker hear of the events that are taken.
use Rattle.std.specs.Prelude.{◌≡◌, ◌⊎◌, ℕ, List, [], ◌∷◌, ◌++◌, Option, Some, None}
use Rattle.pvp_types.specs.declared.command.Cmd.{Cmd}
use Rattle.pvp_types.specs.declared.command.Reply.{Reply}
use Rattle.pvp_types.specs.declared.command.PayOrder.{PayOrder}
use Rattle.vr_types.specs.declared.message.EnvelopeOf.{EnvelopeOf}
use Rattle.pvp_rooms.specs.declared.message.Recorded.{Recorded}
use Rattle.pvp_rooms.specs.Gates.{Passing, Enters, Took, Wanted, Spent, Hears}
use Rattle.pvp_rooms.specs.Seats.{Held}
use Rattle.pvp_links.specs.declared.peer.StreamEnd.{StreamEnd}
use Rattle.pvp_links.specs.declared.peer.StreamEnd.TheVariants.{End, Cut, Read, Wire, Memory, Clock}

-- what an actor sent in its step of a clock
pub record Put : Type 0 where
  pub actor : ℕ
  pub clock : ℕ
  pub sent : List (EnvelopeOf Cmd Reply PayOrder)

-- of each event that an actor took, what that sent
abbrev pub puts : {E O : Type 0} → (O → List (EnvelopeOf Cmd Reply PayOrder)) → ℕ → List (Recorded E O) → List Put
puts sent actor [] = []
puts sent actor (r ∷ more) = record { actor = actor; clock = r.clock; sent = sent r.outcome } ∷ puts sent actor more

-- a step of the actor for each event that it took
abbrev pub passages : {E O : Type 0} → ℕ → List (Recorded E O) → List Passing
passages actor [] = []
passages actor (r ∷ more) = Enters actor ∷ Took actor ∷ passages actor more

-- a step in which memory was refused, and one for which there is no clock
abbrev pub refusal_passages : ℕ → List Passing
refusal_passages actor = Enters actor ∷ Wanted actor ∷ []

abbrev pub spent_passages : ℕ → List Passing
spent_passages actor = Enters actor ∷ Spent actor ∷ []

-- what was reported of the last step, by whose lack of memory or of a clock posting ends
abbrev pub LastOf : ℕ → StreamEnd → List Passing → Type 0
LastOf actor Memory last = last ≡ refusal_passages actor
LastOf actor Clock last = last ≡ spent_passages actor
LastOf actor End last = ⊥
LastOf actor (Cut n) last = ⊥
LastOf actor Read last = ⊥
LastOf actor (Wire fault) last = ⊥

abbrev pub LastPosted : ℕ → Option StreamEnd → List Passing → Type 0
LastPosted actor None last = last ≡ []
LastPosted actor (Some why) last = LastOf actor why last

-- A clock is reported as spent only where the actor's step said so, and memory where it did, or where none was asked:
-- then it was refused to read.
abbrev pub LastRead : ℕ → StreamEnd → List Passing → Type 0
LastRead actor Memory last = (last ≡ refusal_passages actor) ⊎ (last ≡ [])
LastRead actor Clock last = last ≡ spent_passages actor
LastRead actor End last = last ≡ []
LastRead actor (Cut n) last = last ≡ []
LastRead actor Read last = last ≡ []
LastRead actor (Wire fault) last = last ≡ []

-- WHAT A SEAT'S OUTBOX GOT: of each event for which it has gained a receipt, what that sent, once, with the actor and
-- the clock, in order
pub record HandsOn {E O B : Type 0} (got : B → List Put → Type 0) (sent : O → List (EnvelopeOf Cmd Reply PayOrder))
    (actor : ℕ) (seat_old seat_new : Held E O) (old new : B) : Type 0 where
  pub gained : List (Recorded E O)
  pub seat : seat_new ≡ record seat_old { receipts = seat_old.receipts ++ gained }
  pub puts : Hears got old new (puts sent actor gained)

-- WHAT ITS GATE HEARD: a step of the actor for each of them, and then this
pub record Passes {E O G : Type 0} (heard : G → List Passing → Type 0) (actor : ℕ) (seat_old seat_new : Held E O)
    (old new : G) (last : List Passing) : Type 0 where
  pub gained : List (Recorded E O)
  pub seat : seat_new ≡ record seat_old { receipts = seat_old.receipts ++ gained }
  pub passed : Hears heard old new (passages actor gained ++ last)

-- and how the last step ended, by why no more is posted, or read

pub record HasPosted {E O G : Type 0} (heard : G → List Passing → Type 0) (actor : ℕ) (seat_old seat_new : Held E O)
    (old new : G) (why : Option StreamEnd) : Type 0 where
  pub last : List Passing
  pub ends : LastPosted actor why last
  pub passes : Passes heard actor seat_old seat_new old new last

pub record HasPassed {E O G : Type 0} (heard : G → List Passing → Type 0) (actor : ℕ) (seat_old seat_new : Held E O)
    (old new : G) (why : StreamEnd) : Type 0 where
  pub last : List Passing
  pub ends : LastRead actor why last
  pub passes : Passes heard actor seat_old seat_new old new last
