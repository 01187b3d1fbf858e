-- End states beside replays.
use Rattle.std.specs.Prelude.{◌≡◌, ℕ, ◌<◌, List, Some, slice_get}
use Rattle.pvp_rooms.specs.declared.actor.Actor.{Ghosts}
use Rattle.pvp_rooms.specs.Histories.{replay}
use Rattle.pvp_rooms.specs.declared.cell.Closed.{Closed}

-- the end states below a place read like the replays
abbrev pub AreAlike : {A N E O : Type 0} → (m : Ghosts A N E O) → List (Closed A N E O) → (ℕ → m.State) → ℕ → Type 0
AreAlike {A} {N} {E} {O} m closed start k =
    (j : ℕ) (c : Closed A N E O) → slice_get closed j ≡ Some c → j < k
    → m.reads c.end (replay m.after c.history.items (start j))

-- and the one at this place does not
pub record IsFirstUnlike {A N E O : Type 0} (m : Ghosts A N E O) (closed : List (Closed A N E O))
    (start : ℕ → m.State) (k : ℕ) : Type 0 where
  pub who : Closed A N E O
  pub is : slice_get closed k ≡ Some who
  pub before : AreAlike m closed start k
  pub unlike : ¬ m.reads who.end (replay m.after who.history.items (start k))
