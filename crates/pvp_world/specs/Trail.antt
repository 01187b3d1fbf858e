-- The trail of a world, as it lies in memory.
use Rattle.std.specs.Prelude.{ℕ, ◌-◌, ◌<◌, List, length, slice_index_or, min, Vec, vec_len, vec_capacity}
use Rattle.std.specs.Global.{Global}
use Rattle.pvp_types.specs.declared.step.Step.TheVariants.{Deliver}
use Rattle.headline.specs.declared.step.Move.{Move}
use Rattle.headline.specs.declared.step.Move.TheVariants.{Takes}
use Rattle.pvp_world.specs.declared.trail.TrailEntry.{TrailEntry}
use Rattle.pvp_world.specs.declared.trail.TrailEntry.TheVariants.{Delivery, Other}

-- WHAT A TRAIL SHOWS: the moves that were made, and the number of moves that there is still room for
pub record Moves : Type 0 where
  pub items : List Move
  pub room : ℕ

-- the move that an entry stands for, where these are the moves that are not deliveries
abbrev pub move_of : List Move → TrailEntry → Move
move_of others (Delivery number) = Takes (Deliver number)
move_of others (Other place) = slice_index_or others place (Takes (Deliver 0))

-- it stands for a move that is there
abbrev pub IsThere : List Move → TrailEntry → Type 0
IsThere others (Delivery number) = Unit {0}
IsThere others (Other place) = place < length others

-- for how many moves both have room
abbrev pub room_in : Vec TrailEntry Global → Vec Move Global → ℕ
room_in entries others = min (vec_capacity entries - vec_len entries) (vec_capacity others - vec_len others)
