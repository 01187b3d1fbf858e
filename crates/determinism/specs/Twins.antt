-- Two worlds of one setup that have come the same way.
use Rattle.std.specs.Prelude.{◌≡◌}
use Rattle.vr_types.specs.declared.cell.Boot.{Boot}
use Rattle.pvp_world.specs.World.{ShownWorld, IsAt}
use Rattle.pvp_play.specs.Player.{Position}

-- they are of one setup, opened over equal values of cells, and have the same trail, which leads where each of them is
pub record AreTwins {B : Type 0} (held : B → Boot) (a b : ShownWorld B) : Type 0 where
  pub setup : a.setup ≡ b.setup
  pub opening : a.opening ≡ b.opening
  pub trail : a.trail ≡ b.trail
  pub one_at : IsAt held a
  pub other_at : IsAt held b

-- two players of such worlds, who went as far through the post, cut off the same actors, and noted the same
pub record AreTwinPlayers {B : Type 0} (held : B → Boot) (a b : Position B) : Type 0 where
  pub worlds : AreTwins held a.world b.world
  pub cursor : a.cursor ≡ b.cursor
  pub cut : a.cut ≡ b.cut
  pub noted : a.noted ≡ b.noted
