-- What fits its fields: each number fits the bytes that it has.
use Rattle.std.specs.Prelude.{◌≡◌, ℕ, ◌<◌, true, All, List}
use Rattle.pvp_wire.specs.declared.stamped.Stamped.{Stamped}
use Rattle.pvp_wire.specs.Layout.{stamp, MessageFits}
use Rattle.pvp_wire.specs.Spelling.{is_wireable}
pub use Rattle.pvp_wire.specs.Shape.{Fits}

abbrev pub StampedFits : Stamped → Type 0
StampedFits s = stamp.Fits s.stamp × Fits 2 s.envelope.to × MessageFits s.envelope.msg

-- a list of bytes
abbrev pub IsBytes : List ℕ → Type 0
IsBytes bytes = All (λ b. b < 256) bytes

-- what has a spelling: it fits, its actors are actors, its rows are of clients, and its boot numbers are those of 1 to
-- 7 sites
pub record IsSpelled (s : Stamped) : Type 0 where
  pub fits : StampedFits s
  pub wireable : is_wireable s ≡ true
