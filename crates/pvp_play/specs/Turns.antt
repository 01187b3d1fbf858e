-- Turns one after another; and one turn of a drain, for the player's own calls.
use Rattle.std.specs.Prelude.{◌≡◌, ℕ, [], ◌∷◌, zero, suc, ◌+◌, length, drop, Option, Some, None}
use Rattle.std.specs.List.{position_from}
use Rattle.vr_types.specs.declared.cell.BootCell.{Ghosts as Cell}
use Rattle.pvp_types.specs.declared.step.Step.TheVariants.{Deliver}
use Rattle.pvp_trace.specs.declared.attempt.Attempt.{Attempt}
use Rattle.pvp_play.specs.Notes.{with_notes}
use Rattle.pvp_play.specs.Player.{Position, TriesIn, Wants, is_open, with_cursor}

-- so many turns are taken, one after another
abbrev pub Turns : {S : Type 0} → (S → S → Type 0) → ℕ → S → S → Type 0
Turns Turn zero old new = new ≡ old
Turns {S} Turn (suc n) old new = (mid : S) × Turns Turn n old mid × Turn mid new

-- the number of the next open envelope after the cursor
abbrev pub next_open : {B : Type 0} → Position B → Option ℕ
next_open p = position_from (is_open p.cut) (p.cursor + 1) (drop p.cursor p.world.post)

-- an envelope was delivered, and the cursor moved to it
pub record DrainsOne {B : Type 0} (c : Cell B) (old new : Position B) (number : ℕ) : Type 0 where
  pub attempt : Attempt
  pub tried : TriesIn c old.world new.world (Deliver number) attempt
  pub noted : new.noted ≡ with_notes old.noted (attempt ∷ [])
  pub cursor : new.cursor ≡ number
  pub cut : new.cut ≡ old.cut

-- the next open one was; where none is left, the cursor moved to the post's end
abbrev pub DrainsTo : {B : Type 0} → Cell B → Position B → Position B → Option ℕ → Type 0
DrainsTo c old new None = new ≡ with_cursor old (length old.world.post)
DrainsTo c old new (Some number) = DrainsOne c old new number

-- memory was refused for it
abbrev pub WantsTo : {B : Type 0} → Position B → Position B → Option ℕ → Type 0
WantsTo old new None = ⊥
WantsTo old new (Some number) = Wants old new (Deliver number)
