-- What a player shows, and what its calls do in a world.
use Rattle.std.specs.Prelude.{◌≡◌, ◌≢◌, ℕ, ◌+◌, ◌==◌, ◌||◌, ◌<◌, Bool, true, false, not, List, [], ◌∷◌, ◌++◌, length, take, drop, filter, fold, min, if◌then◌else◌, Option, Some, None, Result, Ok, Err}
use Rattle.std.specs.List.{list_any, enumerate_from, filter_map}
use Rattle.vr_types.specs.declared.cell.BootCell.{Ghosts as Cell}
use Rattle.rtgs_node.specs.Node.{Envelope}
use Rattle.pvp_types.specs.declared.step.Step.{Step}
use Rattle.pvp_types.specs.declared.step.Step.TheVariants as steps
use Rattle.pvp_world.specs.declared.fault.WorldFault.{WorldFault}
use Rattle.pvp_world.specs.declared.fault.WorldFault.TheVariants.{NoSuchActor, NoMemory}
use Rattle.pvp_world.specs.declared.report.Report.{Report}
use Rattle.pvp_world.specs.World.{ShownWorld}
use Rattle.pvp_world.specs.Steps.{TellsFailures, IsTurn, has_number}
use Rattle.pvp_trace.specs.declared.attempt.Attempt.{Attempt}
use Rattle.pvp_trace.specs.Attempts.{Attempts}
use Rattle.pvp_play.specs.Notes.{with_notes}

-- WHAT A PLAYER SHOWS
pub record Position (B : Type 0) : Type 0 where
  pub world : ShownWorld B
  pub cursor : ℕ  -- the number of the envelope up to which the post was gone through
  pub cut : List ℕ  -- the actors that are cut off
  pub noted : Option (List Attempt)  -- the steps that were tried, where they are noted

-- nothing was gone through yet, and no actor is cut off
abbrev pub beginning : {B : Type 0} → Option (List Attempt) → ShownWorld B → Position B
beginning noted world = record { world = world; cursor = 0; cut = []; noted = noted }

-- A STEP IS TRIED

-- why it was refused, if it was
abbrev pub refusal_in : Result Report WorldFault → Option WorldFault
refusal_in (Ok report) = None
refusal_in (Err fault) = Some fault

-- the world did with it what it does, and did not want for memory, which would end the play
pub record TriesIn {B : Type 0} (c : Cell B) (old new : ShownWorld B) (step : Step) (attempt : Attempt) : Type 0 where
  pub attempts : Attempts c.held old new step attempt
  pub tells : TellsFailures c old new step attempt.result
  pub had_memory : refusal_in attempt.result ≢ Some NoMemory

-- the player tries it, and notes that where it makes notes; all else stays
pub record Tries {B : Type 0} (c : Cell B) (old new : Position B) (step : Step) (told : Option WorldFault)
    : Type 0 where
  pub attempt : Attempt
  pub tried : TriesIn c old.world new.world step attempt
  pub is_told : told ≡ refusal_in attempt.result
  pub noted : new.noted ≡ with_notes old.noted (attempt ∷ [])
  pub cursor : new.cursor ≡ old.cursor
  pub cut : new.cut ≡ old.cut

-- a step for which memory may be refused: its envelope and its actor are there, or it is to be noted
abbrev pub TakesMemory : {B : Type 0} → Position B → Step → Type 0
TakesMemory p step = p.noted ≡ None → IsTurn p.world step true

-- memory was refused for it: all is as it was
pub record Wants {B : Type 0} (old new : Position B) (step : Step) : Type 0 where
  pub there : TakesMemory old step
  pub stays : new ≡ old

-- THE CURSOR

abbrev pub is_among : List ℕ → ℕ → Bool
is_among actors actor = list_any (λ a. a == actor) actors

-- it goes between actors of whom none is cut off
abbrev pub is_open : List ℕ → Envelope → Bool
is_open cut envelope = not (is_among cut envelope.from || is_among cut envelope.to)

-- the number of an envelope that is open
abbrev pub open_number : List ℕ → ℕ × Envelope → Option ℕ
open_number cut (number, envelope) = if is_open cut envelope then Some number else None

-- the numbers of the open envelopes after the cursor, in order
abbrev pub open_after : List ℕ → ℕ → List Envelope → List ℕ
open_after cut cursor post = filter_map (open_number cut) (enumerate_from (cursor + 1) (drop cursor post))

abbrev pub with_cursor : {B : Type 0} → Position B → ℕ → Position B
with_cursor p number = record p { cursor = number }

-- so many envelopes are passed over, at most to the end of the post
abbrev pub after_skip : {B : Type 0} → Position B → ℕ → Position B
after_skip p n = with_cursor p (min (p.cursor + n) (length p.world.post))

-- envelopes are delivered one after another, whether that is refused or not
abbrev pub AreDelivered : {B : Type 0} → Cell B → List ℕ → List Attempt → ShownWorld B → ShownWorld B → Type 0
AreDelivered c [] [] old new = new ≡ old
AreDelivered c [] (attempt ∷ attempts) old new = ⊥
AreDelivered c (number ∷ numbers) [] old new = ⊥
AreDelivered {B} c (number ∷ numbers) (attempt ∷ attempts) old new =
    (mid : ShownWorld B) × TriesIn c old mid (steps.Deliver number) attempt × AreDelivered c numbers attempts mid new

-- where the cursor stands after these were delivered: at the last of them, and at the post's end where they are too few
abbrev pub cursor_after : ℕ → List ℕ → ℕ → ℕ → ℕ
cursor_after turns delivered cursor end =
    if length delivered == turns then fold (λ before number. number) cursor delivered else end

-- THE NEXT OPEN ENVELOPES ARE DELIVERED, so many at most, in order: those of the post as it then is, which what they
-- lead to may have made longer
pub record Drains {B : Type 0} (c : Cell B) (turns : ℕ) (old new : Position B) : Type 0 where
  pub delivered : List ℕ
  pub which : delivered ≡ take turns (open_after old.cut old.cursor new.world.post)
  pub attempts : List Attempt
  pub are_delivered : AreDelivered c delivered attempts old.world new.world
  pub noted : new.noted ≡ with_notes old.noted attempts
  pub cursor : new.cursor ≡ cursor_after turns delivered old.cursor (length new.world.post)
  pub cut : new.cut ≡ old.cut

-- Memory was refused for one of them: those before it are delivered, and the cursor stands at the last of these.
pub record DrainStops {B : Type 0} (c : Cell B) (turns : ℕ) (old new : Position B) : Type 0 where
  pub delivered : List ℕ
  pub number : ℕ
  pub which : delivered ++ number ∷ [] ≡ take (length delivered + 1) (open_after old.cut old.cursor new.world.post)
  pub few : length delivered < turns
  pub attempts : List Attempt
  pub are_delivered : AreDelivered c delivered attempts old.world new.world
  pub noted : new.noted ≡ with_notes old.noted attempts
  pub there : TakesMemory new (steps.Deliver number)
  pub cursor : new.cursor ≡ fold (λ before number. number) old.cursor delivered
  pub cut : new.cut ≡ old.cut

-- THE CUTS. What is cut off twice, or heals unhurt, stays as it is; an unknown actor is refused.

abbrev pub cut_off : List ℕ → ℕ → List ℕ
cut_off cut actor = if is_among cut actor then cut else cut ++ actor ∷ []

abbrev pub cut_without : List ℕ → ℕ → List ℕ
cut_without cut actor = filter (λ a. not (a == actor)) cut

-- the cuts are changed so, where the actor is there
abbrev pub with_cut : {B : Type 0} → Position B → ℕ → List ℕ → Position B
with_cut p actor cut = if has_number p.world actor then record p { cut = cut } else p

abbrev pub unknown_actor : {B : Type 0} → Position B → ℕ → Option WorldFault
unknown_actor p actor = if has_number p.world actor then None else Some NoSuchActor

-- Memory was refused to cut an actor off: it is there and not cut off yet, and all is as it was.
pub record CutStops {B : Type 0} (old new : Position B) (actor : ℕ) : Type 0 where
  pub there : has_number old.world actor ≡ true
  pub not_cut : is_among old.cut actor ≡ false
  pub stays : new ≡ old
