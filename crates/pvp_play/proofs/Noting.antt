-- A player that makes notes makes them to the end, and one that makes none never does.
use Rattle.std.proofs.Common.{◌≡◌, ℕ, zero, suc, Bool, true, false, if◌then◌else◌, List, [], ◌∷◌, Option, Some, None, refl, ap, ◌∙◌}
use Rattle.std.specs.Prelude.{is_some}
use Rattle.vr_types.specs.declared.cell.BootCell.{Ghosts as Cell}
use Rattle.pvp_types.specs.declared.step.Step.{Step}
use Rattle.rand_pcg.specs.Lcg.{Lcg}
use Rattle.pvp_text.specs.declared.script.Line.{Line}
use Rattle.pvp_text.specs.declared.script.Statement.{Statement}
use Rattle.pvp_text.specs.declared.script.Statement.TheVariants.{Do, Print, Drain, Skip, Cut, Heal, Chaos, Rest}
use Rattle.pvp_world.specs.declared.fault.WorldFault.{WorldFault}
use Rattle.pvp_world.specs.Steps.{has_number}
use Rattle.pvp_trace.specs.declared.attempt.Attempt.{Attempt}
use Rattle.pvp_play.specs.declared.chaos.Act.{Act}
use Rattle.pvp_play.specs.declared.chaos.Act.TheVariants.{Drains as DrainsOne, Skips, Tries as TriesStep, Rests}
use Rattle.pvp_play.specs.declared.notes.Telling.{Telling}
use Rattle.pvp_play.specs.Chaos as chaos
use Rattle.pvp_play.specs.Chaos.{TakesTurn}
use Rattle.pvp_play.specs.Notes.{with_notes}
use Rattle.pvp_play.specs.Player.{Position, Tries, with_cut}
use Rattle.pvp_play.specs.Lines.{Does, Plays}
use Rattle.pvp_play.specs.Turns.{Turns}

some-with : (noted : Option (List Attempt)) (attempts : List Attempt) → is_some (with_notes noted attempts) ≡ is_some noted
some-with None attempts = refl
some-with (Some before) attempts = refl

module _ {B : Type 0} (c : Cell B) where
  abbrev Same : Position B → Position B → Type 0
  Same old new = is_some new.noted ≡ is_some old.noted

  noted-with : (old new : Position B) (attempts : List Attempt) → new.noted ≡ with_notes old.noted attempts → Same old new
  noted-with old new attempts is = ap is_some is ∙ some-with old.noted attempts

  noted-by : (old new is : Position B) → new ≡ is → is.noted ≡ old.noted → Same old new
  noted-by old new is e same = ap (λ (p : Position B). is_some p.noted) e ∙ ap is_some same

  tried-notes : (old new : Position B) (step : Step) (told : Option WorldFault) → Tries c old new step told → Same old new
  tried-notes old new step told tries = noted-with old new (tries.attempt ∷ []) tries.noted

  act-notes : (act : Act) (old new : Position B) → chaos.Does c act old new → Same old new
  act-notes DrainsOne old new does = noted-with old new does.attempts does.noted
  act-notes Skips old new does = noted-by old new _ does refl
  act-notes (TriesStep step) old new does = tried-notes old new step does.0 does.1
  act-notes Rests old new does = noted-by old new old does refl

  turns-note : (n : ℕ) (old new : Lcg × Position B) → Turns (TakesTurn c) n old new → Same old.1 new.1
  turns-note zero old new none = noted-by old.1 new.1 old.1 (ap (λ (p : Lcg × Position B). p.1) none) refl
  turns-note (suc n) old new (mid, turns, turn) = act-notes _ mid.1 new.1 turn.1 ∙ turns-note n old mid turns

  cut-notes : (old new : Position B) (actor : ℕ) (cut : List ℕ) → new ≡ with_cut old actor cut → Same old new
  cut-notes old new actor cut is = noted-by old new (with_cut old actor cut) is (by (has_number old.world actor))
    where
      by : (b : Bool) → (if b then record old { cut = cut } else old).noted ≡ old.noted
      by true = refl
      by false = refl

  line-notes : (statement : Statement) (old new : Position B) (told : Option WorldFault) → Does c statement old new told → Same old new
  line-notes (Do step) old new told does = tried-notes old new step told does
  line-notes Print old new told does = noted-by old new old does.0 refl
  line-notes (Drain turns) old new told does = noted-with old new does.0.attempts does.0.noted
  line-notes (Skip envelopes) old new told does = noted-by old new _ does.0 refl
  line-notes (Cut actor) old new told does = cut-notes old new actor _ does.0
  line-notes (Heal actor) old new told does = cut-notes old new actor _ does.0
  line-notes (Chaos seed turns) old new told does = turns-note turns _ _ does.0.1
  line-notes (Rest milliseconds) old new told does = noted-by old new old does.0 refl

  pub plays-note : (telling : Telling) (lines : List Line) (old new : Position B) (text : List ℕ) → Plays c telling lines old new text
      → is_some new.noted ≡ is_some old.noted
  plays-note telling [] old new text none = noted-by old new old none.0 refl
  plays-note telling (line ∷ lines) old new text plays =
      plays-note telling lines plays.between new plays.after plays.others ∙ line-notes line.statement old plays.between plays.first.told plays.first.does
