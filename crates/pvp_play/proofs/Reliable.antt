-- Over cells whose saves do not fail no line tells a failed save, and it leaves them so.
use Rattle.std.proofs.Common.{◌≡◌, ◌≢◌, ℕ, zero, suc, Bool, true, false, if◌then◌else◌, List, [], ◌∷◌, Option, Some, None, Result, Ok, Err, refl, sym, ap, ◌∙◌, subst}
use Rattle.vr_types.specs.declared.cell.BootCell.{Ghosts as Cell}
use Rattle.vr_types.specs.declared.event.SiteFault.TheVariants.{CellFault}
use Rattle.pvp_types.specs.declared.step.Step.{Step}
use Rattle.rand_pcg.specs.Lcg.{Lcg}
use Rattle.pvp_text.specs.declared.script.Line.{Line}
use Rattle.pvp_text.specs.declared.script.Statement.{Statement}
use Rattle.pvp_text.specs.declared.script.Statement.TheVariants.{Do, Print, Drain, Skip, Cut, Heal, Chaos, Rest}
use Rattle.pvp_world.specs.declared.fault.WorldFault.{WorldFault}
use Rattle.pvp_world.specs.declared.fault.WorldFault.TheVariants.{Site, NoSuchActor}
use Rattle.pvp_world.specs.declared.report.Report.{Report}
use Rattle.pvp_world.specs.World.{ShownWorld}
use Rattle.pvp_world.specs.Steps.{AreReliable, has_number}
use Rattle.pvp_trace.specs.declared.attempt.Attempt.{Attempt}
use Rattle.pvp_play.specs.declared.chaos.Act.{Act}
use Rattle.pvp_play.specs.declared.notes.Telling.{Telling}
use Rattle.pvp_play.specs.declared.chaos.Act.TheVariants.{Drains as DrainsOne, Skips, Tries as TriesStep, Rests}
use Rattle.pvp_play.specs.Chaos as chaos
use Rattle.pvp_play.specs.Chaos.{TakesTurn, Rages}
use Rattle.pvp_play.specs.Player.{Position, refusal_in, Tries, AreDelivered, with_cut, unknown_actor}
use Rattle.pvp_play.specs.Lines.{Does, Plays}
use Rattle.pvp_play.specs.Turns.{Turns}

-- a result that is no failed save is told as none
told-other : (result : Result Report WorldFault) (told : Option WorldFault) → told ≡ refusal_in result → result ≢ Err (Site CellFault)
    → told ≢ Some (Site CellFault)
told-other (Ok report) told is other e = cc
told-other (Err fault) told is other e = other (same fault told is e)
  where
    same : (fault : WorldFault) (told : Option WorldFault) → told ≡ Some fault → told ≡ Some (Site CellFault)
        → ◌≡◌ {A = Result Report WorldFault} (Err fault) (Err (Site CellFault))
    same fault told d e = cc

none-other : (told : Option WorldFault) → told ≡ None → told ≢ Some (Site CellFault)
none-other told none e = cc

module _ {B : Type 0} (c : Cell B) where
  abbrev Keeps : ShownWorld B → ShownWorld B → Type 0
  Keeps old new = AreReliable c old → AreReliable c new

  same-keeps : (old new : ShownWorld B) → new ≡ old → Keeps old new
  same-keeps old new e all = subst (AreReliable c) (sym e) all

  tried-keeps : (old new : Position B) (step : Step) (told : Option WorldFault) → Tries c old new step told
      → AreReliable c old.world → AreReliable c new.world × (told ≢ Some (Site CellFault))
  tried-keeps old new step told tries all =
      let kept = tries.tried.tells.reliable all in
      (kept.0, told-other tries.attempt.result told tries.is_told kept.1)

  delivered-keep : (ns : List ℕ) (attempts : List Attempt) (old new : ShownWorld B) → AreDelivered c ns attempts old new → Keeps old new
  delivered-keep [] [] old new none all = same-keeps old new none all
  delivered-keep [] (a ∷ attempts) old new none all = absurd none
  delivered-keep (n ∷ ns) [] old new none all = absurd none
  delivered-keep (n ∷ ns) (a ∷ attempts) old new (mid, one, rest) all = delivered-keep ns attempts mid new rest (one.tells.reliable all).0

  act-keeps : (act : Act) (old new : Position B) → chaos.Does c act old new → Keeps old.world new.world
  act-keeps DrainsOne old new does all = delivered-keep does.delivered does.attempts old.world new.world does.are_delivered all
  act-keeps Skips old new does all = same-keeps old.world new.world (ap (λ (p : Position B). p.world) does) all
  act-keeps (TriesStep step) old new does all = (tried-keeps old new step does.0 does.1 all).0
  act-keeps Rests old new does all = same-keeps old.world new.world (ap (λ (p : Position B). p.world) does) all

  turns-keep : (n : ℕ) (old new : Lcg × Position B) → Turns (TakesTurn c) n old new → Keeps old.1.world new.1.world
  turns-keep zero old new none all = same-keeps old.1.world new.1.world (ap (λ (p : Lcg × Position B). p.1.world) none) all
  turns-keep (suc n) old new (mid, turns, turn) all = act-keeps _ mid.1 new.1 turn.1 (turns-keep n old mid turns all)

  quiet-keeps : (old new : ShownWorld B) (told : Option WorldFault) → Keeps old new → told ≡ None → AreReliable c old
      → AreReliable c new × (told ≢ Some (Site CellFault))
  quiet-keeps old new told keeps none all = (keeps all, none-other told none)

  with-cut : (p : Position B) (actor : ℕ) (cut : List ℕ) → (with_cut p actor cut).world ≡ p.world
  with-cut p actor cut = by (has_number p.world actor)
    where
      by : (b : Bool) → (if b then record p { cut = cut } else p).world ≡ p.world
      by true = refl
      by false = refl

  cut-told : (p : Position B) (actor : ℕ) → unknown_actor p actor ≢ Some (Site CellFault)
  cut-told p actor = by (has_number p.world actor)
    where
      by : (b : Bool) → ◌≢◌ {A = Option WorldFault} (if b then None else Some NoSuchActor) (Some (Site CellFault))
      by true e = cc
      by false e = cc

  cut-keeps : (old new : Position B) (actor : ℕ) (cut : List ℕ) (told : Option WorldFault) → new ≡ with_cut old actor cut → told ≡ unknown_actor old actor
      → AreReliable c old.world → AreReliable c new.world × (told ≢ Some (Site CellFault))
  cut-keeps old new actor cut told is why all =
      (same-keeps old.world new.world (ap (λ (p : Position B). p.world) is ∙ with-cut old actor cut) all, λ e. cut-told old actor (sym why ∙ e))

  pub line-keeps : (statement : Statement) (old new : Position B) (told : Option WorldFault) → Does c statement old new told
      → AreReliable c old.world → AreReliable c new.world × (told ≢ Some (Site CellFault))
  line-keeps (Do step) old new told does = tried-keeps old new step told does
  line-keeps Print old new told does = quiet-keeps old.world new.world told (same-keeps old.world new.world (ap (λ (p : Position B). p.world) does.0)) does.1
  line-keeps (Drain turns) old new told does =
      quiet-keeps old.world new.world told (delivered-keep does.0.delivered does.0.attempts old.world new.world does.0.are_delivered) does.1
  line-keeps (Skip envelopes) old new told does =
      quiet-keeps old.world new.world told (same-keeps old.world new.world (ap (λ (p : Position B). p.world) does.0)) does.1
  line-keeps (Cut actor) old new told does = cut-keeps old new actor _ told does.0 does.1
  line-keeps (Heal actor) old new told does = cut-keeps old new actor _ told does.0 does.1
  line-keeps (Chaos seed turns) old new told does = quiet-keeps old.world new.world told (turns-keep turns _ _ does.0.1) does.1
  line-keeps (Rest milliseconds) old new told does =
      quiet-keeps old.world new.world told (same-keeps old.world new.world (ap (λ (p : Position B). p.world) does.0)) does.1

  pub plays-keep : (telling : Telling) (lines : List Line) (old new : Position B) (text : List ℕ) → Plays c telling lines old new text
      → Keeps old.world new.world
  plays-keep telling [] old new text none all = same-keeps old.world new.world (ap (λ (p : Position B). p.world) none.0) all
  plays-keep telling (line ∷ lines) old new text plays all = plays-keep telling lines plays.between new plays.after plays.others (plays.first.reliable all).0
