-- Plays of a script that neither a refused growth nor a failed save hindered.
use Rattle.std.specs.Prelude.{◌≡◌, ℕ, zero, suc, false, List, [], ◌∷◌, Option}
use Rattle.pvp_types.specs.declared.setup.Setup.{Setup}
use Rattle.pvp_types.specs.declared.step.Step.{Step}
use Rattle.vr_types.specs.declared.cell.BootCell.{Ghosts as Cell}
use Rattle.vr_types.specs.declared.cell.MemCell.{MemCell}
use Rattle.vr_types.specs.contracts.cell.MemCellBootCell.TheImpl.{ghosts as memory}
use Rattle.rand_pcg.specs.Lcg.{Lcg}
use Rattle.pvp_world.specs.declared.fault.WorldFault.{WorldFault}
use Rattle.pvp_text.specs.declared.script.Line.{Line}
use Rattle.pvp_text.specs.declared.script.Statement.{Statement}
use Rattle.pvp_text.specs.declared.script.Statement.TheVariants.{Do, Drain, Chaos}
use Rattle.pvp_play.specs.declared.cells.Fail.{Fail}
use Rattle.pvp_play.specs.declared.chaos.Act.{Act}
use Rattle.pvp_play.specs.declared.chaos.Act.TheVariants as act
use Rattle.pvp_play.specs.declared.notes.Telling.{Telling}
use Rattle.pvp_play.specs.Chaos as chaos
use Rattle.pvp_play.specs.Chaos.{TakesTurn, next_act, words_of}
use Rattle.pvp_play.specs.Lines.{Does, Plays, IsOpening}
use Rattle.pvp_play.specs.Player.{Position, Tries}
use Rattle.pvp_play.specs.Turns.{Turns}
use Rattle.determinism.specs.Unhindered.{is_hindered, AreFree}

-- a step that was tried
abbrev pub IsFree : {B : Type 0} (c : Cell B) (old new : Position B) (step : Step) (told : Option WorldFault)
    → Tries c old new step told → Type 0
IsFree c old new step told tries = is_hindered tries.attempt.result ≡ false

-- what a turn of chaos does
abbrev pub ActIsFree : {B : Type 0} (c : Cell B) (a : Act) (old new : Position B) → chaos.Does c a old new → Type 0
ActIsFree c act.Drains old new does = AreFree does.attempts
ActIsFree c act.Skips old new does = Unit {0}
ActIsFree c (act.Tries step) old new does = IsFree c old new step does.0 does.1
ActIsFree c act.Rests old new does = Unit {0}

-- turns of chaos
abbrev pub TurnsAreFree : {B : Type 0} (c : Cell B) (n : ℕ) (old new : Lcg × Position B) → Turns (TakesTurn c) n old new
    → Type 0
TurnsAreFree c zero old new turns = Unit {0}
TurnsAreFree c (suc n) old new turns =
    TurnsAreFree c n old turns.0 turns.1 × ActIsFree c (next_act turns.0.1.world turns.0.0) turns.0.1 new.1 turns.2.1

-- what a line does
abbrev pub LineIsFree : {B : Type 0} (c : Cell B) (s : Statement) (old new : Position B) (told : Option WorldFault)
    → Does c s old new told → Type 0
LineIsFree c (Do step) old new told does = IsFree c old new step told does
LineIsFree c (Drain turns) old new told does = AreFree does.0.attempts
LineIsFree c (Chaos seed turns) old new told does = TurnsAreFree c turns (words_of seed, old) (does.0.0, new) does.0.1
LineIsFree c _ old new told does = Unit {0}

-- lines one after another
abbrev pub PlaysFreely : {B : Type 0} (c : Cell B) (telling : Telling) (lines : List Line) (old new : Position B)
    (text : List ℕ) → Plays c telling lines old new text → Type 0
PlaysFreely c telling [] old new text plays = Unit {0}
PlaysFreely c telling (line ∷ lines) old new text plays =
    LineIsFree c line.statement old plays.between plays.first.told plays.first.does
    × PlaysFreely c telling lines plays.between new plays.after plays.others

-- A PLAY of these lines in a new world of a setup, that nothing hindered, and what it printed
pub record FreePlay (setup : Setup) (fails : List Fail) (telling : Telling) (lines : List Line) : Type 0 where
  pub first : Position MemCell
  pub opens : IsOpening setup fails telling first
  pub end : Position MemCell
  pub text : List ℕ
  pub plays : Plays memory telling lines first end text
  pub free : PlaysFreely memory telling lines first end text plays
