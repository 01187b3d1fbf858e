-- Steps that were tried, in words: what each was, its outcome, what it changed of its site, and what it sent.
use Rattle.std.specs.Prelude.{◌≡◌, ℕ, ◌-◌, ◌+◌, ◌==◌, List, [], ◌++◌, length, slice_get, if◌then◌else◌, Option, Some, None, option_and_then, Result, Ok, Err, codes, decimal}
use Rattle.std.specs.List.{flat_map, range_with_len}
use Rattle.std.specs.Option.{option_map_or}
use Rattle.pvp_types.specs.declared.setup.Setup.{Setup}
use Rattle.pvp_types.specs.declared.step.Step.{Step}
use Rattle.pvp_types.specs.declared.step.Step.TheVariants.{Deliver, PayIn, Close, Submit, Beat, Timer, Crash, Restart}
use Rattle.vr_types.specs.declared.cell.Boot.{Boot}
use Rattle.rtgs_node.specs.Node.{Envelope}
use Rattle.headline.specs.declared.step.Move.{Move}
use Rattle.headline.specs.declared.step.Move.TheVariants.{Takes, Falls}
use Rattle.pvp_world.specs.World.{ShownWorld}
use Rattle.pvp_world.specs.Steps.{Applies, is_world_fall}
use Rattle.pvp_world.specs.declared.fault.WorldFault.{WorldFault}
use Rattle.pvp_world.specs.declared.report.Report.{Report}
use Rattle.pvp_world.specs.Fault.{fault_text}
use Rattle.pvp_trace.specs.declared.attempt.Attempt.{Attempt}
use Rattle.pvp_trace.specs.Names.{currency_text, actor_text}
use Rattle.pvp_trace.specs.Words.{amount_text, command_text}
use Rattle.pvp_trace.specs.Messages.{kind_name, envelope_text}
use Rattle.pvp_trace.specs.Meanings.{meaning, why_text}
use Rattle.pvp_trace.specs.Stands.{stand_at, site_of, changes_text}

-- WHAT CAME OF A STEP

-- the cell of the site that fell last
abbrev pub cell_of : Option Move → Option Boot
cell_of None = None
cell_of (Some (Takes step)) = None
cell_of (Some (Falls step cell)) = Some cell

-- where the step ended as a fall, the cell of the site that fell
abbrev pub fell_by : Result Report WorldFault → List Move → Option Boot
fell_by (Ok report) trail = None
fell_by (Err fault) trail = if is_world_fall fault then cell_of (slice_get trail (length trail - 1)) else None

-- a step was tried in a world: it did with it what it does, and this is what came of it; was and now are where the site
-- of the step stands in the world before and after it
pub record Attempts {B : Type 0} (held : B → Boot) (old new : ShownWorld B) (asked : Step) (a : Attempt) : Type 0 where
  pub step : a.step ≡ asked
  pub applies : Applies held old new asked a.result
  pub fell : a.fell ≡ fell_by a.result new.trail
  pub was : a.was ≡ option_and_then (stand_at old) (site_of old.post asked)
  pub now : a.now ≡ option_and_then (stand_at new) (site_of old.post asked)
  pub before : a.before ≡ length old.post
  pub after : a.after ≡ length new.post

-- IN WORDS

-- the envelope of a number
abbrev pub envelope_of : List Envelope → ℕ → Option Envelope
envelope_of post number = if number == 0 then None else slice_get post (number - 1)

-- a step reads as the script's line that asks for it; a delivery says to whom it goes
abbrev pub step_text : Setup → List Envelope → Step → List ℕ
step_text setup post (Deliver number) =
    codes "deliver " ++ decimal number ++ option_map_or (λ e. codes " to " ++ actor_text setup e.to)
    (envelope_of post number) []
step_text setup post (PayIn ccy member amt) =
    codes "payin " ++ actor_text setup member ++ codes " " ++ amount_text setup ccy amt
step_text setup post (Close ccy member) =
    codes "close " ++ actor_text setup member ++ codes " " ++ currency_text setup ccy
step_text setup post (Submit client cmd) = codes "do " ++ actor_text setup client ++ codes " " ++ command_text setup cmd
step_text setup post (Beat actor) = codes "beat " ++ actor_text setup actor
step_text setup post (Timer site) = codes "timer s" ++ decimal site
step_text setup post (Crash site) = codes "crash s" ++ decimal site
step_text setup post (Restart site) = codes "restart s" ++ decimal site

-- of a delivery the kind of the message
abbrev pub kind_text : List Envelope → Step → List ℕ
kind_text post (Deliver number) = option_map_or (λ e. codes ", " ++ kind_name e.msg) (envelope_of post number) []
kind_text post _ = []

-- what came of it: why a site dropped it, or why it was refused
abbrev pub came_text : Result Report WorldFault → List ℕ
came_text (Ok report) = option_map_or (λ why. codes ": dropped, " ++ why_text why) report.dropped []
came_text (Err fault) = codes ": " ++ fault_text fault ++ codes ", " ++ meaning fault

-- what the boot cell of a site that fell by it holds
abbrev pub fell_text : Attempt → List ℕ
fell_text a = option_map_or (λ boot. codes ", its cell holds " ++ decimal boot.boots) a.fell []

-- the envelope of a number
abbrev pub sent_line : Setup → List Envelope → ℕ → List ℕ
sent_line setup post number =
    option_map_or (λ e. codes "   " ++ decimal number ++ codes "  " ++ envelope_text setup e
    ++ codes "\n") (envelope_of post number) []

-- all that it sent
abbrev pub sent_text : Setup → List Envelope → Attempt → List ℕ
sent_text setup post a = flat_map (sent_line setup post) (range_with_len (a.before + 1) (a.after - a.before))

-- its number among those that were tried, what it was, and what came of it
abbrev pub told_text : Setup → List Envelope → ℕ → Attempt → List ℕ
told_text setup post number a =
    decimal number ++ codes "  " ++ step_text setup post a.step ++ kind_text post a.step ++ came_text a.result
    ++ fell_text a ++ codes "\n"

-- A STEP THAT WAS TRIED: this, what it changed of its site, and what it sent
abbrev pub attempt_text : Setup → List Envelope → ℕ → Attempt → List ℕ
attempt_text setup post number a = told_text setup post number a ++ changes_text a.was a.now ++ sent_text setup post a
