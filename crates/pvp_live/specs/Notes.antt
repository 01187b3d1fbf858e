-- What a live run reports while it runs, in words.
use Rattle.std.specs.Prelude.{ℕ, List, [], ◌++◌, Option, Some, None, codes, decimal}
use Rattle.std.specs.List.{flat_map}
use Rattle.pvp_types.specs.declared.setup.Setup.{Setup}
use Rattle.vr_types.specs.declared.event.Status.{Status}
use Rattle.vr_types.specs.declared.event.Status.TheVariants.{Normal, Change, Recovering, Down}
use Rattle.pvp_world.specs.declared.fault.WorldFault.{WorldFault}
use Rattle.pvp_world.specs.Fault.{fault_text}
use Rattle.pvp_trace.specs.Meanings.{meaning, why_text}
use Rattle.pvp_trace.specs.Names.{actor_text}
use Rattle.pvp_live.specs.declared.board.Frames.{Frames}
use Rattle.pvp_live.specs.declared.effects.Effect.{Effect}
use Rattle.pvp_live.specs.declared.effects.Effect.TheVariants as did
use Rattle.pvp_live.specs.declared.sighting.Sighting.{Sighting}

-- WHERE THE SITES STAND

abbrev pub end_text : Status → ℕ → List ℕ
end_text Normal view = codes "normal in view " ++ decimal view
end_text Change view = codes "in change to view " ++ decimal view
end_text Recovering view = codes "recovering"
end_text Down view = codes "down"

-- a site by its name
abbrev pub sighting_text : Setup → Sighting → List ℕ
sighting_text setup sighting = actor_text setup sighting.actor ++ codes " " ++ end_text sighting.status sighting.view

-- one of several looks: of an actor that is no site nothing is reported
abbrev pub look_text : Setup → Option Sighting → List ℕ
look_text setup (Some sighting) = sighting_text setup sighting ++ codes ", "
look_text setup None = []

abbrev pub frames_text : Frames → List ℕ
frames_text frames = decimal frames.sent ++ codes " frames sent, " ++ decimal frames.came ++ codes " came\n"

-- what is reported behind a line
abbrev pub sites_text : Setup → ℕ → List (Option Sighting) → Frames → List ℕ
sites_text setup line looks frames =
    codes "line " ++ decimal line ++ codes ": " ++ flat_map (look_text setup) looks ++ frames_text frames

-- WHAT CAME OF A LINE

abbrev pub count_text : ℕ → List ℕ
count_text count = codes "sends " ++ decimal count

-- a refusal, by its code and what that means
abbrev pub refusal_text : WorldFault → List ℕ
refusal_text fault = fault_text fault ++ codes ", " ++ meaning fault

-- what an event did
abbrev pub effect_text : Effect → List ℕ
effect_text (did.Sent count) = count_text count
effect_text (did.Dropped why) = codes "dropped, " ++ why_text why
effect_text (did.Refused fault) = refusal_text fault
effect_text did.ClockSpent = codes "there is no greater clock"
