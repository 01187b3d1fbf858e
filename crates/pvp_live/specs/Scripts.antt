-- A run that was judged, as the script of a play.
use Rattle.std.specs.Prelude.{ℕ, Bool, true, false, List, [], ◌++◌, length, nat_le, if◌then◌else◌, codes, decimal}
use Rattle.std.specs.List.{flat_map, list_any}
use Rattle.pvp_types.specs.declared.setup.Setup.{Setup}
use Rattle.pvp_types.specs.declared.step.Step.{Step}
use Rattle.pvp_types.specs.declared.step.Step.TheVariants.{Deliver}
use Rattle.headline.specs.declared.step.Move.{Move}
use Rattle.headline.specs.declared.step.Move.TheVariants.{Takes, Falls}
use Rattle.pvp_trace.specs.Attempts.{step_text}
use Rattle.pvp_audit.specs.declared.verdict.Verdict.{Verdict}
use Rattle.pvp_audit.specs.declared.verdict.Verdict.TheVariants.{Yes, No}
use Rattle.pvp_live.specs.Told.{verdict_text}

-- the line that asks for a step: that of a delivery names no receiver
abbrev pub asked_text : Setup → Step → List ℕ
asked_text setup (Deliver number) = codes "deliver " ++ decimal number
asked_text setup step = step_text setup [] step

-- nothing asks for a fall, so it has no line
abbrev pub line_text : Setup → Move → List ℕ
line_text setup (Takes step) = asked_text setup step ++ codes "\n"
line_text setup (Falls step cell) = []

abbrev pub is_fall : Move → Bool
is_fall (Takes step) = false
is_fall (Falls step cell) = true

-- the lines of all steps, and one that prints the books; or why there is no script: a site fell, or there are more
-- steps than a script has lines
abbrev pub lines_text : Setup → List Move → List ℕ
lines_text setup trail =
    if list_any is_fall trail then codes "# a site fell, and no line of a script asks for that\n"
    else if nat_le (length trail) 65533 then flat_map (line_text setup) trail ++ codes "print\n"
    else codes "# there are more steps than a script has lines\n"

-- THE SCRIPT of a Yes, or the line of a No
abbrev pub script_text : Verdict → List ℕ
script_text (Yes world) = lines_text world.setup world.trail ++ codes "# audit yes\n"
script_text (No actor event why) = verdict_text (No actor event why)
