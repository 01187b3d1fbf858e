-- Which lines of a script were refused.
use Rattle.std.specs.Prelude.{ℕ, ◌+◌, ◌==◌, min, List, ◌++◌, Option, Some, None, if◌then◌else◌, codes, decimal}
use Rattle.pvp_world.specs.declared.fault.WorldFault.{WorldFault}
use Rattle.pvp_world.specs.Fault.{fault_text}
use Rattle.pvp_live.specs.declared.refusals.Refused.{Refused}

-- THE TALLY after one line more, which was refused for this fault, if for any: the first that was refused stays
abbrev pub refused_after : Option Refused → ℕ → Option WorldFault → Option Refused
refused_after before line None = before
refused_after None line (Some fault) = Some (record { count = 1; line = line; fault = fault })
refused_after (Some first) line (Some fault) = Some (record first { count = min (first.count + 1) 4294967295 })

-- how it is reported
abbrev pub refused_text : Refused → List ℕ
refused_text refused =
    if refused.count == 1
    then codes "1 line was refused: line " ++ decimal refused.line ++ codes ", " ++ fault_text refused.fault
    else decimal refused.count ++ codes " lines were refused: the first, line " ++ decimal refused.line ++ codes ", "
    ++ fault_text refused.fault
