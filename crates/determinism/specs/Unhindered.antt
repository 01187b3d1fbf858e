-- Steps that neither a refused growth nor a failed save hindered.
use Rattle.std.specs.Prelude.{◌≡◌, Bool, true, false, List, [], ◌∷◌, Option, Some, None, Result, Ok, Err}
use Rattle.pvp_world.specs.declared.fault.WorldFault.{WorldFault}
use Rattle.pvp_world.specs.declared.report.Report.{Report}
use Rattle.pvp_world.specs.Refusals.{hinders}
use Rattle.pvp_trace.specs.declared.attempt.Attempt.{Attempt}

-- a step that was tried was hindered
abbrev pub is_hindered : Result Report WorldFault → Bool
is_hindered (Ok report) = false
is_hindered (Err fault) = hinders fault

-- none of these was
abbrev pub AreFree : List Attempt → Type 0
AreFree [] = Unit {0}
AreFree (a ∷ more) = (is_hindered a.result ≡ false) × AreFree more

-- why a step was refused, if it was
abbrev pub refused_as : Result Report WorldFault → Option WorldFault
refused_as (Ok report) = None
refused_as (Err why) = Some why
