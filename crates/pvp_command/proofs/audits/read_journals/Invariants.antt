use Rattle.std.proofs.Common.{◌≡◌, map, take}
use Rattle.pvp_command.specs.Audits.{AreReadFrom}
use Rattle.pvp_command.proofs.audits.read_journals.Given as goal

-- the files so far read as these journals, and the place is theirs
abbrev pub invariant-loop-name : goal.invariant-loop-name
invariant-loop-name g l =
    (l.place ≡ l.name-index) × AreReadFrom (g.F.Files.known l.files) (map (λ name. name.now) (take l.name-index l.names)) l.journals.items
