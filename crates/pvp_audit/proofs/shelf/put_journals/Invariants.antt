use Rattle.std.proofs.Common.{map, take}
use Rattle.pvp_audit.specs.Shelves.{Gets, file_of}
use Rattle.pvp_audit.proofs.shelf.put_journals.Given as goal

-- the files of the actors so far came
abbrev pub invariant-loop-left : goal.invariant-loop-left
invariant-loop-left g l = Gets (map (file_of l.folder l.fn.setup l.bank) (take l.left-index l.closed)) (g.S.Shelf.files l.fn.shelf) (g.S.Shelf.files l.shelf)
