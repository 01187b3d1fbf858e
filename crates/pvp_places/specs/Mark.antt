-- The mark of a folder.
use Rattle.std.specs.Prelude.{◌≡◌, ◌≢◌, ℕ, List, [], ◌++◌, codes}
use Rattle.pvp_places.specs.declared.mark.Mark.{Mark}
use Rattle.pvp_places.specs.declared.mark.Mark.TheVariants as marks

-- the folder does not stand yet; or all was synced before it left; or it was written in a run of the machine that has
-- this name
pub data Said : Type 0 where
  Begun : Said
  Synced : Said
  Written : List ℕ → Said

abbrev pub said_by : Mark → Said
said_by marks.Begun = Begun
said_by marks.Synced = Synced
said_by (marks.Written run) = Written run.now

abbrev pub mark_text : Said → List ℕ
mark_text Begun = codes "begun\n"
mark_text Synced = codes "synced\n"
mark_text (Written run) = codes "written " ++ run ++ codes "\n"

-- a journal of such a mark is whole in this run of the machine
abbrev pub IsWhole : Said → List ℕ → Type 0
IsWhole Begun run = ⊥
IsWhole Synced run = Unit {0}
IsWhole (Written other) run = (other ≡ run) × (run ≢ [])
