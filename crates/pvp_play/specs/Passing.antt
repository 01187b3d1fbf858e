-- What a line that tries no step did to the cuts and the cursor, and what a drain passed over, in words.
use Rattle.std.specs.Prelude.{ℕ, ◌+◌, ◌-◌, ◌==◌, Bool, false, not, nat_lt, if◌then◌else◌, List, [], ◌∷◌, ◌++◌, filter, Option, Some, None, codes, decimal}
use Rattle.std.specs.List.{flat_map, range_with_len}
use Rattle.std.specs.Option.{option_map_or}
use Rattle.pvp_types.specs.declared.setup.Setup.{Setup}
use Rattle.rtgs_node.specs.Node.{Envelope}
use Rattle.pvp_world.specs.declared.fault.WorldFault.{WorldFault}
use Rattle.pvp_text.specs.declared.script.Statement.{Statement}
use Rattle.pvp_text.specs.declared.script.Statement.TheVariants.{Drain, Skip, Cut, Heal}
use Rattle.pvp_trace.specs.Attempts.{envelope_of}
use Rattle.pvp_trace.specs.Names.{actor_text}
use Rattle.pvp_play.specs.Player.{Position, is_open}

-- THE ENVELOPES THAT THE CURSOR PASSED from one place to another, by their numbers
abbrev pub passed_numbers : ℕ → ℕ → List ℕ
passed_numbers from to = range_with_len (from + 1) (to - from)

-- the envelope of a number goes between actors of whom one is cut off
abbrev pub is_held : List ℕ → List Envelope → ℕ → Bool
is_held cut post number = option_map_or (λ envelope. not (is_open cut envelope)) (envelope_of post number) false

-- those of them that a cut held back
abbrev pub held_back : {B : Type 0} → ℕ → Position B → List ℕ
held_back from p = filter (is_held p.cut p.world.post) (passed_numbers from p.cursor)

-- IN WORDS

-- who was cut off, or healed, where that was not refused
abbrev pub taken_text : Setup → List ℕ → ℕ → Option WorldFault → List ℕ
taken_text setup word actor None = word ++ codes " " ++ actor_text setup actor ++ codes "\n"
taken_text setup word actor (Some fault) = []

-- the first that was passed, and the last
abbrev pub skip_text : ℕ → ℕ → List ℕ
skip_text from to =
    if nat_lt from to then codes "skip " ++ decimal (from + 1)
    ++ (if from + 1 == to then [] else codes " to " ++ decimal to) ++ codes "\n"
    else []

abbrev pub other_text : ℕ → List ℕ
other_text number = codes ", " ++ decimal number

abbrev pub held_text : List ℕ → List ℕ
held_text [] = []
held_text (number ∷ numbers) =
    codes "held back by a cut: " ++ decimal number ++ flat_map other_text numbers ++ codes "\n"

-- WHAT A LINE DID to the cuts, and to the cursor that stood here before it
abbrev pub passing_text : {B : Type 0} → Statement → Option WorldFault → ℕ → Position B → List ℕ
passing_text (Cut actor) told from p = taken_text p.world.setup (codes "cut") actor told
passing_text (Heal actor) told from p = taken_text p.world.setup (codes "heal") actor told
passing_text (Skip envelopes) told from p = skip_text from p.cursor
passing_text (Drain turns) told from p = held_text (held_back from p)
passing_text _ told from p = []
