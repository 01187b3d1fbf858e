-- The steps that were tried, as a player notes them, and their text.
use Rattle.std.specs.Prelude.{ℕ, ◌+◌, List, [], ◌++◌, drop, Option, option_map, unwrap_or}
use Rattle.std.specs.List.{flat_map, enumerate_from}
use Rattle.pvp_types.specs.declared.setup.Setup.{Setup}
use Rattle.rtgs_node.specs.Node.{Envelope}
use Rattle.pvp_trace.specs.declared.attempt.Attempt.{Attempt}
use Rattle.pvp_trace.specs.Attempts.{attempt_text}

-- these are noted after those before them; nothing is, where no notes are made
abbrev pub with_notes : Option (List Attempt) → List Attempt → Option (List Attempt)
with_notes noted attempts = option_map (λ before. before ++ attempts) noted

-- all that were noted
abbrev pub notes : Option (List Attempt) → List Attempt
notes noted = unwrap_or noted []

-- a step by its number
abbrev pub numbered_text : Setup → List Envelope → ℕ × Attempt → List ℕ
numbered_text setup post (number, attempt) = attempt_text setup post number attempt

-- those after so many, numbered on from them
abbrev pub notes_text : Setup → List Envelope → ℕ → List Attempt → List ℕ
notes_text setup post before noted =
    flat_map (numbered_text setup post) (enumerate_from (before + 1) (drop before noted))
