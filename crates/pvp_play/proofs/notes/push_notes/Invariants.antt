use Rattle.std.proofs.Common.{◌≡◌, ◌++◌, string_bytes}
use Rattle.pvp_play.specs.Notes.{notes_text}
use Rattle.pvp_play.proofs.notes.push_notes.Given as goal

-- what was written, and then what is left, is the whole
abbrev pub invariant-loop-place : goal.invariant-loop-place
invariant-loop-place g l =
    string_bytes l.text ++ notes_text l.world.setup l.world.post l.place l.noted
    ≡ string_bytes l.fn.text ++ notes_text l.world.setup l.world.post l.fn.before l.noted
