use Rattle.std.proofs.Common.{◌≡◌, ◌++◌, flat_map, string_bytes}
use Rattle.pvp_picture.specs.Escape.{sign_text}
use Rattle.pvp_picture.proofs.escape.push_escaped.Given as goal

-- the signs so far are appended, spelled out
abbrev pub invariant-loop-sign : goal.invariant-loop-sign
invariant-loop-sign l = string_bytes l.text ≡ string_bytes l.fn.text ++ flat_map sign_text l.yielded
