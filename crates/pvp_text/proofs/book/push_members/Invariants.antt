use Rattle.std.proofs.Common.{◌≡◌, ◌++◌, take, string_bytes}
use Rattle.std.specs.List.{flat_map, enumerate_from}
use Rattle.pvp_text.specs.BookText.{member_line}
use Rattle.pvp_text.proofs.book.push_members.Given as goal

-- the members so far
abbrev pub invariant-loop-place : goal.invariant-loop-place
invariant-loop-place l =
    string_bytes l.text ≡ string_bytes l.fn.text ++ flat_map (member_line l.indent l.book) (enumerate_from 1 (take l.place l.book.setup.members))
