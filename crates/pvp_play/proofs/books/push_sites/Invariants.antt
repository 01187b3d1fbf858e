use Rattle.std.proofs.Common.{◌≡◌, ◌++◌, string_bytes}
use Rattle.pvp_play.specs.BooksText.{site_text}
use Rattle.pvp_play.proofs.BooksLemmas.{first}
use Rattle.pvp_play.proofs.books.push_sites.Given as goal

-- what is printed of the sites so far
abbrev pub invariant-loop-i : goal.invariant-loop-i
invariant-loop-i g l = string_bytes l.text ≡ string_bytes l.fn.text ++ first (site_text g.C.BootCell.held) l.world.sites l.i
