use Rattle.std.proofs.Common.{◌≡◌, ◌++◌, string_bytes}
use Rattle.pvp_play.specs.BooksText.{way_line}
use Rattle.pvp_play.proofs.BooksLemmas.{first}
use Rattle.pvp_play.proofs.books.push_figures.Given as goal

-- what is printed of the sites so far
abbrev pub invariant-loop-i : goal.invariant-loop-i
invariant-loop-i g l = string_bytes l.text ≡ string_bytes l.fn.text ++ first (way_line g.C.BootCell.held l.ccy l.node.node) l.world.sites l.i
