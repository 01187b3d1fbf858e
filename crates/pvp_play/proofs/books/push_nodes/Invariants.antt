use Rattle.std.proofs.Common.{◌≡◌, ◌++◌, string_bytes}
use Rattle.pvp_play.specs.BooksText.{node_text}
use Rattle.pvp_play.proofs.BooksLemmas.{first}
use Rattle.pvp_play.proofs.books.push_nodes.Given as goal

-- what is printed of the nodes so far
abbrev pub invariant-loop-ccy : goal.invariant-loop-ccy
invariant-loop-ccy g l = string_bytes l.text ≡ string_bytes l.fn.text ++ first (node_text g.C.BootCell.held l.world) l.world.nodes l.ccy
