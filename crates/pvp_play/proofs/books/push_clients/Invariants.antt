use Rattle.std.proofs.Common.{◌≡◌, ◌++◌, string_bytes}
use Rattle.pvp_play.specs.BooksText.{client_text}
use Rattle.pvp_play.proofs.BooksLemmas.{first}
use Rattle.pvp_play.proofs.books.push_clients.Given as goal

-- what is printed of the clients so far
abbrev pub invariant-loop-k : goal.invariant-loop-k
invariant-loop-k g l = string_bytes l.text ≡ string_bytes l.fn.text ++ first (client_text l.world.setup) l.world.clients l.k
