use Rattle.std.proofs.Common.{◌≡◌, ◌++◌, List, take}
use Rattle.pvp_journal.specs.declared.journal.Journal.{Journal as Kept}
use Rattle.pvp_audit.specs.Unseen.{AreBlank}
use Rattle.pvp_audit.proofs.unseen.with_blanks.Given as goal

-- those of the clients so far stand behind the others
abbrev pub invariant-loop-client : goal.invariant-loop-client
invariant-loop-client l =
    (blank : List Kept) × AreBlank l.head (take l.client-index l.clients) blank × (l.journals.items ≡ l.initial.journals.items ++ blank)
