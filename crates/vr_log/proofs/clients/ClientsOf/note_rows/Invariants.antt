use Rattle.std.proofs.Common.{◌≡◌, ℕ, ◌*◌, ◌++◌, List, take}
use Rattle.vr_types.specs.declared.row.RowOf.{RowOf}
use Rattle.vr_types.specs.Pages.{page_rows}
use Rattle.vr_types.specs.Rows.{newest}
use Rattle.vr_log.specs.Clients.{newest_in, reply_in}
use Rattle.vr_log.proofs.clients.ClientsOf.note_rows.Given as goal

-- the pages so far are noted behind any log of which the table was; the answers stay
abbrev pub invariant-loop-page : goal.invariant-loop-page
invariant-loop-page g l =
    ((log : List (RowOf _)) → ((q : ℕ) → newest_in l.initial.self q ≡ newest log q) → (q : ℕ)
    → newest_in l.self q ≡ newest (log ++ take (page_rows * l.page) l.rows) q)
    × ((q : ℕ) → reply_in l.self q ≡ reply_in l.initial.self q)
