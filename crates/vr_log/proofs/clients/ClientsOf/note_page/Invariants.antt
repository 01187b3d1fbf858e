use Rattle.std.proofs.Common.{◌≡◌, ℕ, ◌++◌, List, take}
use Rattle.vr_types.specs.declared.row.RowOf.{RowOf}
use Rattle.vr_types.specs.Rows.{newest}
use Rattle.vr_log.specs.Clients.{newest_in, reply_in}
use Rattle.vr_log.proofs.clients.ClientsOf.note_page.Given as goal

-- the rows so far are noted behind any log of which the table was; the answers stay
abbrev pub invariant-loop-row : goal.invariant-loop-row
invariant-loop-row g l =
    ((log : List (RowOf _)) → ((q : ℕ) → newest_in l.initial.self q ≡ newest log q) → (q : ℕ) → newest_in l.self q ≡ newest (log ++ take l.row-index l.page) q)
    × ((q : ℕ) → reply_in l.self q ≡ reply_in l.initial.self q)
