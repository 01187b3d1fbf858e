-- What the tests of actors alone say.
use Rattle.std.specs.Prelude.{ℕ, List}
use Rattle.pvp_rooms.specs.declared.cell.Closed.{Closed}
use Rattle.pvp_rooms.specs.declared.verdict.AuditTest.{AuditTest}
use Rattle.pvp_rooms.specs.declared.verdict.AuditTest.TheVariants.{Stamped, Clock, Answered, End, Receipts, NoMemory}
use Rattle.pvp_rooms.specs.Verdicts.{AreReceived, IsAlone, FailsAlone, ReceiptsFail, ClockFails}

-- an actor alone fails a test at an event, and each before it passes both
abbrev pub AloneNo : {A N E O : Type 0} → List (Closed A N E O) → ℕ → ℕ → AuditTest → Type 0
AloneNo closed actor event Receipts =
    FailsAlone IsAlone closed actor (λ c. ReceiptsFail c.history.items c.seats.items event)
AloneNo closed actor event Clock =
    FailsAlone IsAlone closed actor (λ c. AreReceived c.history.items c.seats.items × ClockFails c.history.items event)
AloneNo closed actor event Stamped = ⊥
AloneNo closed actor event Answered = ⊥
AloneNo closed actor event End = ⊥
AloneNo closed actor event NoMemory = ⊥
