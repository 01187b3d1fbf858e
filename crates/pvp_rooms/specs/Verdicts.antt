-- What a verdict says: which test fails, at which actor and event, and that none fails before it.
use Rattle.std.specs.Prelude.{◌≡◌, ◌⊎◌, ℕ, ◌+◌, ◌<◌, List, [], ◌∷◌, Bool, Option, Some, length, take, replicate, slice_get, slice_index, slice_set}
use Rattle.pvp_rooms.specs.declared.message.Recorded.{Recorded}
use Rattle.pvp_rooms.specs.declared.actor.Actor.{Ghosts}
use Rattle.pvp_rooms.specs.Histories.{replay, IsRising}
use Rattle.pvp_rooms.specs.declared.cell.Closed.{Closed}
use Rattle.pvp_rooms.specs.Seats.{Held}
use Rattle.pvp_rooms.specs.declared.verdict.Finding.{Finding}
use Rattle.pvp_rooms.specs.declared.verdict.Finding.TheVariants.{Yes, No}
use Rattle.pvp_rooms.specs.declared.verdict.AuditTest.{AuditTest}
use Rattle.pvp_rooms.specs.declared.verdict.AuditTest.TheVariants.{Stamped, Clock, Answered, End, Receipts, NoMemory}
use Rattle.pvp_rooms.specs.Together.{AreTogether, IsNext, receipts_of}
use Rattle.pvp_rooms.specs.Ends.{AreAlike, IsFirstUnlike}
use Rattle.pvp_rooms.specs.Runs.{Tagged, own_events, number_at, Arrives, IsLegal, IsReached}

-- the lowest seat whose next receipt is this event
pub record IsLowest {E O : Type 0} (seats : List (Held E O)) (at : List ℕ) (event : Recorded E O) (k : ℕ) : Type 0 where
  pub next : IsNext seats at event k
  pub lowest : (j : ℕ) → j < k → ¬ IsNext seats at event j

-- each event uses the next receipt of the lowest seat that has it there: at has how many are used of each seat before,
-- now after
abbrev pub AreUsedUp : {E O : Type 0} → List (Held E O) → List ℕ → List (Recorded E O) → List ℕ → Type 0
AreUsedUp seats at [] now = now ≡ at
AreUsedUp seats at (event ∷ events) now =
    (k : ℕ) × IsLowest seats at event k × AreUsedUp seats (slice_set at k (slice_index at k + 1)) events now

-- none is used
abbrev pub first_places : {E O : Type 0} → List (Held E O) → List ℕ
first_places seats = replicate (length seats) 0

-- The receipts of the seats, in each seat's order, are together the history: each event takes the next receipt of the
-- lowest seat that has it there, and none is left over.
pub record AreReceived {E O : Type 0} (history : List (Recorded E O)) (seats : List (Held E O)) : Type 0 where
  pub together : AreTogether history seats
  pub at : List ℕ
  pub used : AreUsedUp seats (first_places seats) history at
  pub full : (k : ℕ) → k < length seats → slice_index at k ≡ length (receipts_of seats k)

-- the event after the first `many` is no seat's next receipt
pub record HasNoReceipt {E O : Type 0} (history : List (Recorded E O)) (seats : List (Held E O)) (many : ℕ)
    : Type 0 where
  pub event : Recorded E O
  pub is : slice_get history many ≡ Some event
  pub at : List ℕ
  pub used : AreUsedUp seats (first_places seats) (take many history) at
  pub none : (k : ℕ) → ¬ IsNext seats at event k

-- each event has its receipt, and a receipt is left over
pub record IsLeftOver {E O : Type 0} (history : List (Recorded E O)) (seats : List (Held E O)) : Type 0 where
  pub at : List ℕ
  pub used : AreUsedUp seats (first_places seats) history at
  pub seat : ℕ
  pub left : slice_index at seat < length (receipts_of seats seat)

-- the test of receipts fails at this event, counted from 1, or at none
abbrev pub ReceiptsFail : {E O : Type 0} → List (Recorded E O) → List (Held E O) → ℕ → Type 0
ReceiptsFail history seats event =
    ((event ≡ 0) × IsLeftOver history seats) ⊎ ((many : ℕ) × (event ≡ many + 1) × HasNoReceipt history seats many)

-- the clocks rise up to an event, counted from 1, and not at it
pub record ClockFails {E O : Type 0} (history : List (Recorded E O)) (event : ℕ) : Type 0 where
  pub many : ℕ
  pub count : event ≡ many + 1
  pub within : many < length history
  pub rising : IsRising (take many history) 0
  pub fails : ¬ IsRising (take (many + 1) history) 0

-- the clocks of an actor's history rise
abbrev pub HasRisingClocks : {A N E O : Type 0} → Closed A N E O → Type 0
HasRisingClocks c = IsRising c.history.items 0

-- the tests of an actor alone
pub record IsAlone {A N E O : Type 0} (c : Closed A N E O) : Type 0 where
  pub receipts : AreReceived c.history.items c.seats.items
  pub clocks : HasRisingClocks c

-- what holds of each actor before a place
abbrev pub HoldBelow : {A N E O : Type 0} → List (Closed A N E O) → ℕ → (Closed A N E O → Type 0) → Type 0
HoldBelow {A} {N} {E} {O} closed k P = (j : ℕ) (c : Closed A N E O) → slice_get closed j ≡ Some c → j < k → P c

abbrev pub HoldOfAll : {A N E O : Type 0} → List (Closed A N E O) → (ℕ → Closed A N E O → Type 0) → Type 0
HoldOfAll {A} {N} {E} {O} closed P = (j : ℕ) (c : Closed A N E O) → slice_get closed j ≡ Some c → P j c

-- the clocks of each history rise
abbrev pub ClocksRise : {A N E O : Type 0} → List (Closed A N E O) → Type 0
ClocksRise closed = HoldOfAll closed (λ _ c. HasRisingClocks c)

-- the actor of this number, at its place
pub record IsActor {A N E O : Type 0} (closed : List (Closed A N E O)) (actor k : ℕ) (c : Closed A N E O) : Type 0 where
  pub is : slice_get closed k ≡ Some c
  pub number : c.number ≡ actor

-- An actor alone fails, and each before it passes what an actor alone has to pass.
pub record FailsAlone {A N E O : Type 0} (passes : Closed A N E O → Type 0) (closed : List (Closed A N E O)) (actor : ℕ)
    (failing : Closed A N E O → Type 0) : Type 0 where
  pub place : ℕ
  pub who : Closed A N E O
  pub is : IsActor closed actor place who
  pub before : HoldBelow closed place passes
  pub fails : failing who

-- A test of the merged list fails at an event of the actor at a place, counted from 1, and the events before it are a
-- run.
pub record FailsAt {A N E O L : Type 0} (m : Ghosts A N E O) (delivers : E → Option L) (sent : O → List L)
    (is_for : A → E → Bool) (closed : List (Closed A N E O)) (start : ℕ → m.State) (place event : ℕ)
    (failing : Closed A N E O → List (Tagged E O) → Tagged E O → Type 0) : Type 0 where
  pub who : Closed A N E O
  pub is : slice_get closed place ≡ Some who
  pub what : Recorded E O
  pub past : List (Tagged E O)
  pub at : List ℕ
  pub count : event ≡ slice_index at place + 1
  pub next : slice_get who.history.items (slice_index at place) ≡ Some what
  pub reached : IsReached m delivers sent is_for closed start past at (record { by = place; what = what })
  pub fails : failing who past (record { by = place; what = what })

-- what is delivered isn't what the stamp names
abbrev pub CannotArrive : {A N E O L : Type 0} → (E → Option L) → (O → List L) → (A → E → Bool) → List (Closed A N E O)
    → Closed A N E O → List (Tagged E O) → Tagged E O → Type 0
CannotArrive delivers sent is_for closed who past t = ¬ Arrives delivers sent is_for closed past who.end t.what

-- it is, and the event cannot come out as recorded
abbrev pub CannotCome : {A N E O L : Type 0} → (m : Ghosts A N E O) → (E → Option L) → (O → List L) → (A → E → Bool)
    → List (Closed A N E O) → (ℕ → m.State) → Closed A N E O → List (Tagged E O) → Tagged E O → Type 0
CannotCome m delivers sent is_for closed start who past t =
    Arrives delivers sent is_for closed past who.end t.what
    × ¬ m.comes (replay m.after (own_events past t.by) (start t.by)) t.what.event t.what.outcome

-- Such a test fails, and each actor alone passes.
pub record FailsMerged {A N E O : Type 0} (passes : Closed A N E O → Type 0) (closed : List (Closed A N E O))
    (actor : ℕ) (fails_at : ℕ → Type 0) : Type 0 where
  pub place : ℕ
  pub number : number_at closed place ≡ actor
  pub alone : HoldOfAll closed (λ _ c. passes c)
  pub fails : fails_at place

-- An end state differs from the replay, and no end state before it; all other tests pass.
pub record FailsEnd {A N E O L : Type 0} (m : Ghosts A N E O) (delivers : E → Option L) (sent : O → List L)
    (is_for : A → E → Bool) (closed : List (Closed A N E O)) (start : ℕ → m.State) (actor : ℕ) : Type 0 where
  pub place : ℕ
  pub number : number_at closed place ≡ actor
  pub alone : HoldOfAll closed (λ _ c. IsAlone c)
  pub legal : IsLegal m delivers sent is_for closed start
  pub unlike : IsFirstUnlike m closed start place

-- The histories are one run: their clocks rise, and all their events, merged, are legal.
pub record IsOneRun {A N E O L : Type 0} (m : Ghosts A N E O) (delivers : E → Option L) (sent : O → List L)
    (is_for : A → E → Bool) (closed : List (Closed A N E O)) (start : ℕ → m.State) : Type 0 where
  pub clocks : ClocksRise closed
  pub legal : IsLegal m delivers sent is_for closed start

-- Each test passes: of each actor the receipts are together its history, the histories are one run, and the ends read
-- like the replays.
pub record TestsPass {A N E O L : Type 0} (m : Ghosts A N E O) (delivers : E → Option L) (sent : O → List L)
    (is_for : A → E → Bool) (closed : List (Closed A N E O)) (start : ℕ → m.State) : Type 0 where
  pub receipts : HoldOfAll closed (λ _ c. AreReceived c.history.items c.seats.items)
  pub run : IsOneRun m delivers sent is_for closed start
  pub ends : AreAlike m closed start (length closed)

abbrev pub MeansNo : {A N E O L : Type 0} → (m : Ghosts A N E O) → (E → Option L) → (O → List L) → (A → E → Bool)
    → List (Closed A N E O) → (ℕ → m.State) → ℕ → ℕ → AuditTest → Type 0
MeansNo m delivers sent is_for closed start actor event Receipts =
    FailsAlone IsAlone closed actor (λ c. ReceiptsFail c.history.items c.seats.items event)
MeansNo m delivers sent is_for closed start actor event Clock =
    FailsAlone IsAlone closed actor (λ c. AreReceived c.history.items c.seats.items × ClockFails c.history.items event)
MeansNo m delivers sent is_for closed start actor event Stamped =
    FailsMerged IsAlone closed actor (λ place. FailsAt m delivers sent is_for closed start place event
    (CannotArrive delivers sent is_for closed))
MeansNo m delivers sent is_for closed start actor event Answered =
    FailsMerged IsAlone closed actor (λ place. FailsAt m delivers sent is_for closed start place event
    (CannotCome m delivers sent is_for closed start))
MeansNo m delivers sent is_for closed start actor event End =
    (event ≡ 0) × FailsEnd m delivers sent is_for closed start actor
MeansNo m delivers sent is_for closed start actor event NoMemory = (actor ≡ 0) × (event ≡ 0)

-- WHAT AN AUDIT SAYS, both ways
abbrev pub Means : {A N E O L : Type 0} → (m : Ghosts A N E O) → (E → Option L) → (O → List L) → (A → E → Bool)
    → List (Closed A N E O) → (ℕ → m.State) → Finding → Type 0
Means m delivers sent is_for closed start Yes = TestsPass m delivers sent is_for closed start
Means m delivers sent is_for closed start (No actor event why) =
    MeansNo m delivers sent is_for closed start actor event why

-- ---- histories alone, whatever receipts and ends there are

abbrev pub MeansNoRun : {A N E O L : Type 0} → (m : Ghosts A N E O) → (E → Option L) → (O → List L) → (A → E → Bool)
    → List (Closed A N E O) → (ℕ → m.State) → ℕ → ℕ → AuditTest → Type 0
MeansNoRun m delivers sent is_for closed start actor event Clock =
    FailsAlone HasRisingClocks closed actor (λ c. ClockFails c.history.items event)
MeansNoRun m delivers sent is_for closed start actor event Stamped =
    FailsMerged HasRisingClocks closed actor
    (λ place. FailsAt m delivers sent is_for closed start place event (CannotArrive delivers sent is_for closed))
MeansNoRun m delivers sent is_for closed start actor event Answered =
    FailsMerged HasRisingClocks closed actor
    (λ place. FailsAt m delivers sent is_for closed start place event
    (CannotCome m delivers sent is_for closed start))
MeansNoRun m delivers sent is_for closed start actor event Receipts = ⊥
MeansNoRun m delivers sent is_for closed start actor event End = ⊥
MeansNoRun m delivers sent is_for closed start actor event NoMemory = ⊥

-- WHAT AN AUDIT OF HISTORIES SAYS, both ways
abbrev pub MeansRun : {A N E O L : Type 0} → (m : Ghosts A N E O) → (E → Option L) → (O → List L) → (A → E → Bool)
    → List (Closed A N E O) → (ℕ → m.State) → Finding → Type 0
MeansRun m delivers sent is_for closed start Yes = IsOneRun m delivers sent is_for closed start
MeansRun m delivers sent is_for closed start (No actor event why) =
    MeansNoRun m delivers sent is_for closed start actor event why

-- ---- which tests a verdict is of

-- a test of the run alone: A1, A2 or A3
abbrev pub IsOfRun : AuditTest → Type 0
IsOfRun Stamped = Unit {0}
IsOfRun Clock = Unit {0}
IsOfRun Answered = Unit {0}
IsOfRun End = ⊥
IsOfRun Receipts = ⊥
IsOfRun NoMemory = ⊥

-- a test, and not that memory was refused
abbrev pub IsOfTest : AuditTest → Type 0
IsOfTest NoMemory = ⊥
IsOfTest _ = Unit {0}

-- a verdict of tests
abbrev pub IsTested : Finding → Type 0
IsTested Yes = Unit {0}
IsTested (No actor event why) = IsOfTest why
