-- What reading a journal gives: the head, the records one after the other, and what comes behind them.
use Rattle.std.specs.Prelude.{◌≡◌, ◌≢◌, ◌⊎◌, ℕ, ◌+◌, ◌-◌, ◌==◌, Bool, not, nat_lt, List, [], ◌∷◌, ◌++◌, length, take, drop, Result, Ok, Err, if◌then◌else◌}
use Rattle.std.specs.List.{list_all, zip}
use Rattle.byteorder.specs.Endian.{big_number}
use Rattle.pvp_wire.specs.Spelling.{number}
use Rattle.pvp_wire.specs.Fits.{Fits}
use Rattle.pvp_journal.specs.declared.fault.JournalFault.{JournalFault}
use Rattle.pvp_journal.specs.declared.fault.JournalWhy.{JournalWhy}
use Rattle.pvp_journal.specs.declared.fault.JournalWhy.TheVariants.{Magic, Version, Head as BadHead, Length, Checksum, Record, NoMemory}
use Rattle.pvp_journal.specs.declared.head.Head.{Head}
use Rattle.pvp_journal.specs.declared.journal.Left.{Left}
use Rattle.pvp_journal.specs.declared.journal.Left.TheVariants.{Nothing, Torn}
use Rattle.pvp_journal.specs.declared.journal.Journal.{Journal}
use Rattle.pvp_journal.specs.declared.journal.Records.{Records}
use Rattle.pvp_journal.specs.declared.journal.Stop.{Stop}
use Rattle.pvp_journal.specs.declared.front.Front.{Front as Stood}
use Rattle.pvp_journal.specs.declared.front.Front.TheVariants.{Empty, Torn as TornOff, Whole}
use Rattle.pvp_journal.specs.Spelling.{Entry, checksum, greatest_u32, with_checksum, journal_text}
use Rattle.pvp_journal.specs.Reading.{head_at, body_at}

-- ---- a record at the front of bytes

-- the length
abbrev pub length_in : List ℕ → ℕ
length_in bytes = big_number 4 bytes

-- the length, its complement and what it says, over which its checksum is
abbrev pub measured_in : List ℕ → List ℕ
measured_in bytes = take (8 + length_in bytes) bytes

-- what it says
abbrev pub body_in : List ℕ → List ℕ
body_in bytes = take (length_in bytes) (drop 8 bytes)

-- how many bytes it takes, and those after it
abbrev pub size_in : List ℕ → ℕ
size_in bytes = 16 + length_in bytes

abbrev pub after : List ℕ → List ℕ
after bytes = drop (size_in bytes) bytes

-- as far as both go, the bytes are this text
abbrev pub agree : List ℕ → List ℕ → Bool
agree text bytes = list_all (λ p. p.0 == p.1) (zip text bytes)

-- what may stand at the front of bytes
pub data Front : Type 0 where
  AtEnd : Front
  CutOff : Front
  Sound : Front
  Damaged : JournalWhy → Front

-- WHAT STANDS THERE, behind a record with this checksum. As far as there are bytes, behind the length stands its
-- complement, and behind what the record says its checksum; anything else is damage. A record of which bytes lack is
-- cut off.
unfoldable pub front_at : ℕ → List ℕ → Front
front_at before bytes =
    if length bytes == 0 then AtEnd
    else if nat_lt (length bytes) 4 then CutOff
    else if not (agree (number 4 (greatest_u32 - length_in bytes)) (drop 4 bytes)) then Damaged Length
    else if nat_lt (length bytes) (8 + length_in bytes) then CutOff
    else if not (agree (number 8 (checksum before (measured_in bytes))) (drop (8 + length_in bytes) bytes))
    then Damaged Checksum
    else if nat_lt (length bytes) (size_in bytes) then CutOff
    else Sound

-- a front of a record behind this checksum, neither empty nor all of it
pub record IsPartial (before : ℕ) (bytes : List ℕ) : Type 0 where
  pub body : List ℕ
  pub more : List ℕ
  pub short : Fits 4 (length body)
  pub some : bytes ≢ []
  pub lacks : more ≢ []
  pub whole : bytes ++ more ≡ with_checksum before body

-- ---- records one after the other

-- where a reader stands: the last checksum, and the bytes that are left
pub record Place : Type 0 where
  pub sum : ℕ
  pub bytes : List ℕ

-- behind the record that stands there
abbrev pub next : Place → Place
next place = record { sum = checksum place.sum (measured_in place.bytes); bytes = after place.bytes }

-- this record stands there
pub record Stands (me : ℕ) (place : Place) (r : Entry) : Type 0 where
  pub front : front_at place.sum place.bytes ≡ Sound
  pub body : body_at me (body_in place.bytes) ≡ Ok r

-- from a place on these records stand one after the other, up to this place
abbrev pub AreRecords : ℕ → Place → List Entry → Place → Type 0
AreRecords me place [] end = end ≡ place
AreRecords me place (r ∷ more) end = Stands me place r × AreRecords me (next place) more end

-- ---- what is at the end

-- This is wrong there. Memory is asked for only where a whole record stands.
abbrev pub IsWrong : ℕ → Place → JournalWhy → Type 0
IsWrong me place (Record fault) =
    (front_at place.sum place.bytes ≡ Sound) × (body_at me (body_in place.bytes) ≡ Err fault)
IsWrong me place NoMemory = front_at place.sum place.bytes ≡ Sound
IsWrong me place Length = front_at place.sum place.bytes ≡ Damaged Length
IsWrong me place Checksum = front_at place.sum place.bytes ≡ Damaged Checksum
IsWrong me place Magic = ⊥
IsWrong me place Version = ⊥
IsWrong me place BadHead = ⊥

-- at which byte of all it is
abbrev pub at_in : List ℕ → Place → ℕ
at_in all place = length all - length place.bytes

-- Nothing is left, or a record that is torn, which begins at this byte.
abbrev pub IsLeft : List ℕ → Place → Left → Type 0
IsLeft all place Nothing = place.bytes ≡ []
IsLeft all place (Torn at) = (front_at place.sum place.bytes ≡ CutOff) × (at ≡ at_in all place)

-- no record stands there that says something
abbrev pub NoRecord : ℕ → Place → Type 0
NoRecord me place = (r : Entry) → Stands me place r → ⊥

-- Nothing is left there, or a torn record.
abbrev pub IsCut : Place → Type 0
IsCut place = (place.bytes ≡ []) ⊎ (front_at place.sum place.bytes ≡ CutOff)

-- ---- the whole

-- the bytes begin with this head, and this is the place behind it
pub record IsHeaded (bytes : List ℕ) (head : Head) (place : Place) : Type 0 where
  pub found : head_at bytes ≡ Ok (head, place.bytes)
  pub sum : place.sum ≡ checksum 0 (take (length bytes - length place.bytes) bytes)

-- THE BYTES READ AS THIS HEAD AND HISTORY, up to a place
pub record ReadsAs (bytes : List ℕ) (head : Head) (history : List Entry) (end : Place) : Type 0 where
  pub start : Place
  pub headed : IsHeaded bytes head start
  pub records : AreRecords head.actor start history end

-- The bytes read as this head and the first so many events of a history, whose journal they begin with; behind it
-- nothing is left, or a torn record.
pub record IsCutBehind (bytes : List ℕ) (head : Head) (history : List Entry) : Type 0 where
  pub count : ℕ
  pub end : Place
  pub reads : ReadsAs bytes head (take count history) end
  pub text : bytes ≡ journal_text head (take count history) ++ end.bytes
  pub cut : IsCut end

-- what was read: up to where nothing is left, or a torn record
pub record IsRead (bytes : List ℕ) (journal : Journal) : Type 0 where
  pub end : Place
  pub reads : ReadsAs bytes journal.head journal.history.items end
  pub left : IsLeft bytes end journal.left
  pub sum : journal.sum ≡ end.sum

-- the first fault: behind a head and these records
pub record IsFaulty (bytes : List ℕ) (fault : JournalFault) : Type 0 where
  pub head : Head
  pub history : List Entry
  pub end : Place
  pub reads : ReadsAs bytes head history end
  pub wrong : IsWrong head.actor end fault.why
  pub at : fault.at ≡ at_in bytes end

-- or in the head, which begins at byte 0
abbrev pub IsHeadFault : List ℕ → JournalFault → Type 0
IsHeadFault bytes fault = (head_at bytes ≡ Err fault.why) × (fault.at ≡ 0)

-- WHAT READING A JOURNAL GIVES
abbrev pub ReadsJournal : List ℕ → Result Journal JournalFault → Type 0
ReadsJournal bytes (Ok journal) = IsRead bytes journal
ReadsJournal bytes (Err fault) = IsHeadFault bytes fault ⊎ IsFaulty bytes fault

-- ---- what the parts of a reader returned

-- what stands at the front
abbrev pub IsFront : ℕ → List ℕ → Result Stood JournalWhy → Type 0
IsFront before bytes (Ok Empty) = front_at before bytes ≡ AtEnd
IsFront before bytes (Ok TornOff) = front_at before bytes ≡ CutOff
IsFront before bytes (Ok (Whole piece)) = (front_at before bytes ≡ Sound)
    × (piece.body.now ≡ body_in bytes) × (piece.sum ≡ checksum before (measured_in bytes))
    × (piece.after.now ≡ after bytes)
IsFront before bytes (Err why) = front_at before bytes ≡ Damaged why

-- what a record says is kept behind a history, or it says nothing
abbrev pub KeepsEntry : ℕ → List ℕ → List Entry → Result (Unit {0}) JournalWhy → List Entry → Type 0
KeepsEntry me body old (Ok done) new = (r : Entry) × (body_at me body ≡ Ok r) × (new ≡ old ++ r ∷ [])
KeepsEntry me body old (Err (Record fault)) new = body_at me body ≡ Err fault
KeepsEntry me body old (Err NoMemory) new = Unit {0}
KeepsEntry me body old (Err _) new = ⊥

-- the place at which records end, and whether one is torn there
abbrev pub end_of : Records → Place
end_of records = record { sum = records.sum; bytes = records.rest.now }

abbrev pub IsEnd : Place → Bool → Type 0
IsEnd place torn = front_at place.sum place.bytes ≡ (if torn then CutOff else AtEnd)

-- the records from a place on, or what is wrong behind some of them
abbrev pub ReadsRecords : ℕ → Place → Result Records Stop → Type 0
ReadsRecords me start (Ok records) =
    AreRecords me start records.history.items (end_of records) × IsEnd (end_of records) records.torn
ReadsRecords me start (Err stop) = (history : List Entry) × (end : Place)
    × AreRecords me start history end × IsWrong me end stop.why × (stop.left ≡ length end.bytes)
