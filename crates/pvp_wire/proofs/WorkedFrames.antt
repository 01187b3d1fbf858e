-- Worked frames, computed with the definitions.
use Rattle.std.proofs.Common.{◌≡◌, ℕ, true, List, [], ◌∷◌, ◌++◌, ◌+◌, take, drop, Ok, Err, refl}
use Rattle.pvp_types.specs.declared.command.Cmd.TheVariants.{Fund, Settle}
use Rattle.pvp_types.specs.declared.command.Reason.TheVariants.{BankShort}
use Rattle.pvp_types.specs.declared.command.Reply.TheVariants.{No}
use Rattle.vr_types.specs.declared.message.MsgOf.TheVariants.{Request, Commit, StartViewChange, StartView, Reply, PayOrder}
use Rattle.pvp_wire.specs.declared.fault.WireFault.TheVariants.{Short, TooLong, Version, Kind, Field, Length}
use Rattle.pvp_wire.specs.declared.stamped.Stamped.{Stamped}
use Rattle.pvp_wire.specs.Shape.{number, items_from}
use Rattle.pvp_wire.specs.Layout.{BankMsg, command_at, reply_at, order, row, rows, boots, request, start_view_change, start_view, answer, message_at, stamp}
use Rattle.pvp_wire.specs.Spelling.{spelling}
use Rattle.pvp_wire.specs.Reading.{frame_where, frame_at, TakesMemory, counted_at, envelope_at}

abbrev sent : ℕ → ℕ → ℕ → ℕ → BankMsg → Stamped
sent from clock index to msg = record { stamp = record { actor = from; clock = clock; index = index }; envelope = record { from = from; to = to; msg = msg } }

-- COMMIT of view 0, 1 row executed, from site 0 to site 1
abbrev sent_commit : Stamped
sent_commit = sent 200 5 0 201 (Commit (record { view = 0; done = 1 }))

abbrev commit_bytes : List ℕ
commit_bytes = 0 ∷ 0 ∷ 0 ∷ 24 ∷ 2 ∷ 4 ∷ 0 ∷ 200 ∷ 0 ∷ 0 ∷ 0 ∷ 0 ∷ 0 ∷ 0 ∷ 0 ∷ 5 ∷ 0 ∷ 0 ∷ 0 ∷ 0 ∷ 0 ∷ 201 ∷ 0 ∷ 0 ∷ 0 ∷ 0 ∷ 0 ∷ 1 ∷ []

commit_is_spelled : spelling sent_commit ≡ commit_bytes
unfolding number stamp
commit_is_spelled = refl

commit_is_read : frame_at commit_bytes ≡ Ok (sent_commit, 28)
unfolding frame_where counted_at envelope_at stamp message_at
commit_is_read = refl

-- REQUEST 1 of USD's node: its pay-in 1 brought 1200 for member 1
abbrev sent_request : Stamped
sent_request = sent 102 1 0 200 (Request (record { number = 1; cmd = Fund 1 1 1 1200 }))

abbrev request_bytes : List ℕ
request_bytes = 0 ∷ 0 ∷ 0 ∷ 38 ∷ 2 ∷ 1 ∷ 0 ∷ 102 ∷ 0 ∷ 0 ∷ 0 ∷ 0 ∷ 0 ∷ 0 ∷ 0 ∷ 1 ∷ 0 ∷ 0 ∷ 0 ∷ 0 ∷ 0 ∷ 200 ∷ 0 ∷ 0 ∷ 0 ∷ 1
    ∷ 3 ∷ 1 ∷ 0 ∷ 0 ∷ 0 ∷ 1 ∷ 0 ∷ 1 ∷ 0 ∷ 0 ∷ 0 ∷ 0 ∷ 0 ∷ 0 ∷ 4 ∷ 176 ∷ []

request_is_spelled : spelling sent_request ≡ request_bytes
unfolding number stamp request
request_is_spelled = refl

request_is_read : frame_at request_bytes ≡ Ok (sent_request, 42)
unfolding frame_where counted_at envelope_at stamp message_at request command_at
request_is_read = refl

-- PAYORDER 1 of USD: 200 for member 1, from site 0 to USD's node
abbrev sent_order : Stamped
sent_order = sent 200 7 2 102 (PayOrder (record { ccy = 1; out = 1; member = 1; amt = 200 }))

abbrev order_bytes : List ℕ
order_bytes =
    0 ∷ 0 ∷ 0 ∷ 33 ∷ 2 ∷ 13 ∷ 0 ∷ 200 ∷ 0 ∷ 0 ∷ 0 ∷ 0 ∷ 0 ∷ 0 ∷ 0 ∷ 7 ∷ 0 ∷ 0 ∷ 0 ∷ 2 ∷ 0 ∷ 102 ∷ 1 ∷ 0 ∷ 0 ∷ 0 ∷ 1 ∷ 0 ∷ 1 ∷ 0 ∷ 0 ∷ 0
    ∷ 0 ∷ 0 ∷ 0 ∷ 0 ∷ 200 ∷ []

order_is_spelled : spelling sent_order ≡ order_bytes
unfolding number stamp order
order_is_spelled = refl

order_is_read : frame_at order_bytes ≡ Ok (sent_order, 37)
unfolding frame_where counted_at envelope_at stamp message_at order
order_is_read = refl

-- REPLY of view 0 to request 3 of member 1: refused, as the bank is short
abbrev sent_answer : Stamped
sent_answer = sent 200 7 0 1 (Reply (record { view = 0; number = 3; reply = No BankShort }))

abbrev answer_bytes : List ℕ
answer_bytes = 0 ∷ 0 ∷ 0 ∷ 28 ∷ 2 ∷ 12 ∷ 0 ∷ 200 ∷ 0 ∷ 0 ∷ 0 ∷ 0 ∷ 0 ∷ 0 ∷ 0 ∷ 7 ∷ 0 ∷ 0 ∷ 0 ∷ 0 ∷ 0 ∷ 1 ∷ 0 ∷ 0 ∷ 0 ∷ 0 ∷ 0 ∷ 0 ∷ 0 ∷ 3 ∷ 5 ∷ 11 ∷ []

answer_is_spelled : spelling sent_answer ≡ answer_bytes
unfolding number stamp answer
answer_is_spelled = refl

answer_is_read : frame_at answer_bytes ≡ Ok (sent_answer, 32)
unfolding frame_where counted_at envelope_at stamp message_at answer reply_at
answer_is_read = refl

-- STARTVIEW of view 0 with one row, a Settle of the operator
abbrev sent_start_view : Stamped
sent_start_view = sent 200 9 0 201 (StartView (record { view = 0; done = 0; rows = record { client = 0; number = 1; cmd = Settle 8 } ∷ [] }))

abbrev start_view_bytes : List ℕ
start_view_bytes = 0 ∷ 0 ∷ 0 ∷ 37 ∷ 2 ∷ 7 ∷ 0 ∷ 200 ∷ 0 ∷ 0 ∷ 0 ∷ 0 ∷ 0 ∷ 0 ∷ 0 ∷ 9 ∷ 0 ∷ 0 ∷ 0 ∷ 0 ∷ 0 ∷ 201 ∷ 0 ∷ 0 ∷ 0 ∷ 0 ∷ 0 ∷ 0 ∷ 0 ∷ 1
    ∷ 0 ∷ 0 ∷ 0 ∷ 0 ∷ 0 ∷ 1 ∷ 4 ∷ 0 ∷ 0 ∷ 0 ∷ 8 ∷ []

start_view_is_spelled : spelling sent_start_view ≡ start_view_bytes
unfolding number stamp start_view rows row
start_view_is_spelled = refl

start_view_is_read : frame_at start_view_bytes ≡ Ok (sent_start_view, 41)
unfolding frame_where counted_at envelope_at stamp message_at start_view rows items_from row command_at
start_view_is_read = refl

-- STARTVIEWCHANGE of view 2 from site 2 to site 1, which knows of no boot of any of three sites
abbrev sent_start_view_change : Stamped
sent_start_view_change = sent 202 2 1 201 (StartViewChange (record { view = 2; known = 0 ∷ 0 ∷ 0 ∷ [] }))

abbrev start_view_change_bytes : List ℕ
start_view_change_bytes = 0 ∷ 0 ∷ 0 ∷ 35 ∷ 2 ∷ 5 ∷ 0 ∷ 202 ∷ 0 ∷ 0 ∷ 0 ∷ 0 ∷ 0 ∷ 0 ∷ 0 ∷ 2 ∷ 0 ∷ 0 ∷ 0 ∷ 1 ∷ 0 ∷ 201 ∷ 0 ∷ 0 ∷ 0 ∷ 2
    ∷ 3 ∷ 0 ∷ 0 ∷ 0 ∷ 0 ∷ 0 ∷ 0 ∷ 0 ∷ 0 ∷ 0 ∷ 0 ∷ 0 ∷ 0 ∷ []

start_view_change_is_spelled : spelling sent_start_view_change ≡ start_view_change_bytes
unfolding number stamp start_view_change boots
start_view_change_is_spelled = refl

start_view_change_is_read : frame_at start_view_change_bytes ≡ Ok (sent_start_view_change, 39)
unfolding frame_where counted_at envelope_at stamp message_at start_view_change boots items_from
start_view_change_is_read = refl

-- the same with as many sites as the byte tells
abbrev with_sites : ℕ → List ℕ
with_sites count = take 26 start_view_change_bytes ++ count ∷ drop 27 start_view_change_bytes

-- of no site, and of more than seven, nothing is told; two leave bytes behind them, and of four one is cut off
other_counts_of_sites : (frame_at (with_sites 0) ≡ Err Field) × (frame_at (with_sites 8) ≡ Err Field) × (frame_at (with_sites 2) ≡ Err Length)
    × (frame_at (with_sites 4) ≡ Err Length)
unfolding frame_where counted_at envelope_at stamp message_at start_view_change boots items_from
other_counts_of_sites = (refl, refl, refl, refl)

-- ---- memory

start_view_change_takes_none : TakesMemory start_view_change_bytes → ⊥
unfolding frame_where counted_at envelope_at stamp message_at start_view_change boots items_from
start_view_change_takes_none = λ e. absurd cc

start_view_takes_memory : TakesMemory start_view_bytes
unfolding frame_where counted_at envelope_at stamp message_at start_view rows items_from row command_at
start_view_takes_memory = refl

-- a second row is counted and is not there: the first takes memory before that is seen
abbrev cut_off : List ℕ
cut_off = take 29 start_view_bytes ++ 2 ∷ drop 30 start_view_bytes

cut_off_is_refused : (frame_at cut_off ≡ Err Length) × TakesMemory cut_off
unfolding frame_where counted_at envelope_at stamp message_at start_view rows items_from row command_at
cut_off_is_refused = (refl, refl)

-- at another version, or without a row, nothing does
without_memory : (frame_where true (take 4 start_view_bytes ++ 1 ∷ drop 5 start_view_bytes) ≡ Err Version)
    × (frame_where true commit_bytes ≡ Ok (sent_commit, 28))
unfolding frame_where counted_at envelope_at stamp message_at
without_memory = (refl, refl)

-- ---- faults

-- the COMMIT with one of its bytes altered
abbrev with_byte : ℕ → ℕ → List ℕ
with_byte place byte = take place commit_bytes ++ byte ∷ drop (place + 1) commit_bytes

another_version : frame_at (with_byte 4 1) ≡ Err Version
unfolding frame_where counted_at
another_version = refl

no_kind : frame_at (with_byte 5 0) ≡ Err Kind
unfolding frame_where counted_at
no_kind = refl

no_actor : frame_at (with_byte 7 99) ≡ Err Field
unfolding frame_where counted_at envelope_at stamp
no_actor = refl

a_byte_more : frame_at (take 3 commit_bytes ++ 25 ∷ drop 4 commit_bytes ++ 0 ∷ []) ≡ Err Length
unfolding frame_where counted_at envelope_at stamp message_at
a_byte_more = refl

-- the version is tested before the kind, and both before the fields
version_first : frame_at (take 4 commit_bytes ++ 1 ∷ 0 ∷ 0 ∷ 99 ∷ drop 8 commit_bytes) ≡ Err Version
unfolding frame_where counted_at
version_first = refl

kind_before_actor : frame_at (take 5 commit_bytes ++ 0 ∷ 0 ∷ 99 ∷ drop 8 commit_bytes) ≡ Err Kind
unfolding frame_where counted_at
kind_before_actor = refl

a_front : frame_at (take 27 commit_bytes) ≡ Err Short
unfolding frame_where
a_front = refl

longest : frame_at (0 ∷ 64 ∷ 0 ∷ 0 ∷ []) ≡ Err Short
unfolding frame_where
longest = refl

too_long : frame_at (0 ∷ 64 ∷ 0 ∷ 1 ∷ []) ≡ Err TooLong
unfolding frame_where
too_long = refl

too_short : frame_at (0 ∷ 0 ∷ 0 ∷ 17 ∷ []) ≡ Err Length
unfolding frame_where
too_short = refl
