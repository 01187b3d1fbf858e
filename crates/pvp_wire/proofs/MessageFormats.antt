-- Messages: what is taken is spelled so, and what is spelled so is read again.
use Rattle.std.proofs.Common.{◌≡◌, ℕ, ◌≤◌, true, false, List, ◌++◌, length, Ok, Err, inl, inr, refl, ◌∙◌, subst, arith, ◌+◌}
use Rattle.std.specs.List.{list_all}
use Rattle.vr_types.specs.declared.message.MsgOf.TheVariants.{Request, Prepare, PrepareOk, Commit, StartViewChange, DoViewChange, StartView, GetState, NewState, Recovery, RecoveryResponse, Reply, PayOrder}
use Rattle.vr_types.specs.Messages.{rows_in, known_in}
use Rattle.pvp_wire.specs.declared.fault.WireFault.{WireFault}
use Rattle.pvp_wire.specs.declared.fault.WireFault.TheVariants.{NoMemory, Kind}
use Rattle.pvp_wire.specs.Shape.{Shape, Reads, as_part}
use Rattle.pvp_wire.specs.Layout.{BankMsg, request, prepare, view_and_place, start_view_change, do_view_change, start_view, new_state, recovery_response, answer, kind, body, MessageFits, message_at}
use Rattle.pvp_wire.specs.Spelling.{has_client, has_site_count, most_command, most_row, most_rows, most_boots, most_body}
use Rattle.pvp_wire.specs.Reading.{IsOfField}
use Rattle.pvp_wire.proofs.Formats.{TakesBy, fault_is}
use Rattle.pvp_wire.proofs.Parts.{both, parted}
use Rattle.pvp_wire.proofs.Shapes.{IsRight, right_as, last_right, part_right, whole_right, IsGood, pick, good_part, part_again}
use Rattle.pvp_wire.proofs.Layouts.{r2, r4, command_right, reply_right, order_right, row_right, rows_right, boots_right, in_place_boots, option_right}

-- a message that fits, its rows of clients, the boots that it tells of those of 1 to 7 sites
abbrev pub IsMessage : BankMsg → Type 0
IsMessage m = MessageFits m × ((list_all has_client (rows_in m) ≡ true) × (has_site_count (known_in m) ≡ true))

-- the same, of a kind
abbrev pub IsOfKind : ℕ → BankMsg → Type 0
IsOfKind k m = IsMessage m × (kind m ≡ k)

pub request_right : IsRight request (λ m. IsMessage (Request m)) (4 + most_command)
unfolding request
request_right =
    right_as (whole_right (part_right r4 (last_right command_right)) _ (λ a b. ((tt, refl), refl)) (λ z. refl)) (λ m h. (h, (refl, refl))) (λ m h. h.0)

pub prepare_right : IsRight prepare (λ m. IsMessage (Prepare m)) (8 + most_row)
unfolding prepare
prepare_right =
    right_as (whole_right (part_right r4 (part_right r2 (part_right r2 (last_right row_right)))) _ (λ a b c d. ((((tt, refl), refl), refl), refl)) (λ z. refl))
    (λ m h. ((h.0, (h.1.0, (h.1.1.0, h.1.1.1.0))), (both (has_client m.row) true h.1.1.1.1 refl, refl)))
    (λ m h. (h.0.0, (h.0.1.0, (h.0.1.1.0, (h.0.1.1.1, (parted (has_client m.row) true h.1.0).0)))))

pub view_right : IsRight view_and_place view_and_place.Fits 6
view_right = whole_right (part_right r4 (last_right r2)) _ (λ a b. ((tt, refl), refl)) (λ z. refl)

pub start_view_change_right : IsRight start_view_change (λ m. IsMessage (StartViewChange m)) (4 + most_boots)
unfolding start_view_change
start_view_change_right =
    right_as (whole_right (part_right r4 (last_right boots_right)) _ (λ a b. ((tt, refl), refl)) (λ z. refl)) (λ m h. ((h.0, h.1.0), (refl, h.1.1)))
    (λ m h. (h.0.0, (h.0.1, h.1.1)))

pub do_view_change_right : IsRight do_view_change (λ m. IsMessage (DoViewChange m)) (10 + (most_boots + most_rows))
unfolding do_view_change
do_view_change_right =
    right_as (whole_right (part_right r4 (part_right r4 (part_right r2 (part_right in_place_boots (last_right rows_right))))) _
    (λ a b c d e. (((((tt, refl), refl), refl), refl), refl)) (λ z. refl))
    (λ m h. ((h.0, (h.1.0, (h.1.1.0, (h.1.1.1.0.0, h.1.1.1.1.0)))), (h.1.1.1.1.1, h.1.1.1.0.1)))
    (λ m h. (h.0.0, (h.0.1.0, (h.0.1.1.0, ((h.0.1.1.1.0, h.1.1), (h.0.1.1.1.1, h.1.0))))))

pub start_view_right : IsRight start_view (λ m. IsMessage (StartView m)) (6 + most_rows)
unfolding start_view
start_view_right =
    right_as (whole_right (part_right r4 (part_right r2 (last_right rows_right))) _ (λ a b c. (((tt, refl), refl), refl)) (λ z. refl))
    (λ m h. ((h.0, (h.1.0, h.1.1.0)), (h.1.1.1, refl))) (λ m h. (h.0.0, (h.0.1.0, (h.0.1.1, h.1.0))))

pub new_state_right : IsRight new_state (λ m. IsMessage (NewState m)) (8 + most_rows)
unfolding new_state
new_state_right =
    right_as
    (whole_right (part_right r4 (part_right r2 (part_right r2 (last_right rows_right)))) _ (λ a b c d. ((((tt, refl), refl), refl), refl)) (λ z. refl))
    (λ m h. ((h.0, (h.1.0, (h.1.1.0, h.1.1.1.0))), (h.1.1.1.1, refl))) (λ m h. (h.0.0, (h.0.1.0, (h.0.1.1.0, (h.0.1.1.1, h.1.0)))))

pub recovery_response_right : IsRight recovery_response (λ m. IsMessage (RecoveryResponse m)) (8 + (most_boots + (3 + most_rows)))
unfolding recovery_response
recovery_response_right =
    right_as (whole_right (part_right r4 (part_right r4 (part_right in_place_boots (last_right option_right)))) _
    (λ a b c d. ((((tt, refl), refl), refl), refl)) (λ z. refl))
    (λ m h. ((h.0, (h.1.0, (h.1.1.0.0, h.1.1.1.0))), (h.1.1.1.1, h.1.1.0.1)))
    (λ m h. (h.0.0, (h.0.1.0, ((h.0.1.1.0, h.1.1), (h.0.1.1.1, h.1.0)))))

pub answer_right : IsRight answer (λ m. IsMessage (Reply m)) 13
unfolding answer
answer_right =
    right_as (whole_right (part_right r4 (part_right r4 (last_right reply_right))) _ (λ a b c. (((tt, refl), refl), refl)) (λ z. refl))
    (λ m h. (h, (refl, refl))) (λ m h. h.0)

-- ---- the message of a kind

pub not_memory : (fault : WireFault) → IsOfField fault → fault ≡ NoMemory → ⊥
not_memory fault (inl f) e = absurd cc
not_memory fault (inr f) e = absurd cc

abbrev GoodMessage : List ℕ → ℕ → Reads BankMsg → Type 0
GoodMessage bytes k read = IsGood bytes body (IsOfKind k) (λ fault. fault ≡ NoMemory → ⊥) read

-- a shape as the fields of a message of this kind
good : {A : Type 0} {shape : Shape A} {Is : A → Type 0} {most : ℕ} → IsRight shape Is most → (make : A → BankMsg) (k : ℕ) (bytes : List ℕ)
    → ((a : A) → body (make a) ≡ shape.spell a) → ((a : A) → Is a → IsOfKind k (make a)) → GoodMessage bytes k (as_part make (shape.read false bytes))
good right make k bytes spelled is = good_part right make body (IsOfKind k) (λ fault. fault ≡ NoMemory → ⊥) bytes not_memory spelled is

no_kind : (k : ℕ) (bytes : List ℕ) → GoodMessage bytes k (Err Kind)
no_kind k bytes = record { takes = λ z rest fits e. absurd cc; faults = λ fault e none. other (fault_is {A = BankMsg × List ℕ} Kind fault e ∙ none) }
  where
    other : Kind ≡ NoMemory → ⊥
    other e = absurd cc

message_good : (k : ℕ) (bytes : List ℕ) → GoodMessage bytes k (message_at false k bytes)
unfolding message_at
message_good k bytes =
    let G = GoodMessage bytes in
    pick G k 1 (good request_right Request 1 bytes (λ a. refl) (λ a h. (h, refl)))
    (pick G k 2 (good prepare_right Prepare 2 bytes (λ a. refl) (λ a h. (h, refl)))
    (pick G k 3 (good view_right (λ x. PrepareOk (record { view = x.0; place = x.1 })) 3 bytes (λ a. refl) (λ a h. ((h, (refl, refl)), refl)))
    (pick G k 4 (good view_right (λ x. Commit (record { view = x.0; done = x.1 })) 4 bytes (λ a. refl) (λ a h. ((h, (refl, refl)), refl)))
    (pick G k 5 (good start_view_change_right StartViewChange 5 bytes (λ a. refl) (λ a h. (h, refl)))
    (pick G k 6 (good do_view_change_right DoViewChange 6 bytes (λ a. refl) (λ a h. (h, refl)))
    (pick G k 7 (good start_view_right StartView 7 bytes (λ a. refl) (λ a h. (h, refl)))
    (pick G k 8 (good view_right (λ x. GetState (record { view = x.0; base = x.1 })) 8 bytes (λ a. refl) (λ a h. ((h, (refl, refl)), refl)))
    (pick G k 9 (good new_state_right NewState 9 bytes (λ a. refl) (λ a h. (h, refl)))
    (pick G k 10 (good r4 (λ n. Recovery (record { nonce = n })) 10 bytes (λ a. refl) (λ a h. ((h, (refl, refl)), refl)))
    (pick G k 11 (good recovery_response_right RecoveryResponse 11 bytes (λ a. refl) (λ a h. (h, refl)))
    (pick G k 12 (good answer_right Reply 12 bytes (λ a. refl) (λ a h. (h, refl)))
    (pick G k 13 (good order_right PayOrder 13 bytes (λ a. refl) (λ a h. ((h, (refl, refl)), refl))) (no_kind k bytes)))))))))))))

message_again : (m : BankMsg) (rest : List ℕ) → IsMessage m → message_at false (kind m) (body m ++ rest) ≡ Ok (m, rest)
unfolding message_at
message_again (Request m) rest h = part_again request_right Request m rest h
message_again (Prepare m) rest h = part_again prepare_right Prepare m rest h
message_again (PrepareOk m) rest h = part_again view_right (λ x. PrepareOk (record { view = x.0; place = x.1 })) (m.view, m.place) rest h.0
message_again (Commit m) rest h = part_again view_right (λ x. Commit (record { view = x.0; done = x.1 })) (m.view, m.done) rest h.0
message_again (StartViewChange m) rest h = part_again start_view_change_right StartViewChange m rest h
message_again (DoViewChange m) rest h = part_again do_view_change_right DoViewChange m rest h
message_again (StartView m) rest h = part_again start_view_right StartView m rest h
message_again (GetState m) rest h = part_again view_right (λ x. GetState (record { view = x.0; base = x.1 })) (m.view, m.base) rest h.0
message_again (NewState m) rest h = part_again new_state_right NewState m rest h
message_again (Recovery m) rest h = part_again r4 (λ n. Recovery (record { nonce = n })) m.nonce rest h.0
message_again (RecoveryResponse m) rest h = part_again recovery_response_right RecoveryResponse m rest h
message_again (Reply m) rest h = part_again answer_right Reply m rest h
message_again (PayOrder due) rest h = part_again order_right PayOrder due rest h.0

pub message_short : (m : BankMsg) → IsMessage m → length (body m) ≤ most_body
message_short (Request m) h = omega (arith, request_right.short m h)
message_short (Prepare m) h = omega (arith, prepare_right.short m h)
message_short (PrepareOk m) h = omega (arith, view_right.short (m.view, m.place) h.0)
message_short (Commit m) h = omega (arith, view_right.short (m.view, m.done) h.0)
message_short (StartViewChange m) h = omega (arith, start_view_change_right.short m h)
message_short (DoViewChange m) h = omega (arith, do_view_change_right.short m h)
message_short (StartView m) h = omega (arith, start_view_right.short m h)
message_short (GetState m) h = omega (arith, view_right.short (m.view, m.base) h.0)
message_short (NewState m) h = omega (arith, new_state_right.short m h)
message_short (Recovery m) h = omega (arith, r4.short m.nonce h.0)
message_short (RecoveryResponse m) h = omega (arith, recovery_response_right.short m h)
message_short (Reply m) h = omega (arith, answer_right.short m h)
message_short (PayOrder due) h = omega (arith, order_right.short due h.0)

pub message_takes : (k : ℕ) → TakesBy body (IsOfKind k) (message_at false k)
message_takes k bytes m rest fits e = (message_good k bytes).takes m rest fits e

-- reading where memory is not refused never tells that it was
pub message_never : (k : ℕ) (bytes : List ℕ) → message_at false k bytes ≡ Err NoMemory → ⊥
message_never k bytes e = (message_good k bytes).faults NoMemory e refl

pub message_of_kind : (k : ℕ) (m : BankMsg) (rest : List ℕ) → IsOfKind k m → message_at false k (body m ++ rest) ≡ Ok (m, rest)
message_of_kind k m rest h = subst (λ (j : ℕ). message_at false j (body m ++ rest) ≡ Ok (m, rest)) h.1 (message_again m rest h.0)
