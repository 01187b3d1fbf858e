-- Where reading takes memory: only where a row was read.
use Rattle.std.proofs.Common.{◌≡◌, ◌≢◌, inr, ℕ, zero, suc, ◌+◌, ◌<◌, ◌≤◌, ◌==◌, ◌&&◌, Bool, true, false, not, nat_lt, nat_le, List, [], ◌∷◌, length, get_or, take, drop, Some, Result, Ok, Err, refl, sym, ap, ◌∙◌, subst, if◌then◌else◌, arith}
use Rattle.std.proofs.lemmas.Bool.{ltb-false, eqb-true}
use Rattle.std.proofs.lemmas.List.{get_or-drop, get_or-take}
use Rattle.byteorder.specs.Endian.{big_number}
use Rattle.vr_types.specs.declared.message.MsgOf.TheVariants.{Request, Prepare, PrepareOk, Commit, StartViewChange, DoViewChange, StartView, GetState, NewState, Recovery, RecoveryResponse, Reply, PayOrder}
use Rattle.vr_types.specs.Actors.{is_actor}
use Rattle.vr_types.specs.Messages.{rows_of_state}
use Rattle.pvp_wire.specs.declared.fault.WireFault.{WireFault}
use Rattle.pvp_wire.specs.declared.fault.WireFault.TheVariants.{Short, TooLong, Version, Kind, Length, NoMemory}
use Rattle.pvp_wire.specs.declared.stamped.Stamped.{Stamped}
use Rattle.pvp_wire.specs.Shape.{◌>>=◌, Reads, as_part, number_at, Shape, Chain, lastly, ◌of◌and◌, whole, listed_at, items_from}
use Rattle.pvp_wire.specs.Layout.{BankMsg, BankRow, row, rows, state, option_at, state_option, do_view_change, start_view, new_state, recovery_response, message_at, stamp}
use Rattle.pvp_wire.specs.Spelling.{version}
use Rattle.pvp_wire.specs.Reading.{envelope_at, all_read, counted_at, frame_where, most_length, carries_a_list, HasARow, IsOfField, frame_at}
use Rattle.pvp_wire.proofs.Formats.{failed, ok_is, fault_is}
use Rattle.pvp_wire.proofs.Shapes.{elsewhere, then_fails, IsRight, listed_right, more-faults}
use Rattle.pvp_wire.proofs.Layouts.{r2, r4, order_right, row_right, in_place_boots, stamp_right}
use Rattle.pvp_wire.proofs.MessageFormats.{not_memory, request_right, prepare_right, view_right, start_view_change_right, answer_right, message_never}
use Rattle.pvp_wire.proofs.Frames.{stamped, all_read-ok}

-- this reading fails at fields alone
abbrev Only : {A : Type 0} → Result A WireFault → Type 0
Only read = (fault : WireFault) → read ≡ Err fault → IsOfField fault

-- where memory is refused, this is so, and with memory what is read has a property, or a field is at fault
pub record Asked {A : Type 0} (So : Type 0) (Has : A → Type 0) (refused read : Result A WireFault) : Type 0 where
  pub kind : refused ≡ Err NoMemory → So
  pub found : (x : A) → refused ≡ Err NoMemory → read ≡ Ok x → Has x
  pub fault : (fault : WireFault) → refused ≡ Err NoMemory → read ≡ Err fault → IsOfField fault

-- nothing is refused
unasked : {A : Type 0} {So : Type 0} {Has : A → Type 0} {refused read : Result A WireFault} → (refused ≡ Err NoMemory → ⊥) → Asked So Has refused read
unasked never = record { kind = λ e. absurd (never e); found = λ x e same. absurd (never e); fault = λ f e same. absurd (never e) }

asked_only : {A : Type 0} {So : Type 0} {Has : A → Type 0} {read : Result A WireFault} → Only read → Asked So Has read read
asked_only h = unasked (λ e. not_memory NoMemory (h NoMemory e) refl)

asked_if : {A : Type 0} {So : Type 0} {Has : A → Type 0} {x y x' y' : Result A WireFault} (b : Bool) → Asked So Has x x' → Asked So Has y y'
    → Asked So Has (if b then x else y) (if b then x' else y')
asked_if true hx hy = hx
asked_if false hx hy = hy

-- a test before
asked_guard : {A : Type 0} {So : Type 0} {Has : A → Type 0} {x y : Result A WireFault} (b : Bool) (d : WireFault) → (d ≡ NoMemory → ⊥)
    → (b ≡ false → Asked So Has x y) → Asked So Has (if b then Err d else x) (if b then Err d else y)
asked_guard {A} true d other h = unasked (λ e. other (fault_is {A = A} d NoMemory e))
asked_guard false d other h = h refl

asked_map : {A B : Type 0} {So : Type 0} {Has : A → Type 0} (HasAfter : B → Type 0) (refused read : Result A WireFault) (make : A → B)
    → Asked So Has refused read → ((x : A) → Has x → HasAfter (make x))
    → Asked So HasAfter (refused >>= λ x. Ok (make x)) (read >>= λ x. Ok (make x))
asked_map HasAfter (Ok x) read make h keeps = unasked (λ e. absurd cc)
asked_map {A} {B} HasAfter (Err d) (Ok x) make h keeps = record {
  kind = λ e. h.kind (elsewhere {A = B} {B = A} d NoMemory e);
  found = λ y e same. subst HasAfter (ok_is (make x) y same) (keeps x (h.found x (elsewhere {A = B} {B = A} d NoMemory e) refl));
  fault = λ f e same. absurd cc;
}
asked_map {A} {B} HasAfter (Err d) (Err g) make h keeps = record {
  kind = λ e. h.kind (elsewhere {A = B} {B = A} d NoMemory e);
  found = λ y e same. absurd cc;
  fault = λ f e same. h.fault f (elsewhere {A = B} {B = A} d NoMemory e) (elsewhere {A = B} {B = A} g f same);
}

-- something is read before
asked_then : {A B : Type 0} {So : Type 0} {Has : B × List ℕ → Type 0} (read : Reads A) (kr k : A × List ℕ → Reads B) → Only read
    → ((x : A × List ℕ) → Asked So Has (kr x) (k x)) → Asked So Has (read >>= kr) (read >>= k)
asked_then (Ok x) kr k h hk = hk x
asked_then {A} {B} (Err d) kr k h hk =
    unasked (λ e. not_memory NoMemory (h NoMemory (elsewhere {A = B × List ℕ} {B = A × List ℕ} d NoMemory e)) refl)

-- ---- shapes that take memory for what has a property, and the last part of others

record Asks {A : Type 0} (shape : Shape A) (Has : A → Type 0) : Type 0 where
  asked : (bytes : List ℕ) → Asked (Unit {0}) (λ x. Has x.0) (shape.read true bytes) (shape.read false bytes)

record ChainAsks {Z Make : Type 0} (parts : Chain Z Make) (make : Make) (Has : Z → Type 0) : Type 0 where
  asked : (bytes : List ℕ) → Asked (Unit {0}) (λ x. Has x.0) (parts.read make true bytes) (parts.read make false bytes)

last_asks : {A Z : Type 0} {shape : Shape A} {Has : A → Type 0} {at : Z → A} {make : A → Z} {HasAfter : Z → Type 0} → Asks shape Has
    → ((a : A) → Has a → HasAfter (make a)) → ChainAsks (lastly shape at) make HasAfter
last_asks {A} {Z} {shape} {Has} {at} {make} {HasAfter} asks keeps = record {
  asked = λ bytes. asked_map {B = Z × List ℕ} (λ z. HasAfter z.0) (shape.read true bytes) (shape.read false bytes) (λ x. (make x.0, x.1)) (asks.asked bytes)
      (λ x has. keeps x.0 has);
}

-- a part before, for which none is taken
part_asks : {A Z Make : Type 0} {shape : Shape A} {Is : A → Type 0} {most : ℕ} {at : Z → A} {others : Chain Z Make} {make : A → Make} {Has : Z → Type 0}
    → IsRight shape Is most → ((bytes : List ℕ) → shape.read true bytes ≡ shape.read false bytes) → ((a : A) → ChainAsks others (make a) Has)
    → ChainAsks (◌of◌and◌ shape at others) make Has
part_asks {A} {Z} {Make} {shape} {Is} {most} {at} {others} {make} {Has} right same asks = record {
  asked = λ bytes. rw (same bytes)
      (asked_then (shape.read false bytes) (λ x. others.read (make x.0) true x.1) (λ x. others.read (make x.0) false x.1) (right.faults bytes)
      (λ x. (asks x.0).asked x.1));
}

whole_asks : {Z Make : Type 0} {parts : Chain Z Make} {make : Make} {Has : Z → Type 0} → ChainAsks parts make Has → Asks (whole parts make) Has
whole_asks asks = record { asked = asks.asked }

-- ---- rows

abbrev SomeRows : List BankRow → Type 0
SomeRows log = log ≢ []

-- the first row
first_row : (r : BankRow) (others : Reads (List BankRow)) → Only others
    → Asked (Unit {0}) (λ (x : List BankRow × List ℕ). SomeRows x.0) (Err NoMemory) (others >>= λ x. Ok (r ∷ x.0, x.1))
first_row r (Ok x) h = record {
  kind = λ e. tt;
  found = λ y e same empty. let one = ok_is {A = List BankRow × List ℕ} (r ∷ x.0, x.1) y same in
      let none : r ∷ x.0 ≡ [] = ap (λ (p : List BankRow × List ℕ). p.0) one ∙ empty in
      absurd cc;
  fault = λ f e same. absurd cc;
}
first_row r (Err d) h = record { kind = λ e. tt; found = λ y e same. absurd cc; fault = λ f e same. h f same }

more_asked : (count : ℕ) (bytes : List ℕ)
    → Asked (Unit {0}) (λ x. SomeRows x.0) (items_from (row.read false) true count bytes) (items_from (row.read false) false count bytes)
unfolding items_from
more_asked zero bytes = unasked (λ e. absurd cc)
more_asked (suc count) bytes =
    asked_then (row.read false bytes) (λ r. Err NoMemory) (λ r. (items_from (row.read false) false count r.1 >>= λ x. Ok (r.0 ∷ x.0, x.1)))
    (row_right.faults bytes) (λ r. first_row r.0 (items_from (row.read false) false count r.1) (more-faults row_right count r.1))

rows_asks : Asks rows SomeRows
unfolding rows
rows_asks = record {
  asked = λ bytes.
      asked_then (number_at 2 bytes) (λ n. items_from (row.read false) true n.0 n.1) (λ n. items_from (row.read false) false n.0 n.1)
      (r2.faults bytes) (λ n. more_asked n.0 n.1);
}

state_asks : Asks state (λ s. SomeRows s.rows)
unfolding state
state_asks = whole_asks (part_asks r2 (λ b. refl) (λ a. last_asks rows_asks (λ rows some. some)))

-- a state is there, and has a row
option_asks : Asks state_option (λ s. SomeRows (rows_of_state s))
unfolding option_at
option_asks = record { asked = by }
  where
    by : (bytes : List ℕ) → Asked (Unit {0}) (λ x. SomeRows (rows_of_state x.0)) (option_at true bytes) (option_at false bytes)
    by [] = unasked (λ e. absurd cc)
    by (flag ∷ bytes) =
        asked_if (flag == 0) (unasked (λ e. absurd cc)) (asked_if (flag == 1)
        (asked_map (λ x. SomeRows (rows_of_state x.0)) (state.read true bytes) (state.read false bytes) (λ s. (Some s.0, s.1)) (state_asks.asked bytes)
        (λ s some. some)) (unasked (λ e. absurd cc)))

-- ---- messages

do_view_change_asks : Asks do_view_change (λ m. HasARow (DoViewChange m))
unfolding do_view_change
do_view_change_asks =
    whole_asks (part_asks r4 (λ b. refl) (λ a. part_asks r4 (λ b. refl) (λ a. part_asks r2 (λ b. refl) (λ a. part_asks in_place_boots (λ b. refl) (λ a.
    last_asks rows_asks (λ rows some. some))))))

start_view_asks : Asks start_view (λ m. HasARow (StartView m))
unfolding start_view
start_view_asks = whole_asks (part_asks r4 (λ b. refl) (λ a. part_asks r2 (λ b. refl) (λ a. last_asks rows_asks (λ rows some. some))))

new_state_asks : Asks new_state (λ m. HasARow (NewState m))
unfolding new_state
new_state_asks =
    whole_asks (part_asks r4 (λ b. refl) (λ a. part_asks r2 (λ b. refl) (λ a. part_asks r2 (λ b. refl) (λ a. last_asks rows_asks (λ rows some. some)))))

recovery_response_asks : Asks recovery_response (λ m. HasARow (RecoveryResponse m))
unfolding recovery_response
recovery_response_asks =
    whole_asks (part_asks r4 (λ b. refl) (λ a. part_asks r4 (λ b. refl) (λ a. part_asks in_place_boots (λ b. refl) (λ a.
    last_asks option_asks (λ s some. some)))))

-- the message of a kind takes memory so
abbrev Asking : ℕ → Reads BankMsg → Reads BankMsg → Type 0
Asking k refused read = Asked (carries_a_list k ≡ true) (λ x. HasARow x.0) refused read

-- the case of this kind, or another
choose : (k i : ℕ) {x y x' y' : Reads BankMsg} → Asking i x x' → Asking k y y' → Asking k (if k == i then x else y) (if k == i then x' else y')
choose k i {x} {y} {x'} {y'} this other = by (k == i) (eqb-true k i)
  where
    by : (b : Bool) → (b ≡ true → k ≡ i) → Asking k (if b then x else y) (if b then x' else y')
    by true same = subst (λ (j : ℕ). Asking j x x') (sym (same refl)) this
    by false same = other

-- one that takes none
none : {A : Type 0} {shape : Shape A} {Is : A → Type 0} {most : ℕ} → IsRight shape Is most → (make : A → BankMsg) (k : ℕ) (bytes : List ℕ)
    → Asking k (as_part make (shape.read false bytes)) (as_part make (shape.read false bytes))
none {A} {shape} right make k bytes =
    asked_only (λ fault e. then_fails IsOfField (shape.read false bytes) (λ x. Ok (make x.0, x.1)) fault (right.faults bytes) (λ x f ok. absurd cc) e)

-- one that takes some
some : {A : Type 0} {shape : Shape A} {Has : A → Type 0} → Asks shape Has → (make : A → BankMsg) (k : ℕ) (bytes : List ℕ) → carries_a_list k ≡ true
    → ((a : A) → Has a → HasARow (make a)) → Asking k (as_part make (shape.read true bytes)) (as_part make (shape.read false bytes))
some {A} {shape} asks make k bytes carries has =
    let asked =
    asked_map {B = BankMsg × List ℕ} (λ x. HasARow x.0) (shape.read true bytes) (shape.read false bytes) (λ x. (make x.0, x.1)) (asks.asked bytes)
    (λ x is. has x.0 is) in
    record { kind = λ e. carries; found = asked.found; fault = asked.fault }

message_asked : (k : ℕ) (bytes : List ℕ) → Asking k (message_at true k bytes) (message_at false k bytes)
unfolding message_at
message_asked k bytes =
    choose k 1 (none request_right Request 1 bytes) (choose k 2 (none prepare_right Prepare 2 bytes)
    (choose k 3 (none view_right (λ x. PrepareOk (record { view = x.0; place = x.1 })) 3 bytes)
    (choose k 4 (none view_right (λ x. Commit (record { view = x.0; done = x.1 })) 4 bytes)
    (choose k 5 (none start_view_change_right StartViewChange 5 bytes)
    (choose k 6 (some do_view_change_asks DoViewChange 6 bytes refl (λ m is. is))
    (choose k 7 (some start_view_asks StartView 7 bytes refl (λ m is. is))
    (choose k 8 (none view_right (λ x. GetState (record { view = x.0; base = x.1 })) 8 bytes)
    (choose k 9 (some new_state_asks NewState 9 bytes refl (λ m is. is))
    (choose k 10 (none r4 (λ n. Recovery (record { nonce = n })) 10 bytes)
    (choose k 11 (some recovery_response_asks RecoveryResponse 11 bytes refl (λ m is. is))
    (choose k 12 (none answer_right Reply 12 bytes) (choose k 13 (none order_right PayOrder 13 bytes) (unasked (λ e. absurd cc))))))))))))))

-- ---- frames

abbrev pub HasIn : Stamped → Type 0
HasIn s = HasARow s.envelope.msg

envelope_asked : (k : ℕ) (bytes : List ℕ) → Asked (carries_a_list k ≡ true) (λ x. HasIn x.0) (envelope_at true k bytes) (envelope_at false k bytes)
unfolding envelope_at
envelope_asked k bytes =
    asked_then (stamp.read false bytes)
    (λ a. (listed_at 2 is_actor a.1 >>= λ b. (message_at true k b.1 >>= λ c. Ok (stamped a.0 b.0 c.0, c.1))))
    (λ a. (listed_at 2 is_actor a.1 >>= λ b. (message_at false k b.1 >>= λ c. Ok (stamped a.0 b.0 c.0, c.1)))) (stamp_right.faults bytes) (λ a.
    asked_then (listed_at 2 is_actor a.1) (λ b. (message_at true k b.1 >>= λ c. Ok (stamped a.0 b.0 c.0, c.1)))
    (λ b. (message_at false k b.1 >>= λ c. Ok (stamped a.0 b.0 c.0, c.1))) ((listed_right 2 is_actor).faults a.1) (λ b.
    asked_map {B = Stamped × List ℕ} (λ x. HasIn x.0) (message_at true k b.1) (message_at false k b.1) (λ c. (stamped a.0 b.0 c.0, c.1))
    (message_asked k b.1) (λ c is. is)))

unrefused : (b : Bool) (s : Stamped) → (if b then Ok s else failed {A = Stamped} Length) ≡ Err NoMemory → ⊥
unrefused true s e = absurd cc
unrefused false s e = absurd cc

too_long : (b : Bool) (s : Stamped) (fault : WireFault) → (if b then Ok s else failed {A = Stamped} Length) ≡ Err fault → IsOfField fault
too_long true s fault e = absurd cc
too_long false s fault e = inr (sym (fault_is {A = Stamped} Length fault e))

all_asked : {So : Type 0} (refused read : Reads Stamped) → Asked So (λ x. HasIn x.0) refused read → Asked So HasIn (refused >>= all_read) (read >>= all_read)
all_asked (Ok x) read h = unasked (unrefused (length x.1 == 0) x.0)
all_asked (Err d) (Ok x) h = record {
  kind = λ e. h.kind (elsewhere {A = Stamped} {B = Stamped × List ℕ} d NoMemory e);
  found = λ s e same. subst HasIn (all_read-ok x s same).0 (h.found x (elsewhere {A = Stamped} {B = Stamped × List ℕ} d NoMemory e) refl);
  fault = λ f e same. too_long (length x.1 == 0) x.0 f same;
}
all_asked (Err d) (Err g) h = record {
  kind = λ e. h.kind (elsewhere {A = Stamped} {B = Stamped × List ℕ} d NoMemory e);
  found = λ s e same. absurd cc;
  fault = λ f e same. h.fault f (elsewhere {A = Stamped} {B = Stamped × List ℕ} d NoMemory e) (elsewhere {A = Stamped} {B = Stamped × List ℕ} g f same);
}

counted_asked : (bytes : List ℕ) → Asked (carries_a_list (get_or bytes 1 0) ≡ true) HasIn (counted_at true bytes) (counted_at false bytes)
unfolding counted_at
counted_asked [] = unasked (λ e. absurd cc)
counted_asked (n ∷ []) = unasked (λ e. absurd cc)
counted_asked (n ∷ k ∷ bytes) =
    asked_guard (not (n == version)) Version (λ e. absurd cc)
    (λ v. asked_guard (not (nat_le 1 k && nat_le k 13)) Kind (λ e. absurd cc)
    (λ w. all_asked (envelope_at true k bytes) (envelope_at false k bytes) (envelope_asked k bytes)))

sized_asked : (bytes : List ℕ) (len : ℕ) → 18 ≤ len
    → Asked (carries_a_list (get_or bytes 5 0) ≡ true) (λ (x : Stamped × ℕ). HasIn x.0) (counted_at true (take len (drop 4 bytes)) >>= λ s. Ok (s, 4 + len))
    (counted_at false (take len (drop 4 bytes)) >>= λ s. Ok (s, 4 + len))
sized_asked bytes len long =
    let cut = take len (drop 4 bytes) in
    let inside : 1 < len = omega arith in
    let there : get_or cut 1 0 ≡ get_or bytes 5 0 = get_or-take len (drop 4 bytes) 1 0 inside ∙ get_or-drop 4 bytes 1 0 in
    asked_map {B = Stamped × ℕ} (λ x. HasIn x.0) (counted_at true cut) (counted_at false cut) (λ s. (s, 4 + len))
    (subst (λ (k : ℕ). Asked (carries_a_list k ≡ true) HasIn (counted_at true cut) (counted_at false cut)) there (counted_asked cut)) (λ s some. some)

-- memory is taken only for frames that carry a list of rows
pub frame_asked : (bytes : List ℕ)
    → Asked (carries_a_list (get_or bytes 5 0) ≡ true) (λ (x : Stamped × ℕ). HasIn x.0) (frame_where true bytes) (frame_where false bytes)
unfolding frame_where
frame_asked bytes =
    let len = big_number 4 bytes in
    asked_guard (nat_lt (length bytes) 4) Short (λ e. absurd cc)
    (λ a. asked_guard (nat_lt most_length len) TooLong (λ e. absurd cc) (λ b. asked_guard (nat_lt len 18) Length (λ e. absurd cc) (λ c.
    asked_guard (nat_lt (length bytes) (4 + len)) Short (λ e. absurd cc) (λ d. sized_asked bytes len (ltb-false len 18 c)))))

-- ---- reading where memory is not refused never tells that it was

never_if : {A : Type 0} {x y : Result A WireFault} (b : Bool) → (b ≡ true → x ≡ Err NoMemory → ⊥) → (y ≡ Err NoMemory → ⊥) → (if b then x else y) ≡ Err NoMemory
    → ⊥
never_if true hx hy e = hx refl e
never_if false hx hy e = hy e

never_then : {A B : Type 0} (read : Result A WireFault) (k : A → Result B WireFault) → (read ≡ Err NoMemory → ⊥) → ((x : A) → k x ≡ Err NoMemory → ⊥)
    → (read >>= k) ≡ Err NoMemory → ⊥
never_then (Ok x) k h hk e = hk x e
never_then {A} {B} (Err d) k h hk e = h (elsewhere {A = B} {B = A} d NoMemory e)

envelope_never : (k : ℕ) (bytes : List ℕ) → envelope_at false k bytes ≡ Err NoMemory → ⊥
unfolding envelope_at
envelope_never k bytes =
    never_then (stamp.read false bytes) (λ a. (listed_at 2 is_actor a.1 >>= λ b. (message_at false k b.1 >>= λ c. Ok (stamped a.0 b.0 c.0, c.1))))
    (λ e. not_memory NoMemory (stamp_right.faults bytes NoMemory e) refl) (λ a.
    never_then (listed_at 2 is_actor a.1) (λ b. (message_at false k b.1 >>= λ c. Ok (stamped a.0 b.0 c.0, c.1)))
    (λ e. not_memory NoMemory ((listed_right 2 is_actor).faults a.1 NoMemory e) refl) (λ b.
    never_then (message_at false k b.1) (λ c. Ok (stamped a.0 b.0 c.0, c.1)) (message_never k b.1) (λ c e. absurd cc)))

counted_never : (bytes : List ℕ) → counted_at false bytes ≡ Err NoMemory → ⊥
unfolding counted_at
counted_never [] = λ e. absurd cc
counted_never (n ∷ []) = λ e. absurd cc
counted_never (n ∷ k ∷ bytes) =
    never_if (not (n == version)) (λ is e. absurd cc) (never_if (not (nat_le 1 k && nat_le k 13)) (λ is e. absurd cc)
    (never_then (envelope_at false k bytes) all_read (envelope_never k bytes) (λ x. unrefused (length x.1 == 0) x.0)))

pub frame_never : (bytes : List ℕ) → frame_at bytes ≡ Err NoMemory → ⊥
unfolding frame_where
frame_never bytes =
    let len = big_number 4 bytes in
    never_if (nat_lt (length bytes) 4) (λ is e. absurd cc)
    (never_if (nat_lt most_length len) (λ is e. absurd cc)
    (never_if (nat_lt len 18) (λ is e. absurd cc) (never_if (nat_lt (length bytes) (4 + len)) (λ is e. absurd cc)
    (never_then (counted_at false (take len (drop 4 bytes))) (λ s. Ok (s, 4 + len)) (counted_never (take len (drop 4 bytes))) (λ s e. absurd cc)))))
