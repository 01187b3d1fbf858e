-- Frames: what is taken is spelled so, and what is spelled so is read again, whatever follows it.
use Rattle.std.proofs.Common.{◌≡◌, ℕ, Bool, ◌+◌, ◌<◌, ◌≤◌, ◌^◌, ◌==◌, ◌&&◌, true, false, not, nat_lt, nat_le, List, [], ◌∷◌, ◌++◌, length, take, drop, Result, Ok, Err, refl, sym, ap, subst, ◌∙◌, if◌then◌else◌, append_assoc, arith}
use Rattle.std.specs.List.{list_all}
use Rattle.std.proofs.lemmas.Bool.{ltb-false, le-ltb, le-leb, eq-eqb, eqb-true}
use Rattle.std.proofs.lemmas.List.{append-nil, length-drop, drop-append-le, take-append-le, take_at, take-append-drop, length-append, length-take}
use Rattle.byteorder.specs.Endian.{big_number}
use Rattle.byteorder.specs.Numbers.{big_from-append}
use Rattle.vr_types.specs.declared.message.MsgOf.TheVariants.{Request, Prepare, PrepareOk, Commit, StartViewChange, DoViewChange, StartView, GetState, NewState, Recovery, RecoveryResponse, Reply, PayOrder}
use Rattle.vr_types.specs.Messages.{rows_in, known_in}
use Rattle.vr_types.specs.Actors.{is_actor}
use Rattle.pvp_wire.specs.declared.fault.WireFault.{WireFault}
use Rattle.pvp_wire.specs.declared.fault.WireFault.TheVariants.{Short, TooLong, Version, Kind, Length}
use Rattle.pvp_wire.specs.declared.stamped.Stamp.{Stamp}
use Rattle.pvp_wire.specs.declared.stamped.Stamped.{Stamped}
use Rattle.pvp_wire.specs.Shape.{◌>>=◌, number, Fits, number_at, listed_at}
use Rattle.pvp_wire.specs.Layout.{BankMsg, kind, body, stamp, message_at}
use Rattle.pvp_wire.specs.Spelling.{version, head, spelling, has_client, has_site_count, most_body}
use Rattle.pvp_wire.specs.Fits.{IsBytes, IsSpelled}
use Rattle.pvp_wire.specs.Reading.{envelope_at, all_read, counted_at, frame_where, frame_at, most_length}
use Rattle.pvp_wire.proofs.Formats.{IsBytes-rest, IsBytes-drop, IsBytes-take, Takes, Takes-then, TakesBy, bind_ok, guard_ok, guarded, wanted_ok, not-false, ok_is, fault_is}
use Rattle.pvp_wire.proofs.Numbers.{length-number}
use Rattle.pvp_wire.proofs.Parts.{n4, both, parted}
use Rattle.pvp_wire.proofs.Shapes.{listed_right}
use Rattle.pvp_wire.proofs.Layouts.{IsStamp, stamp_right}
use Rattle.pvp_wire.proofs.MessageFormats.{IsOfKind, message_takes, message_of_kind}
use Rattle.pvp_wire.proofs.Lengths.{admitted, length-head, spelled-short}

-- what stands after the version and the kind
abbrev inside : Stamped → List ℕ
inside s = stamp.spell s.stamp ++ number 2 s.envelope.to ++ body s.envelope.msg

abbrev pub stamped : Stamp → ℕ → BankMsg → Stamped
stamped s to msg = record { stamp = s; envelope = record { from = s.actor; to = to; msg = msg } }

-- what has a spelling, part by part
record Parts (k : ℕ) (s : Stamped) : Type 0 where
  stamp : IsStamp s.stamp
  to : Fits 2 s.envelope.to × (is_actor s.envelope.to ≡ true)
  msg : IsOfKind k s.envelope.msg
  from : s.envelope.from ≡ s.stamp.actor

-- its rows of clients, the boots that it tells of those of 1 to 7 sites
abbrev is_admitted : BankMsg → Bool
is_admitted m = list_all has_client (rows_in m) && has_site_count (known_in m)

joined : (k : ℕ) (s : Stamped) → Parts k s → IsSpelled s
joined k s p = record {
  fits = (p.stamp.0, p.to.0, p.msg.0.0);
  wireable =
      both (s.envelope.from == s.stamp.actor) (is_actor s.stamp.actor && (is_actor s.envelope.to && is_admitted s.envelope.msg))
      (eq-eqb s.envelope.from s.stamp.actor p.from)
      (both (is_actor s.stamp.actor) (is_actor s.envelope.to && is_admitted s.envelope.msg) p.stamp.1
      (both (is_actor s.envelope.to) (is_admitted s.envelope.msg) p.to.1
      (both (list_all has_client (rows_in s.envelope.msg)) (has_site_count (known_in s.envelope.msg)) p.msg.0.1.0 p.msg.0.1.1)));
}

part : (s : Stamped) → IsSpelled s → Parts (kind s.envelope.msg) s
part s h =
    let a = parted (s.envelope.from == s.stamp.actor) (is_actor s.stamp.actor && (is_actor s.envelope.to && is_admitted s.envelope.msg)) h.wireable in
    let b = parted (is_actor s.stamp.actor) (is_actor s.envelope.to && is_admitted s.envelope.msg) a.1 in
    let c = parted (is_actor s.envelope.to) (is_admitted s.envelope.msg) b.1 in
    record { stamp = (h.fits.0, b.0); to = (h.fits.1, c.0); msg = ((h.fits.2, admitted s h.wireable), refl); from = eqb-true s.envelope.from s.stamp.actor a.0 }

envelope-takes : (k : ℕ) → TakesBy inside (Parts k) (envelope_at false k)
unfolding envelope_at
envelope-takes k bytes s rest fits e =
    let a =
    bind_ok (stamp.read false bytes) (λ x. (listed_at 2 is_actor x.1 >>= λ y. (message_at false k y.1 >>= λ z. Ok (stamped x.0 y.0 z.0, z.1)))) (s, rest) e in
    let ta = stamp_right.takes bytes a.0.0 a.0.1 fits a.1 in
    let b = bind_ok (listed_at 2 is_actor a.0.1) (λ y. (message_at false k y.1 >>= λ z. Ok (stamped a.0.0 y.0 z.0, z.1))) (s, rest) a.2 in
    let tb = (listed_right 2 is_actor).takes a.0.1 b.0.0 b.0.1 ta.0.rest_fits b.1 in
    let c = bind_ok (message_at false k b.0.1) (λ z. Ok (stamped a.0.0 b.0.0 z.0, z.1)) (s, rest) b.2 in
    let tc = message_takes k b.0.1 c.0.0 c.0.1 tb.0.rest_fits c.1 in
    subst (λ (p : Stamped × List ℕ). Takes bytes (inside p.0) p.1 × Parts k p.0) (ok_is (stamped a.0.0 b.0.0 c.0.0, c.0.1) (s, rest) c.2) (
      Takes-then bytes (stamp.spell a.0.0 ++ number 2 b.0.0) b.0.1 (body c.0.0) c.0.1
          (Takes-then bytes (stamp.spell a.0.0) a.0.1 (number 2 b.0.0) b.0.1 ta.0 tb.0) tc.0,
      record { stamp = ta.1; to = tb.1; msg = tc.1; from = refl },
    )

kinds : (m : BankMsg) → (1 ≤ kind m) × (kind m ≤ 13)
kinds (Request msg) = (omega arith, omega arith)
kinds (Prepare msg) = (omega arith, omega arith)
kinds (PrepareOk msg) = (omega arith, omega arith)
kinds (Commit msg) = (omega arith, omega arith)
kinds (StartViewChange msg) = (omega arith, omega arith)
kinds (DoViewChange msg) = (omega arith, omega arith)
kinds (StartView msg) = (omega arith, omega arith)
kinds (GetState msg) = (omega arith, omega arith)
kinds (NewState msg) = (omega arith, omega arith)
kinds (Recovery msg) = (omega arith, omega arith)
kinds (RecoveryResponse msg) = (omega arith, omega arith)
kinds (Reply msg) = (omega arith, omega arith)
kinds (PayOrder a) = (omega arith, omega arith)

envelope-again : (s : Stamped) (rest : List ℕ) → IsSpelled s → envelope_at false (kind s.envelope.msg) (inside s ++ rest) ≡ Ok (s, rest)
unfolding envelope_at
envelope-again s rest h =
    let p = part s h in
    let to = number 2 s.envelope.to in
    let msg = body s.envelope.msg in
    ap (envelope_at false (kind s.envelope.msg)) (append_assoc (stamp.spell s.stamp ++ to) msg rest ∙ append_assoc (stamp.spell s.stamp) to (msg ++ rest))
    ∙ rw (
      stamp_right.again s.stamp (to ++ (msg ++ rest)) p.stamp,
      (listed_right 2 is_actor).again s.envelope.to (msg ++ rest) p.to,
      message_of_kind (kind s.envelope.msg) s.envelope.msg rest p.msg,
    ) (ap (λ (from : ℕ). Ok (record { stamp = s.stamp; envelope = record { from = from; to = s.envelope.to; msg = s.envelope.msg } }, rest)) (sym p.from))

number-parts : (bytes : List ℕ) (n : ℕ) (rest : List ℕ) → number_at 4 bytes ≡ Ok (n, rest) → (big_number 4 bytes ≡ n) × (drop 4 bytes ≡ rest)
number-parts bytes n rest e =
    let g = guard_ok (nat_lt (length bytes) 4) Length (big_number 4 bytes, drop 4 bytes) (n, rest) e in
    (ap (λ (p : ℕ × List ℕ). p.0) g.1, ap (λ (p : ℕ × List ℕ). p.1) g.1)

-- nothing is left
pub all_read-ok : (x : Stamped × List ℕ) (s : Stamped) → all_read x ≡ Ok s → (x.0 ≡ s) × (length x.1 ≡ 0)
all_read-ok x s e =
    let g = wanted_ok (length x.1 == 0) Length x.0 s e in
    (g.1, eqb-true (length x.1) 0 g.0)

no_bytes : (bytes : List ℕ) → length bytes ≡ 0 → bytes ≡ []
no_bytes [] e = refl
no_bytes (b ∷ bytes) e = absurd (omega arith)

-- what is read of the bytes that a length counts
counted-takes : (bytes : List ℕ) (s : Stamped) → IsBytes bytes → counted_at false bytes ≡ Ok s → (bytes ≡ head s ++ body s.envelope.msg) × IsSpelled s
unfolding counted_at
counted-takes [] s fits e = absurd cc
counted-takes (n ∷ []) s fits e = absurd cc
counted-takes (n ∷ k ∷ bytes) s fits e =
    let v = guarded (not (n == version)) Version (if not (nat_le 1 k && nat_le k 13) then Err Kind else (envelope_at false k bytes >>= all_read)) s e in
    let w = guarded (not (nat_le 1 k && nat_le k 13)) Kind (envelope_at false k bytes >>= all_read) s v.1 in
    let version-is : n ≡ version = eqb-true n version (not-false (n == version) v.0) in
    let m = bind_ok (envelope_at false k bytes) all_read s w.1 in
    let t = envelope-takes k bytes m.0.0 m.0.1 (IsBytes-rest k bytes (IsBytes-rest n (k ∷ bytes) fits)) m.1 in
    let a = all_read-ok m.0 s m.2 in
    let text : bytes ≡ inside m.0.0 = t.0.parts ∙ ap (λ (x : List ℕ). inside m.0.0 ++ x) (no_bytes m.0.1 a.1) ∙ append-nil (inside m.0.0) in
    let whole : n ∷ k ∷ bytes ≡ head m.0.0 ++ body m.0.0.envelope.msg =
    ap (λ (v : ℕ). v ∷ k ∷ bytes) version-is ∙ ap (λ (j : ℕ). version ∷ j ∷ bytes) (sym t.1.msg.1)
    ∙ ap (λ (x : List ℕ). version ∷ kind m.0.0.envelope.msg ∷ x) text in
    subst (λ (x : Stamped). (n ∷ k ∷ bytes ≡ head x ++ body x.envelope.msg) × IsSpelled x) a.0 (whole, joined k m.0.0 t.1)

counted-again : (s : Stamped) → IsSpelled s → counted_at false (head s ++ body s.envelope.msg) ≡ Ok s
unfolding counted_at
counted-again s h =
    let b = kinds s.envelope.msg in
    let known : (nat_le 1 (kind s.envelope.msg) && nat_le (kind s.envelope.msg) 13) ≡ true =
    both (nat_le 1 (kind s.envelope.msg)) (nat_le (kind s.envelope.msg) 13) (le-leb 1 (kind s.envelope.msg) b.0) (le-leb (kind s.envelope.msg) 13 b.1) in
    let read : envelope_at false (kind s.envelope.msg) (inside s) ≡ Ok (s, []) =
    ap (envelope_at false (kind s.envelope.msg)) (sym (append-nil (inside s))) ∙ envelope-again s [] h in
    rw (known, read) refl

-- the tests of a frame, from the last to the first
abbrev counted_in : List ℕ → ℕ → Result (Stamped × ℕ) WireFault
counted_in bytes len = counted_at false (take len (drop 4 bytes)) >>= λ s. Ok (s, 4 + len)

abbrev whole_in : List ℕ → ℕ → Result (Stamped × ℕ) WireFault
whole_in bytes len = if nat_lt (length bytes) (4 + len) then Err Short else counted_in bytes len

abbrev long_in : List ℕ → ℕ → Result (Stamped × ℕ) WireFault
long_in bytes len = if nat_lt len 18 then Err Length else whole_in bytes len

abbrev bounded_in : List ℕ → ℕ → Result (Stamped × ℕ) WireFault
bounded_in bytes len = if nat_lt most_length len then Err TooLong else long_in bytes len

-- the length that stands in front
first_number : (bytes : List ℕ) → 4 ≤ length bytes → IsBytes bytes → bytes ≡ number 4 (big_number 4 bytes) ++ drop 4 bytes
first_number bytes long fits =
    let read : number_at 4 bytes ≡ Ok (big_number 4 bytes, drop 4 bytes) = rw (le-ltb (length bytes) 4 long) refl in
    (n4.takes bytes (big_number 4 bytes) (drop 4 bytes) fits read).0.parts

-- a frame that was found
pub record IsFound (bytes : List ℕ) (s : Stamped) (n : ℕ) : Type 0 where
  pub text : take n bytes ≡ spelling s
  pub size : n ≡ length (spelling s)
  pub within : n ≤ length bytes
  pub spelled : IsSpelled s

found : (bytes : List ℕ) (len : ℕ) (s : Stamped) → bytes ≡ number 4 len ++ drop 4 bytes → 4 + len ≤ length bytes
    → take len (drop 4 bytes) ≡ head s ++ body s.envelope.msg → IsSpelled s → IsFound bytes s (4 + len)
found bytes len s front long inner spelled =
    let d = drop 4 bytes in
    let number-len = length-number 4 len in
    let rest-len : length d + 4 ≡ length bytes = omega (arith, ap length front, length-append (number 4 len) d, number-len) in
    let inner-len : length (take len d) ≡ len = omega (arith, length-take len d, rest-len) in
    let body-len : 18 + length (body s.envelope.msg) ≡ len =
    omega (arith, inner-len, ap length inner, length-append (head s) (body s.envelope.msg), length-head s) in
    let text : spelling s ≡ number 4 len ++ take len d =
    append_assoc (number 4 (18 + length (body s.envelope.msg))) (head s) (body s.envelope.msg)
    ∙ ap (λ (n : ℕ). number 4 n ++ (head s ++ body s.envelope.msg)) body-len ∙ ap (λ (x : List ℕ). number 4 len ++ x) (sym inner) in
    let size : length (number 4 len ++ take len d) ≡ 4 + len = omega (arith, length-append (number 4 len) (take len d), number-len, inner-len) in
    let split : bytes ≡ (number 4 len ++ take len d) ++ drop len d =
    front ∙ ap (λ (x : List ℕ). number 4 len ++ x) (sym (take-append-drop len d)) ∙ sym (append_assoc (number 4 len) (take len d) (drop len d)) in
    record {
      text = ap (take (4 + len)) split ∙ take_at (number 4 len ++ take len d) (drop len d) (4 + len) size ∙ sym text;
      size = sym size ∙ ap length (sym text);
      within = long;
      spelled = spelled;
    }

pub frame-takes : (bytes : List ℕ) (s : Stamped) (n : ℕ) → IsBytes bytes → frame_at bytes ≡ Ok (s, n) → IsFound bytes s n
unfolding frame_where
frame-takes bytes s n fits e =
    let len = big_number 4 bytes in
    let a = guarded (nat_lt (length bytes) 4) Short (bounded_in bytes len) (s, n) e in
    let b = guarded (nat_lt most_length len) TooLong (long_in bytes len) (s, n) a.1 in
    let c = guarded (nat_lt len 18) Length (whole_in bytes len) (s, n) b.1 in
    let d = guarded (nat_lt (length bytes) (4 + len)) Short (counted_in bytes len) (s, n) c.1 in
    let m = bind_ok (counted_at false (take len (drop 4 bytes))) (λ x. Ok (x, 4 + len)) (s, n) d.1 in
    let t = counted-takes (take len (drop 4 bytes)) m.0 (IsBytes-take len (drop 4 bytes) (IsBytes-drop 4 bytes fits)) m.1 in
    let f = found bytes len m.0 (first_number bytes (ltb-false (length bytes) 4 a.0) fits) (ltb-false (length bytes) (4 + len) d.0) t.0 t.1 in
    let same = ok_is (m.0, 4 + len) (s, n) m.2 in
    subst (λ (p : Stamped × ℕ). IsFound bytes p.0 p.1) same f

pub frame-again : (s : Stamped) (rest : List ℕ) → IsSpelled s → frame_at (spelling s ++ rest) ≡ Ok (s, length (spelling s))
unfolding frame_where
frame-again s rest h =
    let msg = s.envelope.msg in
    let len = 18 + length (body msg) in
    let inner = head s ++ body msg in
    let bytes = spelling s ++ rest in
    let short : length (body msg) ≤ most_body = spelled-short s h.fits.2 h.wireable in
    let fits : len < 256 ^ 4 = omega (arith, short) in
    let inner-len : length inner ≡ len = omega (arith, length-append (head s) (body msg), length-head s) in
    let shape : bytes ≡ number 4 len ++ (inner ++ rest) =
    ap (λ (x : List ℕ). x ++ rest) (append_assoc (number 4 len) (head s) (body msg)) ∙ append_assoc (number 4 len) inner rest in
    let size : length (spelling s) ≡ 4 + len =
    ap length (append_assoc (number 4 len) (head s) (body msg)) ∙ (omega (arith, length-append (number 4 len) inner, length-number 4 len, inner-len)) in
    let total : length bytes ≡ 4 + len + length rest = omega (arith, length-append (spelling s) rest, size) in
    let read : number_at 4 (number 4 len ++ (inner ++ rest)) ≡ Ok (len, inner ++ rest) = n4.again len (inner ++ rest) fits in
    let parts = number-parts (number 4 len ++ (inner ++ rest)) len (inner ++ rest) read in
    let number-is : big_number 4 bytes ≡ len = ap (big_number 4) shape ∙ parts.0 in
    let after : drop 4 bytes ≡ inner ++ rest = ap (drop 4) shape ∙ parts.1 in
    let cut : take len (drop 4 bytes) ≡ inner = ap (take len) after ∙ take_at inner rest len inner-len in
    let t1 : nat_lt (length bytes) 4 ≡ false = le-ltb (length bytes) 4 (omega arith) in
    let t2 : nat_lt most_length len ≡ false = le-ltb most_length len (omega (arith, short)) in
    let t3 : nat_lt len 18 ≡ false = le-ltb len 18 (omega arith) in
    let t4 : nat_lt (length bytes) (4 + len) ≡ false = le-ltb (length bytes) (4 + len) (omega arith) in
    rw (t1, number-is, t2, t3, t4, cut, counted-again s h, size) refl

-- ---- what is wrong stays so

not_short : (b : Bool) (read : Result (Stamped × ℕ) WireFault) (fault : WireFault) → (if b then Err Short else read) ≡ Err fault → (fault ≡ Short → ⊥)
    → (b ≡ false) × (read ≡ Err fault)
not_short true read fault e other = absurd (other (sym (fault_is {A = Stamped × ℕ} Short fault e)))
not_short false read fault e other = (refl, e)

-- behind a test
behind : (b : Bool) (d : WireFault) (x y : Result (Stamped × ℕ) WireFault) (fault : WireFault) → (x ≡ Err fault → y ≡ Err fault)
    → (if b then Err d else x) ≡ Err fault → (if b then Err d else y) ≡ Err fault
behind true d x y fault h e = e
behind false d x y fault h e = h e

-- what comes after bytes mends no fault but that they are too few
pub frame-lasts : (x more : List ℕ) (fault : WireFault) → frame_at x ≡ Err fault → (fault ≡ Short → ⊥) → frame_at (x ++ more) ≡ Err fault
unfolding frame_where
frame-lasts x more fault e other =
    let len = big_number 4 x in
    let a = not_short (nat_lt (length x) 4) (bounded_in x len) fault e other in
    let long : 4 ≤ length x = ltb-false (length x) 4 a.0 in
    let number-is : big_number 4 (x ++ more) ≡ len = big_from-append 4 x more long in
    let total : length (x ++ more) ≡ length x + length more = length-append x more in
    let t1 : nat_lt (length (x ++ more)) 4 ≡ false = le-ltb (length (x ++ more)) 4 (omega (arith, total, long)) in
    let inner : whole_in x len ≡ Err fault → whole_in (x ++ more) len ≡ Err fault = λ f.
    let d = not_short (nat_lt (length x) (4 + len)) (counted_in x len) fault f other in
    let whole : 4 + len ≤ length x = ltb-false (length x) (4 + len) d.0 in
    let t4 : nat_lt (length (x ++ more)) (4 + len) ≡ false = le-ltb (length (x ++ more)) (4 + len) (omega (arith, total, whole)) in
    let room : len ≤ length (drop 4 x) = omega (arith, length-drop 4 x, whole) in
    let cut : take len (drop 4 (x ++ more)) ≡ take len (drop 4 x) = ap (take len) (drop-append-le 4 x more long) ∙ take-append-le len (drop 4 x) more room in
    rw (t4, cut) d.1 in
    let bounded : bounded_in (x ++ more) len ≡ Err fault =
    behind (nat_lt most_length len) TooLong (long_in x len) (long_in (x ++ more) len) fault
    (behind (nat_lt len 18) Length (whole_in x len) (whole_in (x ++ more) len) fault inner) a.1 in
    rw (t1, number-is) bounded
