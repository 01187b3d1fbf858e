-- What is cut off is a front of a record, and the other way round.
use Rattle.std.proofs.Common.{◌≡◌, ◌≢◌, ◌⊎◌, inl, inr, ℕ, zero, suc, Bool, true, false, ◌+◌, ◌-◌, ◌≤◌, ◌<◌, ◌==◌, not, nat_lt, List, [], ◌∷◌, ◌++◌, length, take, drop, refl, sym, ap, subst, ◌∙◌, append_assoc, arith, if◌then◌else◌}
use Rattle.std.proofs.lemmas.Bool.{ltb-true, ltb-false, eqb-true}
use Rattle.std.proofs.lemmas.List.Elements.{All-cons, All-nil, All-append}
use Rattle.std.proofs.lemmas.List.{append-nil, length-append, length-drop, take_at, drop_all, drop-drop}
use Rattle.byteorder.specs.Endian.{big_number}
use Rattle.pvp_wire.specs.Spelling.{number}
use Rattle.pvp_wire.specs.Fits.{Fits, IsBytes}
use Rattle.pvp_wire.proofs.Numbers.{length-number}
use Rattle.pvp_wire.proofs.Parts.{parted}
use Rattle.pvp_journal.specs.declared.fault.JournalWhy.{JournalWhy}
use Rattle.pvp_journal.specs.declared.fault.JournalWhy.TheVariants.{Length, Checksum}
use Rattle.pvp_journal.specs.Spelling.{checksum, greatest_u32, with_length, with_checksum}
use Rattle.pvp_journal.specs.Journals.{Front, AtEnd, CutOff, Sound, Damaged, agree, front_at, length_in, measured_in, body_in, size_in, IsPartial}
use Rattle.pvp_journal.proofs.Places.{some_in, twice_in, said_in, summed_in, last_in}
use Rattle.pvp_journal.proofs.Sealed.{agree-whole, length-measured, length-sealed, front-cut}
use Rattle.pvp_journal.proofs.Spelled.{number-takes, measured-splits}

-- ---- which test cut it off

past_end : (b : Bool) (y : Front) → (if b then AtEnd else y) ≡ CutOff → (b ≡ false) × (y ≡ CutOff)
past_end true y e = absurd cc
past_end false y e = (refl, e)

cut_here : (b : Bool) (y : Front) → (if b then CutOff else y) ≡ CutOff → (b ≡ true) ⊎ ((b ≡ false) × (y ≡ CutOff))
cut_here true y e = inl refl
cut_here false y e = inr (refl, e)

past_damage : (b : Bool) (why : JournalWhy) (y : Front) → (if not b then Damaged why else y) ≡ CutOff → (b ≡ true) × (y ≡ CutOff)
past_damage true why y e = (refl, e)
past_damage false why y e = absurd cc

never_sound : Sound ≡ CutOff → ⊥
never_sound e = absurd cc

-- ---- zeros, to fill what lacks

zeros : ℕ → List ℕ
zeros zero = []
zeros (suc n) = 0 ∷ zeros n

length-zeros : (n : ℕ) → length (zeros n) ≡ n
unfolding zeros
length-zeros zero = refl
length-zeros (suc n) = ap suc (length-zeros n)

zeros-fit : (n : ℕ) → IsBytes (zeros n)
unfolding zeros
zeros-fit zero = All-nil (λ (b : ℕ). b < 256)
zeros-fit (suc n) = All-cons (λ (b : ℕ). b < 256) 0 (zeros n) (omega arith) (zeros-fit n)

-- bytes that agree with a text that goes further
agree-part : (text bytes : List ℕ) → length bytes ≤ length text → agree text bytes ≡ true → text ≡ bytes ++ drop (length bytes) text
agree-part text [] short e = refl
agree-part [] (b ∷ bytes) short e = absurd (omega arith)
agree-part (x ∷ text) (b ∷ bytes) short e =
    let p = parted (x == b) (agree text bytes) e in
    ap (λ (h : ℕ). h ∷ text) (eqb-true x b p.0) ∙ ap (λ (t : List ℕ). b ∷ t) (agree-part text bytes (omega arith) p.1)

not_empty : (bytes : List ℕ) → 0 < length bytes → bytes ≡ [] → ⊥
not_empty bytes some e = absurd (omega (arith, ap length e))

positive : (n : ℕ) → (n == 0) ≡ false → 0 < n
positive zero e = absurd cc
positive (suc n) e = omega arith

filled : (bytes : List ℕ) → bytes ≢ [] → 0 < length bytes
filled [] e = absurd (e refl)
filled (b ∷ bytes) e = omega arith

-- ---- the places of a cut

-- the bytes behind a length
abbrev behind : ℕ → ℕ → List ℕ → List ℕ
behind before n body = number 4 (greatest_u32 - n) ++ (body ++ number 8 (checksum before (with_length body)))

sealed-shape : (before : ℕ) (body : List ℕ) → with_checksum before body ≡ number 4 (length body) ++ behind before (length body) body
sealed-shape before body =
    let n = length body in
    let s = number 8 (checksum before (with_length body)) in
    append_assoc (number 4 n ++ number 4 (greatest_u32 - n)) body s ∙ append_assoc (number 4 n) (number 4 (greatest_u32 - n)) (body ++ s)

some-behind : (before : ℕ) (body : List ℕ) → 0 < length (body ++ number 8 (checksum before (with_length body)))
some-behind before body =
    omega (arith, length-append body (number 8 (checksum before (with_length body))), length-number 8 (checksum before (with_length body)))

-- within its length
begun-length : (before : ℕ) (bytes : List ℕ) → IsBytes bytes → 0 < length bytes → length bytes < 4 → IsPartial before bytes
begun-length before bytes fits some few =
    let fill = zeros (4 - length bytes) in
    let fill-len = length-zeros (4 - length bytes) in
    let padded = bytes ++ fill in
    let len : length padded ≡ 4 = omega (arith, length-append bytes fill, fill-len) in
    let t = number-takes 4 padded (omega arith) (All-append (λ (b : ℕ). b < 256) bytes fill fits (zeros-fit (4 - length bytes))) in
    let n = big_number 4 padded in
    let exact : padded ≡ number 4 n = t.0 ∙ ap (λ (x : List ℕ). number 4 n ++ x) (drop_all 4 padded (omega arith)) ∙ append-nil (number 4 n) in
    let body = zeros n in
    let body-len = length-zeros n in
    let rest = behind before n body in
    let shape : with_checksum before body ≡ number 4 n ++ rest = sealed-shape before body ∙ ap (λ (k : ℕ). number 4 k ++ behind before k body) body-len in
    record {
      body = body;
      more = fill ++ rest;
      short = subst (Fits 4) (sym body-len) t.1;
      some = not_empty bytes some;
      lacks = not_empty (fill ++ rest) (omega (arith, length-append fill rest, fill-len));
      whole = sym (append_assoc bytes fill rest) ∙ ap (λ (x : List ℕ). x ++ rest) exact ∙ sym shape;
    }

-- within the length's complement
begun-complement : (before n : ℕ) (front : List ℕ) → Fits 4 n → length front ≤ 4 → agree (number 4 (greatest_u32 - n)) front ≡ true
    → IsPartial before (number 4 n ++ front)
begun-complement before n front short few twice =
    let c = number 4 (greatest_u32 - n) in
    let part = agree-part c front (omega (arith, length-number 4 (greatest_u32 - n))) twice in
    let left = drop (length front) c in
    let body = zeros n in
    let body-len = length-zeros n in
    let tail = body ++ number 8 (checksum before (with_length body)) in
    let shape : with_checksum before body ≡ number 4 n ++ (c ++ tail) =
    sealed-shape before body ∙ ap (λ (k : ℕ). number 4 k ++ behind before k body) body-len in
    record {
      body = body;
      more = left ++ tail;
      short = subst (Fits 4) (sym body-len) short;
      some = not_empty (number 4 n ++ front) (omega (arith, length-append (number 4 n) front, length-number 4 n));
      lacks = not_empty (left ++ tail) (omega (arith, length-append left tail, some-behind before body));
      whole =
          append_assoc (number 4 n) front (left ++ tail) ∙ ap (λ (x : List ℕ). number 4 n ++ x)
          (sym (append_assoc front left tail) ∙ ap (λ (x : List ℕ). x ++ tail) (sym part)) ∙ sym shape;
    }

-- within what it says
begun-body : (before n : ℕ) (front : List ℕ) → Fits 4 n → length front ≤ n → IsPartial before ((number 4 n ++ number 4 (greatest_u32 - n)) ++ front)
begun-body before n front short few =
    let c = number 4 (greatest_u32 - n) in
    let fill = zeros (n - length front) in
    let body = front ++ fill in
    let body-len : length body ≡ n = omega (arith, length-append front fill, length-zeros (n - length front)) in
    let s = number 8 (checksum before (with_length body)) in
    let shape : with_checksum before body ≡ number 4 n ++ (c ++ (body ++ s)) =
    sealed-shape before body ∙ ap (λ (k : ℕ). number 4 k ++ behind before k body) body-len in
    record {
      body = body;
      more = fill ++ s;
      short = subst (Fits 4) (sym body-len) short;
      some = not_empty ((number 4 n ++ c) ++ front) (omega (arith, length-append (number 4 n ++ c) front, length-append (number 4 n) c, length-number 4 n));
      lacks = not_empty (fill ++ s) (omega (arith, length-append fill s, length-number 8 (checksum before (with_length body))));
      whole = append_assoc (number 4 n ++ c) front (fill ++ s) ∙ append_assoc (number 4 n) c (front ++ (fill ++ s))
          ∙ ap (λ (x : List ℕ). number 4 n ++ (c ++ x)) (sym (append_assoc front fill s)) ∙ sym shape;
    }

-- within its checksum
begun-sum : (before : ℕ) (body front : List ℕ) → Fits 4 (length body) → length front < 8 → agree (number 8 (checksum before (with_length body))) front ≡ true
    → IsPartial before (with_length body ++ front)
begun-sum before body front short few summed =
    let s = number 8 (checksum before (with_length body)) in
    let s-len = length-number 8 (checksum before (with_length body)) in
    let part = agree-part s front (omega (arith, s-len)) summed in
    let left = drop (length front) s in
    record {
      body = body;
      more = left;
      short = short;
      some = not_empty (with_length body ++ front) (omega (arith, length-append (with_length body) front, length-measured body));
      lacks = not_empty left (omega (arith, length-drop (length front) s, s-len));
      whole = append_assoc (with_length body) front left ∙ ap (λ (x : List ℕ). with_length body ++ x) (sym part);
    }

-- behind its length
begun-twice : (b : Bool) (before : ℕ) (bytes : List ℕ) → IsBytes bytes → nat_lt 8 (length bytes) ≡ b → 4 ≤ length bytes
    → agree (number 4 (greatest_u32 - length_in bytes)) (drop 4 bytes) ≡ true → length bytes < 8 + length_in bytes → IsPartial before bytes
begun-twice false before bytes fits e four twice few =
    let t = number-takes 4 bytes four fits in
    let le : length bytes ≤ 8 = ltb-false 8 (length bytes) e in
    subst (IsPartial before) (sym t.0) (begun-complement before (length_in bytes) (drop 4 bytes) t.1 (omega (arith, length-drop 4 bytes)) twice)
begun-twice true before bytes fits e four twice few =
    let lt : 8 < length bytes = ltb-true 8 (length bytes) e in
    let t = number-takes 4 bytes four fits in
    let n = length_in bytes in
    let c = number 4 (greatest_u32 - n) in
    let two = agree-whole c (drop 4 bytes) (omega (arith, length-number 4 (greatest_u32 - n), length-drop 4 bytes)) twice in
    let at8 : drop (length c) (drop 4 bytes) ≡ drop 8 bytes =
    ap (λ (k : ℕ). drop k (drop 4 bytes)) (length-number 4 (greatest_u32 - n)) ∙ drop-drop 4 4 bytes in
    let shape : bytes ≡ (number 4 n ++ c) ++ drop 8 bytes =
    t.0 ∙ ap (λ (x : List ℕ). number 4 n ++ x) (two ∙ ap (λ (x : List ℕ). c ++ x) at8) ∙ sym (append_assoc (number 4 n) c (drop 8 bytes)) in
    subst (IsPartial before) (sym shape) (begun-body before n (drop 8 bytes) t.1 (omega (arith, length-drop 8 bytes)))

-- behind what it says
begun-said : (before : ℕ) (bytes : List ℕ) → IsBytes bytes → agree (number 4 (greatest_u32 - length_in bytes)) (drop 4 bytes) ≡ true
    → 8 + length_in bytes ≤ length bytes
    → agree (number 8 (checksum before (measured_in bytes))) (drop (8 + length_in bytes) bytes) ≡ true → length bytes < size_in bytes → IsPartial before bytes
begun-said before bytes fits twice said summed few =
    let m = measured-splits bytes fits twice said in
    let tail = drop (8 + length_in bytes) bytes in
    let summed' : agree (number 8 (checksum before (with_length (body_in bytes)))) tail ≡ true =
    ap (λ (x : List ℕ). agree (number 8 (checksum before x)) tail) (sym m.measure) ∙ summed in
    subst (IsPartial before) (sym m.text) (begun-sum before (body_in bytes) tail m.short (omega (arith, length-drop (8 + length_in bytes) bytes)) summed')

-- ---- what is cut off is such a front

pub cut-partial : (before : ℕ) (bytes : List ℕ) → IsBytes bytes → front_at before bytes ≡ CutOff → IsPartial before bytes
unfolding front_at
cut-partial before bytes fits e =
    let n = length_in bytes in
    let a = past_end (length bytes == 0) (some_in before bytes) e in
    let some : 0 < length bytes = positive (length bytes) a.0 in
    elim (cut_here (nat_lt (length bytes) 4) (twice_in before bytes) a.1) [
      | inl few ↦ begun-length before bytes fits some (ltb-true (length bytes) 4 few)
      | inr b ↦
          let four : 4 ≤ length bytes = ltb-false (length bytes) 4 b.0 in
          let c = past_damage (agree (number 4 (greatest_u32 - n)) (drop 4 bytes)) Length (said_in before bytes) b.1 in
          elim (cut_here (nat_lt (length bytes) (8 + n)) (summed_in before bytes) c.1) [
            | inl few ↦ begun-twice (nat_lt 8 (length bytes)) before bytes fits refl four c.0 (ltb-true (length bytes) (8 + n) few)
            | inr d ↦
                let said : 8 + n ≤ length bytes = ltb-false (length bytes) (8 + n) d.0 in
                let f = past_damage (agree (number 8 (checksum before (measured_in bytes))) (drop (8 + n) bytes)) Checksum (last_in bytes) d.1 in
                elim (cut_here (nat_lt (length bytes) (size_in bytes)) Sound f.1) [
                  | inl few ↦ begun-said before bytes fits c.0 said f.0 (ltb-true (length bytes) (size_in bytes) few)
                  | inr g ↦ absurd (never_sound g.1)
                ]
          ]
    ]

-- and such a front is cut off
pub partial-cut : (before : ℕ) (bytes : List ℕ) → IsPartial before bytes → front_at before bytes ≡ CutOff
partial-cut before bytes p =
    let k = length bytes in
    let all = with_checksum before p.body in
    let whole-len : k + length p.more ≡ 16 + length p.body = omega (arith, length-append bytes p.more, ap length p.whole, length-sealed before p.body) in
    let some : 0 < k = filled bytes p.some in
    let lacks : 0 < length p.more = filled p.more p.lacks in
    let front : take k (all ++ []) ≡ bytes = ap (take k) (append-nil all ∙ sym p.whole) ∙ take_at bytes p.more k refl in
    sym (ap (front_at before) front) ∙ front-cut before k p.body [] p.short some (omega arith)
