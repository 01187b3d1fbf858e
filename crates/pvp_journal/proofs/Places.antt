-- Records one after the other, as a reader takes them.
use Rattle.std.proofs.Common.{◌≡◌, ◌⊎◌, inl, inr, ℕ, Bool, true, false, ◌+◌, ◌-◌, ◌≤◌, ◌<◌, ◌==◌, not, nat_lt, List, [], ◌∷◌, ◌++◌, length, take, drop, Ok, Err, refl, sym, ap, subst, ◌∙◌, arith, if◌then◌else◌}
use Rattle.std.proofs.lemmas.Bool.{ltb-false, le-ltb, ne_eqb}
use Rattle.std.proofs.lemmas.List.{length-drop}
use Rattle.std.proofs.Math.Seq.{take-length}
use Rattle.pvp_wire.specs.Spelling.{number}
use Rattle.pvp_journal.specs.declared.fault.JournalWhy.{JournalWhy}
use Rattle.pvp_journal.specs.declared.fault.JournalWhy.TheVariants.{Magic, Version, Head as BadHead, Length, Checksum, Record, NoMemory}
use Rattle.pvp_journal.specs.declared.journal.Left.{Left}
use Rattle.pvp_journal.specs.declared.journal.Left.TheVariants.{Nothing, Torn}
use Rattle.pvp_journal.specs.Spelling.{Entry, checksum, greatest_u32}
use Rattle.pvp_journal.specs.Reading.{body_at}
use Rattle.pvp_journal.specs.Journals.{Front, AtEnd, CutOff, Sound, Damaged, agree, front_at, length_in, measured_in, body_in, size_in, after, Place, next, Stands, AreRecords, IsWrong, KeepsEntry, IsLeft, IsEnd}

pub not_end : (b : Bool) (y : Front) → (if b then AtEnd else y) ≡ Sound → y ≡ Sound
not_end true y e = absurd cc
not_end false y e = e

pub not_cut : (b : Bool) (y : Front) → (if b then CutOff else y) ≡ Sound → (b ≡ false) × (y ≡ Sound)
not_cut true y e = absurd cc
not_cut false y e = (refl, e)

not_damaged : (b : Bool) (why : JournalWhy) (y : Front) → (if not b then Damaged why else y) ≡ Sound → (b ≡ true) × (y ≡ Sound)
not_damaged true why y e = (refl, e)
not_damaged false why y e = absurd cc

-- the tests of a front, from the last to the first
abbrev pub last_in : List ℕ → Front
last_in bytes = if nat_lt (length bytes) (size_in bytes) then CutOff else Sound

abbrev pub summed_in : ℕ → List ℕ → Front
summed_in before bytes = if not (agree (number 8 (checksum before (measured_in bytes))) (drop (8 + length_in bytes) bytes)) then Damaged Checksum
    else last_in bytes

abbrev pub said_in : ℕ → List ℕ → Front
said_in before bytes = if nat_lt (length bytes) (8 + length_in bytes) then CutOff else summed_in before bytes

abbrev pub twice_in : ℕ → List ℕ → Front
twice_in before bytes = if not (agree (number 4 (greatest_u32 - length_in bytes)) (drop 4 bytes)) then Damaged Length else said_in before bytes

abbrev pub some_in : ℕ → List ℕ → Front
some_in before bytes = if nat_lt (length bytes) 4 then CutOff else twice_in before bytes

-- what a sound record has
pub record IsSoundRecord (before : ℕ) (bytes : List ℕ) : Type 0 where
  pub twice : agree (number 4 (greatest_u32 - length_in bytes)) (drop 4 bytes) ≡ true
  pub summed : agree (number 8 (checksum before (measured_in bytes))) (drop (8 + length_in bytes) bytes) ≡ true
  pub size : size_in bytes ≤ length bytes

pub sound-is : (before : ℕ) (bytes : List ℕ) → front_at before bytes ≡ Sound → IsSoundRecord before bytes
unfolding front_at
sound-is before bytes e =
    let a = not_end (length bytes == 0) (some_in before bytes) e in
    let b = not_cut (nat_lt (length bytes) 4) (twice_in before bytes) a in
    let c = not_damaged (agree (number 4 (greatest_u32 - length_in bytes)) (drop 4 bytes)) Length (said_in before bytes) b.1 in
    let d = not_cut (nat_lt (length bytes) (8 + length_in bytes)) (summed_in before bytes) c.1 in
    let f = not_damaged (agree (number 8 (checksum before (measured_in bytes))) (drop (8 + length_in bytes) bytes)) Checksum (last_in bytes) d.1 in
    let g = not_cut (nat_lt (length bytes) (size_in bytes)) Sound f.1 in
    record { twice = c.0; summed = f.0; size = ltb-false (length bytes) (size_in bytes) g.0 }

-- so fewer bytes are left behind it
pub after-shorter : (before : ℕ) (bytes : List ℕ) → front_at before bytes ≡ Sound → length (after bytes) < length bytes
after-shorter before bytes e = omega (arith, (sound-is before bytes e).size, length-drop (size_in bytes) bytes)

-- one more record
pub one_more : (me : ℕ) (start : Place) (history : List Entry) (end : Place) (r : Entry) → AreRecords me start history end → Stands me end r
    → AreRecords me start (history ++ r ∷ []) (next end)
one_more me start [] end r e stands = subst (λ (p : Place). Stands me p r × (next end ≡ next p)) e (stands, refl)
one_more me start (x ∷ more) end r h stands = (h.0, one_more me (next start) more end r h.1 stands)

-- the same, at the place that a reader made of what it found
pub one_more_at : (me : ℕ) (start : Place) (history : List Entry) (before : ℕ) (bytes : List ℕ) (r : Entry) (s : ℕ) (rest : List ℕ)
    → AreRecords me start history (record { sum = before; bytes = bytes })
    → front_at before bytes ≡ Sound → body_at me (body_in bytes) ≡ Ok r → s ≡ checksum before (measured_in bytes) → rest ≡ after bytes
    → AreRecords me start (history ++ r ∷ []) (record { sum = s; bytes = rest })
one_more_at me start history before bytes r s rest records sound body s-is rest-is =
    rw (s-is, rest-is) (one_more me start history (record { sum = before; bytes = bytes }) r records (record { front = sound; body = body }))

-- ---- what is wrong at the front is a length or a checksum

past_end : (b : Bool) (y : Front) (why : JournalWhy) → (if b then AtEnd else y) ≡ Damaged why → y ≡ Damaged why
past_end true y why e = absurd cc
past_end false y why e = e

past_cut : (b : Bool) (y : Front) (why : JournalWhy) → (if b then CutOff else y) ≡ Damaged why → y ≡ Damaged why
past_cut true y why e = absurd cc
past_cut false y why e = e

told : (b : Bool) (known : JournalWhy) (y : Front) (why : JournalWhy) → (if b then Damaged known else y) ≡ Damaged why → (why ≡ known) ⊎ (y ≡ Damaged why)
told true known y why e = inl (cc)
told false known y why e = inr e

never_sound : (why : JournalWhy) → Sound ≡ Damaged why → ⊥
never_sound why e = absurd cc

damaged-by : (before : ℕ) (bytes : List ℕ) (why : JournalWhy) → front_at before bytes ≡ Damaged why → (why ≡ Length) ⊎ (why ≡ Checksum)
unfolding front_at
damaged-by before bytes why e =
    let a = past_end (length bytes == 0) (some_in before bytes) why e in
    let b = past_cut (nat_lt (length bytes) 4) (twice_in before bytes) why a in
    elim (told (not (agree (number 4 (greatest_u32 - length_in bytes)) (drop 4 bytes))) Length (said_in before bytes) why b) [
      | inl known ↦ inl known
      | inr c ↦ elim (told (not (agree (number 8 (checksum before (measured_in bytes))) (drop (8 + length_in bytes) bytes))) Checksum (last_in bytes) why
          (past_cut (nat_lt (length bytes) (8 + length_in bytes)) (summed_in before bytes) why c)) [
            | inl known ↦ inr known
            | inr d ↦ absurd (never_sound why (past_cut (nat_lt (length bytes) (size_in bytes)) Sound why d))
          ]
    ]

pub damaged-wrong : (me : ℕ) (place : Place) (why : JournalWhy) → front_at place.sum place.bytes ≡ Damaged why → IsWrong me place why
damaged-wrong me place why e =
    elim (damaged-by place.sum place.bytes why e) [
      | inl known ↦ subst (λ (w : JournalWhy). IsWrong me place w) (sym known) (subst (λ (w : JournalWhy). front_at place.sum place.bytes ≡ Damaged w) known e)
      | inr known ↦ subst (λ (w : JournalWhy). IsWrong me place w) (sym known) (subst (λ (w : JournalWhy). front_at place.sum place.bytes ≡ Damaged w) known e)
    ]

-- what a record says is at fault, or memory was refused for it
pub kept-wrong : (me : ℕ) (place : Place) (why : JournalWhy) (old new : List Entry) → front_at place.sum place.bytes ≡ Sound
    → KeepsEntry me (body_in place.bytes) old (Err why) new → IsWrong me place why
kept-wrong me place Magic old new sound kept = absurd kept
kept-wrong me place Version old new sound kept = absurd kept
kept-wrong me place BadHead old new sound kept = absurd kept
kept-wrong me place Length old new sound kept = absurd kept
kept-wrong me place Checksum old new sound kept = absurd kept
kept-wrong me place (Record fault) old new sound kept = (sound, kept)
kept-wrong me place NoMemory old new sound kept = sound

-- ---- nothing is left only where there are no bytes

never_end : (b c d e f : Bool)
    → (if b then CutOff else if c then Damaged Length else if d then CutOff else if e then Damaged Checksum else if f then CutOff else Sound) ≡ AtEnd → ⊥
never_end true c d e f h = absurd cc
never_end false true d e f h = absurd cc
never_end false false true e f h = absurd cc
never_end false false false true f h = absurd cc
never_end false false false false true h = absurd cc
never_end false false false false false h = absurd cc

at_end : (before : ℕ) (bytes : List ℕ) → front_at before bytes ≡ AtEnd → bytes ≡ []
unfolding front_at
at_end before [] e = refl
at_end before (x ∷ xs) e =
    let bytes = x ∷ xs in
    let some : (length bytes == 0) ≡ false = ne_eqb (length bytes) 0 (λ n. absurd (omega arith)) in
    absurd (never_end (nat_lt (length bytes) 4) (not (agree (number 4 (greatest_u32 - length_in bytes)) (drop 4 bytes)))
    (nat_lt (length bytes) (8 + length_in bytes))
    (not (agree (number 8 (checksum before (measured_in bytes))) (drop (8 + length_in bytes) bytes)))
    (nat_lt (length bytes) (size_in bytes)) (rw some at e))

pub end-left : (all : List ℕ) (place : Place) (torn : Bool) (left : Left) → IsEnd place torn
    → left ≡ (if torn then Torn (length all - length place.bytes) else Nothing) → IsLeft all place left
end-left all place true left end e = subst (λ (l : Left). IsLeft all place l) (sym e) (end, refl)
end-left all place false left end e = subst (λ (l : Left). IsLeft all place l) (sym e) (at_end place.sum place.bytes end)

-- a reader that stops behind a history
pub stops : (me : ℕ) (start : Place) (history : List Entry) (place : Place) (why : JournalWhy) (left : ℕ) → AreRecords me start history place
    → IsWrong me place why → left ≡ length place.bytes
    → (x : List Entry) × (y : Place) × AreRecords me start x y × IsWrong me y why × (left ≡ length y.bytes)
stops me start history place why left records wrong is = (history, place, records, wrong, is)

-- what passes all tests is sound
pub sound-by : (before : ℕ) (bytes : List ℕ) → 4 ≤ length bytes → agree (number 4 (greatest_u32 - length_in bytes)) (drop 4 bytes) ≡ true
    → 8 + length_in bytes ≤ length bytes
    → agree (number 8 (checksum before (measured_in bytes))) (drop (8 + length_in bytes) bytes) ≡ true → size_in bytes ≤ length bytes
    → front_at before bytes ≡ Sound
unfolding front_at
sound-by before bytes four twice said summed size =
    let t1 : (length bytes == 0) ≡ false = ne_eqb (length bytes) 0 (λ e. absurd (omega arith)) in
    let t2 : nat_lt (length bytes) 4 ≡ false = le-ltb (length bytes) 4 four in
    let t4 : nat_lt (length bytes) (8 + length_in bytes) ≡ false = le-ltb (length bytes) (8 + length_in bytes) said in
    let t6 : nat_lt (length bytes) (size_in bytes) ≡ false = le-ltb (length bytes) (size_in bytes) size in
    rw (t1, t2, twice, t4, summed, t6) refl

-- the rest of bytes, as a slice of them
rest_of : (k : ℕ) (bytes : List ℕ) → take (length bytes - k) (drop k bytes) ≡ drop k bytes
rest_of k bytes = ap (λ (i : ℕ). take i (drop k bytes)) (sym (length-drop k bytes)) ∙ take-length (drop k bytes)

-- what a reader of a length and a checksum found is a sound record
pub stood : (before n : ℕ) (bytes four eight : List ℕ) (s : ℕ) → n ≡ length_in bytes → four ≡ number 4 (greatest_u32 - n)
    → agree four (take (length bytes - 4) (drop 4 bytes)) ≡ true
    → s ≡ checksum before (take (8 + n) bytes) → eight ≡ number 8 s → agree eight (take (length bytes - (8 + n)) (drop (8 + n) bytes)) ≡ true
    → (8 + n) + 8 ≤ length bytes
    → (front_at before bytes ≡ Sound) × (take ((8 + n) - 8) (drop 8 bytes) ≡ body_in bytes) × (s ≡ checksum before (measured_in bytes))
    × (take (length bytes - ((8 + n) + 8)) (drop ((8 + n) + 8) bytes) ≡ after bytes)
stood before n bytes four eight s n-is four-is twice s-is eight-is summed long =
    let size : 16 + n ≤ length bytes = omega (arith, long) in
    let sum : s ≡ checksum before (measured_in bytes) = s-is ∙ ap (λ (k : ℕ). checksum before (take (8 + k) bytes)) n-is in
    let a : agree (number 4 (greatest_u32 - length_in bytes)) (drop 4 bytes) ≡ true =
    ap (λ (k : ℕ). agree (number 4 (greatest_u32 - k)) (drop 4 bytes)) (sym n-is) ∙ ap (λ (x : List ℕ). agree x (drop 4 bytes)) (sym four-is)
    ∙ ap (agree four) (sym (rest_of 4 bytes)) ∙ twice in
    let b : agree (number 8 (checksum before (measured_in bytes))) (drop (8 + length_in bytes) bytes) ≡ true =
    ap (λ (k : ℕ). agree (number 8 k) (drop (8 + length_in bytes) bytes)) (sym sum) ∙ ap (λ (k : ℕ). agree (number 8 s) (drop (8 + k) bytes)) (sym n-is)
    ∙ ap (λ (x : List ℕ). agree x (drop (8 + n) bytes)) (sym eight-is) ∙ ap (agree eight) (sym (rest_of (8 + n) bytes)) ∙ summed in (
      sound-by before bytes (omega arith) a (omega arith) b (omega arith),
      ap (λ (k : ℕ). take k (drop 8 bytes)) (omega arith) ∙ ap (λ (k : ℕ). take k (drop 8 bytes)) n-is,
      sum,
      rest_of ((8 + n) + 8) bytes ∙ ap (λ (k : ℕ). drop k bytes) (omega arith),
    )
