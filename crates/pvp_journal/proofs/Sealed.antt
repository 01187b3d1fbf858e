-- What stands at the front of a record's bytes: all of them, a front of them, or them with another checksum.
use Rattle.std.proofs.Common.{◌≡◌, ℕ, zero, suc, Bool, true, false, ◌+◌, ◌-◌, ◌≤◌, ◌<◌, ◌==◌, not, nat_lt, List, [], ◌∷◌, ◌++◌, length, take, drop, refl, sym, ap, subst, ◌∙◌, append_assoc, arith, if◌then◌else◌}
use Rattle.std.proofs.lemmas.Bool.{le-ltb, lt-ltb, ltb-true, ltb-false, eq-eqb, eqb-true, ne_eqb}
use Rattle.std.proofs.lemmas.List.{length-append, length-take, drop_at, take_at}
use Rattle.std.proofs.Math.Seq.{take-append-add}
use Rattle.byteorder.specs.Endian.{big_number}
use Rattle.byteorder.specs.Numbers.{big_number-reads_back}
use Rattle.pvp_wire.specs.Spelling.{number}
use Rattle.pvp_wire.specs.Fits.{Fits}
use Rattle.pvp_wire.proofs.Numbers.{length-number}
use Rattle.pvp_wire.proofs.Parts.{both, parted}
use Rattle.pvp_journal.specs.declared.fault.JournalWhy.TheVariants.{Length, Checksum}
use Rattle.pvp_journal.specs.Spelling.{checksum, greatest_u32, with_length, with_checksum}
use Rattle.pvp_journal.specs.Journals.{CutOff, Sound, Damaged, agree, front_at, length_in, measured_in, body_in, size_in, after}
use Rattle.pvp_journal.proofs.Checksums.{checksum-fits}

-- ---- what agrees with a text

-- a text that comes first
pub agree-self : (text rest : List ℕ) → agree text (text ++ rest) ≡ true
agree-self [] rest = refl
agree-self (x ∷ text) rest = both (x == x) (agree text (text ++ rest)) (eq-eqb x x refl) (agree-self text rest)

-- a front of it
pub agree-front : (k : ℕ) (text rest : List ℕ) → agree text (take k (text ++ rest)) ≡ true
agree-front k [] rest = refl
agree-front zero (x ∷ text) rest = refl
agree-front (suc k) (x ∷ text) rest = both (x == x) (agree text (take k (text ++ rest))) (eq-eqb x x refl) (agree-front k text rest)

-- bytes that agree with a text, all of it
pub agree-whole : (text bytes : List ℕ) → length text ≤ length bytes → agree text bytes ≡ true → bytes ≡ text ++ drop (length text) bytes
agree-whole [] bytes long e = refl
agree-whole (x ∷ text) [] long e = absurd (omega arith)
agree-whole (x ∷ text) (b ∷ bytes) long e =
    let p = parted (x == b) (agree text bytes) e in
    ap (λ (h : ℕ). h ∷ bytes) (sym (eqb-true x b p.0)) ∙ ap (λ (t : List ℕ). x ∷ t) (agree-whole text bytes (omega arith) p.1)

-- ---- numbers in front

front-number : (n x : ℕ) (rest : List ℕ) → Fits n x → big_number n (number n x ++ rest) ≡ x
unfolding number
front-number n x rest fits = big_number-reads_back n x rest fits

behind-number : (n x : ℕ) (rest : List ℕ) → drop n (number n x ++ rest) ≡ rest
behind-number n x rest = drop_at (number n x) rest n (length-number n x)

refuted : (b : Bool) → (b ≡ true → ⊥) → b ≡ false
refuted true h = absurd (h refl)
refuted false h = refl

-- another number than the one in front
agree-other : (n x y : ℕ) (rest : List ℕ) → Fits n x → Fits n y → (y ≡ x → ⊥) → agree (number n x) (number n y ++ rest) ≡ false
agree-other n x y rest hx hy other =
    refuted (agree (number n x) (number n y ++ rest)) (λ e.
    let long : length (number n x) ≤ length (number n y ++ rest) = omega (arith, length-number n x, length-number n y, length-append (number n y) rest) in
    let same = agree-whole (number n x) (number n y ++ rest) long e in
    other (sym (front-number n y rest hy) ∙ ap (big_number n) same ∙ front-number n x (drop (length (number n x)) (number n y ++ rest)) hx))

-- ---- lengths

pub length-measured : (body : List ℕ) → length (with_length body) ≡ 8 + length body
length-measured body =
    let a = number 4 (length body) in
    let b = number 4 (greatest_u32 - length body) in
    omega (arith, length-append (a ++ b) body, length-append a b, length-number 4 (length body), length-number 4 (greatest_u32 - length body))

pub length-sealed : (before : ℕ) (body : List ℕ) → length (with_checksum before body) ≡ 16 + length body
length-sealed before body =
    let s = checksum before (with_length body) in
    omega (arith, length-append (with_length body) (number 8 s), length-measured body, length-number 8 s)

-- ---- what is read of a measured body, and of what comes behind it

pub record Parts (bytes body rest : List ℕ) : Type 0 where
  pub size : length_in bytes ≡ length body
  pub twice : drop 4 bytes ≡ number 4 (greatest_u32 - length body) ++ (body ++ rest)
  pub measure : measured_in bytes ≡ with_length body
  pub says : body_in bytes ≡ body
  pub tail : drop (8 + length_in bytes) bytes ≡ rest
  pub long : length bytes ≡ (8 + length body) + length rest

pub parts : (body rest : List ℕ) → Fits 4 (length body) → Parts (with_length body ++ rest) body rest
parts body rest short =
    let n = length body in
    let a = number 4 n in
    let b = number 4 (greatest_u32 - n) in
    let bytes = with_length body ++ rest in
    let ab-len : length (a ++ b) ≡ 8 = omega (arith, length-append a b, length-number 4 n, length-number 4 (greatest_u32 - n)) in
    let m-len = length-measured body in
    let shape : bytes ≡ (a ++ b) ++ (body ++ rest) = append_assoc (a ++ b) body rest in
    let front : bytes ≡ a ++ (b ++ (body ++ rest)) = shape ∙ append_assoc a b (body ++ rest) in
    let size : length_in bytes ≡ n = ap length_in front ∙ front-number 4 n (b ++ (body ++ rest)) short in
    record {
      size = size;
      twice = ap (drop 4) front ∙ behind-number 4 n (b ++ (body ++ rest));
      measure = ap (λ (k : ℕ). take (8 + k) bytes) size ∙ take_at (with_length body) rest (8 + n) m-len;
      says =
          ap (λ (k : ℕ). take k (drop 8 bytes)) size ∙ ap (λ (x : List ℕ). take n (drop 8 x)) shape ∙ ap (take n) (drop_at (a ++ b) (body ++ rest) 8 ab-len)
          ∙ take_at body rest n refl;
      tail = ap (λ (k : ℕ). drop (8 + k) bytes) size ∙ drop_at (with_length body) rest (8 + n) m-len;
      long = omega (arith, length-append (with_length body) rest, m-len);
    }

-- the tests in front of the checksum are passed
front-measured : (before : ℕ) (body rest : List ℕ) → Fits 4 (length body)
    → front_at before (with_length body ++ rest) ≡ (if not (agree (number 8 (checksum before (with_length body))) rest) then Damaged Checksum
    else if nat_lt (length (with_length body ++ rest)) (16 + length body) then CutOff else Sound)
unfolding front_at
front-measured before body rest short =
    let bytes = with_length body ++ rest in
    let p = parts body rest short in
    let long = p.long in
    let t1 : (length bytes == 0) ≡ false = ne_eqb (length bytes) 0 (λ e. absurd (omega arith)) in
    let t2 : nat_lt (length bytes) 4 ≡ false = le-ltb (length bytes) 4 (omega arith) in
    let t3 : agree (number 4 (greatest_u32 - length_in bytes)) (drop 4 bytes) ≡ true =
    ap (λ (k : ℕ). agree (number 4 (greatest_u32 - k)) (drop 4 bytes)) p.size ∙ ap (agree (number 4 (greatest_u32 - length body))) p.twice
    ∙ agree-self (number 4 (greatest_u32 - length body)) (body ++ rest) in
    let t4 : nat_lt (length bytes) (8 + length_in bytes) ≡ false = le-ltb (length bytes) (8 + length_in bytes) (omega (arith, p.size)) in
    let t6 : nat_lt (length bytes) (size_in bytes) ≡ nat_lt (length bytes) (16 + length body) = ap (λ (k : ℕ). nat_lt (length bytes) (16 + k)) p.size in
    rw (t1, t2, t3, t4, p.measure, p.tail, t6) refl

-- ---- a record with its checksum is sound

pub sealed-sound : (before : ℕ) (body rest : List ℕ) → Fits 4 (length body) → front_at before (with_checksum before body ++ rest) ≡ Sound
sealed-sound before body rest short =
    let s = number 8 (checksum before (with_length body)) in
    let regrouped = append_assoc (with_length body) s rest in
    let known = agree-self s rest in
    let long = (parts body (s ++ rest) short).long in
    let whole : nat_lt (length (with_length body ++ (s ++ rest))) (16 + length body) ≡ false =
    le-ltb (length (with_length body ++ (s ++ rest))) (16 + length body)
    (omega (arith, length-append s rest, length-number 8 (checksum before (with_length body)))) in
    ap (front_at before) regrouped ∙ front-measured before body (s ++ rest) short ∙ rw (known, whole) refl

-- what is read of it
pub record SealedParts (before : ℕ) (bytes body rest : List ℕ) : Type 0 where
  pub says : body_in bytes ≡ body
  pub sum : checksum before (measured_in bytes) ≡ checksum before (with_length body)
  pub behind : after bytes ≡ rest

pub sealed-parts : (before : ℕ) (body rest : List ℕ) → Fits 4 (length body) → SealedParts before (with_checksum before body ++ rest) body rest
sealed-parts before body rest short =
    let s = number 8 (checksum before (with_length body)) in
    let bytes = with_checksum before body ++ rest in
    let regrouped : bytes ≡ with_length body ++ (s ++ rest) = append_assoc (with_length body) s rest in
    let p = subst (λ (x : List ℕ). Parts x body (s ++ rest)) (sym regrouped) (parts body (s ++ rest) short) in
    record {
      says = p.says;
      sum = ap (checksum before) p.measure;
      behind = ap (λ (k : ℕ). drop (16 + k) bytes) p.size ∙ drop_at (with_checksum before body) rest (16 + length body) (length-sealed before body);
    }

-- ---- damage

-- one with another checksum is damaged
pub other-damaged : (before : ℕ) (body : List ℕ) (s : ℕ) (rest : List ℕ) → Fits 4 (length body) → Fits 8 s → (s ≡ checksum before (with_length body) → ⊥)
    → front_at before ((with_length body ++ number 8 s) ++ rest) ≡ Damaged Checksum
other-damaged before body s rest short fits other =
    let unknown = agree-other 8 (checksum before (with_length body)) s rest (checksum-fits before (with_length body)) fits other in
    ap (front_at before) (append_assoc (with_length body) (number 8 s) rest) ∙ front-measured before body (number 8 s ++ rest) short ∙ rw unknown refl

-- a length without its complement is damage
pub length-damaged : (before n m : ℕ) (rest : List ℕ) → Fits 4 n → Fits 4 m → (n + m ≡ greatest_u32 → ⊥)
    → front_at before ((number 4 n ++ number 4 m) ++ rest) ≡ Damaged Length
unfolding front_at
length-damaged before n m rest hn hm other =
    let bytes = (number 4 n ++ number 4 m) ++ rest in
    let front : bytes ≡ number 4 n ++ (number 4 m ++ rest) = append_assoc (number 4 n) (number 4 m) rest in
    let size : length_in bytes ≡ n = ap length_in front ∙ front-number 4 n (number 4 m ++ rest) hn in
    let twice : drop 4 bytes ≡ number 4 m ++ rest = ap (drop 4) front ∙ behind-number 4 n (number 4 m ++ rest) in
    let long : 8 ≤ length bytes =
    omega (arith, length-append (number 4 n ++ number 4 m) rest, length-append (number 4 n) (number 4 m), length-number 4 n, length-number 4 m) in
    let t1 : (length bytes == 0) ≡ false = ne_eqb (length bytes) 0 (λ e. absurd (omega arith)) in
    let t2 : nat_lt (length bytes) 4 ≡ false = le-ltb (length bytes) 4 (omega arith) in
    let unknown = agree-other 4 (greatest_u32 - n) m rest (omega arith) hm (λ e. other (omega arith)) in
    let t3 : agree (number 4 (greatest_u32 - length_in bytes)) (drop 4 bytes) ≡ false =
    ap (λ (k : ℕ). agree (number 4 (greatest_u32 - k)) (drop 4 bytes)) size ∙ ap (agree (number 4 (greatest_u32 - n))) twice ∙ unknown in
    rw (t1, t2, t3) refl

-- ---- a record that is cut off

-- within its length
few-cut : (before : ℕ) (bytes : List ℕ) → 0 < length bytes → length bytes < 4 → front_at before bytes ≡ CutOff
unfolding front_at
few-cut before bytes some few =
    let t1 : (length bytes == 0) ≡ false = ne_eqb (length bytes) 0 (λ e. absurd (omega arith)) in
    let t2 : nat_lt (length bytes) 4 ≡ true = lt-ltb (length bytes) 4 few in
    rw (t1, t2) refl

-- behind its length
said-cut : (before n j : ℕ) (rest : List ℕ) → Fits 4 n → 4 + j < 8 + n → front_at before (number 4 n ++ take j (number 4 (greatest_u32 - n) ++ rest)) ≡ CutOff
unfolding front_at
said-cut before n j rest short few =
    let front = take j (number 4 (greatest_u32 - n) ++ rest) in
    let bytes = number 4 n ++ front in
    let size : length_in bytes ≡ n = front-number 4 n front short in
    let len : length bytes ≡ 4 + length front = omega (arith, length-append (number 4 n) front, length-number 4 n) in
    let most-len = length-take j (number 4 (greatest_u32 - n) ++ rest) in
    let t1 : (length bytes == 0) ≡ false = ne_eqb (length bytes) 0 (λ e. absurd (omega arith)) in
    let t2 : nat_lt (length bytes) 4 ≡ false = le-ltb (length bytes) 4 (omega arith) in
    let t3 : agree (number 4 (greatest_u32 - length_in bytes)) (drop 4 bytes) ≡ true =
    ap (λ (k : ℕ). agree (number 4 (greatest_u32 - k)) (drop 4 bytes)) size ∙ ap (agree (number 4 (greatest_u32 - n))) (behind-number 4 n front)
    ∙ agree-front j (number 4 (greatest_u32 - n)) rest in
    let t4 : nat_lt (length bytes) (8 + length_in bytes) ≡ true = lt-ltb (length bytes) (8 + length_in bytes) (omega (arith, size, most-len)) in
    rw (t1, t2, t3, t4) refl

-- within its checksum
summed-cut : (before j : ℕ) (body rest : List ℕ) → Fits 4 (length body) → j < 8
    → front_at before (with_length body ++ take j (number 8 (checksum before (with_length body)) ++ rest)) ≡ CutOff
summed-cut before j body rest short few =
    let s = number 8 (checksum before (with_length body)) in
    let front = take j (s ++ rest) in
    let known = agree-front j s rest in
    let long = (parts body front short).long in
    let cut : nat_lt (length (with_length body ++ front)) (16 + length body) ≡ true =
    lt-ltb (length (with_length body ++ front)) (16 + length body) (omega (arith, length-take j (s ++ rest))) in
    front-measured before body front short ∙ rw (known, cut) refl

-- a front of so many bytes
cut_in : (b c : Bool) (before k : ℕ) (body rest : List ℕ) → nat_lt k 4 ≡ b → nat_lt k (8 + length body) ≡ c → Fits 4 (length body) → 0 < k
    → k < 16 + length body
    → front_at before (take k (with_checksum before body ++ rest)) ≡ CutOff
cut_in true c before k body rest e f short some cut =
    let all = with_checksum before body ++ rest in
    let lt : k < 4 = ltb-true k 4 e in
    let len : length (take k all) ≡ k = omega (arith, length-take k all, length-append (with_checksum before body) rest, length-sealed before body) in
    few-cut before (take k all) (omega arith) (omega arith)
cut_in false true before k body rest e f short some cut =
    let n = length body in
    let s = number 8 (checksum before (with_length body)) in
    let a = number 4 n in
    let b = number 4 (greatest_u32 - n) in
    let tail = body ++ (s ++ rest) in
    let le : 4 ≤ k = ltb-false k 4 e in
    let lt : k < 8 + n = ltb-true k (8 + n) f in
    let shape : with_checksum before body ++ rest ≡ a ++ (b ++ tail) =
    append_assoc (with_length body) s rest ∙ append_assoc (a ++ b) body (s ++ rest) ∙ append_assoc a b tail in
    let k-is : k ≡ length a + (k - 4) = omega (arith, length-number 4 n) in
    let bytes : take k (with_checksum before body ++ rest) ≡ a ++ take (k - 4) (b ++ tail) =
    ap (take k) shape ∙ ap (λ (i : ℕ). take i (a ++ (b ++ tail))) k-is ∙ take-append-add a (b ++ tail) (k - 4) in
    ap (front_at before) bytes ∙ said-cut before n (k - 4) tail short (omega arith)
cut_in false false before k body rest e f short some cut =
    let n = length body in
    let s = number 8 (checksum before (with_length body)) in
    let le : 8 + n ≤ k = ltb-false k (8 + n) f in
    let j = k - (8 + n) in
    let k-is : k ≡ length (with_length body) + j = omega (arith, length-measured body) in
    let bytes : take k (with_checksum before body ++ rest) ≡ with_length body ++ take j (s ++ rest) =
    ap (take k) (append_assoc (with_length body) s rest) ∙ ap (λ (i : ℕ). take i (with_length body ++ (s ++ rest))) k-is
    ∙ take-append-add (with_length body) (s ++ rest) j in
    ap (front_at before) bytes ∙ summed-cut before j body rest short (omega arith)

-- a front of a record, neither empty nor whole, is cut off
pub front-cut : (before k : ℕ) (body rest : List ℕ) → Fits 4 (length body) → 0 < k → k < 16 + length body
    → front_at before (take k (with_checksum before body ++ rest)) ≡ CutOff
front-cut before k body rest short some cut = cut_in (nat_lt k 4) (nat_lt k (8 + length body)) before k body rest refl refl short some cut
