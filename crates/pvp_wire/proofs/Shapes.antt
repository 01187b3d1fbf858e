-- What it is for a shape to be right: what it takes is spelled so, what is spelled so it reads again, it fails at fields alone, and is not long. Shapes of
-- right parts are right.
use Rattle.std.proofs.Common.{◌≡◌, inl, inr, ℕ, zero, suc, ◌+◌, ◌*◌, ◌≤◌, ◌==◌, Bool, true, false, List, [], ◌∷◌, ◌++◌, length, drop, nat_lt, Ok, Err, Result, refl, sym, ap, subst, ◌∙◌, append_assoc, if◌then◌else◌, arith}
use Rattle.std.specs.List.{flat_map}
use Rattle.std.proofs.Math.Nat.{mul-le-mul_right}
use Rattle.std.proofs.lemmas.Bool.{eqb-true}
use Rattle.std.proofs.lemmas.List.{length-append}
use Rattle.byteorder.specs.Endian.{big_number}
use Rattle.pvp_wire.specs.declared.fault.WireFault.{WireFault}
use Rattle.pvp_wire.specs.declared.fault.WireFault.TheVariants.{Field, Length}
use Rattle.pvp_wire.specs.Fits.{IsBytes}
use Rattle.pvp_wire.specs.Shape.{◌>>=◌, Reads, as_part, Shape, number, Fits, number_at, wide, wide_of, Chain, lastly, ◌of◌and◌, whole, EachFits, items_from, list_of}
use Rattle.pvp_wire.specs.Reading.{IsOfField}
use Rattle.pvp_wire.proofs.Formats.{IsBytes-rest, Takes, Takes-then, TakesBy, bind_ok, wanted_ok, done, failed, ok_is, fault_is}
use Rattle.pvp_wire.proofs.Numbers.{number_format, length-number}
use Rattle.pvp_wire.proofs.Parts.{tagged}

-- the same fault of another reading
pub elsewhere : {A B : Type 0} (f g : WireFault) → failed {A = A} f ≡ failed {A = A} g → failed {A = B} f ≡ failed {A = B} g
elsewhere {A} f g e = ap (λ (fault : WireFault). Err fault) (fault_is {A = A} f g e)

-- a fault of two readings one after the other is one of either
pub then_fails : {A B : Type 0} (Bad : WireFault → Type 0) (read : Result A WireFault) (k : A → Result B WireFault) (fault : WireFault)
    → ((f : WireFault) → read ≡ Err f → Bad f) → ((x : A) (f : WireFault) → k x ≡ Err f → Bad f) → (read >>= k) ≡ Err fault → Bad fault
then_fails Bad (Ok x) k fault first others e = others x fault e
then_fails {A} {B} Bad (Err d) k fault first others e = first fault (elsewhere {A = B} {B = A} d fault e)

pub record IsRight {A : Type 0} (shape : Shape A) (Is : A → Type 0) (most : ℕ) : Type 0 where
  pub takes : TakesBy shape.spell Is (shape.read false)
  pub again : (x : A) (rest : List ℕ) → Is x → shape.read false (shape.spell x ++ rest) ≡ Ok (x, rest)
  pub faults : (bytes : List ℕ) (fault : WireFault) → shape.read false bytes ≡ Err fault → IsOfField fault
  pub short : (x : A) → Is x → length (shape.spell x) ≤ most

-- what is right of other values too, where these are the same
pub right_as : {A : Type 0} {shape : Shape A} {Is Other : A → Type 0} {most : ℕ} → IsRight shape Is most → ((x : A) → Is x → Other x)
    → ((x : A) → Other x → Is x) → IsRight shape Other most
right_as {A} {shape} {Is} {Other} {most} right to back = record {
  takes = λ bytes x rest fits e. let t = right.takes bytes x rest fits e in (t.0, to x t.1);
  again = λ x rest h. right.again x rest (back x h);
  faults = right.faults;
  short = λ x h. right.short x (back x h);
}

-- ---- tests

-- a test before two readings
pub either_fails : {A : Type 0} (Bad : WireFault → Type 0) (b : Bool) (x y : Result A WireFault) (fault : WireFault) → (x ≡ Err fault → Bad fault)
    → (y ≡ Err fault → Bad fault) → (if b then x else y) ≡ Err fault → Bad fault
either_fails Bad true x y fault hx hy e = hx e
either_fails Bad false x y fault hx hy e = hy e

pub is_length : {A : Type 0} (fault : WireFault) → failed {A = A} Length ≡ Err fault → IsOfField fault
is_length {A} fault e = inr (sym (fault_is {A = A} Length fault e))

pub is_field : {A : Type 0} (fault : WireFault) → failed {A = A} Field ≡ Err fault → IsOfField fault
is_field {A} fault e = inl (sym (fault_is {A = A} Field fault e))

pub no_fault : {A : Type 0} (x : A) (fault : WireFault) → done x ≡ Err fault → IsOfField fault
no_fault x fault e = absurd cc

-- ---- numbers

pub number_fault : (n : ℕ) (bytes : List ℕ) (fault : WireFault) → number_at n bytes ≡ Err fault → IsOfField fault
number_fault n bytes fault e =
    either_fails IsOfField (nat_lt (length bytes) n) (failed {A = ℕ × List ℕ} Length) (done (big_number n bytes, drop n bytes)) fault
    (is_length fault) (no_fault _ fault) e

pub wide_right : (n : ℕ) → IsRight (wide n) (Fits n) n
wide_right n = record {
  takes = (number_format n).takes;
  again = (number_format n).again;
  faults = number_fault n;
  short = λ x h. omega (arith, length-number n x);
}

-- a number of a list
pub listed_right : (n : ℕ) (is_listed : ℕ → Bool) → IsRight (wide_of n is_listed) (λ x. Fits n x × (is_listed x ≡ true)) n
listed_right n is_listed = record {
  takes = λ bytes x rest fits e.
      let m = bind_ok (number_at n bytes) (λ y. if is_listed y.0 then Ok y else Err Field) (x, rest) e in
      let t = (number_format n).takes bytes m.0.0 m.0.1 fits m.1 in
      let g = wanted_ok (is_listed m.0.0) Field m.0 (x, rest) m.2 in
      subst (λ (p : ℕ × List ℕ). Takes bytes (number n p.0) p.1 × (Fits n p.0 × (is_listed p.0 ≡ true))) g.1 (t.0, (t.1, g.0));
  again = λ x rest h. rw ((number_format n).again x rest h.0, h.1) refl;
  faults = λ bytes fault e.
      then_fails IsOfField (number_at n bytes) (λ y. if is_listed y.0 then Ok y else Err Field) fault (number_fault n bytes) (λ y f.
      either_fails IsOfField (is_listed y.0) (done y) (failed Field) f (no_fault y f) (is_field f)) e;
  short = λ x h. omega (arith, length-number n x);
}

-- ---- parts one after the other. What they make has them as its parts, and whatever has parts is made of them.

pub record ChainRight {Z Make : Type 0} (parts : Chain Z Make) (Makes : Make → (Z → Type 0) → Type 0) (Made : Make → Z → Type 0) (Is : Z → Type 0)
    (most : ℕ) : Type 1 where
  pub takes : (make : Make) (P : Z → Type 0) → Makes make P → TakesBy parts.spell (λ z. P z × Is z) (parts.read make false)
  pub again : (make : Make) (z : Z) (rest : List ℕ) → Made make z → Is z → parts.read make false (parts.spell z ++ rest) ≡ Ok (z, rest)
  pub faults : (make : Make) (bytes : List ℕ) (fault : WireFault) → parts.read make false bytes ≡ Err fault → IsOfField fault
  pub short : (z : Z) → Is z → length (parts.spell z) ≤ most

pub last_right : {A Z : Type 0} {shape : Shape A} {Is : A → Type 0} {at : Z → A} {most : ℕ} → IsRight shape Is most
    → ChainRight (lastly shape at) (λ make P. (x : A) → P (make x) × (at (make x) ≡ x)) (λ make z. make (at z) ≡ z) (λ z. Is (at z)) most
last_right {A} {Z} {shape} {Is} {at} {most} right = record {
  takes = λ make P makes bytes z rest fits e.
      let m = bind_ok (shape.read false bytes) (λ x. Ok (make x.0, x.1)) (z, rest) e in
      let t = right.takes bytes m.0.0 m.0.1 fits m.1 in
      let made = makes m.0.0 in
      let same = sym made.1 in
      subst (λ (p : Z × List ℕ). Takes bytes (shape.spell (at p.0)) p.1 × (P p.0 × Is (at p.0))) (ok_is (make m.0.0, m.0.1) (z, rest) m.2)
      (subst (λ (x : A). Takes bytes (shape.spell x) m.0.1) same t.0, (made.0, subst Is same t.1));
  again = λ make z rest made h. rw (right.again (at z) rest h) (ap (λ (y : Z). Ok (y, rest)) made);
  faults = λ make bytes fault e.
      then_fails IsOfField (shape.read false bytes) (λ x. Ok (make x.0, x.1)) fault (right.faults bytes) (λ x f none. absurd cc) e;
  short = λ z h. right.short (at z) h;
}

pub part_right : {A Z Make : Type 0} {shape : Shape A} {others : Chain Z Make} {Is : A → Type 0} {Makes : Make → (Z → Type 0) → Type 0}
    {Made : Make → Z → Type 0} {Are : Z → Type 0} {at : Z → A} {m n : ℕ} → IsRight shape Is m → ChainRight others Makes Made Are n
    → ChainRight (◌of◌and◌ shape at others) (λ make P. (x : A) → Makes (make x) (λ z. P z × (at z ≡ x))) (λ make z. Made (make (at z)) z)
    (λ z. Is (at z) × Are z) (m + n)
part_right {A} {Z} {Make} {shape} {others} {Is} {Makes} {Made} {Are} {at} {m} {n} right chain = record {
  takes = λ make P makes bytes z rest fits e.
      let f = bind_ok (shape.read false bytes) (λ x. others.read (make x.0) false x.1) (z, rest) e in
      let t = right.takes bytes f.0.0 f.0.1 fits f.1 in
      let o = chain.takes (make f.0.0) (λ y. P y × (at y ≡ f.0.0)) (makes f.0.0) f.0.1 z rest t.0.rest_fits f.2 in
      let same = sym o.1.0.1 in (
        subst (λ (x : A). Takes bytes (shape.spell x ++ others.spell z) rest) same
            (Takes-then bytes (shape.spell f.0.0) f.0.1 (others.spell z) rest t.0 o.0),
        (o.1.0.0, (subst Is same t.1, o.1.1)),
      );
  again = λ make z rest made h.
      rw (append_assoc (shape.spell (at z)) (others.spell z) rest, right.again (at z) (others.spell z ++ rest) h.0)
      (chain.again (make (at z)) z rest made h.1);
  faults = λ make bytes fault e.
      then_fails IsOfField (shape.read false bytes) (λ x. others.read (make x.0) false x.1) fault (right.faults bytes)
      (λ x f. chain.faults (make x.0) x.1 f) e;
  short = λ z h. omega (arith, length-append (shape.spell (at z)) (others.spell z), right.short (at z) h.0, chain.short z h.1);
}

pub whole_right : {Z Make : Type 0} {parts : Chain Z Make} {Makes : Make → (Z → Type 0) → Type 0} {Made : Make → Z → Type 0} {Is : Z → Type 0} {most : ℕ}
    → ChainRight parts Makes Made Is most → (make : Make) → Makes make (λ z. Unit {0}) → ((z : Z) → Made make z)
    → IsRight (whole parts make) Is most
whole_right {Z} {Make} {parts} {Makes} {Made} {Is} {most} chain make makes made = record {
  takes = λ bytes z rest fits e. let t = chain.takes make (λ z. Unit {0}) makes bytes z rest fits e in (t.0, t.1.1);
  again = λ z rest h. chain.again make z rest (made z) h;
  faults = chain.faults make;
  short = chain.short;
}

-- ---- lists: the items of a shape one after the other

more-takes : {A : Type 0} {shape : Shape A} {Is : A → Type 0} {most : ℕ} → IsRight shape Is most → (count : ℕ) (bytes : List ℕ) (xs : List A) (rest : List ℕ)
    → IsBytes bytes → items_from (shape.read false) false count bytes ≡ Ok (xs, rest)
    → Takes bytes (flat_map shape.spell xs) rest × (EachFits Is xs × (length xs ≡ count))
unfolding items_from
more-takes {A} {shape} {Is} {most} right zero bytes xs rest fits e =
    subst (λ (p : List A × List ℕ). Takes bytes (flat_map shape.spell p.0) p.1 × (EachFits Is p.0 × (length p.0 ≡ 0))) (ok_is ([], bytes) (xs, rest) e)
    (record { parts = refl; rest_fits = fits }, (tt, refl))
more-takes {A} {shape} {Is} {most} right (suc count) bytes xs rest fits e =
    let m = bind_ok (shape.read false bytes) (λ x. items_from (shape.read false) false count x.1 >>= λ others. Ok (x.0 ∷ others.0, others.1)) (xs, rest) e in
    let t = right.takes bytes m.0.0 m.0.1 fits m.1 in
    let o = bind_ok (items_from (shape.read false) false count m.0.1) (λ others. Ok (m.0.0 ∷ others.0, others.1)) (xs, rest) m.2 in
    let u = more-takes right count m.0.1 o.0.0 o.0.1 t.0.rest_fits o.1 in
    let whole = Takes-then bytes (shape.spell m.0.0) m.0.1 (flat_map shape.spell o.0.0) o.0.1 t.0 u.0 in
    subst (λ (p : List A × List ℕ). Takes bytes (flat_map shape.spell p.0) p.1 × (EachFits Is p.0 × (length p.0 ≡ suc count)))
    (ok_is (m.0.0 ∷ o.0.0, o.0.1) (xs, rest) o.2)
    (whole, ((t.1, u.1.0), ap suc u.1.1))

more-again : {A : Type 0} {shape : Shape A} {Is : A → Type 0} {most : ℕ} → IsRight shape Is most → (xs : List A) (rest : List ℕ) → EachFits Is xs
    → items_from (shape.read false) false (length xs) (flat_map shape.spell xs ++ rest) ≡ Ok (xs, rest)
unfolding items_from
more-again right [] rest h = refl
more-again {A} {shape} {Is} {most} right (x ∷ xs) rest h =
    rw (append_assoc (shape.spell x) (flat_map shape.spell xs) rest, right.again x (flat_map shape.spell xs ++ rest) h.0, more-again right xs rest h.1) refl

pub more-faults : {A : Type 0} {shape : Shape A} {Is : A → Type 0} {most : ℕ} → IsRight shape Is most → (count : ℕ) (bytes : List ℕ) (fault : WireFault)
    → items_from (shape.read false) false count bytes ≡ Err fault → IsOfField fault
unfolding items_from
more-faults {A} right zero bytes fault e = no_fault {A = List A × List ℕ} ([], bytes) fault e
more-faults {A} {shape} right (suc count) bytes fault e =
    then_fails IsOfField (shape.read false bytes) (λ x. items_from (shape.read false) false count x.1 >>= λ others. Ok (x.0 ∷ others.0, others.1))
    fault (right.faults bytes) (λ x f.
    then_fails IsOfField (items_from (shape.read false) false count x.1) (λ others. Ok (x.0 ∷ others.0, others.1)) f (more-faults right count x.1)
    (λ others g none. absurd cc)) e

pub more-short : {A : Type 0} {shape : Shape A} {Is : A → Type 0} {most : ℕ} → IsRight shape Is most → (xs : List A) → EachFits Is xs
    → length (flat_map shape.spell xs) ≤ length xs * most
more-short right [] h = omega arith
more-short {A} {shape} {Is} {most} right (x ∷ xs) h =
    omega (arith, length-append (shape.spell x) (flat_map shape.spell xs), right.short x h.0, more-short right xs h.1)

-- a count that is bounded
pub list_right : {A : Type 0} {count : Shape ℕ} {item : Shape A} {IsCount : ℕ → Type 0} {Is : A → Type 0} {m n : ℕ} → IsRight count IsCount m
    → IsRight item Is n → (bound : ℕ) → ((k : ℕ) → IsCount k → k ≤ bound)
    → IsRight (list_of count item) (λ xs. IsCount (length xs) × EachFits Is xs) (m + bound * n)
list_right {A} {count} {item} {IsCount} {Is} {m} {n} counts right bound few = record {
  takes = λ bytes xs rest fits e.
      let f = bind_ok (count.read false bytes) (λ k. items_from (item.read false) false k.0 k.1) (xs, rest) e in
      let t = counts.takes bytes f.0.0 f.0.1 fits f.1 in
      let u = more-takes right f.0.0 f.0.1 xs rest t.0.rest_fits f.2 in
      let all = Takes-then bytes (count.spell f.0.0) f.0.1 (flat_map item.spell xs) rest t.0 u.0 in
      (subst (λ (k : ℕ). Takes bytes (count.spell k ++ flat_map item.spell xs) rest) (sym u.1.1) all, (subst IsCount (sym u.1.1) t.1, u.1.0));
  again =
      λ xs rest h. rw (append_assoc (count.spell (length xs)) (flat_map item.spell xs) rest, counts.again (length xs) (flat_map item.spell xs ++ rest) h.0)
      (more-again right xs rest h.1);
  faults = λ bytes fault e.
      then_fails IsOfField (count.read false bytes) (λ k. items_from (item.read false) false k.0 k.1) fault (counts.faults bytes)
      (λ k f. more-faults right k.0 k.1 f) e;
  short = λ xs h.
      omega (
        arith,
        length-append (count.spell (length xs)) (flat_map item.spell xs),
        counts.short (length xs) h.0,
        more-short right xs h.1,
        mul-le-mul_right n (few (length xs) h.0),
      );
}

-- ---- choices: what is read in one case of several

-- what this reading takes of these bytes is spelled so, and it fails with such faults
pub record IsGood {Z : Type 0} (bytes : List ℕ) (spell : Z → List ℕ) (Is : Z → Type 0) (Bad : WireFault → Type 0) (read : Reads Z) : Type 0 where
  pub takes : (z : Z) (rest : List ℕ) → IsBytes bytes → read ≡ Ok (z, rest) → Takes bytes (spell z) rest × Is z
  pub faults : (fault : WireFault) → read ≡ Err fault → Bad fault

-- the case of this number, or another
pub pick : {R : Type 0} (Good : ℕ → R → Type 0) (k i : ℕ) {x y : R} → Good i x → Good k y → Good k (if k == i then x else y)
pick {R} Good k i {x} {y} this other = by (k == i) (eqb-true k i)
  where
    by : (b : Bool) → (b ≡ true → k ≡ i) → Good k (if b then x else y)
    by true same = subst (λ (j : ℕ). Good j x) (sym (same refl)) this
    by false same = other

pub good_field : {Z : Type 0} {bytes : List ℕ} {spell : Z → List ℕ} {Is : Z → Type 0} → IsGood bytes spell Is IsOfField (Err Field)
good_field {Z} = record { takes = λ z rest fits e. absurd cc; faults = λ fault e. is_field {A = Z × List ℕ} fault e }

-- a tag with nothing behind it
pub good_bare : {Z : Type 0} (spell : Z → List ℕ) (Is : Z → Type 0) (tag : ℕ) (bytes : List ℕ) (known : Z) → spell known ≡ tag ∷ [] → Is known
    → IsGood (tag ∷ bytes) spell Is IsOfField (Ok (known, bytes))
good_bare {Z} spell Is tag bytes known spelled is = record {
  takes = λ z rest fits e.
      subst (λ (p : Z × List ℕ). Takes (tag ∷ bytes) (spell p.0) p.1 × Is p.0) (ok_is (known, bytes) (z, rest) e)
      (record { parts = rw spelled refl; rest_fits = IsBytes-rest tag bytes fits }, is);
  faults = λ fault e. absurd cc;
}

-- a shape as a part of something else, behind these bytes
pub good_part : {A Z : Type 0} {shape : Shape A} {IsA : A → Type 0} {most : ℕ} → IsRight shape IsA most → (make : A → Z) (spell : Z → List ℕ) (Is : Z → Type 0)
    (Bad : WireFault → Type 0) (bytes : List ℕ) → ((fault : WireFault) → IsOfField fault → Bad fault) → ((a : A) → spell (make a) ≡ shape.spell a)
    → ((a : A) → IsA a → Is (make a)) → IsGood bytes spell Is Bad (as_part make (shape.read false bytes))
good_part {A} {Z} {shape} right make spell Is Bad bytes bad spelled is = record {
  takes = λ z rest fits e.
      let m = bind_ok (shape.read false bytes) (λ x. Ok (make x.0, x.1)) (z, rest) e in
      let t = right.takes bytes m.0.0 m.0.1 fits m.1 in
      subst (λ (p : Z × List ℕ). Takes bytes (spell p.0) p.1 × Is p.0) (ok_is (make m.0.0, m.0.1) (z, rest) m.2)
      (subst (λ (x : List ℕ). Takes bytes x m.0.1) (sym (spelled m.0.0)) t.0, is m.0.0 t.1);
  faults = λ fault e. bad fault
      (then_fails IsOfField (shape.read false bytes) (λ x. Ok (make x.0, x.1)) fault (right.faults bytes) (λ x f none. absurd cc) e);
}

pub good_tagged : {A Z : Type 0} {shape : Shape A} {IsA : A → Type 0} {most : ℕ} (tag : ℕ) → IsRight shape IsA most → (make : A → Z) (spell : Z → List ℕ)
    (Is : Z → Type 0) (bytes : List ℕ) → ((a : A) → spell (make a) ≡ tag ∷ shape.spell a) → ((a : A) → IsA a → Is (make a))
    → IsGood (tag ∷ bytes) spell Is IsOfField (as_part make (shape.read false bytes))
good_tagged {A} {Z} {shape} tag right make spell Is bytes spelled is = record {
  takes = λ z rest fits e.
      let m = bind_ok (shape.read false bytes) (λ x. Ok (make x.0, x.1)) (z, rest) e in
      let t = right.takes bytes m.0.0 m.0.1 (IsBytes-rest tag bytes fits) m.1 in
      subst (λ (p : Z × List ℕ). Takes (tag ∷ bytes) (spell p.0) p.1 × Is p.0) (ok_is (make m.0.0, m.0.1) (z, rest) m.2)
      (subst (λ (x : List ℕ). Takes (tag ∷ bytes) x m.0.1) (sym (spelled m.0.0)) (tagged tag bytes (shape.spell m.0.0) m.0.1 t.0), is m.0.0 t.1);
  faults =
      λ fault e. then_fails IsOfField (shape.read false bytes) (λ x. Ok (make x.0, x.1)) fault (right.faults bytes) (λ x f none. absurd cc) e;
}

pub part_again : {A Z : Type 0} {shape : Shape A} {Is : A → Type 0} {most : ℕ} → IsRight shape Is most → (make : A → Z) (a : A) (rest : List ℕ) → Is a
    → as_part make (shape.read false (shape.spell a ++ rest)) ≡ Ok (make a, rest)
part_again right make a rest h = rw (right.again a rest h) refl

-- a tag, and the case of it
pub choice_right : {Z : Type 0} (shape : Shape Z) (Is : Z → Type 0) (most : ℕ) → shape.read false [] ≡ Err Length
    → ((tag : ℕ) (bytes : List ℕ) → IsGood (tag ∷ bytes) shape.spell Is IsOfField (shape.read false (tag ∷ bytes)))
    → ((z : Z) (rest : List ℕ) → Is z → shape.read false (shape.spell z ++ rest) ≡ Ok (z, rest)) → ((z : Z) → Is z → length (shape.spell z) ≤ most)
    → IsRight shape Is most
choice_right {Z} shape Is most empty good again short = record { takes = took; again = again; faults = failed_so; short = short }
  where
    took : TakesBy shape.spell Is (shape.read false)
    took [] z rest fits e = absurd (never_empty (sym empty ∙ e))
      where
        never_empty : failed {A = Z × List ℕ} Length ≡ Ok (z, rest) → ⊥
        never_empty none = absurd cc
    took (tag ∷ bytes) z rest fits e = (good tag bytes).takes z rest fits e

    failed_so : (bytes : List ℕ) (fault : WireFault) → shape.read false bytes ≡ Err fault → IsOfField fault
    failed_so [] fault e = is_length {A = Z × List ℕ} fault (sym empty ∙ e)
    failed_so (tag ∷ bytes) fault e = (good tag bytes).faults fault e
