-- What it is for a reader to be right: what it takes is spelled so, and what is spelled so it reads again. Readers one after the other are right where each is.
use Rattle.std.proofs.Common.{◌≡◌, ℕ, ◌<◌, Bool, true, false, cond, not, List, ◌++◌, get_or, take, drop, Result, Ok, Err, refl, sym, ap, subst, ◌∙◌, append_assoc, arith, [], zero, suc, ◌∷◌}
use Rattle.std.proofs.lemmas.List.Elements.{All-cons, All-nil, All-head, All-tail, All-drop, All-take}
use Rattle.pvp_wire.specs.declared.fault.WireFault.{WireFault}
use Rattle.pvp_wire.specs.Fits.{IsBytes}
use Rattle.pvp_wire.specs.Reading.{◌>>=◌, Reads}

-- a list of bytes, as it is said of each index
pub each_byte : (bytes : List ℕ) → IsBytes bytes → (i : ℕ) → get_or bytes i 0 < 256
each_byte [] h i = omega arith
each_byte (b ∷ bytes) h zero = All-head (λ (b : ℕ). b < 256) b bytes h
each_byte (b ∷ bytes) h (suc i) = each_byte bytes (All-tail (λ (b : ℕ). b < 256) b bytes h) i

pub all_bytes : (bytes : List ℕ) → ((i : ℕ) → get_or bytes i 0 < 256) → IsBytes bytes
all_bytes [] h = All-nil (λ (b : ℕ). b < 256)
all_bytes (b ∷ bytes) h = All-cons (λ (b : ℕ). b < 256) b bytes (h 0) (all_bytes bytes (λ i. h (suc i)))

pub IsBytes-rest : (b : ℕ) (bytes : List ℕ) → IsBytes (b ∷ bytes) → IsBytes bytes
IsBytes-rest b bytes h = All-tail (λ (b : ℕ). b < 256) b bytes h

pub IsBytes-drop : (n : ℕ) (bytes : List ℕ) → IsBytes bytes → IsBytes (drop n bytes)
IsBytes-drop n bytes h = All-drop (λ (b : ℕ). b < 256) n bytes h

pub IsBytes-take : (n : ℕ) (bytes : List ℕ) → IsBytes bytes → IsBytes (take n bytes)
IsBytes-take n bytes h = All-take (λ (b : ℕ). b < 256) n bytes h

-- the value of a step that did not fail
pub bind_ok : {A B : Type 0} (r : Result A WireFault) (f : A → Result B WireFault) (y : B) → (r >>= f) ≡ Ok y → (x : A) × (r ≡ Ok x) × (f x ≡ Ok y)
bind_ok (Ok x) f y e = (x, refl, e)
bind_ok (Err d) f y e = absurd cc

-- a test that did not fail
pub guard_ok : {A : Type 0} (b : Bool) (d : WireFault) (x y : A) → cond b (Err d) (Ok x) ≡ Ok y → (b ≡ false) × (x ≡ y)
guard_ok true d x y e = absurd cc
guard_ok false d x y e = (refl, cc)

-- a test that did not fail, on the other side
pub wanted_ok : {A : Type 0} (b : Bool) (d : WireFault) (x y : A) → cond b (Ok x) (Err d) ≡ Ok y → (b ≡ true) × (x ≡ y)
wanted_ok true d x y e = (refl, cc)
wanted_ok false d x y e = absurd cc

-- a test that did not fail, before another step
pub guarded : {A : Type 0} (b : Bool) (d : WireFault) (r : Result A WireFault) (y : A) → cond b (Err d) r ≡ Ok y → (b ≡ false) × (r ≡ Ok y)
guarded true d r y e = absurd cc
guarded false d r y e = (refl, e)

pub not-false : (b : Bool) → not b ≡ false → b ≡ true
not-false true e = refl
not-false false e = absurd cc

-- what did not fail, and is the same
abbrev pub done : {A : Type 0} → A → Result A WireFault
done x = Ok x

pub ok_is : {A : Type 0} (x y : A) → done x ≡ done y → x ≡ y
ok_is x y e = cc

-- what failed, at the same fault
abbrev pub failed : {A : Type 0} → WireFault → Result A WireFault
failed fault = Err fault

pub fault_is : {A : Type 0} (f g : WireFault) → failed {A = A} f ≡ failed {A = A} g → f ≡ g
fault_is f g e = cc

-- what a reader took from the front
pub record Takes (bytes text rest : List ℕ) : Type 0 where
  pub parts : bytes ≡ text ++ rest
  pub rest_fits : IsBytes rest

pub Takes-then : (a x b y c : List ℕ) → Takes a x b → Takes b y c → Takes a (x ++ y) c
Takes-then a x b y c p q = record { parts = p.parts ∙ ap (λ (t : List ℕ). x ++ t) q.parts ∙ sym (append_assoc x y c); rest_fits = q.rest_fits }

pub record IsFormat {A : Type 0} (spell : A → List ℕ) (Fits : A → Type 0) (read : List ℕ → Reads A) : Type 0 where
  pub takes : (bytes : List ℕ) (x : A) (rest : List ℕ) → IsBytes bytes → read bytes ≡ Ok (x, rest) → Takes bytes (spell x) rest × Fits x
  pub again : (x : A) (rest : List ℕ) → Fits x → read (spell x ++ rest) ≡ Ok (x, rest)

-- ---- readers one after the other: `make` puts together what they read, and `spell` spells that as the parts are spelled

abbrev pub TakesBy : {A : Type 0} → (A → List ℕ) → (A → Type 0) → (List ℕ → Reads A) → Type 0
TakesBy {A} spell Fits read = (bytes : List ℕ) (x : A) (rest : List ℕ) → IsBytes bytes → read bytes ≡ Ok (x, rest) → Takes bytes (spell x) rest × Fits x

-- one part, and then what is drawn from the rest
first_part : {A Z : Type 0} {spell : A → List ℕ} {Fits : A → Type 0} {read : List ℕ → Reads A} (format : IsFormat spell Fits read) (k : A × List ℕ → Reads Z)
    (bytes : List ℕ) (z : Z) (rest : List ℕ) (Goal : Type 0) → IsBytes bytes → (read bytes >>= k) ≡ Ok (z, rest)
    → ((a : A) (after : List ℕ) → Takes bytes (spell a) after → Fits a → k (a, after) ≡ Ok (z, rest) → Goal) → Goal
first_part {A} {Z} {spell} {Fits} {read} format k bytes z rest Goal fits e then =
    let m = bind_ok (read bytes) k (z, rest) e in
    let t = format.takes bytes m.0.0 m.0.1 fits m.1 in
    then m.0.0 m.0.1 t.0 t.1 m.2

abbrev pub reads1 : {A Z : Type 0} (ra : List ℕ → Reads A) → (A → Z) → List ℕ → Reads Z
reads1 ra make bytes = ra bytes >>= λ xa. Ok (make xa.0, xa.1)

pub takes1 : {A Z : Type 0} {sa : A → List ℕ} {fa : A → Type 0} {ra : List ℕ → Reads A} (pa : IsFormat sa fa ra) (make : A → Z)
    (spell : Z → List ℕ) (Fits : Z → Type 0)
    → ((a : A) → spell (make a) ≡ sa a) → ((a : A) → fa a → Fits (make a))
    → TakesBy spell Fits (reads1 ra make)
takes1 {A} {Z} {sa} {fa} {ra} pa make spell Fits spelled fit bytes z rest fits e =
    first_part pa (λ xa. Ok (make xa.0, xa.1)) bytes z rest (Takes bytes (spell z) rest × Fits z) fits e (λ a aftera wa ha ea.
    subst (λ (p : Z × List ℕ). Takes bytes (spell p.0) p.1 × Fits p.0) (ok_is (make a, aftera) (z, rest) ea)
    (subst (λ (t : List ℕ). Takes bytes t aftera) (sym (spelled a)) wa, fit a ha))

pub again1 : {A Z : Type 0} {sa : A → List ℕ} {fa : A → Type 0} {ra : List ℕ → Reads A} (pa : IsFormat sa fa ra) (make : A → Z) (a : A) (rest : List ℕ) → fa a
    → reads1 ra make ((sa a) ++ rest) ≡ Ok (make a, rest)
again1 {A} {Z} {sa} {fa} {ra} pa make a rest ha =
    rw (pa.again a rest ha) refl

abbrev pub reads2 : {A B Z : Type 0} (ra : List ℕ → Reads A) (rb : List ℕ → Reads B) → (A → B → Z) → List ℕ → Reads Z
reads2 ra rb make bytes = ra bytes >>= λ xa. (rb xa.1 >>= λ xb. Ok (make xa.0 xb.0, xb.1))

pub takes2 : {A B Z : Type 0} {sa : A → List ℕ} {fa : A → Type 0} {ra : List ℕ → Reads A} {sb : B → List ℕ} {fb : B → Type 0} {rb : List ℕ → Reads B}
    (pa : IsFormat sa fa ra) (pb : IsFormat sb fb rb) (make : A → B → Z) (spell : Z → List ℕ) (Fits : Z → Type 0)
    → ((a : A) (b : B) → spell (make a b) ≡ sa a ++ sb b) → ((a : A) (b : B) → fa a → fb b → Fits (make a b))
    → TakesBy spell Fits (reads2 ra rb make)
takes2 {A} {B} {Z} {sa} {fa} {ra} {sb} {fb} {rb} pa pb make spell Fits spelled fit bytes z rest fits e =
    first_part pa (λ xa. (rb xa.1 >>= λ xb. Ok (make xa.0 xb.0, xb.1))) bytes z rest (Takes bytes (spell z) rest × Fits z) fits e (λ a aftera wa ha ea.
    first_part pb (λ xb. Ok (make a xb.0, xb.1)) aftera z rest (Takes bytes (spell z) rest × Fits z) wa.rest_fits ea (λ b afterb wb hb eb.
    subst (λ (p : Z × List ℕ). Takes bytes (spell p.0) p.1 × Fits p.0) (ok_is (make a b, afterb) (z, rest) eb)
    (subst (λ (t : List ℕ). Takes bytes t afterb) (sym (spelled a b)) (Takes-then bytes (sa a) aftera (sb b) afterb wa wb), fit a b ha hb)))

pub again2 : {A B Z : Type 0} {sa : A → List ℕ} {fa : A → Type 0} {ra : List ℕ → Reads A} {sb : B → List ℕ} {fb : B → Type 0} {rb : List ℕ → Reads B}
    (pa : IsFormat sa fa ra) (pb : IsFormat sb fb rb) (make : A → B → Z) (a : A) (b : B) (rest : List ℕ) → fa a → fb b
    → reads2 ra rb make ((sa a ++ sb b) ++ rest) ≡ Ok (make a b, rest)
again2 {A} {B} {Z} {sa} {fa} {ra} {sb} {fb} {rb} pa pb make a b rest ha hb =
    ap (reads2 ra rb make) (append_assoc (sa a) (sb b) rest) ∙ rw (pa.again a (sb b ++ rest) ha, pb.again b rest hb) refl
