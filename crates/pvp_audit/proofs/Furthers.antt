-- What sites opened over, one actor further.
use Rattle.std.proofs.Common.{◌≡◌, inl, inr, ℕ, zero, suc, ◌+◌, ◌<◌, Bool, true, false, nat_lt, length, List, [], ◌∷◌, ◌++◌, map, take, slice_get, option_to_list, Option, Some, None, refl, sym, ap, subst, ◌∙◌, arith}
use Rattle.std.proofs.lemmas.Bool.Decides.{nat_tests}
use Rattle.pvp_types.specs.declared.setup.Setup.{Setup}
use Rattle.vr_types.specs.declared.cell.Boot.{Boot}
use Rattle.vr_types.specs.declared.cell.MemCell.{MemCell}
use Rattle.vr_types.specs.MemoryCell.{held_by}
use Rattle.headline.proofs.Basics.{none-some, some-same}
use Rattle.pvp_audit.specs.Judged.{Left, openings}
use Rattle.pvp_audit.specs.Banked.{OpensInOrder, HasItsSites, AllAre}
use Rattle.pvp_rooms.proofs.Lists.{push_cases, push_last, push_length}

-- what one actor more opened over
pub openings_next : (closed : List Left) (k : ℕ) (c : Left) → slice_get closed k ≡ Some c
    → openings (take (suc k) closed) ≡ openings (take k closed) ++ option_to_list c.opening
openings_next [] k c is = cc
openings_next (d ∷ more) zero c is =
    subst (λ (e : Left). option_to_list d.opening ++ [] ≡ option_to_list e.opening) (same d c is) (nil (option_to_list d.opening))
  where
    same : (a b : Left) → Some a ≡ Some b → a ≡ b
    same a b e = cc

    nil : {X : Type 0} (xs : List X) → xs ++ [] ≡ xs
    nil [] = refl
    nil (x ∷ xs) = ap (λ ys. x ∷ ys) (nil xs)
openings_next (d ∷ more) (suc k) c is =
    ap (λ xs. option_to_list d.opening ++ xs) (openings_next more k c is) ∙ sym
    (joined (option_to_list d.opening) (openings (take k more)) (option_to_list c.opening))
  where
    joined : {X : Type 0} (xs ys zs : List X) → (xs ++ ys) ++ zs ≡ xs ++ (ys ++ zs)
    joined [] ys zs = refl
    joined (x ∷ xs) ys zs = ap (λ l. x ∷ l) (joined xs ys zs)

-- and over a cell more
pub cells_next : (closed : List Left) (cells : List MemCell) (k : ℕ) (c : Left) (boot : Boot) (cell : MemCell) → slice_get closed k ≡ Some c
    → c.opening ≡ Some boot → held_by cell ≡ boot
    → map held_by cells ≡ openings (take k closed) → map held_by (cells ++ cell ∷ []) ≡ openings (take (k + 1) closed)
cells_next closed cells k c boot cell is opened held so_far =
    let e : k + 1 ≡ suc k = omega arith in
    pushed cells ∙ ap (λ (b : Boot). map held_by cells ++ b ∷ []) held
    ∙ ap (λ (bs : List Boot). bs ++ boot ∷ []) so_far
    ∙ ap (λ (o : Option Boot). openings (take k closed) ++ option_to_list o) (sym opened)
    ∙ sym (openings_next closed k c is) ∙ ap (λ n. openings (take n closed)) (sym e)
  where
    pushed : (xs : List MemCell) → map held_by (xs ++ cell ∷ []) ≡ map held_by xs ++ held_by cell ∷ []
    pushed [] = refl
    pushed (x ∷ xs) = ap (λ (bs : List Boot). held_by x ∷ bs) (pushed xs)

-- an actor that opened over nothing
pub cells_same : (closed : List Left) (bs : List Boot) (k : ℕ) (c : Left) → slice_get closed k ≡ Some c → c.opening ≡ None → bs ≡ openings (take k closed)
    → bs ≡ openings (take (k + 1) closed)
cells_same closed bs k c is opened so_far =
    let e : k + 1 ≡ suc k = omega arith in
    so_far ∙ sym (nil (openings (take k closed))) ∙ ap (λ (o : Option Boot). openings (take k closed) ++ option_to_list o) (sym opened)
    ∙ sym (openings_next closed k c is) ∙ ap (λ n. openings (take n closed)) (sym e)
  where
    nil : (xs : List Boot) → xs ++ [] ≡ xs
    nil [] = refl
    nil (x ∷ xs) = ap (λ (ys : List Boot). x ∷ ys) (nil xs)

-- WHAT SITES OPENED OVER STANDS IN ORDER

join_front : {X : Type 0} (xs ys zs : List X) (i : ℕ) (b : X) → ((j : ℕ) → slice_get ys j ≡ Some b → slice_get zs j ≡ Some b) → slice_get (xs ++ ys) i ≡ Some b
    → slice_get (xs ++ zs) i ≡ Some b
join_front [] ys zs i b rest is = rest i is
join_front (x ∷ xs) ys zs zero b rest is = is
join_front (x ∷ xs) ys zs (suc i) b rest is = join_front xs ys zs i b rest is

-- what stands in what the first actors opened over stands there in all
openings_front : (closed : List Left) (n i : ℕ) (b : Boot) → slice_get (openings (take n closed)) i ≡ Some b → slice_get (openings closed) i ≡ Some b
openings_front [] zero i b is = is
openings_front [] (suc n) i b is = is
openings_front (d ∷ more) zero i b is = absurd (none-some b is)
openings_front (d ∷ more) (suc n) i b is =
    join_front (option_to_list d.opening) (openings (take n more)) (openings more) i b (λ j h. openings_front more n j b h) is

-- each of the first sites is numbered by how many before it opened
abbrev pub AreCounted : List Left → ℕ → Type 0
AreCounted closed n = (j : ℕ) (c : Left) (boot : Boot) → j < n → slice_get closed j ≡ Some c → c.opening ≡ Some boot
    → c.number ≡ 200 + length (openings (take j closed))

pub in_order : (setup : Setup) (closed : List Left) → HasItsSites setup closed → OpensInOrder closed
in_order setup closed sites k c is site boot number opening =
    let counted = sites.numbered k c boot is opening in
    let place : site ≡ length (openings (take k closed)) = omega (arith, number, counted) in
    let next : openings (take (suc k) closed) ≡ openings (take k closed) ++ boot ∷ [] =
    openings_next closed k c is ∙ ap (λ (o : Option Boot). openings (take k closed) ++ option_to_list o) opening in
    ap (λ (n : ℕ). slice_get (openings closed) n) place
    ∙ openings_front closed (suc k) (length (openings (take k closed))) boot
    (ap (λ (l : List Boot). slice_get l (length (openings (take k closed)))) next ∙ push_last (openings (take k closed)) boot)

-- one actor further: a site more, or none

pub counted_next : (closed : List Left) (k : ℕ) (c : Left) (boot : Boot) → slice_get closed k ≡ Some c → c.opening ≡ Some boot
    → length (openings (take (k + 1) closed)) ≡ length (openings (take k closed)) + 1
counted_next closed k c boot is opening =
    let e : k + 1 ≡ suc k = omega arith in
    let n = push_length (openings (take k closed)) boot in
    let all : length (openings (take (k + 1) closed)) ≡ length (openings (take k closed) ++ boot ∷ []) =
    ap (λ (n : ℕ). length (openings (take n closed))) e ∙ ap length
    (openings_next closed k c is ∙ ap (λ (o : Option Boot). openings (take k closed) ++ option_to_list o) opening) in
    omega (arith, all, n)

pub counted_same : (closed : List Left) (k : ℕ) (c : Left) → slice_get closed k ≡ Some c → c.opening ≡ None
    → length (openings (take (k + 1) closed)) ≡ length (openings (take k closed))
counted_same closed k c is opening = ap length (sym (cells_same closed (openings (take k closed)) k c is opening refl))

pub far_next : (closed : List Left) (k : ℕ) (c : Left) → slice_get closed k ≡ Some c → AreCounted closed k
    → ((boot : Boot) → c.opening ≡ Some boot → c.number ≡ 200 + length (openings (take k closed))) → AreCounted closed (k + 1)
far_next closed k c is before here j d boot low there opening = by (nat_lt j k) refl
  where
    by : (b : Bool) → nat_lt j k ≡ b → d.number ≡ 200 + length (openings (take j closed))
    by true lt = before j d boot (grind (arith, nat_tests)) there opening
    by false off =
        let same : k ≡ j = grind (arith, nat_tests) in
        let at : (n : ℕ) → k ≡ n → slice_get closed n ≡ Some d → d.number ≡ 200 + length (openings (take n closed)) = λ n e h.
        subst (λ (m : ℕ). slice_get closed m ≡ Some d → d.number ≡ 200 + length (openings (take m closed))) e
        (λ g. (let one : c ≡ d = some-same c d (sym is ∙ g) in
        subst (λ (q : Left). q.opening ≡ Some boot → q.number ≡ 200 + length (openings (take k closed))) one (here boot) opening)) h in
        at j same there

-- WHAT HOLDS OF EACH, ONE FURTHER

pub all_push : {X : Type 0} (Is : X → Type 0) (xs : List X) (x : X) → AllAre Is xs → Is x → AllAre Is (xs ++ x ∷ [])
all_push Is xs x all here i y there = elim (push_cases xs x i y there) [ inl h ↦ all i y h | inr e ↦ subst Is e here ]
