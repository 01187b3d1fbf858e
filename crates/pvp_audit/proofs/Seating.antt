-- What the actors left whose histories are those of a bank's actors is that bank's.
use Rattle.std.proofs.Common.{◌≡◌, ℕ, zero, suc, ◌+◌, ◌-◌, ◌*◌, ◌<◌, ◌≤◌, Bool, true, false, nat_le, if◌then◌else◌, List, [], ◌∷◌, length, take, slice_get, Option, Some, None, refl, sym, ap, subst, ◌∙◌, arith, true≢false}
use Rattle.std.proofs.lemmas.Bool.Decides.{nat_tests}
use Rattle.std.proofs.lemmas.List.{take_all}
use Rattle.std.proofs.lemmas.Option.{slice_get_within}
use Rattle.pvp_types.specs.declared.setup.Setup.{Setup}
use Rattle.pvp_types.specs.Setup.{IsValid, faults}
use Rattle.pvp_types.proofs.SetupLemmas.{valid-members, valid-currencies}
use Rattle.vr_types.specs.Actors.{id_of}
use Rattle.vr_types.specs.declared.actors.ActorId.TheVariants.{Client, Node, Site}
use Rattle.vr_types.specs.declared.cell.Boot.{Boot}
use Rattle.pvp_rooms.specs.Runs.{number_in, AreInOrder}
use Rattle.pvp_audit.specs.Banked.{AreOfBank, HasItsSites, IsTheBank}
use Rattle.pvp_audit.specs.Judged.{Left, openings}
use Rattle.pvp_audit.proofs.Furthers.{counted_next, counted_same}
use Rattle.pvp_audit.specs.declared.history.History.{History}
use Rattle.pvp_audit.specs.Actors.{actor_at, AreOfTheBank}
use Rattle.pvp_audit.specs.Gathered.{is_actor}
use Rattle.pvp_audit.specs.Histories.{IsLeftBy, AreLeftBy}

-- WHICH ACTORS A BANK HAS

-- what opened over a cell is a site of the bank
pub site_known : (setup : Setup) (n : ℕ) (boot : Boot) → is_actor setup (id_of n) (Some boot) ≡ true → (200 ≤ n) × (n - 200 ≤ 2 * faults setup)
site_known setup n boot known = go (nat_le 200 n) (nat_le 101 n) refl known
  where
    go : (a b : Bool) → nat_le 200 n ≡ a → is_actor setup (if a then Site (n - 200) else if b then Node (n - 101) else Client n) (Some boot) ≡ true
        → (200 ≤ n) × (n - 200 ≤ 2 * faults setup)
    go true b is h = (grind (arith, nat_tests), grind (arith, nat_tests))
    go false true is h = absurd (true≢false (sym h))
    go false false is h = absurd (true≢false (sym h))

-- what opened over none is a node or a client of it
pub node_known : (setup : Setup) (n : ℕ) → is_actor setup (id_of n) None ≡ true → 101 ≤ n → (n < 200) × (n - 101 < length setup.currencies)
node_known setup n known high = go (nat_le 200 n) (nat_le 101 n) refl refl known
  where
    go : (a b : Bool) → nat_le 200 n ≡ a → nat_le 101 n ≡ b → is_actor setup (if a then Site (n - 200) else if b then Node (n - 101) else Client n) None ≡ true
        → (n < 200) × (n - 101 < length setup.currencies)
    go true b is at h = absurd (true≢false (sym h))
    go false true is at h = (grind (arith, nat_tests), grind (arith, nat_tests))
    go false false is at h = absurd (grind (arith, nat_tests))

pub client_known : (setup : Setup) (n : ℕ) → is_actor setup (id_of n) None ≡ true → n < 101 → n ≤ length setup.members
client_known setup n known low = go (nat_le 200 n) (nat_le 101 n) refl refl known
  where
    go : (a b : Bool) → nat_le 200 n ≡ a → nat_le 101 n ≡ b → is_actor setup (if a then Site (n - 200) else if b then Node (n - 101) else Client n) None ≡ true
        → n ≤ length setup.members
    go true b is at h = absurd (true≢false (sym h))
    go false true is at h = absurd (grind (arith, nat_tests))
    go false false is at h = grind (arith, nat_tests)

other_low : (setup : Setup) (n : ℕ) → is_actor setup (id_of n) None ≡ true → n < 200
other_low setup n known = go (nat_le 200 n) (nat_le 101 n) refl known
  where
    go : (a b : Bool) → nat_le 200 n ≡ a → is_actor setup (if a then Site (n - 200) else if b then Node (n - 101) else Client n) None ≡ true → n < 200
    go true b is h = absurd (true≢false (sym h))
    go false b is h = grind (arith, nat_tests)

-- WHICH OF THEM STANDS WHERE

module _ (setup : Setup) (members : length setup.members ≤ 64) (nodes : length setup.currencies ≤ 8) where
  abbrev first_site : ℕ
  first_site = length setup.members + length setup.currencies + 1

  -- sites stand behind all others, in their order
  site_place : (k : ℕ) → 200 ≤ actor_at setup k → (first_site ≤ k) × (actor_at setup k ≡ 200 + (k - first_site))
  site_place k high = go (nat_le k (length setup.members)) (nat_le k (length setup.members + length setup.currencies)) refl refl high
    where
      go : (a b : Bool) → nat_le k (length setup.members) ≡ a → nat_le k (length setup.members + length setup.currencies) ≡ b
          → 200 ≤ (if a then k else if b then 101 + (k - length setup.members - 1) else 200 + (k - length setup.members - length setup.currencies - 1))
          → (first_site ≤ k)
          × ((if a then k else if b then 101 + (k - length setup.members - 1) else 200 + (k - length setup.members - length setup.currencies - 1))
          ≡ 200 + (k - first_site))
      go true b is at h = absurd (grind (arith, members, nat_tests))
      go false true is at h = absurd (grind (arith, nodes, nat_tests))
      go false false is at h = (grind (arith, nat_tests), grind (arith, nat_tests))

  other_place : (k : ℕ) → actor_at setup k < 200 → k < first_site
  other_place k low = go (nat_le k (length setup.members)) (nat_le k (length setup.members + length setup.currencies)) refl refl low
    where
      go : (a b : Bool) → nat_le k (length setup.members) ≡ a → nat_le k (length setup.members + length setup.currencies) ≡ b
          → (if a then k else if b then 101 + (k - length setup.members - 1) else 200 + (k - length setup.members - length setup.currencies - 1)) < 200
          → k < first_site
      go true b is at h = grind (arith, nat_tests)
      go false true is at h = grind (arith, nat_tests)
      go false false is at h = absurd (grind (arith, nat_tests))

  -- numbers rise
  rises : (i j : ℕ) → i < j → actor_at setup i < actor_at setup j
  rises i j less =
      go (nat_le i (length setup.members)) (nat_le i (length setup.members + length setup.currencies)) (nat_le j (length setup.members))
      (nat_le j (length setup.members + length setup.currencies)) refl refl refl refl
    where
      go : (a b p q : Bool) → nat_le i (length setup.members) ≡ a → nat_le i (length setup.members + length setup.currencies) ≡ b
          → nat_le j (length setup.members) ≡ p → nat_le j (length setup.members + length setup.currencies) ≡ q
          → (if a then i else if b then 101 + (i - length setup.members - 1) else 200 + (i - length setup.members - length setup.currencies - 1))
          < (if p then j else if q then 101 + (j - length setup.members - 1) else 200 + (j - length setup.members - length setup.currencies - 1))
      go true b true q e f g h = less
      go true b false true e f g h = grind (arith, members, nat_tests)
      go true b false false e f g h = grind (arith, members, nat_tests)
      go false b true q e f g h = absurd (grind (arith, less, nat_tests))
      go false true false true e f g h = grind (arith, less, nat_tests)
      go false true false false e f g h = grind (arith, nodes, nat_tests)
      go false false false true e f g h = absurd (grind (arith, less, nat_tests))
      go false false false false e f g h = grind (arith, less, nat_tests)

  -- WHAT THESE ACTORS LEFT

  left_at : (closed : List Left) (histories : List History) → AreLeftBy closed histories → (k : ℕ) (c : Left) → slice_get closed k ≡ Some c
      → (h : History) × (slice_get histories k ≡ Some h) × IsLeftBy c h
  left_at [] [] left k c is = cc
  left_at [] (h ∷ others) left k c is = absurd left
  left_at (d ∷ more) [] left k c is = absurd left
  left_at (d ∷ more) (h ∷ others) left zero c is = (h, refl, subst (λ (e : Left). IsLeftBy e h) (same d c is) left.0)
    where
      same : (a b : Left) → Some a ≡ Some b → a ≡ b
      same a b e = cc
  left_at (d ∷ more) (h ∷ others) left (suc k) c is = left_at more others left.1 k c is

  as_many : (closed : List Left) (histories : List History) → AreLeftBy closed histories → length closed ≡ length histories
  as_many [] [] left = refl
  as_many [] (h ∷ others) left = absurd left
  as_many (d ∷ more) [] left = absurd left
  as_many (d ∷ more) (h ∷ others) left = ap suc (as_many more others left.1)

  there_is : {X : Type 0} (xs : List X) (i : ℕ) → i < length xs → (x : X) × (slice_get xs i ≡ Some x)
  there_is [] i low = absurd (omega arith)
  there_is (x ∷ xs) zero low = (x, refl)
  there_is (x ∷ xs) (suc i) low = there_is xs i (omega arith)

  module _ (histories : List History) (of : AreOfTheBank setup histories) (closed : List Left) (left : AreLeftBy closed histories) where
    number_is : (k : ℕ) (c : Left) → slice_get closed k ≡ Some c → c.number ≡ actor_at setup k
    number_is k c is = let l = left_at closed histories left k c is in l.2.number ∙ (of.each k l.0 l.1).actor

    known : (k : ℕ) (c : Left) → slice_get closed k ≡ Some c → is_actor setup (id_of c.number) c.opening ≡ true
    known k c is =
        let l = left_at closed histories left k c is in
        ap (λ (n : ℕ). is_actor setup (id_of n) c.opening) l.2.number ∙ ap (λ (o : Option Boot). is_actor setup (id_of l.0.actor) o) l.2.opening
        ∙ (of.each k l.0 l.1).opening

    in_order : AreInOrder closed
    in_order i j less within =
        let c = there_is closed i (omega (arith, less, within)) in
        let d = there_is closed j within in
        let low = rises i j less in
        let a = ap number_in c.1 ∙ number_is i c.0 c.1 in
        let b = ap number_in d.1 ∙ number_is j d.0 d.1 in
        omega (arith, low, a, b)

    -- a site stands behind all others, and what opened over nothing before all sites
    site_at : (k : ℕ) (c : Left) (boot : Boot) → slice_get closed k ≡ Some c → c.opening ≡ Some boot → (first_site ≤ k) × (c.number ≡ 200 + (k - first_site))
    site_at k c boot is opening =
        let high = site_known setup c.number boot (ap (λ (o : Option Boot). is_actor setup (id_of c.number) o) (sym opening) ∙ known k c is) in
        let p = site_place k (subst (λ (n : ℕ). 200 ≤ n) (number_is k c is) high.0) in
        (p.0, number_is k c is ∙ p.1)

    other_at : (k : ℕ) (c : Left) → slice_get closed k ≡ Some c → c.opening ≡ None → k < first_site
    other_at k c is opening =
        let low = other_low setup c.number (ap (λ (o : Option Boot). is_actor setup (id_of c.number) o) (sym opening) ∙ known k c is) in
        other_place k (subst (λ (n : ℕ). n < 200) (number_is k c is) low)

    -- so many sites are among the first actors
    counted : (n : ℕ) → n ≤ length closed → length (openings (take n closed)) ≡ n - first_site
    counted zero low = nothing closed ∙ omega arith
      where
        nothing : (xs : List Left) → length (openings (take 0 xs)) ≡ 0
        nothing [] = refl
        nothing (x ∷ xs) = refl
    counted (suc n) low = go (counted n (omega (arith, low))) c.0.opening refl
      where
        c : (x : Left) × (slice_get closed n ≡ Some x)
        c = there_is closed n (omega (arith, low))

        one : n + 1 ≡ suc n
        one = omega arith

        go : length (openings (take n closed)) ≡ n - first_site → (o : Option Boot) → c.0.opening ≡ o
            → length (openings (take (suc n) closed)) ≡ suc n - first_site
        go before None e =
            let off = other_at n c.0 c.1 e in
            ap (λ (m : ℕ). length (openings (take m closed))) (sym one) ∙ counted_same closed n c.0 c.1 e ∙ before ∙ omega (arith, off)
        go before (Some boot) e =
            let at = site_at n c.0 boot c.1 e in
            let high = at.0 in
            ap (λ (m : ℕ). length (openings (take m closed))) (sym one) ∙ counted_next closed n c.0 boot c.1 e
            ∙ ap (λ (m : ℕ). m + 1) before ∙ omega (arith, high)

    has_sites : HasItsSites setup closed
    has_sites = record {
      all =
          let n = counted (length closed) (omega arith) in
          let all = as_many closed histories left ∙ of.all in
          ap (λ (l : List Left). length (openings l)) (sym (take_all (length closed) closed (omega arith))) ∙ n ∙ omega (arith, all);
      numbered = λ k c boot is opening. (
          let within = slice_get_within closed k c is in
          let n = counted k (omega (arith, within)) in
          (site_at k c boot is opening).1 ∙ ap (λ (m : ℕ). 200 + m) (sym n));
    }

    is_the_bank : AreOfBank setup closed → IsTheBank setup closed
    is_the_bank bank = record { all = as_many closed histories left ∙ of.all; order = in_order; bank = bank; sites = has_sites }

-- WHAT THE BANK'S ACTORS LEFT THAT HAVE ITS HISTORIES IS THE BANK'S
pub seated : (setup : Setup) → IsValid setup → (histories : List History) → AreOfTheBank setup histories → (closed : List Left) → AreLeftBy closed histories
    → AreOfBank setup closed → IsTheBank setup closed
seated setup valid = is_the_bank setup (valid-members setup valid).1 (valid-currencies setup valid).1
