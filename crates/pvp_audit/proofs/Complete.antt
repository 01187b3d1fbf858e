-- The journals of one bank, of each actor one, have the histories of its actors; and so have their fronts.
use Rattle.std.proofs.Common.{◌≡◌, ℕ, zero, suc, ◌+◌, ◌-◌, ◌*◌, ◌<◌, ◌≤◌, ◌==◌, Bool, true, false, not, nat_le, if◌then◌else◌, All, List, [], ◌∷◌, ◌++◌, length, map, take, get_or, slice_get, Option, Some, None, IsPermutation, refl, sym, ap, subst, ◌∙◌, arith, inl, inr, length-append, true≢false}
use Rattle.std.specs.List.{list_any, range_with_len}
use Rattle.std.proofs.lemmas.Bool.{cases_lt, or_cases}
use Rattle.std.proofs.lemmas.Bool.Decides.{nat_tests}
use Rattle.std.proofs.lemmas.List.{length-map, get_or-map, get_or_append_left, get_or-append_right}
use Rattle.std.proofs.lemmas.List.FromFn.{length-range_with_len, get_or-range_with_len}
use Rattle.std.proofs.lemmas.List.Elements.{All-map}
use Rattle.std.proofs.lemmas.List.Sorted.{IsPermutation-map, All-permutation, list_any-IsPermutation}
use Rattle.std.proofs.lemmas.Option.{same_Some, slice_get_within, slice_get-get_or, get_or_from_slice_get}
use Rattle.std.specs.Str.{bytes_eq}
use Rattle.pvp_types.specs.declared.setup.Setup.{Setup}
use Rattle.pvp_types.specs.Setup.{IsValid, faults}
use Rattle.pvp_types.proofs.SetupLemmas.{valid-members, valid-currencies}
use Rattle.vr_types.specs.Actors.{id_of}
use Rattle.vr_types.specs.declared.actors.TheConstants.{FIRST_NODE, FIRST_SITE}
use Rattle.vr_types.specs.declared.cell.Boot.{Boot}
use Rattle.pvp_journal.specs.declared.head.Head.{Head}
use Rattle.pvp_journal.specs.declared.journal.Journal.{Journal as Kept}
use Rattle.pvp_audit.specs.Banked.{actor_count}
use Rattle.pvp_audit.specs.declared.history.History.{History}
use Rattle.pvp_journal.specs.declared.fault.EvidenceWhy.TheVariants as why
use Rattle.pvp_audit.specs.Actors.{actor_at, AreOfTheBank}
use Rattle.pvp_audit.specs.Cut.{AreFronts, IsFront}
use Rattle.pvp_audit.specs.Gathered.{AreOneBank, actors_of, has_actor, has_other_bank, history_of, is_actor, wrong_with}
use Rattle.pvp_audit.proofs.Once.{AreNew, any_map, ordered_rise}
use Rattle.pvp_audit.proofs.Rising.{RisesFrom, has, has_cases, has_left, has_right, none_found, range_below, range_has, range_rises, rises_append, same_rising}
use Rattle.pvp_audit.proofs.Seating.{site_known, node_known, client_known}

-- ---- the actors of a bank, in order

module _ (setup : Setup) (members : length setup.members ≤ 64) (nodes : length setup.currencies ≤ 8) where
  abbrev clients_of : List ℕ
  clients_of = range_with_len 0 (length setup.members + 1)

  abbrev nodes_of : List ℕ
  nodes_of = range_with_len FIRST_NODE (length setup.currencies)

  abbrev sites_of : List ℕ
  sites_of = range_with_len FIRST_SITE (2 * faults setup + 1)

  -- their numbers rise
  actors_rise : RisesFrom 0 (actors_of setup)
  actors_rise =
      let low : RisesFrom 0 (clients_of ++ nodes_of) = rises_append 0 101 clients_of nodes_of (range_rises 0 (length setup.members + 1))
      (λ n found. let less = range_below 0 (length setup.members + 1) n found in
      omega (arith, less, members)) (omega arith) (range_rises 101 (length setup.currencies)) in
      rises_append 0 200 (clients_of ++ nodes_of) sites_of low
      (λ n found. elim (has_cases n clients_of nodes_of found) [
        | inl e ↦ let less = range_below 0 (length setup.members + 1) n e in omega (arith, less, members)
        | inr e ↦ let less = range_below 101 (length setup.currencies) n e in omega (arith, less, nodes)
      ]) (omega arith) (range_rises 200 (2 * faults setup + 1))

  -- there are so many
  actors_counted : length (actors_of setup) ≡ actor_count setup
  actors_counted =
      let a = length-range_with_len 0 (length setup.members + 1) in
      let b = length-range_with_len 101 (length setup.currencies) in
      let c = length-range_with_len 200 (2 * faults setup + 1) in
      omega (arith, length-append (clients_of ++ nodes_of) sites_of, length-append clients_of nodes_of, a, b, c)

  -- and each stands at its place
  actor_there : (k : ℕ) → k < actor_count setup → get_or (actors_of setup) k 0 ≡ actor_at setup k
  actor_there k low = go (nat_le k (length setup.members)) (nat_le k (length setup.members + length setup.currencies)) refl refl
    where
      first : length clients_of ≡ length setup.members + 1
      first = length-range_with_len 0 (length setup.members + 1)

      second : length (clients_of ++ nodes_of) ≡ length setup.members + 1 + length setup.currencies
      second = let b = length-range_with_len 101 (length setup.currencies) in omega (arith, length-append clients_of nodes_of, first, b)

      go : (a b : Bool) → nat_le k (length setup.members) ≡ a → nat_le k (length setup.members + length setup.currencies) ≡ b
          → get_or (actors_of setup) k 0 ≡ (if a then k else if b then 101 + (k - length setup.members - 1)
          else 200 + (k - length setup.members - length setup.currencies - 1))
      go true b is at =
          let here : k ≤ length setup.members = grind (arith, nat_tests) in
          get_or_append_left (clients_of ++ nodes_of) sites_of 0 k (omega (arith, here, second))
          ∙ get_or_append_left clients_of nodes_of 0 k (omega (arith, here, first))
          ∙ get_or-range_with_len 0 (length setup.members + 1) k 0 (omega (arith, here)) ∙ omega arith
      go false true is at =
          let over : length setup.members < k = grind (arith, nat_tests) in
          let here : k ≤ length setup.members + length setup.currencies = grind (arith, nat_tests) in
          get_or_append_left (clients_of ++ nodes_of) sites_of 0 k (omega (arith, here, second))
          ∙ get_or-append_right clients_of nodes_of (length setup.members + 1) k 0 first (omega (arith, over))
          ∙ get_or-range_with_len 101 (length setup.currencies) (k - (length setup.members + 1)) 0 (omega (arith, here, over)) ∙ omega (arith, over)
      go false false is at =
          let over : length setup.members + length setup.currencies < k = grind (arith, nat_tests) in
          get_or-append_right (clients_of ++ nodes_of) sites_of (length setup.members + 1 + length setup.currencies) k 0 second (omega (arith, over))
          ∙ get_or-range_with_len 200 (2 * faults setup + 1) (k - (length setup.members + 1 + length setup.currencies)) 0
          (omega (arith, low, over)) ∙ omega (arith, over)

  -- what may open as an actor of the bank is one of them
  known_has : (n : ℕ) (opening : Option Boot) → is_actor setup (id_of n) opening ≡ true → has n (actors_of setup) ≡ true
  known_has n (Some boot) known =
      let at = site_known setup n boot known in
      let from = at.0 in
      let to = at.1 in
      has_right n (clients_of ++ nodes_of) sites_of (range_has 200 (2 * faults setup + 1) n from (omega (arith, from, to)))
  known_has n None known = has_left n (clients_of ++ nodes_of) sites_of (elim (cases_lt n 101) [
    | inl less ↦ let to = client_known setup n known less in
        has_left n clients_of nodes_of (range_has 0 (length setup.members + 1) n (omega arith) (omega (arith, to)))
    | inr le ↦ let to = (node_known setup n known le).1 in
        has_right n clients_of nodes_of (range_has 101 (length setup.currencies) n le (omega (arith, le, to)))
  ])

-- ---- what journals are of which nothing is wrong

right_parts : (a b c d : Bool)
    → (if not a then Some why.Setup else if b then Some why.Life else if not c then Some why.Stranger else if d then Some why.Twice else None) ≡ None
    → (c ≡ true) × (d ≡ false)
right_parts false b c d e = absurd (cc)
right_parts true true c d e = absurd (cc)
right_parts true false false d e = absurd (cc)
right_parts true false true true e = absurd (cc)
right_parts true false true false e = (refl, refl)

-- it is an actor's of the bank, of whom there is none before it
right_actor : (setup : Setup) (mark : List ℕ) (before : List Kept) (head : Head) → wrong_with setup mark before head ≡ None
    → (is_actor setup (id_of head.actor) head.opening ≡ true) × (has_actor before head.actor ≡ false)
right_actor setup mark before head right =
    right_parts (bytes_eq (take 16 head.bank) mark) (has_other_bank before head.bank) (is_actor setup (id_of head.actor) head.opening)
    (has_actor before head.actor) right

-- what passes a test stands somewhere
found_at : {X : Type 0} (called : X → ℕ) (n : ℕ) (xs : List X) → list_any (λ x. called x == n) xs ≡ true
    → (k : ℕ) × (x : X) × (slice_get xs k ≡ Some x) × (called x ≡ n)
found_at called n [] found = absurd (true≢false (sym found))
found_at called n (x ∷ xs) found = elim (or_cases (called x == n) (list_any (λ y. called y == n) xs) found) [
  | inl e ↦ (0, x, refl, grind (arith, nat_tests))
  | inr e ↦ let later = found_at called n xs e in (suc later.0, later.1, later.2, later.3)
]

numbers_kept : (journals : List Kept) → map (λ (h : History). h.actor) (map history_of journals) ≡ map (λ (j : Kept). j.head.actor) journals
numbers_kept [] = refl
numbers_kept (j ∷ journals) = ap (λ (l : List ℕ). j.head.actor ∷ l) (numbers_kept journals)

module _ (setup : Setup) (valid : IsValid setup) (mark : List ℕ) (journals : List Kept) (histories : List History)
    (one : AreOneBank setup mark journals histories) where
  abbrev number : Kept → ℕ
  number journal = journal.head.actor

  abbrev called : History → ℕ
  called history = history.actor

  abbrev Knows : History → Type 0
  Knows history = is_actor setup (id_of history.actor) history.opening ≡ true

  new : AreNew number journals
  new k journal there = (right_actor setup mark (take k journals) journal.head (one.right k journal there)).1

  same_numbers : IsPermutation (map number journals) (map called histories)
  same_numbers = subst (λ (l : List ℕ). IsPermutation l (map called histories)) (numbers_kept journals)
      (IsPermutation-map called (map history_of journals) histories one.same)

  -- each opened as an actor of the bank may
  opened_so : (k : ℕ) (history : History) → slice_get histories k ≡ Some history → is_actor setup (id_of history.actor) history.opening ≡ true
  opened_so k history there =
      subst Knows (get_or_from_slice_get histories k history history there) (all k history (slice_get_within histories k history there))
    where
      all : All Knows histories
      all = All-permutation Knows (map history_of journals) histories one.same (All-map Knows history_of journals (λ at d low.
          (right_actor setup mark (take at journals) (get_or journals at d).head (one.right at (get_or journals at d) (slice_get-get_or journals at d low))).0))

  -- and so is one of them
  are_actors : (n : ℕ) → has n (map called histories) ≡ true → has n (actors_of setup) ≡ true
  are_actors n found =
      let at = found_at called n histories (any_map called n histories ∙ found) in
      subst (λ (m : ℕ). has m (actors_of setup) ≡ true) at.3
      (known_has setup (valid-members setup valid).1 (valid-currencies setup valid).1 at.1.actor at.1.opening (opened_so at.0 at.1 at.2))

  -- none of them is missing
  are_there : (n : ℕ) → has n (actors_of setup) ≡ true → has n (map called histories) ≡ true
  are_there n found =
      sym (list_any-IsPermutation (λ (m : ℕ). m == n) (map number journals) (map called histories) same_numbers) ∙ sym (any_map number n journals)
      ∙ is_there (has_actor journals n) (none_found (λ actor. not (has_actor journals actor)) (actors_of setup) n one.all found)
    where
      is_there : (b : Bool) → not b ≡ false → b ≡ true
      is_there true e = refl
      is_there false e = sym e

  numbers_are : map called histories ≡ actors_of setup
  numbers_are =
      same_rising 0 (map called histories) (actors_of setup) (ordered_rise number called journals histories new same_numbers one.order)
      (actors_rise setup (valid-members setup valid).1 (valid-currencies setup valid).1) are_actors are_there

  as_many_as_actors : length histories ≡ actor_count setup
  as_many_as_actors =
      sym (length-map histories called) ∙ ap length numbers_are ∙ actors_counted setup (valid-members setup valid).1 (valid-currencies setup valid).1

  of_its_place : (k : ℕ) (history : History) → slice_get histories k ≡ Some history → history.actor ≡ actor_at setup k
  of_its_place k history there =
      let low = slice_get_within histories k history there in
      sym (get_or-map called histories k history 0 low ∙ ap called (get_or_from_slice_get histories k history history there))
      ∙ ap (λ (l : List ℕ). get_or l k 0) numbers_are
      ∙ actor_there setup (valid-members setup valid).1 (valid-currencies setup valid).1 k (omega (arith, low, as_many_as_actors))

-- THE HISTORIES OF ALL JOURNALS OF ONE BANK ARE THOSE OF ITS ACTORS
pub complete : (setup : Setup) → IsValid setup → (mark : List ℕ) (journals : List Kept) (histories : List History)
    → AreOneBank setup mark journals histories → AreOfTheBank setup histories
complete setup valid mark journals histories one = record {
  all = as_many_as_actors setup valid mark journals histories one;
  each = λ k history there. record {
    actor = of_its_place setup valid mark journals histories one k history there;
    opening = opened_so setup valid mark journals histories one k history there;
  };
}

-- ---- and their fronts

as_many : (fronts wholes : List History) → AreFronts fronts wholes → length fronts ≡ length wholes
as_many [] [] are = refl
as_many [] (w ∷ wholes) are = absurd are
as_many (f ∷ fronts) [] are = absurd are
as_many (f ∷ fronts) (w ∷ wholes) are = ap suc (as_many fronts wholes are.1)

whole_at : (fronts wholes : List History) → AreFronts fronts wholes → (k : ℕ) (front : History) → slice_get fronts k ≡ Some front
    → (whole : History) × (slice_get wholes k ≡ Some whole) × IsFront front whole
whole_at [] [] are k front there = cc
whole_at [] (w ∷ wholes) are k front there = absurd are
whole_at (f ∷ fronts) [] are k front there = absurd are
whole_at (f ∷ fronts) (w ∷ wholes) are zero front there = (w, refl, subst (λ (g : History). IsFront g w) (same_Some f front there) are.0)
whole_at (f ∷ fronts) (w ∷ wholes) are (suc k) front there = whole_at fronts wholes are.1 k front there

-- FRONTS OF THE HISTORIES OF A BANK'S ACTORS ARE SUCH THEMSELVES
pub fronts_complete : (setup : Setup) (fronts wholes : List History) → AreFronts fronts wholes → AreOfTheBank setup wholes → AreOfTheBank setup fronts
fronts_complete setup fronts wholes are of = record {
  all = as_many fronts wholes are ∙ of.all;
  each = λ k front there. (
      let w = whole_at fronts wholes are k front there in
      let place = of.each k w.0 w.1 in
      record {
        actor = w.2.actor ∙ place.actor;
        opening = ap (λ (n : ℕ). is_actor setup (id_of n) front.opening) w.2.actor
            ∙ ap (λ (o : Option Boot). is_actor setup (id_of w.0.actor) o) w.2.opening ∙ place.opening;
      });
}
