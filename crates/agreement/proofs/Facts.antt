-- What is known of the sites of a world that is reached; and what is sent to all comes to each.
use Rattle.std.proofs.Common.{◌≡◌, ◌≢◌, ◌⊎◌, inl, inr, ℕ, ◌+◌, ◌*◌, ◌<◌, ◌≤◌, Bool, true, false, not, ◌&&◌, ◌==◌, nat_le, cond, List, [], ◌∷◌, length, map, refl, sym, ap, ◌∙◌, subst, arith, true≢false, zero, suc, get_or, slice_get}
use Rattle.std.specs.Prelude.{Contains}
use Rattle.std.specs.List.{filter}
use Rattle.std.proofs.lemmas.Bool.Decides.{nat_tests}
use Rattle.vr_types.specs.declared.message.MsgOf.{MsgOf}
use Rattle.vr_types.specs.declared.message.MsgOf.TheVariants.{Recovery}
use Rattle.vr_types.specs.Group.{sites, others, actor_of, site_of, is_other_site, is_of_all, may_send, is_mine, mail, to_all}
use Rattle.vr_types.specs.Site.{Site, boot_of, is_down, is_running}
use Rattle.vr_types.proofs.ChoosingPick.{Contains-cases, Contains-none, Contains-here, Contains-there}
use Rattle.std.specs.Option.{option_map_or}
use Rattle.agreement.specs.Worlds.{World}
use Rattle.agreement.specs.Progress.{runs_at}
use Rattle.agreement.proofs.Counts.{has_site}
use Rattle.agreement.proofs.Votes.{WasBoot, never, asked, HasAsked}
use Rattle.agreement.proofs.Reached.{nobody, site_at, IsReached, first}
use Rattle.agreement.proofs.Tests.{eq_of, eq_test}

-- what passes a test stays
pub filter_keeps : {A : Type 0} (test : A → Bool) (xs : List A) (x : A) → Contains xs x → test x ≡ true → Contains (filter test xs) x
filter_keeps test [] x in' passes = absurd (Contains-none x in')
filter_keeps {A} test (y ∷ xs) x in' passes = by_place (test y) refl (Contains-cases y x xs in') (λ there. filter_keeps test xs x there passes)
  where
    by_place : (b : Bool) → test y ≡ b → (y ≡ x) ⊎ Contains xs x → (Contains xs x → Contains (filter test xs) x)
        → Contains (cond b (y ∷ filter test xs) (filter test xs)) x
    by_place true e (inl same) rest = subst (λ (z : A). Contains (y ∷ filter test xs) z) same (Contains-here y (filter test xs))
    by_place true e (inr there) rest = Contains-there y x (filter test xs) (rest there)
    by_place false e (inl same) rest = absurd (true≢false (sym (ap test same ∙ passes) ∙ e))
    by_place false e (inr there) rest = rest there

pub map_keeps : {A B : Type 0} (h : A → B) (xs : List A) (x : A) → Contains xs x → Contains (map h xs) (h x)
map_keeps h [] x in' = absurd (Contains-none x in')
map_keeps {A} {B} h (y ∷ xs) x in' = by_place (Contains-cases y x xs in') (map_keeps h xs x)
  where
    by_place : (y ≡ x) ⊎ Contains xs x → (Contains xs x → Contains (map h xs) (h x)) → Contains (h y ∷ map h xs) (h x)
    by_place (inl same) rest = subst (λ (z : A). Contains (h y ∷ map h xs) (h z)) same (Contains-here (h y) (map h xs))
    by_place (inr there) rest = Contains-there (h y) (h x) (map h xs) (rest there)

pub not_equal : (a b : ℕ) → a ≢ b → not (a == b) ≡ true
not_equal a b apart = by_test (a == b) refl
  where
    by_test : (t : Bool) → (a == b) ≡ t → not t ≡ true
    by_test true e = absurd (apart (eq_of a b e))
    by_test false e = refl

-- a message to all is sent to each other site
pub told_each : {C R O : Type 0} (f me j : ℕ) (msg : MsgOf C R O) → j < 2 * f + 1 → j ≢ me → Contains (to_all f me msg) (mail me j msg)
told_each {C} {R} {O} f me j msg small apart =
    map_keeps (λ k. mail me k msg) (others f me) j (filter_keeps (λ k. not (k == me)) (sites f) j (has_site f j small) (not_equal j me apart))

le_test : (a b : ℕ) → a ≤ b → nat_le a b ≡ true
le_test a b h = grind (arith, nat_tests, h)

both_true : (a b : Bool) → a ≡ true → b ≡ true → (a && b) ≡ true
both_true true b e h = h
both_true false b e h = absurd (true≢false (sym e))

-- another site of the group
pub another : (f me j : ℕ) → j < 2 * f + 1 → j ≢ me → is_other_site f me (actor_of j) ≡ true
another f me j small apart =
    both_true _ _ (le_test (actor_of 0) (actor_of j) (omega arith))
    (both_true _ _ (le_test (actor_of j) (actor_of (2 * f)) (omega arith)) (not_equal (actor_of j) (actor_of me) (λ e. apart (omega arith))))

pub of_all_sites : (f : ℕ) (known : List ℕ) → length known ≡ 2 * f + 1 → is_of_all f known ≡ true
of_all_sites f known e = eq_test (length known) (2 * f + 1) e

-- a message that it may send is this site's
pub mine : {C R O : Type 0} (f me j : ℕ) (msg : MsgOf C R O) → may_send f me (actor_of j) msg ≡ true → is_mine f me (mail j me msg) ≡ true
mine f me j msg may = both_true (actor_of me == actor_of me) _ (eq_test _ _ refl) may

pub site_back : (j : ℕ) → site_of (actor_of j) ≡ j
site_back j = omega arith

pub le_is : (a b : ℕ) → a ≤ b → nat_le a b ≡ true
le_is a b h = le_test a b h

pub both_are : (a b : Bool) → a ≡ true → b ≡ true → (a && b) ≡ true
both_are a b e h = both_true a b e h

module _ {C R O : Type 0} (f : ℕ) (w : World C R O) (is : IsReached f first w) where
  -- nobody knows of a later boot of a site than its own
  pub known_most : (i k : ℕ) → boot_of (site_at w i).known k ≤ (site_at w k).cell.boots
  known_most i k = by_boot _ ((is.holds.holds.sites i).hears.heard k)
    where
      by_boot : (n : ℕ) → WasBoot is.history k n → n ≤ (site_at w k).cell.boots
      by_boot n (never e) = omega arith
      by_boot n (asked to in') = let h : HasAsked (site_at w k) n = is.holds.holds.said k to (Recovery (record { nonce = n })) in' in h

  -- and a site that is not down knows its own
  pub known_own : (i : ℕ) → is_down (site_at w i).status ≡ false → boot_of (site_at w i).known i ≡ (site_at w i).cell.boots
  known_own i up = (is.holds.holds.sites i).hears.own up

  pub size_is : length w.sites ≡ 2 * f + 1
  size_is = is.holds.size

-- whether a site runs
pub runs_in : {C : Type 0} (xs : List (Site C)) (i : ℕ)
    → option_map_or (λ (x : Site C). is_running x.status) (slice_get xs i) false ≡ is_running (get_or xs i nobody).status
runs_in [] i = refl
runs_in (x ∷ xs) zero = refl
runs_in (x ∷ xs) (suc i) = runs_in xs i

pub runs_same : {C R O : Type 0} (w : World C R O) (i : ℕ) → runs_at w.sites i ≡ is_running (site_at w i).status
runs_same w i = runs_in w.sites i

-- a site that runs is in the list
pub running_in : {C : Type 0} (xs : List (Site C)) (i : ℕ) → is_running (get_or xs i nobody).status ≡ true → Contains xs (get_or xs i nobody)
running_in [] i e = absurd (true≢false (sym e))
running_in (x ∷ xs) zero e = Contains-here x xs
running_in (x ∷ xs) (suc i) e = Contains-there x (get_or xs i nobody) xs (running_in xs i e)

pub running_small : {C : Type 0} (xs : List (Site C)) (i : ℕ) → is_running (get_or xs i nobody).status ≡ true → i < length xs
running_small [] i e = absurd (true≢false (sym e))
running_small (x ∷ xs) zero e = omega arith
running_small (x ∷ xs) (suc i) e = let h = running_small xs i e in omega arith
