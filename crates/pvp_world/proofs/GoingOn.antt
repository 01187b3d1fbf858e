-- What a world shows of its sites, nodes and clients tells whether its bank has what it needs to go on.
use Rattle.std.proofs.Common.{◌≡◌, ◌↔◌, ℕ, zero, suc, ◌+◌, ◌-◌, ◌*◌, ◌<◌, ◌≤◌, Bool, true, false, ◌&&◌, nat_lt, nat_le, cond, List, [], ◌∷◌, length, get_or, take, slice_get, Some, count_by, min, refl, sym, ap, ◌∙◌, subst, arith, true≢false}
use Rattle.std.specs.Prelude.{if◌then◌else◌, Contains, IsTrue, is_some, sum_by}
use Rattle.std.specs.List.{list_all, range_with_len}
use Rattle.std.proofs.lemmas.Bool.{and_parts}
use Rattle.std.proofs.lemmas.Bool.Decides.{nat_tests}
use Rattle.std.proofs.lemmas.List.{length-take}
use Rattle.std.proofs.lemmas.Option.{slice_get_within}
use Rattle.std.proofs.lemmas.List.Sums.{sum_by-cons, sum_by_more}
use Rattle.pvp_types.specs.declared.setup.Setup.{Setup}
use Rattle.pvp_types.specs.declared.command.Cmd.{Cmd}
use Rattle.pvp_types.specs.Setup.{faults}
use Rattle.pvp_types.proofs.SetupLemmas.{valid-members, valid-sites}
use Rattle.vr_types.specs.declared.cell.Boot.{Boot}
use Rattle.vr_types.specs.declared.limits.TheConstants.{MAX_ROWS}
use Rattle.vr_types.specs.Cell.{max_number}
use Rattle.vr_types.specs.Group.{sites}
use Rattle.vr_types.specs.Handling.{machine_of}
use Rattle.vr_types.specs.Site.{Site, is_running, executed_rows}
use Rattle.vr_site.specs.Replica.{ShownSite, site_shown}
use Rattle.pvp_book.specs.Answer.{Row, book_of}
use Rattle.pvp_book.specs.Ledger.{Ledger, opening, outstanding_from, outstanding_orders}
use Rattle.rtgs_node.specs.Node.{Node}
use Rattle.rtgs_node.specs.Shown.{ShownNode}
use Rattle.agreement.specs.Progress.{runs_at}
use Rattle.agreement.proofs.Onward as alone
use Rattle.headline.specs.Bank.{Bank}
use Rattle.headline.specs.Client.{Client}
use Rattle.headline.specs.Machine.{book}
use Rattle.headline.specs.Legal.{LegalList}
use Rattle.headline.specs.Progress as progress
use Rattle.headline.proofs.Basics.{none-some, some-same, there, place_of}
use Rattle.headline.proofs.Books.{held-is, held-setup}
use Rattle.headline.proofs.Reached.{legal-holds}
use Rattle.pvp_world.specs.Client.{ShownClient}
use Rattle.pvp_world.specs.World.{ShownWorld, ShowsBank, IsAt}
use Rattle.pvp_world.specs.Progress.{CanGoOn, GoesOn, running_count, unanswered_count, waiting_count, executed_in, may_be_open, still_asked, has_room, can_go_on}
use Rattle.pvp_world.proofs.Proved.{shows_there}

-- LISTS OF WHICH EACH IS SO OF THE ONE IN ITS PLACE

each_sum : {A B : Type 0} (f : A → ℕ) (g : B → ℕ) (xs : List A) (ys : List B) → length xs ≡ length ys
    → ((i : ℕ) (x : A) (y : B) → slice_get xs i ≡ Some x → slice_get ys i ≡ Some y → f x ≡ g y) → sum_by f xs ≡ sum_by g ys
each_sum f g [] [] e same = refl
each_sum f g [] (y ∷ ys) e same = absurd (omega arith)
each_sum f g (x ∷ xs) [] e same = absurd (omega arith)
each_sum f g (x ∷ xs) (y ∷ ys) e same =
    let a = same 0 x y refl refl in
    let b = each_sum f g xs ys (omega arith) (λ i. same (suc i)) in
    let c = sum_by-cons f x xs in
    let d = sum_by-cons g y ys in
    omega arith

each_count : {A B : Type 0} (p : A → Bool) (q : B → Bool) (xs : List A) (ys : List B) → length xs ≡ length ys
    → ((i : ℕ) (x : A) (y : B) → slice_get xs i ≡ Some x → slice_get ys i ≡ Some y → p x ≡ q y) → count_by p xs ≡ count_by q ys
each_count p q xs ys e same =
    each_sum (λ x. cond (p x) 1 0) (λ y. cond (q y) 1 0) xs ys e (λ i x y at at'. ap (λ (t : Bool). cond {A = ℕ} t 1 0) (same i x y at at'))

has_place : {A : Type 0} (xs : List A) (i : ℕ) → i < length xs → (x : A) × (slice_get xs i ≡ Some x)
has_place [] i low = absurd (omega arith)
has_place (x ∷ xs) zero low = (x, refl)
has_place (x ∷ xs) (suc i) low = has_place xs i (omega arith)

all_at : {A : Type 0} (p : A → Bool) (xs : List A) (i : ℕ) (x : A) → list_all p xs ≡ true → slice_get xs i ≡ Some x → p x ≡ true
all_at p [] i x all at = absurd (none-some x at)
all_at {A} p (y ∷ ys) zero x all at = subst (λ (z : A). p z ≡ true) (some-same y x at) (and_parts (p y) (list_all p ys) all).0
all_at p (y ∷ ys) (suc i) x all at = all_at p ys i x (and_parts (p y) (list_all p ys) all).1 at

both : (a b : Bool) → a ≡ true → b ≡ true → (a && b) ≡ true
both true b e h = h
both false b e h = absurd (true≢false (sym e))

all_of : {A : Type 0} (p : A → Bool) (xs : List A) → ((i : ℕ) (x : A) → slice_get xs i ≡ Some x → p x ≡ true) → list_all p xs ≡ true
all_of p [] each = refl
all_of p (x ∷ xs) each = both (p x) (list_all p xs) (each 0 x refl) (all_of p xs (λ i. each (suc i)))

-- HOW MANY NOTICES ARE NOT ANSWERED

abbrev pub open_at : ShownNode → ℕ
open_at shown = length shown.node.notices - shown.node.answered

cut_later : (a n most : ℕ) → min (min a most + n) most ≡ min (a + n) most
cut_later a n most = omega arith

-- a sum that is cut at a greatest one, and one node more
pub one_more : (xs : List ShownNode) (i : ℕ) (x : ShownNode) (sum n most : ℕ) → i < length xs → x ≡ get_or xs i x → n ≡ open_at x
    → sum ≡ min (sum_by open_at (take i xs)) most → min (sum + n) most ≡ min (sum_by open_at (take (i + 1) xs)) most
one_more xs i x sum n most low is count so_far =
    let more = sum_by_more open_at xs i x low in
    let here : n ≡ open_at (get_or xs i x) = count ∙ ap open_at is in
    ap (λ (k : ℕ). min (k + n) most) so_far ∙ (cut_later (sum_by open_at (take i xs)) n most ∙ ap (λ (k : ℕ). min k most) (omega (arith, more, here)))

-- HOW MANY SITES RUN

counted : (p : ℕ → Bool) (x : ℕ) (xs : List ℕ) → count_by p (x ∷ xs) ≡ cond (p x) 1 0 + count_by p xs
counted p x xs = sum_by-cons (λ y. cond (p y) 1 0) x xs

one_later : (q : ℕ → Bool) (a n : ℕ) → count_by q (range_with_len (a + 1) n) ≡ count_by (λ i. q (suc i)) (range_with_len a n)
one_later q a zero = refl
one_later q a (suc n) =
    let c : count_by q (range_with_len (a + 1) (suc n)) ≡ cond (q (a + 1)) 1 0 + count_by q (range_with_len (a + 1 + 1) n) =
    counted q (a + 1) (range_with_len (a + 1 + 1) n) in
    let d : count_by (λ i. q (suc i)) (range_with_len a (suc n)) ≡ cond (q (suc a)) 1 0 + count_by (λ i. q (suc i)) (range_with_len (a + 1) n) =
    counted (λ i. q (suc i)) a (range_with_len (a + 1) n) in
    let r = one_later q (a + 1) n in
    let s : cond {A = ℕ} (q (a + 1)) 1 0 ≡ cond (q (suc a)) 1 0 = ap (λ (k : ℕ). cond {A = ℕ} (q k) 1 0) (omega arith) in
    omega arith

-- by their numbers, and by the list
runs_are : (xs : List (Site Cmd)) → count_by (runs_at xs) (range_with_len 0 (length xs)) ≡ count_by (λ (x : Site Cmd). is_running x.status) xs
runs_are [] = refl
runs_are (x ∷ xs) =
    let c : count_by (runs_at (x ∷ xs)) (range_with_len 0 (suc (length xs))) ≡ cond (is_running x.status) 1 0 + count_by (runs_at (x ∷ xs))
    (range_with_len (0 + 1) (length xs)) = counted (runs_at (x ∷ xs)) 0 (range_with_len (0 + 1) (length xs)) in
    let d : count_by (λ (y : Site Cmd). is_running y.status) (x ∷ xs) ≡ cond (is_running x.status) 1 0 + count_by (λ (y : Site Cmd). is_running y.status) xs =
    sum_by-cons (λ (y : Site Cmd). cond {A = ℕ} (is_running y.status) 1 0) x xs in
    let r = one_later (runs_at (x ∷ xs)) 0 (length xs) in
    let s = runs_are xs in
    omega arith

-- WHAT IS SHOWN IS THE BANK'S

le_yes : (a b : ℕ) → a ≤ b → nat_le a b ≡ true
le_yes a b h = grind (arith, nat_tests, h)

le_of : (a b : ℕ) → nat_le a b ≡ true → a ≤ b
le_of a b e = grind (arith, nat_tests, e)

lt_yes : (a b : ℕ) → a < b → nat_lt a b ≡ true
lt_yes a b h = grind (arith, nat_tests, h)

lt_of : (a b : ℕ) → nat_lt a b ≡ true → a < b
lt_of a b e = grind (arith, nat_tests, e)

module _ {B : Type 0} (held : B → Boot) (world : ShownWorld B) (bank : Bank) (shows : ShowsBank held world bank)
    (size : length bank.sites ≡ 2 * faults world.setup + 1) where
  run_is : running_count world ≡ count_by (runs_at bank.sites) (sites (faults world.setup))
  run_is =
      each_count (λ (v : ShownSite Cmd Setup B). is_running v.volatile.status) (λ (x : Site Cmd). is_running x.status) world.sites
      bank.sites shows.sites.count
      (λ i v x at at'. sym (ap (λ (y : Site Cmd). is_running y.status) (shows.sites.each i v x at at').site))
      ∙ (sym (runs_are bank.sites) ∙ ap (λ (n : ℕ). count_by (runs_at bank.sites) (range_with_len 0 n)) size)

  notices_are : unanswered_count world ≡ progress.unanswered_count bank
  notices_are =
      each_sum (λ (s : ShownNode). length s.node.notices - s.node.answered) (λ (x : Node). length x.notices - x.answered) world.nodes
      bank.nodes shows.nodes.count
      (λ c v x at at'. ap (λ (s : ShownNode). length s.node.notices - s.node.answered) (shows.nodes.each c v x at at'))

  waiting_are : waiting_count world ≡ progress.waiting_count bank
  waiting_are =
      each_count (λ (s : ShownClient). is_some s.client.waiting) (λ (x : Client). is_some x.waiting) world.clients bank.clients shows.clients.count
      (λ k v x at at'. ap (λ (s : ShownClient). is_some s.client.waiting) (shows.clients.each k v x at at'))

  -- a site of the bank has room where what is shown of it has
  record HasRoom (x : Site Cmd) : Type 0 where
    view : x.view + 2 * (2 * faults world.setup + 1) ≤ max_number
    space : length x.log + progress.may_be_open world.setup x + 2 * progress.waiting_count bank + progress.unanswered_count bank < MAX_ROWS

  -- and as many orders may be open as it shows
  open_is : (i : ℕ) (v : ShownSite Cmd Setup B) (x : Site Cmd) → slice_get world.sites i ≡ Some v → slice_get bank.sites i ≡ Some x
      → may_be_open v ≡ progress.may_be_open world.setup x
  open_is i v x at at' =
      let is = shows.sites.each i v x at at' in
      ap (λ (s : Setup). progress.open_in s (executed_in v) + (length v.volatile.log - length (executed_in v))) is.made_from
      ∙ ap (λ (y : Site Cmd). progress.may_be_open world.setup y) (sym is.site)

  room_there : (i : ℕ) (v : ShownSite Cmd Setup B) (x : Site Cmd) → slice_get world.sites i ≡ Some v → slice_get bank.sites i ≡ Some x
      → has_room world v ≡ true → HasRoom x
  room_there i v x at at' has =
      let is = (shows.sites.each i v x at at').site in
      let view = ap (λ (y : Site Cmd). y.view) is in
      let long = ap (λ (y : Site Cmd). length y.log) is in
      let parts =
      and_parts (nat_le (v.volatile.view + 2 * (2 * faults world.setup + 1)) max_number)
      (nat_lt (length v.volatile.log + may_be_open v + still_asked world) MAX_ROWS) has in
      let a = le_of (v.volatile.view + 2 * (2 * faults world.setup + 1)) max_number parts.0 in
      let b = lt_of (length v.volatile.log + may_be_open v + still_asked world) MAX_ROWS parts.1 in
      let c = waiting_are in
      let d = notices_are in
      let o = open_is i v x at at' in
      record { view = omega (arith, a, view); space = omega (arith, b, c, d, o, long) }

  room_shown : (i : ℕ) (v : ShownSite Cmd Setup B) (x : Site Cmd) → slice_get world.sites i ≡ Some v → slice_get bank.sites i ≡ Some x → HasRoom x
      → has_room world v ≡ true
  room_shown i v x at at' has =
      let is = (shows.sites.each i v x at at').site in
      let view = ap (λ (y : Site Cmd). y.view) is in
      let long = ap (λ (y : Site Cmd). length y.log) is in
      let c = waiting_are in
      let d = notices_are in
      let o = open_is i v x at at' in
      let e = has.view in
      let g = has.space in
      both (nat_le (v.volatile.view + 2 * (2 * faults world.setup + 1)) max_number)
      (nat_lt (length v.volatile.log + may_be_open v + still_asked world) MAX_ROWS)
      (le_yes (v.volatile.view + 2 * (2 * faults world.setup + 1)) max_number (omega (arith, e, view)))
      (lt_yes (length v.volatile.log + may_be_open v + still_asked world) MAX_ROWS (omega (arith, g, c, d, o, long)))

  can_there : can_go_on world ≡ true → progress.CanGoOn world.setup (faults world.setup) bank
  can_there can = record {
    sites = record {
      many = let m = lt_of (faults world.setup) (running_count world) parts.0 in let r = run_is in omega arith;
      room = λ x in'. (each x in').view;
    };
    space = λ x in'. (each x in').space;
  }
    where
      parts : (nat_lt (faults world.setup) (running_count world) ≡ true) × (list_all (has_room world) world.sites ≡ true)
      parts = let p = and_parts (nat_lt (faults world.setup) (running_count world)) (list_all (has_room world) world.sites) can in (p.0, p.1)

      each : (x : Site Cmd) → Contains bank.sites x → HasRoom x
      each x in' =
          let t = place_of bank.sites x in' in
          let low = slice_get_within bank.sites t.0 x t.1 in
          let c = shows.sites.count in
          let v = has_place world.sites t.0 (omega arith) in
          room_there t.0 v.0 x v.1 t.1 (all_at (has_room world) world.sites t.0 v.0 parts.1 v.1)

  can_shown : progress.CanGoOn world.setup (faults world.setup) bank → can_go_on world ≡ true
  can_shown can = both (nat_lt (faults world.setup) (running_count world)) (list_all (has_room world) world.sites)
      (lt_yes (faults world.setup) (running_count world) (let m = can.sites.many in let r = run_is in omega arith))
      (all_of (has_room world) world.sites each)
    where
      each : (i : ℕ) (v : ShownSite Cmd Setup B) → slice_get world.sites i ≡ Some v → has_room world v ≡ true
      each i v at =
          let low = slice_get_within world.sites i v at in
          let c = shows.sites.count in
          let x = has_place bank.sites i (omega arith) in
          let in' = there bank.sites i x.0 x.1 in
          room_shown i v x.0 at x.1 (record { view = can.sites.room x.0 in'; space = can.space x.0 in' })

-- the orders that a running site's book shows as open
pub book_opens : {B : Type 0} (held : B → Boot) (v : ShownSite Cmd Setup B) → is_running v.volatile.status ≡ true
    → let shown = machine_of book (opening v.setup) (site_shown held v []) in
    length (outstanding_orders shown.setup shown.entries) + (length v.volatile.log - v.volatile.done) ≡ may_be_open v
book_opens held v runs =
    let rows_are : executed_rows (site_shown held v []) ≡ take v.volatile.done v.volatile.log =
    ap (λ (b : Bool). if b then take v.volatile.done v.volatile.log else []) runs in
    let same : executed_in v ≡ take v.volatile.done v.volatile.log = rows_are in
    let book_is =
    ap (λ (l : Ledger). length (outstanding_orders l.setup l.entries)) (held-is (opening v.setup) (executed_rows (site_shown held v [])))
    ∙ ap (λ (s : Setup). length (outstanding_orders s (book_of v.setup (executed_rows (site_shown held v [])))))
    (held-setup (opening v.setup) (executed_rows (site_shown held v []))) in
    let long = ap (length {A = Row}) same in
    let cut = length-take v.volatile.done v.volatile.log in
    omega (arith, book_is, long, cut)

-- nothing is open before any row
opens_none : (setup : Setup) → progress.open_in setup [] ≡ 0
opens_none setup = by (length setup.currencies) 0
  where
    by : (n c : ℕ) → length (outstanding_from c n []) ≡ 0
    by zero c = refl
    by (suc n) c = by n (c + 1)

-- a site that does not run shows none, and each row may be one
pub none_opens : {B : Type 0} (v : ShownSite Cmd Setup B) → is_running v.volatile.status ≡ false → length v.volatile.log ≡ may_be_open v
none_opens v rests =
    let same : executed_in v ≡ [] = ap (λ (b : Bool). if b then take v.volatile.done v.volatile.log else []) rests in
    let none = ap (progress.open_in v.setup) same ∙ opens_none v.setup in
    let long = ap (length {A = Row}) same in
    omega (arith, none, long)

-- a legal list has 2f+1 sites
all_there : {setup : Setup} {f : ℕ} (list : LegalList setup f) → length list.bank.sites ≡ 2 * f + 1
all_there {setup} {f} list =
    let h = legal-holds setup (valid-members setup list.valid).1 list.choose f list.right list.cells list.moves list.bank list.legal.all list.legal.run in
    ap (length {A = Site Cmd}) (sym h.sites) ∙ alone.all_there f
    (record { choose = list.choose; right = list.right; cells = list.cells; events = h.events; world = h.world; legal = h.alone })

module _ {B : Type 0} (held : B → Boot) (world : ShownWorld B) (at : IsAt held world)
    (one_bank : (setup : Setup) (f : ℕ) (a b : LegalList setup f) → a.cells ≡ b.cells → a.moves ≡ b.moves → a.bank ≡ b.bank) where
  pub exact : IsTrue (can_go_on world) ↔ CanGoOn world
  exact = (
    (λ can list cells moves. can_there held world list.bank (shows_there held world at one_bank list cells moves) (all_there list) can),
    (λ each. can_shown held world at.list.bank at.shows (all_there at.list) (each at.list at.cells at.moves)),
  )

  pub goes_on : ((setup : Setup) (f : ℕ) → 1 ≤ f → (list : LegalList setup f) → progress.CanGoOn setup f list.bank → progress.Progresses list)
      → IsTrue (can_go_on world) → GoesOn world
  goes_on progresses can list cells moves =
      progresses world.setup (faults world.setup) (valid-sites world.setup list.valid).some list
      (can_there held world list.bank (shows_there held world at one_bank list cells moves) (all_there list) can)
