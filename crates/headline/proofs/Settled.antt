-- Where sites work with one log, nothing was ever executed but what begins it, and each answered notice is a row of it.
use Rattle.std.proofs.Common.{◌≡◌, ◌⊎◌, inl, inr, ℕ, zero, suc, ◌+◌, ◌-◌, ◌<◌, ◌≤◌, ◌==◌, Bool, true, false, nat_lt, if◌then◌else◌, List, [], ◌∷◌, ◌++◌, length, map, take, slice_get, count_by, Option, Some, None, refl, sym, ap, ◌∙◌, subst, arith, true≢false, append-nil}
use Rattle.std.specs.Prelude.{Contains}
use Rattle.std.specs.Option.{option_map_or}
use Rattle.std.proofs.lemmas.Bool.{cases_lt, eq-eqb}
use Rattle.std.proofs.lemmas.Bool.Decides.{nat_tests}
use Rattle.std.proofs.lemmas.List.{take_all, length-map}
use Rattle.std.proofs.lemmas.List.Elements.{Contains-append_left}
use Rattle.std.proofs.lemmas.List.Sums.{count_by-le-length}
use Rattle.pvp_types.specs.declared.setup.Setup.{Setup}
use Rattle.pvp_types.specs.declared.command.Cmd.{Cmd}
use Rattle.pvp_types.proofs.SetupLemmas.{valid-members}
use Rattle.vr_types.specs.declared.event.EventOf.TheVariants.{Deliver}
use Rattle.vr_types.specs.declared.limits.TheConstants.{MAX_ROWS}
use Rattle.vr_types.specs.Group.{primary, actor_of}
use Rattle.vr_types.specs.Rows.{newest}
use Rattle.vr_types.specs.Site.{Site, is_running, executed_rows}
use Rattle.vr_types.proofs.ChoosingPick.{Contains-cases, Contains-none}
use Rattle.agreement.specs.Worlds.{step_of}
use Rattle.agreement.specs.Promises.{Begins, request_of}
use Rattle.agreement.specs.Progress.{AreWorking, Serves}
use Rattle.agreement.specs.Progress.{WorksIn}
use Rattle.agreement.proofs.Onward as alone
use Rattle.agreement.proofs.Beginnings.{begins-trans, begins_from, begins_whole}
use Rattle.pvp_book.proofs.Counts.{count-cons}
use Rattle.pvp_book.specs.Answer.{Row}
use Rattle.pvp_book.specs.Ledger.{node_of}
use Rattle.headline.specs.Legal.{LegalList, Moment}
use Rattle.headline.specs.Replies.{HasAnswered}
use Rattle.headline.proofs.Basics.{some-same, there, at-append, at-end, map-in}
use Rattle.headline.proofs.Invariant.{Holds}
use Rattle.headline.proofs.Runs.{runs-join}
use Rattle.headline.proofs.Reached.{run-keeps, legal-holds}
use Rattle.headline.proofs.Told as told
use Rattle.headline.proofs.Known.{WasHeard}

-- a list that has so many numbers is so long
module _ (n : ℕ) where
  below : (xs : List ℕ) → count_by (λ x. nat_lt x n) xs + count_by (λ x. x == n) xs ≤ count_by (λ x. nat_lt x (suc n)) xs
  below [] = omega arith
  below (x ∷ xs) =
      let rest = below xs in
      let a = count-cons (λ (y : ℕ). nat_lt y n) x xs in
      let b = count-cons (λ (y : ℕ). y == n) x xs in
      let c = count-cons (λ (y : ℕ). nat_lt y (suc n)) x xs in
      let d = one x in
      omega arith
    where
      one : (x : ℕ) → (if nat_lt x n then 1 else 0) + (if x == n then 1 else 0) ≤ (if nat_lt x (suc n) then 1 else 0)
      one x = grind (arith, nat_tests)

abbrev one_if : Bool → ℕ
one_if b = if b then 1 else 0

has_one : (n : ℕ) (xs : List ℕ) → Contains xs n → 1 ≤ count_by (λ x. x == n) xs
has_one n [] in' = absurd (Contains-none n in')
has_one n (x ∷ xs) in' = by (Contains-cases x n xs in') (has_one n xs)
  where
    by : (x ≡ n) ⊎ Contains xs n → (Contains xs n → 1 ≤ count_by (λ y. y == n) xs) → 1 ≤ count_by (λ y. y == n) (x ∷ xs)
    by (inl is) rest =
        let b : count_by (λ (y : ℕ). y == n) (x ∷ xs) ≡ one_if true + count_by (λ (y : ℕ). y == n) xs =
        count-cons (λ (y : ℕ). y == n) x xs ∙ ap (λ (t : Bool). one_if t + count_by (λ (y : ℕ). y == n) xs) (eq-eqb x n is) in
        omega arith
    by (inr later) rest = let b = count-cons (λ (y : ℕ). y == n) x xs in let r = rest later in omega arith

many_below : (n : ℕ) (xs : List ℕ) → ((k : ℕ) → k < n → Contains xs k) → n ≤ count_by (λ x. nat_lt x n) xs
many_below zero xs all = omega arith
many_below (suc n) xs all =
    let rest = many_below n xs (λ k low. all k (omega arith)) in
    let one = has_one n xs (all n (omega arith)) in
    let both = below n xs in
    omega arith

pub so_long : (n : ℕ) (xs : List ℕ) → ((k : ℕ) → k < n → Contains xs k) → n ≤ length xs
so_long n xs all = let a = many_below n xs all in let b = count_by-le-length (λ (x : ℕ). nat_lt x n) xs in omega arith

-- what a site that works has executed
pub works_rows : (view : ℕ) (log : List Row) (x : Site Cmd) → WorksIn view log x → executed_rows x ≡ log
works_rows view log x works =
    ap (λ st. if is_running st then take x.done x.log else []) works.status
    ∙ (ap (λ (n : ℕ). take n x.log) works.done ∙ (ap (take (length log)) works.log_is ∙ take_all (length log) log (omega arith)))

module _ (setup : Setup) (f : ℕ) (some : 1 ≤ f) (list : LegalList setup f) (view : ℕ) (log : List Row) (are : AreWorking f view log list.bank.sites) where
  pub here : Holds setup list.choose f list.cells list.moves list.bank
  here = legal-holds setup (valid-members setup list.valid).1 list.choose f list.right list.cells list.moves list.bank list.legal.all list.legal.run

  -- the primary
  pub record HasPrimary : Type 0 where
    pub site : Site Cmd
    pub at : slice_get list.bank.sites (primary f view) ≡ Some site
    pub works : WorksIn view log site

  pub primary_here : HasPrimary
  primary_here = by (slice_get list.bank.sites (primary f view)) refl are.leads
    where
      by : (found : Option (Site Cmd)) → slice_get list.bank.sites (primary f view) ≡ found
          → option_map_or (λ (x : Site Cmd). is_running x.status) found false ≡ true → HasPrimary
      by None at e = absurd (true≢false (sym e))
      by (Some x) at e = record { site = x; at = at; works = are.each x (there list.bank.sites (primary f view) x at) e }

  -- its log begins each history
  pub log_begins : (h : Holds setup list.choose f list.cells list.moves list.bank) → Begins log h.history
  log_begins h =
      let p = primary_here in
      begins_from (works_rows view log p.site p.works) (h.begins p.site (there list.bank.sites (primary f view) p.site p.at))

  -- and, as a new row may be executed after it, is the whole of it
  module _ (room : length log < MAX_ROWS) where
    module _ (h : Holds setup list.choose f list.cells list.moves list.bank) (other : Row) (beyond : slice_get h.history (length log) ≡ Some other) where
      abbrev fresh : Row
      fresh = record { client = 0; number = newest log 0 + other.number + 1; cmd = other.cmd }

      serving : Serves list.choose f h.world view log fresh
      serving =
          alone.served f some (record { choose = list.choose; right = list.right; cells = list.cells; events = h.events; world = h.world; legal = h.alone })
          view log fresh
          (subst (AreWorking f view log) (sym h.sites) are) (record { client = refl; above = omega arith; room = room })

      record Executes : Type 0 where
        site : Site Cmd
        among : Contains serving.served.sites site
        rows : executed_rows site ≡ log ++ fresh ∷ []

      executes : Executes
      executes = by (slice_get serving.served.sites (primary f view)) refl serving.working.leads
        where
          by : (found : Option (Site Cmd)) → slice_get serving.served.sites (primary f view) ≡ found
              → option_map_or (λ (x : Site Cmd). is_running x.status) found false ≡ true → Executes
          by None at e = absurd (true≢false (sym e))
          by (Some x) at e =
              let in' = there serving.served.sites (primary f view) x at in
              record { site = x; among = in'; rows = works_rows view (log ++ fresh ∷ []) x (serving.working.each x in' e) }

      not_beyond : ⊥
      not_beyond =
          by (h.one (step_of (primary f view) (Deliver (request_of (actor_of (primary f view)) fresh)) ∷ serving.goes.events) serving.served executes.site
          (runs-join list.choose f h.world (step_of (primary f view) (Deliver (request_of (actor_of (primary f view)) fresh)) ∷ []) serving.goes.events
          serving.asked serving.served serving.asks serving.goes.run) executes.among)
        where
          new_at : slice_get (executed_rows executes.site) (length log) ≡ Some fresh
          new_at = ap (λ (l : List Row). slice_get l (length log)) executes.rows ∙ at-end log fresh

          same : other ≡ fresh → ⊥
          same e = let n : other.number ≡ newest log 0 + other.number + 1 = ap (λ (r : Row). r.number) e in omega arith

          by : Begins (executed_rows executes.site) h.history ⊎ Begins h.history (executed_rows executes.site) → ⊥
          by (inl b) =
              same
              (some-same other fresh
              (sym beyond ∙ (ap (λ (l : List Row). slice_get l (length log)) (sym b.is) ∙ at-append (executed_rows executes.site) b.rest
              (length log) fresh new_at)))
          by (inr b) =
              same (some-same other fresh (sym (at-append h.history b.rest (length log) other beyond)
              ∙ (ap (λ (l : List Row). slice_get l (length log)) b.is ∙ new_at)))

    pub whole : (h : Holds setup list.choose f list.cells list.moves list.bank) → Begins h.history log
    whole h = by (cases_lt (length log) (length h.history))
      where
        by : (length log < length h.history) ⊎ (length h.history ≤ length log) → Begins h.history log
        by (inl longer) = let t = at_place h.history (length log) longer in absurd (not_beyond h t.0 t.1)
          where
            at_place : (xs : List Row) (n : ℕ) → n < length xs → (x : Row) × (slice_get xs n ≡ Some x)
            at_place [] n low = absurd (omega arith)
            at_place (x ∷ xs) zero low = (x, refl)
            at_place (x ∷ xs) (suc n) low = at_place xs n (omega arith)
        by (inr short) = record { rest = []; is = append-nil h.history ∙ sym (begins_whole (log_begins h) short) }

    -- so is what any moment's history was
    pub once_whole : (m : Moment setup list.choose f list.cells list.moves list.bank) (h : Holds setup list.choose f list.cells m.before m.then)
        → Begins h.history log
    once_whole m h =
        let on = run-keeps setup (valid-members setup list.valid).1 list.choose f list.right list.cells m.before m.then h m.after list.bank m.rest in
        by (m.before ++ m.after) m.parts on.holds on.longer
      where
        by : (ms : _) → ms ≡ list.moves → (k : Holds setup list.choose f list.cells ms list.bank) → Begins h.history k.history → Begins h.history log
        by ms is k longer =
            begins-trans longer (all ms is k)
          where
            all : (ms : _) → ms ≡ list.moves → (k : Holds setup list.choose f list.cells ms list.bank) → Begins k.history log
            all ms is = subst (λ (ns : _). (k : Holds setup list.choose f list.cells ns list.bank) → Begins k.history log) (sym is) whole

    -- a row of the log that a node's answer was for
    pub record HasRow (c number : ℕ) : Type 0 where
      pub row : Row
      pub among : Contains log row
      pub client : row.client ≡ node_of c
      pub number_is : row.number ≡ number

    pub heard_row : (c number : ℕ) → WasHeard list.bank c number → HasRow c number
    heard_row c number w = record {
      row = by.row;
      among =
          subst (λ (l : List Row). Contains l by.row) all.is
          (Contains-append_left (executed_rows by.site) all.rest by.row (there (executed_rows by.site) (by.place - 1) by.row by.executed));
      client = by.client ∙ w.to;
      number_is = by.named ∙ w.number_is;
    }
      where
        moment : Moment setup list.choose f list.cells list.moves list.bank
        moment = told.moment list.right here w.envelope w.said (record { posted = w.posted; is = w.msg })

        by : HasAnswered setup moment.then w.envelope w.said
        by = told.answered list.right here w.envelope w.said (record { posted = w.posted; is = w.msg })

        then_holds : Holds setup list.choose f list.cells moment.before moment.then
        then_holds =
            legal-holds setup (valid-members setup list.valid).1 list.choose f list.right list.cells moment.before moment.then moment.legal.all moment.legal.run

        all : Begins (executed_rows by.site) log
        all = begins-trans (then_holds.begins by.site (there moment.then.sites by.sender by.site by.is_there)) (once_whole moment then_holds)

    -- so there are no more of them than rows
    pub no_more : (c n : ℕ) → ((k : ℕ) → k < n → WasHeard list.bank c (k + 1)) → n ≤ length log
    no_more c n heard =
        let a = so_long n (map (λ (r : Row). r.number - 1) log) (λ k low. has k (heard_row c (k + 1) (heard k low))) in
        let b = length-map log (λ (r : Row). r.number - 1) in
        omega arith
      where
        has : (k : ℕ) → HasRow c (k + 1) → Contains (map (λ (r : Row). r.number - 1) log) k
        has k r =
            subst (λ (m : ℕ). Contains (map (λ (q : Row). q.number - 1) log) m) (let e = r.number_is in
            omega arith) (map-in (λ (q : Row). q.number - 1) log r.row r.among)
