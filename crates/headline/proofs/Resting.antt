-- Each client's request is answered, and then each node's notice.
use Rattle.std.proofs.Common.{◌≡◌, ◌≢◌, ◌⊎◌, inl, inr, ℕ, zero, suc, cond, ◌+◌, ◌-◌, ◌*◌, ◌<◌, ◌≤◌, List, [], ◌∷◌, ◌++◌, length, length-append, slice_get, Option, Some, None, refl, sym, ap, ◌∙◌, subst, arith, true≢false, true}
use Rattle.std.specs.Prelude.{IsSome, is_some, sum_by}
use Rattle.std.specs.Option.{option_map_or}
use Rattle.std.proofs.lemmas.Bool.{cases_eq, cases_lt}
use Rattle.std.proofs.lemmas.Option.{slice_get_within}
use Rattle.std.proofs.lemmas.List.Sums.{sum_by-cons}
use Rattle.pvp_types.specs.declared.setup.Setup.{Setup}
use Rattle.pvp_types.specs.declared.command.Cmd.{Cmd}
use Rattle.vr_types.specs.declared.limits.TheConstants.{MAX_ROWS}
use Rattle.vr_types.specs.Rows.{newest}
use Rattle.pvp_book.specs.Answer.{Row}
use Rattle.pvp_book.specs.Ledger.{node_of}
use Rattle.rtgs_node.specs.Node.{Node}
use Rattle.headline.specs.Bank.{Bank}
use Rattle.headline.specs.Client.{Client}
use Rattle.headline.specs.Legal.{LegalList}
use Rattle.agreement.specs.Progress.{runs_at, AreWorking}
use Rattle.headline.specs.Progress.{IsServed, IsHeard, Rests, open_in, waiting_count, unanswered_count}
use Rattle.headline.proofs.Basics.{none-some, some-same}
use Rattle.headline.proofs.Runs.{longer_list}
use Rattle.headline.proofs.Stages.{Comes, stays, comes_then, due_here}
use Rattle.headline.proofs.Endings.{one_more_open, node_opens_none}
use Rattle.headline.proofs.Waits.{IsIdle, client_served, IsTold, notice_served}

le_or : (a b : ℕ) → (a ≤ b) ⊎ (b < a)
le_or a b = by (cases_lt b a)
  where
    by : (b < a) ⊎ (a ≤ b) → (a ≤ b) ⊎ (b < a)
    by (inl h) = inr h
    by (inr h) = inl h

-- a list has an element at each place within it
pub there_is : {A : Type 0} (xs : List A) (n : ℕ) → n < length xs → (x : A) × (slice_get xs n ≡ Some x)
there_is [] n low = absurd (omega arith)
there_is (x ∷ xs) zero low = (x, refl)
there_is (x ∷ xs) (suc n) low = there_is xs n (omega arith)

no_answer : {A : Type 0} (o : Option A) → o ≡ None → IsSome o → ⊥
no_answer None e h = absurd (true≢false (sym h))
no_answer (Some a) e h = none-some a (sym e)

-- what is left at a place, and at n places from the m-th on
abbrev pub left_at : {A : Type 0} → (A → ℕ) → List A → ℕ → ℕ
left_at g xs c = option_map_or g (slice_get xs c) 0

pub left_from : {A : Type 0} → (A → ℕ) → List A → ℕ → ℕ → ℕ
left_from g xs m zero = 0
left_from g xs m (suc n) = left_at g xs m + left_from g xs (m + 1) n

left_same : {A : Type 0} (g : A → ℕ) (xs ys : List A) (m n : ℕ) → ((c : ℕ) → m ≤ c → slice_get xs c ≡ slice_get ys c)
    → left_from g xs m n ≡ left_from g ys m n
unfolding left_from
left_same g xs ys m zero same = refl
left_same {A} g xs ys m (suc n) same =
    let a = ap (λ (o : Option A). option_map_or g o 0) (same m (omega arith)) in
    let b = left_same g xs ys (m + 1) n (λ c low. same c (omega arith)) in
    omega arith

left_next : {A : Type 0} (g : A → ℕ) (x : A) (xs : List A) (m n : ℕ) → left_from g (x ∷ xs) (suc m) n ≡ left_from g xs m n
unfolding left_from
left_next g x xs m zero = refl
left_next g x xs m (suc n) =
    let b = left_next g x xs (m + 1) n in
    let e : left_from g (x ∷ xs) (suc m + 1) n ≡ left_from g (x ∷ xs) (suc (m + 1)) n = ap (λ (k : ℕ). left_from g (x ∷ xs) k n) (omega arith) in
    omega arith

left_sum : {A : Type 0} (g : A → ℕ) (xs : List A) → left_from g xs 0 (length xs) ≡ sum_by g xs
unfolding left_from
left_sum g [] = refl
left_sum g (x ∷ xs) =
    let a = left_sum g xs in
    let b = left_next g x xs 0 (length xs) in
    let c = sum_by-cons g x xs in
    let e : left_from g (x ∷ xs) (0 + 1) (length xs) ≡ left_from g (x ∷ xs) (suc 0) (length xs) =
    ap (λ (k : ℕ). left_from g (x ∷ xs) k (length xs)) (omega arith) in
    omega arith

abbrev pub waits : Client → ℕ
waits client = cond (is_some client.waiting) 1 0

abbrev pub unheard : Node → ℕ
unheard x = length x.notices - x.answered

-- the rows of a log, and those that its open orders make
abbrev pub rows_with_ends : Setup → List Row → ℕ
rows_with_ends setup log = length log + open_in setup log

-- CLIENTS

-- those from the m-th on are served, each that waited by a row at the most, which may open an order
pub record AreServed (setup : Setup) (f view m n : ℕ) (log : List Row) (before after : Bank) : Type 0 where
  pub more : List Row
  pub grows : rows_with_ends setup more ≤ rows_with_ends setup log + 2 * left_from waits before.clients m n
  pub working : AreWorking f view more after.sites
  pub runs : (i : ℕ) → runs_at before.sites i ≡ true → runs_at after.sites i ≡ true
  pub served : (k : ℕ) (x y : Client) → m ≤ k → slice_get before.clients k ≡ Some x → slice_get after.clients k ≡ Some y → IsServed x y
  pub first : (k : ℕ) → k < m → slice_get after.clients k ≡ slice_get before.clients k
  pub nodes : after.nodes ≡ before.nodes

module _ (setup : Setup) (f : ℕ) (some : 1 ≤ f) (view : ℕ) where
  pub serve_clients : (n m : ℕ) (list : LegalList setup f) (log : List Row) → AreWorking f view log list.bank.sites → length list.bank.clients ≤ m + n
      → rows_with_ends setup log + 2 * left_from waits list.bank.clients m n < MAX_ROWS → Comes list (AreServed setup f view m n log list.bank)
  unfolding left_from
  serve_clients zero m list log are all room = stays list (AreServed setup f view m 0 log list.bank) (record {
    more = log;
    grows = omega arith;
    working = are;
    runs = λ i e. e;
    served = λ k x y high at at'. absurd (let a = slice_get_within list.bank.clients k x at in omega arith);
    first = λ k low. refl;
    nodes = refl;
  })
  serve_clients (suc n) m list log are all room = by_place (cases_lt m (length list.bank.clients)) (λ l lg a h r. serve_clients n (m + 1) l lg a h r)
    where
      by_waiting : (x : Client) → slice_get list.bank.clients m ≡ Some x → (waiting : Option Cmd) → x.waiting ≡ waiting
          → ((l : LegalList setup f) (lg : List Row) → AreWorking f view lg l.bank.sites → length l.bank.clients ≤ (m + 1) + n
          → rows_with_ends setup lg + 2 * left_from waits l.bank.clients (m + 1) n < MAX_ROWS
          → Comes l (AreServed setup f view (m + 1) n lg l.bank))
          → Comes list (AreServed setup f view m (suc n) log list.bank)
      by_waiting x at None idle rest =
          let none : left_at waits list.bank.clients m ≡ 0 =
          ap (λ (o : Option Client). option_map_or waits o 0) at ∙ ap (λ (w : Option Cmd). cond {A = ℕ} (is_some w) 1 0) idle in
          let r = rest list log are (omega arith) (omega (arith, room, none)) in
          record {
            moves = r.moves;
            after = r.after;
            run = r.run;
            gentle = r.gentle;
            holds = record {
              more = r.holds.more;
              grows = let g = r.holds.grows in omega (arith, g, none);
              working = r.holds.working;
              runs = r.holds.runs;
              served = λ k u y high at_u at_y. by_k r.after r.holds k u y high at_u at_y (cases_eq k m);
              first = λ k low. r.holds.first k (omega arith);
              nodes = r.holds.nodes;
            };
          }
        where
          by_k : (after : Bank) → AreServed setup f view (m + 1) n log list.bank after → (k : ℕ) (u y : Client) → m ≤ k → slice_get list.bank.clients k ≡ Some u
              → slice_get after.clients k ≡ Some y → (k ≡ m) ⊎ (k ≡ m → ⊥) → IsServed u y
          by_k after h k u y high at_u at_y (inr other) = h.served k u y (omega arith) at_u at_y
          by_k after h k u y high at_u at_y (inl is) =
              let same : y ≡ u = some-same y u (sym at_y ∙ (h.first k (omega arith) ∙ at_u)) in
              let is_x : x ≡ u = some-same x u (sym at ∙ (ap (λ (j : ℕ). slice_get list.bank.clients j) (sym is) ∙ at_u)) in
              let none : u.waiting ≡ None = ap (λ (c : Client). c.waiting) (sym is_x) ∙ idle in
              record {
                still = λ _. same;
                same = ap (λ (c : Client). c.number) same;
                idle = ap (λ (c : Client). c.waiting) same ∙ none;
                answered = λ h'. absurd (no_answer u.waiting none h');
              }
      by_waiting x at (Some cmd) waiting rest =
          let one = client_served setup f some list view log are (omega (arith, room, two)) m x cmd at waiting in
          let r =
          rest (longer_list list one.moves one.after one.run) one.holds.more one.holds.working (long one.after one.holds)
          (let g = served_grows one.after one.holds in let same = others_wait one.after one.holds in omega (arith, room, two, g, same)) in
          comes_then list (IsIdle f view m log x list.bank) (AreServed setup f view m (suc n) log list.bank) one
          (record { moves = r.moves; after = r.after; run = r.run; gentle = r.gentle; holds = after_one one.after r.after one.holds r.holds })
        where
          -- two rows are free for it
          two : left_at waits list.bank.clients m ≡ 1
          two = ap (λ (o : Option Client). option_map_or waits o 0) at ∙ ap (λ (w : Option Cmd). cond {A = ℕ} (is_some w) 1 0) waiting

          others_wait : (after : Bank) → IsIdle f view m log x list.bank after
              → left_from waits after.clients (m + 1) n ≡ left_from waits list.bank.clients (m + 1) n
          others_wait after h = left_same waits after.clients list.bank.clients (m + 1) n (λ c low. h.others c (λ e. (let d = e in omega arith)))

          -- its request is a row at the most
          served_grows : (after : Bank) → (h : IsIdle f view m log x list.bank after) → rows_with_ends setup h.more ≤ rows_with_ends setup log + 2
          served_grows after h = by h.rows
            where
              by : (h.more ≡ log) ⊎ (h.more ≡ log ++ h.row ∷ []) → rows_with_ends setup h.more ≤ rows_with_ends setup log + 2
              by (inl old) = let same = ap (rows_with_ends setup) old in omega (arith, same)
              by (inr new) =
                  let same = ap (rows_with_ends setup) new in
                  let long = length-append log (h.row ∷ []) in
                  let open_too = one_more_open setup log h.row in
                  omega (arith, same, long, open_too)

          -- no client was added
          long : (after : Bank) → IsIdle f view m log x list.bank after → length after.clients ≤ (m + 1) + n
          long after h = by_size (cases_lt (m + 1 + n) (length after.clients))
            where
              by_size : (m + 1 + n < length after.clients) ⊎ (length after.clients ≤ m + 1 + n) → length after.clients ≤ (m + 1) + n
              by_size (inr fits) = omega arith
              by_size (inl over) =
                  let t = there_is after.clients (m + 1 + n) over in
                  let at' = sym (h.others (m + 1 + n) (λ e. (let d = e in omega arith))) ∙ t.1 in
                  absurd (let low = slice_get_within list.bank.clients (m + 1 + n) t.0 at' in omega arith)

          after_one : (middle end : Bank) (h : IsIdle f view m log x list.bank middle) → AreServed setup f view (m + 1) n h.more middle end
              → AreServed setup f view m (suc n) log list.bank end
          after_one middle end h r = record {
            more = r.more;
            grows = let g = r.grows in let i = served_grows middle h in let same = others_wait middle h in omega (arith, g, i, same, two);
            working = r.working;
            runs = λ i e. r.runs i (h.runs i e);
            served = λ k u y high at_u at_y. by_k k u y high at_u at_y (cases_eq k m);
            first = λ k low. r.first k (omega arith) ∙ h.others k (λ e. (let d = e in omega arith));
            nodes = r.nodes ∙ h.nodes;
          }
            where
              by_k : (k : ℕ) (u y : Client) → m ≤ k → slice_get list.bank.clients k ≡ Some u → slice_get end.clients k ≡ Some y → (k ≡ m) ⊎ (k ≡ m → ⊥)
                  → IsServed u y
              by_k k u y high at_u at_y (inr other) = r.served k u y (omega arith) (h.others k other ∙ at_u) at_y
              by_k k u y high at_u at_y (inl is) =
                  let is_x : x ≡ u = some-same x u (sym at ∙ (ap (λ (j : ℕ). slice_get list.bank.clients j) (sym is) ∙ at_u)) in
                  let now : record { number = x.number; waiting = None; answer = Some h.answer } ≡ y =
                  some-same _ y (sym h.here ∙ (ap (λ (j : ℕ). slice_get middle.clients j) (sym is) ∙ (sym (r.first k (omega arith)) ∙ at_y))) in
                  subst (λ (c : Client). IsServed u c) now
                  (subst (λ (c : Client). IsServed c (record { number = x.number; waiting = None; answer = Some h.answer })) is_x (record {
                    still = λ none. absurd (none-some cmd (sym none ∙ waiting));
                    same = refl;
                    idle = refl;
                    answered = λ _. refl;
                  }))

      by_place : (m < length list.bank.clients) ⊎ (length list.bank.clients ≤ m)
          → ((l : LegalList setup f) (lg : List Row) → AreWorking f view lg l.bank.sites → length l.bank.clients ≤ (m + 1) + n
          → rows_with_ends setup lg + 2 * left_from waits l.bank.clients (m + 1) n < MAX_ROWS
          → Comes l (AreServed setup f view (m + 1) n lg l.bank))
          → Comes list (AreServed setup f view m (suc n) log list.bank)
      by_place (inl low) rest = let t = there_is list.bank.clients m low in by_waiting t.0 t.1 t.0.waiting refl rest
      by_place (inr high) rest = stays list (AreServed setup f view m (suc n) log list.bank) (record {
        more = log;
        grows = omega arith;
        working = are;
        runs = λ i e. e;
        served = λ k x y low at at'. absurd (let a = slice_get_within list.bank.clients k x at in omega arith);
        first = λ k low. refl;
        nodes = refl;
      })

-- NODES

-- one node's notices are answered
pub record IsCaughtUp (setup : Setup) (f view c n : ℕ) (log : List Row) (x : Node) (before after : Bank) : Type 0 where
  pub more : List Row
  pub grows : rows_with_ends setup more ≤ rows_with_ends setup log + n
  pub working : AreWorking f view more after.sites
  pub runs : (i : ℕ) → runs_at before.sites i ≡ true → runs_at after.sites i ≡ true
  pub here : slice_get after.nodes c ≡ Some (record x { answered = x.answered + n })
  pub others : (d : ℕ) → d ≢ c → slice_get after.nodes d ≡ slice_get before.nodes d
  pub clients : after.clients ≡ before.clients

module _ (setup : Setup) (f : ℕ) (some : 1 ≤ f) (view : ℕ) where
  catch_up : (n c : ℕ) (list : LegalList setup f) (log : List Row) (x : Node) → AreWorking f view log list.bank.sites → slice_get list.bank.nodes c ≡ Some x
      → x.answered + n ≤ length x.notices → rows_with_ends setup log + n < MAX_ROWS
      → Comes list (IsCaughtUp setup f view c n log x list.bank)
  catch_up zero c list log x are at fits room = stays list (IsCaughtUp setup f view c 0 log x list.bank) (record {
    more = log;
    grows = omega arith;
    working = are;
    runs = λ i e. e;
    here = at ∙ ap (λ (k : ℕ). Some (record x { answered = k })) (let e : x.answered ≡ x.answered + 0 = omega arith in e);
    others = λ d apart. refl;
    clients = refl;
  })
  catch_up (suc n) c list log x are at fits room =
      let t = there_is x.notices x.answered (omega arith) in
      let one = notice_served setup f some list view log are (omega arith) c x t.0 at t.1 in
      let r =
      catch_up n c (longer_list list one.moves one.after one.run) one.holds.more (record x { answered = x.answered + 1 }) one.holds.working one.holds.here
      (omega arith) (let g = told_grows one.after one.holds in omega (arith, room, g)) in
      comes_then list (IsTold f view c log x list.bank) (IsCaughtUp setup f view c (suc n) log x list.bank) one
      (record {
        moves = r.moves;
        after = r.after;
        run = r.run;
        gentle = r.gentle;
        holds = record {
          more = r.holds.more;
          grows = let a = r.holds.grows in let b = told_grows one.after one.holds in omega (arith, a, b);
          working = r.holds.working;
          runs = λ i e. r.holds.runs i (one.holds.runs i e);
          here = r.holds.here ∙ ap (λ (k : ℕ). Some (record x { answered = k })) (let e : x.answered + 1 + n ≡ x.answered + suc n = omega arith in e);
          others = λ d apart. r.holds.others d apart ∙ one.holds.others d apart;
          clients = r.holds.clients ∙ one.holds.clients;
        };
      })
    where
      -- a notice is a row at the most, and opens no order
      told_grows : (after : Bank) (t : IsTold f view c log x list.bank after) → rows_with_ends setup t.more ≤ rows_with_ends setup log + 1
      told_grows after t = by t.rows
        where
          by : ((t.more ≡ log) × (newest log (node_of c) ≡ x.answered + 1))
              ⊎ (t.more ≡ log ++ record { client = node_of c; number = x.answered + 1; cmd = t.notice } ∷ [])
              → rows_with_ends setup t.more ≤ rows_with_ends setup log + 1
          by (inl old) = let same = ap (rows_with_ends setup) old.0 in omega (arith, same)
          by (inr new) =
              let row : Row = record { client = node_of c; number = x.answered + 1; cmd = t.notice } in
              let same = ap (rows_with_ends setup) new in
              let long = length-append log (row ∷ []) in
              let open_too = node_opens_none setup log row c refl in
              omega (arith, same, long, open_too)

  -- the nodes from the m-th on are heard
  record AreHeard (m n : ℕ) (log : List Row) (before after : Bank) : Type 0 where
    more : List Row
    grows : rows_with_ends setup more ≤ rows_with_ends setup log + left_from unheard before.nodes m n
    working : AreWorking f view more after.sites
    runs : (i : ℕ) → runs_at before.sites i ≡ true → runs_at after.sites i ≡ true
    heard : (c : ℕ) (x y : Node) → m ≤ c → slice_get before.nodes c ≡ Some x → slice_get after.nodes c ≡ Some y → x.answered ≤ length x.notices → IsHeard x y
    first : (c : ℕ) → c < m → slice_get after.nodes c ≡ slice_get before.nodes c
    clients : after.clients ≡ before.clients

  hear_nodes : (n m : ℕ) (list : LegalList setup f) (log : List Row) → AreWorking f view log list.bank.sites → length list.bank.nodes ≤ m + n
      → rows_with_ends setup log + left_from unheard list.bank.nodes m n < MAX_ROWS → Comes list (AreHeard m n log list.bank)
  unfolding left_from
  hear_nodes zero m list log are all room = stays list (AreHeard m 0 log list.bank) (record {
    more = log;
    grows = omega arith;
    working = are;
    runs = λ i e. e;
    heard = λ c x y high at at' ok. absurd (let a = slice_get_within list.bank.nodes c x at in omega arith);
    first = λ c low. refl;
    clients = refl;
  })
  hear_nodes (suc n) m list log are all room = by_place (cases_lt m (length list.bank.nodes)) (λ l lg a h r. hear_nodes n (m + 1) l lg a h r)
    where
      go_on : (x : Node) → slice_get list.bank.nodes m ≡ Some x → (x.answered ≤ length x.notices) ⊎ (length x.notices < x.answered)
          → ((l : LegalList setup f) (lg : List Row) → AreWorking f view lg l.bank.sites → length l.bank.nodes ≤ (m + 1) + n
          → rows_with_ends setup lg + left_from unheard l.bank.nodes (m + 1) n < MAX_ROWS → Comes l (AreHeard (m + 1) n lg l.bank))
          → Comes list (AreHeard m (suc n) log list.bank)
      go_on x at fits rest =
          let left : left_at unheard list.bank.nodes m ≡ length x.notices - x.answered =
          ap (λ (o : Option Node). option_map_or unheard o 0) at in
          let one = catch_up (length x.notices - x.answered) m list log x are at (reach fits) (omega arith) in
          let same = left_same unheard one.after.nodes list.bank.nodes (m + 1) n (λ c low. one.holds.others c (λ e. (let d = e in omega arith))) in
          let r =
          rest (longer_list list one.moves one.after one.run) one.holds.more one.holds.working (long one.after one.holds) (let g = one.holds.grows in
          omega arith) in
          comes_then list (IsCaughtUp setup f view m (length x.notices - x.answered) log x list.bank) (AreHeard m (suc n) log list.bank) one
          (record {
            moves = r.moves;
            after = r.after;
            run = r.run;
            gentle = r.gentle;
            holds = record {
              more = r.holds.more;
              grows = let a = r.holds.grows in let b = one.holds.grows in omega arith;
              working = r.holds.working;
              runs = λ i e. r.holds.runs i (one.holds.runs i e);
              heard = λ c u y high at_u at_y ok. by_c one.after r.after one.holds r.holds c u y high at_u at_y ok (cases_eq c m);
              first = λ c low. r.holds.first c (omega arith) ∙ one.holds.others c (λ e. (let d = e in omega arith));
              clients = r.holds.clients ∙ one.holds.clients;
            };
          })
        where
          reach : (x.answered ≤ length x.notices) ⊎ (length x.notices < x.answered) → x.answered + (length x.notices - x.answered) ≤ length x.notices
          reach (inl low) = omega arith
          reach (inr over) = absurd (let h = (due_here setup f some list).heard m x at in omega arith)

          long : (after : Bank) → IsCaughtUp setup f view m (length x.notices - x.answered) log x list.bank after → length after.nodes ≤ (m + 1) + n
          long after h = by_size (cases_lt (m + 1 + n) (length after.nodes))
            where
              by_size : (m + 1 + n < length after.nodes) ⊎ (length after.nodes ≤ m + 1 + n) → length after.nodes ≤ (m + 1) + n
              by_size (inr fits) = omega arith
              by_size (inl over) =
                  let t = there_is after.nodes (m + 1 + n) over in
                  let at' = sym (h.others (m + 1 + n) (λ e. (let d = e in omega arith))) ∙ t.1 in
                  absurd (let low = slice_get_within list.bank.nodes (m + 1 + n) t.0 at' in omega arith)

          by_c : (middle end : Bank) (h : IsCaughtUp setup f view m (length x.notices - x.answered) log x list.bank middle)
              → AreHeard (m + 1) n h.more middle end
              → (c : ℕ) (u y : Node) → m ≤ c → slice_get list.bank.nodes c ≡ Some u → slice_get end.nodes c ≡ Some y → u.answered ≤ length u.notices
              → (c ≡ m) ⊎ (c ≡ m → ⊥) → IsHeard u y
          by_c middle end h r c u y high at_u at_y ok (inr other) = r.heard c u y (omega arith) (h.others c other ∙ at_u) at_y ok
          by_c middle end h r c u y high at_u at_y ok (inl is) =
              let is_x : x ≡ u = some-same x u (sym at ∙ (ap (λ (j : ℕ). slice_get list.bank.nodes j) (sym is) ∙ at_u)) in
              let low : x.answered ≤ length x.notices = subst (λ (k : Node). k.answered ≤ length k.notices) (sym is_x) ok in
              let now : record x { answered = x.answered + (length x.notices - x.answered) } ≡ y =
              some-same _ y (sym h.here ∙ (ap (λ (j : ℕ). slice_get middle.nodes j) (sym is) ∙ (sym (r.first c (omega arith)) ∙ at_y))) in
              subst (λ (k : Node). IsHeard u k) now
              (subst (λ (k : Node). IsHeard k (record x { answered = x.answered + (length x.notices - x.answered) })) is_x (record {
                same = refl;
                all = omega arith;
                books = (refl, refl, refl);
              }))

      by_place : (m < length list.bank.nodes) ⊎ (length list.bank.nodes ≤ m)
          → ((l : LegalList setup f) (lg : List Row) → AreWorking f view lg l.bank.sites → length l.bank.nodes ≤ (m + 1) + n
          → rows_with_ends setup lg + left_from unheard l.bank.nodes (m + 1) n < MAX_ROWS → Comes l (AreHeard (m + 1) n lg l.bank))
          → Comes list (AreHeard m (suc n) log list.bank)
      by_place (inl low) rest = let t = there_is list.bank.nodes m low in go_on t.0 t.1 (le_or t.0.answered (length t.0.notices)) rest
      by_place (inr high) rest = stays list (AreHeard m (suc n) log list.bank) (record {
        more = log;
        grows = omega arith;
        working = are;
        runs = λ i e. e;
        heard = λ c x y low at at' ok. absurd (let a = slice_get_within list.bank.nodes c x at in omega arith);
        first = λ c low. refl;
        clients = refl;
      })

  -- and the log grew by what was open
  pub record RestsWith (list : LegalList setup f) (log : List Row) : Type 0 where
    pub rests : Rests list view
    pub grows : rows_with_ends setup rests.log ≤ rows_with_ends setup log + 2 * waiting_count list.bank + unanswered_count list.bank

  pub rests_with : (list : LegalList setup f) (log : List Row) → AreWorking f view log list.bank.sites
      → rows_with_ends setup log + 2 * waiting_count list.bank + unanswered_count list.bank < MAX_ROWS → RestsWith list log
  rests_with list log are room =
      let waiting : left_from waits list.bank.clients 0 (length list.bank.clients) ≡ waiting_count list.bank = left_sum waits list.bank.clients in
      let one = serve_clients setup f some view (length list.bank.clients) 0 list log are (omega arith) (omega (arith, room, waiting)) in
      let same : unanswered_count list.bank ≡ unanswered_count one.after = ap (λ (l : List Node). sum_by unheard l) (sym one.holds.nodes) in
      let left = left_sum unheard one.after.nodes in
      let two =
      hear_nodes (length one.after.nodes) 0 (longer_list list one.moves one.after one.run) one.holds.more one.holds.working (omega arith)
      (let g = one.holds.grows in omega (arith, room, waiting, same, left, g)) in
      let both =
      comes_then list (AreServed setup f view 0 (length list.bank.clients) log list.bank)
      (λ b. AreHeard 0 (length one.after.nodes) one.holds.more one.after b) one two in
      record {
        grows = let a = both.holds.grows in let g = one.holds.grows in omega (arith, a, g, waiting, same, left);
        rests = record {
          moves = both.moves;
          after = both.after;
          run = both.run;
          gentle = both.gentle;
          log = both.holds.more;
          working = both.holds.working;
          runs = λ i e. both.holds.runs i (one.holds.runs i e);
          clients = λ k x y at at'. one.holds.served k x y (omega arith) at (ap (λ (l : List Client). slice_get l k) (sym both.holds.clients) ∙ at');
          nodes =
              λ c x y at at'. both.holds.heard c x y (omega arith) (ap (λ (l : List Node). slice_get l c) one.holds.nodes ∙ at) at'
              ((due_here setup f some list).heard c x at);
        };
      }

  pub rests : (list : LegalList setup f) (log : List Row) → AreWorking f view log list.bank.sites
      → rows_with_ends setup log + 2 * waiting_count list.bank + unanswered_count list.bank < MAX_ROWS → Rests list view
  rests list log are room = (rests_with list log are room).rests
