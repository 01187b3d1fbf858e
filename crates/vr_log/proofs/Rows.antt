-- Lists of rows that grow by one, and what they say of a client.
use Rattle.std.proofs.Common.{◌≡◌, ℕ, zero, suc, ◌+◌, ◌-◌, ◌*◌, ◌==◌, ◌≤◌, Bool, true, false, List, [], ◌∷◌, ◌++◌, length, take, drop, filter, slice_get, Option, Some, None, if◌then◌else◌, refl, sym, ap, ◌∙◌, append_assoc, arith, ◌⊎◌, inl, inr, eqb→eq}
use Rattle.std.specs.List.{enumerate_from, last_or, range_with_len, filter_map, cons_option}
use Rattle.std.specs.Option.{option_map_or}
use Rattle.std.proofs.lemmas.Option.{slice_get_within, get_or_from_slice_get}
use Rattle.std.proofs.lemmas.List.{drop_more}
use Rattle.std.proofs.lemmas.List.Elements.{filter_map-append}
use Rattle.vr_types.proofs.Lists.{take_next}
use Rattle.vr_types.specs.declared.row.RowOf.{RowOf}
use Rattle.vr_types.specs.Pages.{page_rows, as_page}
use Rattle.vr_types.specs.Rows.{last_of, newest}
use Rattle.vr_types.specs.Step.{places_between}
use Rattle.vr_log.specs.Clients.{rows_at}
use Rattle.std.proofs.Math.Seq.{take-add}

-- what is left after n elements begins with the next
pub drop_next : {X : Type 0} (xs : List X) (n : ℕ) (x : X) → slice_get xs n ≡ Some x → drop n xs ≡ x ∷ drop (n + 1) xs
drop_next xs n x h = drop_more xs n x (slice_get_within xs n x h) ∙ ap (λ y. y ∷ drop (n + 1) xs) (get_or_from_slice_get xs n x x h)

-- past the end nothing is left
pub drop_end : {X : Type 0} (xs : List X) (n : ℕ) → slice_get xs n ≡ None → drop n xs ≡ []
drop_end [] zero h = refl
drop_end [] (suc n) h = refl
drop_end (x ∷ xs) zero h = cc
drop_end (x ∷ xs) (suc n) h = drop_end xs n h

-- the rows of a page more
pub page-more : {X : Type 0} (rows : List X) (page : ℕ) → take (page_rows * (page + 1)) rows ≡ take (page_rows * page) rows ++ rows_at rows page
page-more rows page =
    let e : page_rows * (page + 1) ≡ page_rows * page + page_rows = omega arith in
    rw e (take-add (page_rows * page) page_rows rows)

-- a page that is lent has the rows that stand there
pub lent-page : {X : Type 0} (found lent : List X) → Some lent ≡ as_page found → lent ≡ found
lent-page [] lent is = absurd cc
lent-page (x ∷ rest) lent is = cc

-- what the first elements have, all have
pub slice_get-take : {X : Type 0} (xs : List X) (n i : ℕ) (x : X) → slice_get (take n xs) i ≡ Some x → slice_get xs i ≡ Some x
slice_get-take [] zero i x h = h
slice_get-take [] (suc n) i x h = h
slice_get-take (y ∷ xs) zero i x h = cc
slice_get-take (y ∷ xs) (suc n) zero x h = h
slice_get-take (y ∷ xs) (suc n) (suc i) x h = slice_get-take xs n i x h

-- the last row of a client in rows that stand at place n and on, or else what was before
abbrev pub last_from : {C : Type 0} → Option (ℕ × RowOf C) → ℕ → List (RowOf C) → ℕ → Option (ℕ × RowOf C)
last_from before n rows client = last_or before (filter (λ placed. placed.1.client == client) (enumerate_from n rows))

-- one more row at the end
pub last_from-snoc : {C : Type 0} (before : Option (ℕ × RowOf C)) (n : ℕ) (rows : List (RowOf C)) (row : RowOf C) (q : ℕ)
    → last_from before n (rows ++ row ∷ []) q ≡ (if row.client == q then Some (n + length rows, row) else last_from before n rows q)
last_from-snoc {C} before n [] row q = by_test (row.client == q)
  where
    by_test : (b : Bool) → last_or before (if b then (n, row) ∷ [] else []) ≡ (if b then Some (n + 0, row) else before)
    by_test true = let e : n ≡ n + 0 = omega arith in ap (λ k. let p : Option (ℕ × RowOf C) = Some (k, row) in p) e
    by_test false = refl
last_from-snoc {C} before n (r ∷ rows) row q = by_test (r.client == q) (λ d. last_from-snoc d (n + 1) rows row q ∙ ap (found d) (shifted n (length rows)))
  where
    found : Option (ℕ × RowOf C) → ℕ → Option (ℕ × RowOf C)
    found d k = if row.client == q then Some (k, row) else last_from d (n + 1) rows q

    shifted : (a b : ℕ) → a + 1 + b ≡ a + suc b
    shifted a b = omega arith

    by_test : (b : Bool) → ((d : Option (ℕ × RowOf C)) → last_from d (n + 1) (rows ++ row ∷ []) q ≡ found d (n + suc (length rows)))
        → last_or before (if b then (n, r) ∷ filter (λ placed. placed.1.client == q) (enumerate_from (n + 1) (rows ++ row ∷ []))
        else filter (λ placed. placed.1.client == q) (enumerate_from (n + 1) (rows ++ row ∷ [])))
        ≡ (if row.client == q then Some (n + suc (length rows), row)
        else last_or before (if b then (n, r) ∷ filter (λ placed. placed.1.client == q) (enumerate_from (n + 1) rows)
        else filter (λ placed. placed.1.client == q) (enumerate_from (n + 1) rows)))
    by_test true rest = rest (Some (n, r))
    by_test false rest = rest before

pub last_of-snoc : {C : Type 0} (rows : List (RowOf C)) (row : RowOf C) (q : ℕ)
    → last_of (rows ++ row ∷ []) q ≡ (if row.client == q then Some (length rows + 1, row) else last_of rows q)
last_of-snoc {C} rows row q =
    let e : 1 + length rows ≡ length rows + 1 = omega arith in
    last_from-snoc None 1 rows row q ∙ ap (λ k. let p : Option (ℕ × RowOf C) = if row.client == q then Some (k, row) else last_of rows q in p) e

pub newest-snoc : {C : Type 0} (rows : List (RowOf C)) (row : RowOf C) (q : ℕ)
    → newest (rows ++ row ∷ []) q ≡ (if row.client == q then row.number else newest rows q)
newest-snoc {C} rows row q = ap number (last_of-snoc rows row q) ∙ by_test (row.client == q)
  where
    number : Option (ℕ × RowOf C) → ℕ
    number last = option_map_or (λ placed. placed.1.number) last 0

    by_test : (b : Bool) → number (if b then Some (length rows + 1, row) else last_of rows q) ≡ (if b then row.number else number (last_of rows q))
    by_test true = refl
    by_test false = refl

-- the row at a place is noted behind a log and the rows before it
pub newest_next : {C : Type 0} (log rows : List (RowOf C)) (at : ℕ) (row : RowOf C) (q : ℕ) → slice_get rows at ≡ Some row
    → (if row.client == q then row.number else newest (log ++ take at rows) q) ≡ newest (log ++ take (at + 1) rows) q
newest_next log rows at row q there =
    let before = log ++ take at rows in
    sym (newest-snoc before row q)
    ∙ ap (λ l. newest l q) (append_assoc log (take at rows) (row ∷ []) ∙ ap (λ l. log ++ l) (sym (take_next rows at row there)))

-- where a client's last row stands, and whose it is
pub record IsPlaced {C : Type 0} (n : ℕ) (rows : List (RowOf C)) (client : ℕ) (p : ℕ × RowOf C) : Type 0 where
  pub after : n ≤ p.0
  pub there : slice_get rows (p.0 - n) ≡ Some p.1
  pub whose : p.1.client ≡ client

-- a row later in the rows
placed_later : {C : Type 0} (n : ℕ) (row : RowOf C) (rows : List (RowOf C)) (q : ℕ) (p : ℕ × RowOf C) → IsPlaced (n + 1) rows q p → IsPlaced n (row ∷ rows) q p
placed_later n row rows q p h =
    let e : p.0 - n ≡ suc (p.0 - (n + 1)) = omega (arith, h.after) in
    record { after = omega (arith, h.after); there = rw e h.there; whose = h.whose }

pub last_from-placed : {C : Type 0} (before : Option (ℕ × RowOf C)) (n : ℕ) (rows : List (RowOf C)) (q : ℕ) (p : ℕ × RowOf C)
    → last_from before n rows q ≡ Some p → (before ≡ Some p) ⊎ IsPlaced n rows q p
last_from-placed before n [] q p h = inl h
last_from-placed {C} before n (r ∷ rows) q p h = by_test (r.client == q) (λ e. eqb→eq r.client q (rw e tt)) (λ d e. last_from-placed d (n + 1) rows q p e) h
  where
    first : r.client ≡ q → ◌≡◌ {A = Option (ℕ × RowOf C)} (Some (n, r)) (Some p) → IsPlaced n (r ∷ rows) q p
    first mine same =
        let at : n ≡ p.0 = cc in
        let row : r ≡ p.1 = cc in
        let none : p.0 - n ≡ 0 = omega arith in
        record {
          after = omega arith;
          there = rw none (ap (λ (x : RowOf C). let o : Option (RowOf C) = Some x in o) row);
          whose = ap (λ x. x.client) (sym row) ∙ mine;
        }

    by_test : (b : Bool) → (b ≡ true → r.client ≡ q)
        → ((d : Option (ℕ × RowOf C)) → last_from d (n + 1) rows q ≡ Some p → (d ≡ Some p) ⊎ IsPlaced (n + 1) rows q p)
        → last_or before (if b then (n, r) ∷ filter (λ placed. placed.1.client == q) (enumerate_from (n + 1) rows)
        else filter (λ placed. placed.1.client == q) (enumerate_from (n + 1) rows)) ≡ Some p
        → (before ≡ Some p) ⊎ IsPlaced n (r ∷ rows) q p
    by_test true mine rest e = elim (rest (Some (n, r)) e) [ inl same ↦ inr (first (mine refl) same) | inr placed ↦ inr (placed_later n r rows q p placed) ]
    by_test false mine rest e = elim (rest before e) [ inl same ↦ inl same | inr placed ↦ inr (placed_later n r rows q p placed) ]

pub last_of-placed : {C : Type 0} (rows : List (RowOf C)) (q : ℕ) (p : ℕ × RowOf C) → last_of rows q ≡ Some p → IsPlaced 1 rows q p
last_of-placed rows q p h = elim (last_from-placed None 1 rows q p h) [ inl none ↦ absurd (cc) | inr placed ↦ placed ]

-- one more number
pub range_more : (a k : ℕ) → range_with_len a (k + 1) ≡ range_with_len a k ++ (a + k) ∷ []
range_more a zero = let e : a ≡ a + 0 = omega arith in ap (λ k. k ∷ []) e
range_more a (suc k) =
    let e : suc k + 1 ≡ suc (k + 1) = omega arith in
    let last : a + 1 + k ≡ a + suc k = omega arith in
    rw e (ap (λ xs. a ∷ xs) (range_more (a + 1) k ∙ ap (λ j. range_with_len (a + 1) k ++ j ∷ []) last))

-- the places up to n + 1 are those up to n and the next
pub places_next : (d n : ℕ) → d ≤ n → places_between d (n + 1) ≡ places_between d n ++ (n + 1) ∷ []
places_next d n le =
    let e : n + 1 - d ≡ (n - d) + 1 = omega arith in
    let last : d + 1 + (n - d) ≡ n + 1 = omega arith in
    rw e (range_more (d + 1) (n - d) ∙ ap (λ k. range_with_len (d + 1) (n - d) ++ k ∷ []) last)

-- what is given at one more place
pub given_next : {Y : Type 0} (h : ℕ → Option Y) (d n : ℕ) (y : Y) → d ≤ n → h (n + 1) ≡ Some y
    → filter_map h (places_between d (n + 1)) ≡ filter_map h (places_between d n) ++ y ∷ []
given_next h d n y le e =
    ap (filter_map h) (places_next d n le) ∙ filter_map-append h (places_between d n) ((n + 1) ∷ [])
    ∙ ap (λ o. filter_map h (places_between d n) ++ cons_option o []) e
