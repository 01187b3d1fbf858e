-- Whether a log begins with the executed rows.
use Rattle.std.proofs.Common.{◌≡◌, ℕ, ◌+◌, ◌-◌, ◌<◌, ◌≤◌, ◌==◌, ◌&&◌, ◌++◌, ◌↔◌, List, length, take, get_or, slice_get, Some, Bool, IsTrue, Decides, refl, sym, ap, ◌∙◌, arith}
use Rattle.std.specs.List.{starts_with}
use Rattle.std.proofs.lemmas.Bool.Decides.{Decides-eqb, Decides-and, Decides-like, same_from_decides}
use Rattle.std.proofs.lemmas.List.{length-take-le, length-take, get_or-append-add, get_or-take, take-take, take_more_same, length-append}
use Rattle.std.proofs.lemmas.Option.{get_or_from_slice_get, slice_get_within}
use Rattle.std.proofs.lemmas.Slice.Eq.{slice_eq-Decides}
use Rattle.vr_types.specs.declared.row.RowOf.{RowOf}
use Rattle.vr_types.specs.Rows.{is_same_row}

-- the test of rows tells which are the same, where that of commands does
pub row_decides : {C : Type 0} (same : C → C → Bool) → ((a b : C) → IsTrue (same a b) ↔ (a ≡ b)) → (a b : RowOf C) → Decides (is_same_row same a b) (a ≡ b)
row_decides {C} same tells a b =
    let cmd : Decides (same a.cmd b.cmd) (a.cmd ≡ b.cmd) = ((tells a.cmd b.cmd).0, (tells a.cmd b.cmd).1) in
    Decides-like (is_same_row same a b) one parts
    (Decides-and (a.client == b.client) ((a.number == b.number) && same a.cmd b.cmd) (Decides-eqb a.client b.client)
    (Decides-and (a.number == b.number) (same a.cmd b.cmd) (Decides-eqb a.number b.number) cmd))
  where
    one : (a.client ≡ b.client) × ((a.number ≡ b.number) × (a.cmd ≡ b.cmd)) → a ≡ b
    one h = λ i. record { client = h.0 i; number = h.1.0 i; cmd = h.1.1 i }

    parts : a ≡ b → (a.client ≡ b.client) × ((a.number ≡ b.number) × (a.cmd ≡ b.cmd))
    parts e = (ap (λ (r : RowOf C). r.client) e, (ap (λ (r : RowOf C). r.number) e, ap (λ (r : RowOf C). r.cmd) e))

-- a test of whether the first rows are these is the definition's
pub begins_is : {C : Type 0} (same : C → C → Bool) → ((a b : C) → IsTrue (same a b) ↔ (a ≡ b)) → (b : Bool) (n : ℕ) (own log : List (RowOf C)) → n ≤ length own
    → Decides b (take n log ≡ take n own) → b ≡ starts_with (is_same_row same) log (take n own)
begins_is {C} same tells b n own log low h =
    let len : length (take n own) ≡ n = length-take-le n own low in
    same_from_decides b (starts_with (is_same_row same) log (take n own)) h
    (Decides-like _ (turn len) (back len) (slice_eq-Decides (row_decides same tells) (take n own) (take (length (take n own)) log)
    (starts_with (is_same_row same) log (take n own)) refl))
  where
    turn : length (take n own) ≡ n → take n own ≡ take (length (take n own)) log → take n log ≡ take n own
    turn len e = ap (λ k. take k log) (sym len) ∙ sym e

    back : length (take n own) ≡ n → take n log ≡ take n own → take n own ≡ take (length (take n own)) log
    back len e = sym e ∙ ap (λ k. take k log) (sym len)

-- a row after the first ones that stay
pub row_there : {A : Type 0} (own rows : List A) (base at : ℕ) (d : A) → base ≤ length own → base ≤ at
    → get_or (take base own ++ rows) at d ≡ get_or rows (at - base) d
row_there own rows base at d low le =
    let len : length (take base own) ≡ base = length-take-le base own low in
    let i : at ≡ length (take base own) + (at - base) = omega arith in
    ap (λ k. get_or (take base own ++ rows) k d) i ∙ get_or-append-add (take base own) rows (at - base) d

-- where the first rows are one, so is each of them
pub one_there : {A : Type 0} (own rows : List A) (base at n : ℕ) (a b : A) → base ≤ length own → base ≤ at → at < n → a ≡ get_or rows (at - base) a
    → slice_get own at ≡ Some b → take n (take base own ++ rows) ≡ take n own → a ≡ b
one_there own rows base at n a b low le lt ea eb e =
    ea ∙ sym (row_there own rows base at a low le) ∙ sym (get_or-take n (take base own ++ rows) at a lt)
    ∙ ap (λ l. get_or l at a) e ∙ get_or-take n own at a lt ∙ get_or_from_slice_get own at b a eb

-- one more row is the same
pub one_more : {A : Type 0} (own rows : List A) (base at : ℕ) (a b : A) → base ≤ length own → base ≤ at → at < base + length rows
    → a ≡ get_or rows (at - base) a → slice_get own at ≡ Some b → a ≡ b
    → take at (take base own ++ rows) ≡ take at own → take (at + 1) (take base own ++ rows) ≡ take (at + 1) own
one_more own rows base at a b low le lt ea eb e so_far =
    let len : length (take base own) ≡ base = length-take-le base own low in
    let within = slice_get_within own at b eb in
    take_more_same (take base own ++ rows) own at a (length_all len) within so_far
    (row_there own rows base at a low le ∙ sym ea ∙ e ∙ sym (get_or_from_slice_get own at b a eb))
  where
    length_all : length (take base own) ≡ base → at < length (take base own ++ rows)
    length_all len = let all = length-append (take base own) rows in omega arith

-- the first rows of those that are one
pub fewer : {A : Type 0} (n at : ℕ) (own log : List A) → n ≤ at → take at log ≡ take at own → take n log ≡ take n own
fewer n at own log le e = sym (take-take n at log le) ∙ ap (take n) e ∙ take-take n at own le
