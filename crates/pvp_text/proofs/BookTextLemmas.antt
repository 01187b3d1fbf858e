-- The parts of a book's text, one part more.
use Rattle.std.proofs.Common.{◌≡◌, ℕ, ◌+◌, ◌<◌, List, [], ◌∷◌, ◌++◌, zero, suc, length, take, get_or, append_assoc, add-one, drop, length-drop, subst, ◌≤◌, Option, Some, None, refl, ap, sym, ◌∙◌, arith}
use Rattle.std.specs.Fmt.{signed_decimal}
use Rattle.std.specs.List.{flat_map, enumerate_from}
use Rattle.std.proofs.Common.{ℤ, to_z, of_z, w64, FitsSigned}
use Rattle.std.proofs.lemmas.Int.{to_z-of_z}
use Rattle.std.proofs.lemmas.List.{append-nil, take_more}
use Rattle.pvp_types.specs.declared.setup.Member.{Member}
use Rattle.pvp_types.specs.declared.step.Step.TheVariants.{Submit}
use Rattle.pvp_types.proofs.Lists.{flat_map-range_with_len_more}
use Rattle.pvp_book.specs.Ledger.{Ledger, balance, figure}
use Rattle.std.specs.Io.KnownBytes.{Appends}
use Rattle.pvp_text.specs.declared.script.Line.{Line}
use Rattle.pvp_text.specs.declared.script.Statement.{Statement}
use Rattle.pvp_text.specs.declared.script.Statement.TheVariants.{Do}
use Rattle.pvp_text.specs.BookText.{balances_text, figures_text, member_line, statement_text, after_statement, text_of}

pub balances_text-more : (held : Ledger) (m n : ℕ)
    → balances_text held m (n + 1) ≡ balances_text held m n ++ (32 ∷ signed_decimal (balance held.setup held.entries m n))
balances_text-more held m n = flat_map-range_with_len_more (λ c. 32 ∷ signed_decimal (balance held.setup held.entries m c)) n

pub figures_text-more : (held : Ledger) (n : ℕ)
    → figures_text held (n + 1) ≡ figures_text held n ++ (32 ∷ signed_decimal (figure held.setup held.entries n))
figures_text-more held n = flat_map-range_with_len_more (λ c. 32 ∷ signed_decimal (figure held.setup held.entries c)) n

-- a number that is printed is the number that the book gave
pub shown : (given z : ℤ) → FitsSigned w64 given → given ≡ z → to_z w64 (of_z w64 given) ≡ z
shown given z fits e = to_z-of_z w64 given fits ∙ e

-- what was appended to a text that was appended
pub appended : (new old first so_far piece all : List ℕ) → new ≡ old ++ piece → old ≡ first ++ so_far → all ≡ so_far ++ piece → new ≡ first ++ all
appended new old first so_far piece all e before whole =
    e ∙ ap (λ t. t ++ piece) before ∙ append_assoc first so_far piece ∙ ap (λ t. first ++ t) (sym whole)

-- what a function gives of a list's numbered items, one item more
pub flat_map-enumerate_more : {A : Type 0} (line : ℕ × A → List ℕ) (a : ℕ) (xs : List A) (n : ℕ) (d : A) → n < length xs
    → flat_map line (enumerate_from a (take (n + 1) xs))
    ≡ flat_map line (enumerate_from a (take n xs)) ++ line (n + a, get_or xs n d)
flat_map-enumerate_more {A} line a xs n d within =
    ap (λ k. flat_map line (enumerate_from a (take k xs))) (add-one n)
    ∙ from a xs n within
    ∙ ap (λ m. flat_map line (enumerate_from a (take n xs)) ++ line (m, get_or xs n d)) (omega arith)
  where
    from : (a : ℕ) (ms : List A) (k : ℕ) → k < length ms
        → flat_map line (enumerate_from a (take (suc k) ms))
        ≡ flat_map line (enumerate_from a (take k ms)) ++ line (a + k, get_or ms k d)
    from a [] k h = absurd (omega arith)
    from a (m ∷ ms) zero h = append-nil (line (a, m)) ∙ ap (λ j. line (j, m)) (omega arith)
    from a (m ∷ ms) (suc k) h =
        ap (λ t. line (a, m) ++ t) (from (a + 1) ms k (omega arith))
        ∙ sym (append_assoc (line (a, m)) (flat_map line (enumerate_from (a + 1) (take k ms))) (line (a + 1 + k, get_or ms k d)))
        ∙ ap (λ j. (line (a, m) ++ flat_map line (enumerate_from (a + 1) (take k ms))) ++ line (j, get_or ms k d)) (omega arith)

-- the next member's line
pub member_lines-more : (indent : List ℕ) (held : Ledger) (members : List Member) (n : ℕ) (d : Member) → n < length members
    → flat_map (member_line indent held) (enumerate_from 1 (take (n + 1) members))
    ≡ flat_map (member_line indent held) (enumerate_from 1 (take n members)) ++ member_line indent held (n + 1, get_or members n d)
member_lines-more indent held members n d within = flat_map-enumerate_more (member_line indent held) 1 members n d within

Appends-append : (old mid end : Option (List ℕ)) (xs ys : List ℕ) → Appends old mid xs → Appends mid end ys → Appends old end (xs ++ ys)
Appends-append None mid end xs ys first second = tt
Appends-append (Some a) None end xs ys first second = absurd first
Appends-append (Some a) (Some b) None xs ys first second = absurd second
Appends-append (Some a) (Some b) (Some c) xs ys first second = second ∙ ap (λ t. t ++ ys) first ∙ append_assoc a xs ys

-- what is held after lines
abbrev pub after_lines : Ledger → List Line → Ledger
after_lines held [] = held
after_lines held (line ∷ lines) = after_lines (after_statement held line.statement) lines

after_lines-append : (held : Ledger) (xs ys : List Line) → after_lines held (xs ++ ys) ≡ after_lines (after_lines held xs) ys
after_lines-append held [] ys = refl
after_lines-append held (x ∷ xs) ys = after_lines-append (after_statement held x.statement) xs ys

text_of-append : (held : Ledger) (xs ys : List Line) → text_of held (xs ++ ys) ≡ text_of held xs ++ text_of (after_lines held xs) ys
text_of-append held [] ys = refl
text_of-append held (x ∷ xs) ys =
    let next = after_statement held x.statement in
    ap (λ t. statement_text held x.statement ++ t) (text_of-append next xs ys)
    ∙ sym (append_assoc (statement_text held x.statement) (text_of next xs) (text_of (after_lines next xs) ys))

-- what is held after one line more
pub ran-next : (first held next : Ledger) (lines : List Line) (i : ℕ) (d : Line) → i < length lines
    → held ≡ after_lines first (take i lines) → next ≡ after_statement held (get_or lines i d).statement
    → next ≡ after_lines first (take (i + 1) lines)
ran-next first held next lines i d within ran after =
    let line = get_or lines i d in
    after ∙ ap (λ h. after_statement h line.statement) ran ∙ sym (after_lines-append first (take i lines) (line ∷ []))
    ∙ ap (after_lines first) (sym (take_more lines i d within))

-- what is written after one line more
pub written-next : (old mid new : Option (List ℕ)) (first held : Ledger) (lines : List Line) (i : ℕ) (d : Line) (text : List ℕ) → i < length lines
    → held ≡ after_lines first (take i lines) → text ≡ statement_text held (get_or lines i d).statement
    → Appends old mid (text_of first (take i lines)) → Appends mid new text → Appends old new (text_of first (take (i + 1) lines))
written-next old mid new first held lines i d text within ran printed so_far written =
    let line = get_or lines i d in
    let front = take i lines in
    let last : statement_text (after_lines first front) line.statement ++ [] ≡ text =
    append-nil (statement_text (after_lines first front) line.statement) ∙ ap (λ h. statement_text h line.statement) (sym ran) ∙ sym printed in
    let whole : text_of first (take (i + 1) lines) ≡ text_of first front ++ text =
    ap (text_of first) (take_more lines i d within) ∙ text_of-append first front (line ∷ []) ∙ ap (λ t. text_of first front ++ t) last in
    subst (Appends old new) (sym whole) (Appends-append old mid new (text_of first front) text so_far written)

-- what is appended to nothing
pub alone : (text new blank piece : List ℕ) → text ≡ new → new ≡ blank ++ piece → blank ≡ [] → text ≡ piece
alone text new blank piece e appended nothing = e ∙ appended ∙ ap (λ b. b ++ piece) nothing

applied-after : (held : Ledger) (statement : Statement) → (after_statement held statement).applied ≤ held.applied + 1
applied-after held (Do (Submit client cmd)) = omega arith
applied-after held _ = omega arith

pub room-next : (held next : Ledger) (lines : List Line) (i : ℕ) (statement : Statement) → i < length lines
    → held.applied + length (drop i lines) ≤ 65535 → next ≡ after_statement held statement
    → next.applied + length (drop (i + 1) lines) ≤ 65535
room-next held next lines i statement within room after =
    let more = applied-after held statement in
    let same = ap (λ (h : Ledger). h.applied) after in
    omega (arith, length-drop i lines, length-drop (i + 1) lines)
