-- A list's items in words, one item more; and pieces that were appended one after another.
use Rattle.std.proofs.Common.{◌≡◌, ℕ, ◌+◌, ◌<◌, List, [], ◌∷◌, ◌++◌, length, map, take, get_or, append_assoc, ap, sym, ◌∙◌, arith, is_ok, if◌then◌else◌, Result, Ok, Err, OnOk}
use Rattle.std.specs.List.{flat_map, enumerate_from}
use Rattle.std.proofs.lemmas.Grind.{flat_map-append}
use Rattle.std.proofs.lemmas.List.{append-nil, get_or-map, length-map, take-map, take_more}
use Rattle.pvp_text.proofs.BookTextLemmas.{flat_map-enumerate_more}

-- of items that are numbered from 0
pub one_more : {A : Type 0} (line : ℕ × A → List ℕ) (xs : List A) (n : ℕ) (d : A) → n < length xs
    → flat_map line (enumerate_from 0 (take (n + 1) xs)) ≡ flat_map line (enumerate_from 0 (take n xs)) ++ line (n, get_or xs n d)
one_more line xs n d within =
    flat_map-enumerate_more line 0 xs n d within
    ∙ ap (λ m. flat_map line (enumerate_from 0 (take n xs)) ++ line (m, get_or xs n d)) (omega arith)

-- of items without a number
pub next_more : {A : Type 0} (line : A → List ℕ) (xs : List A) (n : ℕ) (d : A) → n < length xs
    → flat_map line (take (n + 1) xs) ≡ flat_map line (take n xs) ++ line (get_or xs n d)
next_more line xs n d within =
    ap (flat_map line) (take_more xs n d within)
    ∙ flat_map-append line (take n xs) (get_or xs n d ∷ [])
    ∙ ap (λ t. flat_map line (take n xs) ++ t) (append-nil (line (get_or xs n d)))

-- the same of what the items show
pub one_shown_more : {A B : Type 0} (line : ℕ × B → List ℕ) (show : A → B) (xs : List A) (n : ℕ) (d : A) → n < length xs
    → flat_map line (enumerate_from 0 (map show (take (n + 1) xs)))
    ≡ flat_map line (enumerate_from 0 (map show (take n xs))) ++ line (n, show (get_or xs n d))
one_shown_more line show xs n d within =
    ap (λ ys. flat_map line (enumerate_from 0 ys)) (sym (take-map show (n + 1) xs))
    ∙ one_more line (map show xs) n (show d) (rw length-map within)
    ∙ ap (λ x. flat_map line (enumerate_from 0 (take n (map show xs))) ++ line (n, x)) (get_or-map show xs n d (show d) within)
    ∙ ap (λ ys. flat_map line (enumerate_from 0 ys) ++ line (n, show (get_or xs n d))) (take-map show n xs)

pub next_shown_more : {A B : Type 0} (line : B → List ℕ) (show : A → B) (xs : List A) (n : ℕ) (d : A) → n < length xs
    → flat_map line (map show (take (n + 1) xs)) ≡ flat_map line (map show (take n xs)) ++ line (show (get_or xs n d))
next_shown_more line show xs n d within =
    ap (flat_map line) (sym (take-map show (n + 1) xs))
    ∙ next_more line (map show xs) n (show d) (rw length-map within)
    ∙ ap (λ x. flat_map line (take n (map show xs)) ++ line x) (get_or-map show xs n d (show d) within)
    ∙ ap (λ ys. flat_map line ys ++ line (show (get_or xs n d))) (take-map show n xs)

-- two fields, one after another
pub two : {A : Type 0} (mid old : List A) (a b : A) → mid ≡ old ++ a ∷ [] → mid ++ b ∷ [] ≡ old ++ a ∷ b ∷ []
two mid old a b added = ap (λ xs. xs ++ b ∷ []) added ∙ append_assoc old (a ∷ []) (b ∷ [])

-- a last piece, which may fail, ends all that was to be appended
pub ended : {A E : Type 0} (r : Result (Unit {0}) E) (new mid old piece all : List A)
    → new ≡ (if is_ok r then mid ++ piece else mid) → mid ++ piece ≡ old ++ all → OnOk r (new ≡ old ++ all)
ended (Ok _) new mid old piece all added whole = added ∙ whole
ended (Err _) new mid old piece all added whole = tt

-- and of a last piece of our own
pub done : {A E : Type 0} (r : Result (Unit {0}) E) (new mid old piece all : List A)
    → OnOk r (new ≡ mid ++ piece) → mid ++ piece ≡ old ++ all → OnOk r (new ≡ old ++ all)
done (Ok _) new mid old piece all added whole = added ∙ whole
done (Err _) new mid old piece all added whole = tt

-- what holds where nothing failed
pub on_ok : {T E : Type 0} (r : Result T E) (P Q : Type 0) → (P → Q) → OnOk r P → OnOk r Q
on_ok (Ok _) P Q f held = f held
on_ok (Err _) P Q f held = tt
