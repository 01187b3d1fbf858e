-- Lists that lie on pages of 64, all full but the last.
use Rattle.std.proofs.Common.{◌≡◌, ℕ, zero, suc, ◌+◌, ◌-◌, ◌*◌, ◌<◌, ◌≤◌, List, [], ◌∷◌, ◌++◌, length, take, drop, get_or, slice_get, Some, None, ◌%◌, refl, sym, ap, ◌∙◌, append_assoc, arith, length-append}
use Rattle.std.specs.List.{flat_map, AllByRecursion, AllZip, slice_range}
use Rattle.std.proofs.lemmas.List.{take-append-le, take_all, drop_all, length-drop, length-take-le}
use Rattle.std.proofs.lemmas.List.Concat.{flat_map-append}
use Rattle.std.proofs.lemmas.List.{take_more}
use Rattle.std.proofs.lemmas.Option.{slice_get_within, get_or_from_slice_get}
use Rattle.std.proofs.Math.Nat.{mul-add-mod_self_left}
use Rattle.vr_types.specs.Pages.{as_page, page_of}
use Rattle.std.proofs.Math.Seq.{drop-append-add, take-append-add, take-add}

abbrev pub AreFull : {X Y : Type 0} → (X → List Y) → List X → Type 0
AreFull rows pages = AllByRecursion (λ page. length (rows page) ≡ 64) pages

pub length-full : {X Y : Type 0} (rows : X → List Y) (pages : List X) → AreFull rows pages → length (flat_map rows pages) ≡ 64 * length pages
length-full rows [] full = refl
length-full rows (page ∷ pages) full = let rest = length-full rows pages full.1 in length-append (rows page) (flat_map rows pages) ∙ omega (arith, full.0, rest)

-- how long the whole list is
pub length-pages : {X Y : Type 0} (rows : X → List Y) (pages : List X) (rest : List Y) → AreFull rows pages
    → length (flat_map rows pages ++ rest) ≡ 64 * length pages + length rest
length-pages rows pages rest full = length-append (flat_map rows pages) rest ∙ ap (λ n. n + length rest) (length-full rows pages full)

-- the pages that stay are full
pub full-take : {X Y : Type 0} (rows : X → List Y) (pages : List X) (n : ℕ) → AreFull rows pages → AreFull rows (take n pages)
full-take rows [] zero full = tt
full-take rows [] (suc n) full = tt
full-take rows (page ∷ pages) zero full = tt
full-take rows (page ∷ pages) (suc n) full = (full.0, full-take rows pages n full.1)

pub full-append : {X Y : Type 0} (rows : X → List Y) (pages more : List X) → AreFull rows pages → AreFull rows more → AreFull rows (pages ++ more)
full-append rows [] more full fuller = fuller
full-append rows (page ∷ pages) more full fuller = (full.0, full-append rows pages more full.1 fuller)

pub full-page : {X Y : Type 0} (rows : X → List Y) (pages : List X) (page : ℕ) (d : X) → AreFull rows pages → page < length pages
    → length (rows (get_or pages page d)) ≡ 64
full-page rows [] page d full within = absurd (omega (arith, within))
full-page rows (p ∷ pages) zero d full within = full.0
full-page rows (p ∷ pages) (suc page) d full within = full-page rows pages page d full.1 (omega (arith, within))

-- what is left behind whole pages
pub drop-pages : {X Y : Type 0} (rows : X → List Y) (pages : List X) (rest : List Y) (page : ℕ) → AreFull rows pages → page ≤ length pages
    → drop (64 * page) (flat_map rows pages ++ rest) ≡ flat_map rows (drop page pages) ++ rest
drop-pages rows [] rest zero full within = refl
drop-pages rows [] rest (suc page) full within = absurd (omega (arith, within))
drop-pages rows (p ∷ pages) rest zero full within = refl
drop-pages rows (p ∷ pages) rest (suc page) full within =
    let whole : 64 * suc page ≡ length (rows p) + 64 * page = omega (arith, full.0) in
    rw whole (ap (drop (length (rows p) + 64 * page)) (append_assoc (rows p) (flat_map rows pages) rest)
    ∙ drop-append-add (rows p) (flat_map rows pages ++ rest) (64 * page)
    ∙ drop-pages rows pages rest page full.1 (omega (arith, within)))

-- what whole pages hold
pub take-pages : {X Y : Type 0} (rows : X → List Y) (pages : List X) (rest : List Y) (page : ℕ) → AreFull rows pages → page ≤ length pages
    → take (64 * page) (flat_map rows pages ++ rest) ≡ flat_map rows (take page pages)
take-pages rows [] rest zero full within = refl
take-pages rows [] rest (suc page) full within = absurd (omega (arith, within))
take-pages rows (p ∷ pages) rest zero full within = refl
take-pages rows (p ∷ pages) rest (suc page) full within =
    let whole : 64 * suc page ≡ length (rows p) + 64 * page = omega (arith, full.0) in
    rw whole (ap (take (length (rows p) + 64 * page)) (append_assoc (rows p) (flat_map rows pages) rest)
    ∙ take-append-add (rows p) (flat_map rows pages ++ rest) (64 * page)
    ∙ ap (λ l. rows p ++ l) (take-pages rows pages rest page full.1 (omega (arith, within))))

pub slice_get-drop : {Y : Type 0} (xs : List Y) (n k : ℕ) → slice_get (drop n xs) k ≡ slice_get xs (n + k)
slice_get-drop [] zero k = refl
slice_get-drop [] (suc n) k = refl
slice_get-drop (x ∷ xs) zero k = let e : 0 + k ≡ k = omega arith in rw e refl
slice_get-drop (x ∷ xs) (suc n) k = let e : suc n + k ≡ suc (n + k) = omega arith in rw e (slice_get-drop xs n k)

pub slice_get-append : {Y : Type 0} (xs ys : List Y) (k : ℕ) → k < length xs → slice_get (xs ++ ys) k ≡ slice_get xs k
slice_get-append [] ys k within = absurd (omega (arith, within))
slice_get-append (x ∷ xs) ys zero within = refl
slice_get-append (x ∷ xs) ys (suc k) within = slice_get-append xs ys k (omega (arith, within))

-- what is left begins with the page
pub begins-page : {X Y : Type 0} (rows : X → List Y) (pages : List X) (page : ℕ) (d : X) → page < length pages
    → flat_map rows (drop page pages) ≡ rows (get_or pages page d) ++ flat_map rows (drop (page + 1) pages)
begins-page rows [] page d within = absurd (omega (arith, within))
begins-page rows (p ∷ pages) zero d within = refl
begins-page rows (p ∷ pages) (suc page) d within = let e : suc page + 1 ≡ suc (page + 1) = omega arith in
    rw e (begins-page rows pages page d (omega (arith, within)))

-- a full page and what is behind it
pub drop-page : {X Y : Type 0} (rows : X → List Y) (pages : List X) (rest : List Y) (page : ℕ) (d : X) → AreFull rows pages → page < length pages
    → drop (64 * page) (flat_map rows pages ++ rest) ≡ rows (get_or pages page d) ++ (flat_map rows (drop (page + 1) pages) ++ rest)
drop-page rows pages rest page d full within =
    drop-pages rows pages rest page full (omega (arith, within))
    ∙ ap (λ l. l ++ rest) (begins-page rows pages page d within)
    ∙ append_assoc (rows (get_or pages page d)) (flat_map rows (drop (page + 1) pages)) rest

-- a row on a full page
pub row-on_page : {X Y : Type 0} (rows : X → List Y) (pages : List X) (rest : List Y) (page within : ℕ) (d : X) → AreFull rows pages → page < length pages
    → within < 64
    → slice_get (flat_map rows pages ++ rest) (64 * page + within) ≡ slice_get (rows (get_or pages page d)) within
row-on_page rows pages rest page within d full there few =
    let behind = flat_map rows (drop (page + 1) pages) ++ rest in
    let here : within < length (rows (get_or pages page d)) = let whole = full-page rows pages page d full there in omega (arith, whole, few) in
    sym (slice_get-drop (flat_map rows pages ++ rest) (64 * page) within)
    ∙ ap (λ l. slice_get l within) (drop-page rows pages rest page d full there)
    ∙ slice_get-append (rows (get_or pages page d)) behind within here

-- behind all full pages only the rest is left
pub drop-full : {X Y : Type 0} (rows : X → List Y) (pages : List X) (rest : List Y) → AreFull rows pages
    → drop (64 * length pages) (flat_map rows pages ++ rest) ≡ rest
drop-full rows pages rest full =
    let many : 64 * length pages ≡ length (flat_map rows pages) + 0 = (let all = length-full rows pages full in omega (arith, all)) in
    rw many (drop-append-add (flat_map rows pages) rest 0)

-- a row behind all full pages
pub row-behind : {X Y : Type 0} (rows : X → List Y) (pages : List X) (rest : List Y) (within : ℕ) → AreFull rows pages
    → slice_get (flat_map rows pages ++ rest) (64 * length pages + within) ≡ slice_get rest within
row-behind rows pages rest within full =
    sym (slice_get-drop (flat_map rows pages ++ rest) (64 * length pages) within) ∙ ap (λ l. slice_get l within) (drop-full rows pages rest full)

-- a page that has rows
as_page-is : {Y : Type 0} (rows : List Y) → 0 < length rows → as_page rows ≡ Some rows
as_page-is [] some = absurd (omega (arith, some))
as_page-is (row ∷ rows) some = refl

-- a full page
pub page_of-full : {X Y : Type 0} (rows : X → List Y) (pages : List X) (rest : List Y) (page : ℕ) (d : X) → AreFull rows pages → page < length pages
    → page_of (flat_map rows pages ++ rest) page ≡ Some (rows (get_or pages page d))
page_of-full rows pages rest page d full within =
    let here = rows (get_or pages page d) in
    let behind = flat_map rows (drop (page + 1) pages) ++ rest in
    let whole : length here ≡ 64 = full-page rows pages page d full within in
    ap (λ l. as_page (take 64 l)) (drop-page rows pages rest page d full within)
    ∙ ap as_page (take-append-le 64 here behind (omega (arith, whole)) ∙ take_all 64 here (omega (arith, whole)))
    ∙ as_page-is here (omega (arith, whole))

-- the page behind all full pages
pub page_of-last : {X Y : Type 0} (rows : X → List Y) (pages : List X) (rest : List Y) → AreFull rows pages → 0 < length rest → length rest ≤ 64
    → page_of (flat_map rows pages ++ rest) (length pages) ≡ Some rest
page_of-last rows pages rest full some few =
    ap (λ l. as_page (take 64 l)) (drop-full rows pages rest full) ∙ ap as_page (take_all 64 rest few) ∙ as_page-is rest some

-- behind the last page there are no rows
pub page_of-past : {X Y : Type 0} (rows : X → List Y) (pages : List X) (rest : List Y) (page : ℕ) → AreFull rows pages
    → 64 * length pages + length rest ≤ 64 * page
    → page_of (flat_map rows pages ++ rest) page ≡ None
page_of-past rows pages rest page full past =
    let long = length-pages rows pages rest full in
    ap (λ l. as_page (take 64 l)) (drop_all (64 * page) (flat_map rows pages ++ rest) (omega (arith, long, past)))

-- where the last page is full, or there is none, whole pages are all there is
pub whole-pages : {X Y : Type 0} (rows : X → List Y) (pages : List X) (rest : List Y) → AreFull rows pages → length rest % 64 ≡ 0
    → length (flat_map rows pages ++ rest) % 64 ≡ 0
whole-pages rows pages rest full whole = ap (λ n. n % 64) (length-pages rows pages rest full) ∙ mul-add-mod_self_left 64 (length pages) (length rest) ∙ whole

pub length-slice_range : {Y : Type 0} (xs : List Y) (from to : ℕ) → from ≤ to → to ≤ length xs → length (slice_range xs from to) ≡ to - from
length-slice_range xs from to order within = let left = length-drop from xs in length-take-le (to - from) (drop from xs) (omega (arith, left, order, within))

-- one more element
pub slice_range-next : {Y : Type 0} (xs : List Y) (from at : ℕ) (x : Y) → from ≤ at → slice_get xs at ≡ Some x
    → slice_range xs from (at + 1) ≡ slice_range xs from at ++ x ∷ []
slice_range-next xs from at x order is =
    let more : at + 1 - from ≡ (at - from) + 1 = omega (arith, order) in
    let place : from + (at - from) ≡ at = omega (arith, order) in
    let there : slice_get (drop from xs) (at - from) ≡ Some x = slice_get-drop xs from (at - from) ∙ ap (slice_get xs) place ∙ is in
    rw more (take_more (drop from xs) (at - from) x (slice_get_within (drop from xs) (at - from) x there)
    ∙ ap (λ y. take (at - from) (drop from xs) ++ y ∷ []) (get_or_from_slice_get (drop from xs) (at - from) x x there))

-- whole pages that stay, and the pages of a list that begins with what stays of the next
pub joined-pages : {X Y : Type 0} (rows : X → List Y) (pages more : List X) (last end part : List Y) (whole from base : ℕ) → AreFull rows pages
    → whole ≤ length pages → from ≡ 64 * whole → from ≤ base
    → flat_map rows more ++ end ≡ slice_range (flat_map rows pages ++ last) from base ++ part
    → flat_map rows (take whole pages ++ more) ++ end ≡ take base (flat_map rows pages ++ last) ++ part
joined-pages rows pages more last end part whole from base full within starts order is =
    let before : flat_map rows (take whole pages) ≡ take from (flat_map rows pages ++ last) = rw starts (sym (take-pages rows pages last whole full within)) in
    let upto : from + (base - from) ≡ base = omega (arith, order) in
    ap (λ l. l ++ end) (flat_map-append rows (take whole pages) more)
    ∙ append_assoc (flat_map rows (take whole pages)) (flat_map rows more) end
    ∙ ap (λ l. flat_map rows (take whole pages) ++ l) is
    ∙ ap (λ l. l ++ (slice_range (flat_map rows pages ++ last) from base ++ part)) before
    ∙ sym (append_assoc (take from (flat_map rows pages ++ last)) (slice_range (flat_map rows pages ++ last) from base) part)
    ∙ ap (λ l. l ++ part) (sym (take-add from (base - from) (flat_map rows pages ++ last)) ∙ ap (λ n. take n (flat_map rows pages ++ last)) upto)

-- the pages that are left are full
pub full-drop : {X Y : Type 0} (rows : X → List Y) (pages : List X) (n : ℕ) → AreFull rows pages → AreFull rows (drop n pages)
full-drop rows [] zero full = tt
full-drop rows [] (suc n) full = tt
full-drop rows (page ∷ pages) zero full = full
full-drop rows (page ∷ pages) (suc n) full = full-drop rows pages n full.1

-- pages that are shared hold the same rows
pub shared-rows : {X V Y : Type 0} (value : X → V) (rows : V → List Y) (pages copies : List X) → AllZip (λ page copy. value copy ≡ value page) pages copies
    → flat_map (λ page. rows (value page)) copies ≡ flat_map (λ page. rows (value page)) pages
shared-rows value rows [] [] same = refl
shared-rows value rows [] (copy ∷ copies) same = absurd same
shared-rows value rows (page ∷ pages) [] same = absurd same
shared-rows value rows (page ∷ pages) (copy ∷ copies) same =
    ap (λ v. rows v ++ flat_map (λ p. rows (value p)) copies) same.0 ∙ ap (λ l. rows (value page) ++ l) (shared-rows value rows pages copies same.1)

-- and are full as they were
pub shared-full : {X V Y : Type 0} (value : X → V) (rows : V → List Y) (pages copies : List X) → AllZip (λ page copy. value copy ≡ value page) pages copies
    → AreFull (λ page. rows (value page)) pages → AreFull (λ page. rows (value page)) copies
shared-full value rows [] [] same full = tt
shared-full value rows [] (copy ∷ copies) same full = absurd same
shared-full value rows (page ∷ pages) [] same full = absurd same
shared-full value rows (page ∷ pages) (copy ∷ copies) same full =
    (ap (λ v. length (rows v)) same.0 ∙ full.0, shared-full value rows pages copies same.1 full.1)

-- rows that are one page lie on the page behind all full ones
pub one-page : {X Y : Type 0} (rows : X → List Y) (pages : List X) (rest : List Y) → AreFull rows pages → (length rest ≡ 0 → length pages ≡ 0)
    → length (flat_map rows pages ++ rest) ≡ 64 → flat_map rows pages ++ rest ≡ rest
one-page rows [] rest full none long = refl
one-page rows (page ∷ pages) rest full none long =
    let all = length-pages rows (page ∷ pages) rest full in
    let empty : length rest ≡ 0 = omega (arith, all, long) in
    let before = none empty in
    absurd (omega (arith, before))
