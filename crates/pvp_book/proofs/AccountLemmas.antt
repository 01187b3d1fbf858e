-- Accounts: what a posting makes of one, and that it stays what its balances say.
use Rattle.std.proofs.Common.{◌≡◌, ℕ, suc, zero, ◌+◌, ◌*◌, ◌-◌, ◌≤◌, ◌<◌, List, [], ◌∷◌, length, arith, ap, sym, subst, ◌∙◌, ℤ, pos, ◌+ℤ◌, ◌-ℤ◌, sum_by, All, to_z, of_z, w64, slice_index_or, slice_set, Fits}
use Rattle.std.specs.Prelude.{FitsSigned}
use Rattle.std.specs.Int.{w128}
use Rattle.std.specs.List.{zip}
use Rattle.std.proofs.lemmas.Int.{ints}
use Rattle.std.proofs.lemmas.List.Sums.{sum_by-cons}
use Rattle.std.proofs.lemmas.List.Elements.{All-get_or}
use Rattle.pvp_types.specs.declared.setup.Setup.{Setup}
use Rattle.pvp_types.specs.declared.setup.Currency.{Currency}
use Rattle.pvp_types.specs.Setup.{IsValid}
use Rattle.pvp_types.proofs.SetupLemmas.{valid-currencies}
use Rattle.pvp_book.specs.declared.account.Account.{Account}
use Rattle.pvp_book.specs.Limits.{worth_of, debt_of, standing_of, value_of, shortage_of}
use Rattle.pvp_book.specs.Bounds.{most_total, most_standing, IsWithin}
use Rattle.pvp_book.specs.Kept.{IsAccount, after_posting}
use Rattle.pvp_book.proofs.LimitsLemmas.{worth-within, debt-within, shortage-within, shortage-most, fair-at}

-- what one currency adds to a sum over currencies is no more than the sum
pub term-le : (f : Currency × ℤ → ℕ) (cs : List Currency) (bs : List ℤ) (c : ℕ) (d : Currency) → c < length cs → c < length bs
    → f (slice_index_or cs c d, slice_index_or bs c (pos 0)) ≤ sum_by f (zip cs bs)
term-le f [] bs c d within places = absurd (omega arith)
term-le f (x ∷ xs) [] c d within places = absurd (omega arith)
term-le f (x ∷ xs) (b ∷ bs) zero d within places = let all = sum_by-cons f (x, b) (zip xs bs) in omega arith
term-le f (x ∷ xs) (b ∷ bs) (suc c) d within places =
    let all = sum_by-cons f (x, b) (zip xs bs) in
    let rest = term-le f xs bs c d (omega arith) (omega arith) in
    omega arith

-- and a new balance changes the sum by that currency alone
pub sum-zip-set : (f : Currency × ℤ → ℕ) (cs : List Currency) (bs : List ℤ) (c : ℕ) (d : Currency) (b : ℤ) → c < length cs → c < length bs
    → sum_by f (zip cs (slice_set bs c b)) + f (slice_index_or cs c d, slice_index_or bs c (pos 0)) ≡ sum_by f (zip cs bs) + f (slice_index_or cs c d, b)
sum-zip-set f [] bs c d b within places = absurd (omega arith)
sum-zip-set f (x ∷ xs) [] c d b within places = absurd (omega arith)
sum-zip-set f (x ∷ xs) (a ∷ bs) zero d b within places =
    let before = sum_by-cons f (x, a) (zip xs bs) in
    let after = sum_by-cons f (x, b) (zip xs bs) in
    omega arith
sum-zip-set f (x ∷ xs) (a ∷ bs) (suc c) d b within places =
    let before = sum_by-cons f (x, a) (zip xs bs) in
    let after = sum_by-cons f (x, a) (zip xs (slice_set bs c b)) in
    let rest = sum-zip-set f xs bs c d b (omega arith) (omega arith) in
    omega arith

-- a value once a balance is another
pub value-set : (cs : List Currency) (bs : List ℤ) (c : ℕ) (d : Currency) (b : ℤ) → c < length cs → c < length bs
    → value_of cs (slice_set bs c b) ≡ (value_of cs bs -ℤ standing_of (slice_index_or cs c d, slice_index_or bs c (pos 0))) +ℤ standing_of
    (slice_index_or cs c d, b)
value-set cs bs c d b within places =
    let worth = sum-zip-set worth_of cs bs c d b within places in
    let debt = sum-zip-set debt_of cs bs c d b within places in
    difference (sum_by worth_of (zip cs (slice_set bs c b))) (sum_by debt_of (zip cs (slice_set bs c b))) (sum_by worth_of (zip cs bs))
    (sum_by debt_of (zip cs bs))
    (worth_of (slice_index_or cs c d, slice_index_or bs c (pos 0))) (worth_of (slice_index_or cs c d, b))
    (debt_of (slice_index_or cs c d, slice_index_or bs c (pos 0))) (debt_of (slice_index_or cs c d, b)) worth debt
  where
    difference : (w' d' w d x x' y y' : ℕ) → w' + x ≡ w + x' → d' + y ≡ d + y' → pos w' -ℤ pos d' ≡ ((pos w -ℤ pos d) -ℤ (pos x -ℤ pos y)) +ℤ (pos x' -ℤ pos y')
    difference w' d' w d x x' y y' p q = omega (arith, ints)

-- and a shortage
pub shortage-set : (cs : List Currency) (bs : List ℤ) (c : ℕ) (d : Currency) (b : ℤ) → c < length cs → c < length bs
    → sum_by shortage_of (zip cs (slice_set bs c b)) ≡ sum_by shortage_of (zip cs bs) - shortage_of
    (slice_index_or cs c d, slice_index_or bs c (pos 0)) + shortage_of (slice_index_or cs c d, b)
shortage-set cs bs c d b within places =
    let changed = sum-zip-set shortage_of cs bs c d b within places in
    let part = term-le shortage_of cs bs c d within places in
    difference (sum_by shortage_of (zip cs (slice_set bs c b))) (sum_by shortage_of (zip cs bs))
    (shortage_of (slice_index_or cs c d, slice_index_or bs c (pos 0))) (shortage_of (slice_index_or cs c d, b)) changed part
  where
    difference : (s' s x x' : ℕ) → s' + x ≡ s + x' → x ≤ s → s' ≡ s - x + x'
    difference s' s x x' p q = omega arith

-- what a value comes to at most
pub value-within : (setup : Setup) (bs : List ℤ) → IsValid setup → All (IsWithin (2 * most_total)) bs
    → IsWithin (8 * (2 * most_total * 1000000 * 20000)) (value_of setup.currencies bs)
value-within setup bs valid small =
    let worth = worth-within setup bs valid (valid-currencies setup valid).1 small in
    let debt = debt-within setup bs valid (valid-currencies setup valid).1 small in
    within (sum_by worth_of (zip setup.currencies bs)) (sum_by debt_of (zip setup.currencies bs)) worth debt
  where
    within : (w d : ℕ) → w ≤ 8 * (2 * most_total * 1000000 * 20000) → d ≤ 8 * (2 * most_total * 1000000 * 20000)
        → IsWithin (8 * (2 * most_total * 1000000 * 20000)) (pos w -ℤ pos d)
    within w d p q = record { above = omega (arith, ints); below = omega (arith, ints) }

-- the arithmetic of a posting leaves no type
pub balance-posted : (b amt : ℤ) → IsWithin (2 * most_total) b → IsWithin most_total amt
    → (to_z w64 (of_z w64 (to_z w64 (of_z w64 b) +ℤ to_z w64 (of_z w64 amt))) ≡ b +ℤ amt) × IsWithin (3 * most_total) (b +ℤ amt)
balance-posted b amt small few =
    let low = small.above in let high = small.below in let least = few.above in let most = few.below in
    (omega (arith, ints), record { above = omega (arith, ints); below = omega (arith, ints) })

pub standing-fits : (x y : ℕ) → x ≤ 3 * most_total * 1000000 * 20000 → y ≤ 3 * most_total * 1000000 * 20000
    → FitsSigned w128 (to_z w128 x -ℤ to_z w128 y) × (to_z w128 (of_z w128 (to_z w128 x -ℤ to_z w128 y)) ≡ pos x -ℤ pos y)
    × IsWithin most_standing (pos x -ℤ pos y)
standing-fits x y p q = (omega (arith, ints), omega (arith, ints), record { above = omega (arith, ints); below = omega (arith, ints) })

pub value-less : (v s : ℤ) → IsWithin (8 * (2 * most_total * 1000000 * 20000)) v → IsWithin most_standing s
    → FitsSigned w128 (to_z w128 (of_z w128 v) -ℤ to_z w128 (of_z w128 s))
value-less v s small few =
    let low = small.above in let high = small.below in let least = few.above in let most = few.below in
    omega (arith, ints)

pub value-more : (v s t : ℤ) → IsWithin (8 * (2 * most_total * 1000000 * 20000)) v → IsWithin most_standing s → IsWithin most_standing t
    → FitsSigned w128 (to_z w128 (of_z w128 (to_z w128 (of_z w128 v) -ℤ to_z w128 (of_z w128 s))) +ℤ to_z w128 (of_z w128 t))
    × (to_z w128 (of_z w128 (to_z w128 (of_z w128 (to_z w128 (of_z w128 v) -ℤ to_z w128 (of_z w128 s))) +ℤ to_z w128 (of_z w128 t))) ≡ (v -ℤ s) +ℤ t)
value-more v s t small few more =
    let low = small.above in let high = small.below in let least = few.above in let most = few.below in let lo = more.above in let hi = more.below in
    (omega (arith, ints), omega (arith, ints))

-- a posting: the account `a` before it, and the currency as the code reads it
pub record IsPosting (setup : Setup) (a : Account) (c : ℕ) (amt : ℤ) (read : Currency) : Type 0 where
  pub valid : IsValid setup
  pub account : IsAccount setup.currencies a
  pub known : c < length setup.currencies
  pub small : All (IsWithin (2 * most_total)) a.balances
  pub amount : IsWithin most_total amt
  pub currency : slice_index_or setup.currencies c read ≡ read

module _ (setup : Setup) (a : Account) (c : ℕ) (amt : ℤ) (read : Currency) (is : IsPosting setup a c amt read) where
  pub posting-place : c < 8
  posting-place = let few = (valid-currencies setup is.valid).1 in let known = is.known in omega arith

  pub posting-within : c < length a.balances
  posting-within = let here = posting-place in let all = is.account.places in omega arith

  pub posting-fair : (read.rate ≤ 1000000) × (read.haircut ≤ 9999)
  posting-fair = subst (λ (x : Currency). (x.rate ≤ 1000000) × (x.haircut ≤ 9999)) is.currency (fair-at setup is.valid c read is.known)

  pub posting-small : IsWithin (2 * most_total) (slice_index_or a.balances c (pos 0))
  posting-small = All-get_or (IsWithin (2 * most_total)) a.balances c (pos 0) posting-within is.small

  pub posting-after : (at : ℕ) → at ≡ c
      → (to_z w64 (of_z w64 (to_z w64 (of_z w64 (slice_index_or a.balances at (pos 0))) +ℤ to_z w64 (of_z w64 amt)))
      ≡ slice_index_or a.balances c (pos 0) +ℤ amt)
      × IsWithin (3 * most_total) (to_z w64 (of_z w64 (to_z w64 (of_z w64 (slice_index_or a.balances at (pos 0))) +ℤ to_z w64 (of_z w64 amt))))
  posting-after at here =
      let both = balance-posted (slice_index_or a.balances c (pos 0)) amt posting-small is.amount in
      let same = ap (λ i. to_z w64 (of_z w64 (to_z w64 (of_z w64 (slice_index_or a.balances i (pos 0))) +ℤ to_z w64 (of_z w64 amt)))) here ∙ both.0 in
      (same, subst (IsWithin (3 * most_total)) (sym same) both.1)

  pub posting-read : (at : ℕ) → at ≡ c → to_z w64 (of_z w64 (slice_index_or a.balances at (pos 0))) ≡ slice_index_or a.balances c (pos 0)
  posting-read at here = ap (λ i. to_z w64 (of_z w64 (slice_index_or a.balances i (pos 0)))) here ∙ same (slice_index_or a.balances c (pos 0)) posting-small
    where
      same : (b : ℤ) → IsWithin (2 * most_total) b → to_z w64 (of_z w64 b) ≡ b
      same b few = let low = few.above in let high = few.below in omega (arith, ints)

  pub posting-value : IsWithin (8 * (2 * most_total * 1000000 * 20000)) a.value
  posting-value =
      subst (IsWithin (8 * (2 * most_total * 1000000 * 20000))) (sym (ap (λ (x : Account). x.value) is.account.same))
      (value-within setup a.balances is.valid is.small)

  shortage-is : a.shortage ≡ sum_by shortage_of (zip setup.currencies a.balances)
  shortage-is = ap (λ (x : Account). x.shortage) is.account.same

  pub posting-shortage : (x : ℕ) → x ≡ shortage_of (read, slice_index_or a.balances c (pos 0)) → x ≤ a.shortage
  posting-shortage x is_x =
      let part = term-le shortage_of setup.currencies a.balances c read is.known posting-within in
      let same = ap (λ (d : Currency). shortage_of (d, slice_index_or a.balances c (pos 0))) (sym is.currency) in
      let all = shortage-is in
      omega arith

  pub posting-shortage-fits : (after : ℤ) (less more : ℕ) → IsWithin (3 * most_total) after → more ≡ shortage_of (read, after)
      → Fits w128 (a.shortage - less + more)
  posting-shortage-fits after less more small is_more =
      let most = shortage-within setup a.balances is.valid (valid-currencies setup is.valid).1 is.small in
      let next = shortage-most read after (3 * most_total) posting-fair.0 small in
      let all = shortage-is in
      omega arith

  -- what the code writes is the account that is posted
  pub posting-is : (at : ℕ) (after s t : ℤ) (x y : ℕ) → at ≡ c → after ≡ slice_index_or a.balances c (pos 0) +ℤ amt
      → s ≡ standing_of (read, slice_index_or a.balances c (pos 0)) → t ≡ standing_of (read, after)
      → x ≡ shortage_of (read, slice_index_or a.balances c (pos 0)) → y ≡ shortage_of (read, after)
      → record { balances = slice_set a.balances at after; value = (a.value -ℤ s) +ℤ t; shortage = a.shortage - x + y } ≡ after_posting setup.currencies c amt a
  posting-is at after s t x y here is_after is_s is_t is_x is_y =
      let b = slice_index_or a.balances c (pos 0) in
      let values : (a.value -ℤ s) +ℤ t ≡ value_of setup.currencies (slice_set a.balances c (b +ℤ amt)) =
      (λ i. (a.value -ℤ is_s i) +ℤ is_t i) ∙ ap (λ (d : Currency). (a.value -ℤ standing_of (d, b)) +ℤ standing_of (d, after)) (sym is.currency)
      ∙ ap (λ z. (a.value -ℤ standing_of (slice_index_or setup.currencies c read, b)) +ℤ standing_of (slice_index_or setup.currencies c read, z)) is_after
      ∙ ap (λ z. (z -ℤ standing_of (slice_index_or setup.currencies c read, b)) +ℤ standing_of (slice_index_or setup.currencies c read, b +ℤ amt))
      (ap (λ (k : Account). k.value) is.account.same)
      ∙ sym (value-set setup.currencies a.balances c read (b +ℤ amt) is.known posting-within) in
      let shortages : a.shortage - x + y ≡ sum_by shortage_of (zip setup.currencies (slice_set a.balances c (b +ℤ amt))) =
      (λ i. a.shortage - is_x i + is_y i) ∙ ap (λ (d : Currency). a.shortage - shortage_of (d, b) + shortage_of (d, after)) (sym is.currency)
      ∙ ap (λ z. a.shortage - shortage_of (slice_index_or setup.currencies c read, b) + shortage_of (slice_index_or setup.currencies c read, z)) is_after
      ∙ ap (λ z. z - shortage_of (slice_index_or setup.currencies c read, b) + shortage_of (slice_index_or setup.currencies c read, b +ℤ amt)) shortage-is
      ∙ sym (shortage-set setup.currencies a.balances c read (b +ℤ amt) is.known posting-within) in
      let balances : slice_set a.balances at after ≡ slice_set a.balances c (b +ℤ amt) = λ i. slice_set a.balances (here i) (is_after i) in
      λ i. record { balances = balances i; value = values i; shortage = shortages i }
