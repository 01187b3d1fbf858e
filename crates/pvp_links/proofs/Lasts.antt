-- What stands at the front, once it is whole or wrong, stays so whatever comes behind it.
use Rattle.std.proofs.Common.{◌≡◌, ◌≢◌, ℕ, ◌+◌, ◌==◌, ◌≤◌, Bool, true, false, not, cond, nat_lt, List, ◌++◌, length, take, drop, Option, Some, None, Result, Ok, Err, refl, ap, ◌∙◌, arith}
use Rattle.std.specs.Str.{bytes_eq}
use Rattle.std.proofs.lemmas.Bool.{ltb-false, le-ltb}
use Rattle.std.proofs.lemmas.List.{drop-append-le, take-append-le, length-append, length-drop}
use Rattle.byteorder.specs.Endian.{big_number}
use Rattle.byteorder.specs.Numbers.{big_from-append}
use Rattle.pvp_links.specs.declared.fault.LinkFault.{LinkFault}
use Rattle.pvp_links.specs.declared.fault.LinkFault.TheVariants as fault
use Rattle.pvp_links.specs.declared.link.Link.{Link}
use Rattle.pvp_links.specs.Sealing.{tag_size, hello_length}
use Rattle.pvp_links.specs.Fronts.{sealed_at, caller_at, hello_of, hello_at, is_length, size_if, size_at, said_in, with_size, front_of, front_where, front}
use Rattle.pvp_links.proofs.Sealed.{is_there}
use Rattle.pvp_links.proofs.Found.{size-is}

-- no more bytes are wanted
enough : {A : Type 0} (b : Bool) (wait x : A) → cond b wait x ≢ wait → b ≡ false
enough true wait x h = absurd (h refl)
enough false wait x h = refl

-- behind a test that stays as it is
gate : {A : Type 0} (b : Bool) (wait wrong x y : A) → (x ≢ wait → y ≡ x) → cond b wrong x ≢ wait → cond b wrong y ≡ cond b wrong x
gate true wait wrong x y k h = refl
gate false wait wrong x y k h = k h

longer : (bytes more : List ℕ) (n : ℕ) → n ≤ length bytes → nat_lt (length (bytes ++ more)) n ≡ false
longer bytes more n long = le-ltb _ _ (omega (arith, length-append bytes more))

sealed-lasts : (link : Link) (size : ℕ) (bytes more : List ℕ) → sealed_at link size bytes ≢ Ok false
    → sealed_at link size (bytes ++ more) ≡ sealed_at link size bytes
unfolding sealed_at
sealed-lasts link size bytes more h =
    let b = enough (nat_lt (length bytes) (size + tag_size link)) _ _ h in
    let long : size + tag_size link ≤ length bytes = ltb-false _ _ b in
    let text : take size (bytes ++ more) ≡ take size bytes = take-append-le size bytes more (omega arith) in
    let tail : take (tag_size link) (drop size (bytes ++ more)) ≡ take (tag_size link) (drop size bytes) =
    ap (take (tag_size link)) (drop-append-le size bytes more (omega arith)) ∙ take-append-le (tag_size link) (drop size bytes) more
    (omega (arith, length-drop size bytes)) in
    rw (longer bytes more (size + tag_size link) long, b, text, tail) refl

size-lasts : (link : Link) (bytes more : List ℕ) → size_at link bytes ≢ Ok None → size_at link (bytes ++ more) ≡ size_at link bytes
unfolding size_at
size-lasts link bytes more h =
    let n = big_number 4 bytes in
    let b = enough (nat_lt (length bytes) 4) _ _ h in
    let long : 4 ≤ length bytes = ltb-false _ _ b in
    let number-is : big_number 4 (bytes ++ more) ≡ n = big_from-append 4 bytes more long in
    let there = size_if (4 + n) (sealed_at link (4 + n) bytes) in
    let again = size_if (4 + n) (sealed_at link (4 + n) (bytes ++ more)) in
    let inner : there ≢ Ok None → again ≡ there = λ k. ap (size_if (4 + n)) (sealed-lasts link (4 + n) bytes more (λ e. k (ap (size_if (4 + n)) e))) in
    let behind : cond (not (is_length n)) (Err fault.Length) there ≢ Ok None = λ e. h (rw b e) in
    rw (longer bytes more 4 long, b, number-is) (gate (not (is_length n)) (Ok None) (Err fault.Length) there again inner behind)

front_of-lasts : (link : Link) (bytes more : List ℕ) (r : Result (Option ℕ) LinkFault) → size_at link bytes ≡ r
    → front_of false link (bytes ++ more) r ≡ front_of false link bytes r
front_of-lasts link bytes more (Err why) e = refl
front_of-lasts link bytes more (Ok None) e = refl
front_of-lasts link bytes more (Ok (Some n)) e =
    let begins = is_there link n bytes (size-is link bytes n e).there in
    let text : take n (bytes ++ more) ≡ take n bytes = take-append-le n bytes more (omega (arith, begins.within)) in
    ap (λ (t : List ℕ). with_size (n + tag_size link) (said_in false link t)) text

pub front-lasts : (link : Link) (bytes more : List ℕ) → front link bytes ≢ Ok None → front link (bytes ++ more) ≡ front link bytes
unfolding front_where
front-lasts link bytes more h =
    let same = size-lasts link bytes more (λ e. h (ap (front_of false link bytes) e)) in
    ap (front_of false link (bytes ++ more)) same ∙ front_of-lasts link bytes more (size_at link bytes) refl

pub caller-lasts : (bank bytes more : List ℕ) → caller_at bank bytes ≢ Ok None → caller_at bank (bytes ++ more) ≡ caller_at bank bytes
unfolding caller_at
caller-lasts bank bytes more h =
    let b = enough (nat_lt (length bytes) 4) _ _ h in
    let long : 4 ≤ length bytes = ltb-false _ _ b in
    let number-is : big_number 4 (bytes ++ more) ≡ big_number 4 bytes = big_from-append 4 bytes more long in
    let named =
    λ (xs : List ℕ). let found : Result (Option ℕ) LinkFault =
    cond (not (bytes_eq (take 32 (drop 6 xs)) bank)) (Err fault.Hello) (Ok (Some (big_number 2 (drop 4 xs)))) in found in
    let there = λ (xs : List ℕ). let found : Result (Option ℕ) LinkFault = cond (nat_lt (length xs) (4 + hello_length)) (Ok None) (named xs) in found in
    let inner : there bytes ≢ Ok None → there (bytes ++ more) ≡ there bytes = λ k.
    let c = enough (nat_lt (length bytes) (4 + hello_length)) _ _ k in
    let whole : 54 ≤ length bytes = ltb-false _ _ c in
    let id : take 32 (drop 6 (bytes ++ more)) ≡ take 32 (drop 6 bytes) =
    ap (take 32) (drop-append-le 6 bytes more (omega arith)) ∙ take-append-le 32 (drop 6 bytes) more (omega (arith, length-drop 6 bytes)) in
    let who : big_number 2 (drop 4 (bytes ++ more)) ≡ big_number 2 (drop 4 bytes) =
    ap (big_number 2) (drop-append-le 4 bytes more long) ∙ big_from-append 2 (drop 4 bytes) more (omega (arith, length-drop 4 bytes)) in
    rw (longer bytes more 54 whole, c, id, who) refl in
    let behind : cond (not (big_number 4 bytes == hello_length)) (Err fault.Hello) (there bytes) ≢ Ok None = λ e. h (rw b e) in
    rw (longer bytes more 4 long, b, number-is) (gate (not (big_number 4 bytes == hello_length)) (Ok None) (Err fault.Hello) (there bytes)
    (there (bytes ++ more)) inner behind)

hello_of-lasts : (link : Link) (bytes more : List ℕ) (r : Result (Option ℕ) LinkFault) → hello_of link bytes r ≢ Ok false
    → hello_of link (bytes ++ more) r ≡ hello_of link bytes r
hello_of-lasts link bytes more (Err why) h = refl
hello_of-lasts link bytes more (Ok None) h = refl
hello_of-lasts link bytes more (Ok (Some actor)) h =
    gate (not (actor == link.peer)) (Ok false) (Err fault.Hello) (sealed_at link (4 + hello_length) bytes) (sealed_at link (4 + hello_length) (bytes ++ more))
    (sealed-lasts link (4 + hello_length) bytes more) h

pub hello-lasts : (link : Link) (bytes more : List ℕ) → hello_at link bytes ≢ Ok false → hello_at link (bytes ++ more) ≡ hello_at link bytes
hello-lasts link bytes more h =
    let same = caller-lasts link.bank bytes more (λ e. h (ap (hello_of link bytes) e)) in
    ap (hello_of link (bytes ++ more)) same ∙ hello_of-lasts link bytes more (caller_at link.bank bytes) h
