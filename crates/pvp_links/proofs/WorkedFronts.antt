-- Texts and fronts that are worked by hand.
use Rattle.std.proofs.Common.{◌≡◌, ℕ, true, false, List, [], ◌∷◌, ◌++◌, Some, None, Ok, Err, refl}
use Rattle.pvp_wire.specs.Spelling.{number}
use Rattle.pvp_links.specs.declared.fault.LinkFault.TheVariants as fault
use Rattle.pvp_links.specs.declared.link.Link.{Link}
use Rattle.pvp_links.specs.Sealing.{head_of, tag_under, size_under, next, hello_text, ping_text}
use Rattle.pvp_links.specs.Fronts.{Lives, caller_at, sealed_at, is_length, size_at, said_in, front_where, front}

ping : ping_text ≡ 0 ∷ 0 ∷ 0 ∷ 0 ∷ []
unfolding number
ping = refl

-- the hello of site 0
hello : (bank nonce : List ℕ) → hello_text 200 bank nonce ≡ 0 ∷ 0 ∷ 0 ∷ 50 ∷ 0 ∷ 200 ∷ bank ++ nonce
unfolding number
hello bank nonce = refl

-- what is tagged before the fourth text of member 1
head : head_of 1 3 ≡ 0 ∷ 1 ∷ 0 ∷ 0 ∷ 0 ∷ 0 ∷ 0 ∷ 0 ∷ 0 ∷ 3 ∷ []
unfolding number
head = refl

-- a text more is another tag; the last number stays
counted : (link : Link) → link.count ≡ 3 → (next link).count ≡ 4
counted link three = rw three refl

counted_out : (link : Link) → link.count ≡ 18446744073709551615 → (next link).count ≡ 18446744073709551615
counted_out link last = rw last refl

-- the lengths: none, 18 and 4,194,304 are some, and those beside them are none
lengths : (is_length 0 ≡ true) × (is_length 1 ≡ false) × (is_length 17 ≡ false) × (is_length 18 ≡ true) × (is_length 4194304 ≡ true)
    × (is_length 4194305 ≡ false)
lengths = (refl, refl, refl, refl, refl, refl)

-- whatever the link: three bytes are too few, and a length of 17 is wrong as soon as it is there
too_few : (link : Link) → front link (0 ∷ 0 ∷ 0 ∷ []) ≡ Ok None
unfolding front_where size_at
too_few link = refl

wrong_length : (link : Link) → front link (0 ∷ 0 ∷ 0 ∷ 17 ∷ []) ≡ Err fault.Length
unfolding front_where size_at
wrong_length link = refl

-- a ping on a link without a key, with another byte behind it
pinged : (link : Link) → link.key ≡ None → front link (0 ∷ 0 ∷ 0 ∷ 0 ∷ 9 ∷ []) ≡ Ok (Some (Lives, 4))
unfolding front_where size_at sealed_at tag_under size_under said_in
pinged link none = rw none refl

-- with a key its tag is waited for
waited : (link : Link) (key : List ℕ) → link.key ≡ Some key → front link (0 ∷ 0 ∷ 0 ∷ 0 ∷ 9 ∷ []) ≡ Ok None
unfolding front_where size_at sealed_at size_under
waited link key some = rw some refl

-- a frame of another length is no hello
no_hello : (bank : List ℕ) → caller_at bank (0 ∷ 0 ∷ 0 ∷ 34 ∷ []) ≡ Err fault.Hello
unfolding caller_at
no_hello bank = refl

half_a_hello : (bank : List ℕ) → caller_at bank (0 ∷ 0 ∷ 0 ∷ 50 ∷ 0 ∷ 200 ∷ []) ≡ Ok None
unfolding caller_at
half_a_hello bank = refl
