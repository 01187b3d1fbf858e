-- Shapes: how a value is spelled in bytes, what fits the bytes that it has, and how it is read again, defined
-- together.
use Rattle.std.specs.Prelude.{ℕ, zero, suc, ◌^◌, ◌<◌, Bool, false, nat_lt, List, [], ◌∷◌, ◌++◌, length, drop, Result, Ok, Err, if◌then◌else◌}
use Rattle.std.specs.List.{flat_map}
use Rattle.byteorder.specs.Endian.{big_bytes, big_number}
use Rattle.pvp_wire.specs.declared.fault.WireFault.{WireFault}
use Rattle.pvp_wire.specs.declared.fault.WireFault.TheVariants.{Field, Length, NoMemory}

-- one step after another, up to the first that fails
infixl 10 ◌>>=◌
abbrev pub ◌>>=◌ : {A B : Type 0} → Result A WireFault → (A → Result B WireFault) → Result B WireFault
(Ok x) >>= f = f x
(Err e) >>= f = Err e

-- what is read from the front of bytes, and the bytes after it
abbrev pub Reads : Type 0 → Type 0
Reads A = Result (A × List ℕ) WireFault

-- what is read, as a part of something else
abbrev pub as_part : {A B : Type 0} → (A → B) → Reads A → Reads B
as_part make read = read >>= λ x. Ok (make x.0, x.1)

-- A shape. Reading takes memory for some values: the first argument says whether memory is refused.
pub record Shape (A : Type 0) : Type 1 where
  pub spell : A → List ℕ
  pub Fits : A → Type 0
  pub read : Bool → List ℕ → Reads A

-- ---- numbers

-- a number in a given count of bytes, the highest byte first
unfoldable pub number : ℕ → ℕ → List ℕ
number n x = big_bytes n x

-- a number fits a given count of bytes
abbrev pub Fits : ℕ → ℕ → Type 0
Fits n x = x < 256 ^ n

-- a number of a given count of bytes, which the frame's end may cut off
abbrev pub number_at : ℕ → List ℕ → Reads ℕ
number_at n bytes = if nat_lt (length bytes) n then Err Length else Ok (big_number n bytes, drop n bytes)

-- a number of a given count of bytes that must pass a test
abbrev pub listed_at : ℕ → (ℕ → Bool) → List ℕ → Reads ℕ
listed_at width is_listed bytes = number_at width bytes >>= λ n. if is_listed n.0 then Ok n else Err Field

-- a number of a given count of bytes, and one that must pass a test
abbrev pub wide : ℕ → Shape ℕ
wide n = record { spell = number n; Fits = Fits n; read = λ refused. number_at n }

abbrev pub wide_of : ℕ → (ℕ → Bool) → Shape ℕ
wide_of n is_listed = record { spell = number n; Fits = Fits n; read = λ refused. listed_at n is_listed }

-- no bytes
abbrev pub nothing : Shape (Unit {0})
nothing = record { spell = λ x. []; Fits = λ x. Unit {0}; read = λ refused bytes. Ok (tt, bytes) }

-- ---- parts, one after the other

-- The parts of a Z from one of them on. When they are read, the last step makes a Z of them.
pub record Chain (Z Make : Type 0) : Type 1 where
  pub spell : Z → List ℕ
  pub Fits : Z → Type 0
  pub read : Make → Bool → List ℕ → Reads Z

-- the last part of a Z, which is at this place in it
abbrev pub lastly : {Z A : Type 0} → Shape A → (Z → A) → Chain Z (A → Z)
lastly shape at = record {
  spell = λ z. shape.spell (at z);
  Fits = λ z. shape.Fits (at z);
  read = λ make refused bytes. shape.read refused bytes >>= λ x. Ok (make x.0, x.1);
}

-- a part, and those after it
infixr 5 ◌of◌and◌
abbrev pub ◌of◌and◌ : {Z A Make : Type 0} → Shape A → (Z → A) → Chain Z Make → Chain Z (A → Make)
shape of at and others = record {
  spell = λ z. shape.spell (at z) ++ others.spell z;
  Fits = λ z. shape.Fits (at z) × others.Fits z;
  read = λ make refused bytes. shape.read refused bytes >>= λ x. others.read (make x.0) refused x.1;
}

-- all parts of a Z, and what makes it of them
abbrev pub whole : {Z Make : Type 0} → Chain Z Make → Make → Shape Z
whole parts make = record { spell = parts.spell; Fits = parts.Fits; read = parts.read make }

-- two parts
abbrev pub pair : {A B : Type 0} → Shape A → Shape B → Shape (A × B)
pair a b = whole (a of (λ p. p.0) and lastly b (λ p. p.1)) (λ x y. (x, y))

-- ---- lists. In some, each item that was read is kept, and only that takes memory.

-- each item of a list fits
abbrev pub EachFits : {A : Type 0} → (A → Type 0) → List A → Type 0
EachFits ItemFits [] = Unit {0}
EachFits ItemFits (x ∷ xs) = ItemFits x × EachFits ItemFits xs

-- an item is kept
abbrev pub kept : {A : Type 0} → Bool → A → Result A WireFault
kept refused x = if refused then Err NoMemory else Ok x

-- a given count of items, each read in this way
unfoldable pub items_from : {A : Type 0} → (List ℕ → Reads A) → Bool → ℕ → List ℕ → Reads (List A)
items_from read refused zero bytes = Ok ([], bytes)
items_from read refused (suc count) bytes = do
  x ← read bytes
  first ← kept refused x.0
  others ← items_from read refused count x.1
  Ok (first ∷ others.0, others.1)

-- their count, and then the items
abbrev pub list_of : {A : Type 0} → Shape ℕ → Shape A → Shape (List A)
list_of count item = record {
  spell = λ items. count.spell (length items) ++ flat_map item.spell items;
  Fits = λ items. count.Fits (length items) × EachFits item.Fits items;
  read = λ refused bytes. count.read refused bytes >>= λ n. items_from (item.read false) refused n.0 n.1;
}

-- the same for items that lie in the value itself: reading them takes no memory
abbrev pub in_place : {A : Type 0} → Shape A → Shape A
in_place shape = record { spell = shape.spell; Fits = shape.Fits; read = λ refused. shape.read false }

-- ---- choices: each value of a type has a number and a shape, and the value of that shape

-- a value, described by these three
abbrev pub ByShape {ℓ} : Type ℓ → Type (1 ⊔ ℓ)
ByShape R = (A : Type 0) → ℕ → Shape A → A → R

-- the number as a tag, and behind it the bytes of the shape
abbrev pub with_tag : ByShape (List ℕ)
with_tag A tag shape x = tag ∷ shape.spell x

-- the bytes of the shape alone
abbrev pub spelled_by : ByShape (List ℕ)
spelled_by A tag shape x = shape.spell x

abbrev pub fits_by : ByShape (Type 0)
fits_by A tag shape x = shape.Fits x
