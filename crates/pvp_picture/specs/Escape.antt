-- How text stands in XML.
use Rattle.std.specs.Prelude.{ℕ, List, ◌==◌, if◌then◌else◌, codes, encode_utf8, Option, Some, None}

-- the name in XML of a sign that means something there: of `&` (38), `<` (60), `>` (62) and the double quote (34)
abbrev pub name_of_sign : ℕ → Option (List ℕ)
name_of_sign sign =
    if sign == 38 then Some (codes "&amp;")
    else if sign == 60 then Some (codes "&lt;")
    else if sign == 62 then Some (codes "&gt;")
    else if sign == 34 then Some (codes "&quot;")
    else None

-- a sign under its name, where it has one, and else as it is
abbrev pub named_or : Option (List ℕ) → ℕ → List ℕ
named_or (Some name) sign = name
named_or None sign = encode_utf8 sign

-- a sign as it stands in XML's text and in its attributes
abbrev pub sign_text : ℕ → List ℕ
sign_text sign = named_or (name_of_sign sign) sign
