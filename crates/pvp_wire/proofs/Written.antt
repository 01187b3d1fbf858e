-- What is written in parts.
use Rattle.std.proofs.Common.{ℕ, List, ◌++◌, Option, Some, None, ap, ◌∙◌, append_assoc}
use Rattle.std.specs.Io.KnownBytes.{Appends}

-- bytes, and then more
pub appends_then : (old mid new : Option (List ℕ)) (xs ys : List ℕ) → Appends old mid xs → Appends mid new ys → Appends old new (xs ++ ys)
appends_then None mid new xs ys first then = tt
appends_then (Some a) None new xs ys first then = absurd first
appends_then (Some a) (Some b) None xs ys first then = absurd then
appends_then (Some a) (Some b) (Some c) xs ys first then = then ∙ ap (λ l. l ++ ys) first ∙ append_assoc a xs ys
