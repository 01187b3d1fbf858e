-- Hosts are text.
use Rattle.std.proofs.Common.{◌≡◌, ℕ, suc, ◌<◌, ◌≤◌, Bool, true, false, not, ◌&&◌, List, [], ◌∷◌, refl, arith}
use Rattle.std.specs.Prelude.{IsUtf8}
use Rattle.std.specs.Char.{is_ascii_graphic}
use Rattle.std.specs.List.{list_all}
use Rattle.std.specs.Str.{IsAscii}
use Rattle.std.proofs.lemmas.Bool.{leb-true}
use Rattle.std.proofs.lemmas.Str.{IsUtf8-from_ascii}
use Rattle.pvp_text.specs.ScriptWords.{is_empty}
use Rattle.pvp_places.specs.Address.{is_host}

both : (a b : Bool) → (a && b) ≡ true → (a ≡ true) × (b ≡ true)
both true true h = (refl, refl)
both true false h = absurd cc
both false b h = absurd cc

below : (c : ℕ) → is_ascii_graphic c ≡ true → c < 128
below c h =
    let most = leb-true c 126 (both _ _ h).1 in
    omega arith

ascii : (host : List ℕ) → list_all is_ascii_graphic host ≡ true → IsAscii host
ascii [] h i = omega arith
ascii (c ∷ cs) h Prim.Native.Nat.zero = below c (both (is_ascii_graphic c) (list_all is_ascii_graphic cs) h).0
ascii (c ∷ cs) h (suc i) = ascii cs (both (is_ascii_graphic c) (list_all is_ascii_graphic cs) h).1 i

pub no_text : (host : List ℕ) → is_host host ≡ true → ¬ (IsUtf8 host) → ⊥
no_text host h not_text = not_text (IsUtf8-from_ascii host (ascii host (both (not (is_empty host)) _ h).1))
