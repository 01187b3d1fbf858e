-- Which texts have no tree.
use Rattle.std.proofs.Common.{◌≡◌, ℕ, ◌<◌, List, [], ◌∷◌, length, Bool, true, false, Option, Some, None, Err, refl, ap, cond, arith}
use Rattle.std.specs.Prelude.{ok_or}
use Rattle.std.specs.Str.{IsUtf8, is_utf8}
use Rattle.std.proofs.lemmas.Str.{IsUtf8-from_is_utf8}
use Rattle.serde_json.specs.Data.{Data}
use Rattle.serde_json.specs.Read.{read}
use Rattle.pvp_text.specs.declared.setup.TextFault.{TextFault}
use Rattle.pvp_text.specs.declared.setup.TextFault.TheVariants.{NotJson}
use Rattle.pvp_text.specs.SetupText.{tree}

none_at : (b : Bool) (found : Option Data) → (b ≡ true → found ≡ None) → cond b found None ≡ None
none_at true found h = h refl
none_at false found h = refl

-- a text that is no UTF-8, or is not read, has no tree
pub no_tree : (bytes : List ℕ) → (IsUtf8 bytes → read bytes ≡ None) → tree None bytes ≡ Err NotJson
no_tree bytes h = ap (λ found. ok_or found NotJson) (none_at (is_utf8 bytes) (read bytes) (λ e. h (IsUtf8-from_is_utf8 bytes e)))

-- a text with a byte takes memory
pub takes_memory : (refusal : TextFault) (bytes : List ℕ) → 0 < length bytes → tree (Some refusal) bytes ≡ Err refusal
takes_memory refusal [] some = absurd (omega arith)
takes_memory refusal (b ∷ bytes) some = refl
