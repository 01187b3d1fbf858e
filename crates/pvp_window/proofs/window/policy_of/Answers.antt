use Rattle.std.proofs.Common.{◌≡◌, ℕ, List, map, Bor, Ok, Err, ap, sym, ◌∙◌, codes, string_bytes, true≢false, if◌then◌else◌, inl, inr}
use Rattle.std.specs.Prelude.{IsErrOf}
use Rattle.std.specs.List.{list_all}
use Rattle.std.proofs.lemmas.Bool.{cases_Bool}
use Rattle.std.proofs.lemmas.List.Sums.{AllPass-from_list_all, list_all-from_AllPass}
use Rattle.http_header.specs.Token.{is_value_byte}
use Rattle.http_header.specs.FieldValue.{FieldValue, IsFieldValue}
use Rattle.pvp_window.specs.Neighbours.{policy_text}
use Rattle.pvp_window.proofs.window.policy_of.Goals as goal

no_fault : {T E : Type 0} (x : T) (fault : E) → IsErrOf (Ok x) fault → ⊥
no_fault x fault is = cc

-- a text stands where a field can have it, and something else where none can
stands : (bytes text all other : List ℕ) → bytes ≡ text → text ≡ all → ((IsFieldValue text → ⊥) → ⊥)
    → bytes ≡ (if list_all is_value_byte all then all else other)
stands bytes text all other e told can =
    elim (cases_Bool (list_all is_value_byte text)) [
      | inl is ↦ rw (← told, is) e
      | inr is_not ↦ absurd (can (λ fits. true≢false (sym (list_all-from_AllPass is_value_byte text fits) ∙ is_not)))
    ]

yields : (bytes text all other : List ℕ) → bytes ≡ other → text ≡ all → (IsFieldValue text → ⊥)
    → bytes ≡ (if list_all is_value_byte all then all else other)
yields bytes text all other e told cannot =
    elim (cases_Bool (list_all is_value_byte text)) [
      | inl is ↦ absurd (cannot (AllPass-from_list_all is_value_byte text is))
      | inr is_not ↦ rw (← told, is_not) e
    ]

pub returns-in-Ok : goal.returns-in-Ok
returns-in-Ok c =
    stands c.in-Ok.value.bytes (string_bytes c.in_ok-policy_text.field-0)
    (policy_text (map (λ (name : Bor (List ℕ)). name.now) c.args.names.now)) (codes "default-src 'none'")
    (ap (λ (value : FieldValue). value.bytes) c.in-Ok.ensures.ok) c.in_ok-policy_text.ensures
    (λ cannot. no_fault _ _ (c.in-Ok.ensures.invalid.1 cannot))

pub returns-in-Err-Invalid : goal.returns-in-Err-Invalid
returns-in-Err-Invalid c =
    yields c.from_static.result.bytes (string_bytes c.in_ok-policy_text.field-0)
    (policy_text (map (λ (name : Bor (List ℕ)). name.now) c.args.names.now)) (codes "default-src 'none'")
    (ap (λ (value : FieldValue). value.bytes) c.from_static.ensures) c.in_ok-policy_text.ensures
    (c.in-Err-Invalid.ensures.invalid.0 (ap Err c.in-Err-Invalid.field-0-is))
