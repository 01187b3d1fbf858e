-- The values of a line's words, read one after the other, as a loop does.
use Rattle.std.proofs.Common.{◌≡◌, ℕ, Bool, true, false, List, [], ◌∷◌, ◌++◌, Option, Some, None, Result, Ok, Err, refl, sym, ap, ◌∙◌, append_assoc, inl, inr}
use Rattle.std.proofs.lemmas.Bool.{cases_Bool}
use Rattle.pvp_types.specs.declared.setup.Setup.{Setup}
use Rattle.pvp_text.specs.declared.script.Kind.{Kind}
use Rattle.pvp_text.specs.declared.script.LineCode.{LineCode}
use Rattle.pvp_text.specs.declared.script.fields.Value.{Value}
use Rattle.pvp_text.specs.declared.script.fields.WordFault.{WordFault}
use Rattle.pvp_text.specs.declared.script.table.Field.{Field}
use Rattle.pvp_text.specs.Reading.{◌>>=◌}
use Rattle.pvp_text.specs.ScriptFields.{is_of_name, unknown_before, wrong_before, both, value_at, values_at, graver_fault}

-- what all words say, given those of the words so far, the gravest fault of these, and what the others say
abbrev pub with_later : Option WordFault → List Value → Result (List Value) LineCode → Result (List Value) LineCode
with_later None front later = later >>= λ others. Ok (front ++ others)
with_later (Some fault) front later = wrong_before fault later

unknown_more : (value : Value) (later : Result (List Value) LineCode) → unknown_before (both (Ok value) later) ≡ unknown_before later
unknown_more value (Ok others) = refl
unknown_more value (Err code) = refl

-- one word more that says something
pub one_more : (fault : Option WordFault) (front : List Value) (value : Value) (later : Result (List Value) LineCode)
    → with_later fault front (both (Ok value) later) ≡ with_later fault (front ++ value ∷ []) later
one_more None front value (Ok others) = ap (λ (all : List Value). Ok all) (sym (append_assoc front (value ∷ []) others))
one_more None front value (Err code) = refl
one_more (Some fault) front value later = elim (cases_Bool (is_of_name fault)) [
  | inl name ↦ rw name (unknown_more value later)
  | inr number ↦ rw number refl
]

none_before : (front : List Value) (later : Result (List Value) LineCode) → (unknown_before later >>= λ others. Ok (front ++ others)) ≡ unknown_before later
none_before front (Ok others) = refl
none_before front (Err code) = refl

twice : (later : Result (List Value) LineCode) → unknown_before (unknown_before later) ≡ unknown_before later
twice (Ok others) = refl
twice (Err code) = refl

both_wrong : (found : WordFault) (later : Result (List Value) LineCode) → unknown_before (wrong_before found later) ≡ wrong_before found later
both_wrong found later = elim (cases_Bool (is_of_name found)) [
  | inl name ↦ rw name (twice later)
  | inr number ↦ rw number refl
]

-- one word more that is wrong
pub one_wrong : (fault : Option WordFault) (front : List Value) (found : WordFault) (later : Result (List Value) LineCode)
    → with_later fault front (both (Err found) later) ≡ with_later (Some (graver_fault fault found)) front later
one_wrong None front found later = elim (cases_Bool (is_of_name found)) [
  | inl name ↦ rw name (none_before front later)
  | inr number ↦ rw number refl
]
one_wrong (Some before) front found later = elim (cases_Bool (is_of_name before)) [
  | inl name ↦ rw name (both_wrong found later)
  | inr number ↦ rw number (rw number refl)
]

-- ---- a step of the loop

pub goes_on : (kind : Kind) (setup : Setup) (field : Field) (fields : List Field) (word : List ℕ) (said : List (List ℕ)) (fault : Option WordFault)
    (front : List Value) (value : Value) (whole : Result (List Value) LineCode)
    → whole ≡ with_later fault front (values_at kind setup (field ∷ fields) (word ∷ said)) → value_at kind setup field word ≡ Ok value
    → whole ≡ with_later fault (front ++ value ∷ []) (values_at kind setup fields said)
goes_on kind setup field fields word said fault front value whole so_far is =
    (rw is at so_far) ∙ one_more fault front value (values_at kind setup fields said)

pub goes_wrong : (kind : Kind) (setup : Setup) (field : Field) (fields : List Field) (word : List ℕ) (said : List (List ℕ)) (fault : Option WordFault)
    (front : List Value) (found : WordFault) (whole : Result (List Value) LineCode)
    → whole ≡ with_later fault front (values_at kind setup (field ∷ fields) (word ∷ said)) → value_at kind setup field word ≡ Err found
    → whole ≡ with_later (Some (graver_fault fault found)) front (values_at kind setup fields said)
goes_wrong kind setup field fields word said fault front found whole so_far is =
    (rw is at so_far) ∙ one_wrong fault front found (values_at kind setup fields said)
