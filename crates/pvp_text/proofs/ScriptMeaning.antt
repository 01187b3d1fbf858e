-- The values of a line's words, and what the line means by them.
use Rattle.std.proofs.Common.{◌≡◌, ◌==◌, ℕ, suc, Bool, true, false, List, [], ◌∷◌, length, Result, Ok, Err, refl, sym, ap, ◌∙◌, subst, inl, inr, eqb-true, arith}
use Rattle.std.proofs.lemmas.Bool.{cases_Bool}
use Rattle.pvp_types.specs.declared.setup.Setup.{Setup}
use Rattle.pvp_text.specs.declared.script.Kind.{Kind}
use Rattle.pvp_text.specs.declared.script.LineCode.{LineCode}
use Rattle.pvp_text.specs.declared.script.LineCode.TheVariants.{Number, WordCount}
use Rattle.pvp_text.specs.declared.script.fields.Value.{Value}
use Rattle.pvp_text.specs.declared.script.fields.Value.TheVariants as values
use Rattle.pvp_text.specs.declared.script.fields.WordFault.{WordFault}
use Rattle.pvp_text.specs.declared.script.table.Field.{Field}
use Rattle.pvp_text.specs.declared.script.table.Field.TheVariants as fields
use Rattle.pvp_text.specs.Reading.{◌>>=◌}
use Rattle.pvp_text.specs.declared.script.table.Word.{Word}
use Rattle.pvp_text.specs.declared.script.table.Word.TheVariants as words
use Rattle.pvp_text.specs.Script.{said_at, instruction_of, statement_of}
use Rattle.pvp_text.specs.ScriptFields.{is_of_name, unknown_before, wrong_before, both, value_at, values_at, number_within, reference_at, actor_at, site_at, sender_of, client_of, currency_named, as_actor, as_currency, as_number, as_amount}
use Rattle.pvp_text.specs.ScriptTable.{fields_of}
use Rattle.pvp_text.specs.ScriptSaid.{is_of, AreOf, HaveTheirValues, MeanWhatTheySay}

-- ---- each value is of its word's kind

-- what is made of something that is read
said_of : {X : Type 0} (field : Field) (make : X → Value) → ((x : X) → is_of field (make x) ≡ true) → (read : Result X WordFault) (value : Value)
    → (read >>= λ x. Ok (make x)) ≡ Ok value → is_of field value ≡ true
said_of field make each (Ok x) value is = let same : make x ≡ value = cc in subst (λ v. is_of field v ≡ true) same (each x)
said_of field make each (Err fault) value is = absurd cc

said_then : {X Y : Type 0} (field : Field) (make : Y → Value) → ((y : Y) → is_of field (make y) ≡ true) → (then : X → Result Y WordFault)
    → (read : Result X WordFault) (value : Value) → (read >>= λ x. then x >>= λ y. Ok (make y)) ≡ Ok value → is_of field value ≡ true
said_then field make each then (Ok x) value is = said_of field make each (then x) value is
said_then field make each then (Err fault) value is = absurd cc

value_is : (kind : Kind) (setup : Setup) (field : Field) (word : List ℕ) (value : Value) → value_at kind setup field word ≡ Ok value
    → is_of field value ≡ true
value_is kind setup fields.First word value is = let same : values.None ≡ value = cc in subst (λ v. is_of fields.First v ≡ true) same refl
value_is kind setup fields.Command word value is = let same : values.None ≡ value = cc in subst (λ v. is_of fields.Command v ≡ true) same refl
value_is kind setup fields.Amount word value is = said_of fields.Amount values.Amount (λ n. refl) _ value is
value_is kind setup fields.Number word value is = said_of fields.Number values.Number (λ n. refl) _ value is
value_is kind setup fields.Turns word value is = said_of fields.Turns values.Number (λ n. refl) _ value is
value_is kind setup fields.Sender word value is = said_then fields.Sender values.Actor (λ n. refl) (sender_of kind setup) (reference_at 65535 word) value is
value_is kind setup fields.Client word value is = said_then fields.Client values.Actor (λ n. refl) _ (reference_at 65535 word) value is
value_is kind setup fields.Currency word value is =
    said_then fields.Currency values.Currency (λ n. refl) (currency_named setup) (reference_at 255 word) value is
value_is kind setup fields.Actor word value is = said_then fields.Actor values.Actor (λ n. refl) _ (actor_at word) value is
value_is kind setup fields.Site word value is = said_of fields.Site values.Actor (λ n. refl) (site_at word) value is

-- a word that is wrong leaves no values
none_unknown : (later : Result (List Value) LineCode) (values : List Value) → unknown_before later ≡ Ok values → ⊥
none_unknown (Ok others) values is = absurd cc
none_unknown (Err code) values is = absurd cc

none_wrong : (fault : WordFault) (later : Result (List Value) LineCode) (values : List Value) → wrong_before fault later ≡ Ok values → ⊥
none_wrong fault later values is = elim (cases_Bool (is_of_name fault)) [
  | inl name ↦ none_unknown later values (rw name at is)
  | inr number ↦ let bad : ◌≡◌ {A = Result (List Value) LineCode} (Err Number) (Ok values) = rw number at is in absurd cc
]

first_and_rest : (field : Field) (fields : List Field) (first : Result Value WordFault) (later : Result (List Value) LineCode) (values : List Value)
    → ((v : Value) → first ≡ Ok v → is_of field v ≡ true) → ((others : List Value) → later ≡ Ok others → AreOf fields others)
    → both first later ≡ Ok values → AreOf (field ∷ fields) values
first_and_rest field fields (Ok v) (Ok others) values here after is =
    let same : v ∷ others ≡ values = cc in subst (AreOf (field ∷ fields)) same (here v refl, after others refl)
first_and_rest field fields (Ok v) (Err code) values here after is = absurd cc
first_and_rest field fields (Err fault) later values here after is = absurd (none_wrong fault later values is)

values_are : (kind : Kind) (setup : Setup) (fields : List Field) (said : List (List ℕ)) (values : List Value) → length said ≡ length fields
    → values_at kind setup fields said ≡ Ok values → AreOf fields values
values_are kind setup [] said values count is = let same : [] ≡ values = cc in subst (AreOf []) same tt
values_are kind setup (field ∷ fields) [] values count is = absurd cc
values_are kind setup (field ∷ fields) (word ∷ words) values count is =
    let fewer : length words ≡ length fields = omega (arith, count) in
    first_and_rest field fields (value_at kind setup field word) (values_at kind setup fields words) values
    (value_is kind setup field word) (λ others after. values_are kind setup fields words others fewer after) is

pub have_values : HaveTheirValues
have_values kind setup fields said values is = elim (cases_Bool (length said == length fields)) [
  | inl same ↦ values_are kind setup fields said values (eqb-true _ _ same) (rw same at is)
  | inr other ↦ let bad : ◌≡◌ {A = Result (List Value) LineCode} (Err WordCount) (Ok values) = rw other at is in absurd cc
]

-- ---- nothing is lost

-- the value of a word's kind that says what this does
abbrev like : Field → Value → Value
like fields.First v = values.None
like fields.Command v = values.None
like fields.Amount v = values.Amount (as_amount v)
like fields.Number v = values.Number (as_number v)
like fields.Turns v = values.Number (as_number v)
like fields.Sender v = values.Actor (as_actor v)
like fields.Client v = values.Actor (as_actor v)
like fields.Currency v = values.Currency (as_currency v)
like fields.Actor v = values.Actor (as_actor v)
like fields.Site v = values.Actor (as_actor v)

abbrev all_like : List Field → List Value → ℕ → List Value
all_like [] said k = []
all_like (field ∷ fields) said k = like field (said_at said k) ∷ all_like fields said (suc k)

is_like : (field : Field) (v : Value) → is_of field v ≡ true → v ≡ like field v
is_like fields.First values.None is = refl
is_like fields.Command values.None is = refl
is_like fields.Amount (values.Amount n) is = refl
is_like fields.Number (values.Number n) is = refl
is_like fields.Turns (values.Number n) is = refl
is_like fields.Sender (values.Actor n) is = refl
is_like fields.Client (values.Actor n) is = refl
is_like fields.Currency (values.Currency n) is = refl
is_like fields.Actor (values.Actor n) is = refl
is_like fields.Site (values.Actor n) is = refl
is_like _ _ is = absurd cc

one_further : (fields : List Field) (v : Value) (rest : List Value) (k : ℕ) → all_like fields (v ∷ rest) (suc k) ≡ all_like fields rest k
one_further [] v rest k = refl
one_further (field ∷ fields) v rest k = ap (λ l. like field (said_at rest k) ∷ l) (one_further fields v rest (suc k))

are_like : (fields : List Field) (said : List Value) → AreOf fields said → said ≡ all_like fields said 0
are_like [] [] are = refl
are_like [] (v ∷ rest) are = absurd are
are_like (field ∷ fields) [] are = absurd are
are_like (field ∷ fields) (v ∷ rest) are =
    let here : v ≡ like field v = is_like field v are.0 in
    let after : rest ≡ all_like fields (v ∷ rest) 1 = are_like fields rest are.1 ∙ sym (one_further fields v rest 0) in
    λ i. here i ∷ after i

same_like : (word : Word) (one other : List Value) → statement_of word one ≡ statement_of word other
    → all_like (fields_of word) one 0 ≡ all_like (fields_of word) other 0
same_like words.Print one other is = refl
same_like words.Drain one other is = let n : as_number (said_at one 1) ≡ as_number (said_at other 1) = cc in λ i. values.None ∷ values.Number (n i) ∷ []
same_like words.Skip one other is = cc
same_like words.Cut one other is = cc
same_like words.Heal one other is = cc
same_like words.Chaos one other is = cc
same_like words.Rest one other is = cc
same_like words.PayIn one other is = cc
same_like words.Close one other is = cc
same_like words.Beat one other is = cc
same_like words.Timer one other is = cc
same_like words.Crash one other is = cc
same_like words.Restart one other is = cc
same_like words.Deliver one other is = cc
same_like words.Do one other is = cc
same_like words.Instruct one other is =
    let sender : as_actor (said_at one 1) ≡ as_actor (said_at other 1) = cc in
    let asked : instruction_of one ≡ instruction_of other = cc in
    λ i. values.None ∷ values.Actor (sender i) ∷ values.None ∷ values.Number ((asked i).reference) ∷ values.Actor ((asked i).other)
    ∷ values.Currency ((asked i).sell) ∷ values.Amount ((asked i).sell_amt) ∷ values.Currency ((asked i).buy) ∷ values.Amount ((asked i).buy_amt) ∷ []
same_like words.Rescind one other is = cc
same_like words.Settle one other is = cc
same_like words.Fund one other is = cc
same_like words.PayOut one other is = cc
same_like words.Paid one other is = cc
same_like words.Returned one other is = cc

pub mean_what_they_say : MeanWhatTheySay
mean_what_they_say word one other of_one of_other same =
    are_like (fields_of word) one of_one ∙ same_like word one other same ∙ sym (are_like (fields_of word) other of_other)
