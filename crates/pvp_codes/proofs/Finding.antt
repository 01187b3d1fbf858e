-- Where the reader of lines fails at a word, a word is found.
use Rattle.std.proofs.Common.{◌≡◌, ◌≢◌, ℕ, ◌⊎◌, Bool, true, false, ◌||◌, eqb, List, [], ◌∷◌, length, Option, Some, None, Result, Ok, Err, refl, sym, ap, ◌∙◌, arith, inl, inr, bytes_eq}
use Rattle.std.specs.Prelude.{find, if◌then◌else◌}
use Rattle.std.proofs.lemmas.Bool.{cases_Bool, eqb-false}
use Rattle.std.proofs.lemmas.Slice.Eq.{bytes_eq-Decides}
use Rattle.std.proofs.Math.Bool.{or-true}
use Rattle.pvp_types.specs.declared.setup.Setup.{Setup}
use Rattle.pvp_types.specs.Setup.{is_among}
use Rattle.pvp_text.specs.declared.script.Kind.{Kind}
use Rattle.pvp_text.specs.declared.script.LineCode.{LineCode}
use Rattle.pvp_text.specs.declared.script.LineCode.TheVariants as line
use Rattle.pvp_text.specs.Reading.{◌>>=◌}
use Rattle.pvp_text.specs.ScriptFields.{is_of_name, value_at, unknown_before, both, values_at}
use Rattle.pvp_text.specs.declared.script.fields.WordFault.{WordFault}
use Rattle.pvp_text.specs.Script.{known_in, line_values, statement_at}
use Rattle.pvp_text.specs.declared.script.table.Field.{Field}
use Rattle.pvp_text.specs.declared.script.table.Field.TheVariants.{First, Command, Sender}
use Rattle.pvp_text.specs.declared.script.table.Form.TheVariants.{Of, TooFew}
use Rattle.pvp_text.specs.declared.script.table.Kinds.TheVariants.{All}
use Rattle.pvp_text.specs.declared.script.table.Word.{Word}
use Rattle.pvp_text.specs.declared.script.table.Word.TheVariants as forms
use Rattle.pvp_text.specs.declared.script.fields.Value.{Value}
use Rattle.pvp_text.specs.ScriptTable.{text_of, fields_of, kinds_of, has, firsts, commands, find_word, told_by_command, command_form, told_by_first, form_of, form_fields}
use Rattle.pvp_codes.specs.Near.{near_word}
use Rattle.pvp_codes.specs.declared.broken.Breach.{Breach}
use Rattle.pvp_codes.specs.declared.broken.Breach.TheVariants.{BeginsNoLine, NoCommand, Wrong}
use Rattle.pvp_codes.specs.Broken.{number_fault, name_fault, other_kind, breaks, this_or, first_broken}

-- ---- reading that does not fail so

-- an answer that is not this fault
abbrev pub Fine : {A : Type 0} → LineCode → Result A LineCode → Type 0
Fine code (Ok x) = Unit {0}
Fine code (Err other) = other ≢ code

-- a step that does not fail so, and then another
and_then : {A B : Type 0} (code : LineCode) (first : Result A LineCode) (next : A → Result B LineCode)
    → Fine code first → ((x : A) → first ≡ Ok x → Fine code (next x)) → Fine code (first >>= next)
and_then code (Ok x) next fine on = on x refl
and_then code (Err other) next fine on = fine

pub not_so : {A : Type 0} (code : LineCode) (answer : Result A LineCode) → Fine code answer → answer ≡ Err code → ⊥
not_so code (Ok x) fine is = absurd cc
not_so code (Err other) fine is = fine cc

-- ---- what breaks no rule

-- neither this word nor one behind it
this_none : (word : List ℕ) (why : Option Breach) (later : Option (List ℕ × Breach)) → this_or word why later ≡ None → (why ≡ None) × (later ≡ None)
this_none word None later none = (refl, none)
this_none word (Some why) later none = absurd cc

parted : (breaks : Field → List ℕ → Option Breach) (field : Field) (fields : List Field) (word : List ℕ) (said : List (List ℕ))
    → first_broken breaks (field ∷ fields) (word ∷ said) ≡ None → (breaks field word ≡ None) × (first_broken breaks fields said ≡ None)
parted breaks field fields word said none = this_none word (breaks field word) (first_broken breaks fields said) none

as_number : (code : LineCode) (kind : Kind) (setup : Setup) (field : Field) (word : List ℕ) → breaks code kind setup field word ≡ None → code ≡ line.Number
    → number_fault (value_at kind setup field word) ≡ None
as_number code kind setup field word fine same = rw same at fine

as_name : (code : LineCode) (kind : Kind) (setup : Setup) (field : Field) (word : List ℕ) → breaks code kind setup field word ≡ None → code ≡ line.UnknownName
    → name_fault (value_at kind setup field word) ≡ None
as_name code kind setup field word fine same = rw same at fine

-- ---- what the words of a line say

unknown_fine : (code : LineCode) (why : Breach) (later : Result (List Value) LineCode) → (code ≡ line.UnknownName → Some why ≡ None) → Fine code later
    → Fine code (unknown_before later)
unknown_fine code why (Ok others) name fine = λ same. let bad = name (sym same) in absurd cc
unknown_fine code why (Err other) name fine = fine

both_fine : (code : LineCode) (first : Result Value WordFault) (later : Result (List Value) LineCode) → (code ≡ line.Number → number_fault first ≡ None)
    → (code ≡ line.UnknownName → name_fault first ≡ None) → Fine code later → Fine code (both first later)
both_fine code (Ok value) (Ok others) number name fine = tt
both_fine code (Ok value) (Err other) number name fine = fine
both_fine code (Err fault) later number name fine =
    elim (cases_Bool (is_of_name fault)) [
      | inl held ↦ rw held (unknown_fine code (Wrong fault) later (λ same. rw held at (name same)) fine)
      | inr other ↦ rw other (λ same. let bad : Some (Wrong fault) ≡ None = rw other at (number (sym same)) in absurd cc)
    ]

values_fine : (code : LineCode) (kind : Kind) (setup : Setup) (fields : List Field) (said : List (List ℕ))
    → first_broken (breaks code kind setup) fields said ≡ None → Fine code (values_at kind setup fields said)
values_fine code kind setup [] said none = tt
values_fine code kind setup (field ∷ fields) [] none = tt
values_fine code kind setup (field ∷ fields) (word ∷ said) none =
    let p = parted (breaks code kind setup) field fields word said none in
    both_fine code (value_at kind setup field word) (values_at kind setup fields said) (as_number code kind setup field word p.0)
    (as_name code kind setup field word p.0) (values_fine code kind setup fields said p.1)

line_fine : (code : LineCode) (kind : Kind) (setup : Setup) (fields : List Field) (said : List (List ℕ))
    → (code ≡ line.WordCount → length said ≡ length fields) → first_broken (breaks code kind setup) fields said ≡ None
    → Fine code (line_values kind setup fields said)
line_fine code kind setup fields said count none =
    elim (cases_Bool (eqb (length said) (length fields))) [
      | inl same ↦ rw same (values_fine code kind setup fields said none)
      | inr other ↦ rw other (λ is. absurd (eqb-false (length said) (length fields) other (count (sym is))))
    ]

-- ---- the form of a line

-- each row of the table begins with the first word
begins : (word : Word) → (fields : List Field) × (fields_of word ≡ First ∷ fields)
begins forms.Do = (_, refl)
begins forms.Print = (_, refl)
begins forms.PayIn = (_, refl)
begins forms.Close = (_, refl)
begins forms.Beat = (_, refl)
begins forms.Timer = (_, refl)
begins forms.Crash = (_, refl)
begins forms.Restart = (_, refl)
begins forms.Deliver = (_, refl)
begins forms.Drain = (_, refl)
begins forms.Skip = (_, refl)
begins forms.Cut = (_, refl)
begins forms.Heal = (_, refl)
begins forms.Chaos = (_, refl)
begins forms.Rest = (_, refl)
begins forms.Instruct = (_, refl)
begins forms.Rescind = (_, refl)
begins forms.Settle = (_, refl)
begins forms.Fund = (_, refl)
begins forms.PayOut = (_, refl)
begins forms.Paid = (_, refl)
begins forms.Returned = (_, refl)

-- what a first word tells, but for `do`
told_by : (word : Word) (rest : List (List ℕ)) → (word ≡ forms.Do) ⊎ (told_by_first (Some word) rest ≡ Of word)
told_by forms.Do rest = inl refl
told_by forms.Print rest = inr refl
told_by forms.PayIn rest = inr refl
told_by forms.Close rest = inr refl
told_by forms.Beat rest = inr refl
told_by forms.Timer rest = inr refl
told_by forms.Crash rest = inr refl
told_by forms.Restart rest = inr refl
told_by forms.Deliver rest = inr refl
told_by forms.Drain rest = inr refl
told_by forms.Skip rest = inr refl
told_by forms.Cut rest = inr refl
told_by forms.Heal rest = inr refl
told_by forms.Chaos rest = inr refl
told_by forms.Rest rest = inr refl
told_by forms.Instruct rest = inr refl
told_by forms.Rescind rest = inr refl
told_by forms.Settle rest = inr refl
told_by forms.Fund rest = inr refl
told_by forms.PayOut rest = inr refl
told_by forms.Paid rest = inr refl
told_by forms.Returned rest = inr refl

-- each of some words is so
abbrev Each : (Word → Type 0) → List Word → Type 0
Each P [] = Unit {0}
Each P (word ∷ words) = P word × Each P words

-- what is found among some is as each of them is
found_among : (P : Word → Type 0) (is : Word → Bool) (words : List Word) (one : Word) → Each P words → find is words ≡ Some one → P one
found_among P is [] one each at = absurd cc
found_among P is (word ∷ words) one each at =
    elim (cases_Bool (is word)) [
      | inl held ↦ (let taken : Some word ≡ Some one = rw held at at in let same : word ≡ one = cc in rw (← same) each.0)
      | inr other ↦ found_among P is words one each.1 (rw other at at)
    ]

-- all kinds of script have commands
any_has : (command : List ℕ) (one : Word) → find_word command commands ≡ Some one → kinds_of one ≡ All
any_has command one at =
    found_among (λ word. kinds_of word ≡ All) (λ each. bytes_eq command (text_of each)) commands one
    (refl, (refl, (refl, (refl, (refl, (refl, (refl, tt))))))) at

-- ---- what a line says

of_word : (code : LineCode) (kind : Kind) (setup : Setup) (word : Word) (said : List (List ℕ))
    → form_of said ≡ Of word → (code ≡ line.UnknownWord → has (kinds_of word) kind ≡ true)
    → (code ≡ line.WordCount → length said ≡ length (fields_of word)) → first_broken (breaks code kind setup) (fields_of word) said ≡ None
    → Fine code (statement_at kind setup said)
unfolding statement_at
of_word code kind setup word said is known count none =
    elim (cases_Bool (has (kinds_of word) kind)) [
      | inl held ↦ rw (is, held)
          (and_then code (line_values kind setup (fields_of word) said) _ (line_fine code kind setup (fields_of word) said count none) (λ _ _. tt))
      | inr other ↦ rw (is, other) (λ same. let bad : false ≡ true = (rw other at known) (sym same) in absurd cc)
    ]

too_few : (code : LineCode) (kind : Kind) (setup : Setup) (first : List ℕ) (rest : List (List ℕ)) → form_of (first ∷ rest) ≡ TooFew
    → (code ≡ line.WordCount → length (first ∷ rest) ≡ 0) → Fine code (statement_at kind setup (first ∷ rest))
unfolding statement_at
too_few code kind setup first rest is count = rw is (λ same. let none = count (sym same) in absurd (omega (arith, none)))

not_known : (code : LineCode) (kind : Kind) (setup : Setup) (said : List (List ℕ)) → known_in kind (form_of said) ≡ Err line.UnknownWord
    → line.UnknownWord ≢ code → Fine code (statement_at kind setup said)
unfolding statement_at
not_known code kind setup said is other = rw is other

-- a command that is told behind `do`
command_fine : (code : LineCode) (kind : Kind) (setup : Setup) (first who command : List ℕ) (fields : List (List ℕ)) (found : Option Word)
    → find_word command commands ≡ found → form_of (first ∷ who ∷ command ∷ fields) ≡ told_by_command found
    → (code ≡ line.WordCount → length (first ∷ who ∷ command ∷ fields) ≡ length (form_fields (told_by_command found)))
    → first_broken (breaks code kind setup) (form_fields (told_by_command found)) (first ∷ who ∷ command ∷ fields) ≡ None
    → Fine code (statement_at kind setup (first ∷ who ∷ command ∷ fields))
command_fine code kind setup first who command fields None at is count none =
    let p = parted (breaks code kind setup) First (Sender ∷ Command ∷ []) first (who ∷ command ∷ fields) none in
    let q = parted (breaks code kind setup) Sender (Command ∷ []) who (command ∷ fields) p.1 in
    let r = parted (breaks code kind setup) Command [] command fields q.1 in
    not_known code kind setup (first ∷ who ∷ command ∷ fields) (rw is refl)
    (λ same. let bad : Some (NoCommand (near_word command commands)) ≡ None = (rw (sym same, at) at r.0) in absurd cc)
command_fine code kind setup first who command fields (Some word) at is count none =
    of_word code kind setup word (first ∷ who ∷ command ∷ fields) is (λ _. rw (any_has command word at) refl) count none

do_fine : (code : LineCode) (kind : Kind) (setup : Setup) (first : List ℕ) (rest : List (List ℕ)) → form_of (first ∷ rest) ≡ command_form rest
    → (code ≡ line.WordCount → length (first ∷ rest) ≡ length (form_fields (command_form rest)))
    → first_broken (breaks code kind setup) (form_fields (command_form rest)) (first ∷ rest) ≡ None → Fine code (statement_at kind setup (first ∷ rest))
do_fine code kind setup first [] is count none = too_few code kind setup first [] is count
do_fine code kind setup first (who ∷ []) is count none = too_few code kind setup first (who ∷ []) is count
do_fine code kind setup first (who ∷ command ∷ fields) is count none =
    command_fine code kind setup first who command fields (find_word command commands) refl is count none

kind_has : (is : Bool) (why : Breach) → (if is then None else Some why) ≡ None → is ≡ true
kind_has true why none = refl
kind_has false why none = absurd cc

first_fine : (code : LineCode) (kind : Kind) (setup : Setup) (first : List ℕ) (rest : List (List ℕ)) (found : Option Word)
    → find_word first firsts ≡ found → form_of (first ∷ rest) ≡ told_by_first found rest
    → (code ≡ line.WordCount → length (first ∷ rest) ≡ length (form_fields (told_by_first found rest)))
    → first_broken (breaks code kind setup) (form_fields (told_by_first found rest)) (first ∷ rest) ≡ None → Fine code (statement_at kind setup (first ∷ rest))
first_fine code kind setup first rest None at is count none =
    let p = parted (breaks code kind setup) First [] first rest none in
    not_known code kind setup (first ∷ rest) (rw is refl)
    (λ same. let bad : Some (BeginsNoLine (near_word first firsts)) ≡ None = (rw (sym same, at) at p.0) in absurd cc)
first_fine code kind setup first rest (Some word) at is count none =
    elim (told_by word rest) [
      | inl is_do ↦ do_fine code kind setup first rest (rw is_do at is) (rw is_do at count) (rw is_do at none)
      | inr told ↦
          let row = begins word in
          let of_row : first_broken (breaks code kind setup) (fields_of word) (first ∷ rest) ≡ None = rw told at none in
          let p = parted (breaks code kind setup) First row.0 first rest (rw row.1 at of_row) in
          of_word code kind setup word (first ∷ rest) (is ∙ told)
          (λ same. let fine : other_kind (kinds_of word) kind ≡ None = (rw (same, at) at p.0) in kind_has (has (kinds_of word) kind) _ fine)
          (rw told at count) of_row
    ]

pub statement_fine : (code : LineCode) (kind : Kind) (setup : Setup) (first : List ℕ) (rest : List (List ℕ))
    → (code ≡ line.WordCount → length (first ∷ rest) ≡ length (form_fields (form_of (first ∷ rest))))
    → first_broken (breaks code kind setup) (form_fields (form_of (first ∷ rest))) (first ∷ rest) ≡ None → Fine code (statement_at kind setup (first ∷ rest))
statement_fine code kind setup first rest count none = first_fine code kind setup first rest (find_word first firsts) refl refl count none

-- ---- the words that are counted

none_counts : (kind : Kind) (setup : Setup) (form : List Field) (said : List (List ℕ)) → first_broken (breaks line.WordCount kind setup) form said ≡ None
none_counts kind setup (field ∷ form) (word ∷ said) = none_counts kind setup form said
none_counts kind setup _ _ = refl

pub counts_fine : (kind : Kind) (setup : Setup) (first : List ℕ) (rest : List (List ℕ)) → length (first ∷ rest) ≡ length (form_fields (form_of (first ∷ rest)))
    → Fine line.WordCount (statement_at kind setup (first ∷ rest))
counts_fine kind setup first rest count =
    statement_fine line.WordCount kind setup first rest (λ same. count) (none_counts kind setup (form_fields (form_of (first ∷ rest))) (first ∷ rest))

-- ---- a word that is found

same_word : (one other : List ℕ × Breach) → Some one ≡ Some other → one.0 ≡ other.0
same_word one other is = let same : one ≡ other = cc in ap (λ (found : List ℕ × Breach). found.0) same

here_or_later : (word other : List ℕ) (said : List (List ℕ)) (why : Breach) (found : Option Breach) (later : Option (List ℕ × Breach))
    → (later ≡ Some (word, why) → is_among word said ≡ true) → this_or other found later ≡ Some (word, why) → (bytes_eq word other || is_among word said) ≡ true
here_or_later word other said why (Some is) later among found =
    let same : word ≡ other = sym (same_word (other, is) (word, why) found) in
    rw ((bytes_eq-Decides word other).1 same) refl
here_or_later word other said why None later among found = rw (among found) (or-true (bytes_eq word other))

pub is_word : (breaks : Field → List ℕ → Option Breach) (form : List Field) (said : List (List ℕ)) (word : List ℕ) (why : Breach)
    → first_broken breaks form said ≡ Some (word, why) → is_among word said ≡ true
is_word breaks (field ∷ form) (other ∷ said) word why found =
    here_or_later word other said why (breaks field other) (first_broken breaks form said) (is_word breaks form said word why) found
is_word breaks _ _ word why found = absurd cc
