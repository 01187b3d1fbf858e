-- What one word of a line stands for.
use Rattle.std.specs.Prelude.{ℕ, ◌+◌, ◌-◌, ◌^◌, ◌==◌, ◌&&◌, ◌||◌, Bool, true, false, not, List, [], ◌∷◌, ◌++◌, length, decimal, drop, slice_index, Option, Some, None, is_some, ok_or, Result, Ok, Err, codes, bytes_eq, nat_lt, nat_le, if◌then◌else◌}
use Rattle.std.specs.Char.{is_ascii_digit}
use Rattle.std.specs.List.{list_all}
use Rattle.std.specs.Str.Parse.{digits_value}
use Rattle.pvp_types.specs.declared.setup.Setup.{Setup}
use Rattle.pvp_types.specs.Names.{client_number, member_number, currency_number}
use Rattle.vr_types.specs.declared.actors.TheConstants.{FIRST_SITE}
use Rattle.pvp_text.specs.declared.script.Kind.{Kind}
use Rattle.pvp_text.specs.declared.script.Kind.TheVariants.{Book, Play, Live}
use Rattle.pvp_text.specs.declared.script.LineCode.{LineCode}
use Rattle.pvp_text.specs.declared.script.LineCode.TheVariants.{Number, UnknownName}
use Rattle.pvp_text.specs.declared.script.fields.Reference.{Reference}
use Rattle.pvp_text.specs.declared.script.fields.Reference.TheVariants as references
use Rattle.pvp_text.specs.declared.script.fields.WordFault.{WordFault}
use Rattle.pvp_text.specs.declared.script.fields.WordFault.TheVariants.{NoDigits, LeadingZero, NotDigits, Above, NotBySite, NoSender, OfNode, NoClient, NoCurrency, NoActor, NoSite}
use Rattle.pvp_text.specs.declared.script.fields.Value.{Value}
use Rattle.pvp_text.specs.declared.script.fields.Value.TheVariants as values
use Rattle.pvp_text.specs.declared.script.table.Field.{Field}
use Rattle.pvp_text.specs.declared.script.table.Field.TheVariants as fields
use Rattle.pvp_text.specs.Reading.{◌>>=◌}
use Rattle.pvp_text.specs.ScriptTable.{kind_text}
use Rattle.arrayvec.specs.ArrayVec.{ArrayVec}

-- a zero in front of another digit
abbrev pub has_leading_zero : List ℕ → Bool
has_leading_zero word = nat_lt 1 (length word) && (slice_index word 0 == 48)

-- decimal digits without a leading zero, but for `0` itself
abbrev pub is_number : List ℕ → Bool
is_number word = not ((length word == 0) || has_leading_zero word) && list_all is_ascii_digit word

-- a number below a limit
abbrev pub number_at : ℕ → List ℕ → Result ℕ LineCode
number_at limit word =
    if is_number word && nat_lt (digits_value 10 word) limit then Ok (digits_value 10 word) else Err Number

-- a number up to this one, or what is wrong with it
abbrev pub number_within : ℕ → List ℕ → Result ℕ WordFault
number_within most word =
    if length word == 0 then Err NoDigits
    else if has_leading_zero word then Err LeadingZero
    else if not (list_all is_ascii_digit word) then Err NotDigits
    else if nat_le (digits_value 10 word) most then Ok (digits_value 10 word)
    else Err (Above most)

-- a fault of a name that nothing has, and not of a number
abbrev pub is_of_name : WordFault → Bool
is_of_name NoDigits = false
is_of_name LeadingZero = false
is_of_name NotDigits = false
is_of_name (Above most) = false
is_of_name NotBySite = false
is_of_name NoSender = true
is_of_name (OfNode kind) = true
is_of_name NoClient = true
is_of_name NoCurrency = true
is_of_name NoActor = true
is_of_name NoSite = true

-- the code of a line with such a word
abbrev pub code_of : WordFault → LineCode
code_of fault = if is_of_name fault then UnknownName else Number

-- why a word may not stand there, in words
abbrev pub word_fault_text : WordFault → List ℕ
word_fault_text NoDigits = codes "is no number: no digits"
word_fault_text LeadingZero = codes "is no number: a leading zero"
word_fault_text NotDigits = codes "is no number: a byte that is no digit"
word_fault_text (Above most) = codes "is too large a number: above " ++ decimal most
word_fault_text NotBySite = codes "is no site: s and its number"
word_fault_text NoSender = codes "is no name of a client that may send a command"
word_fault_text (OfNode kind) =
    codes "is a node: in " ++ kind_text kind ++ codes " nodes send their own commands, use payin"
word_fault_text NoClient = codes "is no client's name"
word_fault_text NoCurrency = codes "is no currency's code"
word_fault_text NoActor = codes "is no actor's name"
word_fault_text NoSite = codes "is no site: s and its number"

-- a client or a currency as a line spells it
pub data Spelled : Type 0 where
  numbered : ℕ → Spelled
  named : List ℕ → Spelled

-- `@` and a number up to this one, or a name
abbrev pub reference_at : ℕ → List ℕ → Result Spelled WordFault
reference_at most word =
    if slice_index word 0 == 64 then (number_within most (drop 1 word) >>= λ n. Ok (numbered n)) else Ok (named word)

-- An actor as a line spells it: `s` and the number of a site, whose actors are numbered from 200, or a client. Names
-- are capitals, so no client is named with `s` in front.
abbrev pub actor_at : List ℕ → Result Spelled WordFault
actor_at word =
    if slice_index word 0 == 115 then (number_within 255 (drop 1 word) >>= λ n. Ok (numbered (FIRST_SITE + n)))
    else reference_at 65535 word

-- A site, where no other actor may stand: `s` and its number. Neither `@` nor a name stands for one: what begins with
-- `@` is a malformed number, and what begins otherwise is nothing's name.
abbrev pub site_at : List ℕ → Result ℕ WordFault
site_at word =
    if slice_index word 0 == 115 then number_within 255 (drop 1 word)
    else if slice_index word 0 == 64 then Err NotBySite
    else Err NoSite

-- the number that is spelled, or that of the name; where nothing has it, the fault that it is
abbrev pub number_of : (List ℕ → Option ℕ) → (List ℕ → WordFault) → Spelled → Result ℕ WordFault
number_of number_named fault (numbered n) = Ok n
number_of number_named fault (named name) = ok_or (number_named name) (fault name)

-- the operator, a member or a currency's node
abbrev pub client_of : Setup → WordFault → Spelled → Result ℕ WordFault
client_of setup fault who = number_of (client_number setup) (λ _. fault) who

-- the operator or a member
abbrev pub operator_or_member : Setup → List ℕ → Option ℕ
operator_or_member setup name = if bytes_eq name (codes "OP") then Some 0 else member_number setup name

-- Who may be named as the sender of a command: on one book any client. Elsewhere the nodes stand in the bank
-- themselves, and send their commands by their own steps.
abbrev pub sender_number : Kind → Setup → List ℕ → Option ℕ
sender_number Book setup name = client_number setup name
sender_number Play setup name = operator_or_member setup name
sender_number Live setup name = operator_or_member setup name

-- where nodes send their own commands, a currency's code names a node, which is no sender
abbrev pub no_sender : Kind → Setup → List ℕ → WordFault
no_sender kind setup name = if is_some (currency_number setup name) then OfNode kind else NoSender

-- who sends a command, whom a line may name by any number
abbrev pub sender_of : Kind → Setup → Spelled → Result ℕ WordFault
sender_of kind setup who = number_of (sender_number kind setup) (no_sender kind setup) who

abbrev pub currency_named : Setup → Spelled → Result ℕ WordFault
currency_named setup ccy = number_of (currency_number setup) (λ _. NoCurrency) ccy

-- a reference of the code, without where it lies in memory
abbrev pub spelling_of : Reference ℕ → Spelled
spelling_of (references.Number n) = numbered n
spelling_of (references.Name name) = named name.now

abbrev pub spelled_in : Result (Reference ℕ) WordFault → Result Spelled WordFault
spelled_in (Ok r) = Ok (spelling_of r)
spelled_in (Err fault) = Err fault

-- ---- what the words of a line say

-- what a word says that is to be this, or why it may not stand there
abbrev pub value_at : Kind → Setup → Field → List ℕ → Result Value WordFault
value_at kind setup fields.First word = Ok values.None
value_at kind setup fields.Command word = Ok values.None
value_at kind setup fields.Amount word = number_within (2 ^ 64 - 1) word >>= λ n. Ok (values.Amount n)
value_at kind setup fields.Number word = number_within (2 ^ 32 - 1) word >>= λ n. Ok (values.Number n)
value_at kind setup fields.Turns word = number_within 1000000 word >>= λ n. Ok (values.Number n)
value_at kind setup fields.Sender word =
    reference_at 65535 word >>= λ who. sender_of kind setup who >>= λ n. Ok (values.Actor n)
value_at kind setup fields.Client word =
    reference_at 65535 word >>= λ who. client_of setup NoClient who >>= λ n. Ok (values.Actor n)
value_at kind setup fields.Currency word =
    reference_at 255 word >>= λ ccy. currency_named setup ccy >>= λ n. Ok (values.Currency n)
value_at kind setup fields.Actor word =
    actor_at word >>= λ who. client_of setup NoActor who >>= λ n. Ok (values.Actor n)
value_at kind setup fields.Site word = site_at word >>= λ n. Ok (values.Actor n)

-- where a name is unknown, a malformed number behind it is reported all the same
abbrev pub unknown_before : Result (List Value) LineCode → Result (List Value) LineCode
unknown_before (Ok others) = Err UnknownName
unknown_before (Err code) = Err code

-- the fault of a word and what the words behind it say: a malformed number is reported before an unknown name
abbrev pub wrong_before : WordFault → Result (List Value) LineCode → Result (List Value) LineCode
wrong_before fault later = if is_of_name fault then unknown_before later else Err Number

-- a word's value and those behind it
abbrev pub both : Result Value WordFault → Result (List Value) LineCode → Result (List Value) LineCode
both (Ok value) later = later >>= λ others. Ok (value ∷ others)
both (Err fault) later = wrong_before fault later

-- WHAT THE WORDS SAY that are to be these
abbrev pub values_at : Kind → Setup → List Field → List (List ℕ) → Result (List Value) LineCode
values_at kind setup (field ∷ fields) (word ∷ words) =
    both (value_at kind setup field word) (values_at kind setup fields words)
values_at kind setup _ _ = Ok []

-- what one value is; 0 where it is of another kind
abbrev pub as_actor : Value → ℕ
as_actor (values.Actor n) = n
as_actor _ = 0

abbrev pub as_currency : Value → ℕ
as_currency (values.Currency n) = n
as_currency _ = 0

abbrev pub as_number : Value → ℕ
as_number (values.Number n) = n
as_number _ = 0

abbrev pub as_amount : Value → ℕ
as_amount (values.Amount n) = n
as_amount _ = 0

-- the values in the code's vector
abbrev pub values_in : Result (ArrayVec Value) LineCode → Result (List Value) LineCode
values_in (Ok found) = Ok found.items
values_in (Err code) = Err code

-- of two faults of a line's words a malformed number is reported, wherever it stands
abbrev pub graver_fault : Option WordFault → WordFault → WordFault
graver_fault None found = found
graver_fault (Some before) found = if is_of_name before then found else before

-- all values, where no word has a fault
abbrev pub values_or_fault : Option WordFault → List Value → Result (List Value) LineCode
values_or_fault None found = Ok found
values_or_fault (Some fault) found = Err (code_of fault)
