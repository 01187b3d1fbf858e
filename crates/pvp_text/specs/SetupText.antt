-- Which setup a text is, and which fault a text has that is none.
use Rattle.std.specs.Prelude.{◌≡◌, ◌⊎◌, ℕ, Bool, true, false, List, [], ◌∷◌, ◌++◌, Option, Some, None, option_and_then, ok_or, Result, Ok, Err, codes, if◌then◌else◌}
use Rattle.std.specs.Str.{is_utf8}
use Rattle.serde_json.specs.declared.error.Error.{Error}
use Rattle.serde_json.specs.Errors.{IsMemory}
use Rattle.serde_json.specs.Data.{Data, Items, no_items, item}
use Rattle.serde_json.specs.Read.{read}
use Rattle.serde_json.specs.Find.{get, as_number, as_u64, as_str, as_array}
use Rattle.pvp_types.specs.declared.setup.Setup.{Setup}
use Rattle.pvp_types.specs.declared.setup.Currency.{Currency}
use Rattle.pvp_types.specs.declared.setup.Member.{Member}
use Rattle.pvp_types.specs.declared.setup.SetupFault.{SetupFault}
use Rattle.pvp_types.specs.Setup.{fault_of, rule_text}
use Rattle.pvp_text.specs.declared.setup.TextFault.{TextFault}
use Rattle.pvp_text.specs.declared.setup.TextFault.TheVariants.{NotJson, BadMember, NoMemory, BadSetup}
use Rattle.pvp_text.specs.Reading.{◌>>=◌, value_or_refusal}

-- ---- what a part of the tree holds

-- how a part of the tree is read, where memory is refused so or not at all
abbrev pub Kind : Type 0 → Type 0
Kind A = Option TextFault → Data → Result A TextFault

-- what is there, or a bad member
abbrev pub or_bad_member : {A : Type 0} → Option A → Result A TextFault
or_bad_member held = ok_or held BadMember

-- a number in digits alone, below 2 ^ 64
abbrev pub number : Kind ℕ
number refused d = or_bad_member (option_and_then as_u64 (as_number d))

-- a string, which is kept
abbrev pub text : Kind (List ℕ)
text refused d = or_bad_member (as_str d) >>= value_or_refusal refused

-- the items, each of which is of that kind and is kept
abbrev pub each_of : {A : Type 0} → Kind A → Option TextFault → Items → Result (List A) TextFault
each_of kind refused no_items = Ok []
each_of kind refused (item d ds) = do
  x ← kind refused d
  first ← value_or_refusal refused x
  others ← each_of kind refused ds
  Ok (first ∷ others)

-- an array, each of whose items is of that kind
abbrev pub list : {A : Type 0} → Kind A → Kind (List A)
list kind refused d = or_bad_member (as_array d) >>= each_of kind refused

-- an object's member of that name, which is of that kind. Its other members are ignored.
abbrev pub member : {A : Type 0} → Kind A → List ℕ → Kind A
member kind name refused d = or_bad_member (get name d) >>= kind refused

unfoldable pub currency : Kind Currency
currency refused d = do
  code ← member text (codes "code") refused d
  rate ← member number (codes "rate") refused d
  haircut ← member number (codes "haircut") refused d
  Ok (record { code = code; rate = rate; haircut = haircut })

unfoldable pub bank_member : Kind Member
bank_member refused d = do
  name ← member text (codes "name") refused d
  aggregate ← member number (codes "aggregate") refused d
  short ← member (list number) (codes "short") refused d
  deposit ← member (list number) (codes "deposit") refused d
  Ok (record { name = name; aggregate = aggregate; short = short; deposit = deposit })

unfoldable pub setup : Kind Setup
setup refused d = do
  sites ← member number (codes "sites") refused d
  currencies ← member (list currency) (codes "currencies") refused d
  members ← member (list bank_member) (codes "members") refused d
  Ok (record { sites = sites; currencies = currencies; members = members })

-- ---- the whole text

-- memory is taken for any text but an empty one, whatever is wrong with it: more the JSON reader does not say
abbrev pub text_or_refusal : Option TextFault → List ℕ → Result (List ℕ) TextFault
text_or_refusal None bytes = Ok bytes
text_or_refusal (Some refusal) [] = Ok []
text_or_refusal (Some refusal) (b ∷ bytes) = Err refusal

-- the tree of a text that is JSON. Of a name that stands twice in an object it has the last value.
abbrev pub tree : Option TextFault → List ℕ → Result Data TextFault
tree refused bytes = text_or_refusal refused bytes >>= λ text. ok_or (if is_utf8 text then read text else None) NotJson

-- a setup, given the first rule that it breaks
abbrev pub unless_broken : Option SetupFault → Setup → Result Setup TextFault
unless_broken (Some rule) s = Err (BadSetup rule)
unless_broken None s = Ok s

-- the setup that a text is, or the first of its faults; where memory is refused so or not at all
unfoldable pub setup_where : Option TextFault → List ℕ → Result Setup TextFault
setup_where refused bytes = do
  d ← tree refused bytes
  s ← setup refused d
  unless_broken (fault_of s) s

-- its parts alone, whatever rules they break
unfoldable pub parts_where : Option TextFault → List ℕ → Result Setup TextFault
parts_where refused bytes = do
  d ← tree refused bytes
  setup refused d

-- THE SETUP that a text is, or the first of its faults
abbrev pub setup_text : List ℕ → Result Setup TextFault
setup_text bytes = setup_where None bytes

-- how an error of the JSON reader is reported
abbrev pub Tells : Error → TextFault → Type 0
Tells error fault = (IsMemory error × (fault ≡ NoMemory)) ⊎ ((¬ IsMemory error) × (fault ≡ NotJson))

-- a fault for lack of memory
abbrev pub text_fault_is_memory : TextFault → Bool
text_fault_is_memory NotJson = false
text_fault_is_memory BadMember = false
text_fault_is_memory NoMemory = true
text_fault_is_memory (BadSetup rule) = false

-- a value that is its own view
abbrev pub itself : {X : Type 0} → X → X
itself x = x

-- what is printed of a fault
abbrev pub fault_text : TextFault → List ℕ
fault_text NotJson = codes "json J1"
fault_text BadMember = codes "json J2"
fault_text NoMemory = codes "memory"
fault_text (BadSetup rule) = codes "setup " ++ rule_text rule
