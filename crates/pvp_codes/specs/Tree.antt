-- Which part of a setup's tree is missing or of the wrong type.
use Rattle.std.specs.Prelude.{◌≡◌, ⊤, ℕ, ◌+◌, Bool, List, [], ◌∷◌, ◌++◌, Option, Some, None, is_some, option_and_then, Result, Ok, Err, string_bytes, decimal, codes, if◌then◌else◌}
use Rattle.serde_json.specs.Data.{Data, Items, no_items, item}
use Rattle.serde_json.specs.Find.{get, as_number, as_u64, as_str, as_array, as_object}
use Rattle.pvp_text.specs.SetupText.{tree}
use Rattle.pvp_text.specs.declared.setup.TextFault.{TextFault}
use Rattle.pvp_codes.specs.declared.tree.Flaw.{Flaw}
use Rattle.pvp_codes.specs.declared.tree.Flaw.TheVariants.{Missing, NotNumber, NotText, NotList, NotObject}
use Rattle.pvp_codes.specs.declared.tree.Fault.{Fault}
use Rattle.pvp_codes.specs.declared.tree.Fault.TheVariants.{Wrong, NoMemory}

-- ---- looking for what is wrong

-- the path to a wrong part from where it is looked for, and what is wrong; or nothing
abbrev pub Found : Type 0
Found = Option (List ℕ × Flaw)

-- how a part of the tree is looked at
abbrev pub Check : Type 0
Check = Data → Found

-- the part itself is wrong
abbrev pub here : Flaw → Found
here flaw = Some ([], flaw)

abbrev pub here_unless : Bool → Flaw → Found
here_unless is_well flaw = if is_well then None else here flaw

-- what is found behind a step of the path
abbrev pub behind : List ℕ → Found → Found
behind step (Some found) = Some (step ++ found.0, found.1)
behind step None = None

-- what is found, or else what is found later
abbrev pub or_later : Found → Found → Found
or_later (Some found) later = Some found
or_later None later = later

-- of several the first that finds something
abbrev pub first_of : List Found → Found
first_of [] = None
first_of (found ∷ later) = or_later found (first_of later)

-- ---- the parts of a setup, in the order in which they are read

-- a number in digits alone, below 2 ^ 64
abbrev pub number : Check
number d = here_unless (is_some (option_and_then as_u64 (as_number d))) NotNumber

abbrev pub text : Check
text d = here_unless (is_some (as_str d)) NotText

abbrev pub object : Check
object d = here_unless (is_some (as_object d)) NotObject

-- an item at its place: `[3]` is a step
abbrev pub item_at : Check → ℕ → Data → Found
item_at check place d = behind (codes "[" ++ decimal place ++ codes "]") (check d)

-- the items from a place on
abbrev pub each_of : Check → ℕ → Items → Found
each_of check place no_items = None
each_of check place (item d ds) = or_later (item_at check place d) (each_of check (place + 1) ds)

abbrev pub items_of : Check → Option Items → Found
items_of check (Some ds) = each_of check 0 ds
items_of check None = here NotList

-- an array, each of whose items is of that kind
abbrev pub list : Check → Check
list check d = items_of check (as_array d)

abbrev pub member_of : Check → Option Data → Found
member_of check (Some d) = check d
member_of check None = here Missing

-- an object's member of that name, which is of that kind: `.name` is a step
abbrev pub member : Check → List ℕ → Check
member check name d = behind (codes "." ++ name) (member_of check (get name d))

abbrev pub currency : Check
currency d =
    first_of (object d ∷ member text (codes "code") d ∷ member number
    (codes "rate") d ∷ member number (codes "haircut") d ∷ [])

abbrev pub bank_member : Check
bank_member d = first_of (
    object d
    ∷ member text (codes "name") d
    ∷ member number (codes "aggregate") d
    ∷ member (list number) (codes "short") d
    ∷ member (list number) (codes "deposit") d
    ∷ [])

abbrev pub setup : Check
setup d = first_of (
    object d
    ∷ member number (codes "sites") d
    ∷ member (list currency) (codes "currencies") d
    ∷ member (list bank_member) (codes "members") d
    ∷ [])

-- ---- the whole text

abbrev pub wrong_of : Result Data TextFault → Found
wrong_of (Ok d) = setup d
wrong_of (Err fault) = None

-- THE FIRST PART of a text that is missing or of the wrong type: the path to it, and what is wrong
abbrev pub wrong_in : List ℕ → Found
wrong_in bytes = wrong_of (tree None bytes)

-- what a search answers that finds this; lack of memory may come in place of it
abbrev pub Tells : {A : Type 0} → Result A Fault → Found → Type 0
Tells (Ok _) found = found ≡ None
Tells (Err (Wrong path flaw)) found = found ≡ Some (string_bytes path, flaw)
Tells (Err NoMemory) found = ⊤

-- ---- in words

abbrev pub flaw_text : Flaw → List ℕ
flaw_text Missing = codes "missing"
flaw_text NotNumber = codes "no number in digits alone, below 2^64"
flaw_text NotText = codes "no text"
flaw_text NotList = codes "no list"
flaw_text NotObject = codes "no object"

-- a path without the dot in front; that of the whole text is empty
abbrev pub path_told : List ℕ → List ℕ
path_told [] = codes "the text is "
path_told (dot ∷ path) = path ++ codes ": "
