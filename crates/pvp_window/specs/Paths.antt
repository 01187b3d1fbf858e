-- WHAT A PATH ASKS FOR, and what stands behind its question mark.
use Rattle.std.specs.Prelude.{ℕ, ◌^◌, ◌==◌, ◌||◌, Bool, nat_lt, bytes_eq, if◌then◌else◌, List, Option, Some, None, Result, Ok, Err, codes}
use Rattle.std.specs.List.{before_first, after_first}
use Rattle.pvp_types.specs.declared.setup.Setup.{Setup}
use Rattle.pvp_types.specs.Names.{member_number}
use Rattle.pvp_text.specs.declared.script.LineCode.{LineCode}
use Rattle.pvp_text.specs.ScriptFields.{number_at}
use Rattle.pvp_text.specs.ScriptWords.{is_empty}
use Rattle.pvp_window.specs.declared.look.View.TheVariants as view
use Rattle.pvp_window.specs.declared.path.Asked.{Asked}
use Rattle.pvp_window.specs.declared.path.Asked.TheVariants.{Console, Windows, Look, Missing, Wrong}

-- a method that only reads
abbrev pub is_read : List ℕ → Bool
is_read method = bytes_eq method (codes "GET") || bytes_eq method (codes "HEAD")

-- what stands before the first such byte, and behind it
abbrev pub head_at : ℕ → List ℕ → List ℕ
head_at byte text = before_first (λ b. b == byte) text

abbrev pub tail_at : ℕ → List ℕ → List ℕ
tail_at byte text = after_first (λ b. b == byte) text

-- a number below a limit, in digits without a leading zero
abbrev pub below : ℕ → Result ℕ LineCode → Option ℕ
below limit (Ok number) = if nat_lt number limit then Some number else None
below limit (Err code) = None

abbrev pub number_below : ℕ → List ℕ → Option ℕ
number_below limit word = below limit (number_at (2 ^ 64) word)

-- the number behind `NAME=`
abbrev pub number_named : List ℕ → ℕ → List ℕ → Option ℕ
number_named name limit word =
    if bytes_eq (head_at 61 word) name then number_below limit (tail_at 61 word) else None

-- the entries behind the first so many, with so many seconds to wait for a further one
abbrev pub entries_of : Option ℕ → Option ℕ → Asked
entries_of (Some from) (Some wait) = Look (view.Entries from) wait
entries_of _ _ = Wrong

-- `wait=S`, `from=N`, or `from=N&wait=S`
abbrev pub words_asked : List ℕ → Asked
words_asked words =
    if bytes_eq (head_at 61 words) (codes "wait") then entries_of (Some 0) (number_named (codes "wait") 31 words)
    else if is_empty (tail_at 38 words) then entries_of (number_named (codes "from") (2 ^ 32) (head_at 38 words)) (Some 0)
    else entries_of (number_named (codes "from") (2 ^ 32) (head_at 38 words))
    (number_named (codes "wait") 31 (tail_at 38 words))

abbrev pub entries_asked : Option (List ℕ) → Asked
entries_asked None = Look (view.Entries 0) 0
entries_asked (Some words) = words_asked words

-- a member by its name, and a pair by its reference
abbrev pub member_found : Option ℕ → Asked
member_found (Some m) = Look (view.Member m) 0
member_found None = Missing

abbrev pub member_asked : Setup → List ℕ → Asked
member_asked setup name = member_found (member_number setup name)

abbrev pub pair_found : Option ℕ → Asked
pair_found (Some reference) = Look (view.Pair reference) 0
pair_found None = Wrong

abbrev pub pair_asked : List ℕ → Asked
pair_asked word = pair_found (number_below (2 ^ 32) word)

-- `/book/members/NAME` and `/book/pairs/N`
abbrev pub asked_last : Setup → List ℕ → Asked
asked_last setup words =
    if bytes_eq (head_at 47 words) (codes "members") then member_asked setup (tail_at 47 words)
    else if bytes_eq (head_at 47 words) (codes "pairs") then pair_asked (tail_at 47 words)
    else Missing

abbrev pub asked_in : Setup → List ℕ → Asked
asked_in setup words =
    if bytes_eq (head_at 47 words) (codes "book") then asked_last setup (tail_at 47 words) else Missing

abbrev pub asked_deeper : Setup → List ℕ → Asked
asked_deeper setup path = asked_in setup (tail_at 47 path)

abbrev pub asked_by : Setup → List ℕ → Option (List ℕ) → Asked
asked_by setup path query =
    if bytes_eq path (codes "/") then Console
    else if bytes_eq path (codes "/windows") then Windows
    else if bytes_eq path (codes "/health") then Look view.Health 0
    else if bytes_eq path (codes "/status") then Look view.Status 0
    else if bytes_eq path (codes "/metrics") then Look view.Metrics 0
    else if bytes_eq path (codes "/book") then Look view.Book 0
    else if bytes_eq path (codes "/entries") then entries_asked query
    else asked_deeper setup path
