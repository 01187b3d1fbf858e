-- WHO MAY READ A WINDOW where not everybody may.
use Rattle.std.specs.Prelude.{ℕ, ◌==◌, ◌||◌, Bool, true, false, bytes_eq, find, if◌then◌else◌, List, Option, Some, None, codes}
use Rattle.std.specs.Option.{option_map}
use Rattle.http_header.specs.FieldValue.{FieldValue}
use Rattle.sha2.specs.Sha256.{sha256}
use Rattle.pvp_window.specs.Paths.{head_at, tail_at}
use Rattle.pvp_window.specs.declared.look.View.TheVariants as view
use Rattle.pvp_window.specs.declared.path.Asked.{Asked}
use Rattle.pvp_window.specs.declared.path.Asked.TheVariants.{Console, Look}
use Rattle.pvp_window.specs.declared.reader.Token.{Token}

-- the token of these digits
abbrev pub token : ℕ → List ℕ → Token
token reader digits = record { reader = reader; sum = sha256 digits }

-- for whom a token of this sum reads: the first that has it
abbrev pub reader_by : List Token → List ℕ → Option ℕ
reader_by tokens sum = option_map (λ t. t.reader) (find (λ t. bytes_eq t.sum sum) tokens)

-- FOR WHOM A REQUEST READS, by its field `authorization`: `Bearer` and a token
abbrev pub reader_in : List Token → List ℕ → Option ℕ
reader_in tokens field =
    if bytes_eq (head_at 32 field) (codes "Bearer") then reader_by tokens (sha256 (tail_at 32 field)) else None

abbrev pub reader_of : List Token → Option FieldValue → Option ℕ
reader_of tokens (Some field) = reader_in tokens field.bytes
reader_of tokens None = None

-- what has nothing of the bank anybody may read
abbrev pub is_open : Asked → Bool
is_open Console = true
is_open (Look view.Health wait) = true
is_open _ = false

-- a member's own part of the book
abbrev pub is_of : ℕ → Asked → Bool
is_of reader (Look (view.Member m) wait) = m == reader
is_of reader _ = false

-- WHO MAY READ WHAT: the operator all, a member its own
abbrev pub may_read : ℕ → Asked → Bool
may_read reader asked = (reader == 0) || is_of reader asked
