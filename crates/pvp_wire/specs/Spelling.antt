-- How a stamped envelope is spelled in bytes. All numbers are big-endian.
use Rattle.std.specs.Prelude.{ℕ, ◌+◌, ◌*◌, ◌==◌, ◌&&◌, Bool, true, List, ◌∷◌, ◌++◌, length, Option, Some, None}
use Rattle.std.specs.List.{list_all}
use Rattle.vr_types.specs.Actors.{is_actor, is_client}
use Rattle.vr_types.specs.Messages.{rows_in, known_in}
use Rattle.pvp_wire.specs.declared.stamped.Stamped.{Stamped}
use Rattle.pvp_wire.specs.Layout.{stamp}
pub use Rattle.pvp_wire.specs.Layout.{BankMsg, BankRow, kind, body, is_site_count}
unfoldable pub use Rattle.pvp_wire.specs.Shape.{number}

-- the version of these formats
abbrev pub version : ℕ
version = 2

-- what is between a frame's length and its message: the version, the kind, the stamp, the receiver
abbrev pub head : Stamped → List ℕ
head s = version ∷ kind s.envelope.msg ∷ stamp.spell s.stamp ++ number 2 s.envelope.to

-- the greatest numbers of bytes of a command, a row, rows, boot numbers and the fields of a message: an Instruct, and
-- a RECOVERYRESPONSE with as many rows as a log can have
abbrev pub most_command : ℕ
most_command = 25

abbrev pub most_row : ℕ
most_row = 6 + most_command

abbrev pub most_rows : ℕ
most_rows = 2 + 65535 * most_row

abbrev pub most_boots : ℕ
most_boots = 1 + 7 * 4

abbrev pub most_body : ℕ
most_body = 11 + most_boots + most_rows

-- THE FRAME: the length of what follows, the head, the message
abbrev pub spelling : Stamped → List ℕ
spelling s = number 4 (18 + length (body s.envelope.msg)) ++ head s ++ body s.envelope.msg

abbrev pub has_client : BankRow → Bool
has_client r = is_client r.client

-- if a message carries boot numbers, they are those of 1 to 7 sites
abbrev pub has_site_count : Option (List ℕ) → Bool
has_site_count None = true
has_site_count (Some known) = is_site_count (length known)

-- An envelope that has a spelling: it is from the actor of its stamp, its actors are actors, its rows are of clients,
-- and its boot numbers, if it has any, are those of 1 to 7 sites.
abbrev pub is_wireable : Stamped → Bool
is_wireable s =
    (s.envelope.from == s.stamp.actor)
    && (is_actor s.stamp.actor && (is_actor s.envelope.to
    && (list_all has_client (rows_in s.envelope.msg) && has_site_count (known_in s.envelope.msg))))
