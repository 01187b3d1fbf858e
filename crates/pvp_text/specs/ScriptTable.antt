-- The forms of a script's lines: of each the word by which it is known, the kinds of script that have it, and what its
-- words are to be.
use Rattle.std.specs.Prelude.{ℕ, ◌&&◌, Bool, true, false, not, List, [], ◌∷◌, find, Option, Some, None, codes, bytes_eq}
use Rattle.pvp_text.specs.declared.script.Kind.{Kind}
use Rattle.pvp_text.specs.declared.script.Kind.TheVariants as script
use Rattle.pvp_text.specs.declared.script.table.Field.{Field}
use Rattle.pvp_text.specs.declared.script.table.Field.TheVariants.{First, Command, Amount, Number, Turns, Sender, Client, Currency, Actor, Site}
use Rattle.pvp_text.specs.declared.script.table.Form.{Form}
use Rattle.pvp_text.specs.declared.script.table.Form.TheVariants.{Of, NoCommand, NoLine, TooFew}
use Rattle.pvp_text.specs.declared.script.table.Kinds.{Kinds}
use Rattle.pvp_text.specs.declared.script.table.Kinds.TheVariants.{All, BookOrPlay, PlayOrLive, Play, Live}
use Rattle.pvp_text.specs.declared.script.table.Word.{Word}
use Rattle.pvp_text.specs.declared.script.table.Word.TheVariants.{Do, Print, PayIn, Close, Beat, Timer, Crash, Restart, Deliver, Drain, Skip, Cut, Heal, Chaos, Rest, Instruct, Rescind, Settle, Fund, PayOut, Paid, Returned}

-- ---- the table

-- what is written
abbrev pub text_of : Word → List ℕ
text_of Do = codes "do"
text_of Print = codes "print"
text_of PayIn = codes "payin"
text_of Close = codes "close"
text_of Beat = codes "beat"
text_of Timer = codes "timer"
text_of Crash = codes "crash"
text_of Restart = codes "restart"
text_of Deliver = codes "deliver"
text_of Drain = codes "drain"
text_of Skip = codes "skip"
text_of Cut = codes "cut"
text_of Heal = codes "heal"
text_of Chaos = codes "chaos"
text_of Rest = codes "rest"
text_of Instruct = codes "instruct"
text_of Rescind = codes "rescind"
text_of Settle = codes "settle"
text_of Fund = codes "fund"
text_of PayOut = codes "payout"
text_of Paid = codes "paid"
text_of Returned = codes "returned"

-- what each word of its lines is to be, from the first one on
abbrev pub fields_of : Word → List Field
fields_of Do = First ∷ Sender ∷ Command ∷ []
fields_of Print = First ∷ []
fields_of PayIn = First ∷ Client ∷ Currency ∷ Amount ∷ []
fields_of Close = First ∷ Client ∷ Currency ∷ []
fields_of Beat = First ∷ Actor ∷ []
fields_of Timer = First ∷ Site ∷ []
fields_of Crash = First ∷ Site ∷ []
fields_of Restart = First ∷ Site ∷ []
fields_of Deliver = First ∷ Number ∷ []
fields_of Drain = First ∷ Number ∷ []
fields_of Skip = First ∷ Number ∷ []
fields_of Cut = First ∷ Actor ∷ []
fields_of Heal = First ∷ Actor ∷ []
fields_of Chaos = First ∷ Amount ∷ Turns ∷ []
fields_of Rest = First ∷ Number ∷ []
fields_of Instruct = First ∷ Sender ∷ Command ∷ Number ∷ Client ∷ Currency ∷ Amount ∷ Currency ∷ Amount ∷ []
fields_of Rescind = First ∷ Sender ∷ Command ∷ Number ∷ []
fields_of Settle = First ∷ Sender ∷ Command ∷ Number ∷ []
fields_of Fund = First ∷ Sender ∷ Command ∷ Currency ∷ Number ∷ Client ∷ Amount ∷ []
fields_of PayOut = First ∷ Sender ∷ Command ∷ Currency ∷ Amount ∷ []
fields_of Paid = First ∷ Sender ∷ Command ∷ Currency ∷ Number ∷ []
fields_of Returned = First ∷ Sender ∷ Command ∷ Currency ∷ Number ∷ []

-- the kinds of script that have its lines: a command is of all
abbrev pub kinds_of : Word → Kinds
kinds_of Print = BookOrPlay
kinds_of PayIn = PlayOrLive
kinds_of Close = PlayOrLive
kinds_of Beat = PlayOrLive
kinds_of Timer = PlayOrLive
kinds_of Crash = PlayOrLive
kinds_of Restart = PlayOrLive
kinds_of Deliver = Play
kinds_of Drain = Play
kinds_of Skip = Play
kinds_of Cut = Play
kinds_of Heal = Play
kinds_of Chaos = Play
kinds_of Rest = Live
kinds_of _ = All

-- the words that begin lines, and the commands
abbrev pub firsts : List Word
firsts =
    Do ∷ Print ∷ PayIn ∷ Close ∷ Beat ∷ Timer ∷ Crash ∷ Restart ∷ Deliver ∷ Drain
    ∷ Skip ∷ Cut ∷ Heal ∷ Chaos ∷ Rest ∷ []

abbrev pub commands : List Word
commands = Instruct ∷ Rescind ∷ Settle ∷ Fund ∷ PayOut ∷ Paid ∷ Returned ∷ []

-- ---- the kinds of script

-- a book and a play have `print`, a play and a live run the lines of actors
abbrev pub prints : Kind → Bool
prints script.Book = true
prints script.Play = true
prints script.Live = false

abbrev pub has_actors : Kind → Bool
has_actors script.Book = false
has_actors script.Play = true
has_actors script.Live = true

abbrev pub has : Kinds → Kind → Bool
has All kind = true
has BookOrPlay kind = prints kind
has PlayOrLive kind = has_actors kind
has Play kind = prints kind && has_actors kind
has Live kind = not (prints kind)

abbrev pub kind_text : Kind → List ℕ
kind_text script.Book = codes "a book"
kind_text script.Play = codes "a play"
kind_text script.Live = codes "a live run"

abbrev pub kinds_text : Kinds → List ℕ
kinds_text All = codes "any script"
kinds_text BookOrPlay = codes "a book or a play"
kinds_text PlayOrLive = codes "a play or a live run"
kinds_text Play = codes "a play"
kinds_text Live = codes "a live run"

-- ---- the form of a line

-- the first of some words that is written so
abbrev pub find_word : List ℕ → List Word → Option Word
find_word word words = find (λ one. bytes_eq word (text_of one)) words

-- the form of a command, where it is one
abbrev pub told_by_command : Option Word → Form
told_by_command (Some word) = Of word
told_by_command None = NoCommand

-- `do`, who sends the command, and the command
abbrev pub command_form : List (List ℕ) → Form
command_form (who ∷ command ∷ fields) = told_by_command (find_word command commands)
command_form _ = TooFew

-- the form of a line with this first word, and this behind it
abbrev pub told_by_first : Option Word → List (List ℕ) → Form
told_by_first (Some Do) rest = command_form rest
told_by_first (Some word) rest = Of word
told_by_first None rest = NoLine

-- THE FORM of a line with these words
abbrev pub form_of : List (List ℕ) → Form
form_of [] = TooFew
form_of (first ∷ rest) = told_by_first (find_word first firsts) rest

-- what each word is to be, as far as the form is known
abbrev pub form_fields : Form → List Field
form_fields (Of word) = fields_of word
form_fields NoCommand = fields_of Do
form_fields NoLine = First ∷ []
form_fields TooFew = []
