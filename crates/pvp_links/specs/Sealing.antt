-- What is written to a link: a text, and behind it its tag where the two ends share a key.
use Rattle.std.specs.Prelude.{◌≡◌, false, ◌<◌, ℕ, ◌+◌, ◌-◌, ◌^◌, List, [], ◌++◌, length, min, Option, Some, None}
use Rattle.pvp_tags.specs.Keys.{stream_key, tag_of}
use Rattle.pvp_wire.specs.Spelling.{number}
use Rattle.pvp_links.specs.Links.{talks}
use Rattle.pvp_links.specs.declared.link.Link.{Link}

-- what is tagged before a text: who sends it, and how many went the same way before it
abbrev pub head_of : ℕ → ℕ → List ℕ
head_of sender count = number 2 sender ++ number 8 count

-- the tag of a text behind that
unfoldable pub tag_under : Option (List ℕ) → List ℕ → List ℕ → List ℕ
tag_under None head text = []
tag_under (Some key) head text = tag_of key head text

-- THE TAG of the next text that this actor sends over a link
abbrev pub tag : ℕ → Link → List ℕ → List ℕ
tag sender link text = tag_under link.key (head_of sender link.count) text

-- the link when a text more went that way
abbrev pub next : Link → Link
next link = record link { count = min (link.count + 1) (2 ^ 64 - 1) }

-- the key of a stream between two ends, where they share one
unfoldable pub key_over : List ℕ → List ℕ → Option (List ℕ) → Option (List ℕ)
key_over bank drawn None = None
key_over bank drawn (Some key) = Some (stream_key key bank drawn)

-- A NEW STREAM between two ends, for which its opener and then the other drew these bytes: nothing went over it yet
abbrev pub over : List ℕ → Link → Link
over drawn link = record link { key = key_over link.bank drawn link.key; count = 0 }

-- how many bytes it has
unfoldable pub size_under : Option (List ℕ) → ℕ
size_under None = 0
size_under (Some key) = 16

abbrev pub tag_size : Link → ℕ
tag_size link = size_under link.key

-- A TEXT ON A LINK, as this actor sends it
abbrev pub sealed_from : ℕ → Link → List ℕ → List ℕ
sealed_from sender link text = text ++ tag sender link text

-- and as this end does
abbrev pub sealed_text : Link → List ℕ → List ℕ
sealed_text link text = sealed_from link.me link text

-- how many bytes of a hello its length counts: the number of an actor, the id of a bank, and what was drawn for the
-- stream
abbrev pub hello_length : ℕ
hello_length = 50

-- the hello of an actor of a bank
abbrev pub hello_text : ℕ → List ℕ → List ℕ → List ℕ
hello_text actor bank nonce = number 4 hello_length ++ number 2 actor ++ bank ++ nonce

-- a ping is a frame without any byte
abbrev pub ping_text : List ℕ
ping_text = number 4 0

-- the tag that a function returned
abbrev pub IsTag : ℕ → Link → List ℕ → Option (List ℕ) → Type 0
IsTag sender link text None = (tag sender link text ≡ []) × (tag_size link ≡ 0)
IsTag sender link text (Some found) = (tag sender link text ≡ found) × (tag_size link ≡ 16)

-- What was made of two ends: there is a link where the peer may send to this one.
abbrev pub IsOf : ℕ → ℕ → List ℕ → Option (List ℕ) → Option Link → Type 0
IsOf me peer bank key None = talks peer me ≡ false
IsOf me peer bank key (Some link) =
    (link.me ≡ me) × (link.peer ≡ peer) × (link.bank ≡ bank) × (link.key ≡ key) × (link.count ≡ 0)

-- the number of an end, and the bank's id, have their sizes
pub record IsSized (link : Link) : Type 0 where
  pub me : link.me < 65536
  pub bank : length link.bank ≡ 32

-- two ends of one link, over which as many texts went from the one to the other as the other took
pub record AreEnds (one other : Link) : Type 0 where
  pub there : one.me ≡ other.peer
  pub back : one.peer ≡ other.me
  pub bank : one.bank ≡ other.bank
  pub key : one.key ≡ other.key
  pub count : one.count ≡ other.count
