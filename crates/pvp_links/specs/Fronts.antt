-- What is at the front of the bytes from a link, and what is wrong with it: the first of the tests that fails.
use Rattle.std.specs.Prelude.{ℕ, ◌+◌, ◌≤◌, ◌==◌, ◌&&◌, ◌||◌, ◌≡◌, ◌⊎◌, ◌++◌, Bool, true, false, not, nat_lt, nat_le, List, length, take, drop, Option, Some, None, Result, Ok, Err, if◌then◌else◌}
use Rattle.std.specs.Str.{bytes_eq}
use Rattle.byteorder.specs.Endian.{big_number}
use Rattle.pvp_wire.specs.declared.fault.WireFault.{WireFault}
use Rattle.pvp_wire.specs.declared.fault.WireFault.TheVariants as wire
use Rattle.pvp_wire.specs.declared.stamped.Stamped.{Stamped}
use Rattle.pvp_wire.specs.Fits.{IsSpelled}
use Rattle.pvp_wire.specs.Reading.{frame_where, most_length}
use Rattle.pvp_wire.specs.Spelling.{spelling}
use Rattle.pvp_links.specs.declared.fault.LinkFault.{LinkFault}
use Rattle.pvp_links.specs.declared.fault.LinkFault.TheVariants as fault
use Rattle.pvp_links.specs.declared.link.Link.{Link}
use Rattle.pvp_links.specs.Sealing.{tag, tag_size, sealed_from, sealed_text, hello_length}

-- a text of so many bytes stands there with its tag, or more bytes are wanted
unfoldable pub sealed_at : Link → ℕ → List ℕ → Result Bool LinkFault
sealed_at link size bytes =
    if nat_lt (length bytes) (size + tag_size link) then Ok false
    else if not (bytes_eq (tag link.peer link (take size bytes)) (take (tag_size link) (drop size bytes)))
    then Err fault.Tag
    else Ok true

-- ---- hellos

-- who opens the stream, by the first frame: it has to be a hello of this bank
unfoldable pub caller_at : List ℕ → List ℕ → Result (Option ℕ) LinkFault
caller_at bank bytes =
    if nat_lt (length bytes) 4 then Ok None
    else if not (big_number 4 bytes == hello_length) then Err fault.Hello
    else if nat_lt (length bytes) (4 + hello_length) then Ok None
    else if not (bytes_eq (take 32 (drop 6 bytes)) bank) then Err fault.Hello
    else Ok (Some (big_number 2 (drop 4 bytes)))

-- what it drew for the stream, where a hello stands there
abbrev pub nonce_at : List ℕ → List ℕ
nonce_at bytes = take 16 (drop 38 bytes)

-- the hello of that actor has to be of the link's peer, and tagged
abbrev pub hello_of : Link → List ℕ → Result (Option ℕ) LinkFault → Result Bool LinkFault
hello_of link bytes (Err why) = Err why
hello_of link bytes (Ok None) = Ok false
hello_of link bytes (Ok (Some actor)) =
    if not (actor == link.peer) then Err fault.Hello else sealed_at link (4 + hello_length) bytes

-- THE HELLO of the link's peer stands at the front, or more bytes are wanted
abbrev pub hello_at : Link → List ℕ → Result Bool LinkFault
hello_at link bytes = hello_of link bytes (caller_at link.bank bytes)

-- ---- frames and pings

-- a length that a frame or a ping has
abbrev pub is_length : ℕ → Bool
is_length len = (len == 0) || (nat_le 18 len && nat_le len most_length)

abbrev pub size_if : ℕ → Result Bool LinkFault → Result (Option ℕ) LinkFault
size_if size (Err why) = Err why
size_if size (Ok false) = Ok None
size_if size (Ok true) = Ok (Some size)

-- how many bytes the frame or ping has that stands there with its tag, without that; none where more bytes are wanted
unfoldable pub size_at : Link → List ℕ → Result (Option ℕ) LinkFault
size_at link bytes =
    if nat_lt (length bytes) 4 then Ok None
    else if not (is_length (big_number 4 bytes)) then Err fault.Length
    else size_if (4 + big_number 4 bytes) (sealed_at link (4 + big_number 4 bytes) bytes)

-- what a ping and a frame say
pub data Said : Type 0 where
  Lives : Said
  Says : Stamped → Said

-- a fault of the wire, where no more bytes are wanted
abbrev pub of_wire : WireFault → LinkFault
of_wire wire.NoMemory = fault.NoMemory
of_wire wire.Short = fault.Wire wire.Short
of_wire wire.TooLong = fault.Wire wire.TooLong
of_wire wire.Version = fault.Wire wire.Version
of_wire wire.Kind = fault.Wire wire.Kind
of_wire wire.Field = fault.Wire wire.Field
of_wire wire.Length = fault.Wire wire.Length

-- an envelope has to be from the link's peer and to this end
abbrev pub addressed_envelope : Link → Stamped → Result Said LinkFault
addressed_envelope link s =
    if not (s.envelope.from == link.peer) then Err fault.Sender
    else if not (s.envelope.to == link.me) then Err fault.Receiver
    else Ok (Says s)

abbrev pub said_of : Link → Result (Stamped × ℕ) WireFault → Result Said LinkFault
said_of link (Err why) = Err (of_wire why)
said_of link (Ok found) = addressed_envelope link found.0

-- what a text says whose tag is right; read as if memory were refused for its rows, or as if it were not
unfoldable pub said_in : Bool → Link → List ℕ → Result Said LinkFault
said_in refused link text = if length text == 4 then Ok Lives else said_of link (frame_where refused text)

abbrev pub with_size : ℕ → Result Said LinkFault → Result (Option (Said × ℕ)) LinkFault
with_size size (Err why) = Err why
with_size size (Ok said) = Ok (Some (said, size))

abbrev pub front_of : Bool → Link → List ℕ → Result (Option ℕ) LinkFault → Result (Option (Said × ℕ)) LinkFault
front_of refused link bytes (Err why) = Err why
front_of refused link bytes (Ok None) = Ok None
front_of refused link bytes (Ok (Some size)) = with_size (size + tag_size link) (said_in refused link (take size bytes))

unfoldable pub front_where : Bool → Link → List ℕ → Result (Option (Said × ℕ)) LinkFault
front_where refused link bytes = front_of refused link bytes (size_at link bytes)

-- THE FRONT: what is said there, and how many bytes it takes with its tag; none where more bytes are wanted
abbrev pub front : Link → List ℕ → Result (Option (Said × ℕ)) LinkFault
front link bytes = front_where false link bytes

-- Reading what stands there takes memory: all tests up to the first row of a frame are passed.
abbrev pub TakesMemory : Link → List ℕ → Type 0
TakesMemory link bytes = front_where true link bytes ≡ Err fault.NoMemory

-- ---- what was found

-- a text that the near end put, with whatever follows it, is found at the far end as what it says
abbrev pub IsFoundAt : Link → Link → List ℕ → List ℕ → Said → Type 0
IsFoundAt far near text rest said =
    front far (sealed_text near text ++ rest) ≡ Ok (Some (said, length (sealed_text near text)))

-- these bytes begin with a text and the tag that the link's peer puts behind it next, which are so many
pub record BeginsWith (link : Link) (text : List ℕ) (size : ℕ) (bytes : List ℕ) : Type 0 where
  pub whole : take size bytes ≡ sealed_from link.peer link text
  pub exact : size ≡ length (sealed_from link.peer link text)
  pub within : size ≤ length bytes

-- an envelope that is from the link's peer and to this end stands at the front, with the tag of its frame
pub record IsHeard (link : Link) (stamped : Stamped) (size : ℕ) (bytes : List ℕ) : Type 0 where
  pub begins : BeginsWith link (spelling stamped) size bytes
  pub spelled : IsSpelled stamped
  pub sender : stamped.envelope.from ≡ link.peer
  pub receiver : stamped.envelope.to ≡ link.me

-- ---- what a function returned

-- what a function that takes memory for rows returned, seen by view, is what stands there: only where one has to be
-- kept may it report that memory was refused
abbrev pub Gives : {X Y : Type 0} → (X → Y) → Result X LinkFault → (Bool → Result Y LinkFault) → Type 0
Gives view (Ok x) read = read false ≡ Ok (view x)
Gives view (Err why) read = (read false ≡ Err why) ⊎ ((why ≡ fault.NoMemory) × (read true ≡ Err fault.NoMemory))
