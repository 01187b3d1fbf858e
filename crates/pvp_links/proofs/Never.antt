-- Want of memory is no fault of what stands at the front.
use Rattle.std.proofs.Common.{◌≡◌, ℕ, ◌+◌, ◌==◌, Bool, true, false, not, cond, nat_lt, List, length, take, drop, Option, Some, None, Result, Ok, Err, refl, ap}
use Rattle.std.specs.Str.{bytes_eq}
use Rattle.byteorder.specs.Endian.{big_number}
use Rattle.pvp_wire.specs.declared.fault.WireFault.{WireFault}
use Rattle.pvp_wire.specs.declared.fault.WireFault.TheVariants as wire
use Rattle.pvp_wire.specs.declared.stamped.Stamped.{Stamped}
use Rattle.pvp_wire.specs.Reading.{frame_where}
use Rattle.pvp_wire.proofs.Refusals.{frame_never}
use Rattle.pvp_links.specs.declared.fault.LinkFault.{LinkFault}
use Rattle.pvp_links.specs.declared.fault.LinkFault.TheVariants as fault
use Rattle.pvp_links.specs.declared.link.Link.{Link}
use Rattle.pvp_links.specs.Sealing.{tag, tag_size}
use Rattle.pvp_links.specs.Fronts.{Said, sealed_at, is_length, size_if, size_at, of_wire, addressed_envelope, said_of, said_in, with_size, front_of, front_where, front}

-- a test that tells no such fault passes on what is behind it
past : {A : Type 0} (b : Bool) (first r : Result A LinkFault) (why : LinkFault) → (first ≡ Err why → ⊥) → (r ≡ Err why → ⊥) → cond b first r ≡ Err why → ⊥
past true first r why h k e = h e
past false first r why h k e = k e

abbrev told : {A : Type 0} → LinkFault → Result A LinkFault
told why = Err why

other : {A : Type 0} (f g : LinkFault) → told {A = A} f ≡ told {A = A} g → f ≡ g
other f g e = cc

sealed-never : (link : Link) (size : ℕ) (bytes : List ℕ) → sealed_at link size bytes ≡ Err fault.NoMemory → ⊥
unfolding sealed_at
sealed-never link size bytes =
    past (nat_lt (length bytes) (size + tag_size link)) _ _ fault.NoMemory (λ e. cc)
    (past (not (bytes_eq (tag link.peer link (take size bytes)) (take (tag_size link) (drop size bytes)))) _ _ fault.NoMemory (λ e. cc) (λ e. cc))

sized-never : (size : ℕ) (r : Result Bool LinkFault) → (r ≡ Err fault.NoMemory → ⊥) → size_if size r ≡ Err fault.NoMemory → ⊥
sized-never size (Ok true) h e = cc
sized-never size (Ok false) h e = cc
sized-never size (Err why) h e = h (ap told (other {A = Option ℕ} why fault.NoMemory e))

size-never : (link : Link) (bytes : List ℕ) → size_at link bytes ≡ Err fault.NoMemory → ⊥
unfolding size_at
size-never link bytes =
    let size = 4 + big_number 4 bytes in
    past (nat_lt (length bytes) 4) _ _ fault.NoMemory (λ e. cc)
    (past (not (is_length (big_number 4 bytes))) _ _ fault.NoMemory (λ e. cc) (sized-never size (sealed_at link size bytes) (sealed-never link size bytes)))

of_wire-never : (f : WireFault) → of_wire f ≡ fault.NoMemory → f ≡ wire.NoMemory
of_wire-never wire.NoMemory e = refl
of_wire-never wire.Short e = absurd cc
of_wire-never wire.TooLong e = absurd cc
of_wire-never wire.Version e = absurd cc
of_wire-never wire.Kind e = absurd cc
of_wire-never wire.Field e = absurd cc
of_wire-never wire.Length e = absurd cc

addressed-never : (link : Link) (s : Stamped) → addressed_envelope link s ≡ Err fault.NoMemory → ⊥
addressed-never link s =
    past (not (s.envelope.from == link.peer)) _ _ fault.NoMemory (λ e. cc) (past (not (s.envelope.to == link.me)) _ _ fault.NoMemory (λ e. cc) (λ e. cc))

said_of-never : (link : Link) (r : Result (Stamped × ℕ) WireFault) → (r ≡ Err wire.NoMemory → ⊥) → said_of link r ≡ Err fault.NoMemory → ⊥
said_of-never link (Ok x) h e = addressed-never link x.0 e
said_of-never link (Err why) h e = h (ap (λ (f : WireFault). Err f) (of_wire-never why (other {A = Said} (of_wire why) fault.NoMemory e)))

said-never : (link : Link) (text : List ℕ) → said_in false link text ≡ Err fault.NoMemory → ⊥
unfolding said_in
said-never link text = past (length text == 4) _ _ fault.NoMemory (λ e. cc) (said_of-never link (frame_where false text) (frame_never text))

with_size-never : (size : ℕ) (r : Result Said LinkFault) → (r ≡ Err fault.NoMemory → ⊥) → with_size size r ≡ Err fault.NoMemory → ⊥
with_size-never size (Ok said) h e = cc
with_size-never size (Err why) h e = h (ap told (other {A = Option (Said × ℕ)} why fault.NoMemory e))

front_of-never : (link : Link) (bytes : List ℕ) (r : Result (Option ℕ) LinkFault) → (r ≡ Err fault.NoMemory → ⊥)
    → front_of false link bytes r ≡ Err fault.NoMemory → ⊥
front_of-never link bytes (Ok None) h e = cc
front_of-never link bytes (Ok (Some size)) h e =
    with_size-never (size + tag_size link) (said_in false link (take size bytes)) (said-never link (take size bytes)) e
front_of-never link bytes (Err why) h e = h (ap told (other {A = Option (Said × ℕ)} why fault.NoMemory e))

pub front-never : (link : Link) (bytes : List ℕ) → front link bytes ≡ Err fault.NoMemory → ⊥
unfolding front_where
front-never link bytes e = front_of-never link bytes (size_at link bytes) (size-never link bytes) e
