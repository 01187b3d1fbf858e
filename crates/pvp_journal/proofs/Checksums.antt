-- A checksum fits eight bytes.
use Rattle.std.proofs.Common.{ℕ, zero, suc, ◌/◌, ◌^◌, ◌<◌, List, ◌++◌, arith}
use Rattle.std.specs.Int.{w32, byte_at, bytes_high_first, to_be_bytes}
use Rattle.std.specs.Prelude.{slice_index}
use Rattle.std.proofs.Math.Nat.{mod-lt}
use Rattle.std.proofs.lemmas.List.Elements.{All-cons, All-nil, All-append}
use Rattle.byteorder.specs.Numbers.{big_from-lt}
use Rattle.sha2.specs.Sha256.{sha256, digest_bytes}
use Rattle.pvp_wire.specs.Fits.{Fits, IsBytes}
use Rattle.pvp_wire.specs.Spelling.{number}
use Rattle.pvp_wire.proofs.Formats.{each_byte}
use Rattle.pvp_journal.specs.Spelling.{checksum}

byte_at-lt : (i n : ℕ) → byte_at i n < 256
byte_at-lt zero n = mod-lt n (omega arith)
byte_at-lt (suc i) n = mod-lt (n / 256 ^ suc i) (omega arith)

high_first : (k n : ℕ) → IsBytes (bytes_high_first k n)
high_first zero n = All-nil (λ (b : ℕ). b < 256)
high_first (suc k) n = All-cons (λ (b : ℕ). b < 256) (byte_at k n) (bytes_high_first k n) (byte_at-lt k n) (high_first k n)

word : (n : ℕ) → IsBytes (to_be_bytes w32 n)
word n = high_first 4 n

digest : (h : List ℕ) (n : ℕ) → IsBytes (digest_bytes h n)
unfolding digest_bytes
digest h zero = All-nil (λ (b : ℕ). b < 256)
digest h (suc n) = All-append (λ (b : ℕ). b < 256) (digest_bytes h n) (to_be_bytes w32 (slice_index h n)) (digest h n) (word (slice_index h n))

of_message : (m : List ℕ) → IsBytes (sha256 m)
unfolding sha256
of_message m = digest _ 8

pub checksum-fits : (before : ℕ) (bytes : List ℕ) → Fits 8 (checksum before bytes)
unfolding checksum
checksum-fits before bytes =
    big_from-lt 0 8 (sha256 (number 8 before ++ bytes)) (each_byte (sha256 (number 8 before ++ bytes)) (of_message (number 8 before ++ bytes)))
