-- HMAC-SHA256, as RFC 2104 has it.
use Rattle.std.specs.Prelude.{ℕ, ◌-◌, List, ◌++◌, length, map, replicate, bit_xor, nat_le, if◌then◌else◌}
use Rattle.sha2.specs.Sha256.{sha256}

-- a key with zeros behind it, up to a block of 64 bytes
abbrev pub filled : List ℕ → List ℕ
filled key = key ++ replicate (64 - length key) 0

abbrev pub masked : ℕ → List ℕ → List ℕ
masked mask block = map (λ byte. bit_xor byte mask) block

-- that of a message under a key of at most one block
abbrev pub hmac_by_block : List ℕ → List ℕ → List ℕ
hmac_by_block key message = sha256 (masked 0x5c (filled key) ++ sha256 (masked 0x36 (filled key) ++ message))

-- THE HMAC of a message under a key: a longer one is taken by its digest
abbrev pub hmac : List ℕ → List ℕ → List ℕ
hmac key message = if nat_le (length key) 64 then hmac_by_block key message else hmac_by_block (sha256 key) message
