-- Keys that two actors share, and tags by them.
use Rattle.std.specs.Prelude.{ℕ, List, ◌++◌, take, min, max}
use Rattle.byteorder.specs.Endian.{big_bytes}
use Rattle.pvp_tags.specs.Hmac.{hmac}

-- the numbers of two actors, the lower one first
abbrev pub pair_text : ℕ → ℕ → List ℕ
pair_text one other = big_bytes 2 (min one other) ++ big_bytes 2 (max one other)

-- THE KEY OF A PAIR, by the bank's secret
abbrev pub key_of : List ℕ → ℕ → ℕ → List ℕ
key_of secret one other = hmac secret (pair_text one other)

-- THE KEY OF A STREAM between two who share a key, in one life of their bank: over what the opener and then the other
-- drew for it
abbrev pub stream_key : List ℕ → List ℕ → List ℕ → List ℕ
stream_key key bank drawn = hmac key (bank ++ drawn)

-- THE TAG of a text: half of the HMAC over what is tagged before it and the text
abbrev pub tag_of : List ℕ → List ℕ → List ℕ → List ℕ
tag_of key head text = take 16 (hmac key (head ++ text))
