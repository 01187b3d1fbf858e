-- Which bank a journal is of.
use Rattle.std.specs.Prelude.{ℕ, List, ◌++◌, take}
use Rattle.sha2.specs.Sha256.{sha256}

-- WHAT MARKS A SETUP: the first sixteen bytes of the SHA-256 of its text
unfoldable pub mark_of : List ℕ → List ℕ
mark_of setup = take 16 (sha256 setup)

-- THE ID OF A BANK: its setup's mark, and sixteen bytes that are drawn anew for each life of it
abbrev pub bank_of : List ℕ → List ℕ → List ℕ
bank_of setup life = mark_of setup ++ life
