-- Thirty-two bytes that are written in two halves.
use Rattle.std.proofs.Common.{◌≡◌, ℕ, List, ◌++◌, length, take, drop, arith, refl}
use Rattle.std.proofs.lemmas.List.{append-nil, drop_all, drop_at, take_at}

-- what is written over the second half
pub halves : (front zeros back : List ℕ) → length front ≡ 16 → length zeros ≡ 16
    → take 16 (front ++ zeros) ++ (back ++ drop 16 (drop 16 (front ++ zeros))) ≡ front ++ back
halves front zeros back lf lz = rw (take_at front zeros 16 lf, drop_at front zeros 16 lf, drop_all 16 zeros (omega arith), append-nil) refl
