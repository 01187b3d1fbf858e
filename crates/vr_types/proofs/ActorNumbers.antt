-- The numbers of each kind of actor.
use Rattle.std.proofs.Common.{◌≡◌, ℕ, ◌+◌, ◌-◌, ◌<◌, nat_le, ap, ◌∙◌, arith, if◌then◌else◌, true, false}
use Rattle.std.proofs.lemmas.Bool.Decides.{nat_tests}
use Rattle.vr_types.specs.declared.actors.ActorId.{ActorId}
use Rattle.vr_types.specs.declared.actors.ActorId.TheVariants.{Client, Node, Site}
use Rattle.vr_types.specs.Actors.{id_of}

-- a site's number is a site's
pub id_of_site : (i : ℕ) → id_of (200 + i) ≡ Site i
id_of_site i =
    let high : nat_le 200 (200 + i) ≡ true = grind (arith, nat_tests) in
    let same : 200 + i - 200 ≡ i = omega arith in
    ap (λ b. if b then Site (200 + i - 200) else if nat_le 101 (200 + i) then Node (200 + i - 101) else Client (200 + i)) high ∙ ap Site same

-- a node's a node's
pub id_of_node : (c : ℕ) → c < 99 → id_of (101 + c) ≡ Node c
id_of_node c few =
    let first : nat_le 200 (101 + c) ≡ false = grind (arith, nat_tests) in
    let second : nat_le 101 (101 + c) ≡ true = grind (arith, nat_tests) in
    let same : 101 + c - 101 ≡ c = omega arith in
    ap (λ b. if b then Site (101 + c - 200) else if nat_le 101 (101 + c) then Node (101 + c - 101) else Client (101 + c)) first
    ∙ ap (λ b. if b then Node (101 + c - 101) else Client (101 + c)) second ∙ ap Node same

-- a client's a client's
pub id_of_client : (k : ℕ) → k < 101 → id_of k ≡ Client k
id_of_client k few =
    let first : nat_le 200 k ≡ false = grind (arith, nat_tests) in
    let second : nat_le 101 k ≡ false = grind (arith, nat_tests) in
    ap (λ b. if b then Site (k - 200) else if nat_le 101 k then Node (k - 101) else Client k) first
    ∙ ap (λ b. if b then Node (k - 101) else Client k) second
