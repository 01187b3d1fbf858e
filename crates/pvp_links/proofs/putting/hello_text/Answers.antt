use Rattle.std.proofs.Common.{◌≡◌, ℕ, List, [], ◌∷◌, ◌++◌, length, take, drop, ap, ◌∙◌, arith, refl}
use Rattle.std.proofs.lemmas.List.{append-nil, drop_all, drop_at, take_at}
use Rattle.pvp_wire.specs.Spelling.{number}
use Rattle.pvp_links.specs.Sealing.{hello_length}
use Rattle.pvp_links.proofs.putting.hello_text.Goals as goal

-- what is written behind the first part
behind : (front zeros back : List ℕ) → length front ≡ 38 → length zeros ≡ 16
    → take 38 (front ++ zeros) ++ (back ++ drop 16 (drop 38 (front ++ zeros))) ≡ front ++ back
behind front zeros back lf lz = rw (take_at front zeros 38 lf, drop_at front zeros 38 lf, drop_all 16 zeros (omega arith), append-nil) refl

pub returns : goal.returns
returns c =
    let front = c.copy_from_slice.new.self in
    let back = c.copy_from_slice-2.new.self in
    let said = number 4 hello_length ++ number 2 c.args.actor ++ c.args.bank.now in
    let zeros = 0 ∷ 0 ∷ 0 ∷ 0 ∷ 0 ∷ 0 ∷ 0 ∷ 0 ∷ 0 ∷ 0 ∷ 0 ∷ 0 ∷ 0 ∷ 0 ∷ 0 ∷ 0 ∷ [] in
    let caller : front ≡ said = c.copy_from_slice.ensures.after ∙ c.caller_text.ensures in
    let drawn : back ≡ c.args.nonce.now = c.copy_from_slice-2.ensures.after ∙ c.as_slice.ensures in
    behind front zeros back c.copy_from_slice.ensures.len refl ∙ ap (λ (x : List ℕ). x ++ back) caller ∙ ap (λ (x : List ℕ). said ++ x) drawn
