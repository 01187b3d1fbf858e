use Rattle.std.proofs.Common.{◌≡◌, ℕ, List, [], ◌∷◌, ◌++◌, ap, ◌∙◌, refl}
use Rattle.pvp_journal.specs.Bank.{mark_of}
use Rattle.pvp_journal.proofs.Halves.{halves}
use Rattle.pvp_journal.proofs.bank.bank_of.Goals as goal

pub returns : goal.returns
returns c =
    let front = c.copy_from_slice.new.self in
    let back = c.copy_from_slice-2.new.self in
    let zeros = 0 ∷ 0 ∷ 0 ∷ 0 ∷ 0 ∷ 0 ∷ 0 ∷ 0 ∷ 0 ∷ 0 ∷ 0 ∷ 0 ∷ 0 ∷ 0 ∷ 0 ∷ 0 ∷ [] in
    let marked : front ≡ mark_of c.args.setup.now = c.copy_from_slice.ensures.after ∙ c.as_slice.ensures ∙ c.mark_of.ensures in
    let drawn : back ≡ c.args.life = c.copy_from_slice-2.ensures.after ∙ c.as_slice-2.ensures in
    halves front zeros back c.copy_from_slice.ensures.len refl ∙ ap (λ (x : List ℕ). x ++ back) marked
    ∙ ap (λ (x : List ℕ). mark_of c.args.setup.now ++ x) drawn
