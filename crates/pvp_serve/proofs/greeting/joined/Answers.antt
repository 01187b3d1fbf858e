use Rattle.std.proofs.Common.{◌≡◌, ℕ, List, [], ◌∷◌, ◌++◌, ap, ◌∙◌, refl}
use Rattle.pvp_journal.proofs.Halves.{halves}
use Rattle.pvp_serve.proofs.greeting.joined.Goals as goal

pub returns : goal.returns
returns c =
    let front = c.copy_from_slice.new.self in
    let back = c.copy_from_slice-2.new.self in
    let zeros = 0 ∷ 0 ∷ 0 ∷ 0 ∷ 0 ∷ 0 ∷ 0 ∷ 0 ∷ 0 ∷ 0 ∷ 0 ∷ 0 ∷ 0 ∷ 0 ∷ 0 ∷ 0 ∷ [] in
    let opener : front ≡ c.args.opener.now = c.copy_from_slice.ensures.after ∙ c.as_slice.ensures in
    let other : back ≡ c.args.other.now = c.copy_from_slice-2.ensures.after ∙ c.as_slice-2.ensures in
    halves front zeros back c.copy_from_slice.ensures.len refl ∙ ap (λ (x : List ℕ). x ++ back) opener
    ∙ ap (λ (x : List ℕ). c.args.opener.now ++ x) other
