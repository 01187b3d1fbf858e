-- Worlds of one trail show one bank.
use Rattle.std.proofs.Common.{◌≡◌, ℕ, List, [], ◌∷◌, ◌++◌, sym, ap, ◌∙◌, subst}
use Rattle.pvp_types.specs.declared.setup.Setup.{Setup}
use Rattle.pvp_types.specs.Setup.{faults}
use Rattle.vr_types.specs.declared.cell.Boot.{Boot}
use Rattle.headline.specs.declared.step.Move.{Move}
use Rattle.headline.specs.Bank.{Bank, opening_bank}
use Rattle.headline.specs.Legal.{LegalList}
use Rattle.headline.proofs.Runs.{leads-more}
use Rattle.headline.proofs.Unique.{banks_once}
use Rattle.pvp_world.specs.World.{ShownWorld, IsAt}
use Rattle.pvp_world.specs.Steps.{Moves}

-- legal lists of one setup, one opening and the same moves lead to one bank
pub one-bank : (s t : Setup) → s ≡ t → (a : LegalList s (faults s)) (b : LegalList t (faults t)) → a.cells ≡ b.cells → a.moves ≡ b.moves → a.bank ≡ b.bank
one-bank s t e a =
    subst (λ (t : Setup). (b : LegalList t (faults t)) → a.cells ≡ b.cells → a.moves ≡ b.moves → a.bank ≡ b.bank) e (λ b. banks_once s (faults s) a b)

module _ {B : Type 0} (held : B → Boot) (old new : ShownWorld B) (move : Move) (m : Moves held old new move) where
  -- where a world was before a move
  abbrev pub was-at : IsAt held old
  was-at = record { list = m.list; cells = m.cells; moves = m.moves; shows = m.shows }

  -- the list with the move at its end
  abbrev pub after-list : LegalList old.setup (faults old.setup)
  after-list = record {
    valid = m.list.valid;
    choose = m.list.choose;
    right = m.list.right;
    cells = m.list.cells;
    moves = m.list.moves ++ move ∷ [];
    bank = m.after;
    legal =
        record {
          all = m.list.legal.all;
          run = leads-more old.setup m.list.choose (faults old.setup) (opening_bank old.setup (faults old.setup) m.list.cells) m.list.moves m.list.bank
              m.after move m.list.legal.run m.leads;
        };
  }
