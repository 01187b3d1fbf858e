-- The headline holds where a world's trail leads, as it holds of every legal list.
use Rattle.std.proofs.Common.{◌≡◌, ℕ, sym, ◌∙◌, subst}
use Rattle.pvp_types.specs.declared.setup.Setup.{Setup}
use Rattle.pvp_types.specs.Setup.{faults}
use Rattle.vr_types.specs.declared.cell.Boot.{Boot}
use Rattle.headline.specs.Legal.{LegalList, Continued}
use Rattle.headline.specs.Whole.{Headline}
use Rattle.pvp_world.specs.World.{ShownWorld, ShowsBank, IsAt, OfTrail, IsProved}

-- a world shows what its trail leads to, whatever right choices the list takes as given
pub shows_there : {B : Type 0} (held : B → Boot) (world : ShownWorld B) → IsAt held world
    → ((setup : Setup) (f : ℕ) (a b : LegalList setup f) → a.cells ≡ b.cells → a.moves ≡ b.moves → a.bank ≡ b.bank)
    → OfTrail world (λ list. ShowsBank held world list.bank)
shows_there held world at one_bank list cells moves =
    subst (λ bank. ShowsBank held world bank) (one_bank world.setup (faults world.setup) at.list list (at.cells ∙ sym cells) (at.moves ∙ sym moves)) at.shows

pub proved : {B : Type 0} (held : B → Boot) (world : ShownWorld B) → IsAt held world
    → ((setup : Setup) (f : ℕ) (early : LegalList setup f) (late : Continued early) → Headline early late)
    → ((setup : Setup) (f : ℕ) (a b : LegalList setup f) → a.cells ≡ b.cells → a.moves ≡ b.moves → a.bank ≡ b.bank)
    → IsProved held world
proved held world at whole one_bank = record {
  is_at = at;
  shows = shows_there held world at one_bank;
  headline = λ early late rest cells parts. whole world.setup (faults world.setup) early late;
}
