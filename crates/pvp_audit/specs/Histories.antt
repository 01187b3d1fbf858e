-- What the verdict of histories says.
use Rattle.std.specs.Prelude.{◌≡◌, ◌⊎◌, List, [], ◌∷◌}
use Rattle.pvp_types.specs.declared.setup.Setup.{Setup}
use Rattle.pvp_rooms.specs.declared.verdict.AuditTest.{AuditTest}
use Rattle.pvp_rooms.specs.declared.verdict.AuditTest.TheVariants as why
use Rattle.pvp_rooms.specs.Verdicts.{IsOfRun}
use Rattle.pvp_audit.specs.declared.verdict.Verdict.{Verdict}
use Rattle.pvp_audit.specs.declared.verdict.Verdict.TheVariants.{No}
use Rattle.pvp_audit.specs.Banked.{IsTheBank}
use Rattle.pvp_audit.specs.Judged.{Left, JudgesRun}
use Rattle.pvp_parties.specs.Parties.{PartyState, Opens}
use Rattle.pvp_audit.specs.declared.history.History.{History}
use Rattle.pvp_audit.specs.Filled.{AreEventsOf, AreFilledIn}

-- an actor left the history that is filled in from these entries
pub record IsLeftBy (closed : Left) (history : History) : Type 0 where
  pub number : closed.number ≡ history.actor
  pub opening : closed.opening ≡ history.opening
  pub events : AreEventsOf history.entries.items closed.history.items
  pub filled : (x : PartyState) → Opens closed.end closed.opening x
      → AreFilledIn x history.entries.items closed.history.items

-- so of each, in order
abbrev pub AreLeftBy : List Left → List History → Type 0
AreLeftBy [] [] = Unit {0}
AreLeftBy (closed ∷ more) (history ∷ others) = IsLeftBy closed history × AreLeftBy more others
AreLeftBy _ _ = ⊥

-- the verdict is one of what the bank's actors left that have these histories, whatever their receipts and ends
abbrev pub JudgesLeft : Setup → List History → Verdict → Type 0
JudgesLeft setup histories verdict =
    (closed : List Left) × AreLeftBy closed histories × IsTheBank setup closed × JudgesRun setup closed verdict

-- THE JUDGEMENT OF HISTORIES is such a one; or memory was refused
abbrev pub JudgesHistories : Setup → List History → Verdict → Type 0
JudgesHistories setup histories verdict = (verdict ≡ No 0 0 why.NoMemory) ⊎ JudgesLeft setup histories verdict

-- one of the tests of a run, A1 to A3, or A6
abbrev pub IsOfHistories : AuditTest → Type 0
IsOfHistories it = IsOfRun it ⊎ (it ≡ why.NoMemory)
