-- What a part of a writer does to the bytes.
use Rattle.std.specs.Prelude.{◌≡◌, ℕ, List, ◌++◌, Result, Ok, Err}
use Rattle.pvp_journal.specs.declared.fault.WriteFault.{WriteFault}
use Rattle.pvp_journal.specs.declared.fault.WriteFault.TheVariants.{Unfit}

-- This text is put behind the bytes, and all of it fits; or it does not fit, or memory was refused.
abbrev pub Puts : List ℕ → List ℕ → Type 0 → Result (Unit {0}) WriteFault → List ℕ → Type 0
Puts old text Fit (Ok done) new = (new ≡ old ++ text) × Fit
Puts old text Fit (Err fault) new = fault ≡ Unfit → Fit → ⊥
