-- The text of a boot cell, and what a text reads as.
use Rattle.std.specs.Prelude.{ℕ, ◌-◌, ◌==◌, List, [], ◌∷◌, ◌++◌, if◌then◌else◌, Result, Ok, Err}
use Rattle.std.specs.Int.{w32, to_be_bytes, from_be_bytes}
use Rattle.vr_types.specs.declared.cell.Boot.{Boot}
use Rattle.vr_types.specs.Cell.{max_number}
use Rattle.pvp_cell.specs.declared.fault.OpenFault.{OpenFault}
use Rattle.pvp_cell.specs.declared.fault.OpenFault.TheVariants.{Length, Damaged}

-- THE TEXT OF A CELL: how often the site was restarted, the most significant byte first, and the complement of that
abbrev pub cell_text : Boot → List ℕ
cell_text boot = to_be_bytes w32 boot.boots ++ to_be_bytes w32 (max_number - boot.boots)

-- a count and what stands for its complement
abbrev pub fitted : ℕ → ℕ → Result Boot OpenFault
fitted boots complement = if complement == max_number - boots then Ok (record { boots = boots }) else Err Damaged

-- WHAT A TEXT SAYS, or why it is none of a cell
abbrev pub boot_told : List ℕ → Result Boot OpenFault
boot_told (a ∷ b ∷ c ∷ d ∷ e ∷ f ∷ g ∷ h ∷ []) =
    fitted (from_be_bytes w32 (a ∷ b ∷ c ∷ d ∷ [])) (from_be_bytes w32 (e ∷ f ∷ g ∷ h ∷ []))
boot_told bytes = Err Length
