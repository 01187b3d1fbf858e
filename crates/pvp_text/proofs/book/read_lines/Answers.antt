use Rattle.std.proofs.Common.{◌≡◌, refl, sym, rules}
use denote.Enum.Bare.{same_true}
use Rattle.pvp_text.specs.contracts.script.LineCode.{the_type}
use Rattle.pvp_text.specs.declared.script.LineCode.TheVariants.{NoMemory}
use Rattle.pvp_text.proofs.ScriptLength.{script_at-few}
use Rattle.pvp_text.proofs.book.read_lines.Goals as goal

pub returns-in-Ok : goal.returns-in-Ok
returns-in-Ok c = (c.in-Ok.ensures, script_at-few _ _ _ _ c.in-Ok.ensures)

pub returns-in-Err : goal.returns-in-Err
returns-in-Err c =
    let refused : c.in-Err.fault.code ≡ NoMemory = same_true the_type (search rules) _ _ (sym c.if-eq.ensures) in
    (c.in-Err.fault, rw refused refl, c.in-Err.ensures)
