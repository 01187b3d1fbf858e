use Rattle.std.proofs.Common.{◌≡◌, true, arith, refl}
use Rattle.std.proofs.lemmas.Grind.{common_steps}
use Rattle.std.proofs.lemmas.Str.{is_utf8-from_IsUtf8}
use Rattle.std.specs.Str.{is_utf8}
use Rattle.serde_json.specs.Errors.{IsMemory}
use Rattle.pvp_text.proofs.SetupTextTree.{no_tree}
use Rattle.pvp_codes.proofs.tree.check_text.Goals as goal

pub returns-in-Ok : goal.returns-in-Ok
returns-in-Ok c =
    let utf8 : is_utf8 c.args.bytes.now ≡ true = is_utf8-from_IsUtf8 c.args.bytes.now c.in-Ok.ensures.ok.0 in
    rw (utf8, c.in-Ok.ensures.ok.1) c.check_tree.ensures

pub returns-in-Err-2 : goal.returns-in-Err-2
returns-in-Err-2 c =
    let other : ¬ IsMemory c.in-Err-2.field-0 = grind (arith, common_steps) in
    rw (no_tree c.args.bytes.now (c.in-Err-2.ensures.err other)) refl
