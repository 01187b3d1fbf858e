use Rattle.std.proofs.Common.{◌≡◌, true, inl, inr, refl}
use Rattle.std.proofs.lemmas.Result.{err_from_is_err_and}
use Rattle.std.proofs.lemmas.Str.{is_utf8-from_IsUtf8}
use Rattle.std.specs.Str.{is_utf8}
use Rattle.pvp_text.specs.declared.setup.TextFault.TheVariants.{NoMemory}
use Rattle.pvp_text.proofs.SetupTextTree.{no_tree, takes_memory}
use Rattle.pvp_text.proofs.setup.read_tree.Goals as goal

pub returns-in_err-from_slice : goal.returns-in_err-from_slice
returns-in_err-from_slice c =
    let p = err_from_is_err_and c.from_residual.result c.from_residual.ensures.1 in
    rw p.1 (elim p.2 [
      | inl memory ↦ rw memory.1 (inr (refl, takes_memory NoMemory c.args.bytes.now (c.in_err-from_slice.ensures.memory memory.0)))
      | inr other ↦ rw other.1 (inl (no_tree c.args.bytes.now (c.in_err-from_slice.ensures.err other.0)))
    ])

pub returns : goal.returns
returns c =
    let utf8 : is_utf8 c.args.bytes.now ≡ true = is_utf8-from_IsUtf8 c.args.bytes.now c.in_ok-from_slice.ensures.ok.0 in
    rw (utf8, c.in_ok-from_slice.ensures.ok.1) refl
