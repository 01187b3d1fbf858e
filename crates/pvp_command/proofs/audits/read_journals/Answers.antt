use Rattle.std.proofs.Common.{◌+◌, ℕ, List, Bor, ap, map, take, inl, subst, sym}
use Rattle.std.proofs.lemmas.Result.{err_from_is_err_and}
use Rattle.pvp_command.specs.Audits.{AreReadFrom}
use Rattle.pvp_command.proofs.ReadingFiles.{AreReadFrom-next, bad_next}
use Rattle.pvp_command.proofs.audits.read_journals.Goals as goal

-- src/audits.rt
pub returns-in_err-read_file-clause-err : goal.returns-in_err-read_file-clause-err
returns-in_err-read_file-clause-err g c =
    let text = λ (name : Bor (List ℕ)). name.now in
    let p = err_from_is_err_and c.from_residual-in_err-read_file.result c.from_residual-in_err-read_file.ensures.1 in
    rw (p.1, p.2) (inl (bad_next (g.F.Files.known c.args.files.now) (g.F.Files.fails c.args.files.now) text c.args.names.now c.loop-name.name-index _
    c.loop-name.journals.items c.loop-name.place c.in_err-read_file.field-0.0 c.loop-name.invariant.0 c.loop-name-test.true c.loop-name.invariant.1
    c.in_err-read_file.ensures.err))

-- src/audits.rt
pub loop-name-preserved : goal.loop-name-preserved
loop-name-preserved g c =
    let text = λ (name : Bor (List ℕ)). name.now in
    let known = g.F.Files.known c.args.files.now in
    let at = c.loop-name.name-index in (
      ap (λ n. n + 1) c.loop-name.invariant.0,
      subst (λ journals. AreReadFrom known (map text (take (at + 1) c.args.names.now)) journals) (sym c.in_ok-push.ensures.items)
          (AreReadFrom-next known text c.args.names.now at _ c.loop-name.journals.items c.in_ok-read_file.field-0
          c.loop-name-test.true c.loop-name.invariant.1 c.in_ok-read_file.ensures.ok),
    )
