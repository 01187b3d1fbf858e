use Rattle.std.proofs.Common.{IfErr, IfSome, map, subst}
use Rattle.std.proofs.lemmas.Result.{IfErr-weaker, err_from_is_err_and}
use Rattle.pvp_command.specs.Audits.{AuditTells}
use Rattle.pvp_command.specs.Request.{PlayTells}
use Rattle.pvp_command.proofs.program.run.Goals as goal

-- src/program.rt
pub returns-in-Live-clause-err : goal.returns-in-Live-clause-err
returns-in-Live-clause-err g c =
    rw c.in-Live.is (IfErr-weaker c.without_net.result _ _ (λ told live. (live, c.without_net.ensures.unwritten)) c.without_net.ensures.err)

-- src/program.rt
pub returns-in-Audit-clause-err : goal.returns-in-Audit-clause-err
returns-in-Audit-clause-err g c =
    let known = g.F.Files.known c.args.files.now in
    let fails = g.F.Files.fails c.args.files.now in
    let setup = c.in-Audit.setup.now in
    let how = c.in-Audit.how in
    rw c.in-Audit.is (subst
    (λ names.
    IfErr c.audit.result
    (λ told. IfSome (known setup) (λ rules. AuditTells how known fails setup rules (map (λ name. name.now) names) c.args.out.now c.audit.new.out told)))
    c.as_slice-in-Audit.ensures.value c.audit.ensures.err)

-- src/program.rt
pub returns-in_err-play-in-Play-clause-err : goal.returns-in_err-play-in-Play-clause-err
returns-in_err-play-in-Play-clause-err g c =
    let known = g.F.Files.known c.args.files.now in
    let fails = g.F.Files.fails c.args.files.now in
    let asked = c.in-Play in
    let told = c.in_err-play-in-Play.field-0.0 in
    let new = c.play.new.out in
    let script = asked.script.now in
    let p = err_from_is_err_and c.from_residual-in_err-play-in-Play.result c.from_residual-in_err-play-in-Play.ensures.1 in
    rw (asked.is, p.1, p.2) (subst
    (λ saves.
    IfSome (known asked.setup.now)
    (λ rules. PlayTells (fails asked.setup.now) rules asked.frame saves (fails script) (known script) c.args.out.now new told))
    c.as_slice.ensures.value c.in_err-play-in-Play.ensures.err)
