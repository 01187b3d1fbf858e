use Rattle.std.proofs.Common.{rules, ◌≡◌, ℕ, List, Ok, Bor, map, inr, subst}
use Rattle.std.proofs.lemmas.Option.{IfSome_then}
use Rattle.std.proofs.lemmas.Result.{err_from_is_err_and}
use Rattle.pvp_text.specs.SetupText.{setup_text}
use Rattle.pvp_journal.specs.Bank.{mark_of}
use Rattle.pvp_command.specs.Audits.{BankStops}
use Rattle.pvp_command.proofs.audits.audit.Goals as goal

-- src/audits.rt
pub returns-in_err-status-clause-err : goal.returns-in_err-status-clause-err
returns-in_err-status-clause-err g c =
    let known = g.F.Files.known c.args.files.now in
    let fails = g.F.Files.fails c.args.files.now in
    let s = c.in_ok-setup.setup in
    let told = c.in_err-status.field-0.0 in
    let names = map (λ (name : Bor (List ℕ)). name.now) c.args.journals.now in
    let p = err_from_is_err_and c.from_residual-in_err-status.result c.from_residual-in_err-status.ensures.1 in
    let read : setup_text c.in_ok-text.text.items ≡ Ok s = search rules in
    let stops = subst (λ text. BankStops c.args.how known fails s (mark_of text) names c.args.out.now c.audit_bank.new.out told)
    c.as_slice-2.ensures.value c.in_err-status.ensures.err in
    rw (p.1, p.2) (IfSome_then (known c.args.setup.now) c.in_ok-text.ensures.ok (λ bytes same.
    inr (
      s,
      subst (λ text. setup_text text ≡ Ok s) same read,
      subst (λ text. BankStops c.args.how known fails s (mark_of text) names c.args.out.now c.audit_bank.new.out told) same stops,
    )))
