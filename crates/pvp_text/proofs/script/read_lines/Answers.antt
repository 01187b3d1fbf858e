use Rattle.std.proofs.Common.{◌≡◌, Option, Some, None, Ok, length, ◌++◌, inl, inr, refl, sym, ap, ◌∙◌, arith}
use Rattle.std.specs.Global.{Vec}
use Rattle.std.proofs.lemmas.List.{append-nil}
use Rattle.pvp_text.specs.declared.script.Line.{Line}
use Rattle.pvp_text.specs.declared.script.Statement.{Statement}
use Rattle.std.proofs.lemmas.Result.{err_from_is_err_and}
use Rattle.pvp_text.specs.declared.script.LineFault.{LineFault}
use Rattle.pvp_text.specs.declared.script.LineCode.TheVariants.{NoMemory}
use Rattle.pvp_text.specs.Script.{line_at, of_line, line_of}
use Rattle.pvp_text.specs.ScriptWords.{lines}
use Rattle.pvp_text.proofs.ScriptReading.{ahead_before, goes_on, ends, is_refused, is_done}
use Rattle.pvp_text.proofs.script.read_lines.Goals as goal
use Rattle.pvp_text.proofs.script.read_lines.Goals.{in-Some-2+in_ok-push, in_default-2}

pub returns-in_err-statement : goal.returns-in_err-statement
returns-in_err-statement c =
    let p = err_from_is_err_and c.from_residual.result c.from_residual.ensures.1 in
    let failed = sym (c.in_err-statement.ensures ∙ ap (of_line c.loop-line.number) c.read_line.ensures) in
    let so_far = rw c.in-Some.ensures.some at c.loop-line.invariant.so_far None tt in
    rw (p.1, p.2) (inl (ends c.args.kind c.args.setup.now c.loop-line.found.items c.loop-line.number c.in-Some.line.now
    (lines c.in-Some.after.now) _ _ failed so_far))

pub returns-in_err-push : goal.returns-in_err-push
returns-in_err-push c =
    let p = err_from_is_err_and c.from_residual-in_err-push.result c.from_residual-in_err-push.ensures.1 in
    let kind = c.args.kind in
    let setup = c.args.setup.now in
    let number = c.loop-line.number in
    let refusal : LineFault = record { line = number; code = NoMemory } in
    let told : c.in_err-push.field-0.0.value.number ≡ number = ap (λ (line : Line). line.number) c.in_err-push.ensures.value_returned in
    let said : of_line number (line_at kind setup c.in-Some.line.now) ≡ Ok (Some c.in-Some-2.statement) =
    sym (c.in_ok-statement.ensures ∙ ap (of_line number) c.read_line.ensures) ∙ ap (λ (s : Option Statement). Ok s) c.in-Some-2.is in
    let so_far = rw c.in-Some.ensures.some at c.loop-line.invariant.so_far (Some refusal) (omega arith) in
    rw (p.1, p.2, told)
    (inr (refl, is_refused kind setup c.loop-line.found.items refusal c.in-Some.line.now (lines c.in-Some.after.now) c.in-Some-2.statement _ said so_far))

pub loop-line-preserved : goal.loop-line-preserved
loop-line-preserved c =
    let said = sym (c.in_ok-statement.ensures ∙ ap (of_line c.loop-line.number) c.read_line.ensures) in
    let front = c.loop-line.found.items in
    let held : c.match-branch-2.found.items ≡ front ++ line_of c.loop-line.number c.in_ok-statement.field-0 = elim c.match-branch-2.branch [
      | in-Some-2+in_ok-push w ↦ ap (λ (v : Vec Line). v.items) w.found-is ∙ w.in_ok-push.ensures.items
          ∙ ap (λ (s : Option Statement). front ++ line_of c.loop-line.number s) (sym w.in-Some-2.is)
      | in_default-2 w ↦ ap (λ (v : Vec Line). v.items) w.found-is ∙ sym (append-nil front)
          ∙ ap (λ (s : Option Statement). front ++ line_of c.loop-line.number s) (sym w.in_default-2.is)
    ] in
    record {
      so_far = λ refused ahead.
          let so_far = rw c.in-Some.ensures.some at c.loop-line.invariant.so_far refused (ahead_before refused c.loop-line.number ahead) in
          goes_on refused c.args.kind c.args.setup.now front c.loop-line.number c.in-Some.line.now
          (lines c.in-Some.after.now) _ _ ahead said so_far c.match-branch-2.found.items held;
      counted = omega (arith, c.loop-line.invariant.counted, ap length c.in-Some.ensures.some);
    }

pub returns : goal.returns
returns c =
    is_done c.args.kind c.args.setup.now c.loop-line.found.items c.loop-line.number _ (rw c.in_default.ensures.none at c.loop-line.invariant.so_far None tt)
