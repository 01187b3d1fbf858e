use Rattle.std.proofs.Common.{◌≡◌, ℕ, List, ◌≤◌, true, false, [], ◌∷◌, ◌++◌, length, map, slice_set, Vec, inl, inr, refl, sym, ap, ◌∙◌, arith}
use Rattle.std.specs.Option.{is_some}
use Rattle.std.proofs.lemmas.Bool.{cases_order}
use Rattle.std.proofs.lemmas.Option.{slice_get_read}
use Rattle.std.proofs.lemmas.Result.{err_from_is_err_and}
use Rattle.pvp_audit.specs.declared.numbers.Numbers.TheInside.{Inside}
use Rattle.pvp_audit.specs.Numbered.{noted_of}
use Rattle.pvp_audit.proofs.Noting.{put_more, put_past, put_same}
use Rattle.pvp_audit.proofs.numbers.Numbers.note.Goals.{in-Some+in_ok-push, in_default}
use Rattle.pvp_audit.proofs.numbers.Numbers.note.Goals as goal

pub returns-in_err-push-clause-err : goal.returns-in_err-push-clause-err
returns-in_err-push-clause-err c =
    let firsts = c.self.inside.firsts in
    let at = c.args.place in
    let long = firsts.ok.0 in
    let low = c.in-Some.ensures.variant.0 refl in
    let seen = slice_get_read firsts.items (length firsts.items) at c.in-Some.events.now refl (omega (arith, long, low)) c.in-Some.ensures.value in
    let p = err_from_is_err_and c.from_residual.result c.from_residual.ensures.1 in
    rw p.1 (put_same (λ (v : Vec ℕ _). v.items) firsts.items at c.in-Some.events.now c.push.new.self seen c.in_err-push.ensures.items ∙ c.self.view_is)

pub returns-clause-ok : goal.returns-clause-ok
returns-clause-ok c =
    let firsts = c.self.inside.firsts in
    let at = c.args.place in
    let long = firsts.ok.0 in
    let put : List (List ℕ) → List (List ℕ) = λ l. slice_set l at (noted_of l at ++ c.args.first ∷ []) in
    elim c.match-get_mut.branch [
      | in-Some+in_ok-push w ↦ (
          let low = w.in-Some.ensures.variant.0 refl in
          let seen = slice_get_read firsts.items (length firsts.items) at w.in-Some.events.now refl (omega (arith, long, low)) w.in-Some.ensures.value in
          ap (λ (i : Inside). map (λ (v : Vec ℕ _). v.items) i.firsts.items) w.self-inside-is
          ∙ put_more (λ (v : Vec ℕ _). v.items) firsts.items at w.in-Some.events.now w.push.new.self c.args.first seen w.in_ok-push.ensures.items
          ∙ ap put c.self.view_is)
      | in_default w ↦ (
          let past : length firsts.items ≤ at = elim (cases_order at (length firsts.items)) [
            | inl e ↦ omega (arith, e)
            | inr v ↦ elim v [
              | inl less ↦ (let clash : true ≡ false = sym (c.get_mut.ensures.variant.1 (omega (arith, less, long))) ∙ ap is_some w.in_default.is in cc)
              | inr more ↦ omega (arith, more)
            ]
          ] in
          ap (λ (i : Inside). map (λ (v : Vec ℕ _). v.items) i.firsts.items) w.self-inside-is
          ∙ put_past (λ (v : Vec ℕ _). v.items) firsts.items at (noted_of (map (λ (v : Vec ℕ _). v.items) firsts.items) at ++ c.args.first ∷ []) past
          ∙ ap put c.self.view_is)
    ]
