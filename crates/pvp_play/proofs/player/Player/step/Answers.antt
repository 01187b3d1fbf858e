use Rattle.std.proofs.Common.{rules, ◌≡◌, ◌≢◌, List, [], ◌∷◌, Option, None, Some, length, option_map, refl, sym, ◌∙◌, subst}
use Rattle.std.specs.Global.{Vec}
use Rattle.std.specs.Prelude.{IfOk, option_and_then}
use Rattle.std.proofs.lemmas.Result.{IfOk-weaker}
use Rattle.pvp_world.specs.declared.fault.WorldFault.TheVariants.{NoMemory}
use Rattle.pvp_trace.specs.declared.attempt.Attempt.{Attempt}
use Rattle.pvp_trace.specs.Attempts.{fell_by}
use Rattle.pvp_trace.specs.Stands.{site_of, stand_at}
use Rattle.pvp_play.specs.Notes.{with_notes}
use Rattle.pvp_play.specs.Player.{Position, Tries, refusal_in}
use Rattle.pvp_play.proofs.player.Player.step.Goals as goal

-- where no notes are made the attempt that would be noted is what it was
pub returns-then-is_none-clause-tried : goal.returns-then-is_none-clause-tried
returns-then-is_none-clause-tried g c =
    let old = c.self.inside.world in
    let new = c.apply.new.self in
    let attempt : Attempt = record {
      step = c.args.step;
      result = c.apply.result;
      fell = fell_by c.apply.result new.trail;
      was = option_and_then (stand_at old) (site_of old.post c.args.step);
      now = option_and_then (stand_at new) (site_of old.post c.args.step);
      before = length old.post;
      after = length new.post;
    } in
    let items : Option (Vec Attempt) → Option (List Attempt) = option_map (λ v. v.items) in
    let none : c.self.inside.noted ≡ None = search rules in
    let after : Position g.row.C.Denot = record {
      world = new;
      cursor = c.self.inside.cursor;
      cut = c.self.inside.cut.items;
      noted = items c.self.inside.noted;
    } in
    subst (λ v. IfOk c.refusal_in.result (Tries g.C.BootCell v after c.args.step)) c.self.view_is
    (IfOk-weaker c.refusal_in.result (λ told. (told ≡ refusal_in c.apply.result) × (told ≢ Some NoMemory)) _
    (λ told is. record {
      attempt = attempt;
      tried = record {
        attempts = record { step = refl; applies = c.apply.ensures.applies; fell = refl; was = refl; now = refl; before = refl; after = refl };
        tells = c.apply.ensures.tells;
        had_memory = λ e. is.1 (is.0 ∙ e);
      };
      is_told = is.0;
      noted = subst (λ n. items n ≡ with_notes (items n) (attempt ∷ [])) (sym none) refl;
      cursor = refl;
      cut = refl;
    }) c.refusal_in.ensures.told)
