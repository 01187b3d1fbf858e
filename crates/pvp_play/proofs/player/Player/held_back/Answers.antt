use Rattle.std.proofs.Common.{◌≡◌, ◌≢◌, ◌⊎◌, inl, inr, ℕ, ◌-◌, ◌<◌, ◌≤◌, [], Vec, Global, sym, ap, ◌∙◌, arith}
use Rattle.std.proofs.lemmas.Bool.{cases_lt}
use Rattle.pvp_play.specs.Passing.{is_held, held_back}
use Rattle.pvp_play.specs.Player.{Position}
use Rattle.pvp_play.proofs.PassingLemmas.{held-none, held-more, held-same, held-some, held-all}
use Rattle.pvp_play.proofs.PlayerLemmas.{on-error}
use Rattle.pvp_play.proofs.player.Player.held_back.Goals as goal
use Rattle.pvp_play.proofs.player.Player.held_back.Goals.{then-is_held+in_ok-push, else-is_held}

pub loop-place-init : goal.loop-place-init
loop-place-init g c = record {
  held = c.new-numbers.ensures.items ∙ sym (held-none (is_held c.args.self.now.cut c.args.self.now.world.post) c.args.from);
  low = λ none. omega arith;
}

pub loop-place-preserved : goal.loop-place-preserved
loop-place-preserved g c =
    let held = is_held c.args.self.now.cut c.args.self.now.world.post in
    let place = c.loop-place.place in
    let low = c.loop-place.auto.place in
    let within = c.loop-place-test.true in
    let cursor = ap (λ (p : Position g.row.C.Denot). p.cursor) c.self.view_is in
    record {
      held = elim c.if-is_held.branch [
        | then-is_held+in_ok-push w ↦
            held-more held c.args.from place c.loop-place.numbers.items c.if-is_held.numbers.items low (sym c.is_held.ensures ∙ w.if-is_held.true)
            (ap (λ (v : Vec ℕ Global). v.items) w.numbers-is ∙ w.in_ok-push.ensures.items) c.loop-place.invariant.held
        | else-is_held w ↦
            ap (λ (v : Vec ℕ Global). v.items) w.numbers-is
            ∙ held-same held c.args.from place c.loop-place.numbers.items low (sym c.is_held.ensures ∙ w.if-is_held.false) c.loop-place.invariant.held
      ];
      low = λ none. omega (arith, none, within, cursor, low);
    }

pub returns-in_err-push-clause-stopped : goal.returns-in_err-push-clause-stopped
returns-in_err-push-clause-stopped g c =
    let within = c.loop-place-test.true in
    let cursor = ap (λ (p : Position g.row.C.Denot). p.cursor) c.self.view_is in
    on-error c.from_residual.result (held_back c.args.from c.args.self.now ≢ [])
    (held-some (is_held c.args.self.now.cut c.args.self.now.world.post) c.args.from c.loop-place.place c.args.self.now.cursor c.loop-place.auto.place
    (omega (arith, within, cursor)) (sym c.is_held.ensures ∙ c.if-is_held.true))

pub returns-clause-held : goal.returns-clause-held
returns-clause-held g c =
    c.loop-place.invariant.held
    ∙ held-all (is_held c.args.self.now.cut c.args.self.now.world.post) c.args.from c.loop-place.place c.args.self.now.cursor
    (by (cases_lt c.args.self.now.cursor c.args.from))
  where
    cursor : c.self.inside.cursor ≡ c.args.self.now.cursor
    cursor = ap (λ (p : Position g.row.C.Denot). p.cursor) c.self.view_is

    by : (c.args.self.now.cursor < c.args.from) ⊎ (c.args.from ≤ c.args.self.now.cursor)
        → c.loop-place.place - c.args.from ≡ c.args.self.now.cursor - c.args.from
    by (inl none) = let here = c.loop-place.invariant.low none in let low = c.loop-place.auto.place in omega (arith, none, here, low)
    by (inr some) =
        let high = c.loop-place.auto.place-end (omega (arith, some, cursor)) in
        let end = c.loop-place-test.false in
        omega (arith, some, high, end, cursor)
