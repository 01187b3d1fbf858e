use Rattle.std.proofs.Common.{◌≡◌, ◌⊎◌, inl, inr, ◌+◌, ◌-◌, ◌<◌, ◌≤◌, ◌++◌, string_bytes, sym, ap, ◌∙◌, append-nil, arith}
use Rattle.std.proofs.lemmas.Bool.{cases_lt}
use Rattle.pvp_trace.specs.Attempts.{sent_line}
use Rattle.pvp_trace.proofs.TextLemmas.{with_numbers, one_number-more}
use Rattle.pvp_trace.proofs.attempt.push_sent.Goals as goal

pub loop-place-init : goal.loop-place-init
loop-place-init g c =
    let a = c.args.attempt in
    let line = sent_line c.args.world.now.setup c.args.world.now.post in
    let same : 0 ≡ a.before - a.before = omega arith in
    (sym (append-nil (string_bytes c.args.text.now)) ∙ ap (λ n. string_bytes c.args.text.now ++ with_numbers line (a.before + 1) n) same, λ none. omega arith)

pub loop-place-preserved : goal.loop-place-preserved
loop-place-preserved g c =
    let a = c.args.attempt in
    let line = sent_line c.args.world.now.setup c.args.world.now.post in
    let low = c.loop-place.auto.place in
    let place = c.loop-place.place in
    let here : place + 1 ≡ a.before + 1 + (place - a.before) = omega (arith, low) in (
      one_number-more line (a.before + 1) (string_bytes c.push_sent_line.new.text) (string_bytes c.loop-place.text) (string_bytes c.args.text.now)
          (place - a.before) (place + 1 - a.before)
          (omega (arith, low)) (c.in_ok-push_sent_line.ensures ∙ ap (λ n. string_bytes c.loop-place.text ++ line n) here) c.loop-place.invariant.0,
      λ none. let low' = c.loop-place.auto.place in let more = c.loop-place-test.true in omega (arith, none, low', more),
    )

pub returns : goal.returns
returns g c =
    let a = c.args.attempt in
    let line = sent_line c.args.world.now.setup c.args.world.now.post in
    c.loop-place.invariant.0 ∙ ap (λ n. string_bytes c.args.text.now ++ with_numbers line (a.before + 1) n) (by (cases_lt a.after a.before))
  where
    by : (c.args.attempt.after < c.args.attempt.before) ⊎ (c.args.attempt.before ≤ c.args.attempt.after)
        → c.loop-place.place - c.args.attempt.before ≡ c.args.attempt.after - c.args.attempt.before
    by (inl none) = let here = c.loop-place.invariant.1 none in omega (arith, none, here)
    by (inr some) = let high = c.loop-place.auto.place-end some in let end = c.loop-place-test.false in omega (arith, some, high, end)
