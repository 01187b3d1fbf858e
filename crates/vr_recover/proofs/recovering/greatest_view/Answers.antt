use Rattle.std.proofs.Common.{◌≡◌, ℕ, ◌<◌, ◌≤◌, List, length, get_or, slice_index_or, max, sym, ap, ◌∙◌, arith}
use borrow.Author.Count.{below_more}
use Rattle.std.proofs.lemmas.Option.{slice_get-get_or}
use Rattle.vr_recover.specs.declared.recovering.ResponseOf.{ResponseOf}
use Rattle.vr_recover.proofs.recovering.greatest_view.Goals as goal

-- an element within the list is the same whatever stands for one beyond it
get_or-any : {X : Type 0} (xs : List X) (i : ℕ) (d e : X) → i < length xs → get_or xs i d ≡ get_or xs i e
get_or-any xs i d e h =
    let a = slice_get-get_or xs i d h in
    let b = slice_get-get_or xs i e h in
    cc

pub loop-response-preserved : goal.loop-response-preserved
loop-response-preserved g c =
    let i = c.loop-response.response-index in
    let kept = c.args.kept.now in
    let item = c.response-item.result in
    let most : c.max-view.result ≡ max c.loop-response.view item.view = c.max-view.ensures in
    let here : (d : ResponseOf g.row.C.Denot) → (get_or kept i d).view ≤ c.max-view.result = λ d.
    let same : get_or kept i d ≡ item = get_or-any kept i d item c.loop-response-test.true ∙ sym c.response-item.is in
    let view = ap (λ (r : ResponseOf g.row.C.Denot). r.view) same in
    omega arith in
    record {
      above =
          λ k d low. below_more (λ n. (slice_index_or kept n d).view ≤ c.max-view.result) i
          (λ n before. (let h = c.loop-response.invariant.above n d before in omega arith)) (here d) k low;
      least = λ view all. (
          let h = c.loop-response.invariant.least view all in
          let k = all i item c.loop-response-test.true in
          let same = ap (λ (r : ResponseOf g.row.C.Denot). r.view) c.response-item.is in
          omega arith);
    }

pub returns-clause-above : goal.returns-clause-above
returns-clause-above g c = λ k d low. c.loop-response.invariant.above k d (omega arith)
