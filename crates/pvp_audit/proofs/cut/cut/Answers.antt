use Rattle.std.proofs.Common.{◌≡◌, ℕ, map, List, ◌++◌, length, take, drop, sym, ap, subst, ◌∙◌, arith}
use Rattle.std.proofs.Math.Seq.{take-append_seam}
use Rattle.pvp_audit.specs.declared.history.History.{History}
use Rattle.pvp_audit.specs.declared.cut.Reach.{Reach}
use Rattle.pvp_audit.specs.Cut.{AreShortened, IsGreatestCut, reach_in}
use Rattle.pvp_audit.proofs.Complete.{fronts_complete}
use Rattle.pvp_audit.proofs.Cutting.{IsCutSoFar, none-cut, cut-more, cut-done}
use Rattle.pvp_audit.proofs.cut.cut.Goals as goal

-- a vector that was lent as a slice has what was written there
written : (new items : List History) (n : ℕ) → length new ≡ n → take n (new ++ drop (length new) items) ≡ new
written new items n e = subst (λ (m : ℕ). take m (new ++ drop (length new) items) ≡ new) e (take-append_seam new (drop (length new) items))

pub loop-cut-init : goal.loop-cut-init
loop-cut-init c = none-cut c.args.histories.items

-- the histories were shortened by how far they go
shortened : (reaches told : List Reach) (items old lent new : List History) → told ≡ reaches → reaches ≡ map reach_in old → old ≡ items → lent ≡ items
    → AreShortened told lent new → AreShortened (map reach_in items) items new
shortened reaches told items old lent new et er eo el short =
    let same : told ≡ map reach_in items = et ∙ er ∙ ap (λ (l : List History). map reach_in l) eo in
    subst (λ (l : List History). AreShortened (map reach_in items) l new) el (subst (λ (r : List Reach). AreShortened r lent new) same short)

pub returns-then-not-shorten_all-clause-greatest : goal.returns-then-not-shorten_all-clause-greatest
returns-then-not-shorten_all-clause-greatest c =
    let items = c.loop-cut.cut.items in
    let new = c.shorten_all.new.histories in
    let short = shortened c.in_ok-reaches.reaches.items c.as_slice-in-loop-cut.result.now items c.as_slice.result.now c.as_mut_slice.result.now new
    c.as_slice-in-loop-cut.ensures.value c.in_ok-reaches.ensures c.as_slice.ensures.value c.as_mut_slice.ensures.value c.shorten_all.ensures.fronts in
    let same : new ≡ items = c.shorten_all.ensures.same c.if-not-shorten_all.true ∙ c.as_mut_slice.ensures.value in
    let done = cut-done c.args.histories.items items c.loop-cut.invariant (subst (λ (l : List History). AreShortened (map reach_in items) items l) same short)
    in
    subst (λ (l : List History). IsGreatestCut l c.args.histories.items)
    (sym (written new items c.loop-cut.cut.len (omega (arith, c.shorten_all.auto.histories)) ∙ same)) done

pub returns-then-not-shorten_all-clause-bank : goal.returns-then-not-shorten_all-clause-bank
returns-then-not-shorten_all-clause-bank c =
    λ setup of. fronts_complete setup _ c.args.histories.items (returns-then-not-shorten_all-clause-greatest c).fronts of

pub loop-cut-preserved : goal.loop-cut-preserved
loop-cut-preserved c =
    let items = c.loop-cut.cut.items in
    let new = c.shorten_all.new.histories in
    let short = shortened c.in_ok-reaches.reaches.items c.as_slice-in-loop-cut.result.now items c.as_slice.result.now c.as_mut_slice.result.now new
    c.as_slice-in-loop-cut.ensures.value c.in_ok-reaches.ensures c.as_slice.ensures.value c.as_mut_slice.ensures.value c.shorten_all.ensures.fronts in
    subst (λ (l : List History). IsCutSoFar l c.args.histories.items)
    (sym (written new items c.loop-cut.cut.len (omega (arith, c.shorten_all.auto.histories))))
    (cut-more c.args.histories.items items new c.loop-cut.invariant short)
