use Rattle.std.proofs.Common.{◌≡◌, Some, rules}
use Rattle.std.proofs.lemmas.Result.{err_from_is_err_and}
use Rattle.serde_json.specs.Find.{as_array}
use Rattle.serde_json.specs.View.{view, items_view}
use Rattle.pvp_text.proofs.SetupTextItems.{goes_on, ends, is_refused, is_done}
use Rattle.pvp_text.proofs.setup.tree.ListFromTree.from_tree.Goals as goal

pub returns-in_err-from_tree : goal.returns-in_err-from_tree
returns-in_err-from_tree g c =
    let vs = c.deref-item-items.result.now in
    let kind = g.T.FromTree.kind in
    let held : as_array (view c.args.tree.now) ≡ Some (items_view vs) = search rules in
    let p = err_from_is_err_and c.from_residual-in_err-from_tree.result c.from_residual-in_err-from_tree.ensures.1 in
    rw (p.1, p.2, held) (ends c.in_err-from_tree.field-0.0 kind c.loop-item.list vs c.loop-item.item-index c.item-item.result c.loop-item-test.true
    c.item-item.is c.in_err-from_tree.ensures c.loop-item.invariant)

pub returns-in_err-push : goal.returns-in_err-push
returns-in_err-push g c =
    let vs = c.deref-item-items.result.now in
    let kind = g.T.FromTree.kind in
    let held : as_array (view c.args.tree.now) ≡ Some (items_view vs) = search rules in
    let p = err_from_is_err_and c.from_residual-in_err-push.result c.from_residual-in_err-push.ensures.1 in
    rw (p.1, p.2, held) (is_refused kind g.met.T.FromTree.steady c.loop-item.list vs c.loop-item.item-index c.item-item.result c.in_ok-from_tree.field-0
    c.loop-item-test.true c.item-item.is c.in_ok-from_tree.ensures c.loop-item.invariant)

pub loop-item-preserved : goal.loop-item-preserved
loop-item-preserved g c =
    let vs = c.deref-item-items.result.now in
    let kind = g.T.FromTree.kind in
    rw c.in_ok-push.ensures.ok (goes_on kind g.met.T.FromTree.steady c.loop-item.list vs c.loop-item.item-index c.item-item.result c.in_ok-from_tree.field-0
    c.loop-item-test.true c.item-item.is c.in_ok-from_tree.ensures c.loop-item.invariant)

pub returns : goal.returns
returns g c =
    let vs = c.deref-item-items.result.now in
    let kind = g.T.FromTree.kind in
    let held : as_array (view c.args.tree.now) ≡ Some (items_view vs) = search rules in
    rw held (is_done kind c.loop-item.list vs c.loop-item.item-index c.loop-item-test.false c.loop-item.invariant)
