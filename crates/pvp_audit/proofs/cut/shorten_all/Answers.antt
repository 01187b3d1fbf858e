use Rattle.std.proofs.Common.{◌≡◌, true, if◌then◌else◌}
use Rattle.pvp_audit.proofs.Cutting.{all-shortened, none-shortened, one-shortened}
use Rattle.pvp_audit.proofs.cut.shorten_all.Goals as goal
use Rattle.pvp_audit.proofs.cut.shorten_all.Goals.{then-shorten, else-shorten}

pub loop-history-init : goal.loop-history-init
loop-history-init c = none-shortened c.args.reaches.now c.args.histories.now

pub loop-history-preserved : goal.loop-history-preserved
loop-history-preserved c =
    let after : c.if-shorten.is_cut ≡ (if c.shorten.result then true else c.loop-history.is_cut) = elim c.if-shorten.branch
    [ then-shorten w ↦ cc | else-shorten w ↦ cc ] in
    one-shortened c.args.reaches.now c.args.histories.now c.loop-history.history-items c.loop-history.history-index c.loop-history.is_cut c.shorten.result
    c.if-shorten.is_cut c.history-item.result c.shorten.new.history
    c.loop-history.invariant c.loop-history.auto.history-items c.loop-history-test.true c.shorten.ensures.front c.shorten.ensures.fewer c.shorten.ensures.same
    after

pub returns : goal.returns
returns c =
    let all = all-shortened c.args.reaches.now c.args.histories.now c.loop-history.history-items c.loop-history.history-index c.loop-history.is_cut
    c.loop-history.invariant c.loop-history.auto.history-items c.loop-history-test.false in
    record { fronts = all.fronts; fewer = all.fewer; same = all.same }
