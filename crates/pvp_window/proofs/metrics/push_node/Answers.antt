use Rattle.std.proofs.Common.{append_assoc, codes, string_bytes}
use Rattle.pvp_window.specs.Metrics.{node_metrics, of_node}
use Rattle.pvp_window.proofs.Parts.{done}
use Rattle.pvp_window.proofs.metrics.push_node.Goals as goal

pub returns : goal.returns
unfolding node_metrics
returns c =
    done c.push_of_node-4.result (string_bytes c.push_of_node-4.new.text) (string_bytes c.push_of_node-3.new.text)
    (string_bytes c.args.text.now)
    (of_node c.args.setup.now c.args.seen.actor (codes "gauzemarl_node_unanswered") (codes "gauge") (codes "Notices that no site has answered") c.args.seen.unanswered)
    (node_metrics c.args.setup.now c.args.seen) c.push_of_node-4.ensures
    (rw (c.in_ok-push_of_node-3.ensures, c.in_ok-push_of_node-2.ensures, c.in_ok-push_of_node.ensures) (simp append_assoc))
