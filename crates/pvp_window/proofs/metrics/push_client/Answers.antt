use Rattle.std.proofs.Common.{append_assoc, codes, string_bytes}
use Rattle.pvp_window.specs.Metrics.{client_metrics, plain}
use Rattle.pvp_window.proofs.Parts.{done}
use Rattle.pvp_window.proofs.metrics.push_client.Goals as goal

pub returns : goal.returns
unfolding client_metrics
returns c =
    done c.push_plain-2.result (string_bytes c.push_plain-2.new.text) (string_bytes c.push_plain.new.text)
    (string_bytes c.args.text.now)
    (plain (codes "gauzemarl_client_waits") (codes "gauge") (codes "1 where the answer to the last is awaited") c.awaited-waits.result)
    (client_metrics c.args.seen) c.push_plain-2.ensures
    (rw (c.in_ok-push_plain.ensures, c.awaited-waits.ensures, c.from-requests.ensures) (simp append_assoc))
