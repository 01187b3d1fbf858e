use Rattle.std.proofs.Common.{append_assoc, codes, string_bytes}
use Rattle.pvp_window.specs.Metrics.{counted_metrics, plain}
use Rattle.pvp_window.proofs.Parts.{done}
use Rattle.pvp_window.proofs.metrics.push_counts.Goals as goal

pub returns : goal.returns
unfolding counted_metrics
returns c =
    done c.push_plain-5.result (string_bytes c.push_plain-5.new.text) (string_bytes c.push_plain-4.new.text)
    (string_bytes c.args.text.now)
    (plain (codes "gauzemarl_frames_dropped_total") (codes "counter") (codes "Frames dropped, as their clocks were too far ahead") c.args.seen.dropped)
    (counted_metrics c.args.seen) c.push_plain-5.ensures
    (rw (
      c.in_ok-push_plain-4.ensures,
      c.in_ok-push_plain-3.ensures,
      c.in_ok-push_plain-2.ensures,
      c.in_ok-push_plain.ensures,
      c.from-restarts.ensures,
    )
    (simp append_assoc))
