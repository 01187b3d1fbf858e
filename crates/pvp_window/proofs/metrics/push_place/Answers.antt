use Rattle.std.proofs.Common.{append_assoc, codes, string_bytes}
use Rattle.pvp_window.specs.Metrics.{place_metrics, plain}
use Rattle.pvp_window.proofs.Parts.{done}
use Rattle.pvp_window.proofs.metrics.push_place.Goals as goal

pub returns : goal.returns
unfolding place_metrics
returns c =
    done c.push_plain-3.result (string_bytes c.push_plain-3.new.text) (string_bytes c.push_plain-2.new.text)
    (string_bytes c.args.text.now)
    (plain (codes "gauzemarl_site_is_primary") (codes "gauge") (codes "1 where the site is the primary of its view") c.leads-leads.result)
    (place_metrics c.args.setup.now c.args.seen) c.push_plain-3.ensures
    (rw (
      c.in_ok-push_plain-2.ensures,
      c.in_ok-push_status.ensures,
      c.in_ok-push_plain.ensures,
      c.leads-leads.ensures,
      c.from-view.ensures,
    )
    (simp append_assoc))
