use Rattle.std.proofs.Common.{append_assoc, codes, string_bytes}
use Rattle.pvp_window.specs.Status.{site_json}
use Rattle.pvp_window.proofs.Parts.{ended}
use Rattle.pvp_window.proofs.seen.push_site.Goals as goal

pub returns : goal.returns
unfolding site_json
returns c =
    ended c.push_str-2.result (string_bytes c.push_str-2.new.self) (string_bytes c.write.new.self)
    (string_bytes c.args.text.now) (codes "}\n") (site_json c.args.setup.now c.args.seen c.args.streams.now) c.push_str-2.ensures.bytes
    (rw (
      c.in_ok-write.ensures.bytes,
      c.in_ok-push_streams.ensures,
      c.in_ok-push_str.ensures.bytes,
      c.in_ok-push_rows.ensures,
      c.in_ok-push_label.ensures,
    )
    (simp append_assoc))
