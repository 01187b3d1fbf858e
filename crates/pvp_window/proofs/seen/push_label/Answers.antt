use Rattle.std.proofs.Common.{append_assoc, codes, string_bytes}
use Rattle.pvp_window.specs.Status.{label}
use Rattle.pvp_window.proofs.Parts.{ended}
use Rattle.pvp_window.proofs.seen.push_label.Goals as goal

pub returns : goal.returns
unfolding label
returns c =
    ended c.push_str-3.result (string_bytes c.push_str-3.new.self) (string_bytes c.write-2.new.self)
    (string_bytes c.args.text.now) (codes "\"") (label c.args.setup.now c.args.seen) c.push_str-3.ensures.bytes
    (rw (
      c.in_ok-write-2.ensures.bytes,
      c.in_ok-push_str-2.ensures.bytes,
      c.in_ok-write.ensures.bytes,
      c.in_ok-push_who.ensures,
      c.in_ok-push_str.ensures.bytes,
      c.status_name.ensures,
      c.primary_of-primary.ensures.site,
      c.group_of.ensures,
    )
    (simp append_assoc))
