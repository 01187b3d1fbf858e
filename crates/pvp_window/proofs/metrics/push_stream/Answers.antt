use Rattle.std.proofs.Common.{append_assoc, codes, string_bytes}
use Rattle.pvp_window.specs.Metrics.{stream_line}
use Rattle.pvp_window.proofs.Parts.{ended}
use Rattle.pvp_window.proofs.metrics.push_stream.Goals as goal

pub returns : goal.returns
unfolding stream_line
returns c =
    ended c.push_str-3.result (string_bytes c.push_str-3.new.self) (string_bytes c.write.new.self)
    (string_bytes c.args.text.now) (codes "\n") (stream_line c.args.setup.now c.args.stream) c.push_str-3.ensures.bytes
    (rw (
      c.in_ok-write.ensures.bytes,
      c.in_ok-push_str-2.ensures.bytes,
      c.in_ok-push_name.ensures,
      c.in_ok-push_str.ensures.bytes,
    )
    (simp append_assoc))
