use Rattle.std.proofs.Common.{append_assoc, string_bytes}
use Rattle.pvp_window.specs.Metrics.{stream_line, stream_lines}
use Rattle.std.specs.List.{flat_map}
use Rattle.pvp_window.proofs.Parts.{done}
use Rattle.pvp_window.proofs.metrics.push_streams.Goals as goal

pub returns : goal.returns
unfolding stream_lines
returns c =
    done c.push_waiting.result (string_bytes c.push_waiting.new.text) (string_bytes c.push_head.new.text)
    (string_bytes c.args.text.now)
    (flat_map (stream_line c.args.setup.now) c.args.streams.now)
    (stream_lines c.args.setup.now c.args.streams.now) c.push_waiting.ensures
    (rw (c.in_ok-push_head.ensures) (simp append_assoc))
