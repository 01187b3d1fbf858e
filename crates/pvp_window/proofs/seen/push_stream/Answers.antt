use Rattle.std.proofs.Common.{append_assoc, codes, string_bytes}
use Rattle.pvp_window.specs.Status.{stream_item}
use Rattle.pvp_window.proofs.Parts.{ended}
use Rattle.pvp_window.proofs.seen.push_stream.Goals as goal

pub returns : goal.returns
unfolding stream_item
returns c =
    ended c.push_str-2.result (string_bytes c.push_str-2.new.self) (string_bytes c.write.new.self)
    (string_bytes c.args.text.now) (codes "}") (stream_item c.args.setup.now (c.args.at, c.args.stream)) c.push_str-2.ensures.bytes
    (rw (c.in_ok-write.ensures.bytes, c.in_ok-push_who.ensures, c.in_ok-push_str.ensures.bytes, c.in_ok-push_comma.ensures)
    (simp append_assoc))
