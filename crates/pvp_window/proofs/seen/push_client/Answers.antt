use Rattle.std.proofs.Common.{append_assoc, codes, string_bytes}
use Rattle.pvp_window.specs.Status.{client_json}
use Rattle.pvp_window.proofs.Parts.{ended}
use Rattle.pvp_window.proofs.seen.push_client.Goals as goal

pub returns : goal.returns
unfolding client_json
returns c =
    ended c.push_str-2.result (string_bytes c.push_str-2.new.self) (string_bytes c.push_answer.new.text)
    (string_bytes c.args.text.now) (codes "}\n") (client_json c.args.setup.now c.args.seen) c.push_str-2.ensures.bytes
    (rw (c.in_ok-push_answer.ensures, c.in_ok-write.ensures.bytes, c.in_ok-push_who.ensures, c.in_ok-push_str.ensures.bytes)
    (simp append_assoc))
