use Rattle.std.proofs.Common.{ℕ, List, ◌++◌, codes, ap, ◌∙◌, append_assoc, string_bytes}
use Rattle.pvp_trace.specs.Names.{actor_text}
use Rattle.pvp_command.proofs.audits.push_none.Goals as goal

pub returns : goal.returns
returns c =
    c.in_ok-push_actor.ensures ∙ ap (λ (t : List ℕ). t ++ actor_text c.args.setup.now c.args.sender) c.in_ok-push_str.ensures.bytes
    ∙ append_assoc (string_bytes c.args.text.now) (codes "; no journal of ") (actor_text c.args.setup.now c.args.sender)
