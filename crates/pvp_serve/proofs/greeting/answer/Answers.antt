use Rattle.std.proofs.Common.{◌≡◌, ℕ, List, ◌++◌, Some, Result, Ok, Err, IfOk, ap, subst, ◌∙◌}
use Rattle.pvp_links.specs.declared.fault.LinkFault.{LinkFault}
use Rattle.pvp_links.specs.declared.link.Link.{Link}
use Rattle.pvp_links.specs.Fronts.{caller_at, nonce_at}
use Rattle.pvp_links.specs.Sealing.{over}
use Rattle.pvp_serve.specs.declared.listening.Door.{Door}
use Rattle.pvp_serve.specs.Doors.{IsKnown, IsLetIn, Shows}
use Rattle.pvp_serve.proofs.greeting.answer.Goals as goal

-- who is known, and shows itself over the stream of what both drew, is let in
let_in : (door : Door) (held : List ℕ) (caller : ℕ) (pair : Link) (own : List ℕ) (link : Link) (rest : List ℕ) (r : Result Link LinkFault)
    → caller_at door.bank held ≡ Ok (Some caller) → IsKnown door caller pair → link ≡ over (nonce_at held ++ own) pair
    → IfOk r (λ now. Shows link now rest) → IfOk r (λ now. IsLetIn door own now rest)
let_in door held caller pair own link rest (Err why) said known is shows = shows
let_in door held caller pair own link rest (Ok now) said known is shows = record {
  held = held;
  caller = caller;
  pair = pair;
  said = said;
  known = known;
  shows = subst (λ (l : Link). Shows l now rest) is shows;
}

pub returns : goal.returns
returns g c =
    let held = c.hear.new.intake in
    let pair = c.in_ok-pair.pair in
    let own = c.args.own.now in
    let drawn : c.joined.result ≡ nonce_at held ++ own = c.joined.ensures ∙ ap (λ (n : List ℕ). n ++ own) c.nonce.ensures in
    let link : c.over-link.result ≡ over (nonce_at held ++ own) pair = c.over-link.ensures ∙ ap (λ (d : List ℕ). over d pair) drawn in
    let_in c.args.door.now held c.in_ok-caller.caller pair own c.over-link.result c.shown.new.intake c.shown.result c.in_ok-caller.ensures.said
    c.in_ok-pair.ensures link c.shown.ensures
