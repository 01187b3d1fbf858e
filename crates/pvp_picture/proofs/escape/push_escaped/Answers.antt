use Rattle.std.proofs.Common.{◌++◌, flat_map, sym, ap, ◌∙◌, map-id, string_bytes}
use Rattle.std.proofs.lemmas.Iterator.{YieldsList-from_chars}
use Rattle.std.proofs.lemmas.Iterator.Consumers.{YieldsList-end}
use Rattle.pvp_picture.specs.Escape.{sign_text}
use Rattle.pvp_picture.proofs.escape.push_escaped.Goals as goal

pub returns : goal.returns
returns c =
    let end =
    YieldsList-end (YieldsList-from_chars c.args.plain.now c.utf8.plain cc) c.loop-sign.yielded _ c.loop-sign.yielded_by _ _
    c.in-None.is c.next.ensures.steps in
    c.loop-sign.invariant ∙ ap (λ signs. string_bytes c.args.text.now ++ flat_map sign_text signs) (sym (map-id c.loop-sign.yielded) ∙ end.0)
