use Rattle.std.proofs.Common.{rules, ◌∙◌, ap, filter, filter_map}
use Rattle.std.proofs.lemmas.Fn.{filter_same}
use Rattle.pvp_serve.specs.Sifting.{is_kept, mark_of}
use Rattle.pvp_serve.proofs.sifting.sift.Goals as goal

pub returns : goal.returns
returns c =
    filter_same _ _ _ (λ x b f' k. search rules) _ _ c.retain.ensures.filtered
    ∙ ap (λ marks. filter (is_kept c.args.nonce marks) c.args.items.items)
    (c.in_ok-marks.ensures ∙ ap (filter_map (mark_of c.args.nonce)) c.as_slice.ensures.value)
