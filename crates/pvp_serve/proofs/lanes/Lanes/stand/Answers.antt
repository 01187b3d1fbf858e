use Rattle.std.proofs.Common.{rules, Result, Ok, Err, OnErr, ◌∙◌, ap, ◌++◌, ◌∷◌, []}
use Rattle.std.proofs.lemmas.Fn.{filter_same}
use Rattle.pvp_serve.proofs.lanes.Lanes.stand.Goals as goal

pub returns-clause-stands : goal.returns-clause-stands
returns-clause-stands c =
    c.in_ok-push.ensures.items ∙ ap (λ kept. kept ++ c.args.lane ∷ []) (filter_same _ _ _ (λ x b f' k. search rules) _ _ c.retain.ensures.filtered)

-- what is so anyway is so after a fault
anyway : {A E : Type 0} (r : Result A E) (P : Type 0) → P → OnErr r P
anyway (Ok x) P p = tt
anyway (Err e) P p = p

pub returns-in_err-push-clause-refused : goal.returns-in_err-push-clause-refused
returns-in_err-push-clause-refused c =
    anyway _ _ (c.in_err-push.ensures.items ∙ filter_same _ _ _ (λ x b f' k. search rules) _ _ c.retain.ensures.filtered)
