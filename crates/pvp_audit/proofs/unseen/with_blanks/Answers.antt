use Rattle.std.proofs.Common.{ℕ, List, [], ◌∷◌, ◌++◌, take, get_or, sym, ap, subst, ◌∙◌, append_assoc}
use Rattle.std.proofs.lemmas.List.{take_more}
use Rattle.pvp_journal.specs.declared.journal.Journal.{Journal as Kept}
use Rattle.pvp_audit.specs.Unseen.{AreBlank}
use Rattle.pvp_audit.proofs.Blanks.{blank_more}
use Rattle.pvp_audit.proofs.unseen.with_blanks.Goals as goal

pub loop-client-preserved : goal.loop-client-preserved
loop-client-preserved c =
    let so_far = c.loop-client.invariant in
    let clients = c.args.clients.now in
    let at = c.loop-client.client-index in
    let head = c.in-Some.first.now.head in
    let journal = c.blank_of.result in (
      so_far.0 ++ journal ∷ [],
      subst (λ (cs : List ℕ). AreBlank head cs (so_far.0 ++ journal ∷ [])) (sym (take_more clients at 0 c.loop-client-test.true))
          (blank_more head (take at clients) so_far.0 (get_or clients at 0) journal so_far.1 c.blank_of.ensures),
      c.in_ok-push.ensures.items ∙ ap (λ (l : List Kept). l ++ journal ∷ []) so_far.2 ∙ append_assoc c.args.journals.items so_far.0 (journal ∷ []),
    )
