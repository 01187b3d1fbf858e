-- Nothing is ever taken off the post.
use Rattle.std.proofs.Common.{◌≡◌, ℕ, false, true, List, [], ◌++◌, Bool, Result, Ok, Err, refl, sym, ap, ◌∙◌, append-nil}
use Rattle.pvp_types.specs.declared.setup.Setup.{Setup}
use Rattle.pvp_types.specs.declared.command.Cmd.{Cmd}
use Rattle.pvp_types.specs.declared.step.Step.{Step}
use Rattle.pvp_types.specs.Setup.{faults}
use Rattle.vr_types.specs.declared.cell.Boot.{Boot}
use Rattle.vr_types.specs.Choice.{Choice}
use Rattle.rtgs_node.specs.Node.{Envelope}
use Rattle.headline.specs.declared.step.Move.{Move}
use Rattle.headline.specs.declared.step.Move.TheVariants.{Takes, Falls}
use Rattle.headline.specs.declared.step.Turn.{Turn}
use Rattle.headline.specs.declared.step.Turn.TheVariants.{OfSite, OfNode, OfClient}
use Rattle.headline.specs.Bank.{Bank}
use Rattle.headline.specs.Legal.{Acts, FallsBy, Leads}
use Rattle.pvp_world.specs.declared.fault.WorldFault.{WorldFault}
use Rattle.pvp_world.specs.declared.report.Report.{Report}
use Rattle.pvp_world.specs.World.{ShownWorld}
use Rattle.pvp_world.specs.Steps.{Moves, Applies, is_world_fall}

-- a post is another with more behind it
abbrev pub Grows : List Envelope → List Envelope → Type 0
Grows old new = (more : List Envelope) × (new ≡ old ++ more)

same-grows : (old new : List Envelope) → new ≡ old → Grows old new
same-grows old new e = ([], e ∙ sym (append-nil old))

bank-grows : (setup : Setup) (choose : Choice Cmd) (f : ℕ) (bank : Bank) (move : Move) (after : Bank) → Leads setup choose f bank move after
    → Grows bank.post after.post
bank-grows setup choose f bank (Takes step) after leads = by leads.turn_is leads.acts
  where
    by : (t : Turn) → Acts setup choose f bank t after → Grows bank.post after.post
    by (OfSite i event) acts = (_, ap (λ (b : Bank). b.post) acts.leads)
    by (OfNode c event) acts = (_, ap (λ (b : Bank). b.post) acts.leads)
    by (OfClient k event) acts = (_, ap (λ (b : Bank). b.post) acts.leads)
bank-grows setup choose f bank (Falls step cell) after leads = by leads.turn_is leads.falls
  where
    by : (t : Turn) → FallsBy setup choose f bank t cell after → Grows bank.post after.post
    by (OfSite i event) falls = same-grows bank.post after.post (ap (λ (b : Bank). b.post) falls.leads)
    by (OfNode c event) falls = absurd falls
    by (OfClient k event) falls = absurd falls

module _ {B : Type 0} (held : B → Boot) (old new : ShownWorld B) where
  moves-grow : (move : Move) → Moves held old new move → Grows old.post new.post
  moves-grow move moves =
      let grown = bank-grows old.setup moves.list.choose (faults old.setup) moves.list.bank move moves.after moves.leads in
      (grown.0, moves.shows_after.post ∙ grown.1 ∙ ap (λ p. p ++ grown.0) (sym moves.shows.post))

  pub applies-grow : (step : Step) (result : Result Report WorldFault) → Applies held old new step result → Grows old.post new.post
  applies-grow step (Ok report) taken = moves-grow (Takes step) taken.moves
  applies-grow step (Err fault) refused = by (is_world_fall fault) refl
    where
      by : (b : Bool) → is_world_fall fault ≡ b → Grows old.post new.post
      by true e = moves-grow _ (refused.fell e).moves
      by false e = same-grows old.post new.post (ap (λ (w : ShownWorld B). w.post) (refused.kept e).0)
