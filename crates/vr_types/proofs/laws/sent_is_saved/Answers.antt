use Rattle.vr_types.specs.Handling.{site_step}
use Rattle.vr_types.proofs.Saving.{step_saved, envelopes_saved}
use Rattle.vr_types.proofs.laws.sent_is_saved.Goals as goal

pub returns : goal.returns
returns g c = λ choose f me x event start.
    envelopes_saved g.M.Machine start me (site_step choose f me x event) (step_saved choose f me x event)
