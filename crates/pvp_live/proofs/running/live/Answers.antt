use Rattle.std.proofs.Common.{inl, inr, ℕ, List, ap, ◌∙◌, subst}
use Rattle.std.proofs.lemmas.Result.{IfErr-weaker}
use Rattle.pvp_links.specs.Links.{links}
use Rattle.pvp_live.specs.declared.running.LiveFault.{LiveFault}
use Rattle.pvp_live.specs.declared.running.LiveFault.TheVariants.{Net, NoMemory, Seats}
use Rattle.pvp_live.specs.Faults.{AreConnected, Ends, IsLate}
use Rattle.pvp_live.proofs.running.live.Goals as goal

-- once all is connected
late-ends : {N : Type 0} (S : Type 0) (actors : List ℕ) (old new : N) → AreConnected S actors → (fault : LiveFault) → IsLate fault
    → Ends S actors old new fault
late-ends S actors old new there Net (inl e) = cc
late-ends S actors old new there Net (inr e) = cc
late-ends S actors old new there NoMemory late = tt
late-ends S actors old new there Seats late = there

pub returns-clause-fault : goal.returns-clause-fault
returns-clause-fault g c =
    let there : AreConnected g.row.R-Stream.Denot c.in_ok-actors.actors.items = record {
      streams = c.in_ok-connected.connected.incoming.items;
      all = c.in_ok-connected.ensures.incoming ∙ ap (λ l. links l l) c.as_slice.ensures.value;
    } in
    IfErr-weaker c.live_connected.result IsLate _
    (late-ends g.row.R-Stream.Denot _ _ _ (subst (AreConnected g.row.R-Stream.Denot) c.in_ok-actors.ensures there)) c.live_connected.ensures.late
