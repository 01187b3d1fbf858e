-- A world whose site fell, as it was told or over another value.
use Rattle.std.proofs.Common.{◌≡◌, ◌≢◌, inl, true, false, Some, Result, Ok, Err, slice_get, slice_set, refl, sym, ap, ◌∙◌, true≢false, ℕ}
use Rattle.pvp_types.specs.declared.command.Cmd.{Cmd}
use Rattle.pvp_types.specs.declared.command.Reply.{Reply as Answer}
use Rattle.pvp_types.specs.declared.command.PayOrder.{PayOrder as PaymentOrder}
use Rattle.pvp_types.specs.declared.setup.Setup.{Setup}
use Rattle.pvp_types.specs.declared.step.Step.{Step}
use Rattle.vr_types.specs.declared.cell.Boot.{Boot}
use Rattle.vr_types.specs.declared.cell.BootCell.{Ghosts as Cell}
use Rattle.vr_types.specs.declared.event.EventOf.{EventOf}
use Rattle.vr_site.specs.Replica.{ShownSite}
use Rattle.headline.specs.declared.step.Move.TheVariants.{Falls}
use Rattle.headline.specs.declared.step.Turn.TheVariants.{OfSite}
use Rattle.headline.specs.Bank.{turn}
use Rattle.pvp_world.specs.World.{ShownWorld}
use Rattle.pvp_world.specs.Steps.{Moves, IsOverSaved, IsWhy, AreReliable, is_fall, is_world_fall}
use Rattle.pvp_world.specs.Falling.{FellElsewhere, FallsTo, KeepsReliable, is_miss}
use Rattle.pvp_world.specs.declared.fault.WorldFault.{WorldFault}
use Rattle.pvp_world.specs.declared.fault.WorldFault.TheVariants.{Site as OfSiteFault}
use Rattle.vr_types.specs.declared.event.SiteFault.{SiteFault}
use Rattle.vr_types.specs.declared.event.SiteFault.TheVariants.{CellFault}
use Rattle.pvp_world.specs.declared.fault.FallFault.{FallFault}
use Rattle.pvp_world.specs.declared.fault.FallFault.TheVariants.{Step as OfStep, Elsewhere}
use Rattle.pvp_world.proofs.Saves.{reliable-after}

module _ {B : Type 0} (held : B → Boot) (old new : ShownWorld B) (step : Step) (cell : Boot) where
  -- the site's cell held another value before too, since it does not let go of this one
  elsewhere : (i : ℕ) (event : EventOf Cmd Answer PaymentOrder) (v : ShownSite Cmd Setup B) (other : Boot)
      → turn old.post step ≡ Some (OfSite i event) → slice_get old.sites i ≡ Some v → other ≢ cell → (held v.cell ≡ cell → other ≡ cell)
      → Moves held old new (Falls step other) → FellElsewhere held old new step cell
  elsewhere i event v other is there apart lasts moves = record {
    other = other;
    is_other = apart;
    was_another = (OfSite i event, is, (v, there, λ same. apart (lasts same)));
    moves = moves;
  }

  -- a fall over another value is told by what is a miss, and as elsewhere where that value is what the step saves
  pub told-elsewhere : (missed : FallFault) (i : ℕ) (event : EventOf Cmd Answer PaymentOrder) (v : ShownSite Cmd Setup B) (other : Boot)
      → is_miss missed ≡ true → turn old.post step ≡ Some (OfSite i event) → slice_get old.sites i ≡ Some v → other ≢ cell → (held v.cell ≡ cell → other ≡ cell)
      → (moves : Moves held old new (Falls step other)) → (missed ≡ Elsewhere → IsOverSaved held old new step other moves)
      → FallsTo held old new step cell (Err missed)
  unfolding elsewhere
  told-elsewhere Elsewhere i event v other misses is there apart lasts moves saved = record {
    fell = elsewhere i event v other is there apart lasts moves;
    saved = saved refl;
  }
  told-elsewhere (OfStep fault) i event v other misses is there apart lasts moves saved = record {
    kept = λ stays. absurd (true≢false (sym misses ∙ stays));
    fell = λ _. elsewhere i event v other is there apart lasts moves;
  }

  -- the step was refused, and nothing changed
  pub told-kept : (fault : SiteFault) → (new ≡ old) × IsWhy held old step (OfSiteFault fault) × (is_fall fault ≡ false)
      → FallsTo held old new step cell (Err (OfStep (OfSiteFault fault)))
  told-kept fault kept = record {
    kept = λ _. (kept.0, inl kept.1);
    fell = λ falls. absurd (true≢false (sym falls ∙ kept.2));
  }

-- what a fall is told as names one fault
told-same : (a b : FallFault) → ◌≡◌ {A = Result (Unit {0}) FallFault} (Err a) (Err b) → a ≡ b
told-same a b e = cc

step-same : (a b : WorldFault) → OfStep a ≡ OfStep b → a ≡ b
step-same a b e = cc

-- a fault that fells no site is no failed save
no-failure : (fault : WorldFault) → is_world_fall fault ≡ false
    → ◌≢◌ {A = Result (Unit {0}) FallFault} (Err (OfStep fault)) (Err (OfStep (OfSiteFault CellFault)))
no-failure fault stays e =
    true≢false
    (sym (ap (λ (z : WorldFault). is_world_fall z) (step-same fault (OfSiteFault CellFault) (told-same (OfStep fault) (OfStep (OfSiteFault CellFault)) e)))
    ∙ stays)

-- WHERE NO SAVE OF A CELL FAILS
module _ {B : Type 0} (c : Cell B) (old new : ShownWorld B) where
  -- no site changed, and none fell
  pub stays-reliable : (fault : WorldFault) → new.sites ≡ old.sites → is_world_fall fault ≡ false → KeepsReliable c old new (Err (OfStep fault))
  stays-reliable fault same stays = λ all. ((λ i v at. all i v (sym (ap (λ vs. slice_get vs i) same) ∙ at)), no-failure fault stays)

  module _ (i : ℕ) (v u : ShownSite Cmd Setup B) (there : slice_get old.sites i ≡ Some v) (changes : new.sites ≡ slice_set old.sites i u)
      (result : Result FallFault SiteFault) (keeps : c.is_reliable v.cell → c.is_reliable u.cell × (result ≢ Ok (OfStep (OfSiteFault CellFault)))) where
    after : AreReliable c old → AreReliable c new
    after all j w at = reliable-after c.is_reliable old.sites i v u all (keeps (all i v there)).0 j w (sym (ap (λ vs. slice_get vs j) changes) ∙ at)

    -- a site fell over another value
    pub missed-reliable : (missed : FallFault) → result ≡ Ok missed → KeepsReliable c old new (Err missed)
    missed-reliable missed is = λ all. (
      after all,
      λ e. (keeps (all i v there)).1 (is ∙ ap (λ (z : FallFault). Ok z) (told-same missed (OfStep (OfSiteFault CellFault)) e)),
    )

    -- it fell over this one
    pub fallen-reliable : KeepsReliable c old new (Ok (tt {0}))
    fallen-reliable = λ all. (after all, none-told)
      where
        none-told : ◌≡◌ {A = Result (Unit {0}) FallFault} (Ok (tt {0})) (Err (OfStep (OfSiteFault CellFault))) → ⊥
        none-told e = cc
