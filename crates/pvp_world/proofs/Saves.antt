-- What a step tells of saves, and cells no save of which fails.
use Rattle.std.proofs.Common.{◌≡◌, ◌≢◌, inl, inr, ◌⊎◌, ℕ, zero, suc, List, [], ◌∷◌, map, slice_get, slice_set, Some, Result, Ok, Err, refl, ap, sym, ◌∙◌, subst, rules}
use Rattle.std.specs.Prelude.{IsErrOf}
use Rattle.pvp_types.specs.declared.setup.Setup.{Setup}
use Rattle.pvp_types.specs.declared.command.Cmd.{Cmd}
use Rattle.pvp_types.specs.declared.command.Reply.{Reply as Answer}
use Rattle.pvp_types.specs.declared.command.PayOrder.{PayOrder as PaymentOrder}
use Rattle.pvp_types.specs.declared.step.Step.{Step}
use Rattle.vr_types.specs.declared.cell.BootCell.{Ghosts as Cell}
use Rattle.vr_types.specs.declared.event.EventOf.{EventOf}
use Rattle.vr_types.specs.declared.event.SiteFault.{SiteFault}
use Rattle.vr_types.specs.declared.event.SiteFault.TheVariants.{CellFault}
use Rattle.vr_types.specs.Cell.{HasRisen}
use Rattle.vr_site.specs.Replica.{ShownSite}
use Rattle.headline.specs.declared.step.Turn.TheVariants.{OfSite}
use Rattle.headline.specs.Bank.{turn}
use Rattle.headline.proofs.Basics.{some-same, set-at}
use Rattle.pvp_world.specs.declared.fault.WorldFault.{WorldFault}
use Rattle.pvp_world.specs.declared.fault.WorldFault.TheVariants.{Site}
use Rattle.pvp_world.specs.declared.report.Report.{Report}
use Rattle.pvp_world.specs.World.{ShownWorld}
use Rattle.pvp_world.specs.Steps.{AreReliable, TellsFailures, failures}

module _ {B : Type 0} (IsReliable : B → Type 0) (sites : List (ShownSite Cmd Setup B)) (i : ℕ) (v new : ShownSite Cmd Setup B) where
  -- of the sites one is changed
  pub reliable-after : ((j : ℕ) (u : ShownSite Cmd Setup B) → slice_get sites j ≡ Some u → IsReliable u.cell) → IsReliable new.cell
      → (j : ℕ) (u : ShownSite Cmd Setup B) → slice_get (slice_set sites i new) j ≡ Some u → IsReliable u.cell
  reliable-after all keeps j u e = by (set-at sites i new j u e)
    where
      by : ((i ≡ j) × (new ≡ u)) ⊎ (slice_get sites j ≡ Some u) → IsReliable u.cell
      by (inl h) = subst (λ (w : ShownSite Cmd Setup B). IsReliable w.cell) h.1 keeps
      by (inr h) = all j u h

-- where one is changed to what is counted alike, so are all
set-counted : {A : Type 0} (count : A → ℕ) (xs : List A) (i : ℕ) (x y : A) → slice_get xs i ≡ Some x → count y ≡ count x
    → map count (slice_set xs i y) ≡ map count xs
set-counted count [] i x y at same = refl
set-counted count (z ∷ xs) zero x y at same = ap (λ n. n ∷ map count xs) (same ∙ ap count (sym (some-same z x at)))
set-counted count (z ∷ xs) (suc i) x y at same = ap (λ ns. count z ∷ ns) (set-counted count xs i x y at same)

cell-fault : {A : Type 0} (result : Result A SiteFault) (fault : SiteFault) → result ≡ Err fault → fault ≡ CellFault → IsErrOf result CellFault
cell-fault (Ok done) fault is same = absurd (cc)
cell-fault (Err told) fault is same = search rules

ok-no-fault : {A : Type 0} (result : Result A SiteFault) (done : A) → result ≡ Ok done → result ≢ Err CellFault
ok-no-fault result done is e = cc

site-fault : (fault : SiteFault) → ◌≡◌ {A = Result Report WorldFault} (Err (Site fault)) (Err (Site CellFault)) → fault ≡ CellFault
site-fault fault e = cc

pub done-is-none : (report : Report) → ◌≡◌ {A = Result Report WorldFault} (Ok report) (Err (Site CellFault)) → ⊥
done-is-none report e = cc

other-fault : {A : Type 0} (result : Result A SiteFault) (fault : SiteFault) → result ≡ Err fault → result ≢ Err CellFault
    → ◌≡◌ {A = Result Report WorldFault} (Err (Site fault)) (Err (Site CellFault)) → ⊥
other-fault result fault is other e = other (is ∙ ap (λ z. Err z) (same e))
  where
    same : ◌≡◌ {A = Result Report WorldFault} (Err (Site fault)) (Err (Site CellFault)) → fault ≡ CellFault
    same d = cc

module _ {B : Type 0} (c : Cell B) (old new : ShownWorld B) (step : Step) where
  -- no site was asked
  pub none-tells : (result : Result Report WorldFault) → new.sites ≡ old.sites → result ≢ Err (Site CellFault) → TellsFailures c old new step result
  none-tells result same other = record {
    failed = λ e. absurd (other e);
    counted = λ _. ap (map (λ v. c.faults v.cell)) same;
    reliable = λ all. ((λ i v at. all i v (sym (ap (λ vs. slice_get vs i) same) ∙ at)), other);
  }

  module _ (i : ℕ) (event : EventOf Cmd Answer PaymentOrder) (v u : ShownSite Cmd Setup B)
      (is : turn old.post step ≡ Some (OfSite i event)) (there : slice_get old.sites i ≡ Some v) (changes : new.sites ≡ slice_set old.sites i u) where
    keeps : AreReliable c old → c.is_reliable u.cell → AreReliable c new
    keeps all kept j w at = reliable-after c.is_reliable old.sites i v u all kept j w (sym (ap (λ vs. slice_get vs j) changes) ∙ at)

    counts : c.faults u.cell ≡ c.faults v.cell → failures c new ≡ failures c old
    counts same = ap (map (λ w. c.faults w.cell)) changes ∙ set-counted (λ w. c.faults w.cell) old.sites i v u there same

    -- a site took the step
    pub taken-tells : {A : Type 0} (result : Result A SiteFault) (done : A) (report : Report) → result ≡ Ok done
        → (result ≢ Err CellFault → c.faults u.cell ≡ c.faults v.cell) → (c.is_reliable v.cell → c.is_reliable u.cell × (result ≢ Err CellFault))
        → TellsFailures c old new step (Ok report)
    taken-tells result done report is_ok counted reliable = record {
      failed = λ e. absurd (done-is-none report e);
      counted = λ _. counts (counted (ok-no-fault result done is_ok));
      reliable = λ all. (keeps all (reliable (all i v there)).0, done-is-none report);
    }

    -- a site told a fault
    pub fault-tells : {A : Type 0} (result : Result A SiteFault) (fault : SiteFault) → result ≡ Err fault
        → (IsErrOf result CellFault → HasRisen (c.faults v.cell) (c.faults u.cell))
        → (result ≢ Err CellFault → c.faults u.cell ≡ c.faults v.cell) → (c.is_reliable v.cell → c.is_reliable u.cell × (result ≢ Err CellFault))
        → TellsFailures c old new step (Err (Site fault))
    fault-tells result fault told cause counted reliable = record {
      failed = λ e. record {
        site = i;
        event = event;
        has_turn = is;
        before = v;
        after = u;
        is_there = there;
        changes = changes;
        one_more = cause (cell-fault result fault told (site-fault fault e));
      };
      counted = λ other. counts (counted (λ e. other (ap (λ f. Err (Site f)) (err-same result fault CellFault told e))));
      reliable = λ all. (keeps all (reliable (all i v there)).0, other-fault result fault told (reliable (all i v there)).1);
    }
      where
        err-same : {A : Type 0} (result : Result A SiteFault) (a b : SiteFault) → result ≡ Err a → result ≡ Err b → a ≡ b
        err-same result a b e d = cc

pub end-is-none : ◌≡◌ {A = Result (Unit {0}) WorldFault} (Ok (tt {0})) (Err (Site CellFault)) → ⊥
end-is-none e = cc

pub fault-told : (result : Result Report WorldFault) (fault : WorldFault) → result ≡ Err fault → result ≢ Err (Site CellFault)
    → ◌≡◌ {A = Result (Unit {0}) WorldFault} (Err fault) (Err (Site CellFault)) → ⊥
fault-told result fault is other e = other (is ∙ ap (λ z. Err z) (same e))
  where
    same : ◌≡◌ {A = Result (Unit {0}) WorldFault} (Err fault) (Err (Site CellFault)) → fault ≡ Site CellFault
    same d = cc

pub ok-no-failure : (result : Result Report WorldFault) (report : Report) → result ≡ Ok report → result ≢ Err (Site CellFault)
ok-no-failure result report is e = cc

pub fault-not-told : (result : Result Report WorldFault) (fault : WorldFault) → result ≡ Err fault
    → ◌≢◌ {A = Result (Unit {0}) WorldFault} (Err fault) (Err (Site CellFault)) → result ≢ Err (Site CellFault)
fault-not-told result fault is other e = other (ap (λ z. Err z) (same result fault is e))
  where
    same : (result : Result Report WorldFault) (fault : WorldFault) → result ≡ Err fault → result ≡ Err (Site CellFault) → fault ≡ Site CellFault
    same result fault d e = cc
