-- What the handling of an event by one site is, of the bank's site that it shows: for the calls by which a world asks
-- its sites.
use Rattle.std.specs.Prelude.{◌≡◌, ◌≢◌, ℕ, true, false, List, ◌++◌, Some, Result, MatchResult}
use Rattle.pvp_types.specs.declared.setup.Setup.{Setup}
use Rattle.pvp_types.specs.declared.command.Cmd.{Cmd}
use Rattle.pvp_types.specs.declared.command.Reply.{Reply as Answer}
use Rattle.pvp_types.specs.declared.command.PayOrder.{PayOrder as PaymentOrder}
use Rattle.pvp_types.specs.Setup.{faults}
use Rattle.vr_types.specs.declared.cell.Boot.{Boot}
use Rattle.vr_types.specs.declared.event.EventOf.{EventOf}
use Rattle.vr_types.specs.declared.event.EventOf.TheVariants.{Crash}
use Rattle.vr_types.specs.declared.event.SiteFault.{SiteFault}
use Rattle.vr_types.specs.declared.event.Status.TheVariants.{Down}
use Rattle.vr_types.specs.Choice.{Choice, IsRight}
use Rattle.vr_types.specs.Handling.{refusal, site_step, is_refused, dropped_as, IsFall, envelopes}
use Rattle.vr_types.specs.Site.{Site, over}
use Rattle.vr_types.specs.Step.{Handled}
use Rattle.vr_site.specs.Replica.{ShownSite}
use Rattle.pvp_book.specs.Ledger.{opening}
use Rattle.rtgs_node.specs.Node.{Envelope}
use Rattle.headline.specs.Machine.{book}
use Rattle.pvp_world.specs.World.{IsSite}
use Rattle.pvp_world.specs.Steps.{IsReport, is_fall}
use Rattle.pvp_world.specs.declared.report.Report.{Report}

-- the site took its step, and the post took what it sent
pub record IsServed {B : Type 0} (held : B → Boot) (setup : Setup) (choose : Choice Cmd) (i : ℕ) (x : Site Cmd)
    (event : EventOf Cmd Answer PaymentOrder) (new : ShownSite Cmd Setup B) (post posted : List Envelope)
    (report : Report) : Type 0 where
  pub allowed : is_refused (site_step {R = Answer} {O = PaymentOrder} choose (faults setup) i x event).ending ≡ false
  pub site : IsSite held setup i new (site_step {R = Answer} {O = PaymentOrder} choose (faults setup) i x event).site
  pub sent : posted ≡ post ++ envelopes book (opening setup) i (site_step choose (faults setup) i x event)
  pub told : IsReport post posted
      (dropped_as (site_step {R = Answer} {O = PaymentOrder} choose (faults setup) i x event).ending) report

-- it fell in place of a step that it handles, which is no crash
pub record HasFallen {B : Type 0} (held : B → Boot) (setup : Setup) (choose : Choice Cmd) (i : ℕ) (x : Site Cmd)
    (event : EventOf Cmd Answer PaymentOrder) (new : ShownSite Cmd Setup B) : Type 0 where
  pub falls : IsFall x (site_step {R = Answer} {O = PaymentOrder} choose (faults setup) i x event)
      (over (held new.cell) Down)
  pub handled : (site_step {R = Answer} {O = PaymentOrder} choose (faults setup) i x event).ending ≡ Handled
  pub no_crash : event ≢ Crash
  pub site : IsSite held setup i new (over (held new.cell) Down)

-- it is down in place of a step that it does not refuse, over what its cell then holds
pub record IsDown {B : Type 0} (held : B → Boot) (setup : Setup) (choose : Choice Cmd) (i : ℕ) (x : Site Cmd)
    (event : EventOf Cmd Answer PaymentOrder) (new : ShownSite Cmd Setup B) : Type 0 where
  pub falls : IsFall x (site_step {R = Answer} {O = PaymentOrder} choose (faults setup) i x event)
      (over (held new.cell) Down)
  pub site : IsSite held setup i new (over (held new.cell) Down)

-- it refuses, and is as it was
pub record HasRefused {B : Type 0} (setup : Setup) (i : ℕ) (x : Site Cmd) (event : EventOf Cmd Answer PaymentOrder)
    (old new : ShownSite Cmd Setup B) (fault : SiteFault) : Type 0 where
  pub same : new ≡ old
  pub refused : refusal {R = Answer} {O = PaymentOrder} (faults setup) i x event ≡ Some fault

-- this holds for each site of a bank that the replica shows
abbrev pub GoesDown : {A B : Type 0} → (B → Boot) → Setup → ℕ → ShownSite Cmd Setup B → ShownSite Cmd Setup B
    → EventOf Cmd Answer PaymentOrder → Result A SiteFault → Type 0
GoesDown held setup i old new event result =
    (x : Site Cmd) (choose : Choice Cmd) → IsRight (faults setup) choose → IsSite held setup i old x
    → MatchResult result (λ _. IsDown held setup choose i x event new) (HasRefused setup i x event old new)

-- its cell then holds what the event saves: for each site of a bank that the replica shows
abbrev pub HoldsSaved : {B : Type 0} → (B → Boot) → Setup → ℕ → ShownSite Cmd Setup B → ShownSite Cmd Setup B
    → EventOf Cmd Answer PaymentOrder → Type 0
HoldsSaved held setup i old new event =
    (x : Site Cmd) (choose : Choice Cmd) → IsRight (faults setup) choose → IsSite held setup i old x
    → held new.cell ≡ (site_step {R = Answer} {O = PaymentOrder} choose (faults setup) i x event).site.cell

-- it refuses, and is as it was; or it fell
pub record IsUnserved {B : Type 0} (held : B → Boot) (setup : Setup) (choose : Choice Cmd) (i : ℕ) (x : Site Cmd)
    (event : EventOf Cmd Answer PaymentOrder) (old new : ShownSite Cmd Setup B) (post posted : List Envelope)
    (fault : SiteFault) : Type 0 where
  pub sent : posted ≡ post
  pub refused : is_fall fault ≡ false
      → (new ≡ old) × (refusal {R = Answer} {O = PaymentOrder} (faults setup) i x event ≡ Some fault)
  pub fell : is_fall fault ≡ true → HasFallen held setup choose i x event new

-- this holds for each site of a bank that the replica shows
abbrev pub Serves : {B : Type 0} → (B → Boot) → Setup → ℕ → ShownSite Cmd Setup B → ShownSite Cmd Setup B
    → EventOf Cmd Answer PaymentOrder → List Envelope → List Envelope → Result Report SiteFault → Type 0
Serves held setup i old new event post posted result =
    (x : Site Cmd) (choose : Choice Cmd) → IsRight (faults setup) choose → IsSite held setup i old x
    → MatchResult result (IsServed held setup choose i x event new post posted)
    (IsUnserved held setup choose i x event old new post posted)
