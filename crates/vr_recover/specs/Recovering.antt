-- What a recovering site keeps, and the site that this stands for.
use Rattle.std.specs.Prelude.{◌≡◌, ℕ, ◌+◌, ◌*◌, List, length, map}
use Rattle.vr_types.specs.declared.cell.Boot.{Boot}
use Rattle.vr_types.specs.declared.event.Status.TheVariants.{Recovering}
use Rattle.vr_types.specs.Choice.{OneEach}
use Rattle.vr_types.specs.Site.{Ack, Response, Site, nothing, over}
use Rattle.vr_recover.specs.declared.recovering.RecoveringOf.{RecoveringOf}
use Rattle.vr_recover.specs.declared.recovering.ResponseOf.{ResponseOf}

-- a kept response
abbrev pub response_of : {C : Type 0} → ResponseOf C → Response C
response_of response =
    record { from = response.from; view = response.view; state = response.state; known = response.known }

-- those that are kept
abbrev pub responses_of : {C : Type 0} → List (ResponseOf C) → List (Response C)
responses_of kept = map response_of kept

-- one response of a site is kept
abbrev pub IsOneEach : {C : Type 0} → List (ResponseOf C) → Type 0
IsOneEach kept = OneEach (λ response. response.from) (responses_of kept)

-- the recovering site that knows these boot numbers and keeps these responses, over this cell, where these
-- acknowledgements came
abbrev pub recovers_with : {C : Type 0} → List ℕ → List (ResponseOf C) → List Ack → Boot → Site C
recovers_with known kept acks cell =
    record (over cell Recovering) {
      known = known;
      collected = record nothing { acks = acks; responses = responses_of kept };
    }

-- the recovering site that keeps this
abbrev pub recovering_site : {C : Type 0} → RecoveringOf C → List Ack → Boot → Site C
recovering_site recovering acks cell = recovers_with recovering.known recovering.responses.items acks cell

-- it has a boot number for each of 2f+1 sites, and keeps at most one response of each site
pub record IsSoundRecovering {C : Type 0} (f : ℕ) (recovering : RecoveringOf C) : Type 0 where
  pub known : length recovering.known ≡ 2 * f + 1
  pub one_each : IsOneEach recovering.responses.items
