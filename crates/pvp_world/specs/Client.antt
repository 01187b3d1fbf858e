-- What a client shows, and what its calls answer.
use Rattle.std.specs.Prelude.{◌≡◌, ◌⊎◌, ℕ, ◌<◌, List, length, Some, None}
use Rattle.headline.specs.declared.step.ClientFault.{ClientFault}
use Rattle.headline.specs.declared.step.ClientFault.TheVariants.{NoMemory}
use Rattle.headline.specs.declared.step.ClientEvent.{ClientEvent}
use Rattle.headline.specs.Client.{Client, ClientStep, client_step}
use Rattle.rtgs_node.specs.Node.{Envelope}

-- the client of a number, of a bank of 2f+1 sites
pub record ShownClient : Type 0 where
  pub f : ℕ
  pub me : ℕ
  pub client : Client

abbrev pub step_of : ShownClient → ClientEvent → ClientStep
step_of shown event = client_step shown.f shown.me shown.client event

-- the client took a step, and answered what that sends
pub record IsStep (old new : ShownClient) (step : ClientStep) (sent : List Envelope) : Type 0 where
  pub allowed : step.fault ≡ None
  pub sends : sent ≡ step.sent
  pub client : new ≡ record old { client = step.client }

-- the client is as it was: the step is a refusal, or it sends something, for which memory was refused
pub record IsRefusal (old new : ShownClient) (step : ClientStep) (fault : ClientFault) : Type 0 where
  pub client : new ≡ old
  pub why : (step.fault ≡ Some fault) ⊎ ((fault ≡ NoMemory) × (step.fault ≡ None) × (0 < length step.sent))
