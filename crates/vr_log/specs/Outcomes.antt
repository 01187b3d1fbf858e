-- What an outcome says.
use Rattle.std.specs.Prelude.{◌≡◌, List, [], Option, Some, None}
use Rattle.vr_types.specs.declared.event.OutcomeOf.{OutcomeOf}
use Rattle.vr_types.specs.declared.event.Why.{Why}
use Rattle.vr_types.specs.declared.message.EnvelopeOf.{EnvelopeOf}
use Rattle.vr_types.specs.Step.{Ending, Handled, Dropped}

-- the event was handled, and this was sent
pub record Sends {C R O : Type 0} (out : OutcomeOf C R O) (sent : List (EnvelopeOf C R O)) : Type 0 where
  pub mails : out.sent.items ≡ sent
  pub dropped : out.dropped ≡ None

-- the event was dropped, and nothing was sent
pub record Drops {C R O : Type 0} (out : OutcomeOf C R O) (why : Why) : Type 0 where
  pub mails : out.sent.items ≡ []
  pub dropped : out.dropped ≡ Some why

-- the ending of an event that was not refused
abbrev pub ended : Option Why → Ending
ended None = Handled
ended (Some why) = Dropped why
