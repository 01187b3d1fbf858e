-- What a site has reported to its operator.
use Rattle.std.specs.Prelude.{ℕ, ◌+◌, ◌-◌, ◌^◌, ◌==◌, ◌&&◌, Bool, not, min, nat_le, List, Option, Some, None, codes, if◌then◌else◌}
use Rattle.vr_types.specs.declared.event.Status.{Status}
use Rattle.vr_types.specs.declared.event.Status.TheVariants.{Normal, Change, Recovering, Down}
use Rattle.pvp_types.specs.declared.setup.Setup.{Setup}
use Rattle.pvp_links.specs.declared.hearing.LinkEnd.{LinkEnd}
use Rattle.pvp_links.specs.declared.hearing.LinkEnd.TheVariants.{Wrong}
use Rattle.pvp_links.specs.declared.fault.LinkFault.{LinkFault}
use Rattle.pvp_serve.specs.declared.serving.Standing.{Standing}
use Rattle.pvp_serve.specs.declared.telling.Stood.{Stood}
use Rattle.pvp_serve.specs.declared.telling.Teller.{Teller}
use Rattle.pvp_serve.specs.declared.telling.TurnedAway.{TurnedAway}
use Rattle.pvp_serve.specs.declared.telling.TheConstants.{TELLING_TICKS}
use Rattle.pvp_serve.specs.Admission.{is_full_at}
use Rattle.pvp_serve.specs.Patience.{up_to_most}

-- what a site of a bank has reported at first: nothing
abbrev pub fresh_teller : Setup → Teller
fresh_teller setup = record {
  setup = setup;
  stood = None;
  ended = None;
  away = 0;
  last = None;
  told = record { away = 0; lost = 0; flood = 0 };
  ticks = 0;
}

-- the word for a site's status
abbrev pub status_word : Status → List ℕ
status_word Normal = codes "normal"
status_word Change = codes "change"
status_word Recovering = codes "recovering"
status_word Down = codes "down"

-- A STREAM MORE was turned away: whose, where that is known
abbrev pub turned_away : Option TurnedAway → Teller → Teller
turned_away who teller = record teller { away = min (teller.away + 1) (2 ^ 64 - 1); last = who }

-- THE LAST STREAM that ended with something wrong, once one more has ended
abbrev pub ended_after : ℕ → LinkEnd → Option (ℕ × LinkFault) → Option (ℕ × LinkFault)
ended_after peer (Wrong why) last = Some (peer, why)
ended_after peer _ last = last

-- more was turned away or lost than was reported, and it is time to report
abbrev pub is_to_tell : Teller → ℕ → ℕ → Bool
is_to_tell teller lost flood =
    nat_le TELLING_TICKS (up_to_most (teller.ticks + 1))
    && not (teller.away == teller.told.away && lost == teller.told.lost && flood == teller.told.flood)

-- WHAT IS TOLD AFTER A TICK of the streams that were turned away, and of so many frames that were lost as their clocks
-- were far, and so many in a flood
abbrev pub told_after : Teller → ℕ → ℕ → Teller
told_after teller lost flood =
    if is_to_tell teller lost flood then
    record teller { ticks = 0; told = record { away = teller.away; lost = lost; flood = flood }; last = None }
    else record teller { ticks = up_to_most (teller.ticks + 1) }

-- what is reported of a site's status
abbrev pub stood_at : Standing → Stood
stood_at standing =
    record { status = standing.status; view = standing.view; is_full = is_full_at standing.log }

abbrev pub stood_after : Option Standing → Option Stood → Option Stood
stood_after None last = last
stood_after (Some standing) last = Some (stood_at standing)
