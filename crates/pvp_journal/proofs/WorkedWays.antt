-- How a site comes back, by rows: what its journal knows, what its cell holds, and whether the end of the journal is trusted.
use Rattle.std.proofs.Common.{◌≡◌, [], ◌∷◌, Bool, true, false, Some, None, refl}
use Rattle.vr_types.specs.declared.cell.Boot.{Boot}
use Rattle.vr_types.specs.declared.event.EventOf.TheVariants.{Crash}
use Rattle.pvp_parties.specs.declared.party.PartyEvent.{PartyEvent}
use Rattle.pvp_parties.specs.declared.party.PartyEvent.TheVariants.{OfSite}
use Rattle.pvp_parties.specs.declared.party.PartyOutcome.{PartyOutcome}
use Rattle.pvp_journal.specs.Rooms.{Mark}
use Rattle.pvp_journal.specs.declared.ways.WayBack.TheVariants.{Again, Restarts, FellAndRestarts}
use Rattle.pvp_journal.specs.Resumed.{way_back, events_back, a_restart, a_fall}

abbrev boots_3 : Boot
boots_3 = record { boots = 3 }

abbrev boots_5 : Boot
boots_5 = record { boots = 5 }

-- it goes on only behind a journal whose end is trusted
whole : way_back boots_3 boots_3 true ≡ Some Again
whole = refl

cut_short : way_back boots_3 boots_3 false ≡ Some Restarts
cut_short = refl

-- a cell that is ahead was saved by restarts that no record tells of; one that is behind is another site's, or older
one_ahead : (trusted : Bool) → way_back boots_3 (record { boots = 4 }) trusted ≡ Some FellAndRestarts
one_ahead trusted = refl

ahead : (trusted : Bool) → way_back boots_3 boots_5 trusted ≡ Some FellAndRestarts
ahead trusted = refl

behind : (trusted : Bool) → way_back boots_5 boots_3 trusted ≡ None
behind trusted = refl

-- what is recorded of each way
abbrev a_crash : Mark PartyEvent PartyOutcome
a_crash = record { event = OfSite Crash; came = None }

nothing_more : events_back Again true (Some boots_3) boots_3 ≡ []
nothing_more = refl

crash_and_restart : events_back Restarts true (Some boots_3) boots_3 ≡ a_crash ∷ a_restart ∷ []
crash_and_restart = refl

restart_alone : events_back Restarts false (Some boots_3) boots_3 ≡ a_restart ∷ []
restart_alone = refl

each_fall : events_back FellAndRestarts true (Some boots_3) boots_5
    ≡ a_crash ∷ a_fall (record { boots = 4 }) ∷ a_fall (record { boots = 5 }) ∷ a_restart ∷ []
each_fall = refl

each_fall_of_one_that_was_down : events_back FellAndRestarts false (Some boots_3) boots_5
    ≡ a_fall (record { boots = 4 }) ∷ a_fall (record { boots = 5 }) ∷ a_restart ∷ []
each_fall_of_one_that_was_down = refl
