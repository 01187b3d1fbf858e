-- What a live run reports at its end: how many envelopes were sent, how many came, and the status of the sites.
use Rattle.std.specs.Prelude.{ℕ, ◌+◌, ◌-◌, ◌^◌, min, Bool, true, false, not, List, [], ◌∷◌, ◌++◌, length, option_to_list, Option, Some, None, codes, decimal}
use Rattle.std.specs.List.{sum_by, count_by, flat_map}
use Rattle.pvp_types.specs.declared.setup.Setup.{Setup}
use Rattle.pvp_links.specs.declared.peer.PeerEnd.{PeerEnd}
use Rattle.pvp_links.specs.declared.peer.StreamEnd.{StreamEnd}
use Rattle.pvp_links.specs.declared.peer.StreamEnd.TheVariants.{End}
use Rattle.pvp_links.specs.declared.incoming.Peer.{Peer}
use Rattle.pvp_parties.specs.Parties.{sent_envelopes}
use Rattle.pvp_audit.specs.Judged.{Left}
use Rattle.pvp_live.specs.declared.sighting.Sighting.{Sighting}
use Rattle.pvp_live.specs.Notes.{sighting_text}
use Rattle.pvp_live.specs.Sightings.{sighting_of}

-- a sum as a counter holds it, which goes no further
abbrev pub counter_value : ℕ → ℕ
counter_value n = min n (2 ^ 64 - 1)

-- HOW MANY ENVELOPES an actor sent, and how many all these did
abbrev pub sent_by : Left → ℕ
sent_by one = counter_value (sum_by (λ recorded. length (sent_envelopes recorded.outcome)) one.history.items)

abbrev pub sent_in_all : List Left → ℕ
sent_in_all closed = counter_value (sum_by sent_by closed)

-- HOW MANY CAME: of the events that an actor took those with a stamp
abbrev pub came_to : Left → ℕ
came_to one = counter_value (sum_by (λ recorded. length (option_to_list recorded.stamp)) one.history.items)

abbrev pub came_in_all : List Left → ℕ
came_in_all closed = counter_value (sum_by came_to closed)

abbrev pub lost_text : ℕ → ℕ → List ℕ
lost_text all lost =
    decimal all ++ codes " envelopes were sent, and " ++ decimal lost ++ codes " of them did not come\n"

-- where the sites among these actors stand
abbrev pub sightings : List Left → List Sighting
sightings closed = flat_map (λ one. option_to_list (sighting_of one.end)) closed

-- what stands before one of them
abbrev pub separator : Bool → List ℕ
separator true = []
separator false = codes ", "

-- one after another, from the first on or behind others
abbrev pub stands_text : Setup → Bool → List Sighting → List ℕ
stands_text setup is_first [] = codes "\n"
stands_text setup is_first (sighting ∷ more) =
    separator is_first ++ sighting_text setup sighting ++ stands_text setup false more

-- what is lost is what was sent and did not come
abbrev pub left_text : Setup → List Left → List ℕ
left_text setup closed =
    lost_text (sent_in_all closed) (sent_in_all closed - came_in_all closed) ++ codes "at the end "
    ++ stands_text setup true (sightings closed)

-- OVER STREAMS: how many frames were taken of one that ended so, and whether that was before its end
abbrev pub frames_at : Option PeerEnd → ℕ
frames_at (Some end) = end.frames
frames_at None = 0

abbrev pub is_end : StreamEnd → Bool
is_end End = true
is_end _ = false

abbrev pub is_broken : Option PeerEnd → Bool
is_broken (Some end) = not (is_end end.why)
is_broken None = true

abbrev pub frames_taken : {A R G N E O : Type 0} → List (Peer A R G N E O) → ℕ
frames_taken peers = counter_value (sum_by (λ peer. frames_at peer.end) peers)

abbrev pub broken_count : {A R G N E O : Type 0} → List (Peer A R G N E O) → ℕ
broken_count peers = count_by (λ peer. is_broken peer.end) peers

abbrev pub ended_text : ℕ → ℕ → List ℕ
ended_text frames streams =
    decimal frames ++ codes " frames came, and " ++ decimal streams ++ codes " connections broke\n"
