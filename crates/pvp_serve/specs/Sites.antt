-- What a site's loop does with what comes: with what it knows of time, and with the room and the streams behind it.
use Rattle.std.specs.Prelude.{◌≡◌, ℕ, ◌+◌, ◌-◌, ◌^◌, ◌&&◌, ◌||◌, Bool, true, false, not, min, List, length, Option, Some, None, Result, Ok, Err, IfOk, if◌then◌else◌}
use Rattle.std.specs.List.{list_any}
use Rattle.vr_types.specs.Actors.{id_of}
use Rattle.vr_types.specs.declared.actors.ActorId.{ActorId}
use Rattle.vr_types.specs.declared.actors.ActorId.TheVariants.{Site}
use Rattle.vr_types.specs.declared.message.EnvelopeOf.{EnvelopeOf}
use Rattle.pvp_types.specs.declared.command.Cmd.{Cmd}
use Rattle.pvp_types.specs.declared.command.PayOrder.{PayOrder}
use Rattle.pvp_types.specs.declared.command.Reply.{Reply}
use Rattle.vr_types.specs.declared.cell.Boot.{Boot}
use Rattle.pvp_wire.specs.declared.stamped.Stamped.{Stamped}
use Rattle.pvp_rooms.specs.declared.actor.Actor.{Ghosts}
use Rattle.pvp_parties.specs.declared.party.PartyOf.{PartyOf}
use Rattle.pvp_parties.specs.declared.party.PartyEvent.{PartyEvent}
use Rattle.pvp_journal.specs.Rooms.{Held, Texts}
use Rattle.pvp_places.specs.declared.serving.ServeFault.{ServeFault}
use Rattle.pvp_places.specs.declared.serving.ServeFault.TheVariants.{NoMemory}
use Rattle.pvp_serve.specs.declared.inbox.Inbox.{Inbox}
use Rattle.pvp_serve.specs.declared.inbox.Inbox.TheVariants.{Frame, Ping, Came, Gone, Away, Tick}
use Rattle.pvp_serve.specs.declared.lanes.Lane.{Lane}
use Rattle.pvp_serve.specs.declared.patience.Look.{Look}
use Rattle.pvp_serve.specs.declared.patience.Patience.{Patience}
use Rattle.pvp_serve.specs.declared.admission.Admission.{Admission}
use Rattle.pvp_serve.specs.declared.admission.Admission.TheVariants.{Takes, Loses}
use Rattle.pvp_serve.specs.declared.admission.Quota.{Quota}
use Rattle.pvp_serve.specs.declared.admission.Seen.{Seen}
use Rattle.pvp_serve.specs.Admission.{admission_of, flood_after, quota_after, quota_ticked}
use Rattle.pvp_serve.specs.Desks.{DoesOwn, after_envelope, event_due, heard_actor, heard_from, is_end, is_passed_over, is_primary, is_site, leads_now, look_in, missed_by}
use Rattle.pvp_serve.specs.declared.serving.Lost.{Lost}
use Rattle.pvp_serve.specs.Lanes.{is_stream}
use Rattle.pvp_serve.specs.Patience.{IsTicked, due}
use Rattle.pvp_serve.specs.Serving.{Comes, seen_in, standing_in}
use Rattle.pvp_serve.specs.declared.site.SiteDesk.{SiteDesk}
use Rattle.pvp_serve.specs.declared.telling.Teller.{Teller}
use Rattle.pvp_serve.specs.Telling.{ended_after, told_after, turned_away}

-- what a site knows of time once a stream stands: beats are owed again, and to another site all that was said
abbrev pub after_meeting : ℕ → Patience → Patience
after_meeting peer patience =
    record patience { same = 0; rest = if is_site (id_of peer) then 0 else patience.rest }

-- and after a tick, if there is a site
abbrev pub IsTickedIf : Option Look → Patience → Patience → Type 0
IsTickedIf None old new = new ≡ old
IsTickedIf (Some look) old new = IsTicked look old new

-- WHAT A SITE KNOWS OF TIME after an item that came while its room and its streams were so
abbrev pub KnowsTime : {N B O L : Type 0} → (B → Boot) → ℕ → ℕ → Option (Held N (PartyOf B) O L) → List Lane → Inbox
    → Patience → Patience → Type 0
KnowsTime held sites me room lanes (Frame arrival latest) old new =
    new ≡ after_envelope sites (standing_in room) arrival.stamped.envelope old
KnowsTime held sites me room lanes (Ping peer) old new =
    new ≡ heard_from (is_primary (standing_in room) sites peer) (heard_actor (id_of peer) peer old)
KnowsTime held sites me room lanes (Came lane) old new = new ≡ after_meeting lane.peer old
KnowsTime held sites me room lanes (Gone peer stream end) old new =
    new ≡ missed_by (list_any (is_stream peer stream) lanes && is_primary (standing_in room) sites peer) old
KnowsTime held sites me room lanes Tick old new = IsTickedIf (look_in held sites me room) old new
KnowsTime held sites me room lanes _ old new = new ≡ old

-- WHAT A SITE HAS TOLD after an item, once these frames were lost as their clocks were far, and these in a flood
abbrev pub teller_after : Inbox → Lost → Lost → Teller → Teller
teller_after Tick lost flood teller = told_after teller lost.count flood.count
teller_after (Gone peer stream end) lost flood teller =
    record teller { ended = ended_after peer end teller.ended }
teller_after (Away who) lost flood teller = turned_away who teller
teller_after _ lost flood teller = teller

-- WHAT BECOMES OF AN ENVELOPE at the door of a site: one of a site is taken, and one of a client or a node where the
-- site is the primary of a normal view and admits it
abbrev pub admission_as : ActorId → Bool → Option Seen → SiteDesk → EnvelopeOf Cmd Reply PayOrder → Admission
admission_as (Site site) leads seen desk envelope = Takes
admission_as who false seen desk envelope = Loses
admission_as who true seen desk envelope =
    admission_of who (length desk.teller.setup.members) seen envelope.from desk.quota envelope.msg

abbrev pub admission_in : {N B O L : Type 0} → (B → Boot) → SiteDesk → ℕ → Option (Held N (PartyOf B) O L)
    → EnvelopeOf Cmd Reply PayOrder → Admission
admission_in held desk me room envelope =
    admission_as (id_of envelope.from) (leads_now desk.sites me (standing_in room)) (seen_in held envelope.from room)
    desk envelope

-- it is passed over
abbrev pub is_passed_in : {N B O L : Type 0} → (B → Boot) → SiteDesk → ℕ → Option (Held N (PartyOf B) O L)
    → EnvelopeOf Cmd Reply PayOrder → Bool
is_passed_in held desk me room envelope =
    is_passed_over (admission_in held desk me room envelope) desk.sites (standing_in room) desk.patience envelope

abbrev pub is_item_passed : {N B O L : Type 0} → (B → Boot) → SiteDesk → ℕ → Option (Held N (PartyOf B) O L) → Inbox
    → Bool
is_item_passed held desk me room (Frame arrival latest) = is_passed_in held desk me room arrival.stamped.envelope
is_item_passed held desk me room _ = false

-- WHAT IS COUNTED OF REQUESTS after an item, and those that were lost in floods
abbrev pub quota_of_item : {N B O L : Type 0} → (B → Boot) → SiteDesk → ℕ → Option (Held N (PartyOf B) O L) → Inbox
    → Quota
quota_of_item held desk me room (Frame arrival latest) = let envelope = arrival.stamped.envelope in
    quota_after (admission_in held desk me room envelope) envelope.from desk.quota
quota_of_item held desk me room Tick = quota_ticked desk.quota
quota_of_item held desk me room _ = desk.quota

abbrev pub flood_of_item : {N B O L : Type 0} → (B → Boot) → SiteDesk → ℕ → Option (Held N (PartyOf B) O L) → Inbox
    → Lost
flood_of_item held desk me room (Frame arrival latest) = let envelope = arrival.stamped.envelope in
    flood_after (admission_in held desk me room envelope) envelope.from desk.flood
flood_of_item held desk me room _ = desk.flood

-- how many envelopes were passed over, with one more or without
abbrev pub passed_with : Bool → ℕ → ℕ
passed_with passes passed = if passes then min (passed + 1) (2 ^ 64 - 1) else passed

-- how an item went, whatever is answered
abbrev pub result_of_item : {A : Type 0} → Result A ServeFault → Result (Unit {0}) ServeFault
result_of_item (Ok answer) = Ok tt
result_of_item (Err fault) = Err fault

module _ {N B O L : Type 0} (m : Ghosts (PartyOf B) N PartyEvent O) (texts : ℕ → Texts PartyEvent O)
    (seen : L → Option (List ℕ)) where
  -- what is due at a tick is done, if there is a site
  abbrev pub DoesDue : Option Look → Patience → Option (Held N (PartyOf B) O L) → Option (Held N (PartyOf B) O L)
      → Result (Unit {0}) ServeFault → Type 0
  DoesDue None patience old new result = (result ≡ Ok tt) × (new ≡ old)
  DoesDue (Some look) patience old new result = DoesOwn m texts seen (event_due (due patience look)) old new result

  -- a stream that comes needs memory
  abbrev pub StandsSo : Option (Held N (PartyOf B) O L) → Option (Held N (PartyOf B) O L)
      → Result (Unit {0}) ServeFault → Type 0
  StandsSo old new (Ok done) = new ≡ old
  StandsSo old new (Err fault) = (fault ≡ NoMemory) × (new ≡ old)

  -- an envelope that is passed over changes nothing, and another comes to the room
  abbrev pub ComesUnless : Bool → ℕ → Stamped → Option (Held N (PartyOf B) O L) → Option (Held N (PartyOf B) O L)
      → Result (Unit {0}) ServeFault → Type 0
  ComesUnless true latest stamped old new result = (result ≡ Ok tt) × (new ≡ old)
  ComesUnless false latest stamped old new result = Comes m texts seen latest stamped old new result

  -- WHAT A SITE'S ROOM TAKES of an item: an envelope that is not passed over, and at a tick what is due
  abbrev pub RoomTakes : (B → Boot) → ℕ → SiteDesk → Inbox → Option (Held N (PartyOf B) O L)
      → Option (Held N (PartyOf B) O L) → Result (Unit {0}) ServeFault → Type 0
  RoomTakes held me desk (Frame arrival latest) old new result =
      ComesUnless (is_passed_in held desk me old arrival.stamped.envelope) latest arrival.stamped old new result
  RoomTakes held me desk Tick old new result =
      DoesDue (look_in held desk.sites me old) desk.patience old new result
  RoomTakes held me desk (Came lane) old new result = StandsSo old new result
  RoomTakes held me desk _ old new result = (result ≡ Ok tt) × (new ≡ old)

  -- WHAT A SITE TAKES, while these streams stand and these frames were lost. Its process goes on to the end of its
  -- terminal, or beyond it where it is to stay
  pub record SiteTakes (held : B → Boot) (me : ℕ) (lanes : List Lane) (lost : Lost) (item : Inbox)
      (desk after : SiteDesk) (old new : Option (Held N (PartyOf B) O L))
      (result : Result Bool ServeFault) : Type 0 where
    pub takes : RoomTakes held me desk item old new (result_of_item result)
    pub knows : KnowsTime held desk.sites me old lanes item desk.patience after.patience
    pub left : after
        ≡ record desk {
          patience = after.patience;
          teller = teller_after item lost desk.flood desk.teller;
          passed = passed_with (is_item_passed held desk me old item) desk.passed;
          quota = quota_of_item held desk me old item;
          flood = flood_of_item held desk me old item;
        }
    pub goes : IfOk result (λ goes_on. goes_on ≡ (desk.stays || not (is_end item)))
