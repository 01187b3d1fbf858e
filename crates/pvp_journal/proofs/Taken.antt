-- What a record says is spelled as it is read, part by part.
use Rattle.std.proofs.Common.{◌≡◌, ℕ, zero, suc, ◌+◌, ◌<◌, ◌==◌, ◌&&◌, Bool, true, false, List, [], ◌∷◌, ◌++◌, length, drop, Option, Some, None, Ok, Err, refl, sym, ap, subst, ◌∙◌, if◌then◌else◌}
use Rattle.std.proofs.lemmas.Bool.{eqb-true}
use Rattle.std.proofs.lemmas.List.{append-nil, take-append-drop, nil_from_length}
use Rattle.std.proofs.lemmas.List.Elements.{All-head}
use Rattle.pvp_types.specs.declared.command.Cmd.{Cmd}
use Rattle.vr_types.specs.declared.event.EventOf.TheVariants.{Deliver, Timer, Beat, Crash, Restart}
use Rattle.vr_types.specs.declared.event.SiteFault.{SiteFault}
use Rattle.vr_types.specs.declared.event.SiteFault.TheVariants as site
use Rattle.vr_types.specs.declared.event.Why.{Why}
use Rattle.vr_types.specs.declared.event.Why.TheVariants as why
use Rattle.vr_types.specs.declared.message.MsgOf.TheVariants.{Request, Prepare, PrepareOk, Commit, StartViewChange, DoViewChange, StartView, GetState, NewState, Recovery, RecoveryResponse, Reply, PayOrder}
use Rattle.vr_types.specs.declared.actors.TheConstants.{FIRST_SITE}
use Rattle.rtgs_node.specs.declared.event.NodeEvent.TheVariants as node_event
use Rattle.rtgs_node.specs.declared.fault.NodeFault.{NodeFault}
use Rattle.rtgs_node.specs.declared.fault.NodeFault.TheVariants as node
use Rattle.headline.specs.declared.step.ClientEvent.TheVariants as client_event
use Rattle.headline.specs.declared.step.ClientFault.{ClientFault}
use Rattle.headline.specs.declared.step.ClientFault.TheVariants as client
use Rattle.pvp_wire.specs.declared.fault.WireFault.TheVariants.{Field, Length}
use Rattle.pvp_wire.specs.declared.stamped.Stamped.{Stamped}
use Rattle.pvp_wire.specs.Spelling.{BankMsg, number, spelling}
use Rattle.pvp_wire.specs.Fits.{Fits, IsBytes, IsSpelled}
use Rattle.pvp_wire.specs.Reading.{◌>>=◌, Reads, number_at, frame_at}
use Rattle.pvp_wire.proofs.Formats.{IsBytes-rest, IsBytes-drop, Takes, Takes-then, TakesBy, IsFormat, bind_ok, wanted_ok, done, ok_is, takes1, takes2}
use Rattle.pvp_wire.proofs.Parts.{n2, n4, n8, tagged, parted, never}
use Rattle.pvp_wire.proofs.Frames.{frame-takes}
use Rattle.pvp_rooms.specs.declared.site.CameOf.TheVariants.{Did, Refused, Fell}
use Rattle.pvp_parties.specs.declared.party.PartyEvent.{PartyEvent}
use Rattle.pvp_parties.specs.declared.party.PartyEvent.TheVariants.{OfSite, OfNode, OfClient}
use Rattle.pvp_parties.specs.declared.party.PartyOutcome.{PartyOutcome}
use Rattle.pvp_parties.specs.declared.party.PartyOutcome.TheVariants.{OfSite as SiteTold, OfNode as NodeTold, OfClient as ClientTold, Stray}
use Rattle.pvp_journal.specs.declared.summary.Summary.{Summary}
use Rattle.pvp_journal.specs.declared.summary.Summary.TheVariants.{Whole, Sent}
use Rattle.pvp_journal.specs.Spelling.{Entry, Envelope, stamped_envelope, command_request, event_text, site_number, node_number, client_number, why_number, frames_text, sent_text, outcome_text, summary_text, body_text}
use Rattle.pvp_journal.specs.Fits.{EventFits, FramesFit, SentFits, OutcomeFits, SummaryFits, BodyFits}
use Rattle.pvp_journal.specs.Reading.{Happened, stamped_at, is_of, sent_at, frames_from, all_sent_at, delivered_at, command_in, submitted_at, submits_at, pays_in_at, closes_at, event_at, site_fault_at, node_fault_at, client_fault_at, why_at, did_at, refused_at, fell_at, node_told_at, node_refused_at, client_told_at, client_refused_at, outcome_at, summed_at, summary_at, all_read, entry_at, body_at}
use Rattle.pvp_journal.proofs.Again.{stamped-again, all_sent-again, submitted-again, site-again, node-again, client-again, why-again}

-- ---- frames

stamped-takes : TakesBy spelling IsSpelled stamped_at
unfolding stamped_at
stamped-takes bytes s rest fits e =
    let m = bind_ok (frame_at bytes) (λ found. Ok (found.0, drop found.1 bytes)) (s, rest) e in
    let f = frame-takes bytes m.0.0 m.0.1 fits m.1 in
    let same = ok_is (m.0.0, drop m.0.1 bytes) (s, rest) m.2 in
    let t : Takes bytes (spelling m.0.0) (drop m.0.1 bytes) =
    record { parts = sym (take-append-drop m.0.1 bytes) ∙ ap (λ (x : List ℕ). x ++ drop m.0.1 bytes) f.text; rest_fits = IsBytes-drop m.0.1 bytes fits } in
    subst (λ (p : Stamped × List ℕ). Takes bytes (spelling p.0) p.1 × IsSpelled p.0) same (t, f.spelled)

stamped_format : IsFormat spelling IsSpelled stamped_at
stamped_format = record { takes = stamped-takes; again = stamped-again }

-- a stamp that is this actor's of this clock and place
stamp-is : (me clock place : ℕ) (s : Stamped) → is_of me clock place s.stamp ≡ true → s ≡ stamped_envelope me clock place s.envelope
stamp-is me clock place s h =
    let a = parted (s.stamp.actor == me) ((s.stamp.clock == clock) && (s.stamp.index == place)) h in
    let b = parted (s.stamp.clock == clock) (s.stamp.index == place) a.1 in
    let actor-is = eqb-true s.stamp.actor me a.0 in
    let clock-is = eqb-true s.stamp.clock clock b.0 in
    let place-is = eqb-true s.stamp.index place b.1 in
    ap (λ (x : ℕ). record { stamp = record { actor = x; clock = s.stamp.clock; index = s.stamp.index }; envelope = s.envelope }) actor-is
    ∙ ap (λ (x : ℕ). record { stamp = record { actor = me; clock = x; index = s.stamp.index }; envelope = s.envelope }) clock-is
    ∙ ap (λ (x : ℕ). record { stamp = record { actor = me; clock = clock; index = x }; envelope = s.envelope }) place-is

sent-takes : (me clock place : ℕ)
    → TakesBy (λ envelope. spelling (stamped_envelope me clock place envelope)) (λ envelope. IsSpelled (stamped_envelope me clock place envelope))
    (sent_at me clock place)
unfolding sent_at
sent-takes me clock place bytes envelope rest fits e =
    let m = bind_ok (stamped_at bytes) (λ found. if is_of me clock place found.0.stamp then Ok (found.0.envelope, found.1) else Err Field) (envelope, rest) e in
    let w = wanted_ok (is_of me clock place m.0.0.stamp) Field (m.0.0.envelope, m.0.1) (envelope, rest) m.2 in
    let t = stamped-takes bytes m.0.0 m.0.1 fits m.1 in
    let mine = subst (λ (s : Stamped). Takes bytes (spelling s) m.0.1 × IsSpelled s) (stamp-is me clock place m.0.0 w.0) t in
    subst (λ (p : Envelope × List ℕ). Takes bytes (spelling (stamped_envelope me clock place p.0)) p.1 × IsSpelled (stamped_envelope me clock place p.0)) w.1
    mine

frames-takes : (me clock count place : ℕ) (bytes : List ℕ) (sent : List Envelope) (rest : List ℕ) → IsBytes bytes
    → frames_from me clock count place bytes ≡ Ok (sent, rest)
    → Takes bytes (frames_text me clock place sent) rest × FramesFit me clock place sent × (length sent ≡ count)
unfolding frames_from
frames-takes me clock zero place bytes sent rest fits e =
    let same = ok_is ([], bytes) (sent, rest) e in
    subst (λ (p : List Envelope × List ℕ). Takes bytes (frames_text me clock place p.0) p.1 × FramesFit me clock place p.0 × (length p.0 ≡ 0)) same
    (record { parts = refl; rest_fits = fits }, tt, refl)
frames-takes me clock (suc count) place bytes sent rest fits e =
    let m =
    bind_ok (sent_at me clock place bytes) (λ first. frames_from me clock count (place + 1) first.1 >>= λ others. Ok (first.0 ∷ others.0, others.1))
    (sent, rest) e in
    let k = bind_ok (frames_from me clock count (place + 1) m.0.1) (λ others. Ok (m.0.0 ∷ others.0, others.1)) (sent, rest) m.2 in
    let a = sent-takes me clock place bytes m.0.0 m.0.1 fits m.1 in
    let b = frames-takes me clock count (place + 1) m.0.1 k.0.0 k.0.1 a.0.rest_fits k.1 in
    let same = ok_is (m.0.0 ∷ k.0.0, k.0.1) (sent, rest) k.2 in
    subst (λ (p : List Envelope × List ℕ). Takes bytes (frames_text me clock place p.0) p.1 × FramesFit me clock place p.0 × (length p.0 ≡ suc count)) same (
      Takes-then bytes (spelling (stamped_envelope me clock place m.0.0)) m.0.1 (frames_text me clock (place + 1) k.0.0) k.0.1 a.0 b.0,
      (a.1, b.1),
      ap suc b.2,
    )

all_sent-takes : (me clock : ℕ) → TakesBy (sent_text me clock) (SentFits me clock) (all_sent_at me clock)
unfolding all_sent_at
all_sent-takes me clock bytes sent rest fits e =
    let m = bind_ok (number_at 4 bytes) (λ count. frames_from me clock count.0 0 count.1) (sent, rest) e in
    let a = n4.takes bytes m.0.0 m.0.1 fits m.1 in
    let b = frames-takes me clock m.0.0 0 m.0.1 sent rest a.0.rest_fits m.2 in
    let frames = frames_text me clock 0 sent in (
      subst (λ (n : ℕ). Takes bytes (number 4 n ++ frames) rest) (sym b.2) (Takes-then bytes (number 4 m.0.0) m.0.1 frames rest a.0 b.0),
      (subst (Fits 4) (sym b.2) a.1, b.1),
    )

all_sent_format : (me clock : ℕ) → IsFormat (sent_text me clock) (SentFits me clock) (all_sent_at me clock)
all_sent_format me clock = record { takes = all_sent-takes me clock; again = all_sent-again me clock }

-- ---- tags

choose_tag : {A : Type 0} (b : Bool) (tag n : ℕ) (x y : Reads A) (z : A × List ℕ) (Goal : Type 0) → (tag == n) ≡ b → (if b then x else y) ≡ Ok z
    → (tag ≡ n → x ≡ Ok z → Goal) → (y ≡ Ok z → Goal) → Goal
choose_tag true tag n x y z Goal is e this other = this (eqb-true tag n is) e
choose_tag false tag n x y z Goal is e this other = other e

-- the tag is this one, or one of the others
pub by_tag : {A : Type 0} (tag n : ℕ) (x y : Reads A) (z : A × List ℕ) (Goal : Type 0) → (if tag == n then x else y) ≡ Ok z → (tag ≡ n → x ≡ Ok z → Goal)
    → (y ≡ Ok z → Goal) → Goal
by_tag tag n x y z Goal e this other = choose_tag (tag == n) tag n x y z Goal refl e this other

-- ---- events

abbrev event_of : ℕ → ℕ → Happened → List ℕ
event_of me clock h = event_text me clock h.1 h.0

abbrev EventFit : ℕ → ℕ → Happened → Type 0
EventFit me clock h = EventFits me clock h.1 h.0

-- what follows the tag
abbrev fields : ℕ → ℕ → Happened → List ℕ
fields me clock h = drop 1 (event_of me clock h)

-- an event of this tag that fits
record IsTagged (me clock tag : ℕ) (h : Happened) : Type 0 where
  fits : EventFit me clock h
  text : event_of me clock h ≡ tag ∷ fields me clock h

EventTakes : ℕ → ℕ → List ℕ → Happened → List ℕ → Type 0
EventTakes me clock bytes h rest = Takes bytes (event_of me clock h) rest × EventFit me clock h

finish : (me clock tag n : ℕ) (bytes : List ℕ) (h : Happened) (rest : List ℕ) → tag ≡ n → Takes bytes (fields me clock h) rest × IsTagged me clock n h
    → EventTakes me clock (tag ∷ bytes) h rest
unfolding EventTakes
finish me clock tag n bytes h rest is t = (
  subst (λ (x : List ℕ). Takes (tag ∷ bytes) x rest) (ap (λ (k : ℕ). k ∷ fields me clock h) is ∙ sym t.1.text)
      (tagged tag bytes (fields me clock h) rest t.0),
  t.1.fits,
)

to_site-takes : (me clock : ℕ) → TakesBy (fields me clock) (IsTagged me clock 1) (delivered_at (λ x. OfSite (Deliver x)))
to_site-takes me clock =
    takes1 stamped_format (λ s. (OfSite (Deliver s.envelope), Some s.stamp)) (fields me clock) (IsTagged me clock 1) (λ s. refl)
    (λ s h. record { fits = h; text = refl })

to_node-takes : (me clock : ℕ) → TakesBy (fields me clock) (IsTagged me clock 6) (delivered_at (λ x. OfNode (node_event.Takes x)))
to_node-takes me clock =
    takes1 stamped_format (λ s. (OfNode (node_event.Takes s.envelope), Some s.stamp)) (fields me clock) (IsTagged me clock 6) (λ s. refl)
    (λ s h. record { fits = h; text = refl })

to_client-takes : (me clock : ℕ) → TakesBy (fields me clock) (IsTagged me clock 10) (delivered_at (λ x. OfClient (client_event.Takes x)))
to_client-takes me clock =
    takes1 stamped_format (λ s. (OfClient (client_event.Takes s.envelope), Some s.stamp)) (fields me clock) (IsTagged me clock 10) (λ s. refl)
    (λ s h. record { fits = h; text = refl })

pays_in-takes : (me clock : ℕ) → TakesBy (fields me clock) (IsTagged me clock 8) pays_in_at
pays_in-takes me clock =
    takes2 n2 n8 (λ m a. (OfNode (node_event.PaysIn m a), None)) (fields me clock) (IsTagged me clock 8) (λ m a. refl)
    (λ m a hm ha. record { fits = (refl, hm, ha); text = refl })

closes-takes : (me clock : ℕ) → TakesBy (fields me clock) (IsTagged me clock 9) closes_at
closes-takes me clock =
    takes1 n2 (λ m. (OfNode (node_event.Closes m), None)) (fields me clock) (IsTagged me clock 9) (λ m. refl)
    (λ m hm. record { fits = (refl, hm); text = refl })

-- the one message that a command stands in
message-is : (to : ℕ) (msg : BankMsg) (cmd : Cmd) → command_in to msg ≡ Ok cmd → (to ≡ FIRST_SITE) × (msg ≡ Request (record { number = 0; cmd = cmd }))
message-is to (Request msg) cmd e =
    let w = wanted_ok ((msg.number == 0) && (to == FIRST_SITE)) Field msg.cmd cmd e in
    let p = parted (msg.number == 0) (to == FIRST_SITE) w.0 in
    let number-is = eqb-true msg.number 0 p.0 in (
      eqb-true to FIRST_SITE p.1,
      ap (λ (n : ℕ). Request (record { number = n; cmd = msg.cmd })) number-is
          ∙ ap (λ (x : Cmd). Request (record { number = 0; cmd = x })) w.1,
    )
message-is to (Prepare msg) cmd e = absurd cc
message-is to (PrepareOk msg) cmd e = absurd cc
message-is to (Commit msg) cmd e = absurd cc
message-is to (StartViewChange msg) cmd e = absurd cc
message-is to (DoViewChange msg) cmd e = absurd cc
message-is to (StartView msg) cmd e = absurd cc
message-is to (GetState msg) cmd e = absurd cc
message-is to (NewState msg) cmd e = absurd cc
message-is to (Recovery msg) cmd e = absurd cc
message-is to (RecoveryResponse msg) cmd e = absurd cc
message-is to (Reply msg) cmd e = absurd cc
message-is to (PayOrder msg) cmd e = absurd cc

-- what is wireable is from the actor of its stamp
from-is : (s : Stamped) → IsSpelled s → s.envelope.from ≡ s.stamp.actor
from-is s h = eqb-true s.envelope.from s.stamp.actor (parted (s.envelope.from == s.stamp.actor) _ h.wireable).0

asked-is : (me clock : ℕ) (envelope : Envelope) (cmd : Cmd) → IsSpelled (stamped_envelope me clock 0 envelope) → command_in envelope.to envelope.msg ≡ Ok cmd
    → stamped_envelope me clock 0 envelope ≡ command_request me clock cmd
asked-is me clock envelope cmd h e =
    let m = message-is envelope.to envelope.msg cmd e in
    ap (λ (x : ℕ). stamped_envelope me clock 0 (record { from = x; to = envelope.to; msg = envelope.msg })) (from-is (stamped_envelope me clock 0 envelope) h)
    ∙ ap (λ (x : ℕ). stamped_envelope me clock 0 (record { from = me; to = x; msg = envelope.msg })) m.0
    ∙ ap (λ (x : BankMsg). stamped_envelope me clock 0 (record { from = me; to = FIRST_SITE; msg = x })) m.1

submitted-takes : (me clock : ℕ)
    → TakesBy (λ cmd. spelling (command_request me clock cmd)) (λ cmd. IsSpelled (command_request me clock cmd)) (submitted_at me clock)
unfolding submitted_at
submitted-takes me clock bytes cmd rest fits e =
    let m = bind_ok (sent_at me clock 0 bytes) (λ envelope. command_in envelope.0.to envelope.0.msg >>= λ x. Ok (x, envelope.1)) (cmd, rest) e in
    let k = bind_ok (command_in m.0.0.to m.0.0.msg) (λ x. Ok (x, m.0.1)) (cmd, rest) m.2 in
    let a = sent-takes me clock 0 bytes m.0.0 m.0.1 fits m.1 in
    let t = subst (λ (s : Stamped). Takes bytes (spelling s) m.0.1 × IsSpelled s) (asked-is me clock m.0.0 k.0 a.1 k.1) a in
    subst (λ (p : Cmd × List ℕ). Takes bytes (spelling (command_request me clock p.0)) p.1 × IsSpelled (command_request me clock p.0))
    (ok_is (k.0, m.0.1) (cmd, rest) k.2) t

submitted_format : (me clock : ℕ)
    → IsFormat (λ cmd. spelling (command_request me clock cmd)) (λ cmd. IsSpelled (command_request me clock cmd)) (submitted_at me clock)
submitted_format me clock = record { takes = submitted-takes me clock; again = submitted-again me clock }

submits-takes : (me clock : ℕ) → TakesBy (fields me clock) (IsTagged me clock 12) (submits_at me clock)
submits-takes me clock =
    takes1 (submitted_format me clock) (λ cmd. (OfClient (client_event.Submits cmd), None)) (fields me clock) (IsTagged me clock 12) (λ cmd. refl)
    (λ cmd h. record { fits = (refl, h); text = refl })

-- an event that is its tag alone
plain-takes : (me clock n : ℕ) (event : PartyEvent) (bytes : List ℕ) (h : Happened) (rest : List ℕ) → IsBytes bytes → fields me clock (event, None) ≡ []
    → IsTagged me clock n (event, None)
    → done {A = Happened × List ℕ} ((event, None), bytes) ≡ done {A = Happened × List ℕ} (h, rest)
    → Takes bytes (fields me clock h) rest × IsTagged me clock n h
plain-takes me clock n event bytes h rest fits none is e =
    subst (λ (p : Happened × List ℕ). Takes bytes (fields me clock p.0) p.1 × IsTagged me clock n p.0) (ok_is ((event, None), bytes) (h, rest) e)
    (record { parts = ap (λ (x : List ℕ). x ++ bytes) (sym none); rest_fits = fits }, is)

event-takes : (me clock : ℕ) (bytes : List ℕ) (h : Happened) (rest : List ℕ) → IsBytes bytes → event_at me clock bytes ≡ Ok (h, rest)
    → EventTakes me clock bytes h rest
unfolding event_at
event-takes me clock [] h rest fits e = absurd cc
event-takes me clock (tag ∷ bytes) h rest fits e =
    let Goal = EventTakes me clock (tag ∷ bytes) h rest in
    let z : Happened × List ℕ = (h, rest) in
    let bs : IsBytes bytes = IsBytes-rest tag bytes fits in
    by_tag tag 1 _ _ z Goal e (λ is r. finish me clock tag 1 bytes h rest is (to_site-takes me clock bytes h rest bs r)) (λ e2.
    by_tag tag 2 _ _ z Goal e2 (λ is r. finish me clock tag 2 bytes h rest is
    (plain-takes me clock 2 (OfSite Timer) bytes h rest bs refl (record { fits = refl; text = refl }) r)) (λ e3.
    by_tag tag 3 _ _ z Goal e3 (λ is r. finish me clock tag 3 bytes h rest is
    (plain-takes me clock 3 (OfSite Beat) bytes h rest bs refl (record { fits = refl; text = refl }) r)) (λ e4.
    by_tag tag 4 _ _ z Goal e4 (λ is r. finish me clock tag 4 bytes h rest is
    (plain-takes me clock 4 (OfSite Crash) bytes h rest bs refl (record { fits = refl; text = refl }) r)) (λ e5.
    by_tag tag 5 _ _ z Goal e5 (λ is r. finish me clock tag 5 bytes h rest is
    (plain-takes me clock 5 (OfSite Restart) bytes h rest bs refl (record { fits = refl; text = refl }) r)) (λ e6.
    by_tag tag 6 _ _ z Goal e6 (λ is r. finish me clock tag 6 bytes h rest is (to_node-takes me clock bytes h rest bs r)) (λ e7.
    by_tag tag 7 _ _ z Goal e7 (λ is r. finish me clock tag 7 bytes h rest is
    (plain-takes me clock 7 (OfNode node_event.Beats) bytes h rest bs refl (record { fits = refl; text = refl }) r)) (λ e8.
    by_tag tag 8 _ _ z Goal e8 (λ is r. finish me clock tag 8 bytes h rest is (pays_in-takes me clock bytes h rest bs r)) (λ e9.
    by_tag tag 9 _ _ z Goal e9 (λ is r. finish me clock tag 9 bytes h rest is (closes-takes me clock bytes h rest bs r)) (λ e10.
    by_tag tag 10 _ _ z Goal e10 (λ is r. finish me clock tag 10 bytes h rest is (to_client-takes me clock bytes h rest bs r)) (λ e11.
    by_tag tag 11 _ _ z Goal e11 (λ is r. finish me clock tag 11 bytes h rest is
    (plain-takes me clock 11 (OfClient client_event.Beats) bytes h rest bs refl (record { fits = refl; text = refl }) r)) (λ e12.
    by_tag tag 12 _ _ z Goal e12 (λ is r. finish me clock tag 12 bytes h rest is (submits-takes me clock bytes h rest bs r)) (λ e13.
    absurd (never z e13)))))))))))))

-- ---- outcomes

-- a number of one byte that stands for something
Numbered : {A : Type 0} → (A → ℕ) → List ℕ → A → List ℕ → Type 0
Numbered number_of bytes x rest = Takes bytes (number_of x ∷ []) rest × Unit {0}

one_of : {A : Type 0} (number_of : A → ℕ) (n : ℕ) (bytes : List ℕ) (known x : A) (rest : List ℕ) → IsBytes bytes → n ≡ number_of known
    → done {A = A × List ℕ} (known, bytes) ≡ done {A = A × List ℕ} (x, rest) → Numbered number_of (n ∷ bytes) x rest
unfolding Numbered
one_of {A} number_of n bytes known x rest fits is e =
    subst (λ (p : A × List ℕ). Takes (n ∷ bytes) (number_of p.0 ∷ []) p.1 × Unit {0}) (ok_is (known, bytes) (x, rest) e)
    (record { parts = ap (λ (k : ℕ). k ∷ bytes) is; rest_fits = fits }, tt)

site_numbered : (bytes : List ℕ) (x : SiteFault) (rest : List ℕ) → IsBytes bytes → site_fault_at bytes ≡ Ok (x, rest) → Numbered site_number bytes x rest
unfolding site_fault_at
site_numbered [] x rest fits e = absurd cc
site_numbered (n ∷ bytes) x rest fits e =
    let Goal = Numbered site_number (n ∷ bytes) x rest in
    let z : SiteFault × List ℕ = (x, rest) in
    let bs : IsBytes bytes = IsBytes-rest n bytes fits in
    by_tag n 1 _ _ z Goal e (λ is r. one_of site_number n bytes site.NoMemory x rest bs is r) (λ e2.
    by_tag n 2 _ _ z Goal e2 (λ is r. one_of site_number n bytes site.CellFault x rest bs is r) (λ e3.
    by_tag n 3 _ _ z Goal e3 (λ is r. one_of site_number n bytes site.NotUp x rest bs is r) (λ e4.
    by_tag n 4 _ _ z Goal e4 (λ is r. one_of site_number n bytes site.AlreadyUp x rest bs is r) (λ e5.
    by_tag n 5 _ _ z Goal e5 (λ is r. one_of site_number n bytes site.ViewsSpent x rest bs is r) (λ e6.
    by_tag n 6 _ _ z Goal e6 (λ is r. one_of site_number n bytes site.BootsSpent x rest bs is r) (λ e7.
    by_tag n 7 _ _ z Goal e7 (λ is r. one_of site_number n bytes site.NotMine x rest bs is r) (λ e8.
    absurd (never z e8))))))))

node_numbered : (bytes : List ℕ) (x : NodeFault) (rest : List ℕ) → IsBytes bytes → node_fault_at bytes ≡ Ok (x, rest) → Numbered node_number bytes x rest
unfolding node_fault_at
node_numbered [] x rest fits e = absurd cc
node_numbered (n ∷ bytes) x rest fits e =
    let Goal = Numbered node_number (n ∷ bytes) x rest in
    let z : NodeFault × List ℕ = (x, rest) in
    let bs : IsBytes bytes = IsBytes-rest n bytes fits in
    by_tag n 1 _ _ z Goal e (λ is r. one_of node_number n bytes node.Short x rest bs is r) (λ e2.
    by_tag n 2 _ _ z Goal e2 (λ is r. one_of node_number n bytes node.UnknownMember x rest bs is r) (λ e3.
    by_tag n 3 _ _ z Goal e3 (λ is r. one_of node_number n bytes node.BadAmount x rest bs is r) (λ e4.
    by_tag n 4 _ _ z Goal e4 (λ is r. one_of node_number n bytes node.NoMemory x rest bs is r) (λ e5.
    by_tag n 5 _ _ z Goal e5 (λ is r. one_of node_number n bytes node.Spent x rest bs is r) (λ e6.
    by_tag n 6 _ _ z Goal e6 (λ is r. one_of node_number n bytes node.NotMine x rest bs is r) (λ e7.
    by_tag n 7 _ _ z Goal e7 (λ is r. one_of node_number n bytes node.Closed x rest bs is r) (λ e8.
    absurd (never z e8))))))))

client_numbered : (bytes : List ℕ) (x : ClientFault) (rest : List ℕ) → IsBytes bytes → client_fault_at bytes ≡ Ok (x, rest)
    → Numbered client_number bytes x rest
unfolding client_fault_at
client_numbered [] x rest fits e = absurd cc
client_numbered (n ∷ bytes) x rest fits e =
    let Goal = Numbered client_number (n ∷ bytes) x rest in
    let z : ClientFault × List ℕ = (x, rest) in
    let bs : IsBytes bytes = IsBytes-rest n bytes fits in
    by_tag n 1 _ _ z Goal e (λ is r. one_of client_number n bytes client.Outstanding x rest bs is r) (λ e2.
    by_tag n 2 _ _ z Goal e2 (λ is r. one_of client_number n bytes client.Spent x rest bs is r) (λ e3.
    by_tag n 3 _ _ z Goal e3 (λ is r. one_of client_number n bytes client.NoMemory x rest bs is r) (λ e4.
    absurd (never z e4))))

why_numbered : (bytes : List ℕ) (x : Option Why) (rest : List ℕ) → IsBytes bytes → why_at bytes ≡ Ok (x, rest) → Numbered why_number bytes x rest
unfolding why_at
why_numbered [] x rest fits e = absurd cc
why_numbered (n ∷ bytes) x rest fits e =
    let Goal = Numbered why_number (n ∷ bytes) x rest in
    let z : Option Why × List ℕ = (x, rest) in
    let bs : IsBytes bytes = IsBytes-rest n bytes fits in
    by_tag n 0 _ _ z Goal e (λ is r. one_of why_number n bytes None x rest bs is r) (λ e1.
    by_tag n 1 _ _ z Goal e1 (λ is r. one_of why_number n bytes (Some why.Status) x rest bs is r) (λ e2.
    by_tag n 2 _ _ z Goal e2 (λ is r. one_of why_number n bytes (Some why.View) x rest bs is r) (λ e3.
    by_tag n 3 _ _ z Goal e3 (λ is r. one_of why_number n bytes (Some why.NotPrimary) x rest bs is r) (λ e4.
    by_tag n 4 _ _ z Goal e4 (λ is r. one_of why_number n bytes (Some why.Known) x rest bs is r) (λ e5.
    by_tag n 5 _ _ z Goal e5 (λ is r. one_of why_number n bytes (Some why.Stale) x rest bs is r) (λ e6.
    by_tag n 6 _ _ z Goal e6 (λ is r. one_of why_number n bytes (Some why.Full) x rest bs is r) (λ e7.
    absurd (never z e7))))))))

site_format : IsFormat (λ x. site_number x ∷ []) (λ x. Unit {0}) site_fault_at
unfolding Numbered
site_format = record { takes = site_numbered; again = λ x rest h. site-again x rest }

node_format : IsFormat (λ x. node_number x ∷ []) (λ x. Unit {0}) node_fault_at
unfolding Numbered
node_format = record { takes = node_numbered; again = λ x rest h. node-again x rest }

client_format : IsFormat (λ x. client_number x ∷ []) (λ x. Unit {0}) client_fault_at
unfolding Numbered
client_format = record { takes = client_numbered; again = λ x rest h. client-again x rest }

why_format : IsFormat (λ x. why_number x ∷ []) (λ x. Unit {0}) why_at
unfolding Numbered
why_format = record { takes = why_numbered; again = λ x rest h. why-again x rest }

-- what follows the tag
abbrev told : ℕ → ℕ → PartyOutcome → List ℕ
told me clock outcome = drop 1 (outcome_text me clock outcome)

-- an outcome of this tag that fits
record IsTold (me clock tag : ℕ) (outcome : PartyOutcome) : Type 0 where
  fits : OutcomeFits me clock outcome
  text : outcome_text me clock outcome ≡ tag ∷ told me clock outcome

OutcomeTakes : ℕ → ℕ → List ℕ → PartyOutcome → List ℕ → Type 0
OutcomeTakes me clock bytes outcome rest = Takes bytes (outcome_text me clock outcome) rest × OutcomeFits me clock outcome

complete : (me clock tag n : ℕ) (bytes : List ℕ) (outcome : PartyOutcome) (rest : List ℕ) → tag ≡ n
    → Takes bytes (told me clock outcome) rest × IsTold me clock n outcome → OutcomeTakes me clock (tag ∷ bytes) outcome rest
unfolding OutcomeTakes
complete me clock tag n bytes outcome rest is t = (
  subst (λ (x : List ℕ). Takes (tag ∷ bytes) x rest) (ap (λ (k : ℕ). k ∷ told me clock outcome) is ∙ sym t.1.text)
      (tagged tag bytes (told me clock outcome) rest t.0),
  t.1.fits,
)

did-takes : (me clock : ℕ) → TakesBy (told me clock) (IsTold me clock 1) (did_at me clock)
did-takes me clock =
    takes2 (all_sent_format me clock) why_format (λ sent dropped. SiteTold (Did sent dropped)) (told me clock) (IsTold me clock 1) (λ a b. refl)
    (λ a b ha hb. record { fits = ha; text = refl })

refused-takes : (me clock : ℕ) → TakesBy (told me clock) (IsTold me clock 2) refused_at
refused-takes me clock =
    takes1 site_format (λ x. SiteTold (Refused x)) (told me clock) (IsTold me clock 2) (λ x. refl) (λ x h. record { fits = tt; text = refl })

fell-takes : (me clock : ℕ) → TakesBy (told me clock) (IsTold me clock 3) fell_at
fell-takes me clock =
    takes2 site_format n4 (λ x boots. SiteTold (Fell x (record { boots = boots }))) (told me clock) (IsTold me clock 3) (λ a b. refl)
    (λ a b ha hb. record { fits = hb; text = refl })

node_told-takes : (me clock : ℕ) → TakesBy (told me clock) (IsTold me clock 4) (node_told_at me clock)
node_told-takes me clock =
    takes1 (all_sent_format me clock) (λ sent. NodeTold (Ok sent)) (told me clock) (IsTold me clock 4) (λ x. refl) (λ x h. record { fits = h; text = refl })

node_refused-takes : (me clock : ℕ) → TakesBy (told me clock) (IsTold me clock 5) node_refused_at
node_refused-takes me clock =
    takes1 node_format (λ x. NodeTold (Err x)) (told me clock) (IsTold me clock 5) (λ x. refl) (λ x h. record { fits = tt; text = refl })

client_told-takes : (me clock : ℕ) → TakesBy (told me clock) (IsTold me clock 6) (client_told_at me clock)
client_told-takes me clock =
    takes1 (all_sent_format me clock) (λ sent. ClientTold (Ok sent)) (told me clock) (IsTold me clock 6) (λ x. refl) (λ x h. record { fits = h; text = refl })

client_refused-takes : (me clock : ℕ) → TakesBy (told me clock) (IsTold me clock 7) client_refused_at
client_refused-takes me clock =
    takes1 client_format (λ x. ClientTold (Err x)) (told me clock) (IsTold me clock 7) (λ x. refl) (λ x h. record { fits = tt; text = refl })

stray-takes : (me clock : ℕ) (bytes : List ℕ) (outcome : PartyOutcome) (rest : List ℕ) → IsBytes bytes
    → done {A = PartyOutcome × List ℕ} (Stray, bytes) ≡ done {A = PartyOutcome × List ℕ} (outcome, rest)
    → Takes bytes (told me clock outcome) rest × IsTold me clock 8 outcome
stray-takes me clock bytes outcome rest fits e =
    subst (λ (p : PartyOutcome × List ℕ). Takes bytes (told me clock p.0) p.1 × IsTold me clock 8 p.0) (ok_is (Stray, bytes) (outcome, rest) e)
    (record { parts = refl; rest_fits = fits }, record { fits = tt; text = refl })

outcome-takes : (me clock : ℕ) (bytes : List ℕ) (outcome : PartyOutcome) (rest : List ℕ) → IsBytes bytes → outcome_at me clock bytes ≡ Ok (outcome, rest)
    → OutcomeTakes me clock bytes outcome rest
unfolding outcome_at
outcome-takes me clock [] outcome rest fits e = absurd cc
outcome-takes me clock (tag ∷ bytes) outcome rest fits e =
    let Goal = OutcomeTakes me clock (tag ∷ bytes) outcome rest in
    let z : PartyOutcome × List ℕ = (outcome, rest) in
    let bs : IsBytes bytes = IsBytes-rest tag bytes fits in
    by_tag tag 1 _ _ z Goal e (λ is r. complete me clock tag 1 bytes outcome rest is (did-takes me clock bytes outcome rest bs r)) (λ e2.
    by_tag tag 2 _ _ z Goal e2 (λ is r. complete me clock tag 2 bytes outcome rest is (refused-takes me clock bytes outcome rest bs r)) (λ e3.
    by_tag tag 3 _ _ z Goal e3 (λ is r. complete me clock tag 3 bytes outcome rest is (fell-takes me clock bytes outcome rest bs r)) (λ e4.
    by_tag tag 4 _ _ z Goal e4 (λ is r. complete me clock tag 4 bytes outcome rest is (node_told-takes me clock bytes outcome rest bs r)) (λ e5.
    by_tag tag 5 _ _ z Goal e5 (λ is r. complete me clock tag 5 bytes outcome rest is (node_refused-takes me clock bytes outcome rest bs r)) (λ e6.
    by_tag tag 6 _ _ z Goal e6 (λ is r. complete me clock tag 6 bytes outcome rest is (client_told-takes me clock bytes outcome rest bs r)) (λ e7.
    by_tag tag 7 _ _ z Goal e7 (λ is r. complete me clock tag 7 bytes outcome rest is (client_refused-takes me clock bytes outcome rest bs r)) (λ e8.
    by_tag tag 8 _ _ z Goal e8 (λ is r. complete me clock tag 8 bytes outcome rest is (stray-takes me clock bytes outcome rest bs r)) (λ e9.
    absurd (never z e9)))))))))

-- ---- summaries

SummaryTakes : ℕ → ℕ → List ℕ → Summary → List ℕ → Type 0
SummaryTakes me clock bytes summary rest = Takes bytes (summary_text me clock summary) rest × SummaryFits me clock summary

summed-takes : (me clock tag : ℕ) (bytes : List ℕ) (summary : Summary) (rest : List ℕ) → IsBytes bytes → tag ≡ 9 → summed_at bytes ≡ Ok (summary, rest)
    → SummaryTakes me clock (tag ∷ bytes) summary rest
unfolding SummaryTakes Numbered
summed-takes me clock tag [] summary rest fits is e = absurd cc
summed-takes me clock tag (count ∷ bytes) summary rest fits is e =
    let m = bind_ok (why_at bytes) (λ dropped. Ok (Sent count dropped.0, dropped.1)) (summary, rest) e in
    let why = why_numbered bytes m.0.0 m.0.1 (IsBytes-rest count bytes fits) m.1 in
    let text = tagged tag (count ∷ bytes) (count ∷ why_number m.0.0 ∷ []) m.0.1 (tagged count bytes (why_number m.0.0 ∷ []) m.0.1 why.0) in
    subst (λ (p : Summary × List ℕ). SummaryTakes me clock (tag ∷ count ∷ bytes) p.0 p.1) (ok_is (Sent count m.0.0, m.0.1) (summary, rest) m.2) (
      subst (λ (n : ℕ). Takes (tag ∷ count ∷ bytes) (n ∷ count ∷ why_number m.0.0 ∷ []) m.0.1) is text,
      All-head (λ (b : ℕ). b < 256) count bytes fits,
    )

summary-takes : (me clock : ℕ) (bytes : List ℕ) (summary : Summary) (rest : List ℕ) → IsBytes bytes → summary_at me clock bytes ≡ Ok (summary, rest)
    → SummaryTakes me clock bytes summary rest
unfolding summary_at SummaryTakes OutcomeTakes
summary-takes me clock [] summary rest fits e = absurd cc
summary-takes me clock (tag ∷ bytes) summary rest fits e =
    let all = tag ∷ bytes in
    by_tag tag 9 _ _ (summary, rest) (SummaryTakes me clock all summary rest) e
    (λ is r. summed-takes me clock tag bytes summary rest (IsBytes-rest tag bytes fits) is r)
    (λ other. let m = bind_ok (outcome_at me clock all) (λ found. Ok (Whole found.0, found.1)) (summary, rest) other in
    let t = outcome-takes me clock all m.0.0 m.0.1 fits m.1 in
    subst (λ (p : Summary × List ℕ). SummaryTakes me clock all p.0 p.1) (ok_is (Whole m.0.0, m.0.1) (summary, rest) m.2) t)

-- ---- what a record says

entry-takes : (me : ℕ) (bytes : List ℕ) (r : Entry) (rest : List ℕ) → IsBytes bytes → entry_at me bytes ≡ Ok (r, rest)
    → Takes bytes (body_text me r) rest × BodyFits me r
unfolding entry_at EventTakes SummaryTakes
entry-takes me bytes r rest fits e =
    let m =
    bind_ok (number_at 8 bytes) (λ clock. event_at me clock.0 clock.1 >>= λ event. summary_at me clock.0 event.1 >>= λ summary.
    Ok (record { event = event.0.0; stamp = event.0.1; clock = clock.0; outcome = summary.0 }, summary.1)) (r, rest) e in
    let clock = m.0.0 in
    let k =
    bind_ok (event_at me clock m.0.1) (λ event. summary_at me clock event.1 >>= λ summary.
    Ok (record { event = event.0.0; stamp = event.0.1; clock = clock; outcome = summary.0 }, summary.1)) (r, rest) m.2 in
    let l =
    bind_ok (summary_at me clock k.0.1) (λ summary. Ok (record { event = k.0.0.0; stamp = k.0.0.1; clock = clock; outcome = summary.0 }, summary.1))
    (r, rest) k.2 in
    let a = n8.takes bytes clock m.0.1 fits m.1 in
    let b = event-takes me clock m.0.1 k.0.0 k.0.1 a.0.rest_fits k.1 in
    let c = summary-takes me clock k.0.1 l.0.0 l.0.1 b.0.rest_fits l.1 in
    let read : Entry = record { event = k.0.0.0; stamp = k.0.0.1; clock = clock; outcome = l.0.0 } in
    let event = event_text me clock k.0.0.1 k.0.0.0 in
    let summary = summary_text me clock l.0.0 in
    let t : Takes bytes (body_text me read) l.0.1 =
    Takes-then bytes (number 8 clock ++ event) k.0.1 summary l.0.1 (Takes-then bytes (number 8 clock) m.0.1 event k.0.1 a.0 b.0) c.0 in
    subst (λ (p : Entry × List ℕ). Takes bytes (body_text me p.0) p.1 × BodyFits me p.0) (ok_is (read, l.0.1) (r, rest) l.2) (t, (a.1, b.1, c.1))

pub body-takes : (me : ℕ) (bytes : List ℕ) (r : Entry) → IsBytes bytes → body_at me bytes ≡ Ok r → (bytes ≡ body_text me r) × BodyFits me r
unfolding body_at
body-takes me bytes r fits e =
    let m = bind_ok (entry_at me bytes) all_read r e in
    let w = wanted_ok (length m.0.1 == 0) Length m.0.0 r m.2 in
    let t = entry-takes me bytes m.0.0 m.0.1 fits m.1 in
    let none : m.0.1 ≡ [] = nil_from_length m.0.1 (eqb-true (length m.0.1) 0 w.0) in
    let text : bytes ≡ body_text me m.0.0 = t.0.parts ∙ ap (λ (x : List ℕ). body_text me m.0.0 ++ x) none ∙ append-nil (body_text me m.0.0) in
    subst (λ (x : Entry). (bytes ≡ body_text me x) × BodyFits me x) w.1 (text, t.1)
