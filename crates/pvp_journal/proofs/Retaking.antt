-- How an event came out of which a journal says how much was sent: only one outcome that took its step can come.
use Rattle.std.proofs.Common.{◌≡◌, inl, inr, ℕ, true, false, List, [], ◌∷◌, Option, Some, None, Result, Ok, Err, refl, sym, ap, subst, ◌∙◌}
use Rattle.vr_types.specs.declared.event.EventOf.{EventOf}
use Rattle.vr_types.specs.declared.event.SiteFault.{SiteFault}
use Rattle.vr_types.specs.declared.event.Why.{Why}
use Rattle.vr_types.specs.declared.machine.Machine.{Ghosts}
use Rattle.vr_types.specs.declared.message.EnvelopeOf.{EnvelopeOf}
use Rattle.vr_types.specs.Handling.{refused_or, on_event, is_refused}
use Rattle.vr_log.specs.Outcomes.{ended}
use Rattle.pvp_types.specs.declared.command.Cmd.{Cmd}
use Rattle.pvp_types.specs.declared.command.Reply as replies
use Rattle.pvp_types.specs.declared.command.PayOrder as orders
use Rattle.pvp_book.specs.Ledger.{Ledger}
use Rattle.rtgs_node.specs.declared.event.NodeEvent.{NodeEvent}
use Rattle.rtgs_node.specs.declared.fault.NodeFault.{NodeFault}
use Rattle.rtgs_node.specs.Shown.{ShownNode}
use Rattle.headline.specs.declared.step.ClientEvent.{ClientEvent}
use Rattle.headline.specs.declared.step.ClientFault.{ClientFault}
use Rattle.headline.specs.Machine.{book}
use Rattle.pvp_world.specs.Client.{ShownClient}
use Rattle.pvp_rooms.specs.declared.site.CameOf.{CameOf}
use Rattle.pvp_rooms.specs.declared.site.CameOf.TheVariants.{Did, Refused, Fell}
use Rattle.pvp_rooms.specs.Sites as sites
use Rattle.pvp_rooms.specs.Nodes as nodes
use Rattle.pvp_rooms.specs.Clients as clients
use Rattle.pvp_rooms.proofs.SiteSteps.{ended_allowed}
use Rattle.pvp_parties.specs.declared.party.PartyEvent.{PartyEvent}
use Rattle.pvp_parties.specs.declared.party.PartyEvent.TheVariants as of
use Rattle.pvp_parties.specs.declared.party.PartyOutcome.{PartyOutcome}
use Rattle.pvp_parties.specs.declared.party.PartyOutcome.TheVariants.{OfSite, OfNode, OfClient, Stray}
use Rattle.pvp_rooms.specs.Histories.{AreSteps}
use Rattle.pvp_parties.specs.Parties.{PartyState, AtSite, AtNode, AtClient, Comes, after}
use Rattle.pvp_journal.specs.declared.summary.Summary.{Summary}
use Rattle.pvp_journal.specs.declared.summary.Summary.TheVariants.{Whole, Sent}
use Rattle.pvp_journal.specs.Spelling.{Entry, Envelope}
use Rattle.pvp_journal.specs.Summaries.{Taken, summary_of, SumsUp, AreEntriesOf, IsWant}

-- how an event ended says why it was dropped
ended_one : (a b : Option Why) → ended a ≡ ended b → a ≡ b
ended_one None None e = refl
ended_one None (Some b) e = cc
ended_one (Some a) None e = cc
ended_one (Some a) (Some b) e = cc

-- an event that is refused is neither handled nor dropped
no_step : {H C R O S : Type 0} (m : Ghosts H C R O S) (x : sites.SiteState H C) (event : EventOf C R O) (why : SiteFault) (sent : List (EnvelopeOf C R O))
    (dropped : Option Why) → sites.Comes m x event (Refused why) → sites.Comes m x event (Did sent dropped) → ⊥
no_step {R = R} {O = O} m x event why sent dropped refused taken =
    let t : is_refused (sites.step_in {R = R} {O = O} x event).ending ≡ true =
    ap (λ r. is_refused (refused_or x.site r (on_event {R = R} {O = O} x.choose x.f x.me x.site event)).ending) refused in
    let clash : true ≡ false = sym t ∙ ap is_refused taken.ending ∙ ended_allowed dropped in cc

abbrev Came : Type 0
Came = CameOf Cmd replies.Reply orders.PayOrder

no_whole : (told : PartyOutcome) (count : ℕ) (dropped : Option Why) → Whole told ≡ Sent count dropped → ⊥
no_whole told count dropped e = absurd cc

site_one : (x : sites.SiteState Ledger Cmd) (event : EventOf Cmd replies.Reply orders.PayOrder) (came other : Came) (count : ℕ) (dropped : Option Why)
    → sites.Comes book x event came → (IsWant (OfSite came) → ⊥) → sites.Comes book x event other → summary_of (OfSite other) ≡ Sent count dropped
    → came ≡ other
site_one x event (Did sent why) (Did more because) count dropped comes want others is =
    let same : sent ≡ more = comes.sends ∙ sym others.sends in
    let reason : why ≡ because = ended_one why because (sym comes.ending ∙ others.ending) in
    ap (λ (s : List Envelope). Did s why) same ∙ ap (λ (w : Option Why). Did more w) reason
site_one x event (Did sent why) (Refused fault) count dropped comes want others is = absurd (no_whole (OfSite (Refused fault)) count dropped is)
site_one x event (Did sent why) (Fell fault cell) count dropped comes want others is = absurd (no_whole (OfSite (Fell fault cell)) count dropped is)
site_one x event (Refused why) (Did more because) count dropped comes want others is = absurd (no_step book x event why more because comes others)
site_one x event (Refused why) (Refused fault) count dropped comes want others is = absurd (no_whole (OfSite (Refused fault)) count dropped is)
site_one x event (Refused why) (Fell fault cell) count dropped comes want others is = absurd (no_whole (OfSite (Fell fault cell)) count dropped is)
site_one x event (Fell why cell) other count dropped comes want others is = absurd (want tt)

node_one : (x : ShownNode) (event : NodeEvent) (told other : Result (List Envelope) NodeFault) (count : ℕ) (dropped : Option Why) → nodes.Comes x event told
    → (IsWant (OfNode told) → ⊥) → nodes.Comes x event other → summary_of (OfNode other) ≡ Sent count dropped → told ≡ other
node_one x event (Ok sent) (Ok more) count dropped comes want others is =
    let same : sent ≡ more = comes.sends ∙ sym others.sends in
    ap (λ (s : List Envelope). Ok s) same
node_one x event (Err fault) (Ok more) count dropped comes want others is = elim comes [
  | inl e ↦ absurd (want e)
  | inr e ↦ (let clash : None ≡ Some fault = sym others.allowed ∙ e in absurd cc)
]
node_one x event told (Err fault) count dropped comes want others is = absurd (no_whole (OfNode (Err fault)) count dropped is)

client_one : (x : ShownClient) (event : ClientEvent) (told other : Result (List Envelope) ClientFault) (count : ℕ) (dropped : Option Why)
    → clients.Comes x event told → (IsWant (OfClient told) → ⊥) → clients.Comes x event other → summary_of (OfClient other) ≡ Sent count dropped → told ≡ other
client_one x event (Ok sent) (Ok more) count dropped comes want others is =
    let same : sent ≡ more = comes.sends ∙ sym others.sends in
    ap (λ (s : List Envelope). Ok s) same
client_one x event (Err fault) (Ok more) count dropped comes want others is = elim comes [
  | inl e ↦ absurd (want e)
  | inr e ↦ (let clash : None ≡ Some fault = sym others.allowed ∙ e in absurd cc)
]
client_one x event told (Err fault) count dropped comes want others is = absurd (no_whole (OfClient (Err fault)) count dropped is)

-- ONE OUTCOME ALONE CAN COME of an event that took its step, but for want of memory
pub one_outcome : (x : PartyState) (event : PartyEvent) (outcome other : PartyOutcome) (count : ℕ) (dropped : Option Why) → Comes x event outcome
    → (IsWant outcome → ⊥) → Comes x event other → summary_of other ≡ Sent count dropped → outcome ≡ other
one_outcome (AtSite x) (of.OfSite event) (OfSite told) (OfSite more) count dropped comes want others is =
    ap (λ t. OfSite t) (site_one x event told more count dropped comes want others is)
one_outcome (AtSite x) (of.OfSite event) (OfSite told) (OfNode more) count dropped comes want others is = absurd others
one_outcome (AtSite x) (of.OfSite event) (OfSite told) (OfClient more) count dropped comes want others is = absurd others
one_outcome (AtSite x) (of.OfSite event) (OfSite told) Stray count dropped comes want others is = absurd others
one_outcome (AtSite x) (of.OfSite event) (OfNode told) other count dropped comes want others is = absurd comes
one_outcome (AtSite x) (of.OfSite event) (OfClient told) other count dropped comes want others is = absurd comes
one_outcome (AtSite x) (of.OfSite event) Stray other count dropped comes want others is = absurd comes
one_outcome (AtSite x) (of.OfNode event) outcome (OfSite more) count dropped comes want others is = absurd others
one_outcome (AtSite x) (of.OfNode event) outcome (OfNode more) count dropped comes want others is = absurd others
one_outcome (AtSite x) (of.OfNode event) outcome (OfClient more) count dropped comes want others is = absurd others
one_outcome (AtSite x) (of.OfNode event) outcome Stray count dropped comes want others is = absurd (no_whole Stray count dropped is)
one_outcome (AtSite x) (of.OfClient event) outcome (OfSite more) count dropped comes want others is = absurd others
one_outcome (AtSite x) (of.OfClient event) outcome (OfNode more) count dropped comes want others is = absurd others
one_outcome (AtSite x) (of.OfClient event) outcome (OfClient more) count dropped comes want others is = absurd others
one_outcome (AtSite x) (of.OfClient event) outcome Stray count dropped comes want others is = absurd (no_whole Stray count dropped is)
one_outcome (AtNode x) (of.OfSite event) outcome (OfSite more) count dropped comes want others is = absurd others
one_outcome (AtNode x) (of.OfSite event) outcome (OfNode more) count dropped comes want others is = absurd others
one_outcome (AtNode x) (of.OfSite event) outcome (OfClient more) count dropped comes want others is = absurd others
one_outcome (AtNode x) (of.OfSite event) outcome Stray count dropped comes want others is = absurd (no_whole Stray count dropped is)
one_outcome (AtNode x) (of.OfNode event) (OfSite told) other count dropped comes want others is = absurd comes
one_outcome (AtNode x) (of.OfNode event) (OfNode told) (OfSite more) count dropped comes want others is = absurd others
one_outcome (AtNode x) (of.OfNode event) (OfNode told) (OfNode more) count dropped comes want others is =
    ap (λ t. OfNode t) (node_one x event told more count dropped comes want others is)
one_outcome (AtNode x) (of.OfNode event) (OfNode told) (OfClient more) count dropped comes want others is = absurd others
one_outcome (AtNode x) (of.OfNode event) (OfNode told) Stray count dropped comes want others is = absurd others
one_outcome (AtNode x) (of.OfNode event) (OfClient told) other count dropped comes want others is = absurd comes
one_outcome (AtNode x) (of.OfNode event) Stray other count dropped comes want others is = absurd comes
one_outcome (AtNode x) (of.OfClient event) outcome (OfSite more) count dropped comes want others is = absurd others
one_outcome (AtNode x) (of.OfClient event) outcome (OfNode more) count dropped comes want others is = absurd others
one_outcome (AtNode x) (of.OfClient event) outcome (OfClient more) count dropped comes want others is = absurd others
one_outcome (AtNode x) (of.OfClient event) outcome Stray count dropped comes want others is = absurd (no_whole Stray count dropped is)
one_outcome (AtClient x) (of.OfSite event) outcome (OfSite more) count dropped comes want others is = absurd others
one_outcome (AtClient x) (of.OfSite event) outcome (OfNode more) count dropped comes want others is = absurd others
one_outcome (AtClient x) (of.OfSite event) outcome (OfClient more) count dropped comes want others is = absurd others
one_outcome (AtClient x) (of.OfSite event) outcome Stray count dropped comes want others is = absurd (no_whole Stray count dropped is)
one_outcome (AtClient x) (of.OfNode event) outcome (OfSite more) count dropped comes want others is = absurd others
one_outcome (AtClient x) (of.OfNode event) outcome (OfNode more) count dropped comes want others is = absurd others
one_outcome (AtClient x) (of.OfNode event) outcome (OfClient more) count dropped comes want others is = absurd others
one_outcome (AtClient x) (of.OfNode event) outcome Stray count dropped comes want others is = absurd (no_whole Stray count dropped is)
one_outcome (AtClient x) (of.OfClient event) (OfSite told) other count dropped comes want others is = absurd comes
one_outcome (AtClient x) (of.OfClient event) (OfNode told) other count dropped comes want others is = absurd comes
one_outcome (AtClient x) (of.OfClient event) (OfClient told) (OfSite more) count dropped comes want others is = absurd others
one_outcome (AtClient x) (of.OfClient event) (OfClient told) (OfNode more) count dropped comes want others is = absurd others
one_outcome (AtClient x) (of.OfClient event) (OfClient told) (OfClient more) count dropped comes want others is =
    ap (λ t. OfClient t) (client_one x event told more count dropped comes want others is)
one_outcome (AtClient x) (of.OfClient event) (OfClient told) Stray count dropped comes want others is = absurd others
one_outcome (AtClient x) (of.OfClient event) Stray other count dropped comes want others is = absurd comes

-- what is summed up so is no want
pub no_want : (outcome : PartyOutcome) (count : ℕ) (dropped : Option Why) → summary_of outcome ≡ Sent count dropped → IsWant outcome → ⊥
no_want (OfSite (Did sent why)) count dropped is want = want
no_want (OfSite (Refused fault)) count dropped is want = want
no_want (OfSite (Fell fault cell)) count dropped is want = no_whole (OfSite (Fell fault cell)) count dropped is
no_want (OfNode (Ok sent)) count dropped is want = want
no_want (OfNode (Err fault)) count dropped is want = no_whole (OfNode (Err fault)) count dropped is
no_want (OfClient (Ok sent)) count dropped is want = want
no_want (OfClient (Err fault)) count dropped is want = no_whole (OfClient (Err fault)) count dropped is
no_want Stray count dropped is want = want

-- the same of a summary of any kind
pub one_summed : (x : PartyState) (event : PartyEvent) (summary : Summary) (outcome other : PartyOutcome) → Comes x event outcome → SumsUp summary outcome
    → Comes x event other → SumsUp summary other → outcome ≡ other
one_summed x event (Whole told) outcome other comes is others also = is ∙ sym also
one_summed x event (Sent count dropped) outcome other comes is others also =
    one_outcome x event outcome other count dropped comes (no_want outcome count dropped is) others also

-- two events are one
pub one_record : (r q : Taken) → r.event ≡ q.event → r.stamp ≡ q.stamp → r.clock ≡ q.clock → r.outcome ≡ q.outcome → r ≡ q
one_record r q event stamp clock outcome =
    ap (λ e. let t : Taken = record { event = e; stamp = r.stamp; clock = r.clock; outcome = r.outcome } in t) event
    ∙ ap (λ s. let t : Taken = record { event = q.event; stamp = s; clock = r.clock; outcome = r.outcome } in t) stamp
    ∙ ap (λ c. let t : Taken = record { event = q.event; stamp = q.stamp; clock = c; outcome = r.outcome } in t) clock
    ∙ ap (λ o. let t : Taken = record { event = q.event; stamp = q.stamp; clock = q.clock; outcome = o } in t) outcome

-- two histories of which these are the entries are one
pub one_history : (entries : List Entry) (history other : List Taken) (x : PartyState) → AreEntriesOf entries history → AreEntriesOf entries other
    → AreSteps Comes after history x → AreSteps Comes after other x → history ≡ other
one_history [] [] [] x of also steps others = refl
one_history [] (r ∷ more) other x of also steps others = absurd of
one_history [] [] (q ∷ rest) x of also steps others = absurd also
one_history (entry ∷ entries) [] other x of also steps others = absurd of
one_history (entry ∷ entries) (r ∷ more) [] x of also steps others = absurd also
one_history (entry ∷ entries) (r ∷ more) (q ∷ rest) x of also steps others =
    let event : q.event ≡ r.event = also.0.event ∙ sym of.0.event in
    let came : Comes x r.event q.outcome = subst (λ e. Comes x e q.outcome) event others.0 in
    let outcome : r.outcome ≡ q.outcome = one_summed x r.event entry.outcome r.outcome q.outcome steps.0 of.0.outcome came also.0.outcome in
    let same : r ≡ q =
    one_record r q (sym event) (of.0.stamp ∙ sym also.0.stamp) (of.0.clock ∙ sym also.0.clock) outcome in
    let behind : AreSteps Comes after rest (after x r.event r.outcome) =
    subst (λ (t : Taken). AreSteps Comes after rest (after x t.event t.outcome)) (sym same) others.1 in
    let later = one_history entries more rest (after x r.event r.outcome) of.1 also.1 steps.1 behind in
    ap (λ (t : Taken). t ∷ more) same ∙ ap (λ (list : List Taken). q ∷ list) later
