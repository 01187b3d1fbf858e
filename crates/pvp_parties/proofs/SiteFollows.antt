-- A replica takes an event again that came out so.
use Rattle.std.proofs.Common.{◌≡◌, ◌⊎◌, ℕ, inl, inr, List, [], Bool, true, false, Option, Some, None, refl, sym, ap, ◌∙◌, subst}
use Rattle.std.specs.Prelude.{Ok}
use Rattle.vr_types.specs.declared.cell.Boot.{Boot}
use Rattle.vr_types.specs.declared.cell.BootCell.{Ghosts as Cell}
use Rattle.vr_types.specs.declared.event.EventOf.{EventOf}
use Rattle.vr_types.specs.declared.event.EventOf.TheVariants.{Restart}
use Rattle.vr_types.specs.declared.event.OutcomeOf.{OutcomeOf}
use Rattle.vr_types.specs.declared.event.SiteFault.{SiteFault}
use Rattle.vr_types.specs.declared.event.SiteFault.TheVariants.{NoMemory, CellFault}
use Rattle.vr_types.specs.declared.event.Status.TheVariants as status
use Rattle.vr_types.specs.declared.event.Why.{Why}
use Rattle.vr_types.specs.declared.machine.Machine.{Ghosts}
use Rattle.vr_types.specs.declared.message.EnvelopeOf.{EnvelopeOf}
use Rattle.vr_types.specs.Handling.{refusal, refused_or, on_event, is_refused}
use Rattle.vr_types.specs.Recovery.{on_restart}
use Rattle.vr_types.specs.Site.{Site, over}
use Rattle.vr_log.specs.Outcomes.{ended}
use Rattle.vr_log.specs.Running.{SumUp}
use Rattle.vr_site.specs.Life.{lost}
use Rattle.vr_site.specs.Replica.{ShownSite, KeepsPlace, site_shown, Handles}
use Rattle.vr_site.proofs.Shows.{none_summed}
use Rattle.pvp_rooms.specs.declared.site.CameOf.TheVariants.{Did, Refused, Fell}
use Rattle.pvp_rooms.specs.Sites.{SiteState, step_in, Comes, after, Shows}
use Rattle.pvp_rooms.specs.Histories.{Takes}
use Rattle.pvp_rooms.specs.Runs.{Follows}
use Rattle.pvp_rooms.proofs.SiteSteps.{refusal_of, still, ended_allowed, did, fell_over}

some : {X : Type 0} (a b : X) → Some a ≡ Some b → a ≡ b
some a b e = cc

-- how an event ended says why it was dropped
ended_one : (a b : Option Why) → ended a ≡ ended b → a ≡ b
ended_one None None e = refl
ended_one None (Some b) e = cc
ended_one (Some a) None e = cc
ended_one (Some a) (Some b) e = cc

-- a restart that is not refused is handled
restarts : {C : Type 0} (R O : Type 0) (f me : ℕ) (y : Site C) → is_refused (on_restart {R = R} {O = O} f me y).ending ≡ false
unfolding on_restart
restarts R O f me y = refl

module _ {H C R O S B : Type 0} (m : Ghosts H C R O S) (c : Cell B) (old : ShownSite C S B) (x : SiteState H C) (event : EventOf C R O)
    (shows : Shows m c old x) where
  -- the cell that is shown is the site's
  held_is : x.site.cell ≡ c.held old.cell
  held_is = ap (λ y. y.cell) shows.site

  -- an event that is refused is neither handled nor dropped
  not_taken : (why : SiteFault) → refusal old.f old.me (site_shown c.held old []) event ≡ Some why → is_refused (step_in {R = R} {O = O} x event).ending ≡ false
      → ⊥
  not_taken why h e =
      let r : refusal x.f x.me x.site event ≡ Some why = refusal_of m c old x event shows ∙ h in
      let t : is_refused (step_in {R = R} {O = O} x event).ending ≡ true =
      ap (λ r. is_refused (refused_or x.site r (on_event {R = R} {O = O} x.choose x.f x.me x.site event)).ending) r in
      let clash : true ≡ false = sym t ∙ e in cc

  pub no_did : (why : SiteFault) → refusal old.f old.me (site_shown c.held old []) event ≡ Some why → (sent : List (EnvelopeOf C R O)) (dropped : Option Why)
      → ¬ Comes m x event (Did sent dropped)
  no_did why h sent dropped = λ comes. not_taken why h (ap is_refused comes.ending ∙ ended_allowed dropped)

  pub no_fell : (why : SiteFault) → refusal old.f old.me (site_shown c.held old []) event ≡ Some why → (fault : SiteFault) (cell : Boot)
      → ¬ Comes m x event (Fell fault cell)
  no_fell why h fault cell = λ comes. not_taken why h comes.0.allowed

  -- a site refuses as it shows
  pub refuses_so : (why : SiteFault) → refusal old.f old.me (site_shown c.held old []) event ≡ Some why → Comes m x event (Refused why)
  refuses_so why h = refusal_of m c old x event shows ∙ h

  pub refuses_only : (why : SiteFault) → Comes m x event (Refused why) → refusal old.f old.me (site_shown c.held old []) event ≡ Some why
  refuses_only why comes = sym (refusal_of m c old x event shows) ∙ comes

  -- a site falls in place of a restart that saved nothing
  pub fell_unsaved : (now : ShownSite C S B) (why : SiteFault) (cell : Boot) → event ≡ Restart → refusal old.f old.me (site_shown c.held old []) event ≡ None
      → cell ≡ c.held old.cell → now ≡ record old { volatile = lost } → (why ≡ NoMemory) ⊎ (why ≡ CellFault)
      → Comes m x event (Fell why cell) × Shows m c now (after x event (Fell why cell))
  fell_unsaved now why cell restart free held fallen of =
      let r : refusal x.f x.me x.site event ≡ None = refusal_of m c old x event shows ∙ free in
      let t : is_refused (step_in {R = R} {O = O} x event).ending ≡ is_refused (on_event {R = R} {O = O} x.choose x.f x.me x.site event).ending =
      ap (λ r. is_refused (refused_or x.site r (on_event {R = R} {O = O} x.choose x.f x.me x.site event)).ending) r in
      let s : is_refused (on_event {R = R} {O = O} x.choose x.f x.me x.site event).ending ≡ false =
      ap (λ e. is_refused (on_event {R = R} {O = O} x.choose x.f x.me x.site e).ending) restart ∙ restarts R O x.f x.me x.site in
      let last : cell ≡ c.held now.cell = held ∙ sym (ap (λ v. c.held v.cell) fallen) in
      let left : KeepsPlace old now = record { f = ap (λ v. v.f) fallen; me = ap (λ v. v.me) fallen; setup = ap (λ v. v.setup) fallen } in (
        (record { allowed = t ∙ s; down = inl (ap (λ b. over b status.Down) (held ∙ sym held_is)) }, of),
        record {
          is =
              still m c old now (record x { site = over cell status.Down }) left
              (record { f = shows.is.f; me = shows.is.me; start = shows.is.start; right = shows.is.right });
          acks = subst (λ (v : ShownSite C S B). SumUp v.volatile.acked []) (sym fallen) none_summed;
          site = ap (λ b. over b status.Down) last ∙ sym (ap (λ v. site_shown c.held (record now { volatile = v }) []) (ap (λ v. v.volatile) fallen));
        },
      )

  module _ (new : ShownSite C S B) (place : KeepsPlace old new) (out : OutcomeOf C R O) (handles : Handles m c old new event (Ok out)) where
    -- an event comes out as it was handled, and so alone
    pub did_so : (sent : List (EnvelopeOf C R O)) (dropped : Option Why) → out.dropped ≡ dropped → out.sent.items ≡ sent
        → Comes m x event (Did sent dropped) × Shows m c new (after x event (Did sent dropped))
    did_so sent dropped d s =
        subst (λ why. Comes m x event (Did sent why) × Shows m c new (after x event (Did sent why))) d
        (subst (λ list. Comes m x event (Did list out.dropped) × Shows m c new (after x event (Did list out.dropped))) s
        (did m c old new x event shows place out handles))

    pub did_only : (sent : List (EnvelopeOf C R O)) (dropped : Option Why) → Comes m x event (Did sent dropped)
        → (out.dropped ≡ dropped) × (out.sent.items ≡ sent)
    did_only sent dropped comes =
        let d = did m c old new x event shows place out handles in
        (ended_one out.dropped dropped (sym d.0.ending ∙ comes.ending), d.0.sends ∙ sym comes.sends)

    -- a site falls over what its cell holds after its step, and over that alone
    pub fell_so : (now : ShownSite C S B) (why : SiteFault) (cell : Boot) → now ≡ record new { volatile = lost } → cell ≡ c.held now.cell
        → (why ≡ NoMemory) ⊎ (why ≡ CellFault)
        → Comes m x event (Fell why cell) × Shows m c now (after x event (Fell why cell))
    fell_so now why cell fallen held of =
        let f = fell_over m c old new now event fallen cell out.sent.items out.dropped x held (did m c old new x event shows place out handles) in
        ((f.0.0, of), f.1)

    pub fell_only : (now : ShownSite C S B) (why : SiteFault) (cell : Boot) → now ≡ record new { volatile = lost }
        → (cell ≡ c.held old.cell → c.held new.cell ≡ c.held old.cell)
        → Comes m x event (Fell why cell) → cell ≡ c.held now.cell
    fell_only now why cell fallen same comes =
        let d = did m c old new x event shows place out handles in
        let last : c.held new.cell ≡ c.held now.cell = sym (ap (λ v. c.held v.cell) fallen) in
        elim comes.0.down [
          | inl e ↦ (let before : cell ≡ c.held old.cell = ap (λ y. y.cell) e ∙ held_is in before ∙ sym (same before) ∙ last)
          | inr e ↦ ap (λ y. y.cell) e ∙ ap (λ y. y.cell) d.1.site ∙ last
        ]

-- an event can come out so exactly where a test is true
pub follows_by : {S E O : Type 0} (comes : S → E → O → Type 0) (next : S → E → O → S) (x : S) (event : E) (outcome : O) (shown : S → Type 0) (b : Bool)
    → (b ≡ true → Takes comes next x event outcome shown) → (comes x event outcome → b ≡ true) → Follows comes next x event outcome shown b
follows_by comes next x event outcome shown true so only = so refl
follows_by comes next x event outcome shown false so only = λ came. let clash : false ≡ true = only came in cc
