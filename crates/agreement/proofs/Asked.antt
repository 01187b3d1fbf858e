-- What was asked for in a legal list is all that there is.
use Rattle.std.proofs.Common.{◌≡◌, ◌⊎◌, inl, inr, ℕ, Bool, true, false, List, [], ◌∷◌, slice_set, ◌==◌, if◌then◌else◌, refl, sym, ap, ◌∙◌, subst, true≢false}
use Rattle.std.specs.Prelude.{All, Contains}
use Rattle.std.proofs.lemmas.List.Elements.{All-contains, Contains-append_cases}
use Rattle.std.proofs.lemmas.Option.{slice_get_within, get_or_from_slice_get}
use Rattle.vr_types.specs.declared.cell.Boot.{Boot}
use Rattle.vr_types.specs.declared.event.EventOf.{EventOf}
use Rattle.vr_types.specs.declared.event.EventOf.TheVariants.{Deliver}
use Rattle.vr_types.specs.declared.event.Status.TheVariants.{Normal, Down}
use Rattle.vr_types.specs.declared.message.EnvelopeOf.{EnvelopeOf}
use Rattle.vr_types.specs.declared.message.MsgOf.{MsgOf}
use Rattle.vr_types.specs.declared.message.MsgOf.TheVariants.{Request, Prepare, PrepareOk, Commit, StartViewChange, DoViewChange, StartView, GetState, NewState, Recovery, RecoveryResponse, Reply, PayOrder}
use Rattle.vr_types.specs.declared.row.RowOf.{RowOf}
use Rattle.vr_types.specs.Site.{Site, over, no_boots, opening_site}
use Rattle.vr_types.specs.Choice.{Choice, IsRight}
use Rattle.vr_types.specs.Handling.{site_step}
use Rattle.vr_types.proofs.ChoosingPick.{Contains-none, Contains-here, Contains-there}
use Rattle.vr_types.specs.Messages.{is_request}
use Rattle.agreement.specs.Worlds.{World, stepped, Course, Ends, FallsOver, Happening, MayHappen, EndsIn, Happens, IsRun, opening_world, IsLegal}
use Rattle.agreement.specs.Promises.{WasAsked, RowsAre}
use Rattle.agreement.proofs.Members.{map-has, set-has}
use Rattle.agreement.proofs.KeptRows.{Keeps, over_rows}
use Rattle.agreement.proofs.Rows.{HasRows, Brings, step_rows}

-- the rows of a world
pub record RowsHold {C R O : Type 0} (P : RowOf C → Type 0) (world : World C R O) : Type 0 where
  pub sites : (x : Site C) → Contains world.sites x → Keeps P x
  pub sent : (e : EnvelopeOf C R O) → Contains world.sent e → RowsAre P e.msg

-- a request that a site takes is for such a row
abbrev Asks : {C R O : Type 0} → (RowOf C → Type 0) → Happening C R O → Type 0
Asks {C} {R} {O} P h = (site to client number : ℕ) (cmd : C)
    → h ≡ record { site = site; event = Deliver (record { from = client; to = to; msg = Request (record { number = number; cmd = cmd }) }); course = Ends }
    → P (record { client = client; number = number; cmd = cmd })

module _ {C R O : Type 0} (P : RowOf C → Type 0) where
  -- a request has no rows of a log
  request_rows : (msg : MsgOf C R O) → is_request msg ≡ true → RowsAre P msg
  request_rows (Request msg) e = tt
  request_rows (Prepare msg) e = absurd (true≢false (sym e))
  request_rows (PrepareOk msg) e = tt
  request_rows (Commit msg) e = tt
  request_rows (StartViewChange msg) e = tt
  request_rows (DoViewChange msg) e = absurd (true≢false (sym e))
  request_rows (StartView msg) e = absurd (true≢false (sym e))
  request_rows (GetState msg) e = tt
  request_rows (NewState msg) e = absurd (true≢false (sym e))
  request_rows (Recovery msg) e = tt
  request_rows (RecoveryResponse msg) e = absurd (true≢false (sym e))
  request_rows (Reply msg) e = tt
  request_rows (PayOrder order) e = tt

  site_rows : (world : World C R O) → RowsHold P world → (i : ℕ) (y : Site C) → Keeps P y → (x : Site C) → Contains (slice_set world.sites i y) x → Keeps P x
  site_rows world h i y k x in' = by_case (set-has world.sites i y x in')
    where
      by_case : (y ≡ x) ⊎ Contains world.sites x → Keeps P x
      by_case (inl e) = subst (λ (z : Site C). Keeps P z) e k
      by_case (inr there) = h.sites x there

  module _ (choose : Choice C) (f : ℕ) (right : IsRight f choose) where
    happens_rows : (world : World C R O) (h : Happening C R O) (after : World C R O) → RowsHold P world → Asks P h → Happens choose f world h after
        → RowsHold P after
    happens_rows world h after rows asks p = by_course h.course refl p.ends
      where
        before : Keeps P p.before
        before =
            rows.sites p.before (
              h.site,
              slice_get_within world.sites h.site p.before p.is_there,
              get_or_from_slice_get world.sites h.site p.before p.before p.is_there,
            )

        arrives : (event : EventOf C R O) → MayHappen world.sent event → (e : EnvelopeOf C R O) → event ≡ Deliver e → RowsAre P e.msg
        arrives event may e is = by_case (subst (λ (v : EventOf C R O). MayHappen world.sent v) is may)
          where
            by_case : (is_request e.msg ≡ true) ⊎ Contains world.sent e → RowsAre P e.msg
            by_case (inl request) = request_rows e.msg request
            by_case (inr sent) = rows.sent e sent

        brings : h.course ≡ Ends → Brings P f h.site p.before before choose right h.event
        brings ends = record {
          rows = arrives h.event p.may_happen;
          asked = λ e number cmd is msg. asks h.site e.to e.from number cmd
              (ap (λ (v : EventOf C R O). record { site = h.site; event = v; course = h.course }) is
              ∙ ap (λ (c : Course). record { site = h.site; event = Deliver e; course = c }) ends
              ∙ ap (λ (m : MsgOf C R O). record { site = h.site; event = Deliver (record { from = e.from; to = e.to; msg = m }); course = Ends }) msg);
        }

        stepped_rows : h.course ≡ Ends → RowsHold P (stepped world h.site (site_step choose f h.site p.before h.event))
        stepped_rows ends =
            let step = site_step choose f h.site p.before h.event in
            let k : HasRows P step = step_rows P f h.site p.before before choose right h.event (brings ends) in
            record {
              sites = site_rows world rows h.site _ k.site;
              sent = λ e in'. by_part e step.sent k.sent (Contains-append_cases world.sent step.sent e in');
            }
          where
            by_part : (e : EnvelopeOf C R O) (more : List (EnvelopeOf C R O)) → All (λ (d : EnvelopeOf C R O). RowsAre P d.msg) more
                → Contains world.sent e ⊎ Contains more e → RowsAre P e.msg
            by_part e more all (inl there) = rows.sent e there
            by_part e more all (inr here) = All-contains (λ (d : EnvelopeOf C R O). RowsAre P d.msg) more e all here

        by_course : (course : Course) → h.course ≡ course → EndsIn world h.site p.before (site_step choose f h.site p.before h.event) course after
            → RowsHold P after
        by_course Ends is ends = subst (λ (w : World C R O). RowsHold P w) (sym ends.1) (stepped_rows is)
        by_course (FallsOver cell) is ends =
            subst (λ (w : World C R O). RowsHold P w) (sym ends.1) (record { sites = site_rows world rows h.site _ (over_rows P cell Down); sent = rows.sent })

    run_rows : (world : World C R O) (events : List (Happening C R O)) (after : World C R O) → RowsHold P world
        → ((h : Happening C R O) → Contains events h → Asks P h) → IsRun choose f world events after → RowsHold P after
    run_rows world [] after rows asks e = subst (λ (w : World C R O). RowsHold P w) (sym e) rows
    run_rows world (h ∷ events) after rows asks run =
        run_rows run.0 events after (happens_rows world h run.0 rows (asks h (Contains-here h events)) run.1)
        (λ k in'. asks k (Contains-there h k events in')) run.2

    opening_rows : (cells : List Boot) → RowsHold P (opening_world {C = C} {R = R} {O = O} f cells)
    opening_rows cells = record {
      sites = λ x in'. let t = map-has (opening_site f) cells x in' in subst (λ (y : Site C). Keeps P y) t.2 (by_test t.0 (t.0.boots == 0));
      sent = λ e in'. absurd (Contains-none e in');
    }
      where
        by_test : (cell : Boot) (b : Bool) → Keeps P (if b then record (over cell Normal) { known = no_boots f } else over cell Down)
        by_test cell true = let h = over_rows P cell Normal in record { log = h.log; votes = h.votes; responses = h.responses }
        by_test cell false = over_rows P cell Down

pub legal_rows : {C R O : Type 0} (choose : Choice C) (f : ℕ) → IsRight f choose → (cells : List Boot) (events : List (Happening C R O)) (world : World C R O)
    → IsLegal choose f cells events world → RowsHold (WasAsked events) world
legal_rows {C} {R} {O} choose f right cells events world legal =
    run_rows (WasAsked events) choose f right (opening_world f cells) events world (opening_rows (WasAsked events) choose f right cells)
    (λ h in' site to client number cmd is. record { site = site; to = to; taken = subst (λ (k : Happening C R O). Contains events k) is in' })
    legal.run
