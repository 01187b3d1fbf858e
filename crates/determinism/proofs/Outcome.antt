-- A step that nothing hinders has one outcome in two worlds that came the same way.
use Rattle.std.proofs.Common.{◌≡◌, ℕ, ◌+◌, ◌-◌, ◌==◌, Bool, true, false, if◌then◌else◌, List, [], ◌∷◌, ◌++◌, length, slice_get, Option, Some, None, option_map, Result, Ok, Err, refl, sym, ap, ◌∙◌, subst, arith, true≢false}
use Rattle.std.specs.Prelude.{option_and_then}
use Rattle.pvp_types.specs.declared.setup.Setup.{Setup}
use Rattle.pvp_types.specs.declared.command.Cmd.{Cmd}
use Rattle.pvp_types.specs.declared.step.Step.{Step}
use Rattle.pvp_types.specs.Setup.{faults}
use Rattle.vr_types.specs.declared.cell.Boot.{Boot}
use Rattle.vr_types.specs.declared.event.SiteFault.{SiteFault}
use Rattle.vr_types.specs.declared.event.SiteFault.TheVariants as site
use Rattle.vr_types.specs.declared.event.Why.{Why}
use Rattle.vr_types.specs.Site.{Site}
use Rattle.vr_site.specs.Replica.{ShownSite}
use Rattle.rtgs_node.specs.Node.{Envelope}
use Rattle.headline.specs.declared.step.Move.{Move}
use Rattle.headline.specs.declared.step.Move.TheVariants.{Takes}
use Rattle.headline.specs.Bank.{Bank, turn}
use Rattle.headline.specs.Legal.{LegalList}
use Rattle.headline.proofs.Basics.{none-some, some-same}
use Rattle.pvp_world.specs.World.{ShownWorld, ShowsBank, IsAt}
use Rattle.pvp_world.specs.Steps.{IsReport, Moves, IsTaken, IsRefused, Applies, dropped_in, is_fall, is_world_fall}
use Rattle.pvp_world.specs.declared.fault.WorldFault.{WorldFault}
use Rattle.pvp_world.specs.declared.fault.WorldFault.TheVariants as fault
use Rattle.pvp_world.specs.declared.report.Report.{Report}
use Rattle.pvp_trace.specs.declared.attempt.Attempt.{Attempt}
use Rattle.pvp_trace.specs.declared.stand.Stand.{Stand}
use Rattle.pvp_trace.specs.Attempts.{Attempts, fell_by}
use Rattle.pvp_trace.specs.Stands.{stand_of, stand_at, site_of}
use Rattle.pvp_world.specs.Refusals.{bank_refuses, turn_refuses, hinders, hinders_site}
use Rattle.determinism.specs.Unhindered.{is_hindered, refused_as}
use Rattle.determinism.specs.Twins.{AreTwins}
use Rattle.determinism.proofs.Banks.{one-bank, was-at, after-list}
use Rattle.determinism.proofs.Dropped.{dropped-once}
use Rattle.pvp_world.proofs.Refused.{taken-none, why-told, fall-hinders, no-fall, within}

module _ {B : Type 0} (held : B → Boot) where
  -- the reason that is told is the bank's
  pub refused-bank : (old new : ShownWorld B) (step : Step) (at : IsAt held old) (result : Result Report WorldFault) → Applies held old new step result
      → is_hindered result ≡ false
      → refused_as result ≡ bank_refuses old.setup (faults old.setup) at.list.bank step
  refused-bank old new step at (Ok report) taken free =
      let m = taken.moves in
      sym (ap (λ (k : Bank). bank_refuses old.setup (faults old.setup) k step)
      (one-bank old.setup old.setup refl at.list m.list (at.cells ∙ sym m.cells) (at.moves ∙ sym m.moves))
      ∙ ap (λ t. turn_refuses old.setup (faults old.setup) m.list.bank t) m.leads.has_turn
      ∙ taken-none old.setup m.list.choose m.list.bank m.leads.turn_is m.after m.leads.acts)
  refused-bank old new step at (Err why) refused free = sym (why-told held old at.list.bank at.shows step why free (refused.kept (no-fall why free)).1)

  -- where a move leads, the world is at
  pub moved-at : (old new : ShownWorld B) (move : Move) → Moves held old new move → IsAt held new
  moved-at old new move m =
      let p =
      subst (λ (s : Setup). (list : LegalList s (faults s)) × (list.cells ≡ new.opening) × (list.moves ≡ new.trail) × ShowsBank held new list.bank)
      (sym m.setup)
      (after-list held old new move m, m.cells ∙ sym m.opening, ap (λ ms. ms ++ move ∷ []) m.moves ∙ sym m.trail, m.shows_after) in
      record { list = p.0; cells = p.1; moves = p.2; shows = p.3 }

  -- where a step that nothing hinders leaves it, the world is at
  pub stays-at : (old new : ShownWorld B) (step : Step) (result : Result Report WorldFault) → IsAt held old → Applies held old new step result
      → is_hindered result ≡ false → IsAt held new
  stays-at old new step (Ok report) at taken free = moved-at old new (Takes step) taken.moves
  stays-at old new step (Err why) at refused free = subst (λ (w : ShownWorld B). IsAt held w) (sym (refused.kept (no-fall why free)).0) at

  -- where a reason is told, the world is as it was
  pub refused-stays : (old new : ShownWorld B) (step : Step) (at : IsAt held old) (result : Result Report WorldFault) → Applies held old new step result
      → is_hindered result ≡ false
      → (why : WorldFault) → refused_as result ≡ Some why → new ≡ old
  refused-stays old new step at (Ok report) taken free why told = absurd (none-some why told)
  refused-stays old new step at (Err fault) refused free why told = (refused.kept (no-fall fault free)).0

  -- of two worlds that came the same way
  module _ (a b : ShownWorld B) (twins : AreTwins held a b) where
    pub twin-bank : twins.one_at.list.bank ≡ twins.other_at.list.bank
    twin-bank = let p = twins.one_at in let q = twins.other_at in
        one-bank a.setup b.setup twins.setup p.list q.list (p.cells ∙ twins.opening ∙ sym q.cells) (p.moves ∙ twins.trail ∙ sym q.moves)

    pub twin-post : a.post ≡ b.post
    twin-post = twins.one_at.shows.post ∙ ap (λ (k : Bank). k.post) twin-bank ∙ sym twins.other_at.shows.post

    module _ (c d : ShownWorld B) (step : Step) where
      -- one reason is told
      pub told-once : (r s : Result Report WorldFault) → Applies held a c step r → Applies held b d step s → is_hindered r ≡ false → is_hindered s ≡ false
          → refused_as r ≡ refused_as s
      told-once r s p q free too =
          refused-bank a c step twins.one_at r p free
          ∙ ap (λ (x : Setup). bank_refuses x (faults x) twins.one_at.list.bank step) twins.setup
          ∙ ap (λ (k : Bank). bank_refuses b.setup (faults b.setup) k step) twin-bank
          ∙ sym (refused-bank b d step twins.other_at s q too)

      -- and the two go on the same way
      pub twins-go-on : (r s : Result Report WorldFault) → Applies held a c step r → Applies held b d step s → is_hindered r ≡ false → is_hindered s ≡ false
          → AreTwins held c d
      twins-go-on (Ok r) (Ok s) p q free too = record {
        setup = p.moves.setup ∙ twins.setup ∙ sym q.moves.setup;
        opening = p.moves.opening ∙ twins.opening ∙ sym q.moves.opening;
        trail = p.moves.trail ∙ ap (λ ms. ms ++ Takes step ∷ []) twins.trail ∙ sym q.moves.trail;
        one_at = moved-at a c (Takes step) p.moves;
        other_at = moved-at b d (Takes step) q.moves;
      }
      twins-go-on (Ok r) (Err s) p q free too = absurd (none-some s (told-once (Ok r) (Err s) p q free too))
      twins-go-on (Err r) (Ok s) p q free too = absurd (none-some r (sym (told-once (Err r) (Ok s) p q free too)))
      twins-go-on (Err r) (Err s) p q free too =
          subst (λ (w : ShownWorld B). AreTwins held w d) (sym (p.kept (no-fall r free)).0)
          (subst (λ (w : ShownWorld B). AreTwins held a w) (sym (q.kept (no-fall s too)).0) twins)

  -- ONE REPORT
  abbrev report_of : ℕ → ℕ → Option Why → Report
  report_of first count why = record { first = first; count = count; dropped = why }

  report-same : (post posted : List Envelope) (why : Option Why) (r s : Report) → IsReport post posted why r → IsReport post posted why s → r ≡ s
  report-same post posted why r s p q =
      let count : r.count ≡ s.count = omega (p.count, q.count, arith) in
      ap (λ (n : ℕ). report_of n r.count r.dropped) (p.first ∙ ap (λ (n : ℕ). if n == 0 then 0 else length post + 1) count ∙ sym q.first)
      ∙ ap (λ (n : ℕ). report_of s.first n r.dropped) count
      ∙ ap (λ (w : Option Why). report_of s.first s.count w) (p.dropped ∙ sym q.dropped)

  pub result-once : (a b : ShownWorld B) (twins : AreTwins held a b) (c d : ShownWorld B) (step : Step) (r s : Result Report WorldFault)
      → Applies held a c step r → Applies held b d step s → is_hindered r ≡ false → is_hindered s ≡ false → r ≡ s
  result-once a b twins c d step (Ok r) (Ok s) p q free too =
      let next = twins-go-on a b twins c d step (Ok r) (Ok s) p q free too in
      let m = p.moves in
      let n = q.moves in
      let dropped =
      dropped-once a.setup b.setup twins.setup m.list n.list (m.cells ∙ twins.opening ∙ sym n.cells)
      (m.moves ∙ twins.trail ∙ sym n.moves) step m.after n.after m.leads n.leads in
      let why = dropped_in b.setup n.list.choose (faults b.setup) n.list.bank n.leads.turn_is n.after n.leads.acts in
      ap (λ (t : Report). Ok t) (report-same b.post d.post why r s
      (subst (λ (post : List Envelope). IsReport post d.post why r) (twin-post a b twins)
      (subst (λ (posted : List Envelope). IsReport a.post posted why r) (twin-post c d next)
      (subst (λ (w : Option Why). IsReport a.post c.post w r) dropped p.told))) q.told)
  result-once a b twins c d step (Ok r) (Err s) p q free too = absurd (none-some s (told-once a b twins c d step (Ok r) (Err s) p q free too))
  result-once a b twins c d step (Err r) (Ok s) p q free too = absurd (none-some r (sym (told-once a b twins c d step (Err r) (Ok s) p q free too)))
  result-once a b twins c d step (Err r) (Err s) p q free too =
      ap (λ (w : WorldFault). Err w) (some-same r s (told-once a b twins c d step (Err r) (Err s) p q free too))

  -- WHERE A SITE STANDS is the bank's
  bank_stand : ℕ → Site Cmd → Stand
  bank_stand i x = record { site = i; status = x.status; view = x.view; done = x.done }

  stand-shown : (w : ShownWorld B) (at : IsAt held w) (i : ℕ) → stand_at w i ≡ option_map (bank_stand i) (slice_get at.list.bank.sites i)
  unfolding bank_stand
  stand-shown w at i = by (slice_get w.sites i) (slice_get at.list.bank.sites i) refl refl
    where
      by : (o : Option (ShownSite Cmd Setup B)) (p : Option (Site Cmd)) → slice_get w.sites i ≡ o → slice_get at.list.bank.sites i ≡ p
          → option_map (stand_of i) o ≡ option_map (bank_stand i) p
      by None None e d = refl
      by None (Some x) e d = let v = within at.list.bank.sites w.sites i x (sym at.shows.sites.count) d in absurd (none-some v.0 (sym e ∙ v.1))
      by (Some v) None e d = let x = within w.sites at.list.bank.sites i v at.shows.sites.count e in absurd (none-some x.0 (sym d ∙ x.1))
      by (Some v) (Some x) e d = ap (λ (y : Site Cmd). Some (bank_stand i y)) (sym (at.shows.sites.each i v x e d).site)

  stands-too : (a b : ShownWorld B) → AreTwins held a b → (number : Option ℕ) → option_and_then (stand_at a) number ≡ option_and_then (stand_at b) number
  stands-too a b twins None = refl
  stands-too a b twins (Some i) =
      stand-shown a twins.one_at i
      ∙ ap (λ (k : Bank). option_map (bank_stand i) (slice_get k.sites i)) (twin-bank a b twins)
      ∙ sym (stand-shown b twins.other_at i)

  -- ONE ATTEMPT
  abbrev attempt_of : Step → Result Report WorldFault → Option Boot → Option Stand → Option Stand → ℕ → ℕ → Attempt
  attempt_of step result fell was now before after = record { step = step; result = result; fell = fell; was = was; now = now; before = before; after = after }

  pub attempt-once : (a b : ShownWorld B) (twins : AreTwins held a b) (c d : ShownWorld B) (step : Step) (x y : Attempt)
      → Attempts held a c step x → Attempts held b d step y → is_hindered x.result ≡ false → is_hindered y.result ≡ false → (x ≡ y) × AreTwins held c d
  attempt-once a b twins c d step x y p q free too =
      let next = twins-go-on a b twins c d step x.result y.result p.applies q.applies free too in
      let result = result-once a b twins c d step x.result y.result p.applies q.applies free too in
      let site = ap (λ (es : List Envelope). site_of es step) (twin-post a b twins) in (
        ap (λ (s : Step). attempt_of s x.result x.fell x.was x.now x.before x.after) (p.step ∙ sym q.step)
            ∙ ap (λ (r : Result Report WorldFault). attempt_of y.step r x.fell x.was x.now x.before x.after) result
            ∙ ap (λ (o : Option Boot). attempt_of y.step y.result o x.was x.now x.before x.after)
            (p.fell ∙ ap (λ (r : Result Report WorldFault). fell_by r c.trail) result ∙ ap (λ (ms : List Move). fell_by y.result ms) next.trail ∙ sym q.fell)
            ∙ ap (λ (o : Option Stand). attempt_of y.step y.result y.fell o x.now x.before x.after)
            (p.was ∙ stands-too a b twins (site_of a.post step) ∙ ap (λ (n : Option ℕ). option_and_then (stand_at b) n) site ∙ sym q.was)
            ∙ ap (λ (o : Option Stand). attempt_of y.step y.result y.fell y.was o x.before x.after)
            (p.now ∙ stands-too c d next (site_of a.post step) ∙ ap (λ (n : Option ℕ). option_and_then (stand_at d) n) site ∙ sym q.now)
            ∙ ap (λ (n : ℕ). attempt_of y.step y.result y.fell y.was y.now n x.after)
            (p.before ∙ ap (λ (es : List Envelope). length es) (twin-post a b twins) ∙ sym q.before)
            ∙ ap (λ (n : ℕ). attempt_of y.step y.result y.fell y.was y.now y.before n)
            (p.after ∙ ap (λ (es : List Envelope). length es) (twin-post c d next) ∙ sym q.after),
        next,
      )
