-- A world that takes the merged list, event by event, up to the first that cannot come so.
use Rattle.std.proofs.Common.{◌≡◌, ◌↔◌, ◌⊎◌, inl, inr, ℕ, zero, suc, ◌+◌, ◌^◌, ◌<◌, ◌≤◌, Bool, true, false, List, [], ◌∷◌, ◌++◌, length, length-set, map, replicate, take, slice_get, slice_index, slice_set, Option, Some, None, refl, sym, ap, subst, ◌∙◌, arith, true≢false}
use Rattle.std.specs.Prelude.{IsTrue}
use Rattle.std.proofs.lemmas.List.{length-replicate}
use Rattle.pvp_types.specs.declared.setup.Setup.{Setup}
use Rattle.pvp_types.specs.declared.command.Cmd.{Cmd}
use Rattle.pvp_types.specs.Setup.{faults}
use Rattle.vr_types.specs.declared.cell.Boot.{Boot}
use Rattle.vr_types.specs.declared.cell.MemCell.{MemCell}
use Rattle.vr_types.specs.Choice.{Choice, IsRight}
use Rattle.vr_types.specs.MemoryCell.{held_by, IsReliable}
use Rattle.vr_types.specs.Site.{opening_site}
use Rattle.pvp_book.specs.Ledger.{opening}
use Rattle.rtgs_node.specs.Node.{Envelope, opening_node}
use Rattle.rtgs_node.specs.Shown.{ShownNode}
use Rattle.headline.specs.Client.{opening_client}
use Rattle.headline.specs.Legal.{LegalList}
use Rattle.headline.proofs.Basics.{none-some, some-same}
use Rattle.pvp_world.specs.Client.{ShownClient}
use Rattle.pvp_world.specs.World.{ShownWorld, IsProved}
use Rattle.pvp_world.specs.Steps.{AreReliable}
use Rattle.pvp_rooms.specs.declared.message.Recorded.{Recorded}
use Rattle.pvp_rooms.specs.Histories.{replay}
use Rattle.pvp_rooms.specs.Runs.{own_events, history_in, history_of, AreInOrder, AreOpenings, Arrives, IsRun}
use Rattle.pvp_rooms.specs.Named.{IsNamed}
use Rattle.pvp_rooms.specs.Verdicts.{ClocksRise}
use Rattle.pvp_rooms.specs.Merging.{IsNextActor, IsProgress, HasFailed}
use Rattle.pvp_rooms.specs.declared.verdict.AuditTest.TheVariants.{Stamped, Answered}
use Rattle.pvp_rooms.proofs.Together.{IsStepped}
use Rattle.pvp_rooms.proofs.Grows.{merged_all, named_arrives, cannot_arrive, cannot_come}
use Rattle.pvp_parties.specs.declared.party.PartyOf.TheVariants as party_of
use Rattle.pvp_parties.specs.declared.party.PartyEvent.{PartyEvent}
use Rattle.pvp_parties.specs.declared.party.PartyOutcome.{PartyOutcome}
use Rattle.pvp_parties.specs.Alike.{Site}
use Rattle.pvp_parties.specs.Made.{memory}
use Rattle.pvp_parties.specs.Parties.{Party, PartyState, AtSite, AtNode, AtClient, Opens, Comes, Reads, after, delivers, sent_envelopes, is_for, setup_of}
use Rattle.pvp_audit.specs.Judged.{Left, party, openings, ReadsWorld}
use Rattle.pvp_audit.specs.Moves.{move_of}
use Rattle.pvp_audit.specs.Numbered.{noted_of, post_of, AreNumbered, IsFound}
use Rattle.pvp_audit.specs.Retold.{Names, GoesBy, IsTelling}
use Rattle.pvp_audit.specs.Banked.{AreOfBank, OpenedOver, OpensInOrder, AllAre}
use Rattle.pvp_audit.specs.Coming.{ComesSo}
use Rattle.pvp_audit.specs.Passed.{OfOpenings, HavePassed}
use Rattle.pvp_audit.proofs.Agrees.{opening_state, start_in, start_of}
use Rattle.pvp_audit.proofs.Follows.{Follows, follows_none, shows_bank, told_here, follows_next, replayed, reads_same}
use Rattle.pvp_audit.proofs.Naming.{number_names}
use Rattle.pvp_audit.proofs.Numbering.{numbered_none, numbered_next}
use Rattle.pvp_audit.proofs.Telling.{telling_none, telling_next, telling_all}

-- ANY OPENINGS ARE THOSE OF RIGHT CHOICES

-- a state in which an actor opened is that of some right choice
pub record IsBy (setup : Setup) (e : Party) (boot : Option Boot) (x : PartyState) : Type 0 where
  pub choose : Choice Cmd
  pub right : IsRight (faults setup) choose
  pub is : x ≡ opening_state setup choose e boot

opened_by : (setup : Setup) (some : Choice Cmd) → IsRight (faults setup) some → (e : Party) (boot : Option Boot) (x : PartyState) → setup_of e ≡ setup
    → OpenedOver e boot → Opens e boot x → IsBy setup e boot x
opened_by setup some right (party_of.Site p) (Some boot) (AtSite x) same by o = record {
  choose = x.choose;
  right = subst (λ (f : ℕ). IsRight f x.choose) (o.is.f ∙ ap faults same) o.is.right;
  is = λ i. AtSite (record {
    f = (o.is.f ∙ ap faults same) i;
    me = o.is.me i;
    start = (o.is.start ∙ ap opening same) i;
    choose = x.choose;
    site = (o.site ∙ ap (λ (s : Setup). opening_site (faults s) boot) same) i;
  });
}
opened_by setup some right (party_of.Node p) None (AtNode x) same by o = record {
  choose = some;
  right = right;
  is = ap (λ (v : ShownNode). AtNode v) o ∙ ap (λ (s : Setup). AtNode (record { setup = s; ccy = p.place; node = opening_node })) same;
}
opened_by setup some right (party_of.Client p) None (AtClient x) same by o = record {
  choose = some;
  right = right;
  is = ap (λ (v : ShownClient). AtClient v) o ∙ ap (λ (s : Setup). AtClient (record { f = faults s; me = p.place; client = opening_client })) same;
}
opened_by setup some right (party_of.Site p) (Some boot) (AtNode x) same by o = absurd o
opened_by setup some right (party_of.Site p) (Some boot) (AtClient x) same by o = absurd o
opened_by setup some right (party_of.Site p) None x same by o = absurd by
opened_by setup some right (party_of.Node p) (Some boot) x same by o = absurd by
opened_by setup some right (party_of.Node p) None (AtSite x) same by o = absurd o
opened_by setup some right (party_of.Node p) None (AtClient x) same by o = absurd o
opened_by setup some right (party_of.Client p) (Some boot) x same by o = absurd by
opened_by setup some right (party_of.Client p) None (AtSite x) same by o = absurd o
opened_by setup some right (party_of.Client p) None (AtNode x) same by o = absurd o

-- WHERE A PASS IS: of each history as many events as at says were taken

-- some right choice
pub record SomeRight (f : ℕ) : Type 0 where
  pub choose : Choice Cmd
  pub right : IsRight f choose

pub record IsPassing (setup : Setup) (closed : List Left) (at : List ℕ) (numbers : List (List ℕ)) (world : ShownWorld MemCell) : Type 0 where
  pub tells : IsTelling setup (openings closed) closed at world
  pub follows : (choose : Choice Cmd) (right : IsRight (faults setup) choose) → Follows setup closed choose right tells.run world
  pub legal : OfOpenings closed (λ start. IsRun party delivers sent_envelopes is_for closed start tells.run)
  pub numbered : AreNumbered sent_envelopes tells.run numbers
  pub counted : length numbers ≡ length closed
  pub some : SomeRight (faults setup)

-- the sites of a world over such cells
pub reliable_sites : (sites : List Site) (cells : List MemCell) → map (λ v. v.cell) sites ≡ cells → AllAre IsReliable cells → (i : ℕ) (v : Site)
    → slice_get sites i ≡ Some v → IsReliable v.cell
reliable_sites sites cells over all i v is = all i v.cell (ap (λ l. slice_get l i) (sym over) ∙ mapped sites i is)
  where
    mapped : (xs : List Site) (i : ℕ) → slice_get xs i ≡ Some v → slice_get (map (λ v. v.cell) xs) i ≡ Some v.cell
    mapped [] i e = absurd (none-some v e)
    mapped (y ∷ xs) zero e = ap (λ (z : Site). Some z.cell) (some-same y v e)
    mapped (y ∷ xs) (suc i) e = mapped xs i e

module _ (setup : Setup) (closed : List Left) (order : AreInOrder closed) (all : AreOfBank setup closed) (clocks : ClocksRise closed)
    (one_bank : (setup : Setup) (f : ℕ) (a b : LegalList setup f) → a.cells ≡ b.cells → a.moves ≡ b.moves → a.bank ≡ b.bank) where
  pub passing_none : OpensInOrder closed → (at : List ℕ) (numbers : List (List ℕ)) (world : ShownWorld MemCell) → ((k : ℕ) → slice_index at k ≡ 0)
      → numbers ≡ replicate (length closed) []
      → world.setup ≡ setup → world.opening ≡ openings closed → world.trail ≡ [] → IsProved held_by world → AreReliable memory world
      → IsPassing setup closed at numbers world
  passing_none opened at numbers world none is made cells nothing proved reliable = record {
    tells = telling_none setup (openings closed) closed at world none made cells nothing;
    follows = λ choose right. follows_none setup closed choose right all opened world made cells nothing proved reliable;
    legal = λ start opens. tt;
    numbered =
        subst (λ (l : List (List ℕ)). AreNumbered {E = PartyEvent} sent_envelopes [] l) (sym is) (numbered_none PartyEvent sent_envelopes (length closed));
    counted = ap length is ∙ many (length closed);
    some =
        record { choose = proved.is_at.list.choose; right = subst (λ (s : Setup). IsRight (faults s) proved.is_at.list.choose) made proved.is_at.list.right };
  }
    where
      many : (n : ℕ) → length (replicate {A = List ℕ} n []) ≡ n
      many n = length-replicate n []

  module _ (at : List ℕ) (numbers : List (List ℕ)) (world : ShownWorld MemCell) (p : IsPassing setup closed at numbers world) where
    -- an actor opened by a right choice
    by : (start : ℕ → PartyState) → AreOpenings party closed start → (k : ℕ) (c : Left) → slice_get closed k ≡ Some c → IsBy setup c.end c.opening (start k)
    by start opens k c is = opened_by setup p.some.choose p.some.right c.end c.opening (start k) (all k c is).made_from (all k c is).opened (opens k c is)

    by_start : (start : ℕ → PartyState) (opens : AreOpenings party closed start) (k : ℕ) (c : Left) (is : slice_get closed k ≡ Some c)
        → start k ≡ start_of setup (by start opens k c is).choose closed k
    by_start start opens k c is =
        let b = by start opens k c is in
        b.is ∙ ap (λ (o : Option Left). start_in setup b.choose o) (sym is)

    post_is : world.post ≡ post_of sent_envelopes p.tells.run
    post_is =
        let f = p.follows p.some.choose p.some.right in
        (shows_bank setup closed p.some.choose p.some.right order all p.tells.run world f one_bank).post ∙ f.agrees.post

    pub passing_made : world.setup ≡ setup
    passing_made = (p.follows p.some.choose p.some.right).made

    pub passing_reliable : AreReliable memory world
    passing_reliable = (p.follows p.some.choose p.some.right).reliable

    -- the first events of each history are a run
    progress : (start : ℕ → PartyState) → AreOpenings party closed start → IsProgress party delivers sent_envelopes is_for closed start at
    progress start opens = record {
      run = p.tells.run;
      merged = p.tells.merged;
      legal = p.legal start opens;
    }

    module _ (k : ℕ) (next : IsNextActor closed at k) (one : Left) (is : slice_get closed k ≡ Some one) (event : ℕ) (count : event ≡ slice_index at k + 1) where
      -- what the next event delivers is not what its stamp names
      pub passing_stamped : ¬ IsNamed delivers sent_envelopes is_for closed at one.end next.what
          → OfOpenings closed (λ start. HasFailed party delivers sent_envelopes is_for closed start k event Stamped)
      passing_stamped never start opens =
          cannot_arrive party delivers sent_envelopes is_for closed clocks start at (progress start opens) k next one is event count never

      own_is : own_events p.tells.run k ≡ take (slice_index at k) one.history.items
      own_is = p.tells.merged.each k ∙ ap (λ (o : Option Left). take (slice_index at k) (history_in o)) is

      module _ (named : IsNamed delivers sent_envelopes is_for closed at one.end next.what) where
        pub arrives : Arrives delivers sent_envelopes is_for closed p.tells.run one.end next.what
        arrives = named_arrives delivers sent_envelopes is_for closed at p.tells.run p.tells.merged.each one.end next.what named

        pub passing_mine : (delivers next.what.event ≡ None) ⊎ (is_for one.end next.what.event ≡ true)
        passing_mine = elim arrives [ inl none ↦ inl none | inr w ↦ inr w.2 ]

        pub passing_named : length world.post < 2 ^ 64 → (number : ℕ) → IsFound closed numbers next.what.stamp number → Names world.post number next.what.event
        passing_named fits number found =
            number_names is_for closed order clocks at p.tells.run p.tells.merged numbers p.numbered world.post post_is fits one.end
            next.what arrives number found

        -- whether it comes out so is told of each state to which a right choice leads
        module _ (can : Bool) (so : ComesSo world one.end next.what can) where
          told_by : (choose : Choice Cmd) (right : IsRight (faults setup) choose)
              → IsTrue can ↔ Comes (replay after (own_events p.tells.run k) (start_of setup choose closed k)) next.what.event next.what.outcome
          told_by choose right = told_here setup closed choose right order all p.tells.run world (p.follows choose right) one_bank k one is next.what can so

          told_of : (start : ℕ → PartyState) → AreOpenings party closed start
              → IsTrue can ↔ Comes (replay after (own_events p.tells.run k) (start k)) next.what.event next.what.outcome
          told_of start opens =
              let b = by start opens k one is in
              subst (λ (x : PartyState). IsTrue can ↔ Comes (replay after (own_events p.tells.run k) x) next.what.event next.what.outcome)
              (sym (by_start start opens k one is)) (told_by b.choose b.right)

          pub passing_answered : can ≡ false → OfOpenings closed (λ start. HasFailed party delivers sent_envelopes is_for closed start k event Answered)
          passing_answered off start opens =
              cannot_come party delivers sent_envelopes is_for closed clocks start at (progress start opens) k next one is event count named
              (λ come. true≢false (sym ((told_of start opens).1
              (subst (λ (l : List (Recorded PartyEvent PartyOutcome)). Comes (replay after l (start k)) next.what.event next.what.outcome) (sym own_is) come))
              ∙ off))

          -- it goes on with the next event
          pub passing_next : can ≡ true → length world.post < 2 ^ 64 → (now : List ℕ) → IsStepped at now k → (number : ℕ)
              → IsFound closed numbers next.what.stamp number
              → (new : ShownWorld MemCell) → GoesBy held_by world new (move_of one.number next.what number) → IsProved held_by new → AreReliable memory new
              → (more : List (List ℕ)) → more ≡ slice_set numbers k (noted_of numbers k ++ (length world.post + 1) ∷ []) → IsPassing setup closed now more new
          passing_next on fits now stepped number found new goes proved reliable more is_more =
              let low = next.within in
              let counted = p.counted in
              record {
                tells =
                    telling_next setup (openings closed) closed order clocks at world p.tells k next now stepped one is next.what refl number new
                    (passing_named fits number found) goes;
                follows = λ choose right.
                    follows_next setup closed choose right order all p.tells.run world (p.follows choose right) one_bank k one is next.what number
                    ((told_by choose right).0 on) passing_mine
                    (passing_named fits number found) new goes proved reliable;
                legal = λ start opens. (p.legal start opens, record { who = one; is = is; arrives = arrives; comes = (told_of start opens).0 on });
                numbered = subst (λ (l : List (List ℕ)). AreNumbered sent_envelopes (record { by = k; what = next.what } ∷ p.tells.run) l)
                    (ap (λ (post : List Envelope). slice_set numbers k (noted_of numbers k ++ (length post + 1) ∷ [])) (sym post_is) ∙ sym is_more)
                    (numbered_next sent_envelopes p.tells.run numbers (record { by = k; what = next.what }) (omega (arith, low, counted)) p.numbered);
                counted = ap length is_more ∙ length-set numbers k (noted_of numbers k ++ (length world.post + 1) ∷ []) ∙ p.counted;
                some = p.some;
              }

    -- no event is left
    module _ (done : (k : ℕ) → length (history_of closed k) ≤ slice_index at k) where
      each : (k : ℕ) → own_events p.tells.run k ≡ history_of closed k
      each = merged_all closed order clocks at p.tells.run p.tells.merged done

      pub passing_all : HavePassed setup closed world
      passing_all = record {
        went = telling_all setup (openings closed) closed order clocks at world p.tells done;
        replayed = replayed setup closed p.some.choose p.some.right order all p.tells.run world (p.follows p.some.choose p.some.right) one_bank each;
        legal = λ start opens. record { run = p.tells.run; sorted = p.tells.merged.sorted; each = each; legal = p.legal start opens };
        reads = λ start opens k c is. (
            let b = by start opens k c is in
            subst (λ (x : PartyState). Reads memory c.end (replay after c.history.items x) ↔ ReadsWorld world c.number c.end)
            (sym (by_start start opens k c is))
            (reads_same setup closed b.choose b.right order all p.tells.run world (p.follows b.choose b.right) one_bank each k c is));
      }
