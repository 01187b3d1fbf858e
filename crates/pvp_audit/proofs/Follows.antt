-- A world that goes through the merged list beside the actors: it takes each event that can come, or memory is refused.
use Rattle.std.proofs.Common.{◌≡◌, ◌⊎◌, ℕ, zero, suc, ◌+◌, ◌*◌, ◌<◌, ◌≤◌, ◌↔◌, Bool, List, [], ◌∷◌, ◌++◌, length, map, slice_get, true, Option, Some, None, refl, sym, ap, subst, ◌∙◌, arith}
use Rattle.std.specs.Prelude.{IsTrue}
use Rattle.pvp_types.specs.declared.setup.Setup.{Setup}
use Rattle.pvp_types.specs.declared.command.Cmd.{Cmd}
use Rattle.pvp_types.specs.Setup.{IsValid, faults}
use Rattle.vr_types.specs.declared.cell.Boot.{Boot}
use Rattle.vr_types.specs.declared.cell.MemCell.{MemCell}
use Rattle.vr_types.specs.MemoryCell.{held_by}
use Rattle.vr_types.specs.Choice.{Choice, IsRight}
use Rattle.vr_types.specs.Site.{opening_site}
use Rattle.pvp_book.specs.Ledger.{opening}
use Rattle.rtgs_node.specs.Node.{Envelope, opening_node}
use Rattle.rtgs_node.specs.Shown.{ShownNode}
use Rattle.headline.specs.declared.step.Move.{Move}
use Rattle.headline.specs.Client.{opening_client}
use Rattle.headline.specs.Bank.{Bank, opening_bank}
use Rattle.headline.specs.Legal.{IsRun, Leads, LegalList}
use Rattle.headline.proofs.Basics.{none-some, some-same}
use Rattle.pvp_world.specs.World.{ShownWorld, ShowsBank, IsProved}
use Rattle.pvp_world.specs.Steps.{Moves, AreReliable}
use Rattle.pvp_world.specs.Client.{ShownClient}
use Rattle.pvp_world.proofs.Refused.{within}
use Rattle.pvp_world.proofs.Allowed.{shows-other}
use Rattle.pvp_rooms.specs.declared.message.Recorded.{Recorded}
use Rattle.pvp_rooms.specs.Histories.{replay}
use Rattle.pvp_rooms.specs.Runs.{Tagged, own_events, history_in, history_of, AreInOrder}
use Rattle.pvp_parties.specs.Parties.{Party}
use Rattle.pvp_parties.specs.declared.party.PartyOf.TheVariants as party_of
use Rattle.pvp_parties.specs.declared.party.PartyEvent.{PartyEvent}
use Rattle.pvp_parties.specs.declared.party.PartyOutcome.{PartyOutcome}
use Rattle.pvp_parties.specs.Made.{memory}
use Rattle.pvp_parties.specs.Parties.{PartyState, Comes, Reads, after, delivers, is_for, number_of}
use Rattle.pvp_audit.specs.Judged.{Left, openings, ShowsState, AreReplayed, ReadsWorld}
use Rattle.pvp_audit.specs.Coming.{node_at, client_at, IsThere, ComesSo}
use Rattle.pvp_audit.specs.Moves.{move_of}
use Rattle.pvp_audit.specs.Retold.{Names, GoesBy}
use Rattle.pvp_audit.specs.Banked.{AreOfBank, OpenedOver, HasPlace, OpensInOrder}
use Rattle.pvp_audit.proofs.Ends.{IsOfKind, there_kind, reads_world, reads_replay}
use Rattle.pvp_audit.proofs.Agrees.{opening_state, openings_are, start_in, start_of, number_is, Agrees, Goes, takes_next}

module _ (setup : Setup) (closed : List Left) (choose : Choice Cmd) (right : IsRight (faults setup) choose) where
  -- a world of this setup, over cells no save of which fails, that went through a run as the actors did by this choice
  pub record Follows (run : List (Tagged PartyEvent PartyOutcome)) (world : ShownWorld MemCell) : Type 0 where
    pub bank : Bank
    pub agrees : Agrees setup choose closed world.opening run world.trail bank
    pub made : world.setup ≡ setup
    pub proved : IsProved held_by world
    pub reliable : AreReliable memory world

  -- THE BEGINNING

  module _ (all : AreOfBank setup closed) (numbered : OpensInOrder closed) (world : ShownWorld MemCell) (made : world.setup ≡ setup)
      (cells : world.opening ≡ openings closed) (nothing : world.trail ≡ []) (proved : IsProved held_by world) (reliable : AreReliable memory world) where
    abbrev list : LegalList world.setup (faults world.setup)
    list = proved.is_at.list

    abbrev first : Bank
    first = opening_bank setup (faults setup) world.opening

    mapped : {X Y : Type 0} (g : X → Y) (xs : List X) (i : ℕ) (x : X) → slice_get xs i ≡ Some x → slice_get (map g xs) i ≡ Some (g x)
    mapped g [] i x e = absurd (none-some x e)
    mapped g (y ∷ xs) zero x e = ap (λ (z : _). Some (g z)) (some-same y x e)
    mapped g (y ∷ xs) (suc i) x e = mapped g xs i x e

    same_all : {X Y : Type 0} (y : Y) (xs : List X) (i : ℕ) → i < length xs → slice_get (map (λ x. y) xs) i ≡ Some y
    same_all y [] i low = absurd (omega arith)
    same_all y (x ∷ xs) zero low = refl
    same_all y (x ∷ xs) (suc i) low = same_all y xs i (omega arith)

    client_there : (i : ℕ) → i ≤ length setup.members → slice_get first.clients i ≡ Some opening_client
    client_there zero low = refl
    client_there (suc i) low = same_all opening_client setup.members i (omega arith)

    opens_there : (k : ℕ) (c : Left) → slice_get closed k ≡ Some c → (e : Party) → c.end ≡ e → (over : Option Boot) → c.opening ≡ over → OpenedOver e over
        → HasPlace setup e → IsThere setup choose first e (opening_state setup choose e over)
    opens_there k c is (party_of.Site p) ends (Some boot) over by place = (
      opening_site (faults setup) boot,
      refl,
      mapped (opening_site (faults setup)) world.opening p.place boot
          (ap (λ (l : List Boot). slice_get l p.place) cells ∙ numbered k c is p.place boot ((all k c is).number ∙ ap number_of ends) over),
    )
    opens_there k c is (party_of.Site p) ends None over by place = absurd by
    opens_there k c is (party_of.Node p) ends (Some boot) over by place = absurd by
    opens_there k c is (party_of.Node p) ends None over by place = (opening_node, refl, same_all opening_node setup.currencies p.place place.0)
    opens_there k c is (party_of.Client p) ends (Some boot) over by place = absurd by
    opens_there k c is (party_of.Client p) ends None over by place = (opening_client, refl, client_there p.place place.0)

    pub follows_none : Follows [] world
    follows_none = record {
      bank = first;
      agrees = record {
        legal = record {
          all = ap length (sym proved.is_at.cells) ∙ list.legal.all ∙ ap (λ (s : Setup). 2 * faults s + 1) made;
          run = subst (λ (ms : List Move). IsRun setup choose (faults setup) first ms first) (sym nothing) refl;
        };
        there =
            λ k c is. subst (λ (o : Option Left). IsThere setup choose first c.end (start_in setup choose o)) (sym is)
            (opens_there k c is c.end refl c.opening refl (all k c is).opened (all k c is).place);
        post = refl;
      };
      made = made;
      proved = proved;
      reliable = reliable;
    }

  -- ONE EVENT MORE

  module _ (order : AreInOrder closed) (all : AreOfBank setup closed) (run : List (Tagged PartyEvent PartyOutcome))
      (world : ShownWorld MemCell) (p : Follows run world)
      (one_bank : (setup : Setup) (f : ℕ) (a b : LegalList setup f) → a.cells ≡ b.cells → a.moves ≡ b.moves → a.bank ≡ b.bank) where
    -- the legal list of the world's trail, by the actors' choices
    abbrev mine : LegalList setup (faults setup)
    mine = record {
      valid = subst (λ (s : Setup). IsValid s) p.made p.proved.is_at.list.valid;
      choose = choose;
      right = right;
      cells = world.opening;
      moves = world.trail;
      bank = p.bank;
      legal = p.agrees.legal;
    }

    pub shows_bank : ShowsBank held_by world p.bank
    shows_bank =
        subst (λ (s : Setup). (l : LegalList s (faults s)) → l.cells ≡ world.opening → l.moves ≡ world.trail → ShowsBank held_by world l.bank) p.made
        (λ l cells moves. shows-other held_by one_bank world p.proved.is_at l cells moves) mine refl refl

    -- whether an event comes out so is told of the state to which this choice leads
    pub told_here : (k : ℕ) (c : Left) → slice_get closed k ≡ Some c → (r : Recorded PartyEvent PartyOutcome) (can : Bool) → ComesSo world c.end r can
        → IsTrue can ↔ Comes (replay after (own_events run k) (start_of setup choose closed k)) r.event r.outcome
    told_here k c is r can so =
        subst (λ (s : Setup). (l : LegalList s (faults s)) → l.cells ≡ world.opening → l.moves ≡ world.trail → (x : PartyState)
        → IsThere s l.choose l.bank c.end x → IsTrue can ↔ Comes x r.event r.outcome) p.made
        so mine refl refl (replay after (own_events run k) (start_of setup choose closed k)) (p.agrees.there k c is)

    module _ (k : ℕ) (c : Left) (is : slice_get closed k ≡ Some c) (r : Recorded PartyEvent PartyOutcome) (number : ℕ)
        (come : Comes (replay after (own_events run k) (start_of setup choose closed k)) r.event r.outcome)
        (here : (delivers r.event ≡ None) ⊎ (is_for c.end r.event ≡ true)) (named : Names world.post number r.event) where
      abbrev pub next : List (Tagged PartyEvent PartyOutcome)
      next = record { by = k; what = r } ∷ run

      goes : Goes setup choose closed order all world.opening run world.trail p.bank p.agrees k c is r (move_of c.number r number)
      goes =
          takes_next setup choose closed order all world.opening run world.trail p.bank p.agrees k c is r number come here
          (subst (λ (post : List Envelope). Names post number r.event) shows_bank.post named)

      goes_by : (move : Move) → move_of c.number r number ≡ Some move
          → (later : Bank) × Leads setup choose (faults setup) p.bank move later
          × Agrees setup choose closed world.opening next (world.trail ++ move ∷ []) later
      goes_by move e = subst (λ (o : Option Move). Goes setup choose closed order all world.opening run world.trail p.bank p.agrees k c is r o) e goes

      -- and when it took it, it is where the actors are
      took : (move : Move) → move_of c.number r number ≡ Some move → (new : ShownWorld MemCell) → Moves held_by world new move → IsProved held_by new
          → AreReliable memory new → Follows next new
      took move e new moves proved reliable =
          let g = goes_by move e in
          record {
            bank = g.0;
            agrees = subst (λ (cells : List Boot). Agrees setup choose closed cells next new.trail g.0) (sym moves.opening)
                (subst (λ (trail : List Move). Agrees setup choose closed world.opening next trail g.0) (sym moves.trail) g.2);
            made = moves.setup ∙ p.made;
            proved = proved;
            reliable = reliable;
          }

      took_none : move_of c.number r number ≡ None → (new : ShownWorld MemCell) → new ≡ world → IsProved held_by new → AreReliable memory new → Follows next new
      took_none e new same proved reliable =
          let g : Agrees setup choose closed world.opening next world.trail p.bank =
          subst (λ (o : Option Move). Goes setup choose closed order all world.opening run world.trail p.bank p.agrees k c is r o) e goes in
          record {
            bank = p.bank;
            agrees = subst (λ (w : ShownWorld MemCell). Agrees setup choose closed w.opening next w.trail p.bank) (sym same) g;
            made = ap (λ (w : ShownWorld MemCell). w.setup) same ∙ p.made;
            proved = proved;
            reliable = reliable;
          }

      pub follows_next : (new : ShownWorld MemCell) → GoesBy held_by world new (move_of c.number r number) → IsProved held_by new → AreReliable memory new
          → Follows next new
      follows_next new went proved reliable = by (move_of c.number r number) refl went
        where
          by : (o : Option Move) → move_of c.number r number ≡ o → GoesBy held_by world new o → Follows next new
          by None e same = took_none e new same proved reliable
          by (Some move) e moves = took move e new moves proved reliable

    -- THE END

    module _ (each : (k : ℕ) → own_events run k ≡ history_of closed k) where
      shown : ShowsBank held_by world p.bank
      shown = shows_bank

      -- the world's actor is where the bank's is
      shows_by : (e : Party) (x : PartyState) → HasPlace setup e → IsThere setup choose p.bank e x → ShowsState world (number_of e) x
      shows_by (party_of.Site q) x place there =
          let v = within p.bank.sites world.sites q.place there.0 (sym shown.sites.count) there.2 in
          let is = shown.sites.each q.place v.0 there.0 v.1 there.2 in
          subst (λ (y : PartyState). ShowsState world (number_of {B = MemCell} (party_of.Site q)) y) (sym there.1) (
            v.0,
            ap (λ (i : ℕ). slice_get world.sites i) (omega arith) ∙ v.1,
            record {
              is = record { f = sym (is.f ∙ ap faults p.made); me = sym is.me; start = ap opening (sym (is.made_from ∙ p.made)); right = right };
              acks = is.acks;
              site = is.site;
            },
          )
      shows_by (party_of.Node q) x place there =
          let v = within p.bank.nodes world.nodes q.place there.0 (sym shown.nodes.count) there.2 in
          let is = shown.nodes.each q.place v.0 there.0 v.1 there.2 in
          let same : v.0 ≡ node_at setup choose q.place there.0 = is ∙ ap (λ (s : Setup). record { setup = s; ccy = q.place; node = there.0 }) p.made in
          subst (λ (y : PartyState). ShowsState world (number_of {B = MemCell} (party_of.Node q)) y) (sym there.1)
          (ap (λ (i : ℕ). slice_get world.nodes i) (number_is q.place place.1) ∙ v.1 ∙ ap (λ (u : ShownNode). Some u) same)
      shows_by (party_of.Client q) x place there =
          let v = within p.bank.clients world.clients q.place there.0 (sym shown.clients.count) there.2 in
          let is = shown.clients.each q.place v.0 there.0 v.1 there.2 in
          let same : v.0 ≡ client_at setup choose q.place there.0 = is ∙ ap (λ (s : Setup). record { f = faults s; me = q.place; client = there.0 }) p.made in
          subst (λ (y : PartyState). ShowsState world (number_of {B = MemCell} (party_of.Client q)) y) (sym there.1)
          (v.1 ∙ ap (λ (u : ShownClient). Some u) same)

      pub replayed : AreReplayed closed world
      replayed = record {
        start = start_of setup choose closed;
        opens = openings_are setup choose right closed all;
        shown = λ k c is.
            subst (λ (n : ℕ). ShowsState world n (replay after c.history.items (start_of setup choose closed k))) (sym (all k c is).number)
            (subst (λ (l : List (Recorded PartyEvent PartyOutcome)). ShowsState world (number_of c.end) (replay after l (start_of setup choose closed k)))
            (each k ∙ ap history_in is)
            (shows_by c.end (replay after (own_events run k) (start_of setup choose closed k)) (all k c is).place (p.agrees.there k c is)));
      }

      -- an end reads like the replay of its history exactly where it reads like the world's actor
      pub reads_same : (k : ℕ) (c : Left) → slice_get closed k ≡ Some c
          → Reads memory c.end (replay after c.history.items (start_of setup choose closed k)) ↔ ReadsWorld world c.number c.end
      unfolding replayed
      reads_same k c is =
          let x = replay after c.history.items (start_of setup choose closed k) in
          let kind : IsOfKind c.end x =
          subst (λ (l : List (Recorded PartyEvent PartyOutcome)). IsOfKind c.end (replay after l (start_of setup choose closed k)))
          (each k ∙ ap history_in is)
          (there_kind setup choose p.bank c.end (replay after (own_events run k) (start_of setup choose closed k)) (p.agrees.there k c is)) in
          (reads_world world c.number c.end x (replayed.shown k c is), reads_replay world c.number c.end x (replayed.shown k c is) kind)
