-- What the sites can do alone they can do in the bank: gentle events become gentle moves, and nodes and clients stay.
use Rattle.std.proofs.Common.{◌≡◌, ◌⊎◌, inl, inr, ℕ, ◌+◌, ◌-◌, ◌≤◌, Bool, true, false, not, ◌==◌, nat_le, if◌then◌else◌, List, [], ◌∷◌, ◌++◌, map, slice_get, slice_set, Some, None, option_map, refl, sym, ap, ◌∙◌, subst, arith, true≢false}
use Rattle.std.specs.Prelude.{Contains, All}
use Rattle.std.specs.List.{filter_map}
use Rattle.std.proofs.lemmas.Bool.Decides.{nat_tests}
use Rattle.std.proofs.lemmas.List.Elements.{All-nil, All-cons, All-head, All-tail, Contains-append_left, Contains-append_right, Contains-append_cases}
use Rattle.pvp_types.specs.declared.setup.Setup.{Setup}
use Rattle.pvp_types.specs.declared.command.Cmd.{Cmd}
use Rattle.pvp_types.specs.declared.command.Reply.{Reply as Answer}
use Rattle.pvp_types.specs.declared.command.PayOrder.{PayOrder as PaymentOrder}
use Rattle.pvp_types.specs.declared.step.Step.{Step}
use Rattle.pvp_types.specs.declared.step.Step.TheVariants.{Deliver as Delivers, Beat as Beats, Timer as Times, Restart as Restarts}
use Rattle.vr_types.specs.declared.event.EventOf.{EventOf}
use Rattle.vr_types.specs.declared.event.EventOf.TheVariants.{Deliver, Timer, Beat, Crash, Restart}
use Rattle.vr_types.specs.declared.event.SiteFault.TheVariants.{NotUp, NotMine}
use Rattle.vr_types.specs.Choice.{Choice}
use Rattle.vr_types.specs.Group.{actor_of, may_send, is_mine}
use Rattle.vr_types.specs.Site.{Site, is_down}
use Rattle.vr_types.specs.Step as site
use Rattle.vr_types.specs.Handling.{site_step, is_refused, refused_or, on_event, envelopes, reply_to, order_to, machine_of}
use Rattle.agreement.specs.Worlds as worlds
use Rattle.agreement.specs.Worlds.{World, Replied, Happening, Course, Ends, FallsOver, MayHappen, Happens, EndsIn, stepped, replied}
use Rattle.agreement.specs.Progress as sites_alone
use Rattle.pvp_book.specs.Ledger.{opening}
use Rattle.rtgs_node.specs.declared.event.NodeEvent.TheVariants as node
use Rattle.rtgs_node.specs.Node.{Envelope}
use Rattle.headline.specs.declared.step.ClientEvent.TheVariants as client
use Rattle.headline.specs.declared.step.Move.{Move}
use Rattle.headline.specs.declared.step.Move.TheVariants.{Takes}
use Rattle.headline.specs.declared.step.Turn.{Turn}
use Rattle.headline.specs.declared.step.Turn.TheVariants.{OfSite}
use Rattle.headline.specs.Machine.{book}
use Rattle.headline.proofs.Turns.{turn_of_site}
use Rattle.headline.specs.Bank.{Bank, delivery, turn, turn_of, with_site}
use Rattle.headline.specs.Legal.{Leads, IsRun}
use Rattle.headline.specs.Progress.{IsGentle}
use Rattle.headline.proofs.Basics.{and_left, place_of, map-has, filter_map-in}
use Rattle.headline.proofs.Invariant.{SitesWorld}

le_yes : (a b : ℕ) → a ≤ b → nat_le a b ≡ true
le_yes a b h = grind (arith, nat_tests, h)

eq_is : (a b : ℕ) → (a == b) ≡ true → a ≡ b
eq_is a b e = grind (arith, e)

if_false : {A : Type 0} (b : Bool) (x y : A) → b ≡ false → (if b then x else y) ≡ y
if_false true x y e = absurd (true≢false e)
if_false false x y e = refl

not_zero : (n : ℕ) → (n + 1 == 0) ≡ false
not_zero n = by (n + 1 == 0) refl
  where
    by : (t : Bool) → (n + 1 == 0) ≡ t → t ≡ false
    by true e = absurd (let d : n + 1 ≡ 0 = eq_is (n + 1) 0 e in omega arith)
    by false e = refl

module _ (setup : Setup) (choose : Choice Cmd) (f : ℕ) where
  -- the sites of the world are the bank's, and what they sent is in the post
  pub record Beside (world : SitesWorld) (bank : Bank) : Type 0 where
    pub sites : world.sites ≡ bank.sites
    pub back : (e : Envelope) → Contains world.sent e → Contains bank.post e
    pub told : (r : Replied Cmd) (e : Envelope) → Contains world.replies r → reply_to book (opening setup) r.from r.sender r.place ≡ Some e
        → Contains bank.post e

  -- the bank after a move of a site alone
  pub record OneLifted (bank : Bank) (next : SitesWorld) : Type 0 where
    pub move : Move
    pub after : Bank
    pub leads : Leads setup choose f bank move after
    pub gentle : IsGentle move
    pub beside : Beside next after
    pub nodes : after.nodes ≡ bank.nodes
    pub clients : after.clients ≡ bank.clients
    pub post : (e : Envelope) → Contains bank.post e → Contains after.post e

  -- an envelope that a site does not refuse is addressed to it
  addressed : (i : ℕ) (x : Site Cmd) (e : Envelope) → is_refused (site_step {R = Answer} {O = PaymentOrder} choose f i x (Deliver e)).ending ≡ false
      → e.to ≡ actor_of i
  addressed i x e taken = by (is_down x.status) (is_mine f i e) refl taken
    where
      by : (down mine : Bool) → is_mine f i e ≡ mine
          → is_refused (refused_or x (if down then Some NotUp else if not mine then Some NotMine else None) (on_event choose f i x (Deliver e))).ending ≡ false
          → e.to ≡ actor_of i
      by true mine is h = absurd (true≢false h)
      by false false is h = absurd (true≢false h)
      by false true is h = eq_is e.to (actor_of i) (and_left (e.to == actor_of i) (may_send f i e.from e.msg) is)

  module _ (world : SitesWorld) (bank : Bank) (b : Beside world bank) where
    -- a step of a site, by the move whose turn it is
    pub by_move : (i : ℕ) (event : EventOf Cmd Answer PaymentOrder) (x : Site Cmd) → slice_get world.sites i ≡ Some x
        → is_refused (site_step {R = Answer} {O = PaymentOrder} choose f i x event).ending ≡ false
        → (step : Step) → turn bank.post step ≡ Some (OfSite i event) → IsGentle (Takes step) → OneLifted bank (stepped world i (site_step choose f i x event))
    by_move i event x there allowed step is gentle = record {
      move = Takes step;
      after = with_site bank i taken.site new;
      leads =
          record {
            turn_is = OfSite i event;
            has_turn = is;
            acts = record { before = x; is_there = ap (λ (l : List (Site Cmd)). slice_get l i) (sym b.sites) ∙ there; allowed = allowed; leads = refl };
          };
      gentle = gentle;
      beside = record {
        sites = ap (λ (l : List (Site Cmd)). slice_set l i taken.site) b.sites;
        back = λ e in'. back_by e (Contains-append_cases world.sent taken.sent e in');
        told = λ r e in' is'. told_by r e is' (Contains-append_cases world.replies (replied i taken) r in');
      };
      nodes = refl;
      clients = refl;
      post = λ e in'. Contains-append_left bank.post new e in';
    }
      where
        taken : site.Step Cmd Answer PaymentOrder
        taken = site_step choose f i x event

        new : List Envelope
        new = envelopes book (opening setup) i taken

        said : List Envelope
        said = filter_map (reply_to book (opening setup) i taken.site) taken.replies

        ordered : List Envelope
        ordered = if taken.orders then map (order_to i) (book.orders (machine_of book (opening setup) taken.site)) else []

        back_by : (e : Envelope) → Contains world.sent e ⊎ Contains taken.sent e → Contains (bank.post ++ new) e
        back_by e (inl old) = Contains-append_left bank.post new e (b.back e old)
        back_by e (inr sent) =
            Contains-append_right bank.post new e (Contains-append_left (taken.sent ++ said) ordered e (Contains-append_left taken.sent said e sent))

        told_by : (r : Replied Cmd) (e : Envelope) → reply_to book (opening setup) r.from r.sender r.place ≡ Some e
            → Contains world.replies r ⊎ Contains (replied i taken) r → Contains (bank.post ++ new) e
        told_by r e is' (inl old) = Contains-append_left bank.post new e (b.told r e old is')
        told_by r e is' (inr fresh) =
            let t = map-has (λ place. record { from = i; sender = taken.site; place = place }) taken.replies r fresh in
            let same : reply_to book (opening setup) i taken.site t.0 ≡ Some e =
            ap (λ (q : Replied Cmd). reply_to book (opening setup) q.from q.sender q.place) t.2 ∙ is' in
            Contains-append_right bank.post new e (Contains-append_left (taken.sent ++ said) ordered e
            (Contains-append_right taken.sent said e (filter_map-in (reply_to book (opening setup) i taken.site) taken.replies t.0 e t.1 same)))

    -- an envelope of the post comes to a site
    pub by_delivery : (i : ℕ) (e : Envelope) (x : Site Cmd) → slice_get world.sites i ≡ Some x → Contains bank.post e
        → is_refused (site_step {R = Answer} {O = PaymentOrder} choose f i x (Deliver e)).ending ≡ false
        → OneLifted bank (stepped world i (site_step choose f i x (Deliver e)))
    by_delivery i e x there posted allowed =
        let t = place_of bank.post e posted in
        let to = addressed i x e allowed in
        by_move i (Deliver e) x there allowed (Delivers (t.0 + 1))
        (numbered t.0 e t.1 ∙ ap (λ (u : Turn). Some u) (ap (λ (n : ℕ). turn_of n (Deliver e) (node.Takes e) (client.Takes e)) to
        ∙ turn_of_site (Deliver e) (node.Takes e) (client.Takes e) i)) tt
      where
        numbered : (n : ℕ) (e : Envelope) → slice_get bank.post n ≡ Some e → turn bank.post (Delivers (n + 1)) ≡ Some (delivery e)
        numbered n e there =
            if_false (n + 1 == 0) _ _ (not_zero n) ∙ (ap (λ (m : ℕ). option_map delivery (slice_get bank.post m)) (let d : (n + 1) - 1 ≡ n = omega arith in d)
            ∙ ap (option_map delivery) there)

    -- one gentle event
    one_lifted : (next : SitesWorld) (h : Happening Cmd Answer PaymentOrder) → Happens choose f world h next → sites_alone.IsGentleTurn h → OneLifted bank next
    one_lifted next h p gentle = by_course h.course gentle.1 p.ends
      where
        by_event : (event : EventOf Cmd Answer PaymentOrder) → sites_alone.IsGentle event → MayHappen world.sent event
            → is_refused (site_step {R = Answer} {O = PaymentOrder} choose f h.site p.before event).ending ≡ false
            → OneLifted bank (stepped world h.site (site_step choose f h.site p.before event))
        by_event (Deliver e) kind (inl request) allowed = absurd (true≢false (sym request ∙ kind))
        by_event (Deliver e) kind (inr sent) allowed = by_delivery h.site e p.before p.is_there (b.back e sent) allowed
        by_event Timer kind may allowed = by_move h.site Timer p.before p.is_there allowed (Times h.site) refl tt
        by_event Beat kind may allowed =
            by_move h.site Beat p.before p.is_there allowed (Beats (actor_of h.site))
            (ap (λ (u : Turn). Some u) (turn_of_site Beat node.Beats client.Beats h.site)) tt
        by_event Crash kind may allowed = absurd kind
        by_event Restart kind may allowed = by_move h.site Restart p.before p.is_there allowed (Restarts h.site) refl tt

        by_course : (course : Course) → course ≡ Ends → EndsIn world h.site p.before (site_step choose f h.site p.before h.event) course next
            → OneLifted bank next
        by_course Ends is ends = subst (λ (w : SitesWorld). OneLifted bank w) (sym ends.1) (by_event h.event gentle.0 p.may_happen ends.0)
        by_course (FallsOver cell) is ends = absurd (cc)

  -- a whole run
  pub record Lifted (bank : Bank) (after : SitesWorld) : Type 0 where
    pub moves : List Move
    pub end : Bank
    pub run : IsRun setup choose f bank moves end
    pub gentle : All IsGentle moves
    pub beside : Beside after end
    pub nodes : end.nodes ≡ bank.nodes
    pub clients : end.clients ≡ bank.clients
    pub post : (e : Envelope) → Contains bank.post e → Contains end.post e

  lift_run : (events : List (Happening Cmd Answer PaymentOrder)) (world after : SitesWorld) (bank : Bank) → Beside world bank
      → worlds.IsRun choose f world events after → All sites_alone.IsGentleTurn events → Lifted bank after
  lift_run [] world after bank b run gentle = record {
    moves = [];
    end = bank;
    run = refl;
    gentle = All-nil IsGentle;
    beside = subst (λ (w : SitesWorld). Beside w bank) (sym run) b;
    nodes = refl;
    clients = refl;
    post = λ e in'. in';
  }
  lift_run (h ∷ hs) world after bank b run gentle =
      let one = one_lifted world bank b run.0 h run.1 (All-head sites_alone.IsGentleTurn h hs gentle) in
      let rest = lift_run hs run.0 after one.after one.beside run.2 (All-tail sites_alone.IsGentleTurn h hs gentle) in
      record {
        moves = one.move ∷ rest.moves;
        end = rest.end;
        run = (one.after, one.leads, rest.run);
        gentle = All-cons IsGentle one.move rest.moves one.gentle rest.gentle;
        beside = rest.beside;
        nodes = rest.nodes ∙ one.nodes;
        clients = rest.clients ∙ one.clients;
        post = λ e in'. rest.post e (one.post e in');
      }

  pub lift : (world after : SitesWorld) (bank : Bank) → Beside world bank → sites_alone.GoesTo choose f world after → Lifted bank after
  lift world after bank b goes = lift_run goes.events world after bank b goes.run goes.gentle
