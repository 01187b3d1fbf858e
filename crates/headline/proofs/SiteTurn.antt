-- A site's step, or its fall, keeps the invariant.
use Rattle.std.proofs.Common.{◌≡◌, ◌⊎◌, inl, inr, ℕ, ◌-◌, ◌<◌, ◌≤◌, ◌==◌, Bool, true, false, not, if◌then◌else◌, List, [], ◌∷◌, ◌++◌, length, map, take, drop, slice_get, slice_set, Option, Some, None, option_map, refl, sym, ap, ◌∙◌, subst, take-append-drop, arith, true≢false}
use Rattle.std.specs.Prelude.{Contains}
use Rattle.std.specs.List.{filter_map}
use Rattle.std.proofs.lemmas.Bool.{cases_lt}
use Rattle.std.proofs.lemmas.List.{take_all}
use Rattle.std.proofs.lemmas.List.Elements.{All-contains, Contains-append_left, Contains-append_right, Contains-append_cases}
use Rattle.pvp_types.specs.declared.setup.Setup.{Setup}
use Rattle.pvp_types.specs.declared.command.Cmd.{Cmd}
use Rattle.pvp_types.specs.declared.command.Reply.{Reply as Answer}
use Rattle.pvp_types.specs.declared.command.PayOrder.{PayOrder as PaymentOrder}
use Rattle.vr_types.specs.declared.cell.Boot.{Boot}
use Rattle.vr_types.specs.declared.event.EventOf.{EventOf}
use Rattle.vr_types.specs.declared.event.EventOf.TheVariants.{Deliver, Timer, Beat, Crash, Restart}
use Rattle.vr_types.specs.declared.event.SiteFault.TheVariants.{NotUp, NotMine}
use Rattle.vr_types.specs.declared.event.Status.TheVariants.{Down}
use Rattle.vr_types.specs.declared.message.MsgOf.{MsgOf}
use Rattle.vr_types.specs.declared.message.MsgOf.TheVariants.{Request, Reply, PayOrder}
use Rattle.vr_types.specs.declared.message.ReplyOf.{ReplyOf}
use Rattle.vr_types.specs.Execution.{held_after}
use Rattle.vr_types.specs.Group.{actor_of, may_send, is_mine}
use Rattle.vr_types.specs.Site.{Site, is_running, is_down, over, executed_rows}
use Rattle.vr_types.specs.Choice.{Choice, IsRight}
use Rattle.vr_types.specs.Step as site
use Rattle.vr_types.specs.Handling.{refused_or, on_event, site_step, is_refused, IsFall, reply_to, order_to, machine_of, envelopes}
use Rattle.agreement.specs.Worlds as worlds
use Rattle.agreement.specs.Worlds.{World, Replied, Course, Ends, FallsOver, Happening, step_of, MayHappen, Happens, replied, stepped, fallen}
use Rattle.vr_types.specs.Messages.{is_request}
use Rattle.agreement.specs.Promises.{Begins, WasAsked, request_of}
use Rattle.agreement.proofs.Asked.{legal_rows}
use Rattle.agreement.proofs.Beginnings.{begins_itself, begins-trans}
use Rattle.agreement.proofs.Laws.{first_rows}
use Rattle.pvp_book.specs.Ledger.{Ledger, opening, outstanding_orders}
use Rattle.pvp_book.specs.Orders.{orders}
use Rattle.pvp_book.specs.Answer.{Row, after_rows, book_of}
use Rattle.headline.specs.Machine.{book}
use Rattle.rtgs_node.specs.Node.{Envelope}
use Rattle.headline.specs.declared.step.Move.{Move}
use Rattle.headline.specs.Bank.{Bank, with_site}
use Rattle.headline.specs.Legal.{Leads}
use Rattle.headline.proofs.Basics.{and_right, none-some, some-same, there, set-here, set-has, push-has, map-has, map-in, filter_map-has, filter_map-in}
use Rattle.headline.proofs.Between.{is_between, step_between}
use Rattle.headline.proofs.Books.{held-is, due-ordered, ordered-more}
use Rattle.headline.proofs.Runs.{happens-more, legal-more, moment-now, moment-more}
use Rattle.headline.proofs.Invariant.{AsksAs, IsAsked, SitesWorld, SitesEvents, IsOrder, IsReply, Holds, HoldsOn}

-- KINDS OF MESSAGES

-- what a site takes is a REQUEST, or of a kind that goes between sites
taken-kind : (f me actor : ℕ) (msg : MsgOf Cmd Answer PaymentOrder) → may_send f me actor msg ≡ true → (is_request msg ≡ true) ⊎ (is_between msg ≡ true)
taken-kind f me actor (Request msg) e = inl refl
taken-kind f me actor (Reply msg) e = absurd (true≢false (sym e))
taken-kind f me actor (PayOrder order) e = absurd (true≢false (sym e))
taken-kind f me actor _ e = inr refl

-- an envelope that is not refused is for this site
not-refused : (x : Site Cmd) (down mine : Bool) (step : site.Step Cmd Answer PaymentOrder)
    → is_refused (refused_or x (if down then Some NotUp else if not mine then Some NotMine else None) step).ending ≡ false → mine ≡ true
not-refused x true mine step e = absurd (true≢false e)
not-refused x false true step e = refl
not-refused x false false step e = absurd (true≢false e)

-- what one has executed is in its log
pub executed-has : (x : Site Cmd) (row : Row) → Contains (executed_rows x) row → Contains x.log row
executed-has x row in' = by (is_running x.status) in'
  where
    by : (b : Bool) → Contains (if b then take x.done x.log else []) row → Contains x.log row
    by true h = subst (λ (l : List Row). Contains l row) (take-append-drop x.done x.log) (Contains-append_left (take x.done x.log) (drop x.done x.log) row h)
    by false h = absurd (let low = h.1 in omega arith)

module _ (setup : Setup) (choose : Choice Cmd) (f : ℕ) (cells : List Boot) where
  -- an order stays one as moves go on and the history grows
  pub order-more : (moves : List Move) (bank : Bank) (move : Move) (after : Bank) (history longer : List Row) (c : ℕ) (o : PaymentOrder)
      → Leads setup choose f bank move after → Begins history longer
      → IsOrder setup choose f cells moves bank history c o → IsOrder setup choose f cells (moves ++ move ∷ []) after longer c o
  order-more moves bank move after history longer c o leads b t = record {
    moment = moment-more setup choose f cells moves bank move after leads t.moment;
    by = t.by;
    ordered = ordered-more setup history longer c o b t.ordered;
  }

  -- and so does a REPLY, in a world of sites that has all that were ever sent
  pub reply-more : (moves : List Move) (bank : Bank) (move : Move) (after : Bank) (world next : SitesWorld) (e : Envelope)
      → Leads setup choose f bank move after → ((r : Replied Cmd) → Contains world.replies r → Contains next.replies r)
      → IsReply setup choose f cells moves bank world e → IsReply setup choose f cells (moves ++ move ∷ []) after next e
  reply-more moves bank move after world next e leads kept t = record {
    reply = t.reply;
    moment = moment-more setup choose f cells moves bank move after leads t.moment;
    is_there = t.is_there;
    among = kept t.reply t.among;
    is = t.is;
  }

-- where both agree as far as both go, one begins the other
either-begins : (xs ys : List Row) → ((n : ℕ) → n ≤ length xs → n ≤ length ys → take n xs ≡ take n ys) → Begins xs ys ⊎ Begins ys xs
either-begins xs ys agree = by (cases_lt (length ys) (length xs))
  where
    whole : (us vs : List Row) → length us ≤ length vs → take (length us) us ≡ take (length us) vs → Begins us vs
    whole us vs low e = record {
      rest = drop (length us) vs;
      is = ap (λ (l : List Row). l ++ drop (length us) vs) (sym (take_all (length us) us (omega arith)) ∙ e) ∙ take-append-drop (length us) vs;
    }

    by : (length ys < length xs) ⊎ (length xs ≤ length ys) → Begins xs ys ⊎ Begins ys xs
    by (inl h) = inr (whole ys xs (omega arith) (sym (agree (length ys) (omega arith) (omega arith))))
    by (inr h) = inl (whole xs ys h (agree (length xs) (omega arith) h))

-- what a site's step sends: to sites, answers, orders
abbrev New : Envelope → List Envelope → List (ℕ × PaymentOrder) → Type 0
New e sent due =
    Contains sent e
    ⊎ ((said : ReplyOf Answer) × (e.msg ≡ Reply said))
    ⊎ ((d : ℕ × PaymentOrder) × Contains due d × (e.msg ≡ PayOrder d.1))

module _ (setup : Setup) (choose : Choice Cmd) (f : ℕ) (cells : List Boot) (right : IsRight f choose) (moves : List Move) (bank : Bank)
    (h : Holds setup choose f cells moves bank) (move : Move) where
  module _ (i : ℕ) (event : EventOf Cmd Answer PaymentOrder) (x : Site Cmd) (is_there : slice_get bank.sites i ≡ Some x)
      (allowed : is_refused (site_step {R = Answer} {O = PaymentOrder} choose f i x event).ending ≡ false)
      (arrived : (e : Envelope) → event ≡ Deliver e → Contains bank.post e) where
    abbrev step : site.Step Cmd Answer PaymentOrder
    step = site_step choose f i x event

    abbrev new : List Envelope
    new = envelopes book (opening setup) i step

    abbrev after : Bank
    after = with_site bank i step.site new

    abbrev happening : Happening Cmd Answer PaymentOrder
    happening = step_of i event

    abbrev next : SitesWorld
    next = stepped h.world i step

    there_alone : slice_get h.world.sites i ≡ Some x
    there_alone = ap (λ (l : List (Site Cmd)). slice_get l i) h.sites ∙ is_there

    -- the sites alone may take the step
    may : MayHappen h.world.sent event
    may = by event arrived allowed
      where
        by : (v : EventOf Cmd Answer PaymentOrder) → ((e : Envelope) → v ≡ Deliver e → Contains bank.post e)
            → is_refused (site_step {R = Answer} {O = PaymentOrder} choose f i x v).ending ≡ false → MayHappen h.world.sent v
        by (Deliver e) came ok =
            by_kind (taken-kind f i e.from e.msg (and_right (e.to == actor_of i) (may_send f i e.from e.msg)
            (not-refused x (is_down x.status) (is_mine f i e) (on_event choose f i x (Deliver e)) ok)))
          where
            by_kind : (is_request e.msg ≡ true) ⊎ (is_between e.msg ≡ true) → (is_request e.msg ≡ true) ⊎ Contains h.world.sent e
            by_kind (inl request) = inl request
            by_kind (inr kind) = inr (h.between e (came e refl) kind)
        by Timer came ok = tt
        by Beat came ok = tt
        by Crash came ok = tt
        by Restart came ok = tt

    happens : Happens choose f h.world happening next
    happens = record { before = x; is_there = there_alone; may_happen = may; ends = (allowed, refl) }

    alone_too : worlds.IsLegal choose f cells (h.events ++ happening ∷ []) next
    alone_too = record { all = h.alone.all; run = happens-more choose f (worlds.opening_world f cells) h.events h.world next happening h.alone.run happens }

    is_next : Contains next.sites step.site
    is_next = there next.sites i step.site (set-here h.world.sites i x step.site there_alone)

    -- what was asked for

    asked_too : (j : ℕ) (e : Envelope) → Contains (h.events ++ happening ∷ []) (step_of j (Deliver e)) → IsAsked bank.nodes e
    asked_too j e in' = by (push-has h.events happening (step_of j (Deliver e)) in')
      where
        by : Contains h.events (step_of j (Deliver e)) ⊎ (happening ≡ step_of j (Deliver e)) → IsAsked bank.nodes e
        by (inl old) = h.asked j e old
        by (inr same) = h.requests e (arrived e (ap (λ (k : Happening Cmd Answer PaymentOrder). k.event) same))

    rows_asked : (row : Row) → Contains (executed_rows step.site) row → AsksAs bank.nodes row.client row.number row.cmd
    rows_asked row in' =
        let kept = (legal_rows choose f right cells (h.events ++ happening ∷ []) next alone_too).sites step.site is_next in
        let was : WasAsked (h.events ++ happening ∷ []) row =
        All-contains (WasAsked (h.events ++ happening ∷ [])) step.site.log row kept.log (executed-has step.site row in') in
        asked_too was.site (request_of was.to row) was.taken (record { number = row.number; cmd = row.cmd }) refl

    -- THE HISTORY after the step
    record Longer : Type 0 where
      rows : List Row
      from : Begins h.history rows
      covers : Begins (executed_rows step.site) rows
      one : (more : SitesEvents) (later : SitesWorld) (y : Site Cmd) → worlds.IsRun choose f next more later → Contains later.sites y
          → Begins (executed_rows y) rows ⊎ Begins rows (executed_rows y)
      asked : (row : Row) → Contains rows row → AsksAs bank.nodes row.client row.number row.cmd

    longer : Longer
    longer = by (h.one (happening ∷ []) next step.site (next, happens, refl) is_next)
      where
        by : Begins (executed_rows step.site) h.history ⊎ Begins h.history (executed_rows step.site) → Longer
        by (inl short) = record {
          rows = h.history;
          from = begins_itself h.history;
          covers = short;
          one = λ more later y run in'. h.one (happening ∷ more) later y (next, happens, run) in';
          asked = h.rows;
        }
        by (inr long) = record {
          rows = executed_rows step.site;
          from = long;
          covers = begins_itself (executed_rows step.site);
          one = λ more later y run in'. flip (either-begins (executed_rows step.site) (executed_rows y)
              (λ n low high. first_rows choose f right cells (h.events ++ happening ∷ []) more next later alone_too run step.site y n is_next in' low high));
          asked = rows_asked;
        }
          where
            flip : {A B : Type 0} → A ⊎ B → B ⊎ A
            flip (inl a) = inr a
            flip (inr b) = inl b

    -- WHAT IS SENT

    ledger : machine_of book (opening setup) step.site ≡ after_rows (opening setup) (executed_rows step.site)
    ledger = held-is (opening setup) (executed_rows step.site)

    due_orders : (d : ℕ × PaymentOrder) → Contains (book.orders (machine_of book (opening setup) step.site)) d
        → Contains (orders (book_of setup (executed_rows step.site)) d.1.ccy) d.1
    due_orders d in' =
        due-ordered (after_rows (opening setup) (executed_rows step.site)).setup (book_of setup (executed_rows step.site)) d
        (subst (λ (held : Ledger). Contains (outstanding_orders held.setup held.entries) d) ledger in')

    abbrev machine_before : ℕ → Ledger
    machine_before place = held_after book (opening setup) (take (place - 1) step.site.log)

    is_reply : (e : Envelope) (place : ℕ) → reply_to book (opening setup) i step.site place ≡ Some e → (said : ReplyOf Answer) × (e.msg ≡ Reply said)
    is_reply e place same = by (slice_get step.site.log (place - 1)) same
      where
        by : (found : Option Row)
            → option_map (λ (row : Row). record {
              from = actor_of i;
              to = row.client;
              msg = Reply (record { view = step.site.view; number = row.number; reply = book.answer (machine_before place) row.client row.cmd });
            }) found
            ≡ Some e
            → (said : ReplyOf Answer) × (e.msg ≡ Reply said)
        by None none = absurd (none-some e none)
        by (Some row) some = (
          record { view = step.site.view; number = row.number; reply = book.answer (machine_before place) row.client row.cmd },
          sym (ap (λ (d : Envelope). d.msg) (some-same _ e some)),
        )

    abbrev due : List (ℕ × PaymentOrder)
    due = book.orders (machine_of book (opening setup) step.site)

    abbrev replies : List Envelope
    replies = filter_map (reply_to book (opening setup) i step.site) step.replies

    abbrev orders_out : List Envelope
    orders_out = if step.orders then map (order_to i) due else []

    sorted : (e : Envelope) → Contains new e → New e step.sent due
    sorted e in' = by_part (Contains-append_cases (step.sent ++ replies) orders_out e in')
      where
        by_due : (b : Bool) → Contains (if b then map (order_to i) due else []) e → New e step.sent due
        by_due true ordered = let t = map-has (order_to i) due e ordered in inr (inr (t.0, t.1, sym (ap (λ (d : Envelope). d.msg) t.2)))
        by_due false ordered = absurd (let low = ordered.1 in omega arith)

        by_first : Contains step.sent e ⊎ Contains replies e → New e step.sent due
        by_first (inl sent) = inl sent
        by_first (inr reply) = let t = filter_map-has (reply_to book (opening setup) i step.site) step.replies e reply in inr (inl (is_reply e t.0 t.2))

        by_part : Contains (step.sent ++ replies) e ⊎ Contains orders_out e → New e step.sent due
        by_part (inl first) = by_first (Contains-append_cases step.sent replies e first)
        by_part (inr ordered) = by_due step.orders ordered

    sent-kind : (e : Envelope) → Contains step.sent e → is_between e.msg ≡ true
    sent-kind e in' =
        All-contains (λ (d : Envelope). is_between d.msg ≡ true) step.sent e (step_between {R = Answer} {O = PaymentOrder} f i x choose event).sent in'

    reply-place : (e : Envelope) (said : ReplyOf Answer) → Contains new e → e.msg ≡ Reply said
        → (place : ℕ) × Contains step.replies place × (reply_to book (opening setup) i step.site place ≡ Some e)
    reply-place e said in' is = by_part (Contains-append_cases (step.sent ++ replies) orders_out e in')
      where
        by_due : (b : Bool) → Contains (if b then map (order_to i) due else []) e
            → (place : ℕ) × Contains step.replies place × (reply_to book (opening setup) i step.site place ≡ Some e)
        by_due true ordered = let t = map-has (order_to i) due e ordered in let same = ap (λ (d : Envelope). d.msg) t.2 ∙ is in absurd (cc)
        by_due false ordered = absurd (let low = ordered.1 in omega arith)

        by_first : Contains step.sent e ⊎ Contains replies e
            → (place : ℕ) × Contains step.replies place × (reply_to book (opening setup) i step.site place ≡ Some e)
        by_first (inl sent) = absurd (true≢false (sym (sent-kind e sent) ∙ ap is_between is))
        by_first (inr reply) = filter_map-has (reply_to book (opening setup) i step.site) step.replies e reply

        by_part : Contains (step.sent ++ replies) e ⊎ Contains orders_out e
            → (place : ℕ) × Contains step.replies place × (reply_to book (opening setup) i step.site place ≡ Some e)
        by_part (inl first) = by_first (Contains-append_cases step.sent replies e first)
        by_part (inr ordered) = by_due step.orders ordered

    -- THE INVARIANT AFTER THE STEP

    module _ (leads : Leads setup choose f bank move after) where
      post_cases : (e : Envelope) → Contains after.post e → Contains bank.post e ⊎ New e step.sent due
      post_cases e in' = by (Contains-append_cases bank.post new e in')
        where
          by : Contains bank.post e ⊎ Contains new e → Contains bank.post e ⊎ New e step.sent due
          by (inl old) = inl old
          by (inr fresh) = inr (sorted e fresh)

      between_too : (e : Envelope) → Contains after.post e → is_between e.msg ≡ true → Contains next.sent e
      between_too e in' kind = by (post_cases e in')
        where
          by : Contains bank.post e ⊎ New e step.sent due → Contains next.sent e
          by (inl old) = Contains-append_left h.world.sent step.sent e (h.between e old kind)
          by (inr (inl sent)) = Contains-append_right h.world.sent step.sent e sent
          by (inr (inr (inl reply))) = absurd (true≢false (sym kind ∙ ap is_between reply.1))
          by (inr (inr (inr ordered))) = absurd (true≢false (sym kind ∙ ap is_between ordered.2))

      arrived_too : (j : ℕ) (e : Envelope) → Contains (h.events ++ happening ∷ []) (step_of j (Deliver e)) → Contains after.post e
      arrived_too j e in' = by (push-has h.events happening (step_of j (Deliver e)) in')
        where
          by : Contains h.events (step_of j (Deliver e)) ⊎ (happening ≡ step_of j (Deliver e)) → Contains after.post e
          by (inl old) = Contains-append_left bank.post new e (h.arrived j e old)
          by (inr same) = Contains-append_left bank.post new e (arrived e (ap (λ (k : Happening Cmd Answer PaymentOrder). k.event) same))

      back_too : (e : Envelope) → Contains next.sent e → Contains after.post e
      back_too e in' = by (Contains-append_cases h.world.sent step.sent e in')
        where
          by : Contains h.world.sent e ⊎ Contains step.sent e → Contains after.post e
          by (inl old) = Contains-append_left bank.post new e (h.back e old)
          by (inr sent) =
              Contains-append_right bank.post new e (Contains-append_left (step.sent ++ replies) orders_out e (Contains-append_left step.sent replies e sent))

      told_too : (r : Replied Cmd) (e : Envelope) → Contains next.replies r → reply_to book (opening setup) r.from r.sender r.place ≡ Some e
          → Contains after.post e
      told_too r e in' is = by (Contains-append_cases h.world.replies (replied i step) r in')
        where
          by : Contains h.world.replies r ⊎ Contains (replied i step) r → Contains after.post e
          by (inl old) = Contains-append_left bank.post new e (h.told r e old is)
          by (inr fresh) =
              let t = map-has (λ place. record { from = i; sender = step.site; place = place }) step.replies r fresh in
              let same : reply_to book (opening setup) i step.site t.0 ≡ Some e =
              ap (λ (q : Replied Cmd). reply_to book (opening setup) q.from q.sender q.place) t.2 ∙ is in
              Contains-append_right bank.post new e (Contains-append_left (step.sent ++ replies) orders_out e
              (Contains-append_right step.sent replies e (filter_map-in (reply_to book (opening setup) i step.site) step.replies t.0 e t.1 same)))

      requests_too : (e : Envelope) → Contains after.post e → IsAsked bank.nodes e
      requests_too e in' asked is = by (post_cases e in')
        where
          by : Contains bank.post e ⊎ New e step.sent due → AsksAs bank.nodes e.from asked.number asked.cmd
          by (inl old) = h.requests e old asked is
          by (inr (inl sent)) = absurd (true≢false (sym (sent-kind e sent) ∙ ap is_between is))
          by (inr (inr (inl reply))) = let same = sym is ∙ reply.1 in absurd (cc)
          by (inr (inr (inr ordered))) = let same = sym is ∙ ordered.2 in absurd (cc)

      ordered_now : (c : ℕ) (o : PaymentOrder) → Contains (orders (book_of setup (executed_rows step.site)) c) o
          → IsOrder setup choose f cells (moves ++ move ∷ []) after longer.rows c o
      ordered_now c o in' = record {
        moment = moment-now setup choose f cells (moves ++ move ∷ []) after (legal-more setup choose f cells moves bank move after h.legal leads);
        by = record {
          site = step.site;
          among = there after.sites i step.site (set-here bank.sites i x step.site is_there);
          ordered = in';
        };
        ordered = ordered-more setup (executed_rows step.site) longer.rows c o longer.covers in';
      }

      orders_too : (e : Envelope) (o : PaymentOrder) → Contains after.post e → e.msg ≡ PayOrder o
          → IsOrder setup choose f cells (moves ++ move ∷ []) after longer.rows o.ccy o
      orders_too e o in' is = by (post_cases e in')
        where
          by : Contains bank.post e ⊎ New e step.sent due → IsOrder setup choose f cells (moves ++ move ∷ []) after longer.rows o.ccy o
          by (inl old) = order-more setup choose f cells moves bank move after h.history longer.rows o.ccy o leads longer.from (h.orders e o old is)
          by (inr (inl sent)) = absurd (true≢false (sym (sent-kind e sent) ∙ ap is_between is))
          by (inr (inr (inl reply))) = let same = sym is ∙ reply.1 in absurd (cc)
          by (inr (inr (inr ordered))) =
              let same : ordered.0.1 ≡ o = let e = sym ordered.2 ∙ is in cc in
              ordered_now o.ccy o (subst (λ (d : PaymentOrder). Contains (orders (book_of setup (executed_rows step.site)) d.ccy) d) same
              (due_orders ordered.0 ordered.1))

      replies_too : (e : Envelope) (said : ReplyOf Answer) → Contains after.post e → e.msg ≡ Reply said
          → IsReply setup choose f cells (moves ++ move ∷ []) after next e
      replies_too e said in' is = by (Contains-append_cases bank.post new e in')
        where
          by : Contains bank.post e ⊎ Contains new e → IsReply setup choose f cells (moves ++ move ∷ []) after next e
          by (inl old) =
              reply-more setup choose f cells moves bank move after h.world next e leads (λ r in'. Contains-append_left h.world.replies (replied i step) r in')
              (h.replies e said old is)
          by (inr fresh) =
              let t = reply-place e said fresh is in
              record {
                reply = record { from = i; sender = step.site; place = t.0 };
                moment = moment-now setup choose f cells (moves ++ move ∷ []) after (legal-more setup choose f cells moves bank move after h.legal leads);
                is_there = set-here bank.sites i x step.site is_there;
                among =
                    Contains-append_right h.world.replies (replied i step) _
                    (map-in (λ place. record { from = i; sender = step.site; place = place }) step.replies t.0 t.1);
                is = t.2;
              }

      pub site_steps : HoldsOn setup choose f cells h.history h.world (moves ++ move ∷ []) after
      site_steps = record {
        longer = longer.from;
        more = happening ∷ [];
        run = (next, happens, refl);
        holds = record {
          legal = legal-more setup choose f cells moves bank move after h.legal leads;
          events = h.events ++ happening ∷ [];
          world = next;
          alone = alone_too;
          sites = ap (λ (l : List (Site Cmd)). slice_set l i step.site) h.sites;
          history = longer.rows;
          begins = begins_too;
          one = longer.one;
          rows = longer.asked;
          asked = asked_too;
          between = between_too;
          arrived = arrived_too;
          back = back_too;
          told = told_too;
          requests = requests_too;
          orders = orders_too;
          replies = replies_too;
          count = h.count;
          people = h.people;
          nodes = h.nodes;
          done = λ c n o at in'. order-more setup choose f cells moves bank move after h.history longer.rows c o leads longer.from (h.done c n o at in');
        };
      }
        where
          begins_too : (y : Site Cmd) → Contains after.sites y → Begins (executed_rows y) longer.rows
          begins_too y in' = by (set-has bank.sites i step.site y in')
            where
              by : (step.site ≡ y) ⊎ Contains bank.sites y → Begins (executed_rows y) longer.rows
              by (inl same) = subst (λ (z : Site Cmd). Begins (executed_rows z) longer.rows) same longer.covers
              by (inr old) = begins-trans (h.begins y old) longer.from

  -- a fall
  module _ (i : ℕ) (event : EventOf Cmd Answer PaymentOrder) (x : Site Cmd) (is_there : slice_get bank.sites i ≡ Some x) (cell : Boot)
      (falls : IsFall x (site_step {R = Answer} {O = PaymentOrder} choose f i x event) (over cell Down))
      (arrived : (e : Envelope) → event ≡ Deliver e
      → Contains bank.post e) (leads : Leads setup choose f bank move (record bank { sites = slice_set bank.sites i (over cell Down) })) where
    abbrev fallen_bank : Bank
    fallen_bank = record bank { sites = slice_set bank.sites i (over cell Down) }

    abbrev fall : Happening Cmd Answer PaymentOrder
    fall = record { site = i; event = event; course = FallsOver cell }

    fall_happens : Happens choose f h.world fall (fallen h.world i cell)
    fall_happens = record {
      before = x;
      is_there = ap (λ (l : List (Site Cmd)). slice_get l i) h.sites ∙ is_there;
      may_happen = may i event x is_there falls.allowed arrived;
      ends = (falls, refl);
    }

    pub site_falls : HoldsOn setup choose f cells h.history h.world (moves ++ move ∷ []) fallen_bank
    site_falls = record {
      longer = begins_itself h.history;
      more = fall ∷ [];
      run = (fallen h.world i cell, fall_happens, refl);
      holds = record {
        legal = legal-more setup choose f cells moves bank move fallen_bank h.legal leads;
        events = h.events ++ fall ∷ [];
        world = fallen h.world i cell;
        alone =
            record {
              all = h.alone.all;
              run = happens-more choose f (worlds.opening_world f cells) h.events h.world (fallen h.world i cell) fall h.alone.run fall_happens;
            };
        sites = ap (λ (l : List (Site Cmd)). slice_set l i (over cell Down)) h.sites;
        history = h.history;
        begins = begins_too;
        one = λ more later y run in'. h.one (fall ∷ more) later y (fallen h.world i cell, fall_happens, run) in';
        rows = h.rows;
        asked = asked_too_at;
        between = λ e in' kind. h.between e in' kind;
        arrived = arrived_there;
        back = λ e in'. h.back e in';
        told = λ r e in' is. h.told r e in' is;
        requests = λ e in'. h.requests e in';
        replies =
            λ e said in' is. reply-more setup choose f cells moves bank move fallen_bank h.world (fallen h.world i cell) e leads (λ r old. old)
            (h.replies e said in' is);
        orders =
            λ e o in' is. order-more setup choose f cells moves bank move fallen_bank h.history h.history o.ccy o leads
            (begins_itself h.history) (h.orders e o in' is);
        count = h.count;
        people = h.people;
        nodes = h.nodes;
        done =
            λ c n o at in'. order-more setup choose f cells moves bank move fallen_bank h.history h.history c o leads
            (begins_itself h.history) (h.done c n o at in');
      };
    }
      where
        begins_too : (y : Site Cmd) → Contains fallen_bank.sites y → Begins (executed_rows y) h.history
        begins_too y in' = by (set-has bank.sites i (over cell Down) y in')
          where
            by : (over cell Down ≡ y) ⊎ Contains bank.sites y → Begins (executed_rows y) h.history
            by (inl same) = subst (λ (z : Site Cmd). Begins (executed_rows z) h.history) same (record { rest = h.history; is = refl })
            by (inr old) = h.begins y old

        arrived_there : (j : ℕ) (e : Envelope) → Contains (h.events ++ fall ∷ []) (step_of j (Deliver e)) → Contains bank.post e
        arrived_there j e in' = by (push-has h.events fall (step_of j (Deliver e)) in')
          where
            by : Contains h.events (step_of j (Deliver e)) ⊎ (fall ≡ step_of j (Deliver e)) → Contains bank.post e
            by (inl old) = h.arrived j e old
            by (inr same) = arrived e (ap (λ (k : Happening Cmd Answer PaymentOrder). k.event) same)

        asked_too_at : (j : ℕ) (e : Envelope) → Contains (h.events ++ fall ∷ []) (step_of j (Deliver e)) → IsAsked bank.nodes e
        asked_too_at j e in' = by (push-has h.events fall (step_of j (Deliver e)) in')
          where
            by : Contains h.events (step_of j (Deliver e)) ⊎ (fall ≡ step_of j (Deliver e)) → IsAsked bank.nodes e
            by (inl old) = h.asked j e old
            by (inr same) = h.requests e (arrived e (ap (λ (k : Happening Cmd Answer PaymentOrder). k.event) same))
