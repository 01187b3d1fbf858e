-- A node's step keeps the invariant.
use Rattle.std.proofs.Common.{◌≡◌, ◌⊎◌, inl, inr, ℕ, zero, suc, ◌-◌, true, List, [], ◌∷◌, ◌++◌, slice_get, slice_set, Option, Some, sym, ap, ◌∙◌, subst, arith, true≢false, refl}
use Rattle.std.specs.Prelude.{Contains}
use Rattle.std.proofs.lemmas.List.Elements.{Contains-append_left, Contains-append_cases}
use Rattle.pvp_types.specs.declared.setup.Setup.{Setup}
use Rattle.pvp_types.specs.declared.command.Cmd.{Cmd}
use Rattle.pvp_types.specs.declared.command.Reply.{Reply as Answer}
use Rattle.pvp_types.specs.declared.command.PayOrder.{PayOrder as PaymentOrder}
use Rattle.vr_types.specs.declared.cell.Boot.{Boot}
use Rattle.vr_types.specs.declared.message.MsgOf.TheVariants.{Reply, PayOrder}
use Rattle.vr_types.specs.declared.message.ReplyOf.{ReplyOf}
use Rattle.vr_types.specs.declared.message.RequestOf.{RequestOf}
use Rattle.vr_types.specs.Choice.{Choice}
use Rattle.pvp_book.specs.Ledger.{node_of}
use Rattle.rtgs_node.specs.declared.event.NodeEvent.TheVariants.{Takes}
use Rattle.rtgs_node.specs.declared.event.NodeEvent.{NodeEvent}
use Rattle.rtgs_node.specs.Node.{Envelope, Node, NodeStep, node_step}
use Rattle.headline.specs.declared.step.Move.{Move}
use Rattle.headline.specs.Bank.{Bank, with_node}
use Rattle.headline.specs.Legal.{Leads}
use Rattle.headline.proofs.Basics.{none-some, some-same, set-here, set-at, set-length}
use Rattle.headline.proofs.Between.{is_between}
use Rattle.headline.proofs.Runs.{legal-more}
use Rattle.agreement.proofs.Beginnings.{begins_itself}
use Rattle.headline.proofs.Invariant.{notices_of, notice_at, IsNotice, AsksAs, IsAsked, IsSoundNode, IsOrder, IsReply, Holds, HoldsOn}
use Rattle.headline.proofs.NodeSteps.{IsNoticeOf, IsOrdered, Keeps, node-keeps}
use Rattle.headline.proofs.SiteTurn.{order-more, reply-more}

-- notices stay where one node's grow
notice-grows : (nodes : List Node) (c : ℕ) (x y : Node) → slice_get nodes c ≡ Some x
    → ((i : ℕ) (cmd : Cmd) → slice_get x.notices i ≡ Some cmd → slice_get y.notices i ≡ Some cmd)
    → (d i : ℕ) (cmd : Cmd) → notice_at nodes d i ≡ Some cmd → notice_at (slice_set nodes c y) d i ≡ Some cmd
notice-grows [] c x y at grows d i cmd is = absurd (none-some x at)
notice-grows (z ∷ nodes) zero x y at grows zero i cmd is = grows i cmd (ap (λ (n : Node). slice_get n.notices i) (sym (some-same z x at)) ∙ is)
notice-grows (z ∷ nodes) zero x y at grows (suc d) i cmd is = is
notice-grows (z ∷ nodes) (suc c) x y at grows zero i cmd is = is
notice-grows (z ∷ nodes) (suc c) x y at grows (suc d) i cmd is = notice-grows nodes c x y at grows d i cmd is

node_of-one : (c d : ℕ) → node_of c ≡ node_of d → c ≡ d
node_of-one c d e = omega arith

module _ (setup : Setup) (choose : Choice Cmd) (f : ℕ) (cells : List Boot) (moves : List Move) (bank : Bank)
    (h : Holds setup choose f cells moves bank) (move : Move)
    (c : ℕ) (event : NodeEvent) (x : Node) (is_there : slice_get bank.nodes c ≡ Some x)
    (arrived : (e : Envelope) → event ≡ Takes e → Contains bank.post e) where
  abbrev step : NodeStep
  step = node_step setup f c x event

  abbrev after : Bank
  after = with_node bank c step.node step.sent

  keeps : Keeps c event x step
  keeps = node-keeps setup f c x event

  module _ (leads : Leads setup choose f bank move after) where
    notice-stays : (d number : ℕ) (cmd : Cmd) → IsNotice bank.nodes d number cmd → IsNotice after.nodes d number cmd
    notice-stays d number cmd is = record { counted = is.counted; is = notice-grows bank.nodes c x step.node is_there keeps.grows d (number - 1) cmd is.is }

    asks-stays : (client number : ℕ) (cmd : Cmd) → AsksAs bank.nodes client number cmd → AsksAs after.nodes client number cmd
    asks-stays client number cmd asks d low from = notice-stays d number cmd (asks d (let same = set-length bank.nodes c step.node in omega arith) from)

    order-stays : (d : ℕ) (o : PaymentOrder) → IsOrder setup choose f cells moves bank h.history d o
        → IsOrder setup choose f cells (moves ++ move ∷ []) after h.history d o
    order-stays d o is = order-more setup choose f cells moves bank move after h.history h.history d o leads (begins_itself h.history) is

    -- the node's new notices
    new-asked : (e : Envelope) → IsNoticeOf c step.node e → IsAsked after.nodes e
    new-asked e n asked is d low from =
        let same = sym n.msg ∙ is in
        let place : c ≡ d = node_of-one c d (sym n.from ∙ from) in
        let one : n.asked ≡ asked = cc in
        let at : notice_at after.nodes c (n.asked.number - 1) ≡ Some n.asked.cmd =
        ap (λ (o : Option Node). slice_get (notices_of o) (n.asked.number - 1)) (set-here bank.nodes c x step.node is_there) ∙ n.is in
        subst (λ k. IsNotice after.nodes k asked.number asked.cmd) place
        (subst (λ (k : RequestOf Cmd). IsNotice after.nodes c k.number k.cmd) one (record { counted = n.counted; is = at }))

    between_too : (e : Envelope) → Contains after.post e → is_between e.msg ≡ true → Contains h.world.sent e
    between_too e in' kind = by (Contains-append_cases bank.post step.sent e in')
      where
        by : Contains bank.post e ⊎ Contains step.sent e → Contains h.world.sent e
        by (inl old) = h.between e old kind
        by (inr new) = absurd (true≢false (sym kind ∙ ap is_between (keeps.sent e new).msg))

    requests_too : (e : Envelope) → Contains after.post e → IsAsked after.nodes e
    requests_too e in' = by (Contains-append_cases bank.post step.sent e in')
      where
        by : Contains bank.post e ⊎ Contains step.sent e → IsAsked after.nodes e
        by (inl old) = λ asked is. asks-stays e.from asked.number asked.cmd (h.requests e old asked is)
        by (inr new) = new-asked e (keeps.sent e new)

    orders_too : (e : Envelope) (o : PaymentOrder) → Contains after.post e → e.msg ≡ PayOrder o
        → IsOrder setup choose f cells (moves ++ move ∷ []) after h.history o.ccy o
    orders_too e o in' is = by (Contains-append_cases bank.post step.sent e in')
      where
        by : Contains bank.post e ⊎ Contains step.sent e → IsOrder setup choose f cells (moves ++ move ∷ []) after h.history o.ccy o
        by (inl old) = order-stays o.ccy o (h.orders e o old is)
        by (inr new) = let same = sym (keeps.sent e new).msg ∙ is in absurd (cc)

    nodes_too : (d : ℕ) (y : Node) → slice_get after.nodes d ≡ Some y → IsSoundNode d y
    nodes_too d y at = by (set-at bank.nodes c step.node d y at)
      where
        by : ((c ≡ d) × (step.node ≡ y)) ⊎ (slice_get bank.nodes d ≡ Some y) → IsSoundNode d y
        by (inl here) = subst (λ k. IsSoundNode k y) here.0 (subst (λ (z : Node). IsSoundNode c z) here.1 (keeps.sound (h.nodes c x is_there)))
        by (inr old) = h.nodes d y old

    done_too : (d : ℕ) (y : Node) (o : PaymentOrder) → slice_get after.nodes d ≡ Some y → Contains y.pay_outs o
        → IsOrder setup choose f cells (moves ++ move ∷ []) after h.history d o
    done_too d y o at in' = by (set-at bank.nodes c step.node d y at)
      where
        by_done : Contains x.pay_outs o ⊎ IsOrdered c event o → IsOrder setup choose f cells (moves ++ move ∷ []) after h.history c o
        by_done (inl old) = order-stays c o (h.done c x o is_there old)
        by_done (inr new) =
            subst (λ k. IsOrder setup choose f cells (moves ++ move ∷ []) after h.history k o) new.ccy
            (order-stays o.ccy o (h.orders new.envelope o (arrived new.envelope new.came) new.msg))

        by : ((c ≡ d) × (step.node ≡ y)) ⊎ (slice_get bank.nodes d ≡ Some y) → IsOrder setup choose f cells (moves ++ move ∷ []) after h.history d o
        by (inl here) = subst (λ k. IsOrder setup choose f cells (moves ++ move ∷ []) after h.history k o) here.0
            (by_done (keeps.done o (subst (λ (z : Node). Contains z.pay_outs o) (sym here.1) in')))
        by (inr old) = order-stays d o (h.done d y o old in')

    replies_too : (e : Envelope) (said : ReplyOf Answer) → Contains after.post e → e.msg ≡ Reply said
        → IsReply setup choose f cells (moves ++ move ∷ []) after h.world e
    replies_too e said in' is = by (Contains-append_cases bank.post step.sent e in')
      where
        by : Contains bank.post e ⊎ Contains step.sent e → IsReply setup choose f cells (moves ++ move ∷ []) after h.world e
        by (inl old) = reply-more setup choose f cells moves bank move after h.world h.world e leads (λ r in'. in') (h.replies e said old is)
        by (inr new) = let same = sym (keeps.sent e new).msg ∙ is in absurd (cc)

    pub node_steps : HoldsOn setup choose f cells h.history h.world (moves ++ move ∷ []) after
    node_steps = record {
      longer = begins_itself h.history;
      more = [];
      run = refl;
      holds = record {
        legal = legal-more setup choose f cells moves bank move after h.legal leads;
        events = h.events;
        world = h.world;
        alone = h.alone;
        sites = h.sites;
        history = h.history;
        begins = h.begins;
        one = h.one;
        rows = λ row in'. asks-stays row.client row.number row.cmd (h.rows row in');
        asked = λ i e in' asked is. asks-stays e.from asked.number asked.cmd (h.asked i e in' asked is);
        between = between_too;
        arrived = λ i e in'. Contains-append_left bank.post step.sent e (h.arrived i e in');
        back = λ e in'. Contains-append_left bank.post step.sent e (h.back e in');
        told = λ r e in' is. Contains-append_left bank.post step.sent e (h.told r e in' is);
        requests = requests_too;
        orders = orders_too;
        replies = replies_too;
        count = set-length bank.nodes c step.node ∙ h.count;
        people = h.people;
        nodes = nodes_too;
        done = done_too;
      };
    }
