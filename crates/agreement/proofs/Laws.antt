-- The laws, from what holds of every world that a legal list reaches.
use Rattle.std.proofs.Common.{◌≡◌, ◌⊎◌, inl, inr, ℕ, zero, suc, ◌-◌, ◌<◌, ◌≤◌, Bool, true, if◌then◌else◌, List, [], ◌∷◌, length, take, slice_get, Option, Some, None, refl, sym, ap, ◌∙◌, subst, arith}
use Rattle.std.specs.Prelude.{Contains}
use Rattle.std.proofs.lemmas.List.{length-take-le}
use Rattle.std.proofs.lemmas.Option.{slice_get_within, get_or_from_slice_get}
use Rattle.vr_types.specs.declared.cell.Boot.{Boot}
use Rattle.vr_types.specs.declared.event.EventOf.TheVariants.{Deliver}
use Rattle.vr_types.specs.declared.event.Status.TheVariants.{Normal, Change, Recovering}
use Rattle.vr_types.specs.declared.machine.Machine.{Ghosts}
use Rattle.vr_types.specs.declared.message.EnvelopeOf.{EnvelopeOf}
use Rattle.vr_types.specs.declared.message.DoViewChangeOf.{DoViewChangeOf}
use Rattle.vr_types.specs.declared.message.MsgOf.TheVariants.{DoViewChange}
use Rattle.vr_types.specs.declared.row.RowOf.{RowOf}
use Rattle.vr_types.specs.Group.{mail}
use Rattle.vr_types.specs.Choice.{AreFresh, Choice, IsRight}
use Rattle.vr_types.specs.Handling.{votes_used, responses_used, site_step}
use Rattle.vr_types.specs.Step.{Handled}
use Rattle.vr_types.specs.Execution.{answer_at}
use Rattle.vr_types.specs.Site.{Site, Vote, Response, is_running, executed_rows}
use Rattle.agreement.specs.Worlds.{Replied, Ordered, World, Happening, IsRun, IsLegal}
use Rattle.agreement.specs.Promises.{CollectedAreFresh, row_at, Agree, IsRising, answered_rows, Begins, IsExecuted, Tells}
use Rattle.agreement.proofs.Beginnings.{take_begins, begins-trans}
use Rattle.agreement.proofs.CommittedRows.{Committed}
use Rattle.agreement.proofs.Standing.{StandsRunning}
use Rattle.agreement.proofs.Prior.{committed_opening, committed_both}
use Rattle.agreement.proofs.Parts.{committed_fewer}
use Rattle.agreement.proofs.AnsweredRows.{IsAnswered}
use Rattle.agreement.proofs.Reached.{nobody, site_at, IsReached, first, legal_holds, run_holds, has_number}
use Rattle.agreement.proofs.Agreeing.{agree_begins, take_begins_same, executed_committed, log_rises, committed_lasts, IsTold, told_by, IsOne, answered_at, told_is}
use Rattle.agreement.proofs.Tests.{normal_runs, change_runs}
use Rattle.agreement.proofs.Used.{fresh_by, used_fresh, message_taken}
use Rattle.agreement.proofs.Votes.{IsKeptVote, IsKeptResponse}

-- where a list has no element, it has ended
past_end : {A : Type 0} (xs : List A) (n : ℕ) → slice_get xs n ≡ None → length xs ≤ n
past_end [] n e = omega arith
past_end (x ∷ xs) zero e = absurd (let e' : Some x ≡ None = e in cc)
past_end (x ∷ xs) (suc n) e = let h = past_end xs n e in omega arith

module _ {C R O : Type 0} (choose : Choice C) (f : ℕ) (right : IsRight f choose) (cells : List Boot) where
  module _ (before after : List (Happening C R O)) (early late : World C R O) (legal : IsLegal choose f cells before early)
      (run : IsRun choose f early after late) where
    pub a : IsReached f first early
    a = legal_holds f choose right cells before early legal

    pub b : IsReached f a.history late
    b = run_holds f choose right a.history early late after a.holds run

    -- what a site of either moment has executed is committed at the later moment
    pub early_committed : (x : Site C) → Contains early.sites x → (top : ℕ) × Committed f b.history top (executed_rows x)
    early_committed x in' =
        let i = has_number f early x in' in
        let c : (top : ℕ) × Committed f a.history top (executed_rows (site_at early i.0)) = executed_committed f a.history (site_at early) a.holds.holds i.0 in
        (c.0, b.grown.commits _ _ (subst (λ (y : Site C). Committed f a.history c.0 (executed_rows y)) i.1 c.1))

    late_committed : (y : Site C) → Contains late.sites y → (top : ℕ) × Committed f b.history top (executed_rows y)
    late_committed y in' =
        let i = has_number f late y in' in
        let c : (top : ℕ) × Committed f b.history top (executed_rows (site_at late i.0)) = executed_committed f b.history (site_at late) b.holds.holds i.0 in
        (c.0, subst (λ (z : Site C). Committed f b.history c.0 (executed_rows z)) i.1 c.1)

    either_committed : (x : Site C) → Contains early.sites x ⊎ Contains late.sites x → (top : ℕ) × Committed f b.history top (executed_rows x)
    either_committed x (inl in') = early_committed x in'
    either_committed x (inr in') = late_committed x in'

    one_begins : (x y : Site C) → Contains early.sites x → Contains late.sites y
        → Begins (executed_rows x) (executed_rows y) ⊎ Begins (executed_rows y) (executed_rows x)
    one_begins x y in_early in_late =
        let c = early_committed x in_early in
        let d = late_committed y in_late in
        committed_both f b.history (site_at late) b.holds.holds c.0 d.0 _ _ c.1 d.1

    pub agreement : (x y : Site C) → Contains early.sites x → Contains late.sites y → Agree (executed_rows x) (executed_rows y)
    agreement x y in_early in_late = agree_begins (executed_rows x) (executed_rows y) (one_begins x y in_early in_late)

    pub first_rows : (x y : Site C) (n : ℕ) → Contains early.sites x → Contains late.sites y → n ≤ length (executed_rows x) → n ≤ length (executed_rows y)
        → take n (executed_rows x) ≡ take n (executed_rows y)
    first_rows x y n in_early in_late low high = take_begins_same (executed_rows x) (executed_rows y) n low high (one_begins x y in_early in_late)

    -- the log of a site normal in a view begins with the opening of that view, which stays
    opening_begins : (x : Site C) → Contains early.sites x → x.status ≡ Normal → (b.history.opened x.view ≡ true) × Begins (b.history.opening x.view) x.log
    opening_begins x in' normal =
        let i = has_number f early x in' in
        let r : StandsRunning f a.history i.0 x =
        subst (λ (y : Site C). y.status ≡ Normal → StandsRunning f a.history i.0 y) i.1 (λ e. (a.holds.holds.sites i.0).running (normal_runs _ e)) normal in
        let o = b.grown.opened x.view (ap a.history.opened (sym (r.normal normal)) ∙ r.log_of.opened) in
        (o.0, subst (λ (l : List (RowOf C)). Begins l x.log) (sym (o.1 ∙ ap a.history.opening (sym (r.normal normal)))) r.log_of.lower)

    pub lasting : (reply : Replied C) (x : Site C) → Contains late.replies reply → Contains early.sites x ⊎ Contains late.sites x → x.status ≡ Normal
        → reply.sender.view < x.view → Begins (answered_rows reply) x.log
    lasting reply x in' (inl in_early) normal low =
        let o = opening_begins x in_early normal in
        begins-trans (committed_opening f b.history (site_at late) b.holds.holds reply.sender.view x.view (answered_rows reply)
        (b.holds.replies reply in').done low o.0) o.1
    lasting reply x in' (inr in_late) normal low =
        let i = has_number f late x in_late in
        subst (λ (y : Site C). y.status ≡ Normal → reply.sender.view < y.view → Begins (answered_rows reply) y.log) i.1
        (λ e l. committed_lasts f b.history (site_at late) b.holds.holds reply.sender.view (answered_rows reply) i.0 (b.holds.replies reply in').done e l)
        normal low

    pub right_answer : {H S : Type 0} (m : Ghosts H C R O S) (start : H) (reply : Replied C) (answer : R) (x : Site C) (place : ℕ) (row : RowOf C)
        → Contains late.replies reply → Contains early.sites x ⊎ Contains late.sites x → 1 ≤ place → row_at (executed_rows x) place ≡ Some row
        → Tells m start reply row.client row.number answer
        → answer ≡ answer_at m start (executed_rows x) place row
    right_answer m start reply answer x place row in' either counted there tells =
        let told : IsTold m start reply row.client row.number answer = told_by m start reply row.client row.number answer tells in
        let c = either_committed x either in
        let within = slice_get_within (executed_rows x) (place - 1) row there in
        let one =
        answered_at f b.history (site_at late) b.holds.holds reply (b.holds.replies reply in') told.row told.is_there c.0
        (executed_rows x) place row counted (omega arith) there
        (committed_fewer f b.history c.0 (executed_rows x) (take place (executed_rows x)) (take_begins place (executed_rows x)) c.1)
        told.client_is told.number_is in
        told_is m start reply row.client row.number answer told (executed_rows x) place row counted one

  module _ (events : List (Happening C R O)) (world : World C R O) (legal : IsLegal choose f cells events world) where
    reached : IsReached f first world
    reached = legal_holds f choose right cells events world legal

    pub rising : (x : Site C) → Contains world.sites x → IsRising x.log
    rising x in' =
        let i = has_number f world x in' in
        subst (λ (y : Site C). IsRising y.log) i.1 (log_rises f reached.history (site_at world) reached.holds.holds i.0)

    pub votes_bind : (i to : ℕ) (msg : DoViewChangeOf C) (x : Site C) → Contains world.sent (mail i to (DoViewChange msg)) → slice_get world.sites i ≡ Some x
        → is_running x.status ≡ true → msg.view ≤ x.view
    votes_bind i to msg x in' there run =
        let is = get_or_from_slice_get world.sites i x nobody there in
        let r = (reached.holds.holds.sites i).running (ap (λ (y : Site C). is_running y.status) is ∙ run) in
        let low = r.at_view.promised to msg (reached.holds.said _ in') in
        let e = ap (λ (y : Site C). y.view) is in
        omega arith

    -- the messages that decide at a step
    pub taken_fresh : (i : ℕ) (x : Site C) (e : EnvelopeOf C R O) → slice_get world.sites i ≡ Some x → (site_step choose f i x (Deliver e)).ending ≡ Handled
        → AreFresh (λ vote. vote.from) (λ vote. vote.known) (votes_used f i x e.from e.msg)
        × AreFresh (λ response. response.from) (λ response. response.known) (responses_used x e.from e.msg)
    taken_fresh i x e there handled =
        let is : site_at world i ≡ x = get_or_from_slice_get world.sites i x nobody there in
        let s = reached.holds.holds.sites i in
        let taken = message_taken choose f i x e handled in
        used_fresh R O choose f i x
        (subst (λ (y : Site C). y.status ≡ Change → (v : Vote C) → Contains y.collected.votes v → IsKeptVote y.known v) is
        (λ c v in'. (s.running (change_runs _ c)).current c v in'))
        (subst (λ (y : Site C). y.status ≡ Recovering → (r : Response C) → Contains y.collected.responses r → IsKeptResponse y.known r) is
        (λ c r in'. s.current c r in'))
        e.from e.msg taken.0 taken.1

    pub collected_fresh : CollectedAreFresh world
    collected_fresh x in' =
        let i = has_number f world x in' in
        subst (λ (y : Site C). (y.status ≡ Change
        → AreFresh (λ start. start.from) (λ start. start.known) y.collected.starts × AreFresh (λ vote. vote.from) (λ vote. vote.known) y.collected.votes)
        × (y.status ≡ Recovering → AreFresh (λ response. response.from) (λ response. response.known) y.collected.responses)) i.1
        (at i.0)
      where
        at : (j : ℕ) → (
            let y = site_at world j in
            (y.status ≡ Change → AreFresh (λ start. start.from) (λ start. start.known) y.collected.starts
            × AreFresh (λ vote. vote.from) (λ vote. vote.known) y.collected.votes)
            × (y.status ≡ Recovering → AreFresh (λ response. response.from) (λ response. response.known) y.collected.responses))
        at j = (
          λ e. (
              let r = (reached.holds.holds.sites j).running (change_runs _ e) in (
                fresh_by (λ start. start.from) (λ start. start.known) (site_at world j).known (site_at world j).collected.starts
                    (λ a p. (r.at_view.starts e a p).within) (λ a p. (r.at_view.starts e a p).current),
                fresh_by (λ vote. vote.from) (λ vote. vote.known) (site_at world j).known (site_at world j).collected.votes (λ a p. (r.current e a p).within)
                    (λ a p. (r.current e a p).current),
              )),
          λ e. (
              let s = reached.holds.holds.sites j in
              fresh_by (λ response. response.from) (λ response. response.known) (site_at world j).known (site_at world j).collected.responses
              (λ a p. (s.current e a p).within) (λ a p. (s.current e a p).current)),
        )

    -- of two replies to one request
    one_of : (p q : Replied C) (row other : RowOf C) → Contains world.replies p → Contains world.replies q → row_at p.sender.log p.place ≡ Some row
        → row_at q.sender.log q.place ≡ Some other
        → row.client ≡ other.client → row.number ≡ other.number → IsOne p q.sender.log q.place other
    one_of p q row other in_p in_q there_p there_q client number =
        let is = reached.holds.replies p in_p in
        let was = reached.holds.replies q in_q in
        let executed = was.executed in
        let within = was.within in
        answered_at f reached.history (site_at world) reached.holds.holds p is row there_p q.sender.view q.sender.log q.place other was.counted
        (omega arith) there_q was.done client number

    pub one_place : (p q : Replied C) (row other : RowOf C) → Contains world.replies p → Contains world.replies q → row_at p.sender.log p.place ≡ Some row
        → row_at q.sender.log q.place ≡ Some other
        → row.client ≡ other.client → row.number ≡ other.number → (p.place ≡ q.place) × (answered_rows p ≡ answered_rows q)
    one_place p q row other in_p in_q there_p there_q client number =
        let one = one_of p q row other in_p in_q there_p there_q client number in
        (one.place_is, one.rows_are)

    pub one_answer : {H S : Type 0} (m : Ghosts H C R O S) (start : H) (p q : Replied C) (client number : ℕ) (x y : R) → Contains world.replies p
        → Contains world.replies q
        → Tells m start p client number x → Tells m start q client number y → x ≡ y
    one_answer m start p q client number x y in_p in_q tells_p tells_q =
        let told : IsTold m start p client number x = told_by m start p client number x tells_p in
        let too : IsTold m start q client number y = told_by m start q client number y tells_q in
        let was = reached.holds.replies q in_q in
        let one = one_of p q told.row too.row in_p in_q told.is_there too.is_there (told.client_is ∙ sym too.client_is) (told.number_is ∙ sym too.number_is) in
        told_is m start p client number x told q.sender.log q.place too.row was.counted one ∙ too.answer_is

    pub normal_orders : (order : Ordered C) → Contains world.orders order → order.sender.status ≡ Normal
    normal_orders order in' = reached.holds.orders order in'

    pub executed : (reply : Replied C) → Contains world.replies reply → IsExecuted reply
    executed reply in' = by_row (slice_get (take reply.sender.done reply.sender.log) (reply.place - 1)) refl
      where
        is : IsAnswered f reached.history reply
        is = reached.holds.replies reply in'

        same : executed_rows reply.sender ≡ take reply.sender.done reply.sender.log
        same = ap (λ (b : Bool). if b then take reply.sender.done reply.sender.log else []) (normal_runs _ is.normal)

        by_row : (found : Option (RowOf C)) → slice_get (take reply.sender.done reply.sender.log) (reply.place - 1) ≡ found → IsExecuted reply
        by_row None e = absurd (
            let counted = is.counted in
            let executed = is.executed in
            let within = is.within in
            let long = length-take-le reply.sender.done reply.sender.log is.within in
            let short = past_end (take reply.sender.done reply.sender.log) (reply.place - 1) e in
            omega arith)
        by_row (Some row) e = record { counted = is.counted; row = row; is_there = ap (λ (l : List (RowOf C)). slice_get l (reply.place - 1)) same ∙ e }
