-- NOTHING IS INVENTED: what holds of every row that arrives holds of every row that is kept and sent.
use Rattle.std.proofs.Common.{◌≡◌, ℕ, ◌+◌, ◌==◌, ◌&&◌, ◌||◌, Bool, true, false, not, nat_lt, nat_le, if◌then◌else◌, List, [], ◌∷◌, ◌++◌, length, take, slice_get, Option, Some, None, refl, sym, subst}
use Rattle.std.specs.Prelude.{All, MatchOption}
use Rattle.std.proofs.lemmas.List.Elements.{All-nil, All-cons, All-append, All-map, All-take, All-drop, All-get_or}
use Rattle.std.proofs.lemmas.Option.{slice_get_within, get_or_from_slice_get}
use Rattle.vr_types.specs.declared.event.EventOf.{EventOf}
use Rattle.vr_types.specs.declared.event.EventOf.TheVariants.{Deliver, Timer, Beat, Crash, Restart}
use Rattle.vr_types.specs.declared.event.SiteFault.{SiteFault}
use Rattle.vr_types.specs.declared.event.Status.{Status}
use Rattle.vr_types.specs.declared.event.Status.TheVariants.{Normal, Change, Recovering, Down}
use Rattle.vr_types.specs.declared.event.Why.TheVariants.{Stale}
use Rattle.vr_types.specs.declared.limits.TheConstants.{MAX_ROWS}
use Rattle.vr_types.specs.declared.message.EnvelopeOf.{EnvelopeOf}
use Rattle.vr_types.specs.declared.message.MsgOf.{MsgOf}
use Rattle.vr_types.specs.declared.message.MsgOf.TheVariants.{Request, Prepare, PrepareOk, Commit, StartViewChange, DoViewChange, StartView, GetState, NewState, Recovery, RecoveryResponse, Reply, PayOrder}
use Rattle.vr_types.specs.declared.message.PrepareOf.{PrepareOf}
use Rattle.vr_types.specs.declared.message.StartViewOf.{StartViewOf}
use Rattle.vr_types.specs.declared.message.NewStateOf.{NewStateOf}
use Rattle.vr_types.specs.declared.message.Commit.{Commit as CommitMsg}
use Rattle.vr_types.specs.declared.message.GetState.{GetState as GetStateMsg}
use Rattle.vr_types.specs.declared.message.PrepareOk.{PrepareOk as PrepareOkMsg}
use Rattle.vr_types.specs.declared.message.Recovery.{Recovery as RecoveryMsg}
use Rattle.vr_types.specs.declared.row.RowOf.{RowOf}
use Rattle.vr_types.specs.Group.{others, primary, mail, to_all}
use Rattle.vr_types.specs.Rows.{newest, last_of}
use Rattle.vr_types.specs.Site.{Start, Vote, Response, Site, over, boot_of, has_vote, is_normal, is_change, is_recovering}
use Rattle.vr_types.specs.Choice.{Choice, Regained, IsRegained, IsRight}
use Rattle.vr_types.specs.Step.{Step, does, drops, is_outdated, learns, normal_in, executed_to, begins_with_executed, asks_state, acknowledges_all, takes_log}
use Rattle.vr_types.specs.Normal.{with_row, answers_again, on_request, prepares, on_prepare, on_commit, on_prepare_ok, news, beats_normal}
use Rattle.vr_types.specs.Change.{Part, with_start, with_vote, with_voted, own_vote, sends_vote, is_to_vote, is_to_open, starts_view, starts_later_view, votes_where_due, opens_where_due, on_start_view_change, on_do_view_change, on_start_view, on_timer, beats_in_change}
use Rattle.vr_types.specs.Transfer.{on_get_state, on_new_state}
use Rattle.vr_types.specs.Recovery.{notes, state_of_view, has_as_late, with_response, on_recovery, on_recovery_response, regains, beats_recovering, on_crash, on_restart}
use Rattle.vr_types.specs.Handling.{refusal, refused_or, on_message, on_beat, site_step}
use Rattle.vr_types.proofs.ChoosingPick.{Contains-none}
use Rattle.vr_types.specs.Messages.{rows_of_state}
use Rattle.agreement.specs.Promises.{RowsAre}
use Rattle.agreement.proofs.Tests.{lt_of, and_right, not_false}
use Rattle.agreement.proofs.KeptRows.{Keeps, learns_rows, normal_rows, executed_rows_kept, row_kept, with_start_rows, with_vote_rows, with_voted_rows, with_response_rows, over_rows, picked_rows, state_rows}

abbrev pub Sends : {C R O : Type 0} → (RowOf C → Type 0) → List (EnvelopeOf C R O) → Type 0
Sends {C} {R} {O} P es = All (λ (e : EnvelopeOf C R O). RowsAre P e.msg) es

-- the rows of a step
pub record HasRows {C R O : Type 0} (P : RowOf C → Type 0) (step : Step C R O) : Type 0 where
  pub site : Keeps P step.site
  pub sent : Sends P step.sent

record HasPart {C R O : Type 0} (P : RowOf C → Type 0) (part : Part C R O) : Type 0 where
  site : Keeps P part.site
  sent : Sends P part.sent

module _ {C R O : Type 0} (P : RowOf C → Type 0) where
  sends_none : Sends {R = R} {O = O} P []
  sends_none = All-nil (λ (e : EnvelopeOf C R O). RowsAre P e.msg)

  sends_one : (e : EnvelopeOf C R O) → RowsAre P e.msg → Sends P (e ∷ [])
  sends_one e h = All-cons (λ (d : EnvelopeOf C R O). RowsAre P d.msg) e [] h sends_none

  sends_both : (a b : List (EnvelopeOf C R O)) → Sends P a → Sends P b → Sends P (a ++ b)
  sends_both a b h k = All-append (λ (d : EnvelopeOf C R O). RowsAre P d.msg) a b h k

  sends_to_all : (f me : ℕ) (msg : MsgOf C R O) → RowsAre P msg → Sends P (to_all f me msg)
  sends_to_all f me msg h = All-map (λ (d : EnvelopeOf C R O). RowsAre P d.msg) (λ j. mail me j msg) (others f me) (λ k d low. h)

  sends_if : (b : Bool) (p q : List (EnvelopeOf C R O)) → Sends P p → Sends P q → Sends P (if b then p else q)
  sends_if true p q h k = h
  sends_if false p q h k = k

  rows_if : (b : Bool) {p q : Step C R O} → (b ≡ true → HasRows P p) → (b ≡ false → HasRows P q) → HasRows P (if b then p else q)
  rows_if true k l = k refl
  rows_if false k l = l refl

  module _ (x : Site C) (h : Keeps P x) where
    same : (step : Step C R O) → step.site ≡ x → step.sent ≡ [] → HasRows P step
    same step is silent = record {
      site = subst (λ (y : Site C). Keeps P y) (sym is) h;
      sent = subst (λ (es : List (EnvelopeOf C R O)). Sends P es) (sym silent) sends_none;
    }

    told : (es : List (EnvelopeOf C R O)) → Sends P es → HasRows P (does x es)
    told es k = record { site = h; sent = k }

  module _ (f me : ℕ) (x : Site C) (h : Keeps P x) where
    asks_rows : (w base : ℕ) → Sends {R = R} {O = O} P (asks_state f me w base)
    asks_rows w base = sends_one _ tt

    acknowledges_rows : (y : Site C) → Sends {R = R} {O = O} P (acknowledges_all f me y)
    acknowledges_rows y = sends_one _ tt

    again_rows : (number newest : ℕ) (last : Option (ℕ × RowOf C)) → HasRows P (answers_again {R = R} {O = O} x number newest last)
    again_rows number newest None = same x h _ refl refl
    again_rows number newest (Some last) = rows_if ((number == newest) && (last.1.number == number)) (λ _. same x h _ refl refl) (λ _. same x h _ refl refl)

    request_rows : (row : RowOf C) → P row → HasRows P (on_request {R = R} {O = O} f me x row)
    unfolding on_request
    request_rows row p =
        rows_if (not (is_normal x.status)) (λ _. same x h _ refl refl) (λ _.
        rows_if (not (primary f x.view == me)) (λ _. same x h _ refl refl) (λ _.
        rows_if (nat_lt (newest x.log row.client) row.number)
        (λ _. rows_if (length x.log == MAX_ROWS) (λ _. same x h _ refl refl)
        (λ _. told (with_row row x) (row_kept P x h row p) _
        (sends_to_all f me (Prepare (record { view = x.view; place = length x.log + 1; done = x.done; row = row })) p)))
        (λ _. again_rows row.number (newest x.log row.client) (last_of (take x.done x.log) row.client))))

    prepares_rows : (msg : PrepareOf C) → P msg.row → HasRows P (prepares {R = R} {O = O} f me x msg)
    prepares_rows msg p = by_place (msg.place == length x.log + 1)
      where
        from_site : (y : Site C) → Keeps P y
            → HasRows P (does {C = C} {R = R} {O = O} y (if nat_lt (length x.log + 1) msg.place then asks_state f me x.view (length x.log)
            else acknowledges_all f me y))
        from_site y kept = told y kept _ (sends_if (nat_lt (length x.log + 1) msg.place) _ _ (asks_rows x.view (length x.log)) (acknowledges_rows y))

        by_place : (b : Bool) → HasRows P (
            let y = executed_to msg.done (if b then with_row msg.row x else x) in
            does {C = C} {R = R} {O = O} y (if nat_lt (length x.log + 1) msg.place then asks_state f me x.view (length x.log) else acknowledges_all f me y))
        by_place true = from_site (executed_to msg.done (with_row msg.row x)) (executed_rows_kept P (with_row msg.row x) (row_kept P x h msg.row p) msg.done)
        by_place false = from_site (executed_to msg.done x) (executed_rows_kept P x h msg.done)

    prepare_rows : (from : ℕ) (msg : PrepareOf C) → P msg.row → HasRows P (on_prepare {R = R} {O = O} f me x from msg)
    unfolding on_prepare
    prepare_rows from msg p =
        rows_if (not (primary f msg.view == from)) (λ _. same x h _ refl refl) (λ _.
        rows_if (is_recovering x.status) (λ _. same x h _ refl refl) (λ _.
        rows_if (nat_lt msg.view x.view) (λ _. same x h _ refl refl) (λ _.
        rows_if (nat_lt x.view msg.view || is_change x.status) (λ _. told x h _ (asks_rows msg.view x.done)) (λ _. prepares_rows msg p))))

    commit_rows : (from : ℕ) (msg : CommitMsg) → HasRows P (on_commit {R = R} {O = O} f me x from msg)
    unfolding on_commit
    commit_rows from msg =
        rows_if (not (primary f msg.view == from)) (λ _. same x h _ refl refl) (λ _.
        rows_if (is_recovering x.status) (λ _. same x h _ refl refl) (λ _.
        rows_if (nat_lt msg.view x.view) (λ _. same x h _ refl refl) (λ _.
        rows_if (nat_lt x.view msg.view || is_change x.status) (λ _. told x h _ (asks_rows msg.view x.done))
        (λ _. told (executed_to msg.done x) (executed_rows_kept P x h msg.done) _
        (sends_if (nat_lt (length x.log) msg.done) _ _ (asks_rows x.view (length x.log)) sends_none)))))

    prepare_ok_rows : (choose : Choice C) (from : ℕ) (msg : PrepareOkMsg) → HasRows P (on_prepare_ok {R = R} {O = O} choose f me x from msg)
    unfolding on_prepare_ok
    prepare_ok_rows choose from msg =
        rows_if (not (is_normal x.status)) (λ _. same x h _ refl refl) (λ _.
        rows_if (not (msg.view == x.view)) (λ _. same x h _ refl refl) (λ _.
        rows_if (not (primary f x.view == me)) (λ _. same x h _ refl refl) (λ _.
        record { site = record { log = h.log; votes = h.votes; responses = h.responses }; sent = sends_none })))

    beat_normal_rows : HasRows P (beats_normal {R = R} {O = O} f me x)
    unfolding beats_normal
    beat_normal_rows =
        rows_if (primary f x.view == me)
        (λ _. record { site = h; sent = sends_to_all f me (news x (slice_get x.log x.done)) (news_has (slice_get x.log x.done) refl) })
        (λ _. same x h _ refl refl)
      where
        news_has : (next : Option (RowOf C)) → slice_get x.log x.done ≡ next → RowsAre {R = R} {O = O} P (news x next)
        news_has None e = tt
        news_has (Some row) e =
            subst (λ (r : RowOf C). P r) (get_or_from_slice_get x.log x.done row row e)
            (All-get_or P x.log x.done row (slice_get_within x.log x.done row e) h.log)

    -- view change

    vote_rows : (y : Site C) → Keeps P y → Sends {R = R} {O = O} P (sends_vote f me y)
    vote_rows y k = sends_one _ k.log

    starts_rows : (w : ℕ) → HasPart P (starts_view {R = R} {O = O} f me w x)
    starts_rows w = record {
      site = record { log = h.log; votes = λ v in'. absurd (Contains-none v in'); responses = λ r in'. absurd (Contains-none r in') };
      sent = sends_to_all f me (StartViewChange (record { view = w; known = x.known })) tt;
    }

    starts_later_rows : (w : ℕ) → HasPart P (starts_later_view {R = R} {O = O} f me w x)
    starts_later_rows w = by_test (nat_lt x.view w)
      where
        by_test : (b : Bool) → HasPart P (if b then starts_view {R = R} {O = O} f me w x else record { site = x; sent = [] })
        by_test true = starts_rows w
        by_test false = record { site = h; sent = sends_none }

  module _ (f me : ℕ) where
    votes_rows : (part : Part C R O) → HasPart P part → HasPart P (votes_where_due f me part)
    votes_rows part h = by_tests (not (is_to_vote f me part.site)) (primary f part.site.view == me)
      where
        by_tests : (due here : Bool) → HasPart P (
            if due then part
            else if here then record { site = with_vote (own_vote me part.site) (with_voted part.site); sent = part.sent }
            else record { site = with_voted part.site; sent = part.sent ++ sends_vote f me part.site })
        by_tests true here = h
        by_tests false true =
            record { site = with_vote_rows P (with_voted part.site) (with_voted_rows P part.site h.site) (own_vote me part.site) h.site.log; sent = h.sent }
        by_tests false false =
            record { site = with_voted_rows P part.site h.site; sent = sends_both part.sent _ h.sent (vote_rows f me part.site h.site part.site h.site) }

    module _ (x : Site C) (h : Keeps P x) (choose : Choice C) (right : IsRight f choose) where
      opens_rows : (part : Part C R O) → HasPart P part → HasRows P (opens_where_due choose f me x part)
      opens_rows part k =
          rows_if (not (is_to_open f me part.site)) (λ _. record { site = k.site; sent = k.sent }) (λ due.
          rows_if (not (begins_with_executed choose.same part.site (choose.pick part.site.collected.votes).log)) (λ _. same x h _ refl refl) (λ _.
          let rest = and_right (primary f part.site.view == me) _ (and_right (is_change part.site.status) _ (not_false _ due)) in
          let many = lt_of _ _ (and_right (has_vote part.site.collected.votes me) _ rest) in
          let all = picked_rows P f choose right part.site k.site many in
          record {
            site = normal_rows P part.site k.site part.site.view (choose.most_done part.site.collected.votes) (choose.pick part.site.collected.votes).log all;
            sent =
                sends_both part.sent _ k.sent
                (sends_to_all f me
                (StartView (record {
                  view = part.site.view;
                  done = (executed_to (choose.most_done part.site.collected.votes)
                      (normal_in part.site.view (choose.pick part.site.collected.votes).log part.site)).done;
                  rows = (choose.pick part.site.collected.votes).log;
                })) all);
          }))

      start_view_change_rows : (w : ℕ) (start : Start) → HasRows P (on_start_view_change {R = R} {O = O} choose f me x w start)
      unfolding on_start_view_change
      start_view_change_rows w start =
          rows_if (is_recovering x.status) (λ _. same x h _ refl refl) (λ _.
          rows_if (nat_lt w x.view) (λ _. same x h _ refl refl) (λ _.
          rows_if (is_normal x.status && (w == x.view)) (λ _. same x h _ refl refl) (λ _.
          rows_if (is_outdated x.known start.from start.known) (λ _. same x h _ refl refl) (λ _.
          let y = learns start.known x in
          let started = starts_later_view f me w y in
          let part = starts_later_rows f me y (learns_rows P x h start.known) w in
          opens_rows (votes_where_due f me (record started { site = with_start start started.site }))
          (votes_rows (record started { site = with_start start started.site })
          (record { site = with_start_rows P started.site part.site start; sent = part.sent }))))))

      do_view_change_rows : (w : ℕ) (vote : Vote C) → All P vote.log → HasRows P (on_do_view_change {R = R} {O = O} choose f me x w vote)
      unfolding on_do_view_change
      do_view_change_rows w vote all =
          rows_if (is_recovering x.status) (λ _. same x h _ refl refl) (λ _.
          rows_if (nat_lt w x.view) (λ _. same x h _ refl refl) (λ _.
          rows_if (not (primary f w == me)) (λ _. same x h _ refl refl) (λ _.
          rows_if (is_normal x.status && (w == x.view)) (λ _. same x h _ refl refl) (λ _.
          rows_if (is_outdated x.known vote.from vote.known) (λ _. same x h _ refl refl) (λ _.
          let y = learns vote.known x in
          let started = starts_later_view f me w y in
          let part = starts_later_rows f me y (learns_rows P x h vote.known) w in
          opens_rows (record started { site = with_vote vote started.site })
          (record { site = with_vote_rows P started.site part.site vote all; sent = part.sent }))))))

      taken_rows : (w k : ℕ) (log : List (RowOf C)) → All P log → HasRows P (takes_log {R = R} {O = O} choose f me x w k log)
      taken_rows w k log all = from_site _ (normal_rows P x h w k log all)
        where
          from_site : (y : Site C) → Keeps P y → HasRows P (
              if begins_with_executed choose.same x log then does {C = C} {R = R} {O = O} y
              (if nat_lt y.done (length y.log) then acknowledges_all f me y else []) else drops x Stale)
          from_site y kept = rows_if (begins_with_executed choose.same x log)
              (λ _. told y kept _ (sends_if (nat_lt y.done (length y.log)) _ _ (acknowledges_rows f me x h y) sends_none)) (λ _. same x h _ refl refl)

      start_view_rows : (from : ℕ) (msg : StartViewOf C) → All P msg.rows → HasRows P (on_start_view {R = R} {O = O} choose f me x from msg)
      unfolding on_start_view
      start_view_rows from msg all =
          rows_if (not (primary f msg.view == from)) (λ _. same x h _ refl refl) (λ _.
          rows_if (is_recovering x.status) (λ _. same x h _ refl refl) (λ _.
          rows_if (nat_lt msg.view x.view) (λ _. same x h _ refl refl) (λ _.
          rows_if (is_normal x.status && (msg.view == x.view)) (λ _. same x h _ refl refl) (λ _. taken_rows msg.view msg.done msg.rows all))))

      timer_rows : HasRows P (on_timer {R = R} {O = O} f me x)
      unfolding on_timer
      timer_rows =
          rows_if (is_recovering x.status) (λ _. same x h _ refl refl) (λ _.
          let part = starts_rows f me x h (x.view + 1) in
          record { site = part.site; sent = part.sent })

      beat_in_change_rows : HasRows P (beats_in_change {R = R} {O = O} f me x)
      unfolding beats_in_change
      beat_in_change_rows =
          told x h _ (sends_both _ _ (sends_to_all f me (StartViewChange (record { view = x.view; known = x.known })) tt)
          (sends_if (x.collected.voted && not (primary f x.view == me)) _ _ (vote_rows f me x h x h) sends_none))

      -- state transfer

      get_state_rows : (from : ℕ) (msg : GetStateMsg) → HasRows P (on_get_state {R = R} {O = O} f me x from msg)
      unfolding on_get_state
      get_state_rows from msg =
          rows_if (not (is_normal x.status)) (λ _. same x h _ refl refl) (λ _.
          rows_if (not (msg.view == x.view)) (λ _. same x h _ refl refl) (λ _.
          rows_if (not (primary f x.view == me)) (λ _. same x h _ refl refl) (λ _.
          rows_if (nat_lt (length x.log) msg.base) (λ _. same x h _ refl refl) (λ _.
          told x h _ (sends_one _ (All-drop P msg.base x.log h.log))))))

      new_state_rows : (from : ℕ) (msg : NewStateOf C) → All P msg.rows → HasRows P (on_new_state {R = R} {O = O} choose f me x from msg)
      unfolding on_new_state
      new_state_rows from msg all =
          let both = All-append P (take msg.base x.log) msg.rows (All-take P msg.base x.log h.log) all in
          rows_if (not (primary f msg.view == from)) (λ _. same x h _ refl refl) (λ _.
          rows_if (is_recovering x.status) (λ _. same x h _ refl refl) (λ _.
          rows_if (nat_lt msg.view x.view) (λ _. same x h _ refl refl) (λ _.
          rows_if (nat_lt MAX_ROWS (msg.base + length msg.rows)) (λ _. same x h _ refl refl) (λ _.
          rows_if (is_normal x.status && (msg.view == x.view))
          (λ _. rows_if (nat_le msg.base (length x.log) && nat_lt (length x.log) (msg.base + length msg.rows)) (λ _. taken_rows msg.view msg.done _ both)
          (λ _. same x h _ refl refl))
          (λ _. rows_if (nat_le msg.base x.done && nat_le x.done (msg.base + length msg.rows)) (λ _. taken_rows msg.view msg.done _ both)
          (λ _. same x h _ refl refl))))))

      -- recovery

      recovery_rows : (from : ℕ) (msg : RecoveryMsg) → HasRows P (on_recovery {R = R} {O = O} f me x from msg)
      unfolding on_recovery
      recovery_rows from msg =
          rows_if (not (is_normal x.status)) (λ _. same x h _ refl refl) (λ _.
          rows_if (nat_lt msg.nonce (boot_of x.known from)) (λ _. same x h _ refl refl) (λ _.
          let y = notes from msg.nonce x in
          told y (record { log = h.log; votes = h.votes; responses = h.responses }) _
          (sends_one (mail me from (RecoveryResponse (record { view = y.view; nonce = msg.nonce; state = state_of_view f me y; known = y.known })))
          (state_rows P x h (primary f x.view == me)))))

      regains_rows : (y : Site C) → Keeps P y → (regained : Option (Regained C))
          → MatchOption regained ((r : Regained C) → ¬ IsRegained f y.collected.responses r) (IsRegained f y.collected.responses)
          → HasRows P (regains {R = R} {O = O} y regained)
      regains_rows y k None none = record { site = k; sent = sends_none }
      regains_rows y k (Some regained) fact =
          told _ (normal_rows P y k regained.view regained.state.done regained.state.rows (k.responses _ fact.answered)) [] sends_none

      recovery_response_rows : (nonce : ℕ) (response : Response C) → All P (rows_of_state response.state)
          → HasRows P (on_recovery_response {R = R} {O = O} choose x nonce response)
      unfolding on_recovery_response
      recovery_response_rows nonce response all =
          rows_if (not (is_recovering x.status)) (λ _. same x h _ refl refl) (λ _.
          rows_if (not (nonce == x.cell.boots)) (λ _. same x h _ refl refl) (λ _.
          rows_if (is_outdated x.known response.from response.known) (λ _. same x h _ refl refl) (λ _.
          let y = learns response.known x in
          let z = with_response response y in
          rows_if (has_as_late y.collected.responses response) (λ _. same x h _ refl refl) (λ _.
          regains_rows z (with_response_rows P y (learns_rows P x h response.known) response all) (choose.regained z.collected.responses)
          (right.regained z.collected.responses)))))

      beat_recovering_rows : HasRows P (beats_recovering {R = R} {O = O} f me x)
      unfolding beats_recovering
      beat_recovering_rows = told x h _ (sends_to_all f me (Recovery (record { nonce = x.cell.boots })) tt)

      restart_rows : HasRows P (on_restart {R = R} {O = O} f me x)
      unfolding on_restart
      restart_rows =
          let k = over_rows P (record { boots = x.cell.boots + 1 }) Recovering in
          told _ (record { log = k.log; votes = k.votes; responses = k.responses }) _ (sends_to_all f me (Recovery (record { nonce = x.cell.boots + 1 })) tt)

      -- every event

      message_rows : (actor : ℕ) (msg : MsgOf C R O) → RowsAre P msg
          → ((number : ℕ) (cmd : C) → msg ≡ Request (record { number = number; cmd = cmd }) → P (record { client = actor; number = number; cmd = cmd }))
          → HasRows P (on_message choose f me x actor msg)
      message_rows actor (Request msg) rows asked = request_rows f me x h _ (asked msg.number msg.cmd refl)
      message_rows actor (Prepare msg) rows asked = prepare_rows f me x h _ msg rows
      message_rows actor (PrepareOk msg) rows asked = prepare_ok_rows f me x h choose _ msg
      message_rows actor (Commit msg) rows asked = commit_rows f me x h _ msg
      message_rows actor (StartViewChange msg) rows asked = start_view_change_rows msg.view _
      message_rows actor (DoViewChange msg) rows asked = do_view_change_rows msg.view _ rows
      message_rows actor (StartView msg) rows asked = start_view_rows _ msg rows
      message_rows actor (GetState msg) rows asked = get_state_rows _ msg
      message_rows actor (NewState msg) rows asked = new_state_rows _ msg rows
      message_rows actor (Recovery msg) rows asked = recovery_rows _ msg
      message_rows actor (RecoveryResponse msg) rows asked = recovery_response_rows msg.nonce _ rows
      message_rows actor (Reply msg) rows asked = same x h _ refl refl
      message_rows actor (PayOrder order) rows asked = same x h _ refl refl

      beat_rows : (status : Status) → HasRows P (on_beat {R = R} {O = O} f me x status)
      beat_rows Normal = beat_normal_rows f me x h
      beat_rows Change = beat_in_change_rows
      beat_rows Recovering = beat_recovering_rows
      beat_rows Down = same x h _ refl refl

      refused_rows : (fault : Option SiteFault) (step : Step C R O) → HasRows P step → HasRows P (refused_or x fault step)
      refused_rows None step k = k
      refused_rows (Some fault) step k = same x h _ refl refl

      -- the rows that an event brings
      pub record Brings (event : EventOf C R O) : Type 0 where
        pub rows : (e : EnvelopeOf C R O) → event ≡ Deliver e → RowsAre P e.msg
        pub asked : (e : EnvelopeOf C R O) (number : ℕ) (cmd : C) → event ≡ Deliver e → e.msg ≡ Request (record { number = number; cmd = cmd })
            → P (record { client = e.from; number = number; cmd = cmd })

      pub step_rows : (event : EventOf C R O) → Brings event → HasRows P (site_step choose f me x event)
      step_rows (Deliver e) b = refused_rows _ _ (message_rows e.from e.msg (b.rows e refl) (λ number cmd is. b.asked e number cmd refl is))
      step_rows Timer b = refused_rows _ _ timer_rows
      step_rows Beat b = refused_rows _ _ (beat_rows x.status)
      step_rows Crash b = refused_rows (refusal {R = R} {O = O} f me x Crash) (on_crash x) (told (over x.cell Down) (over_rows P x.cell Down) [] sends_none)
      step_rows Restart b = refused_rows _ _ restart_rows
