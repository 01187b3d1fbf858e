-- What a site's step sends to sites is of the kinds that go between sites: no REQUEST, no REPLY, no PAYORDER.
use Rattle.std.proofs.Common.{◌≡◌, ℕ, ◌+◌, ◌==◌, ◌&&◌, ◌||◌, Bool, true, false, not, nat_lt, nat_le, if◌then◌else◌, List, [], ◌∷◌, ◌++◌, length, take, slice_get, Option, Some, None, refl, sym, subst}
use Rattle.std.specs.Prelude.{All}
use Rattle.std.proofs.lemmas.List.Elements.{All-nil, All-cons, All-append, All-map}
use Rattle.vr_types.specs.declared.event.EventOf.{EventOf}
use Rattle.vr_types.specs.declared.event.EventOf.TheVariants.{Deliver, Timer, Beat, Crash, Restart}
use Rattle.vr_types.specs.declared.event.SiteFault.{SiteFault}
use Rattle.vr_types.specs.declared.event.Status.{Status}
use Rattle.vr_types.specs.declared.event.Status.TheVariants.{Normal, Change, Recovering, Down}
use Rattle.vr_types.specs.declared.limits.TheConstants.{MAX_ROWS}
use Rattle.vr_types.specs.declared.message.EnvelopeOf.{EnvelopeOf}
use Rattle.vr_types.specs.declared.message.MsgOf.{MsgOf}
use Rattle.vr_types.specs.declared.message.MsgOf.TheVariants.{Request, Prepare, PrepareOk, Commit, StartViewChange, DoViewChange, StartView, GetState, NewState, Recovery, RecoveryResponse, Reply, PayOrder}
use Rattle.vr_types.specs.declared.message.PrepareOf.{PrepareOf}
use Rattle.vr_types.specs.declared.message.StartViewOf.{StartViewOf}
use Rattle.vr_types.specs.declared.message.NewStateOf.{NewStateOf}
use Rattle.vr_types.specs.declared.message.Commit.{Commit as CommitMsg}
use Rattle.vr_types.specs.declared.message.GetState.{GetState as GetStateMsg}
use Rattle.vr_types.specs.declared.message.PrepareOk.{PrepareOk as PrepareOkMsg}
use Rattle.vr_types.specs.declared.message.Recovery.{Recovery as RecoveryMsg}
use Rattle.vr_types.specs.declared.row.RowOf.{RowOf}
use Rattle.vr_types.specs.Group.{others, primary, mail, to_all}
use Rattle.vr_types.specs.Rows.{newest, last_of}
use Rattle.vr_types.specs.Site.{Start, Vote, Response, Site, boot_of, is_normal, is_change, is_recovering}
use Rattle.vr_types.specs.Choice.{Choice, Regained}
use Rattle.vr_types.specs.Step.{Step, does, is_outdated, learns, normal_in, executed_to, begins_with_executed, asks_state, acknowledges_all, takes_log}
use Rattle.vr_types.specs.Normal.{with_row, with_next, answers_again, on_request, prepares, on_prepare, on_commit, on_prepare_ok, news, beats_normal}
use Rattle.vr_types.specs.Change.{Part, with_start, with_vote, with_voted, own_vote, sends_vote, is_to_vote, is_to_open, starts_view, starts_later_view, votes_where_due, opens_where_due, on_start_view_change, on_do_view_change, on_start_view, on_timer, beats_in_change}
use Rattle.vr_types.specs.Transfer.{on_get_state, on_new_state}
use Rattle.vr_types.specs.Recovery.{state_of_view, has_as_late, with_response, on_recovery, on_recovery_response, notes, regains, beats_recovering, on_crash, on_restart}
use Rattle.vr_types.specs.Handling.{refusal, refused_or, on_message, on_beat, site_step}

-- a kind that goes between sites
abbrev pub is_between : {C R O : Type 0} → MsgOf C R O → Bool
is_between (Request msg) = false
is_between (Reply msg) = false
is_between (PayOrder order) = false
is_between _ = true

abbrev pub AreBetween : {C R O : Type 0} → List (EnvelopeOf C R O) → Type 0
AreBetween {C} {R} {O} es = All (λ (e : EnvelopeOf C R O). is_between e.msg ≡ true) es

pub record SendsBetween {C R O : Type 0} (step : Step C R O) : Type 0 where
  pub sent : AreBetween step.sent

record PartBetween {C R O : Type 0} (part : Part C R O) : Type 0 where
  sent : AreBetween part.sent

module _ {C R O : Type 0} where
  none : AreBetween {C = C} {R = R} {O = O} []
  none = All-nil (λ (e : EnvelopeOf C R O). is_between e.msg ≡ true)

  one : (e : EnvelopeOf C R O) → is_between e.msg ≡ true → AreBetween (e ∷ [])
  one e h = All-cons (λ (d : EnvelopeOf C R O). is_between d.msg ≡ true) e [] h none

  both : (a b : List (EnvelopeOf C R O)) → AreBetween a → AreBetween b → AreBetween (a ++ b)
  both a b h k = All-append (λ (d : EnvelopeOf C R O). is_between d.msg ≡ true) a b h k

  all : (f me : ℕ) (msg : MsgOf C R O) → is_between msg ≡ true → AreBetween (to_all f me msg)
  all f me msg h = All-map (λ (d : EnvelopeOf C R O). is_between d.msg ≡ true) (λ j. mail me j msg) (others f me) (λ k d low. h)

  either : (b : Bool) (p q : List (EnvelopeOf C R O)) → AreBetween p → AreBetween q → AreBetween (if b then p else q)
  either true p q h k = h
  either false p q h k = k

  by_if : (b : Bool) {p q : Step C R O} → SendsBetween p → SendsBetween q → SendsBetween (if b then p else q)
  by_if true k l = k
  by_if false k l = l

  silent : (step : Step C R O) → step.sent ≡ [] → SendsBetween step
  silent step is = record { sent = subst (λ (es : List (EnvelopeOf C R O)). AreBetween es) (sym is) none }

  told : (x : Site C) (es : List (EnvelopeOf C R O)) → AreBetween es → SendsBetween (does x es)
  told x es k = record { sent = k }

  module _ (f me : ℕ) (x : Site C) where
    asks : (w base : ℕ) → AreBetween {C = C} {R = R} {O = O} (asks_state f me w base)
    asks w base = one _ refl

    acknowledges : (y : Site C) → AreBetween {R = R} {O = O} (acknowledges_all f me y)
    acknowledges y = one _ refl

    again : (number newest : ℕ) (last : Option (ℕ × RowOf C)) → SendsBetween (answers_again {R = R} {O = O} x number newest last)
    again number newest None = silent _ refl
    again number newest (Some last) = by_if ((number == newest) && (last.1.number == number)) (silent _ refl) (silent _ refl)

    request : (row : RowOf C) → SendsBetween (on_request {R = R} {O = O} f me x row)
    unfolding on_request
    request row =
        by_if (not (is_normal x.status)) (silent _ refl) (
        by_if (not (primary f x.view == me)) (silent _ refl) (
        by_if (nat_lt (newest x.log row.client) row.number)
        (by_if (length x.log == MAX_ROWS) (silent _ refl)
        (told (with_row row x) _ (all f me (Prepare (record { view = x.view; place = length x.log + 1; done = x.done; row = row })) refl)))
        (again row.number (newest x.log row.client) (last_of (take x.done x.log) row.client))))

    prepares_between : (msg : PrepareOf C) → SendsBetween (prepares {R = R} {O = O} f me x msg)
    prepares_between msg =
        told (executed_to msg.done (with_next msg.place msg.row x)) _
        (either (nat_lt (length x.log + 1) msg.place) _ _ (asks x.view (length x.log)) (acknowledges (executed_to msg.done (with_next msg.place msg.row x))))

    prepare : (from : ℕ) (msg : PrepareOf C) → SendsBetween (on_prepare {R = R} {O = O} f me x from msg)
    unfolding on_prepare
    prepare from msg =
        by_if (not (primary f msg.view == from)) (silent _ refl) (
        by_if (is_recovering x.status) (silent _ refl) (
        by_if (nat_lt msg.view x.view) (silent _ refl) (
        by_if (nat_lt x.view msg.view || is_change x.status) (told x _ (asks msg.view x.done)) (prepares_between msg))))

    commit : (from : ℕ) (msg : CommitMsg) → SendsBetween (on_commit {R = R} {O = O} f me x from msg)
    unfolding on_commit
    commit from msg =
        by_if (not (primary f msg.view == from)) (silent _ refl) (
        by_if (is_recovering x.status) (silent _ refl) (
        by_if (nat_lt msg.view x.view) (silent _ refl) (
        by_if (nat_lt x.view msg.view || is_change x.status) (told x _ (asks msg.view x.done))
        (told (executed_to msg.done x) _ (either (nat_lt (length x.log) msg.done) _ _ (asks x.view (length x.log)) none)))))

    prepare_ok : (choose : Choice C) (from : ℕ) (msg : PrepareOkMsg) → SendsBetween (on_prepare_ok {R = R} {O = O} choose f me x from msg)
    unfolding on_prepare_ok
    prepare_ok choose from msg =
        by_if (not (is_normal x.status)) (silent _ refl) (
        by_if (not (msg.view == x.view)) (silent _ refl) (
        by_if (not (primary f x.view == me)) (silent _ refl) (silent _ refl)))

    beat_normal : SendsBetween (beats_normal {R = R} {O = O} f me x)
    unfolding beats_normal
    beat_normal =
        by_if (primary f x.view == me)
        (record { sent = all f me (news x (slice_get x.log x.done)) (news_between (slice_get x.log x.done)) }) (silent _ refl)
      where
        news_between : (next : Option (RowOf C)) → is_between {R = R} {O = O} (news x next) ≡ true
        news_between None = refl
        news_between (Some row) = refl

    -- view change

    vote_between : (y : Site C) → AreBetween {R = R} {O = O} (sends_vote f me y)
    vote_between y = one _ refl

    starts_between : (w : ℕ) → PartBetween (starts_view {R = R} {O = O} f me w x)
    starts_between w = record { sent = all f me (StartViewChange (record { view = w; known = x.known })) refl }

    starts_later : (w : ℕ) → PartBetween (starts_later_view {R = R} {O = O} f me w x)
    starts_later w = by_test (nat_lt x.view w)
      where
        by_test : (b : Bool) → PartBetween (if b then starts_view {R = R} {O = O} f me w x else record { site = x; sent = [] })
        by_test true = starts_between w
        by_test false = record { sent = none }

  module _ (f me : ℕ) where
    votes_between : (part : Part C R O) → PartBetween part → PartBetween (votes_where_due f me part)
    votes_between part h = by_tests (not (is_to_vote f me part.site)) (primary f part.site.view == me)
      where
        by_tests : (due here : Bool) → PartBetween (
            if due then part
            else if here then record { site = with_vote (own_vote me part.site) (with_voted part.site); sent = part.sent }
            else record { site = with_voted part.site; sent = part.sent ++ sends_vote f me part.site })
        by_tests true here = h
        by_tests false true = record { sent = h.sent }
        by_tests false false = record { sent = both part.sent _ h.sent (vote_between f me part.site part.site) }

    module _ (x : Site C) (choose : Choice C) where
      opens : (part : Part C R O) → PartBetween part → SendsBetween (opens_where_due choose f me x part)
      opens part k =
          by_if (not (is_to_open f me part.site)) (record { sent = k.sent }) (
          by_if (not (begins_with_executed choose.same part.site (choose.pick part.site.collected.votes).log)) (silent _ refl)
          (record {
            sent = both part.sent _ k.sent
                (all f me (StartView (record {
                  view = part.site.view;
                  done = (executed_to (choose.most_done part.site.collected.votes)
                      (normal_in part.site.view (choose.pick part.site.collected.votes).log part.site)).done;
                  rows = (choose.pick part.site.collected.votes).log;
                }))
                refl);
          }))

      start_view_change : (w : ℕ) (start : Start) → SendsBetween (on_start_view_change {R = R} {O = O} choose f me x w start)
      unfolding on_start_view_change
      start_view_change w start =
          by_if (is_recovering x.status) (silent _ refl) (
          by_if (nat_lt w x.view) (silent _ refl) (
          by_if (is_normal x.status && (w == x.view)) (silent _ refl) (
          by_if (is_outdated x.known start.from start.known) (silent _ refl) (
          let started = starts_later_view f me w (learns start.known x) in
          let part = starts_later f me (learns start.known x) w in
          opens (votes_where_due f me (record started { site = with_start start started.site }))
          (votes_between (record started { site = with_start start started.site }) (record { sent = part.sent }))))))

      do_view_change : (w : ℕ) (vote : Vote C) → SendsBetween (on_do_view_change {R = R} {O = O} choose f me x w vote)
      unfolding on_do_view_change
      do_view_change w vote =
          by_if (is_recovering x.status) (silent _ refl) (
          by_if (nat_lt w x.view) (silent _ refl) (
          by_if (not (primary f w == me)) (silent _ refl) (
          by_if (is_normal x.status && (w == x.view)) (silent _ refl) (
          by_if (is_outdated x.known vote.from vote.known) (silent _ refl) (
          let started = starts_later_view f me w (learns vote.known x) in
          let part = starts_later f me (learns vote.known x) w in
          opens (record started { site = with_vote vote started.site }) (record { sent = part.sent }))))))

      taken : (w k : ℕ) (log : List (RowOf C)) → SendsBetween (takes_log {R = R} {O = O} choose f me x w k log)
      taken w k log =
          let y = executed_to k (normal_in w log x) in
          by_if (begins_with_executed choose.same x log)
          (told y _ (either (nat_lt y.done (length y.log)) _ _ (acknowledges f me x y) none)) (silent _ refl)

      start_view : (from : ℕ) (msg : StartViewOf C) → SendsBetween (on_start_view {R = R} {O = O} choose f me x from msg)
      unfolding on_start_view
      start_view from msg =
          by_if (not (primary f msg.view == from)) (silent _ refl) (
          by_if (is_recovering x.status) (silent _ refl) (
          by_if (nat_lt msg.view x.view) (silent _ refl) (
          by_if (is_normal x.status && (msg.view == x.view)) (silent _ refl) (taken msg.view msg.done msg.rows))))

      timer : SendsBetween (on_timer {R = R} {O = O} f me x)
      unfolding on_timer
      timer = by_if (is_recovering x.status) (silent _ refl) (record { sent = (starts_between f me x (x.view + 1)).sent })

      beat_in_change : SendsBetween (beats_in_change {R = R} {O = O} f me x)
      unfolding beats_in_change
      beat_in_change =
          told x _ (both _ _ (all f me (StartViewChange (record { view = x.view; known = x.known })) refl)
          (either (x.collected.voted && not (primary f x.view == me)) _ _ (vote_between f me x x) none))

      -- state transfer

      get_state : (from : ℕ) (msg : GetStateMsg) → SendsBetween (on_get_state {R = R} {O = O} f me x from msg)
      unfolding on_get_state
      get_state from msg =
          by_if (not (is_normal x.status)) (silent _ refl) (
          by_if (not (msg.view == x.view)) (silent _ refl) (
          by_if (not (primary f x.view == me)) (silent _ refl) (
          by_if (nat_lt (length x.log) msg.base) (silent _ refl) (told x _ (one _ refl)))))

      new_state : (from : ℕ) (msg : NewStateOf C) → SendsBetween (on_new_state {R = R} {O = O} choose f me x from msg)
      unfolding on_new_state
      new_state from msg =
          by_if (not (primary f msg.view == from)) (silent _ refl) (
          by_if (is_recovering x.status) (silent _ refl) (
          by_if (nat_lt msg.view x.view) (silent _ refl) (
          by_if (nat_lt MAX_ROWS (msg.base + length msg.rows)) (silent _ refl) (
          by_if (is_normal x.status && (msg.view == x.view))
          (by_if (nat_le msg.base (length x.log) && nat_lt (length x.log) (msg.base + length msg.rows)) (taken msg.view msg.done _) (silent _ refl))
          (by_if (nat_le msg.base x.done && nat_le x.done (msg.base + length msg.rows)) (taken msg.view msg.done _) (silent _ refl))))))

      -- recovery

      recovery : (from : ℕ) (msg : RecoveryMsg) → SendsBetween (on_recovery {R = R} {O = O} f me x from msg)
      unfolding on_recovery
      recovery from msg =
          by_if (not (is_normal x.status)) (silent _ refl) (
          by_if (nat_lt msg.nonce (boot_of x.known from)) (silent _ refl) (
          let y = notes from msg.nonce x in
          told y _ (one (mail me from (RecoveryResponse (record { view = y.view; nonce = msg.nonce; state = state_of_view f me y; known = y.known }))) refl)))

      regains_between : (y : Site C) (regained : Option (Regained C)) → SendsBetween (regains {R = R} {O = O} y regained)
      regains_between y None = silent _ refl
      regains_between y (Some regained) = silent _ refl

      recovery_response : (nonce : ℕ) (response : Response C) → SendsBetween (on_recovery_response {R = R} {O = O} choose x nonce response)
      unfolding on_recovery_response
      recovery_response nonce response =
          by_if (not (is_recovering x.status)) (silent _ refl) (
          by_if (not (nonce == x.cell.boots)) (silent _ refl) (
          by_if (is_outdated x.known response.from response.known) (silent _ refl) (
          let y = learns response.known x in
          let z = with_response response y in
          by_if (has_as_late y.collected.responses response) (silent _ refl) (regains_between z (choose.regained z.collected.responses)))))

      beat_recovering : SendsBetween (beats_recovering {R = R} {O = O} f me x)
      unfolding beats_recovering
      beat_recovering = told x _ (all f me (Recovery (record { nonce = x.cell.boots })) refl)

      restart : SendsBetween (on_restart {R = R} {O = O} f me x)
      unfolding on_restart
      restart = told _ _ (all f me (Recovery (record { nonce = x.cell.boots + 1 })) refl)

      -- every event

      message : (actor : ℕ) (msg : MsgOf C R O) → SendsBetween (on_message choose f me x actor msg)
      message actor (Request msg) = request f me x _
      message actor (Prepare msg) = prepare f me x _ msg
      message actor (PrepareOk msg) = prepare_ok f me x choose _ msg
      message actor (Commit msg) = commit f me x _ msg
      message actor (StartViewChange msg) = start_view_change msg.view _
      message actor (DoViewChange msg) = do_view_change msg.view _
      message actor (StartView msg) = start_view _ msg
      message actor (GetState msg) = get_state _ msg
      message actor (NewState msg) = new_state _ msg
      message actor (Recovery msg) = recovery _ msg
      message actor (RecoveryResponse msg) = recovery_response msg.nonce _
      message actor (Reply msg) = silent _ refl
      message actor (PayOrder order) = silent _ refl

      beat : (status : Status) → SendsBetween (on_beat {R = R} {O = O} f me x status)
      beat Normal = beat_normal f me x
      beat Change = beat_in_change
      beat Recovering = beat_recovering
      beat Down = silent _ refl

      refused_between : (fault : Option SiteFault) (step : Step C R O) → SendsBetween step → SendsBetween (refused_or x fault step)
      refused_between None step k = k
      refused_between (Some fault) step k = silent _ refl

      pub step_between : (event : EventOf C R O) → SendsBetween (site_step choose f me x event)
      step_between (Deliver e) = refused_between _ _ (message e.from e.msg)
      step_between Timer = refused_between _ _ timer
      step_between Beat = refused_between _ _ (beat x.status)
      step_between Crash = refused_between (refusal {R = R} {O = O} f me x Crash) (on_crash x) (silent _ refl)
      step_between Restart = refused_between _ _ restart
