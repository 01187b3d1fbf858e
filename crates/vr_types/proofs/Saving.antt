-- A RECOVERY that a step sends carries the count of restarts that the cell then holds: two rules alone send one.
use Rattle.std.proofs.Common.{ℕ, ◌+◌, ◌-◌, ◌==◌, ◌&&◌, ◌||◌, Bool, true, false, not, nat_lt, nat_le, List, [], ◌∷◌, ◌++◌, map, length, take, drop, slice_get, filter_map, Option, Some, None, option_map, if◌then◌else◌, refl}
use Rattle.std.specs.Prelude.{All}
use Rattle.std.specs.List.{cons_option}
use Rattle.std.proofs.lemmas.List.Elements.{All-nil, All-cons, All-append, All-map}
use Rattle.vr_types.specs.declared.cell.Boot.{Boot}
use Rattle.vr_types.specs.declared.event.EventOf.{EventOf}
use Rattle.vr_types.specs.declared.event.EventOf.TheVariants.{Deliver, Timer, Beat, Crash, Restart}
use Rattle.vr_types.specs.declared.event.SiteFault.{SiteFault}
use Rattle.vr_types.specs.declared.event.Status.{Status}
use Rattle.vr_types.specs.declared.event.Status.TheVariants.{Normal, Change, Recovering, Down}
use Rattle.vr_types.specs.declared.limits.TheConstants.{MAX_ROWS}
use Rattle.vr_types.specs.declared.machine.Machine.{Ghosts}
use Rattle.vr_types.specs.declared.message.EnvelopeOf.{EnvelopeOf}
use Rattle.vr_types.specs.declared.message.MsgOf.{MsgOf}
use Rattle.vr_types.specs.declared.message.MsgOf.TheVariants.{Request, Prepare, PrepareOk, Commit, StartViewChange, DoViewChange, StartView, GetState, NewState, Recovery, RecoveryResponse, Reply, PayOrder}
use Rattle.vr_types.specs.declared.message.PrepareOf.{PrepareOf}
use Rattle.vr_types.specs.declared.message.StartViewOf.{StartViewOf}
use Rattle.vr_types.specs.declared.message.NewStateOf.{NewStateOf}
use Rattle.vr_types.specs.declared.message.Commit.{Commit as CommitMsg}
use Rattle.vr_types.specs.declared.message.GetState.{GetState as GetStateMsg}
use Rattle.vr_types.specs.declared.message.PrepareOk.{PrepareOk as PrepareOkMsg}
use Rattle.vr_types.specs.declared.message.Recovery.{Recovery as RecoveryMsg}
use Rattle.vr_types.specs.declared.row.RowOf.{RowOf}
use Rattle.vr_types.specs.Cell.{nonce_of, raised}
use Rattle.vr_types.specs.Execution.{answer_at}
use Rattle.vr_types.specs.Group.{actor_of, others, primary, mail, to_all}
use Rattle.vr_types.specs.Rows.{newest, last_of}
use Rattle.vr_types.specs.Site.{Site, Start, Vote, Response, boot_of, has_start, has_vote, is_normal, is_change, is_recovering}
use Rattle.vr_types.specs.Choice.{Choice, Regained}
use Rattle.vr_types.specs.Saved.{IsSavedFor}
use Rattle.vr_types.specs.Step.{Step, does, is_outdated, learns, begins_with_executed, takes_log, asks_state, acknowledges_all, executed_to, normal_in}
use Rattle.vr_types.specs.Normal.{with_row, prepares, on_request, answers_again, on_prepare, on_prepare_ok, on_commit, beats_normal, news}
use Rattle.vr_types.specs.Change.{Part, with_voted, own_vote, sends_vote, starts_view, starts_later_view, with_start, with_vote, votes_where_due, opens_where_due, is_to_vote, is_to_open, on_start_view_change, on_do_view_change, on_start_view, on_timer, beats_in_change}
use Rattle.vr_types.specs.Transfer.{on_get_state, on_new_state}
use Rattle.vr_types.specs.Recovery.{state_of_view, has_as_late, with_response, notes, on_recovery, on_recovery_response, regains, beats_recovering, on_crash, on_restart}
use Rattle.vr_types.specs.Handling.{refusal, refused_or, on_message, on_beat, site_step, envelopes, reply_to, order_to}

-- what is sent was saved, over this cell
abbrev AllSaved : {C R O : Type 0} → Boot → List (EnvelopeOf C R O) → Type 0
AllSaved {C} {R} {O} cell sent = All (λ (e : EnvelopeOf C R O). IsSavedFor cell e.msg) sent

no_mail : {C R O : Type 0} (cell : Boot) → AllSaved {C = C} {R = R} {O = O} cell []
no_mail {C} {R} {O} cell = All-nil (λ (e : EnvelopeOf C R O). IsSavedFor cell e.msg)

one_mail : {C R O : Type 0} (cell : Boot) (e : EnvelopeOf C R O) → IsSavedFor cell e.msg → AllSaved cell (e ∷ [])
one_mail {C} {R} {O} cell e h = All-cons (λ (d : EnvelopeOf C R O). IsSavedFor cell d.msg) e [] h (no_mail cell)

both_mails : {C R O : Type 0} (cell : Boot) (a b : List (EnvelopeOf C R O)) → AllSaved cell a → AllSaved cell b → AllSaved cell (a ++ b)
both_mails {C} {R} {O} cell a b h k = All-append (λ (d : EnvelopeOf C R O). IsSavedFor cell d.msg) a b h k

mail_to_all : {C R O : Type 0} (cell : Boot) (f me : ℕ) (msg : MsgOf C R O) → IsSavedFor cell msg → AllSaved cell (to_all f me msg)
mail_to_all {C} {R} {O} cell f me msg h = All-map (λ (d : EnvelopeOf C R O). IsSavedFor cell d.msg) (λ j. mail me j msg) (others f me) (λ k d low. h)

mail_if : {C R O : Type 0} (cell : Boot) (b : Bool) (p q : List (EnvelopeOf C R O)) → AllSaved cell p → AllSaved cell q → AllSaved cell (if b then p else q)
mail_if cell true p q h k = h
mail_if cell false p q h k = k

-- a step sends nothing that was not saved
abbrev IsSavedStep : {C R O : Type 0} → Step C R O → Type 0
IsSavedStep s = AllSaved s.site.cell s.sent

-- the same in the middle of a rule
abbrev IsSavedPart : {C R O : Type 0} → Part C R O → Type 0
IsSavedPart p = AllSaved p.site.cell p.sent

saved_if : {C R O : Type 0} (b : Bool) (p q : Step C R O) → IsSavedStep p → IsSavedStep q → IsSavedStep (if b then p else q)
saved_if true p q h k = h
saved_if false p q h k = k

-- normal operation

request_saved : {C R O : Type 0} (f me : ℕ) (x : Site C) (row : RowOf C) → IsSavedStep (on_request {R = R} {O = O} f me x row)
unfolding on_request
request_saved {C} {R} {O} f me x row =
    saved_if (not (is_normal x.status)) _ _ (no_mail x.cell)
    (saved_if (not (primary f x.view == me)) _ _ (no_mail x.cell)
    (saved_if (nat_lt (newest x.log row.client) row.number) _ _
    (saved_if (length x.log == MAX_ROWS) _ _ (no_mail x.cell)
    (mail_to_all x.cell f me (Prepare (record { view = x.view; place = length x.log + 1; done = x.done; row = row })) tt))
    (again (last_of (take x.done x.log) row.client))))
  where
    again : (last : Option (ℕ × RowOf C)) → IsSavedStep (answers_again {R = R} {O = O} x row.number (newest x.log row.client) last)
    again None = no_mail x.cell
    again (Some last) = saved_if ((row.number == newest x.log row.client) && (last.1.number == row.number)) _ _ (no_mail x.cell) (no_mail x.cell)

asking_saved : {C R O : Type 0} (cell : Boot) (f me w base : ℕ) → AllSaved {C = C} {R = R} {O = O} cell (asks_state f me w base)
asking_saved cell f me w base = one_mail cell _ tt

acknowledging_saved : {C R O : Type 0} (f me : ℕ) (x : Site C) → AllSaved {C = C} {R = R} {O = O} x.cell (acknowledges_all f me x)
acknowledging_saved f me x = one_mail x.cell _ tt

prepares_saved : {C R O : Type 0} (f me : ℕ) (x : Site C) (msg : PrepareOf C) → IsSavedStep (prepares {R = R} {O = O} f me x msg)
prepares_saved {C} {R} {O} f me x msg = by_place (msg.place == length x.log + 1)
  where
    saved_from : (y : Site C)
        → IsSavedStep (does {C = C} {R = R} {O = O} y (if nat_lt (length x.log + 1) msg.place then asks_state f me x.view (length x.log)
        else acknowledges_all f me y))
    saved_from y = mail_if y.cell (nat_lt (length x.log + 1) msg.place) _ _ (asking_saved y.cell f me x.view (length x.log)) (acknowledging_saved f me y)

    by_place : (b : Bool) → IsSavedStep (
        let y = executed_to msg.done (if b then with_row msg.row x else x) in
        does {C = C} {R = R} {O = O} y (if nat_lt (length x.log + 1) msg.place then asks_state f me x.view (length x.log) else acknowledges_all f me y))
    by_place true = saved_from (executed_to msg.done (with_row msg.row x))
    by_place false = saved_from (executed_to msg.done x)

prepare_saved : {C R O : Type 0} (f me : ℕ) (x : Site C) (from : ℕ) (msg : PrepareOf C) → IsSavedStep (on_prepare {R = R} {O = O} f me x from msg)
unfolding on_prepare
prepare_saved f me x from msg =
    saved_if (not (primary f msg.view == from)) _ _ (no_mail x.cell)
    (saved_if (is_recovering x.status) _ _ (no_mail x.cell)
    (saved_if (nat_lt msg.view x.view) _ _ (no_mail x.cell)
    (saved_if (nat_lt x.view msg.view || is_change x.status) _ _ (asking_saved x.cell f me msg.view x.done) (prepares_saved f me x msg))))

commit_saved : {C R O : Type 0} (f me : ℕ) (x : Site C) (from : ℕ) (msg : CommitMsg) → IsSavedStep (on_commit {R = R} {O = O} f me x from msg)
unfolding on_commit
commit_saved f me x from msg =
    saved_if (not (primary f msg.view == from)) _ _ (no_mail x.cell)
    (saved_if (is_recovering x.status) _ _ (no_mail x.cell)
    (saved_if (nat_lt msg.view x.view) _ _ (no_mail x.cell)
    (saved_if (nat_lt x.view msg.view || is_change x.status) _ _ (asking_saved x.cell f me msg.view x.done)
    (mail_if x.cell (nat_lt (length x.log) msg.done) _ _ (asking_saved x.cell f me x.view (length x.log)) (no_mail x.cell)))))

prepare_ok_saved : {C R O : Type 0} (choose : Choice C) (f me : ℕ) (x : Site C) (from : ℕ) (msg : PrepareOkMsg)
    → IsSavedStep (on_prepare_ok {R = R} {O = O} choose f me x from msg)
unfolding on_prepare_ok
prepare_ok_saved choose f me x from msg =
    saved_if (not (is_normal x.status)) _ _ (no_mail x.cell)
    (saved_if (not (msg.view == x.view)) _ _ (no_mail x.cell)
    (saved_if (not (primary f x.view == me)) _ _ (no_mail x.cell) (no_mail x.cell)))

news_saved : {C : Type 0} (R O : Type 0) (x : Site C) (row : Option (RowOf C)) → IsSavedFor x.cell (news {R = R} {O = O} x row)
news_saved R O x None = tt
news_saved R O x (Some row) = tt

beat_saved : {C R O : Type 0} (f me : ℕ) (x : Site C) → IsSavedStep (beats_normal {R = R} {O = O} f me x)
unfolding beats_normal
beat_saved f me x =
    saved_if (primary f x.view == me) _ _ (mail_to_all x.cell f me (news x (slice_get x.log x.done)) (news_saved _ _ x _)) (no_mail x.cell)

-- view change

starting_later_saved : {C R O : Type 0} (f me w : ℕ) (x : Site C) → IsSavedPart (starts_later_view {R = R} {O = O} f me w x)
starting_later_saved {C} {R} {O} f me w x = by_test (nat_lt x.view w)
  where
    by_test : (b : Bool) → IsSavedPart (if b then starts_view {R = R} {O = O} f me w x else record { site = x; sent = [] })
    by_test true = mail_to_all x.cell f me (StartViewChange (record { view = w; known = x.known })) tt
    by_test false = no_mail x.cell

keeping_start_saved : {C R O : Type 0} (start : Start) (p : Part C R O) → IsSavedPart p → IsSavedPart (record p { site = with_start start p.site })
keeping_start_saved {C} {R} {O} start p h = by_test (has_start p.site.collected.starts start.from)
  where
    by_test : (b : Bool)
        → IsSavedPart
        (record p {
          site = if b then p.site
              else record (p.site) { collected = record (p.site.collected) { starts = p.site.collected.starts ++ start ∷ [] } };
        })
    by_test true = h
    by_test false = h

keeping_vote_saved : {C R O : Type 0} (vote : Vote C) (x : Site C) (sent : List (EnvelopeOf C R O)) → AllSaved x.cell sent
    → IsSavedPart (record { site = with_vote vote x; sent = sent })
keeping_vote_saved {C} {R} {O} vote x sent s = by_test (has_vote x.collected.votes vote.from)
  where
    by_test : (b : Bool)
        → IsSavedPart {C = C} {R = R} {O = O}
        (record { site = if b then x else record x { collected = record (x.collected) { votes = x.collected.votes ++ vote ∷ [] } }; sent = sent })
    by_test true = s
    by_test false = s

voting_saved : {C R O : Type 0} (f me : ℕ) (p : Part C R O) → IsSavedPart p → IsSavedPart (votes_where_due f me p)
voting_saved {C} {R} {O} f me p h = by_tests (not (is_to_vote f me p.site)) (primary f p.site.view == me)
  where
    by_tests : (due here : Bool) → IsSavedPart {C = C} {R = R} {O = O} (
        if due then p
        else if here then record { site = with_vote (own_vote me p.site) (with_voted p.site); sent = p.sent }
        else record { site = with_voted p.site; sent = p.sent ++ sends_vote f me p.site })
    by_tests true here = h
    by_tests false true = keeping_vote_saved (own_vote me p.site) (with_voted p.site) p.sent h
    by_tests false false = both_mails p.site.cell p.sent _ h (one_mail p.site.cell _ tt)

opening_saved : {C R O : Type 0} (choose : Choice C) (f me : ℕ) (x : Site C) (p : Part C R O) → IsSavedPart p → IsSavedStep (opens_where_due choose f me x p)
opening_saved choose f me x p part =
    let votes = p.site.collected.votes in
    let log = (choose.pick votes).log in
    let opened = executed_to (choose.most_done votes) (normal_in p.site.view log p.site) in
    saved_if (not (is_to_open f me p.site)) _ _ part
    (saved_if (not (begins_with_executed choose.same p.site log)) _ _ (no_mail x.cell)
    (both_mails p.site.cell p.sent _ part (mail_to_all p.site.cell f me (StartView (record { view = opened.view; done = opened.done; rows = opened.log })) tt)))

start_view_change_saved : {C R O : Type 0} (choose : Choice C) (f me : ℕ) (x : Site C) (w : ℕ) (start : Start)
    → IsSavedStep (on_start_view_change {R = R} {O = O} choose f me x w start)
unfolding on_start_view_change
start_view_change_saved choose f me x w start =
    saved_if (is_recovering x.status) _ _ (no_mail x.cell)
    (saved_if (nat_lt w x.view) _ _ (no_mail x.cell)
    (saved_if (is_normal x.status && (w == x.view)) _ _ (no_mail x.cell)
    (saved_if (is_outdated x.known start.from start.known) _ _ (no_mail x.cell)
    (let started = starts_later_view f me w (learns start.known x) in
    opening_saved choose f me x _ (voting_saved f me (record started { site = with_start start started.site })
    (keeping_start_saved start started (starting_later_saved f me w (learns start.known x))))))))

do_view_change_saved : {C R O : Type 0} (choose : Choice C) (f me : ℕ) (x : Site C) (w : ℕ) (vote : Vote C)
    → IsSavedStep (on_do_view_change {R = R} {O = O} choose f me x w vote)
unfolding on_do_view_change
do_view_change_saved choose f me x w vote =
    saved_if (is_recovering x.status) _ _ (no_mail x.cell)
    (saved_if (nat_lt w x.view) _ _ (no_mail x.cell)
    (saved_if (not (primary f w == me)) _ _ (no_mail x.cell)
    (saved_if (is_normal x.status && (w == x.view)) _ _ (no_mail x.cell)
    (saved_if (is_outdated x.known vote.from vote.known) _ _ (no_mail x.cell)
    (let started = starts_later_view f me w (learns vote.known x) in
    opening_saved choose f me x _ (keeping_vote_saved vote started.site started.sent (starting_later_saved f me w (learns vote.known x))))))))

taking_saved : {C R O : Type 0} (choose : Choice C) (f me : ℕ) (x : Site C) (w k : ℕ) (log : List (RowOf C))
    → IsSavedStep (takes_log {R = R} {O = O} choose f me x w k log)
taking_saved choose f me x w k log =
    let y = executed_to k (normal_in w log x) in
    saved_if (begins_with_executed choose.same x log) _ _
    (mail_if x.cell (nat_lt y.done (length y.log)) _ _ (acknowledging_saved f me y) (no_mail x.cell)) (no_mail x.cell)

start_view_saved : {C R O : Type 0} (choose : Choice C) (f me : ℕ) (x : Site C) (from : ℕ) (msg : StartViewOf C)
    → IsSavedStep (on_start_view {R = R} {O = O} choose f me x from msg)
unfolding on_start_view
start_view_saved choose f me x from msg =
    saved_if (not (primary f msg.view == from)) _ _ (no_mail x.cell)
    (saved_if (is_recovering x.status) _ _ (no_mail x.cell)
    (saved_if (nat_lt msg.view x.view) _ _ (no_mail x.cell)
    (saved_if (is_normal x.status && (msg.view == x.view)) _ _ (no_mail x.cell) (taking_saved choose f me x msg.view msg.done msg.rows))))

timer_saved : {C R O : Type 0} (f me : ℕ) (x : Site C) → IsSavedStep (on_timer {R = R} {O = O} f me x)
unfolding on_timer
timer_saved f me x =
    saved_if (is_recovering x.status) _ _ (no_mail x.cell) (mail_to_all x.cell f me (StartViewChange (record { view = x.view + 1; known = x.known })) tt)

beat_in_change_saved : {C R O : Type 0} (f me : ℕ) (x : Site C) → IsSavedStep (beats_in_change {R = R} {O = O} f me x)
unfolding beats_in_change
beat_in_change_saved f me x =
    both_mails x.cell _ _ (mail_to_all x.cell f me (StartViewChange (record { view = x.view; known = x.known })) tt)
    (mail_if x.cell (x.collected.voted && not (primary f x.view == me)) _ _ (one_mail x.cell _ tt) (no_mail x.cell))

-- state transfer

get_state_saved : {C R O : Type 0} (f me : ℕ) (x : Site C) (from : ℕ) (msg : GetStateMsg) → IsSavedStep (on_get_state {R = R} {O = O} f me x from msg)
unfolding on_get_state
get_state_saved f me x from msg =
    saved_if (not (is_normal x.status)) _ _ (no_mail x.cell)
    (saved_if (not (msg.view == x.view)) _ _ (no_mail x.cell)
    (saved_if (not (primary f x.view == me)) _ _ (no_mail x.cell)
    (saved_if (nat_lt (length x.log) msg.base) _ _ (no_mail x.cell)
    (one_mail x.cell (mail me from (NewState (record { view = x.view; base = msg.base; done = x.done; rows = drop msg.base x.log }))) tt))))

new_state_saved : {C R O : Type 0} (choose : Choice C) (f me : ℕ) (x : Site C) (from : ℕ) (msg : NewStateOf C)
    → IsSavedStep (on_new_state {R = R} {O = O} choose f me x from msg)
unfolding on_new_state
new_state_saved choose f me x from msg =
    saved_if (not (primary f msg.view == from)) _ _ (no_mail x.cell)
    (saved_if (is_recovering x.status) _ _ (no_mail x.cell)
    (saved_if (nat_lt msg.view x.view) _ _ (no_mail x.cell)
    (saved_if (nat_lt MAX_ROWS (msg.base + length msg.rows)) _ _ (no_mail x.cell)
    (saved_if (is_normal x.status && (msg.view == x.view)) _ _
    (saved_if (nat_le msg.base (length x.log) && nat_lt (length x.log) (msg.base + length msg.rows)) _ _
    (taking_saved choose f me x msg.view msg.done _) (no_mail x.cell))
    (saved_if (nat_le msg.base x.done && nat_le x.done (msg.base + length msg.rows)) _ _ (taking_saved choose f me x msg.view msg.done _) (no_mail x.cell))))))

-- recovery

recovery_saved : {C R O : Type 0} (f me : ℕ) (x : Site C) (from : ℕ) (msg : RecoveryMsg) → IsSavedStep (on_recovery {R = R} {O = O} f me x from msg)
unfolding on_recovery
recovery_saved f me x from msg =
    let y = notes from msg.nonce x in
    saved_if (not (is_normal x.status)) _ _ (no_mail x.cell)
    (saved_if (nat_lt msg.nonce (boot_of x.known from)) _ _ (no_mail x.cell)
    (one_mail x.cell (mail me from (RecoveryResponse (record { view = y.view; nonce = msg.nonce; state = state_of_view f me y; known = y.known }))) tt))

regaining_saved : {C R O : Type 0} (x : Site C) (regained : Option (Regained C)) → IsSavedStep (regains {R = R} {O = O} x regained)
regaining_saved x None = no_mail x.cell
regaining_saved x (Some regained) = no_mail x.cell

recovery_response_saved : {C R O : Type 0} (choose : Choice C) (x : Site C) (nonce : ℕ) (response : Response C)
    → IsSavedStep (on_recovery_response {R = R} {O = O} choose x nonce response)
unfolding on_recovery_response
recovery_response_saved choose x nonce response =
    let y = learns response.known x in
    let z = with_response response y in
    saved_if (not (is_recovering x.status)) _ _ (no_mail x.cell)
    (saved_if (not (nonce == nonce_of x.cell)) _ _ (no_mail x.cell)
    (saved_if (is_outdated x.known response.from response.known) _ _ (no_mail x.cell)
    (saved_if (has_as_late y.collected.responses response) _ _ (no_mail x.cell)
    (regaining_saved z (choose.regained z.collected.responses)))))

beat_recovering_saved : {C R O : Type 0} (f me : ℕ) (x : Site C) → IsSavedStep (beats_recovering {R = R} {O = O} f me x)
unfolding beats_recovering
beat_recovering_saved f me x = mail_to_all x.cell f me (Recovery (record { nonce = nonce_of x.cell })) refl

restart_saved : {C R O : Type 0} (f me : ℕ) (x : Site C) → IsSavedStep (on_restart {R = R} {O = O} f me x)
unfolding on_restart
restart_saved f me x = mail_to_all (raised x.cell) f me (Recovery (record { nonce = nonce_of (raised x.cell) })) refl

-- every event

module _ {C R O : Type 0} (choose : Choice C) (f me : ℕ) (x : Site C) where
  message_saved : (actor : ℕ) (msg : MsgOf C R O) → IsSavedStep (on_message choose f me x actor msg)
  message_saved actor (Request msg) = request_saved f me x _
  message_saved actor (Prepare msg) = prepare_saved f me x _ msg
  message_saved actor (PrepareOk msg) = prepare_ok_saved choose f me x _ msg
  message_saved actor (Commit msg) = commit_saved f me x _ msg
  message_saved actor (StartViewChange msg) = start_view_change_saved choose f me x msg.view _
  message_saved actor (DoViewChange msg) = do_view_change_saved choose f me x msg.view _
  message_saved actor (StartView msg) = start_view_saved choose f me x _ msg
  message_saved actor (GetState msg) = get_state_saved f me x _ msg
  message_saved actor (NewState msg) = new_state_saved choose f me x _ msg
  message_saved actor (Recovery msg) = recovery_saved f me x _ msg
  message_saved actor (RecoveryResponse msg) = recovery_response_saved choose x msg.nonce _
  message_saved actor (Reply msg) = no_mail x.cell
  message_saved actor (PayOrder order) = no_mail x.cell

  beats_saved : (status : Status) → IsSavedStep {R = R} {O = O} (on_beat f me x status)
  beats_saved Normal = beat_saved f me x
  beats_saved Change = beat_in_change_saved f me x
  beats_saved Recovering = beat_recovering_saved f me x
  beats_saved Down = no_mail x.cell

  unless_refused : (fault : Option SiteFault) (s : Step C R O) → IsSavedStep s → IsSavedStep (refused_or x fault s)
  unless_refused (Some fault) s saved = no_mail x.cell
  unless_refused None s saved = saved

  pub step_saved : (event : EventOf C R O) → IsSavedStep (site_step choose f me x event)
  step_saved (Deliver e) = unless_refused _ _ (message_saved e.from e.msg)
  step_saved Timer = unless_refused _ _ (timer_saved f me x)
  step_saved Beat = unless_refused _ _ (beats_saved x.status)
  step_saved Crash = unless_refused (refusal {R = R} {O = O} f me x Crash) (on_crash x) (no_mail x.cell)
  step_saved Restart = unless_refused _ _ (restart_saved f me x)

-- what goes to clients

module _ {H C R O S : Type 0} (m : Ghosts H C R O S) (start : H) (me : ℕ) (cell : Boot) where
  replies_saved : (x : Site C) (places : List ℕ) → AllSaved cell (filter_map (reply_to m start me x) places)
  replies_saved x [] = no_mail cell
  replies_saved x (p ∷ ps) = one (slice_get x.log (p - 1)) (filter_map (reply_to m start me x) ps) (replies_saved x ps)
    where
      one : (row : Option (RowOf C)) (rest : List (EnvelopeOf C R O)) → AllSaved cell rest
          → AllSaved cell
          (cons_option
          (option_map (λ r. record {
            from = actor_of me;
            to = r.client;
            msg = Reply (record { view = x.view; number = r.number; reply = answer_at m start x.log p r });
          }) row) rest)
      one None rest h = h
      one (Some r) rest h =
          both_mails cell (record {
            from = actor_of me;
            to = r.client;
            msg = Reply (record { view = x.view; number = r.number; reply = answer_at m start x.log p r });
          } ∷ []) rest (one_mail cell _ tt) h

  orders_saved : (b : Bool) (due : List (ℕ × O)) → AllSaved {C = C} {R = R} {O = O} cell (if b then map (order_to me) due else [])
  orders_saved true due = All-map (λ (d : EnvelopeOf C R O). IsSavedFor cell d.msg) (order_to me) due (λ k d low. tt)
  orders_saved false due = no_mail cell

pub envelopes_saved : {H C R O S : Type 0} (m : Ghosts H C R O S) (start : H) (me : ℕ) (s : Step C R O) → IsSavedStep s
    → AllSaved s.site.cell (envelopes m start me s)
envelopes_saved m start me s h =
    let cell = s.site.cell in
    both_mails cell (s.sent ++ filter_map (reply_to m start me s.site) s.replies) _
    (both_mails cell s.sent _ h (replies_saved m start me cell s.site s.replies))
    (orders_saved m start me cell s.orders _)
