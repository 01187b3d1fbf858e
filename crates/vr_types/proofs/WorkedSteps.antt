-- Single steps of a site, computed.
use Rattle.std.proofs.Common.{◌≡◌, ◌==◌, true, nat_lt, length, refl, ℕ, [], ◌∷◌, Some, None, inl, inr, true≢false}
use Rattle.vr_types.specs.declared.event.EventOf.TheVariants.{Timer, Beat, Crash, Restart}
use Rattle.vr_types.specs.declared.event.SiteFault.TheVariants.{AlreadyUp, ViewsSpent, BootsSpent, NotMine}
use Rattle.vr_types.specs.declared.event.Status.TheVariants.{Normal, Recovering, Down}
use Rattle.vr_types.specs.declared.event.Why.TheVariants as why
use Rattle.vr_types.specs.declared.event.Why.TheVariants.{NotPrimary, Known, Stale, Full}
use Rattle.vr_types.specs.declared.message.MsgOf.TheVariants.{Request, Prepare, PrepareOk, Commit, StartViewChange, DoViewChange, StartView, GetState, NewState, Recovery, RecoveryResponse, Reply, PayOrder}
use Rattle.vr_types.specs.declared.row.RowOf.{RowOf}
use Rattle.vr_types.specs.Rows.{newest}
use Rattle.vr_types.specs.Group.{primary}
use Rattle.vr_types.specs.Site.{is_normal, Site, over, opening_site}
use Rattle.vr_types.specs.Step.{Step, Handled, drops, refuses}
use Rattle.vr_types.specs.Handling.{IsFall, envelopes}
use Rattle.vr_types.specs.Normal.{on_request, on_prepare, on_prepare_ok, on_commit, beats_normal}
use Rattle.vr_types.specs.Change.{on_start_view_change, on_do_view_change, on_start_view, on_timer, beats_in_change}
use Rattle.vr_types.specs.Transfer.{on_get_state, on_new_state}
use Rattle.vr_types.specs.Recovery.{on_recovery, on_recovery_response, beats_recovering, on_restart}
use Rattle.vr_types.proofs.Runs.{Ask, Add, Total, tally, fresh_tally, fresh, step, takes, sent, shown}

abbrev paid_in : RowOf Ask
paid_in = record { client = 102; number = 1; cmd = Add 1200 }

-- a request in normal operation, one message at a time
abbrev requested : Step Ask ℕ ℕ
requested = takes 1 0 (fresh 1) 102 (Request (record { number = 1; cmd = Add 1200 }))

requested_sends : sent 0 requested ≡ record { from = 200; to = 201; msg = Prepare (record { view = 0; place = 1; done = 0; row = paid_in }) }
    ∷ record { from = 200; to = 202; msg = Prepare (record { view = 0; place = 1; done = 0; row = paid_in }) } ∷ []
unfolding on_request on_prepare on_prepare_ok on_commit beats_normal on_start_view_change on_do_view_change on_start_view on_timer beats_in_change on_get_state
    on_new_state on_recovery on_recovery_response beats_recovering on_restart
requested_sends = refl

prepared_sends : sent 1 (takes 1 1 (fresh 1) 200 (Prepare (record { view = 0; place = 1; done = 0; row = paid_in })))
    ≡ record { from = 201; to = 200; msg = PrepareOk (record { view = 0; place = 1 }) } ∷ []
unfolding on_request on_prepare on_prepare_ok on_commit beats_normal on_start_view_change on_do_view_change on_start_view on_timer beats_in_change on_get_state
    on_new_state on_recovery on_recovery_response beats_recovering on_restart
prepared_sends = refl

abbrev acknowledged : Step Ask ℕ ℕ
acknowledged = takes 1 0 requested.site 201 (PrepareOk (record { view = 0; place = 1 }))

acknowledged_sends : sent 0 acknowledged ≡ record { from = 200; to = 102; msg = Reply (record { view = 0; number = 1; reply = 1200 }) } ∷ []
unfolding on_request on_prepare on_prepare_ok on_commit beats_normal on_start_view_change on_do_view_change on_start_view on_timer beats_in_change on_get_state
    on_new_state on_recovery on_recovery_response beats_recovering on_restart
acknowledged_sends = refl

abbrev acknowledged_again : Step Ask ℕ ℕ
acknowledged_again = takes 1 0 acknowledged.site 202 (PrepareOk (record { view = 0; place = 1 }))

acknowledged_again_sends : sent 0 acknowledged_again ≡ []
unfolding on_request on_prepare on_prepare_ok on_commit beats_normal on_start_view_change on_do_view_change on_start_view on_timer beats_in_change on_get_state
    on_new_state on_recovery on_recovery_response beats_recovering on_restart
acknowledged_again_sends = refl

acknowledged_again_is_handled : acknowledged_again.ending ≡ Handled
unfolding on_request on_prepare on_prepare_ok on_commit beats_normal on_start_view_change on_do_view_change on_start_view on_timer beats_in_change on_get_state
    on_new_state on_recovery on_recovery_response beats_recovering on_restart
acknowledged_again_is_handled = refl

beat_sends : sent 0 (step 1 0 acknowledged_again.site Beat) ≡ record { from = 200; to = 201; msg = Commit (record { view = 0; done = 1 }) }
    ∷ record { from = 200; to = 202; msg = Commit (record { view = 0; done = 1 }) } ∷ []
unfolding on_request on_prepare on_prepare_ok on_commit beats_normal on_start_view_change on_do_view_change on_start_view on_timer beats_in_change on_get_state
    on_new_state on_recovery on_recovery_response beats_recovering on_restart
beat_sends = refl

beat_before_sends : sent 0 (step 1 0 requested.site Beat) ≡ record {
  from = 200;
  to = 201;
  msg = Prepare (record { view = 0; place = 1; done = 0; row = paid_in });
} ∷ record {
  from = 200;
  to = 202;
  msg = Prepare (record { view = 0; place = 1; done = 0; row = paid_in });
} ∷ []
unfolding on_request on_prepare on_prepare_ok on_commit beats_normal on_start_view_change on_do_view_change on_start_view on_timer beats_in_change on_get_state
    on_new_state on_recovery on_recovery_response beats_recovering on_restart
beat_before_sends = refl

requested_again_sends : sent 0 (takes 1 0 acknowledged_again.site 102 (Request (record { number = 1; cmd = Add 1200 })))
    ≡ record { from = 200; to = 102; msg = Reply (record { view = 0; number = 1; reply = 1200 }) } ∷ []
unfolding on_request on_prepare on_prepare_ok on_commit beats_normal on_start_view_change on_do_view_change on_start_view on_timer beats_in_change on_get_state
    on_new_state on_recovery on_recovery_response beats_recovering on_restart
requested_again_sends = refl

request_at_backup : takes 1 1 (fresh 1) 102 (Request (record { number = 1; cmd = Add 1200 })) ≡ drops (fresh 1) NotPrimary
unfolding on_request on_prepare on_prepare_ok on_commit beats_normal on_start_view_change on_do_view_change on_start_view on_timer beats_in_change on_get_state
    on_new_state on_recovery on_recovery_response beats_recovering on_restart
request_at_backup = refl

-- a row is missing; a request has number 0, or is not the client's newest, or is not executed yet, or comes from a site
missing_row_sends : sent 1 (takes 1 1 (fresh 1) 200 (Prepare (record { view = 0; place = 3; done = 0; row = paid_in })))
    ≡ record { from = 201; to = 200; msg = GetState (record { view = 0; base = 0 }) } ∷ []
unfolding on_request on_prepare on_prepare_ok on_commit beats_normal on_start_view_change on_do_view_change on_start_view on_timer beats_in_change on_get_state
    on_new_state on_recovery on_recovery_response beats_recovering on_restart
missing_row_sends = refl

missing_row_changes_nothing : (takes 1 1 (fresh 1) 200 (Prepare (record { view = 0; place = 3; done = 0; row = paid_in }))).site ≡ fresh 1
unfolding on_request on_prepare on_prepare_ok on_commit beats_normal on_start_view_change on_do_view_change on_start_view on_timer beats_in_change on_get_state
    on_new_state on_recovery on_recovery_response beats_recovering on_restart
missing_row_changes_nothing = refl

request_0 : takes 1 0 (fresh 1) 102 (Request (record { number = 0; cmd = Add 5 })) ≡ drops (fresh 1) Known
unfolding on_request on_prepare on_prepare_ok on_commit beats_normal on_start_view_change on_do_view_change on_start_view on_timer beats_in_change on_get_state
    on_new_state on_recovery on_recovery_response beats_recovering on_restart
request_0 = refl

request_not_executed : takes 1 0 requested.site 102 (Request (record { number = 1; cmd = Add 1200 })) ≡ drops requested.site Known
unfolding on_request on_prepare on_prepare_ok on_commit beats_normal on_start_view_change on_do_view_change on_start_view on_timer beats_in_change on_get_state
    on_new_state on_recovery on_recovery_response beats_recovering on_restart
request_not_executed = refl

abbrev requested_more : Step Ask ℕ ℕ
requested_more = takes 1 0 acknowledged.site 102 (Request (record { number = 2; cmd = Total }))

request_not_newest : takes 1 0 requested_more.site 102 (Request (record { number = 1; cmd = Add 1200 })) ≡ drops requested_more.site Known
unfolding on_request on_prepare on_prepare_ok on_commit beats_normal on_start_view_change on_do_view_change on_start_view on_timer beats_in_change on_get_state
    on_new_state on_recovery on_recovery_response beats_recovering on_restart
request_not_newest = refl

request_of_site : takes 1 0 (fresh 1) 201 (Request (record { number = 1; cmd = Add 5 })) ≡ refuses (fresh 1) NotMine
unfolding on_request on_prepare on_prepare_ok on_commit beats_normal on_start_view_change on_do_view_change on_start_view on_timer beats_in_change on_get_state
    on_new_state on_recovery on_recovery_response beats_recovering on_restart
request_of_site = refl

reply_to_site : takes 1 0 (fresh 1) 201 (Reply (record { view = 0; number = 1; reply = 5 })) ≡ refuses (fresh 1) NotMine
unfolding on_request on_prepare on_prepare_ok on_commit beats_normal on_start_view_change on_do_view_change on_start_view on_timer beats_in_change on_get_state
    on_new_state on_recovery on_recovery_response beats_recovering on_restart
reply_to_site = refl

order_to_site : takes 1 0 (fresh 1) 201 (PayOrder 5) ≡ refuses (fresh 1) NotMine
unfolding on_request on_prepare on_prepare_ok on_commit beats_normal on_start_view_change on_do_view_change on_start_view on_timer beats_in_change on_get_state
    on_new_state on_recovery on_recovery_response beats_recovering on_restart
order_to_site = refl

of_itself : takes 1 0 (fresh 1) 200 (Commit (record { view = 0; done = 0 })) ≡ refuses (fresh 1) NotMine
unfolding on_request on_prepare on_prepare_ok on_commit beats_normal on_start_view_change on_do_view_change on_start_view on_timer beats_in_change on_get_state
    on_new_state on_recovery on_recovery_response beats_recovering on_restart
of_itself = refl

of_no_site : takes 1 0 (fresh 1) 203 (PrepareOk (record { view = 0; place = 0 })) ≡ refuses (fresh 1) NotMine
unfolding on_request on_prepare on_prepare_ok on_commit beats_normal on_start_view_change on_do_view_change on_start_view on_timer beats_in_change on_get_state
    on_new_state on_recovery on_recovery_response beats_recovering on_restart
of_no_site = refl

-- of five sites two others must acknowledge a place: one twice is not enough, and no place beyond the log's end counts
abbrev requested_of_five : Step Ask ℕ ℕ
requested_of_five = takes 2 0 (fresh 1) 102 (Request (record { number = 1; cmd = Add 5 }))

abbrev one_twice : Step Ask ℕ ℕ
one_twice = takes 2 0 (takes 2 0 requested_of_five.site 203 (PrepareOk (record { view = 0; place = 1 }))).site 203 (PrepareOk (record { view = 0; place = 1 }))

one_twice_executes_nothing : one_twice.site.done ≡ 0
unfolding on_request on_prepare on_prepare_ok on_commit beats_normal on_start_view_change on_do_view_change on_start_view on_timer beats_in_change on_get_state
    on_new_state on_recovery on_recovery_response beats_recovering on_restart
one_twice_executes_nothing = refl

another_executes : (takes 2 0 one_twice.site 201 (PrepareOk (record { view = 0; place = 7 }))).site.done ≡ 1
unfolding on_request on_prepare on_prepare_ok on_commit beats_normal on_start_view_change on_do_view_change on_start_view on_timer beats_in_change on_get_state
    on_new_state on_recovery on_recovery_response beats_recovering on_restart
another_executes = refl

beyond_the_end : (takes 1 0 (takes 1 0 (fresh 1) 201 (PrepareOk (record { view = 0; place = 9 }))).site 102
    (Request (record { number = 1; cmd = Add 5 }))).site.done ≡ 0
unfolding on_request on_prepare on_prepare_ok on_commit beats_normal on_start_view_change on_do_view_change on_start_view on_timer beats_in_change on_get_state
    on_new_state on_recovery on_recovery_response beats_recovering on_restart
beyond_the_end = refl

beyond_the_end_later
    : (takes 1 0 (takes 1 0 (takes 1 0 (fresh 1) 201 (PrepareOk (record { view = 0; place = 9 }))).site 102 (Request (record { number = 1; cmd = Add 5 }))).site
    202 (PrepareOk (record { view = 0; place = 0 }))).site.done ≡ 0
unfolding on_request on_prepare on_prepare_ok on_commit beats_normal on_start_view_change on_do_view_change on_start_view on_timer beats_in_change on_get_state
    on_new_state on_recovery on_recovery_response beats_recovering on_restart
beyond_the_end_later = refl

-- a view change of three new sites
abbrev timed : Step Ask ℕ ℕ
timed = step 1 1 (fresh 1) Timer

timed_sends : sent 1 timed ≡ record { from = 201; to = 200; msg = StartViewChange (record { view = 1; known = 0 ∷ 0 ∷ 0 ∷ [] }) }
    ∷ record { from = 201; to = 202; msg = StartViewChange (record { view = 1; known = 0 ∷ 0 ∷ 0 ∷ [] }) } ∷ []
unfolding on_request on_prepare on_prepare_ok on_commit beats_normal on_start_view_change on_do_view_change on_start_view on_timer beats_in_change on_get_state
    on_new_state on_recovery on_recovery_response beats_recovering on_restart
timed_sends = refl

abbrev started : Step Ask ℕ ℕ
started = takes 1 0 (fresh 1) 201 (StartViewChange (record { view = 1; known = 0 ∷ 0 ∷ 0 ∷ [] }))

started_sends : sent 0 started ≡ record { from = 200; to = 201; msg = StartViewChange (record { view = 1; known = 0 ∷ 0 ∷ 0 ∷ [] }) }
    ∷ record { from = 200; to = 202; msg = StartViewChange (record { view = 1; known = 0 ∷ 0 ∷ 0 ∷ [] }) }
    ∷ record { from = 200; to = 201; msg = DoViewChange (record { view = 1; last_normal = 0; done = 0; rows = []; known = 0 ∷ 0 ∷ 0 ∷ [] }) } ∷ []
unfolding on_request on_prepare on_prepare_ok on_commit beats_normal on_start_view_change on_do_view_change on_start_view on_timer beats_in_change on_get_state
    on_new_state on_recovery on_recovery_response beats_recovering on_restart
started_sends = refl

abbrev start_first : Step Ask ℕ ℕ
start_first = takes 1 1 timed.site 200 (StartViewChange (record { view = 1; known = 0 ∷ 0 ∷ 0 ∷ [] }))

start_first_sends : sent 1 start_first ≡ []
unfolding on_request on_prepare on_prepare_ok on_commit beats_normal on_start_view_change on_do_view_change on_start_view on_timer beats_in_change on_get_state
    on_new_state on_recovery on_recovery_response beats_recovering on_restart
start_first_sends = refl

start_first_opens : sent 1 (takes 1 1 start_first.site 200 (DoViewChange (record { view = 1; last_normal = 0; done = 0; rows = []; known = 0 ∷ 0 ∷ 0 ∷ [] })))
    ≡ record { from = 201; to = 200; msg = StartView (record { view = 1; done = 0; rows = [] }) }
    ∷ record { from = 201; to = 202; msg = StartView (record { view = 1; done = 0; rows = [] }) } ∷ []
unfolding on_request on_prepare on_prepare_ok on_commit beats_normal on_start_view_change on_do_view_change on_start_view on_timer beats_in_change on_get_state
    on_new_state on_recovery on_recovery_response beats_recovering on_restart
start_first_opens = refl

abbrev vote_first : Step Ask ℕ ℕ
vote_first = takes 1 1 timed.site 200 (DoViewChange (record { view = 1; last_normal = 0; done = 0; rows = []; known = 0 ∷ 0 ∷ 0 ∷ [] }))

vote_first_sends : sent 1 vote_first ≡ []
unfolding on_request on_prepare on_prepare_ok on_commit beats_normal on_start_view_change on_do_view_change on_start_view on_timer beats_in_change on_get_state
    on_new_state on_recovery on_recovery_response beats_recovering on_restart
vote_first_sends = refl

vote_first_opens : sent 1 (takes 1 1 vote_first.site 200 (StartViewChange (record { view = 1; known = 0 ∷ 0 ∷ 0 ∷ [] })))
    ≡ record { from = 201; to = 200; msg = StartView (record { view = 1; done = 0; rows = [] }) }
    ∷ record { from = 201; to = 202; msg = StartView (record { view = 1; done = 0; rows = [] }) } ∷ []
unfolding on_request on_prepare on_prepare_ok on_commit beats_normal on_start_view_change on_do_view_change on_start_view on_timer beats_in_change on_get_state
    on_new_state on_recovery on_recovery_response beats_recovering on_restart
vote_first_opens = refl

start_again_changes_nothing : (takes 1 1 start_first.site 200 (StartViewChange (record { view = 1; known = 0 ∷ 0 ∷ 0 ∷ [] }))).site ≡ start_first.site
unfolding on_request on_prepare on_prepare_ok on_commit beats_normal on_start_view_change on_do_view_change on_start_view on_timer beats_in_change on_get_state
    on_new_state on_recovery on_recovery_response beats_recovering on_restart
start_again_changes_nothing = refl

vote_again_changes_nothing
    : (takes 1 1 vote_first.site 200 (DoViewChange (record { view = 1; last_normal = 7; done = 7; rows = paid_in ∷ []; known = 0 ∷ 0 ∷ 0 ∷ [] }))).site
    ≡ vote_first.site
unfolding on_request on_prepare on_prepare_ok on_commit beats_normal on_start_view_change on_do_view_change on_start_view on_timer beats_in_change on_get_state
    on_new_state on_recovery on_recovery_response beats_recovering on_restart
vote_again_changes_nothing = refl

beat_in_change_sends : sent 0 (step 1 0 started.site Beat) ≡ record {
  from = 200;
  to = 201;
  msg = StartViewChange (record { view = 1; known = 0 ∷ 0 ∷ 0 ∷ [] });
} ∷ record {
  from = 200;
  to = 202;
  msg = StartViewChange (record { view = 1; known = 0 ∷ 0 ∷ 0 ∷ [] });
} ∷ record {
  from = 200;
  to = 201;
  msg = DoViewChange (record { view = 1; last_normal = 0; done = 0; rows = []; known = 0 ∷ 0 ∷ 0 ∷ [] });
} ∷ []
unfolding on_request on_prepare on_prepare_ok on_commit beats_normal on_start_view_change on_do_view_change on_start_view on_timer beats_in_change on_get_state
    on_new_state on_recovery on_recovery_response beats_recovering on_restart
beat_in_change_sends = refl

-- a later last normal view goes before a longer log, and the picked log takes the place of the site's own
abbrev second : RowOf Ask
second = record { client = 102; number = 2; cmd = Add 7 }

abbrev two_rows : Site Ask
two_rows =
    (takes 1 1 (takes 1 1 (fresh 1) 200 (Prepare (record { view = 0; place = 1; done = 0; row = paid_in }))).site 200
    (Prepare (record { view = 0; place = 2; done = 0; row = second }))).site

two_rows_are_there : two_rows.log ≡ paid_in ∷ second ∷ []
unfolding on_request on_prepare on_prepare_ok on_commit beats_normal on_start_view_change on_do_view_change on_start_view on_timer beats_in_change on_get_state
    on_new_state on_recovery on_recovery_response beats_recovering on_restart
two_rows_are_there = refl

abbrev first_of_4 : RowOf Ask
first_of_4 = record { client = 102; number = 1; cmd = Add 9 }

abbrev opened : Step Ask ℕ ℕ
opened =
    takes 1 1 (takes 1 1 two_rows 200 (StartViewChange (record { view = 4; known = 0 ∷ 0 ∷ 0 ∷ [] }))).site 200
    (DoViewChange (record { view = 4; last_normal = 3; done = 1; rows = first_of_4 ∷ []; known = 0 ∷ 0 ∷ 0 ∷ [] }))

opened_sends : sent 1 opened ≡ record { from = 201; to = 200; msg = StartView (record { view = 4; done = 1; rows = first_of_4 ∷ [] }) }
    ∷ record { from = 201; to = 202; msg = StartView (record { view = 4; done = 1; rows = first_of_4 ∷ [] }) }
    ∷ record { from = 201; to = 102; msg = Reply (record { view = 4; number = 1; reply = 9 }) } ∷ []
unfolding on_request on_prepare on_prepare_ok on_commit beats_normal on_start_view_change on_do_view_change on_start_view on_timer beats_in_change on_get_state
    on_new_state on_recovery on_recovery_response beats_recovering on_restart
opened_sends = refl

opened_log : opened.site.log ≡ first_of_4 ∷ []
unfolding on_request on_prepare on_prepare_ok on_commit beats_normal on_start_view_change on_do_view_change on_start_view on_timer beats_in_change on_get_state
    on_new_state on_recovery on_recovery_response beats_recovering on_restart
opened_log = refl

-- of equal last normal views the longer log is taken, and of equal logs the lowest site's, whoever came first
longer_is_taken : (takes 1 1 (takes 1 1 two_rows 200 (StartViewChange (record { view = 4; known = 0 ∷ 0 ∷ 0 ∷ [] }))).site 200
    (DoViewChange (record { view = 4; last_normal = 0; done = 0; rows = first_of_4 ∷ []; known = 0 ∷ 0 ∷ 0 ∷ [] }))).site.log ≡ paid_in ∷ second ∷ []
unfolding on_request on_prepare on_prepare_ok on_commit beats_normal on_start_view_change on_do_view_change on_start_view on_timer beats_in_change on_get_state
    on_new_state on_recovery on_recovery_response beats_recovering on_restart
longer_is_taken = refl

lowest_is_taken : (takes 1 1 (takes 1 1 two_rows 200 (StartViewChange (record { view = 4; known = 0 ∷ 0 ∷ 0 ∷ [] }))).site 200
    (DoViewChange (record { view = 4; last_normal = 0; done = 0; rows = first_of_4 ∷ second ∷ []; known = 0 ∷ 0 ∷ 0 ∷ [] }))).site.log
    ≡ first_of_4 ∷ second ∷ []
unfolding on_request on_prepare on_prepare_ok on_commit beats_normal on_start_view_change on_do_view_change on_start_view on_timer beats_in_change on_get_state
    on_new_state on_recovery on_recovery_response beats_recovering on_restart
lowest_is_taken = refl

own_is_lowest : (takes 1 1 (takes 1 1 two_rows 202 (StartViewChange (record { view = 4; known = 0 ∷ 0 ∷ 0 ∷ [] }))).site 202
    (DoViewChange (record { view = 4; last_normal = 0; done = 0; rows = first_of_4 ∷ second ∷ []; known = 0 ∷ 0 ∷ 0 ∷ [] }))).site.log ≡ paid_in ∷ second ∷ []
unfolding on_request on_prepare on_prepare_ok on_commit beats_normal on_start_view_change on_do_view_change on_start_view on_timer beats_in_change on_get_state
    on_new_state on_recovery on_recovery_response beats_recovering on_restart
own_is_lowest = refl

-- a picked log that does not begin with what was executed is dropped, and its message is not kept
abbrev executed_one : Site Ask
executed_one = (takes 1 1 two_rows 200 (Commit (record { view = 0; done = 1 }))).site

abbrev before_opening : Site Ask
before_opening = (takes 1 1 executed_one 200 (StartViewChange (record { view = 4; known = 0 ∷ 0 ∷ 0 ∷ [] }))).site

stale_opening : takes 1 1 before_opening 200 (DoViewChange (record { view = 4; last_normal = 3; done = 1; rows = first_of_4 ∷ []; known = 0 ∷ 0 ∷ 0 ∷ [] }))
    ≡ drops before_opening Stale
unfolding on_request on_prepare on_prepare_ok on_commit beats_normal on_start_view_change on_do_view_change on_start_view on_timer beats_in_change on_get_state
    on_new_state on_recovery on_recovery_response beats_recovering on_restart
stale_opening = refl

-- nor is a log that is shorter than what was executed, or another, taken from a new primary
shorter_view : takes 1 1 executed_one 200 (StartView (record { view = 3; done = 0; rows = [] })) ≡ drops executed_one Stale
unfolding on_request on_prepare on_prepare_ok on_commit beats_normal on_start_view_change on_do_view_change on_start_view on_timer beats_in_change on_get_state
    on_new_state on_recovery on_recovery_response beats_recovering on_restart
shorter_view = refl

another_view : takes 1 1 executed_one 200 (StartView (record { view = 3; done = 1; rows = first_of_4 ∷ second ∷ [] })) ≡ drops executed_one Stale
unfolding on_request on_prepare on_prepare_ok on_commit beats_normal on_start_view_change on_do_view_change on_start_view on_timer beats_in_change on_get_state
    on_new_state on_recovery on_recovery_response beats_recovering on_restart
another_view = refl

same_view : sent 1 (takes 1 1 executed_one 200 (StartView (record { view = 3; done = 1; rows = paid_in ∷ second ∷ [] })))
    ≡ record { from = 201; to = 200; msg = PrepareOk (record { view = 3; place = 2 }) } ∷ []
unfolding on_request on_prepare on_prepare_ok on_commit beats_normal on_start_view_change on_do_view_change on_start_view on_timer beats_in_change on_get_state
    on_new_state on_recovery on_recovery_response beats_recovering on_restart
same_view = refl

-- all of it is executed, so nothing is left to acknowledge
whole_view : sent 1 (takes 1 1 executed_one 200 (StartView (record { view = 3; done = 2; rows = paid_in ∷ second ∷ [] }))) ≡ []
unfolding on_request on_prepare on_prepare_ok on_commit beats_normal on_start_view_change on_do_view_change on_start_view on_timer beats_in_change on_get_state
    on_new_state on_recovery on_recovery_response beats_recovering on_restart
whole_view = refl

-- state transfer to a site that lags
abbrev third : RowOf Ask
third = record { client = 102; number = 3; cmd = Add 8 }

abbrev fourth : RowOf Ask
fourth = record { client = 102; number = 4; cmd = Total }

lagging_sends : sent 2 (takes 1 2 (fresh 1) 201 (Prepare (record { view = 1; place = 4; done = 3; row = fourth })))
    ≡ record { from = 202; to = 201; msg = GetState (record { view = 1; base = 0 }) } ∷ []
unfolding on_request on_prepare on_prepare_ok on_commit beats_normal on_start_view_change on_do_view_change on_start_view on_timer beats_in_change on_get_state
    on_new_state on_recovery on_recovery_response beats_recovering on_restart
lagging_sends = refl

lagging_stays : (takes 1 2 (fresh 1) 201 (Prepare (record { view = 1; place = 4; done = 3; row = fourth }))).site ≡ fresh 1
unfolding on_request on_prepare on_prepare_ok on_commit beats_normal on_start_view_change on_do_view_change on_start_view on_timer beats_in_change on_get_state
    on_new_state on_recovery on_recovery_response beats_recovering on_restart
lagging_stays = refl

gap_is_dropped : takes 1 2 (fresh 1) 201 (NewState (record { view = 1; base = 1; done = 3; rows = second ∷ third ∷ fourth ∷ [] })) ≡ drops (fresh 1) Stale
unfolding on_request on_prepare on_prepare_ok on_commit beats_normal on_start_view_change on_do_view_change on_start_view on_timer beats_in_change on_get_state
    on_new_state on_recovery on_recovery_response beats_recovering on_restart
gap_is_dropped = refl

abbrev caught_up : Step Ask ℕ ℕ
caught_up = takes 1 2 (fresh 1) 201 (NewState (record { view = 1; base = 0; done = 3; rows = paid_in ∷ second ∷ third ∷ fourth ∷ [] }))

caught_up_shows : shown caught_up.site ≡ record { status = Normal; view = 1; rows = 4; done = 3; boots = 0; known = 0 ∷ 0 ∷ 0 ∷ []; total = 1215 }
unfolding on_request on_prepare on_prepare_ok on_commit beats_normal on_start_view_change on_do_view_change on_start_view on_timer beats_in_change on_get_state
    on_new_state on_recovery on_recovery_response beats_recovering on_restart
caught_up_shows = refl

caught_up_sends : sent 2 caught_up ≡ record { from = 202; to = 201; msg = PrepareOk (record { view = 1; place = 4 }) } ∷ []
unfolding on_request on_prepare on_prepare_ok on_commit beats_normal on_start_view_change on_do_view_change on_start_view on_timer beats_in_change on_get_state
    on_new_state on_recovery on_recovery_response beats_recovering on_restart
caught_up_sends = refl

state_is_sent : sent 0 (takes 1 0 acknowledged.site 202 (GetState (record { view = 0; base = 0 })))
    ≡ record { from = 200; to = 202; msg = NewState (record { view = 0; base = 0; done = 1; rows = paid_in ∷ [] }) } ∷ []
unfolding on_request on_prepare on_prepare_ok on_commit beats_normal on_start_view_change on_do_view_change on_start_view on_timer beats_in_change on_get_state
    on_new_state on_recovery on_recovery_response beats_recovering on_restart
state_is_sent = refl

no_such_rows : takes 1 0 acknowledged.site 202 (GetState (record { view = 0; base = 2 })) ≡ drops acknowledged.site Stale
unfolding on_request on_prepare on_prepare_ok on_commit beats_normal on_start_view_change on_do_view_change on_start_view on_timer beats_in_change on_get_state
    on_new_state on_recovery on_recovery_response beats_recovering on_restart
no_such_rows = refl

-- the greatest view
abbrev at_greatest : Step Ask ℕ ℕ
at_greatest = takes 1 1 (fresh 1) 202 (StartViewChange (record { view = 4294967295; known = 0 ∷ 0 ∷ 0 ∷ [] }))

at_greatest_sends : sent 1 at_greatest ≡ record { from = 201; to = 200; msg = StartViewChange (record { view = 4294967295; known = 0 ∷ 0 ∷ 0 ∷ [] }) }
    ∷ record { from = 201; to = 202; msg = StartViewChange (record { view = 4294967295; known = 0 ∷ 0 ∷ 0 ∷ [] }) }
    ∷ record { from = 201; to = 200; msg = DoViewChange (record { view = 4294967295; last_normal = 0; done = 0; rows = []; known = 0 ∷ 0 ∷ 0 ∷ [] }) } ∷ []
unfolding on_request on_prepare on_prepare_ok on_commit beats_normal on_start_view_change on_do_view_change on_start_view on_timer beats_in_change on_get_state
    on_new_state on_recovery on_recovery_response beats_recovering on_restart
at_greatest_sends = refl

views_are_spent : step 1 1 at_greatest.site Timer ≡ refuses at_greatest.site ViewsSpent
unfolding on_request on_prepare on_prepare_ok on_commit beats_normal on_start_view_change on_do_view_change on_start_view on_timer beats_in_change on_get_state
    on_new_state on_recovery on_recovery_response beats_recovering on_restart
views_are_spent = refl

-- a restart whose save fails leaves the old count or the new one, and the next raises what is there
abbrev crashed : Site Ask
crashed = (step 1 2 (fresh 1) Crash).site

crashed_is : crashed ≡ over (record { boots = 0 }) Down
unfolding on_request on_prepare on_prepare_ok on_commit beats_normal on_start_view_change on_do_view_change on_start_view on_timer beats_in_change on_get_state
    on_new_state on_recovery on_recovery_response beats_recovering on_restart
crashed_is = refl

restart_sends : sent 2 (step 1 2 crashed Restart) ≡ record { from = 202; to = 200; msg = Recovery (record { nonce = 1 }) }
    ∷ record { from = 202; to = 201; msg = Recovery (record { nonce = 1 }) } ∷ []
unfolding on_request on_prepare on_prepare_ok on_commit beats_normal on_start_view_change on_do_view_change on_start_view on_timer beats_in_change on_get_state
    on_new_state on_recovery on_recovery_response beats_recovering on_restart
restart_sends = refl

old_value_stays : IsFall crashed (step 1 2 crashed Restart) (over (record { boots = 0 }) Down)
unfolding on_request on_prepare on_prepare_ok on_commit beats_normal on_start_view_change on_do_view_change on_start_view on_timer beats_in_change on_get_state
    on_new_state on_recovery on_recovery_response beats_recovering on_restart
old_value_stays = record { allowed = refl; down = inl refl }

new_value_stays : IsFall crashed (step 1 2 crashed Restart) (over (record { boots = 1 }) Down)
unfolding on_request on_prepare on_prepare_ok on_commit beats_normal on_start_view_change on_do_view_change on_start_view on_timer beats_in_change on_get_state
    on_new_state on_recovery on_recovery_response beats_recovering on_restart
new_value_stays = record { allowed = refl; down = inr refl }

restart_after_new_value_sends : sent 2 (step 1 2 (over (record { boots = 1 }) Down) Restart)
    ≡ record { from = 202; to = 200; msg = Recovery (record { nonce = 2 }) } ∷ record { from = 202; to = 201; msg = Recovery (record { nonce = 2 }) } ∷ []
unfolding on_request on_prepare on_prepare_ok on_commit beats_normal on_start_view_change on_do_view_change on_start_view on_timer beats_in_change on_get_state
    on_new_state on_recovery on_recovery_response beats_recovering on_restart
restart_after_new_value_sends = refl

boots_are_spent : step 1 2 (opening_site 1 (record { boots = 4294967295 })) Restart ≡ refuses (over (record { boots = 4294967295 }) Down) BootsSpent
unfolding on_request on_prepare on_prepare_ok on_commit beats_normal on_start_view_change on_do_view_change on_start_view on_timer beats_in_change on_get_state
    on_new_state on_recovery on_recovery_response beats_recovering on_restart
boots_are_spent = refl

up_already : step 1 2 (fresh 1) Restart ≡ refuses (fresh 1) AlreadyUp
unfolding on_request on_prepare on_prepare_ok on_commit beats_normal on_start_view_change on_do_view_change on_start_view on_timer beats_in_change on_get_state
    on_new_state on_recovery on_recovery_response beats_recovering on_restart
up_already = refl

no_fall_of_a_refused_event : (y : Site Ask) → ¬ IsFall (fresh 1) (step 1 2 (fresh 1) Restart) y
unfolding on_request on_prepare on_prepare_ok on_commit beats_normal on_start_view_change on_do_view_change on_start_view on_timer beats_in_change on_get_state
    on_new_state on_recovery on_recovery_response beats_recovering on_restart
no_fall_of_a_refused_event = λ y fall. true≢false fall.allowed

recovering_timer : step 1 2 (over (record { boots = 3 }) Recovering) Timer ≡ drops (over (record { boots = 3 }) Recovering) why.Status
unfolding on_request on_prepare on_prepare_ok on_commit beats_normal on_start_view_change on_do_view_change on_start_view on_timer beats_in_change on_get_state
    on_new_state on_recovery on_recovery_response beats_recovering on_restart
recovering_timer = refl

-- the primary of a view answers a recovery with its state, and other sites without; a recovering site answers nobody
primary_answers : sent 0 (takes 1 0 acknowledged.site 202 (Recovery (record { nonce = 1 })))
    ≡ record {
      from = 200;
      to = 202;
      msg = RecoveryResponse (record { view = 0; nonce = 1; state = Some (record { done = 1; rows = paid_in ∷ [] }); known = 0 ∷ 0 ∷ 1 ∷ [] });
    } ∷ []
unfolding on_request on_prepare on_prepare_ok on_commit beats_normal on_start_view_change on_do_view_change on_start_view on_timer beats_in_change on_get_state
    on_new_state on_recovery on_recovery_response beats_recovering on_restart
primary_answers = refl

backup_answers : sent 1 (takes 1 1 (fresh 1) 202 (Recovery (record { nonce = 1 })))
    ≡ record { from = 201; to = 202; msg = RecoveryResponse (record { view = 0; nonce = 1; state = None; known = 0 ∷ 0 ∷ 1 ∷ [] }) } ∷ []
unfolding on_request on_prepare on_prepare_ok on_commit beats_normal on_start_view_change on_do_view_change on_start_view on_timer beats_in_change on_get_state
    on_new_state on_recovery on_recovery_response beats_recovering on_restart
backup_answers = refl

recovering_answers_nobody : takes 1 1 (over (record { boots = 1 }) Recovering) 202 (Recovery (record { nonce = 1 }))
    ≡ drops (over (record { boots = 1 }) Recovering) why.Status
unfolding on_request on_prepare on_prepare_ok on_commit beats_normal on_start_view_change on_do_view_change on_start_view on_timer beats_in_change on_get_state
    on_new_state on_recovery on_recovery_response beats_recovering on_restart
recovering_answers_nobody = refl

-- a primary with an open order sends it after the word to its backups
orders_are_sent : envelopes (record tally { orders = λ t. (102, 200) ∷ [] }) fresh_tally 0 (step 1 0 acknowledged.site Beat)
    ≡ record { from = 200; to = 201; msg = Commit (record { view = 0; done = 1 }) } ∷ record {
      from = 200;
      to = 202;
      msg = Commit (record { view = 0; done = 1 });
    } ∷ record { from = 200; to = 102; msg = PayOrder 200 } ∷ []
unfolding on_request on_prepare on_prepare_ok on_commit beats_normal on_start_view_change on_do_view_change on_start_view on_timer beats_in_change on_get_state
    on_new_state on_recovery on_recovery_response beats_recovering on_restart
orders_are_sent = refl

-- a log that is full takes no row
full_log : (x : Site Ask) (row : RowOf Ask) → is_normal x.status ≡ true → (primary 1 x.view == 0) ≡ true → nat_lt (newest x.log row.client) row.number ≡ true
    → length x.log ≡ 65535 → on_request {R = ℕ} {O = ℕ} 1 0 x row ≡ drops x Full
unfolding on_request
full_log x row normal here more full = rw (normal, here, more, full) refl
