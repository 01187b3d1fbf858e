-- Runs of three and of five sites, computed with the site step.
use Rattle.std.proofs.Common.{◌≡◌, refl, List, [], ◌∷◌, map, length, drop, replicate, slice_get, Some}
use Rattle.vr_types.specs.declared.event.SiteFault.TheVariants.{NotUp}
use Rattle.vr_types.specs.declared.event.Status.TheVariants.{Normal, Change, Recovering, Down}
use Rattle.vr_types.specs.declared.event.Why.TheVariants.{NotPrimary}
use Rattle.vr_types.specs.declared.message.MsgOf.TheVariants.{Prepare, GetState, NewState, Reply}
use Rattle.vr_types.specs.Step.{Dropped, Refused}
use Rattle.vr_types.specs.Site.{executed_rows}
use Rattle.vr_types.specs.Normal.{on_request, on_prepare, on_prepare_ok, on_commit, beats_normal}
use Rattle.vr_types.specs.Change.{on_start_view_change, on_do_view_change, on_start_view, on_timer, beats_in_change}
use Rattle.vr_types.specs.Transfer.{on_get_state, on_new_state}
use Rattle.vr_types.specs.Recovery.{on_recovery, on_recovery_response, beats_recovering, on_restart}
use Rattle.vr_types.proofs.Runs.{Line, Add, PayIn, Drain, To, Asks, Deliver, Beat, Timer, Crash, Restart, Cut, Heal, BeatAsker, World, opening, run, shows}

new_group_shows : shows (opening 1) ≡
    record { status = Normal; view = 0; rows = 0; done = 0; boots = 0; known = 0 ∷ 0 ∷ 0 ∷ []; total = 0 }
    ∷ record { status = Normal; view = 0; rows = 0; done = 0; boots = 0; known = 0 ∷ 0 ∷ 0 ∷ []; total = 0 }
    ∷ record { status = Normal; view = 0; rows = 0; done = 0; boots = 0; known = 0 ∷ 0 ∷ 0 ∷ []; total = 0 } ∷ []
new_group_shows = refl

-- one request through three sites, and a beat that tells the backups of it
abbrev one_request : World
one_request = run 1 (opening 1) (PayIn 1200 ∷ Drain 100 ∷ Beat 0 ∷ Drain 100 ∷ [])

one_request_shows : shows one_request ≡
    record { status = Normal; view = 0; rows = 1; done = 1; boots = 0; known = 0 ∷ 0 ∷ 0 ∷ []; total = 1200 }
    ∷ record { status = Normal; view = 0; rows = 1; done = 1; boots = 0; known = 0 ∷ 0 ∷ 0 ∷ []; total = 1200 }
    ∷ record { status = Normal; view = 0; rows = 1; done = 1; boots = 0; known = 0 ∷ 0 ∷ 0 ∷ []; total = 1200 } ∷ []
unfolding on_request on_prepare on_prepare_ok on_commit beats_normal on_start_view_change on_do_view_change on_start_view on_timer beats_in_change on_get_state
    on_new_state on_recovery on_recovery_response beats_recovering on_restart
one_request_shows = refl

one_request_sends : length one_request.post ≡ 10
unfolding on_request on_prepare on_prepare_ok on_commit beats_normal on_start_view_change on_do_view_change on_start_view on_timer beats_in_change on_get_state
    on_new_state on_recovery on_recovery_response beats_recovering on_restart
one_request_sends = refl

-- the same request five times more at every site: it is answered again, and never executed again
abbrev told_again : World
told_again =
    run 1 one_request (Deliver 1 ∷ Deliver 2 ∷ Deliver 3 ∷ Deliver 1 ∷ Deliver 2 ∷ Deliver 3 ∷ Deliver 1 ∷ Deliver 2 ∷ Deliver 3 ∷ Deliver 1 ∷ Deliver 2
    ∷ Deliver 3 ∷ Deliver 1 ∷ Deliver 2 ∷ Deliver 3 ∷ [])

told_again_shows : shows told_again ≡
    record { status = Normal; view = 0; rows = 1; done = 1; boots = 0; known = 0 ∷ 0 ∷ 0 ∷ []; total = 1200 }
    ∷ record { status = Normal; view = 0; rows = 1; done = 1; boots = 0; known = 0 ∷ 0 ∷ 0 ∷ []; total = 1200 }
    ∷ record { status = Normal; view = 0; rows = 1; done = 1; boots = 0; known = 0 ∷ 0 ∷ 0 ∷ []; total = 1200 } ∷ []
unfolding on_request on_prepare on_prepare_ok on_commit beats_normal on_start_view_change on_do_view_change on_start_view on_timer beats_in_change on_get_state
    on_new_state on_recovery on_recovery_response beats_recovering on_restart
told_again_shows = refl

told_again_sends : drop 10 told_again.post ≡ replicate 5 (record { from = 200; to = 102; msg = Reply (record { view = 0; number = 1; reply = 1200 }) })
unfolding on_request on_prepare on_prepare_ok on_commit beats_normal on_start_view_change on_do_view_change on_start_view on_timer beats_in_change on_get_state
    on_new_state on_recovery on_recovery_response beats_recovering on_restart
told_again_sends = refl

told_again_drops : told_again.ending ≡ Dropped NotPrimary
unfolding on_request on_prepare on_prepare_ok on_commit beats_normal on_start_view_change on_do_view_change on_start_view on_timer beats_in_change on_get_state
    on_new_state on_recovery on_recovery_response beats_recovering on_restart
told_again_drops = refl

-- one site is cut off while the others go on and change the view; then a PREPARE of the new view reaches it
abbrev cut_off : World
cut_off = run 1 (opening 1) (Cut 2 ∷ PayIn 100 ∷ PayIn 200 ∷ PayIn 300 ∷ Drain 100 ∷ Timer 1 ∷ Drain 100 ∷ Heal 2 ∷ PayIn 400 ∷ Drain 5 ∷ Drain 2 ∷ [])

cut_off_shows : slice_get (shows cut_off) 2 ≡ Some (record { status = Normal; view = 0; rows = 0; done = 0; boots = 0; known = 0 ∷ 0 ∷ 0 ∷ []; total = 0 })
unfolding on_request on_prepare on_prepare_ok on_commit beats_normal on_start_view_change on_do_view_change on_start_view on_timer beats_in_change on_get_state
    on_new_state on_recovery on_recovery_response beats_recovering on_restart
cut_off_shows = refl

cut_off_prepare : slice_get cut_off.post 33
    ≡ Some (record {
      from = 201;
      to = 202;
      msg = Prepare (record { view = 1; place = 4; done = 3; row = (record { client = 102; number = 4; cmd = Add 400 }) });
    })
unfolding on_request on_prepare on_prepare_ok on_commit beats_normal on_start_view_change on_do_view_change on_start_view on_timer beats_in_change on_get_state
    on_new_state on_recovery on_recovery_response beats_recovering on_restart
cut_off_prepare = refl

cut_off_asks : slice_get cut_off.post 35 ≡ Some (record { from = 202; to = 201; msg = GetState (record { view = 1; base = 0 }) })
unfolding on_request on_prepare on_prepare_ok on_commit beats_normal on_start_view_change on_do_view_change on_start_view on_timer beats_in_change on_get_state
    on_new_state on_recovery on_recovery_response beats_recovering on_restart
cut_off_asks = refl

cut_off_is_sent : slice_get cut_off.post 37
    ≡ Some (record {
      from = 201;
      to = 202;
      msg = NewState (record {
        view = 1;
        base = 0;
        done = 4;
        rows = (record { client = 102; number = 1; cmd = Add 100 } ∷ record { client = 102; number = 2; cmd = Add 200 }
            ∷ record { client = 102; number = 3; cmd = Add 300 } ∷ record { client = 102; number = 4; cmd = Add 400 } ∷ []);
      });
    })
unfolding on_request on_prepare on_prepare_ok on_commit beats_normal on_start_view_change on_do_view_change on_start_view on_timer beats_in_change on_get_state
    on_new_state on_recovery on_recovery_response beats_recovering on_restart
cut_off_is_sent = refl

-- it crashes before the state comes
abbrev cut_off_down : World
cut_off_down = run 1 cut_off (Crash 2 ∷ Deliver 38 ∷ [])

cut_off_down_refuses : cut_off_down.ending ≡ Refused NotUp
unfolding on_request on_prepare on_prepare_ok on_commit beats_normal on_start_view_change on_do_view_change on_start_view on_timer beats_in_change on_get_state
    on_new_state on_recovery on_recovery_response beats_recovering on_restart
cut_off_down_refuses = refl

cut_off_down_shows : slice_get (shows cut_off_down) 2 ≡ Some (record { status = Down; view = 0; rows = 0; done = 0; boots = 0; known = []; total = 0 })
unfolding on_request on_prepare on_prepare_ok on_commit beats_normal on_start_view_change on_do_view_change on_start_view on_timer beats_in_change on_get_state
    on_new_state on_recovery on_recovery_response beats_recovering on_restart
cut_off_down_shows = refl

-- it restarts and regains the state of the new view
abbrev cut_off_back : World
cut_off_back = run 1 cut_off_down (Restart 2 ∷ Drain 100 ∷ [])

cut_off_back_shows : shows cut_off_back ≡
    record { status = Normal; view = 1; rows = 4; done = 3; boots = 0; known = 0 ∷ 0 ∷ 1 ∷ []; total = 600 }
    ∷ record { status = Normal; view = 1; rows = 4; done = 4; boots = 0; known = 0 ∷ 0 ∷ 1 ∷ []; total = 1000 }
    ∷ record { status = Normal; view = 1; rows = 4; done = 4; boots = 1; known = 0 ∷ 0 ∷ 1 ∷ []; total = 1000 } ∷ []
unfolding on_request on_prepare on_prepare_ok on_commit beats_normal on_start_view_change on_do_view_change on_start_view on_timer beats_in_change on_get_state
    on_new_state on_recovery on_recovery_response beats_recovering on_restart
cut_off_back_shows = refl

-- a vote that a crash made its site forget, heard late: another site takes no part in it any more
abbrev forgotten_vote : World
forgotten_vote = run 1 (opening 1) (Timer 2 ∷ Timer 2 ∷ Crash 2 ∷ Restart 2 ∷ Deliver 5 ∷ Deliver 6 ∷ Deliver 7 ∷ Deliver 8 ∷ Deliver 4 ∷ [])

forgotten_vote_shows : shows forgotten_vote ≡
    record { status = Normal; view = 0; rows = 0; done = 0; boots = 0; known = 0 ∷ 0 ∷ 1 ∷ []; total = 0 }
    ∷ record { status = Normal; view = 0; rows = 0; done = 0; boots = 0; known = 0 ∷ 0 ∷ 1 ∷ []; total = 0 }
    ∷ record { status = Normal; view = 0; rows = 0; done = 0; boots = 1; known = 0 ∷ 0 ∷ 1 ∷ []; total = 0 } ∷ []
unfolding on_request on_prepare on_prepare_ok on_commit beats_normal on_start_view_change on_do_view_change on_start_view on_timer beats_in_change on_get_state
    on_new_state on_recovery on_recovery_response beats_recovering on_restart
forgotten_vote_shows = refl

abbrev after_it : World
after_it = run 1 forgotten_vote (PayIn 1 ∷ Deliver 9 ∷ Deliver 12 ∷ Deliver 14 ∷ [])

after_it_shows : shows after_it ≡
    record { status = Normal; view = 0; rows = 1; done = 1; boots = 0; known = 0 ∷ 0 ∷ 1 ∷ []; total = 1 }
    ∷ record { status = Normal; view = 0; rows = 1; done = 0; boots = 0; known = 0 ∷ 0 ∷ 1 ∷ []; total = 0 }
    ∷ record { status = Normal; view = 0; rows = 0; done = 0; boots = 1; known = 0 ∷ 0 ∷ 1 ∷ []; total = 0 } ∷ []
unfolding on_request on_prepare on_prepare_ok on_commit beats_normal on_start_view_change on_do_view_change on_start_view on_timer beats_in_change on_get_state
    on_new_state on_recovery on_recovery_response beats_recovering on_restart
after_it_shows = refl

-- an answer of an earlier boot, given up
abbrev given_up : World
given_up = run 1 (opening 1) (Timer 1 ∷ Deliver 1 ∷ Deliver 5 ∷ Crash 0 ∷ Restart 0 ∷ Deliver 7 ∷ Deliver 2 ∷ Deliver 10 ∷ [])

given_up_shows : shows given_up ≡
    record { status = Recovering; view = 0; rows = 0; done = 0; boots = 1; known = 1 ∷ 0 ∷ 0 ∷ []; total = 0 }
    ∷ record { status = Change; view = 1; rows = 0; done = 0; boots = 0; known = 1 ∷ 0 ∷ 0 ∷ []; total = 0 }
    ∷ record { status = Change; view = 1; rows = 0; done = 0; boots = 0; known = 1 ∷ 0 ∷ 0 ∷ []; total = 0 } ∷ []
unfolding on_request on_prepare on_prepare_ok on_commit beats_normal on_start_view_change on_do_view_change on_start_view on_timer beats_in_change on_get_state
    on_new_state on_recovery on_recovery_response beats_recovering on_restart
given_up_shows = refl

abbrev not_given_up : World
not_given_up = run 1 given_up (Deliver 11 ∷ [])

not_given_up_shows : shows not_given_up ≡
    record { status = Recovering; view = 0; rows = 0; done = 0; boots = 1; known = 1 ∷ 0 ∷ 0 ∷ []; total = 0 }
    ∷ record { status = Normal; view = 1; rows = 0; done = 0; boots = 0; known = 1 ∷ 0 ∷ 0 ∷ []; total = 0 }
    ∷ record { status = Change; view = 1; rows = 0; done = 0; boots = 0; known = 1 ∷ 0 ∷ 0 ∷ []; total = 0 } ∷ []
unfolding on_request on_prepare on_prepare_ok on_commit beats_normal on_start_view_change on_do_view_change on_start_view on_timer beats_in_change on_get_state
    on_new_state on_recovery on_recovery_response beats_recovering on_restart
not_given_up_shows = refl

-- three sites, where a vote comes late of a site that has restarted and forgotten it
abbrev pub late_vote : List Line
late_vote =
    Timer 1 ∷ Crash 1 ∷ Restart 1 ∷ To 10 1 0 ∷ To 10 1 2 ∷ To 11 0 1 ∷ To 11 2 1 ∷ To 5 1 2 ∷ Crash 2 ∷ Restart 2 ∷ To 10 2 0 ∷ To 10 2 1 ∷ To 11 0 2
    ∷ To 11 1 2 ∷ Asks 1 0 ∷ To 2 0 2 ∷ To 3 2 0 ∷ To 6 2 1 ∷ To 5 2 1 ∷ Asks 2 1 ∷ To 7 1 2 ∷ To 2 1 2 ∷ To 3 2 1 ∷ []

abbrev not_noted : World
not_noted = run 1 (opening 1) late_vote

not_noted_executes : map executed_rows not_noted.sites ≡ (record { client = 102; number = 1; cmd = Add 1 } ∷ []) ∷ [] ∷ [] ∷ []
unfolding on_request on_prepare on_prepare_ok on_commit beats_normal on_start_view_change on_do_view_change on_start_view on_timer beats_in_change on_get_state
    on_new_state on_recovery on_recovery_response beats_recovering on_restart
not_noted_executes = refl

-- five sites, where one has collected a vote of a site that has restarted and forgotten it
abbrev pub old_vote : List Line
old_vote =
    Timer 3 ∷ To 5 3 2 ∷ Crash 3 ∷ Restart 3 ∷ To 10 3 0 ∷ To 10 3 1 ∷ To 10 3 4 ∷ To 11 0 3 ∷ To 11 1 3 ∷ To 11 4 3 ∷ Timer 1 ∷ To 5 1 2 ∷ To 6 2 1 ∷ Crash 2
    ∷ Restart 2 ∷ To 10 2 0 ∷ To 10 2 3 ∷ To 10 2 4 ∷ To 11 0 2 ∷ To 11 3 2 ∷ To 11 4 2 ∷ Asks 1 0 ∷ To 2 0 2 ∷ To 2 0 3 ∷ To 3 2 0 ∷ To 3 3 0 ∷ To 5 1 3
    ∷ To 5 3 1 ∷ To 5 1 4 ∷ To 5 3 4 ∷ To 5 4 1 ∷ To 6 4 1 ∷ Asks 2 1 ∷ To 7 1 4 ∷ To 7 1 3 ∷ To 2 1 4 ∷ To 2 1 3 ∷ To 3 4 1 ∷ To 3 3 1 ∷ []

abbrev kept_stale : World
kept_stale = run 2 (opening 2) old_vote

kept_stale_executes : map executed_rows kept_stale.sites ≡ (record { client = 102; number = 1; cmd = Add 1 } ∷ []) ∷ [] ∷ [] ∷ [] ∷ [] ∷ []
unfolding on_request on_prepare on_prepare_ok on_commit beats_normal on_start_view_change on_do_view_change on_start_view on_timer beats_in_change on_get_state
    on_new_state on_recovery on_recovery_response beats_recovering on_restart
kept_stale_executes = refl

-- the primary crashes with a request in its log alone; a new view takes the request anew, and the site comes back
abbrev new_primary : World
new_primary =
    run 1 (opening 1) (PayIn 500 ∷ Deliver 1 ∷ Crash 0 ∷ Timer 1 ∷ Deliver 7 ∷ Deliver 9 ∷ Deliver 10 ∷ Deliver 12 ∷ BeatAsker ∷ Deliver 14 ∷ Deliver 17
    ∷ Deliver 18 ∷ Deliver 19 ∷ Beat 1 ∷ Deliver 21 ∷ Restart 0 ∷ Deliver 22 ∷ Deliver 23 ∷ Deliver 24 ∷ Deliver 25 ∷ Deliver 4 ∷ [])

new_primary_shows : shows new_primary ≡
    record { status = Normal; view = 1; rows = 1; done = 1; boots = 1; known = 1 ∷ 0 ∷ 0 ∷ []; total = 500 }
    ∷ record { status = Normal; view = 1; rows = 1; done = 1; boots = 0; known = 1 ∷ 0 ∷ 0 ∷ []; total = 500 }
    ∷ record { status = Normal; view = 1; rows = 1; done = 1; boots = 0; known = 1 ∷ 0 ∷ 0 ∷ []; total = 500 } ∷ []
unfolding on_request on_prepare on_prepare_ok on_commit beats_normal on_start_view_change on_do_view_change on_start_view on_timer beats_in_change on_get_state
    on_new_state on_recovery on_recovery_response beats_recovering on_restart
new_primary_shows = refl

-- an answer to an earlier restart is not counted
abbrev old_answer : World
old_answer = run 1 (opening 1) (Crash 2 ∷ Restart 2 ∷ Deliver 1 ∷ Crash 2 ∷ Restart 2 ∷ Deliver 5 ∷ Deliver 6 ∷ Deliver 3 ∷ [])

old_answer_shows : slice_get (shows old_answer) 2
    ≡ Some (record { status = Recovering; view = 0; rows = 0; done = 0; boots = 2; known = 0 ∷ 0 ∷ 2 ∷ []; total = 0 })
unfolding on_request on_prepare on_prepare_ok on_commit beats_normal on_start_view_change on_do_view_change on_start_view on_timer beats_in_change on_get_state
    on_new_state on_recovery on_recovery_response beats_recovering on_restart
old_answer_shows = refl

-- answers to this restart are
abbrev new_answers : World
new_answers = run 1 old_answer (Deliver 4 ∷ Deliver 7 ∷ [])

new_answers_shows : slice_get (shows new_answers) 2
    ≡ Some (record { status = Normal; view = 0; rows = 0; done = 0; boots = 2; known = 0 ∷ 0 ∷ 2 ∷ []; total = 0 })
unfolding on_request on_prepare on_prepare_ok on_commit beats_normal on_start_view_change on_do_view_change on_start_view on_timer beats_in_change on_get_state
    on_new_state on_recovery on_recovery_response beats_recovering on_restart
new_answers_shows = refl

-- five sites: one backup's acknowledgement, twice, is not enough
abbrev one_of_five : World
one_of_five = run 2 (opening 2) (PayIn 5 ∷ Deliver 1 ∷ Deliver 6 ∷ Deliver 10 ∷ Deliver 10 ∷ [])

one_of_five_shows : slice_get (shows one_of_five) 0
    ≡ Some (record { status = Normal; view = 0; rows = 1; done = 0; boots = 0; known = 0 ∷ 0 ∷ 0 ∷ 0 ∷ 0 ∷ []; total = 0 })
unfolding on_request on_prepare on_prepare_ok on_commit beats_normal on_start_view_change on_do_view_change on_start_view on_timer beats_in_change on_get_state
    on_new_state on_recovery on_recovery_response beats_recovering on_restart
one_of_five_shows = refl

-- two backups' are
abbrev two_of_five : World
two_of_five = run 2 one_of_five (Deliver 7 ∷ Deliver 11 ∷ [])

two_of_five_shows : slice_get (shows two_of_five) 0
    ≡ Some (record { status = Normal; view = 0; rows = 1; done = 1; boots = 0; known = 0 ∷ 0 ∷ 0 ∷ 0 ∷ 0 ∷ []; total = 5 })
unfolding on_request on_prepare on_prepare_ok on_commit beats_normal on_start_view_change on_do_view_change on_start_view on_timer beats_in_change on_get_state
    on_new_state on_recovery on_recovery_response beats_recovering on_restart
two_of_five_shows = refl

-- five sites: two answers do not bring a site back
abbrev two_answers_of_five : World
two_answers_of_five = run 2 (opening 2) (Crash 4 ∷ Restart 4 ∷ Deliver 1 ∷ Deliver 2 ∷ Deliver 5 ∷ Deliver 6 ∷ [])

two_answers_of_five_shows : slice_get (shows two_answers_of_five) 4
    ≡ Some (record { status = Recovering; view = 0; rows = 0; done = 0; boots = 1; known = 0 ∷ 0 ∷ 0 ∷ 0 ∷ 1 ∷ []; total = 0 })
unfolding on_request on_prepare on_prepare_ok on_commit beats_normal on_start_view_change on_do_view_change on_start_view on_timer beats_in_change on_get_state
    on_new_state on_recovery on_recovery_response beats_recovering on_restart
two_answers_of_five_shows = refl

-- three do
abbrev three_answers_of_five : World
three_answers_of_five = run 2 two_answers_of_five (Deliver 3 ∷ Deliver 7 ∷ [])

three_answers_of_five_shows : slice_get (shows three_answers_of_five) 4
    ≡ Some (record { status = Normal; view = 0; rows = 0; done = 0; boots = 1; known = 0 ∷ 0 ∷ 0 ∷ 0 ∷ 1 ∷ []; total = 0 })
unfolding on_request on_prepare on_prepare_ok on_commit beats_normal on_start_view_change on_do_view_change on_start_view on_timer beats_in_change on_get_state
    on_new_state on_recovery on_recovery_response beats_recovering on_restart
three_answers_of_five_shows = refl
