-- View change, by section 4.2 of 'Viewstamped Replication Revisited' (MIT-CSAIL-TR-2012-021), whose steps are named.
use Rattle.std.specs.Prelude.{ℕ, ◌+◌, ◌==◌, ◌&&◌, Bool, true, not, nat_lt, nat_le, List, [], ◌∷◌, ◌++◌, count_by, if◌then◌else◌}
use Rattle.vr_types.specs.declared.event.Status.TheVariants.{Change}
use Rattle.vr_types.specs.declared.event.Why.TheVariants.{Status, View, NotPrimary, Known, Stale}
use Rattle.vr_types.specs.declared.message.EnvelopeOf.{EnvelopeOf}
use Rattle.vr_types.specs.declared.message.DoViewChangeOf.{DoViewChangeOf}
use Rattle.vr_types.specs.declared.message.MsgOf.TheVariants.{StartViewChange, DoViewChange, StartView}
use Rattle.vr_types.specs.declared.message.StartViewOf.{StartViewOf}
use Rattle.vr_types.specs.declared.row.RowOf.{RowOf}
use Rattle.vr_types.specs.Group.{sites, others, primary, mail, to_all}
use Rattle.vr_types.specs.Site.{Site, Start, Vote, nothing, is_normal, is_change, is_recovering, has_start, has_vote}
use Rattle.vr_types.specs.Choice.{Choice}
use Rattle.vr_types.specs.Step.{Step, does, drops, is_outdated, learns, normal_in, begins_with_executed, takes_log, executes_and_answers}

-- a site in the middle of a rule, and what it has sent to sites so far
pub record Part (C R O : Type 0) : Type 0 where
  pub site : Site C
  pub sent : List (EnvelopeOf C R O)

-- The site takes part in the change to view w (step 1). It gives up what it collected, and sends STARTVIEWCHANGE to
-- all others. Its log, what it executed, its last normal view and what it knows stay.
abbrev pub starts_view : {C R O : Type 0} → ℕ → ℕ → ℕ → Site C → Part C R O
starts_view f me w x = record {
  site = record x { status = Change; view = w; collected = nothing };
  sent = to_all f me (StartViewChange (record { view = w; known = x.known }));
}

-- a later view is started
abbrev pub starts_later_view : {C R O : Type 0} → ℕ → ℕ → ℕ → Site C → Part C R O
starts_later_view f me w x = if nat_lt x.view w then starts_view f me w x else record { site = x; sent = [] }

-- the first STARTVIEWCHANGE of each site is kept
abbrev pub with_start : {C : Type 0} → Start → Site C → Site C
with_start start x =
    if has_start x.collected.starts start.from then x
    else record x { collected = record (x.collected) { starts = x.collected.starts ++ start ∷ [] } }

-- the first DOVIEWCHANGE of each site is kept
abbrev pub with_vote : {C : Type 0} → Vote C → Site C → Site C
with_vote vote x =
    if has_vote x.collected.votes vote.from then x
    else record x { collected = record (x.collected) { votes = x.collected.votes ++ vote ∷ [] } }

-- the vote that a site gives by its DOVIEWCHANGE
abbrev pub vote_of : {C : Type 0} → ℕ → DoViewChangeOf C → Vote C
vote_of from msg =
    record { from = from; last_normal = msg.last_normal; done = msg.done; log = msg.rows; known = msg.known }

-- the DOVIEWCHANGE of a view that gives a vote
abbrev pub ballot : {C : Type 0} → ℕ → Vote C → DoViewChangeOf C
ballot w vote =
    record { view = w; last_normal = vote.last_normal; done = vote.done; rows = vote.log; known = vote.known }

-- its own DOVIEWCHANGE is made
abbrev pub with_voted : {C : Type 0} → Site C → Site C
with_voted x = record x { collected = record (x.collected) { voted = true } }

-- the site's own vote for its view
abbrev pub own_vote : {C : Type 0} → ℕ → Site C → Vote C
own_vote me x = record { from = me; last_normal = x.last_normal; done = x.done; log = x.log; known = x.known }

-- the site's own DOVIEWCHANGE, to the primary of its view
abbrev pub sends_vote : {C R O : Type 0} → ℕ → ℕ → Site C → List (EnvelopeOf C R O)
sends_vote f me x = mail me (primary f x.view) (DoViewChange (ballot x.view (own_vote me x))) ∷ []

-- at least f different others have sent STARTVIEWCHANGE, and its own DOVIEWCHANGE is not made yet
abbrev pub is_to_vote : {C : Type 0} → ℕ → ℕ → Site C → Bool
is_to_vote f me x = nat_le f (count_by (has_start x.collected.starts) (others f me)) && not x.collected.voted

-- The site's own DOVIEWCHANGE (step 2): it goes to the primary of the view, or is kept here if this site is that
-- primary.
abbrev pub votes_where_due : {C R O : Type 0} → ℕ → ℕ → Part C R O → Part C R O
votes_where_due f me part =
    let x = part.site in
    if not (is_to_vote f me x) then part
    else if primary f x.view == me then record { site = with_vote (own_vote me x) (with_voted x); sent = part.sent }
    else record { site = with_voted x; sent = part.sent ++ sends_vote f me x }

-- this site is the primary of the view that it changes to, and has the DOVIEWCHANGEs of at least f+1 different sites,
-- its own among them
abbrev pub is_to_open : {C : Type 0} → ℕ → ℕ → Site C → Bool
is_to_open f me x =
    is_change x.status && ((primary f x.view == me)
    && (has_vote x.collected.votes me && nat_lt f (count_by (has_vote x.collected.votes) (sites f))))

-- The view is opened with the picked log (steps 3 and 4): the site is normal in it, executes to the largest
-- commit-number, and sends STARTVIEW to all others; then the clients are answered.
abbrev pub opened_with : {C R O : Type 0} → ℕ → ℕ → List (RowOf C) → ℕ → Part C R O → Step C R O
opened_with {C} {R} {O} f me log k part =
    let opened = executes_and_answers {R = R} {O = O} k (normal_in part.site.view log part.site) in
    record opened {
      sent = part.sent ++ to_all f me
          (StartView (record { view = opened.site.view; done = opened.site.done; rows = opened.site.log }));
    }

-- The view is opened where it can be. This project's own: if the picked log does not begin with what the site
-- executed, the message is dropped; x is the site as the message found it.
abbrev pub opens_where_due : {C R O : Type 0} → Choice C → ℕ → ℕ → Site C → Part C R O → Step C R O
opens_where_due choose f me x part =
    let votes = part.site.collected.votes in
    let log = (choose.pick votes).log in
    if not (is_to_open f me part.site) then does part.site part.sent
    else if not (begins_with_executed choose.same part.site log) then drops x Stale
    else opened_with f me log (choose.most_done votes) part

-- The site at the point where it decides whether the view opens, after a STARTVIEWCHANGE: it has learnt what the
-- sender knew, started the view if that is later, kept the message, and voted where that is due.
abbrev pub after_start : {C R O : Type 0} → ℕ → ℕ → ℕ → Start → Site C → Part C R O
after_start f me w start x =
    let started = starts_later_view f me w (learns start.known x) in
    votes_where_due f me (record started { site = with_start start started.site })

-- the same after a DOVIEWCHANGE, at which the site does not vote
abbrev pub after_vote : {C R O : Type 0} → ℕ → ℕ → ℕ → Vote C → Site C → Part C R O
after_vote f me w vote x =
    let started = starts_later_view f me w (learns vote.known x) in
    record started { site = with_vote vote started.site }

-- STARTVIEWCHANGE (steps 1 and 2). This project's own, here and below: one of an earlier boot of its sender is dropped,
-- and what its sender knew is learnt.
unfoldable pub on_start_view_change : {C R O : Type 0} → Choice C → ℕ → ℕ → Site C → ℕ → Start → Step C R O
on_start_view_change choose f me x w start =
    if is_recovering x.status then drops x Status
    else if nat_lt w x.view then drops x View
    else if is_normal x.status && (w == x.view) then drops x Status
    else if is_outdated x.known start.from start.known then drops x Stale
    else opens_where_due choose f me x (after_start f me w start x)

-- DOVIEWCHANGE (steps 1 and 3)
unfoldable pub on_do_view_change : {C R O : Type 0} → Choice C → ℕ → ℕ → Site C → ℕ → Vote C → Step C R O
on_do_view_change choose f me x w vote =
    if is_recovering x.status then drops x Status
    else if nat_lt w x.view then drops x View
    else if not (primary f w == me) then drops x NotPrimary
    else if is_normal x.status && (w == x.view) then drops x Status
    else if is_outdated x.known vote.from vote.known then drops x Stale
    else opens_where_due choose f me x (after_vote f me w vote x)

-- STARTVIEW (step 5)
unfoldable pub on_start_view : {C R O : Type 0} → Choice C → ℕ → ℕ → Site C → ℕ → StartViewOf C → Step C R O
on_start_view choose f me x from msg =
    if not (primary f msg.view == from) then drops x NotPrimary
    else if is_recovering x.status then drops x Status
    else if nat_lt msg.view x.view then drops x View
    else if is_normal x.status && (msg.view == x.view) then drops x Known
    else takes_log choose f me x msg.view msg.done msg.rows

-- Timer (step 1): the next view is started. At the greatest view the event was refused before.
unfoldable pub on_timer : {C R O : Type 0} → ℕ → ℕ → Site C → Step C R O
on_timer f me x =
    if is_recovering x.status then drops x Status
    else (let started = starts_view f me (x.view + 1) x in does started.site started.sent)

-- Beat of a site in change: it sends again what it has sent for its view.
unfoldable pub beats_in_change : {C R O : Type 0} → ℕ → ℕ → Site C → Step C R O
beats_in_change f me x =
    does x (to_all f me (StartViewChange (record { view = x.view; known = x.known }))
    ++ (if x.collected.voted && not (primary f x.view == me) then sends_vote f me x else []))
