-- What a site does at a tick of its clock.
use Rattle.std.specs.Prelude.{◌≡◌, ◌<◌, ℕ, ◌+◌, ◌-◌, ◌*◌, ◌/◌, ◌^◌, ◌==◌, ◌&&◌, ◌||◌, Bool, true, false, not, nat_le, nat_lt, max, min, Option, Some, None, if◌then◌else◌}
use Rattle.std.specs.Option.{option_map_or}
use Rattle.vr_types.specs.declared.event.Status.{Status}
use Rattle.vr_types.specs.declared.event.Status.TheVariants.{Normal, Change, Recovering, Down}
use Rattle.vr_types.specs.Site.{is_normal, is_change}
use Rattle.pvp_serve.specs.declared.patience.TheConstants.{BEATS_AFTER, MOST_CHANGE_MS, MOST_WAIT_MS, RECOVERING_TICKS, ROWS_A_MS}
use Rattle.pvp_serve.specs.declared.patience.Due.{Due}
use Rattle.pvp_serve.specs.declared.patience.Due.TheVariants.{Nothing, Restart, Beat, Ping, Timer}
use Rattle.pvp_serve.specs.declared.patience.Look.{Look}
use Rattle.pvp_serve.specs.declared.patience.Patience.{Patience}

-- what a site knows of time that waits so many ticks at the least, each of so many milliseconds, and has seen none
abbrev pub fresh_patience : ℕ → ℕ → Patience
fresh_patience least beat = record {
  least = least;
  beat = beat;
  wait = least;
  change = least;
  drawn = 0;
  limit = least;
  quiet = 0;
  calm = 0;
  heard = true;
  left = None;
  pause = 0;
  rest = 0;
  lag = 0;
  status = Down;
  view = 0;
  done = 0;
  same = 0;
}

-- a number that has room in 32 bits, or else the greatest that has
abbrev pub up_to_most : ℕ → ℕ
up_to_most n = min n (2 ^ 32 - 1)

-- how many ticks so many milliseconds are
abbrev pub ticks_in : ℕ → ℕ → ℕ
ticks_in ms beat = ms / max beat 1

-- HOW LONG A LOG of so many rows may take to be sent, kept and read, and a tick more
abbrev pub ticks_for : ℕ → ℕ → ℕ
ticks_for rows beat = up_to_most (rows / ROWS_A_MS / max beat 1 + 1)

-- twice as long, and no longer than this; half as long, and no shorter than this
abbrev pub doubled : ℕ → ℕ → ℕ
doubled ticks most = min (up_to_most (ticks + ticks)) most

abbrev pub halved : ℕ → ℕ → ℕ
halved ticks least = max (ticks / 2) least

-- the longest that a backup waits for its primary, and a site for the view that it changes to, before chance adds to it
abbrev pub most_wait : Patience → ℕ
most_wait p = max p.least (ticks_in MOST_WAIT_MS p.beat)

abbrev pub most_change : Patience → ℕ
most_change p = max p.least (ticks_in MOST_CHANGE_MS p.beat)

-- so long, and of so much more the part that a number drawn from 0 to 255 gives
abbrev pub spread : ℕ → ℕ → ℕ → ℕ
spread ticks more drawn = up_to_most (ticks + more * drawn / 256)

-- how long a site waits in change: for as long as its log may take, at the least
abbrev pub change_wait : Patience → Look → ℕ
change_wait p look = max p.change (ticks_for look.log p.beat)

-- HOW LONG A SITE WAITS: a backup for a word of its primary, and up to half as long again; a site in change for its
-- view, and up to twice as long
abbrev pub limit_as : Status → Patience → Look → ℕ
limit_as Normal p look = spread p.wait (p.wait / 2 + 1) p.drawn
limit_as Change p look = spread (change_wait p look) (change_wait p look) p.drawn
limit_as Recovering p look = p.limit
limit_as Down p look = p.limit

abbrev pub same_status : Status → Status → Bool
same_status Normal Normal = true
same_status Change Change = true
same_status Recovering Recovering = true
same_status Down Down = true
same_status _ _ = false

-- A SITE STANDS ANEW: in another view than at the last tick, or otherwise in it
abbrev pub is_new : Patience → Look → Bool
is_new p look = not (same_status p.status look.status && look.view == p.view)

-- A VIEW DID NOT BECOME NORMAL: the site changes to another one than at the last tick
abbrev pub has_failed : Patience → Look → Bool
has_failed p look = is_change p.status && is_change look.status && not (look.view == p.view)

-- for how many ticks its view has stayed normal
abbrev pub calm_with : Patience → Look → ℕ
calm_with p look = if is_normal look.status && not (is_new p look) then up_to_most (p.calm + 1) else 0

-- A VIEW HAS STAYED NORMAL for as long as the site waits at the least
abbrev pub is_calm : Patience → Look → Bool
is_calm p look = is_normal look.status && nat_le (max p.wait p.change) (calm_with p look)

-- after how many ticks a site says again for the first time what it said as it came to stand so
abbrev pub first_pause : Patience → Look → ℕ
first_pause p look = if same_status look.status Recovering then RECOVERING_TICKS else ticks_for look.log p.beat

-- how long it waits at the least from now on: longer in change with each view that failed, and less for each calm
abbrev pub wait_with : Patience → Look → ℕ
wait_with p look = if is_calm p look then halved p.wait p.least else p.wait

abbrev pub change_with : Patience → Look → ℕ
change_with p look =
    if has_failed p look then doubled p.change (most_change p)
    else if is_calm p look then halved p.change p.least
    else p.change

-- WHAT A SITE KNOWS OF TIME once it has seen, at a tick, how it stands
abbrev pub regarded : Patience → Look → Patience
regarded p look = record p {
  wait = wait_with p look;
  change = change_with p look;
  quiet = if is_new p look then 0 else p.quiet;
  calm = if is_calm p look then 0 else calm_with p look;
  left = if is_calm p look then None else p.left;
  pause = if is_new p look then first_pause p look else p.pause;
  rest = if is_new p look then first_pause p look else p.rest - 1;
  lag = p.lag - 1;
  status = look.status;
  view = look.view;
}

abbrev pub seen : Patience → Look → Patience
seen p look = let q = regarded p look in record q { limit = limit_as look.status q look }

-- its ticks count: a site in change that has heard no other site since its timer ran out waits for one
abbrev pub counts : Patience → Look → Bool
counts p look = not (is_change look.status) || p.heard

-- with the tick that comes it has waited for as long as it does
abbrev pub is_out : Patience → Look → Bool
is_out p look = counts p look && nat_le p.limit (p.quiet + 1)

-- a primary has something new to say
abbrev pub has_news : Patience → Look → Bool
has_news p look = look.owes || not (look.done == p.done)

-- how many ticks had nothing new
abbrev pub same_after : Patience → Look → ℕ
same_after p look = if has_news p look then 0 else up_to_most (p.same + 1)

-- a primary says what is new, and for some beats after
abbrev pub primary_due : Patience → Look → Due
primary_due p look = if nat_lt (same_after p look) BEATS_AFTER then Beat else Ping

-- who waits lets its timer run out, or else does this
abbrev pub waiting_due : Patience → Look → Due → Due
waiting_due p look otherwise = if is_out p look then Timer else otherwise

-- what was said is said again, once its pause is over
abbrev pub again_due : Patience → Due
again_due p = if p.rest == 0 then Beat else Nothing

-- what is due where a site stands so, once it has seen that
abbrev pub due_as : Status → Patience → Look → Due
due_as Down p look = Restart
due_as Recovering p look = again_due p
due_as Change p look = waiting_due p look (again_due p)
due_as Normal p look = if look.is_primary then primary_due p look else waiting_due p look Nothing

-- WHAT IS DUE at a tick, where a site looks so
abbrev pub due : Patience → Look → Due
due p look = due_as look.status (seen p look) look

-- what it knows of time once it said again what was due, with a pause twice as long
abbrev pub repeated : Patience → Patience
repeated p =
    if p.rest == 0
    then record p { pause = doubled p.pause (most_change p); rest = doubled p.pause (most_change p) }
    else p

-- and once it has waited a tick more: a timer that runs out leaves the primary of a normal view
abbrev pub left_with : Patience → Look → Option ℕ
left_with p look = if is_normal look.status then Some look.primary else p.left

abbrev pub waited : Patience → Look → Patience
waited p look =
    if is_out p look then record p { quiet = 0; heard = false; left = left_with p look }
    else if counts p look then record p { quiet = up_to_most (p.quiet + 1) }
    else p

-- and once it has led its view
abbrev pub has_led : Patience → Look → Patience
has_led p look = record p { done = look.done; same = same_after p look }

abbrev pub after_as : Status → Patience → Look → Patience
after_as Down p look = p
after_as Recovering p look = repeated p
after_as Change p look = waited (repeated p) look
after_as Normal p look = if look.is_primary then has_led p look else waited p look

-- what it knows of time after a tick
abbrev pub after_tick : Patience → Look → Patience
after_tick p look = after_as look.status (seen p look) look

-- where its timer ran out a number is drawn from 0 to 255, for how long it waits then
abbrev pub IsDrawn : Due → ℕ → ℕ → Type 0
IsDrawn Timer old new = new < 256
IsDrawn _ old new = new ≡ old

-- WHAT A TICK LEAVES of what a site knows of time
pub record IsTicked (look : Look) (old new : Patience) : Type 0 where
  pub drawn : IsDrawn (due old look) (after_tick old look).drawn new.drawn
  pub after : new ≡ record (after_tick old look) { drawn = new.drawn }

-- A SITE IS HEARD: the one whose view was left was alive, so its silence was too short to mean anything
abbrev pub is_left : Patience → ℕ → Bool
is_left p site = option_map_or (λ left. left == site) p.left false

abbrev pub heard_site : ℕ → Patience → Patience
heard_site site p = record p {
  heard = true;
  wait = if is_left p site then doubled p.wait (most_wait p) else p.wait;
  left = if is_left p site then None else p.left;
}

-- A STATE IS ASKED FOR, behind a log of so many rows: not again before it may have come
abbrev pub has_asked : ℕ → Patience → Patience
has_asked rows p = record p { lag = ticks_for rows p.beat }
