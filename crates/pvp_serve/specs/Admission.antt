-- Which requests of clients and nodes a primary admits: those for which the log has a row within their sender's share,
-- and few at a time.
use Rattle.std.specs.Prelude.{ℕ, ◌+◌, ◌-◌, ◌/◌, ◌^◌, ◌==◌, ◌&&◌, ◌||◌, Bool, true, false, not, min, nat_le, nat_lt, List, length, get_or, replicate, slice_set, Option, Some, None, is_some, if◌then◌else◌}
use Rattle.vr_types.specs.declared.actors.ActorId.{ActorId}
use Rattle.vr_types.specs.declared.actors.ActorId.TheVariants.{Client, Node, Site}
use Rattle.vr_types.specs.declared.limits.TheConstants.{MAX_ROWS, MOST_MEMBERS}
use Rattle.vr_types.specs.declared.message.MsgOf.{MsgOf}
use Rattle.vr_types.specs.declared.message.MsgOf.TheVariants.{Request}
use Rattle.pvp_types.specs.declared.command.Cmd.{Cmd}
use Rattle.pvp_types.specs.declared.command.Cmd.TheVariants.{Rescind, Settle, PayOut, Paid, Returned}
use Rattle.pvp_places.specs.declared.fault.TerminalWhy.{TerminalWhy}
use Rattle.pvp_places.specs.declared.fault.TerminalWhy.TheVariants as why
use Rattle.pvp_serve.specs.declared.admission.Admission.{Admission}
use Rattle.pvp_serve.specs.declared.admission.Admission.TheVariants.{Takes, Late, Again, Loses, Known, Floods}
use Rattle.pvp_serve.specs.declared.admission.Quota.{Quota}
use Rattle.pvp_serve.specs.declared.admission.Seen.{Seen}
use Rattle.pvp_serve.specs.declared.admission.TheConstants.{KNOWN_TICKS, LATE_ROWS, MOST_KNOWN, PENDING, PLACES, RESERVE, WARNED}
use Rattle.pvp_serve.specs.declared.serving.Lost.{Lost}

-- a client's command lets money out, or settles what waits
abbrev pub lets_out : Cmd → Bool
lets_out (Rescind reference) = true
lets_out (Settle most) = true
lets_out (PayOut ccy amt) = true
lets_out _ = false

-- a node's command ends an order
abbrev pub ends_order : ActorId → Cmd → Bool
ends_order (Node ccy) (Paid own out) = true
ends_order (Node ccy) (Returned own out) = true
ends_order _ _ = false

-- the rows that a command takes: its own, and a pay-out one more for the end of its order
abbrev pub rows_of : Cmd → ℕ
rows_of (PayOut ccy amt) = 2
rows_of _ = 1

-- THE ROWS THAT ARE FREE: each open order ends with one, and each row that is not executed may make one order more
abbrev pub free_rows : Seen → ℕ
free_rows seen = MAX_ROWS - seen.log - seen.orders - (seen.log - seen.done)

-- THE LOG HAS ROOM for a command: in rows that are free, and for the end of an order in any. So each order can end
abbrev pub has_room : ActorId → Seen → Cmd → Bool
has_room who seen cmd =
    if ends_order who cmd then nat_lt seen.log MAX_ROWS else nat_le (rows_of cmd) (free_rows seen)

-- THE SHARE OF A CLIENT, one of the members and the operator, in the rows before the reserve, and in the reserve
abbrev pub share_of : ℕ → ℕ
share_of members = (MAX_ROWS - RESERVE) / (min members MOST_MEMBERS + 1)

abbrev pub late_share : ℕ → ℕ
late_share members = LATE_ROWS / (min members MOST_MEMBERS + 1)

-- a request is within its sender's share of the rows before the reserve: a client numbers its rows from 1. The operator
-- (client 0) may take any of these rows, and a node any row
abbrev pub is_early : ActorId → ℕ → Seen → ℕ → Bool
is_early (Client client) members seen number =
    nat_lt seen.log (MAX_ROWS - RESERVE) && ((client == 0) || nat_le number (share_of members))
is_early (Node ccy) members seen number = true
is_early (Site site) members seen number = true

-- or within its share of the reserve, of which it took so many rows: but for the first, by what lets money out. So a
-- client that did not hear in time that the log is full does not wait for ever
abbrev pub is_late : ActorId → ℕ → ℕ → Cmd → Bool
is_late (Client client) members late cmd =
    (lets_out cmd || (late == 0)) && ((client == 0) || nat_lt late (late_share members))
is_late _ members late cmd = false

-- WHAT BECOMES OF A NEW REQUEST. Who waits for its answers has one at a time that is not executed
abbrev pub admission_of_new : ActorId → ℕ → Seen → ℕ → ℕ → Cmd → Admission
admission_of_new who members seen late number cmd =
    if nat_lt PENDING (number - seen.answered) then Floods
    else if not (has_room who seen cmd) then Loses
    else if is_early who members seen number then Takes
    else if is_late who members late cmd then Late
    else Loses

-- and of a known one, after so many of its sender: it is answered again where it is its client's newest and executed,
-- and else lost, which is a flood where too many came
abbrev pub admission_of_known : Seen → ℕ → ℕ → Admission
admission_of_known seen known number =
    if (number == seen.newest) && (seen.answered == number) && (known == 0) && nat_lt 0 number then Again
    else if nat_lt known MOST_KNOWN then Known
    else Floods

-- WHAT BECOMES OF A REQUEST at the primary of a normal view
abbrev pub admission : ActorId → ℕ → Seen → ℕ → ℕ → ℕ → Cmd → Admission
admission who members seen known late number cmd =
    if nat_lt seen.newest number then admission_of_new who members seen late number cmd
    else admission_of_known seen known number

-- how many of an actor were counted; of one that has no place here the most
abbrev pub count_of : List ℕ → ℕ → ℕ
count_of counts actor = get_or counts actor 65535

abbrev pub counted : ℕ → List ℕ → List ℕ
counted actor counts =
    if nat_lt actor PLACES then slice_set counts actor (min (count_of counts actor + 1) 65535) else counts

abbrev pub none_counted : List ℕ
none_counted = replicate PLACES 0

abbrev pub fresh_quota : Quota
fresh_quota = record { known = none_counted; late = none_counted; ticks = 0 }

-- THE COUNTS after a request of an actor of which that became
abbrev pub quota_after : Admission → ℕ → Quota → Quota
quota_after Late actor quota = record quota { late = counted actor quota.late }
quota_after Again actor quota = record quota { known = counted actor quota.known }
quota_after Known actor quota = record quota { known = counted actor quota.known }
quota_after _ actor quota = quota

-- and after a tick: from time to time the count of known requests begins anew
abbrev pub quota_ticked : Quota → Quota
quota_ticked quota =
    if nat_lt quota.ticks (KNOWN_TICKS - 1) then record quota { ticks = quota.ticks + 1 }
    else record quota { known = none_counted; ticks = 0 }

-- and of a message: a client and a node are heard with a REQUEST alone
abbrev pub admission_of : {R O : Type 0} → ActorId → ℕ → Option Seen → ℕ → Quota → MsgOf Cmd R O → Admission
admission_of who members (Some seen) actor quota (Request m) =
    admission who members seen (count_of quota.known actor) (count_of quota.late actor) m.number m.cmd
admission_of who members _ actor quota _ = Loses

-- what is not admitted
abbrev pub is_shut : Admission → Bool
is_shut Takes = false
is_shut Late = false
is_shut Again = false
is_shut Loses = true
is_shut Known = true
is_shut Floods = true

-- THE REQUESTS THAT WERE LOST IN FLOODS: how many, and whose was the last
abbrev pub flood_after : Admission → ℕ → Lost → Lost
flood_after Floods actor lost = record { count = min (lost.count + 1) (2 ^ 64 - 1); last = Some actor }
flood_after _ actor lost = lost

-- A LOG OF SO MANY ROWS IS FULL but for its reserve, or will be soon, which is reported to clients and nodes
abbrev pub is_full_at : ℕ → Bool
is_full_at log = nat_le (MAX_ROWS - RESERVE - WARNED) log

-- the share of a client in what commands like this one may take
abbrev pub share_for : ℕ → Cmd → ℕ
share_for members cmd = if lets_out cmd then share_of members + late_share members else share_of members

-- a client has used up its shares behind so many requests, or its share of the reserve, where it knows that the log
-- was full when it had made so many: the next request, those since then, and the one on its way then
abbrev pub has_used_up : Option ℕ → ℕ → ℕ → Cmd → Bool
has_used_up None members number cmd = nat_le (share_for members cmd) number
has_used_up (Some full) members number cmd =
    nat_le (share_for members cmd) number || nat_lt (late_share members) (number - full + 2)

-- WHY A CLIENT IS NOT ASKED for a command behind so many requests, where it knows that the log is full, or does not
abbrev pub refusal_of : ℕ → Option ℕ → ℕ → ℕ → Cmd → Option TerminalWhy
refusal_of client full members number cmd =
    if is_some full && not (lets_out cmd) then Some why.Full
    else if not (client == 0) && has_used_up full members number cmd then Some why.Share
    else None
