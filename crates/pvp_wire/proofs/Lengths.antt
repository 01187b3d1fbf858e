-- How long frames are.
use Rattle.std.proofs.Common.{◌≡◌, ℕ, ◌+◌, ◌≤◌, ◌==◌, ◌&&◌, Bool, true, false, List, ◌++◌, length, arith}
use Rattle.std.specs.List.{list_all}
use Rattle.std.proofs.lemmas.List.{length-append}
use Rattle.vr_types.specs.Actors.{is_actor}
use Rattle.vr_types.specs.Messages.{rows_in, known_in}
use Rattle.pvp_wire.specs.declared.stamped.Stamped.{Stamped}
use Rattle.pvp_wire.specs.Shape.{number}
use Rattle.pvp_wire.specs.Layout.{BankRow, command, row, stamp, body, MessageFits}
use Rattle.pvp_wire.specs.Spelling.{has_client, has_site_count, head, most_body, is_wireable}
use Rattle.pvp_wire.proofs.Numbers.{length-number}
use Rattle.pvp_wire.proofs.Parts.{parted}
use Rattle.pvp_wire.proofs.MessageFormats.{message_short}

-- its rows are of clients, and the boots that it tells of are those of 1 to 7 sites
pub admitted : (s : Stamped) → is_wireable s ≡ true
    → (list_all has_client (rows_in s.envelope.msg) ≡ true) × (has_site_count (known_in s.envelope.msg) ≡ true)
admitted s h =
    let rest = list_all has_client (rows_in s.envelope.msg) && has_site_count (known_in s.envelope.msg) in
    let a = parted (s.envelope.from == s.stamp.actor) (is_actor s.stamp.actor && (is_actor s.envelope.to && rest)) h in
    let b = parted (is_actor s.stamp.actor) (is_actor s.envelope.to && rest) a.1 in
    parted (list_all has_client (rows_in s.envelope.msg)) (has_site_count (known_in s.envelope.msg)) (parted (is_actor s.envelope.to) rest b.1).1

-- of an envelope that has a spelling
pub spelled-short : (s : Stamped) → MessageFits s.envelope.msg → is_wireable s ≡ true → length (body s.envelope.msg) ≤ most_body
spelled-short s h wireable = message_short s.envelope.msg (h, admitted s wireable)

-- how long parts and numbers are
pub ruleset lengths = (length-append, length-number)

pub length-row : (r : BankRow) → length (row.spell r) ≡ 6 + length (command.spell r.cmd)
unfolding row
length-row r =
    omega (
      arith,
      length-append (number 2 r.client) (number 4 r.number ++ command.spell r.cmd),
      length-append (number 4 r.number) (command.spell r.cmd),
      length-number 2 r.client,
      length-number 4 r.number,
    )

-- a head has 18 bytes
pub length-head : (s : Stamped) → length (head s) ≡ 18
unfolding stamp
length-head s =
    let a = number 2 s.stamp.actor in
    let b = number 8 s.stamp.clock in
    let c = number 4 s.stamp.index in
    omega (
      arith,
      length-append b c,
      length-append a (b ++ c),
      length-append (stamp.spell s.stamp) (number 2 s.envelope.to),
      length-number 2 s.stamp.actor,
      length-number 8 s.stamp.clock,
      length-number 4 s.stamp.index,
      length-number 2 s.envelope.to,
    )
