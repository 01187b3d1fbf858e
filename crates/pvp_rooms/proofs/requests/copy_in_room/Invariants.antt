use Rattle.std.proofs.Common.{◌≡◌, ◌≤◌, length, take, vec_len, vec_capacity}
use Rattle.pvp_rooms.proofs.requests.copy_in_room.Given as goal

abbrev pub invariant-loop-envelope : goal.invariant-loop-envelope
invariant-loop-envelope l = record {
  items : l.copies.items ≡ take l.envelope-index l.sent;
  count : vec_len l.copies ≡ l.envelope-index;
  room : length l.sent ≤ vec_capacity l.copies;
}
