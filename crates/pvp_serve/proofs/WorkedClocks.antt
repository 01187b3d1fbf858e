-- Which clocks are too far ahead, by rows: of a client or a node those above the time, of a site those from 2^63 on.
use Rattle.std.proofs.Common.{◌≡◌, ℕ, ◌-◌, ◌^◌, true, false, refl}
use Rattle.pvp_wire.specs.declared.stamped.Stamp.{Stamp}
use Rattle.pvp_serve.specs.Serving.{is_far}

abbrev stamped : ℕ → ℕ → Stamp
stamped actor clock = record { actor = actor; clock = clock; index = 0 }

member_in_time : is_far 100 (stamped 1 100) ≡ false
member_in_time = refl

member_ahead : is_far 100 (stamped 1 101) ≡ true
member_ahead = refl

node_in_time : is_far 100 (stamped 101 100) ≡ false
node_in_time = refl

node_ahead : is_far 100 (stamped 101 101) ≡ true
node_ahead = refl

site_ahead_of_the_time : is_far 100 (stamped 200 (2 ^ 63 - 1)) ≡ false
site_ahead_of_the_time = refl

site_too_far : is_far 100 (stamped 200 (2 ^ 63)) ≡ true
site_too_far = refl

-- the time is what is given, and each number from 200 on is a site's
later_time : is_far 200 (stamped 1 101) ≡ false
later_time = refl

last_site_ahead_of_the_time : is_far 100 (stamped 206 101) ≡ false
last_site_ahead_of_the_time = refl
