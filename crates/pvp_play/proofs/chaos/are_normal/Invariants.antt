use Rattle.std.proofs.Common.{◌≡◌, ◌-◌}
use Rattle.std.specs.List.{list_all, range_with_len}
use Rattle.pvp_play.specs.Chaos.{is_normal_at, are_normal}
use Rattle.pvp_play.proofs.chaos.are_normal.Given as goal

-- the sites so far are normal, so the others decide
abbrev pub invariant-loop-site : goal.invariant-loop-site
invariant-loop-site g l = list_all (is_normal_at l.world) (range_with_len l.site (l.world.setup.sites - l.site)) ≡ are_normal l.world
