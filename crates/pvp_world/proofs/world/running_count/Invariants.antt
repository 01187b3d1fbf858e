use Rattle.std.proofs.Common.{◌≡◌, ◌≤◌, take, count_by}
use Rattle.vr_types.specs.Site.{is_running}
use Rattle.pvp_world.proofs.world.running_count.Given as goal

abbrev pub invariant-loop-site : goal.invariant-loop-site
invariant-loop-site g l = (l.count ≤ l.site-index) × (l.count ≡ count_by (λ site. is_running site.volatile.status) (take l.site-index l.sites))
