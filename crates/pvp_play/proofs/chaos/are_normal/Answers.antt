use Rattle.std.proofs.Common.{◌<◌, ◌≤◌, ◌-◌, ◌+◌, subst, sym, ap, ◌∙◌}
use Rattle.std.specs.Prelude.{◌&&◌}
use Rattle.std.specs.List.{list_all, range_with_len}
use Rattle.pvp_types.specs.declared.setup.Setup.{Setup}
use Rattle.pvp_play.specs.Chaos.{is_normal_at}
use Rattle.pvp_play.proofs.ChaosLemmas.{all-next, all-past}
use Rattle.pvp_play.proofs.chaos.are_normal.Goals as goal

pub returns-then-not-is_normal_at : goal.returns-then-not-is_normal_at
returns-then-not-is_normal_at g c =
    let world = c.args.world.now in
    let n = world.setup.sites in
    let i = c.loop-site.site in
    let sites = c.site_count-sites.ensures.count ∙ ap (λ (s : Setup). s.sites) c.setup.ensures.same in
    let within : i < n = subst (λ k. i < k) sites c.loop-site-test.true in
    let fails = sym c.is_normal_at.ensures ∙ c.if-not-is_normal_at.true in
    sym (ap (λ b. b && list_all (is_normal_at world) (range_with_len (i + 1) (n - (i + 1)))) fails)
    ∙ sym (all-next (is_normal_at world) n i within) ∙ c.loop-site.invariant

pub loop-site-preserved : goal.loop-site-preserved
loop-site-preserved g c =
    let world = c.args.world.now in
    let n = world.setup.sites in
    let i = c.loop-site.site in
    let sites = c.site_count-sites.ensures.count ∙ ap (λ (s : Setup). s.sites) c.setup.ensures.same in
    let within : i < n = subst (λ k. i < k) sites c.loop-site-test.true in
    let passes = sym c.is_normal_at.ensures ∙ c.if-not-is_normal_at.false in
    sym (ap (λ b. b && list_all (is_normal_at world) (range_with_len (i + 1) (n - (i + 1)))) passes)
    ∙ sym (all-next (is_normal_at world) n i within) ∙ c.loop-site.invariant

pub returns : goal.returns
returns g c =
    let world = c.args.world.now in
    let sites = c.site_count-sites.ensures.count ∙ ap (λ (s : Setup). s.sites) c.setup.ensures.same in
    let past : world.setup.sites ≤ c.loop-site.site = subst (λ k. k ≤ c.loop-site.site) sites c.loop-site-test.false in
    sym (all-past (is_normal_at world) world.setup.sites c.loop-site.site past) ∙ c.loop-site.invariant
