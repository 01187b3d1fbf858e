use Rattle.std.proofs.Common.{◌+◌, ◌*◌, refl, ap, sym, ◌∙◌, subst}
use Rattle.std.specs.Prelude.{replicate}
use Rattle.vr_types.specs.Cell.{new_cell}
use Rattle.pvp_play.specs.Lines.{IsOpening}
use Rattle.pvp_play.proofs.CellsLemmas.{all-reliable, armed-sites}
use Rattle.pvp_play.proofs.lines.new_player.Goals as goal

pub returns : goal.returns
returns c =
    let world = c.in_ok-world.world in
    let fails = c.args.fails.now in
    let armed = armed-sites fails c.in_ok-cells.cells.items world.sites c.in_ok-world.ensures.cells c.in_ok-cells.ensures.armed in
    subst (IsOpening c.args.setup.now fails c.args.telling) (sym c.player_of.ensures)
    (record {
      setup = c.in_ok-world.ensures.setup;
      cells = c.in_ok-world.ensures.opening ∙ c.in_ok-cells.ensures.new ∙ ap (λ n. replicate (2 * n + 1) new_cell) c.faults.ensures.faults;
      armed = armed;
      trail = c.in_ok-world.ensures.trail;
      headline = c.in_ok-world.ensures.headline;
      begins = refl;
      reliable = all-reliable fails world armed;
    })
