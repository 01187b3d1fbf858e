use Rattle.std.proofs.Common.{string_bytes, sym, ap, ◌∙◌, arith}
use Rattle.pvp_types.specs.Setup.{faults}
use Rattle.pvp_play.specs.BooksText.{way_line}
use Rattle.pvp_play.proofs.BooksLemmas.{printed-more, printed-none, printed-all, has_all, matches}
use Rattle.pvp_play.proofs.books.push_figures.Goals.{in-Some+in_ok-push_site_figure, in_default}
use Rattle.pvp_play.proofs.books.push_figures.Goals as goal

pub push_site_figure-requires : goal.push_site_figure-requires
push_site_figure-requires g c =
    matches g.C.BootCell.held c.args.world.now c.is_proved.ensures c.loop-i.i c.args.ccy c.in-Some.site.now c.args.node.now (sym c.in-Some.ensures) c.requires

pub loop-i-preserved : goal.loop-i-preserved
loop-i-preserved g c =
    let world = c.args.world.now in
    let line = way_line g.C.BootCell.held c.args.ccy c.args.node.now.node in
    elim c.match-site.branch [
      | in-Some+in_ok-push_site_figure w ↦ printed-more line world.sites _ _ (string_bytes c.args.text.now) c.loop-i.i
          w.in-Some.site.now (sym w.in-Some.ensures)
          (ap string_bytes w.text-is ∙ w.in_ok-push_site_figure.ensures) c.loop-i.invariant
      | in_default w ↦ printed-none line world.sites _ (string_bytes c.args.text.now) c.loop-i.i (sym w.in_default.ensures)
          (ap string_bytes w.text-is ∙ c.loop-i.invariant)
    ]

pub returns : goal.returns
returns g c =
    let world = c.args.world.now in
    let all = (has_all g.C.BootCell.held world c.is_proved.ensures.is_at).sites in
    let same = ap faults c.setup.ensures.same in
    let end = c.loop-i-test.false in
    printed-all (way_line g.C.BootCell.held c.args.ccy c.args.node.now.node) world.sites _ (string_bytes c.args.text.now) c.loop-i.i
    (omega (arith, c.faults.ensures.faults)) c.loop-i.invariant
