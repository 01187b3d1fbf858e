use Rattle.std.proofs.Common.{◌++◌, append_assoc, length, string_bytes, sym, ap, ◌∙◌, arith}
use Rattle.std.specs.List.{flat_map, enumerate_from}
use Rattle.pvp_types.specs.declared.setup.Setup.{Setup}
use Rattle.pvp_play.specs.BooksText.{node_line, node_text, way_line}
use Rattle.pvp_play.proofs.BooksLemmas.{printed-more, printed-none, printed-all, has_all}
use Rattle.pvp_play.proofs.books.push_nodes.Goals.{in-Some+in_ok-push_account+in_ok-push_figures, in_default}
use Rattle.pvp_play.proofs.books.push_nodes.Goals as goal

pub loop-ccy-preserved : goal.loop-ccy-preserved
loop-ccy-preserved g c =
    let world = c.args.world.now in
    let line = node_text g.C.BootCell.held world in
    let ccy = c.loop-ccy.ccy in
    let so_far = string_bytes c.loop-ccy.text in
    elim c.match-node.branch [
      | in-Some+in_ok-push_account+in_ok-push_figures w ↦
          let x = w.in-Some.node.now.node in
          let ways = flat_map (way_line g.C.BootCell.held ccy x) (enumerate_from 0 world.sites) in
          printed-more line world.nodes _ _ (string_bytes c.args.text.now) ccy w.in-Some.node.now (sym w.in-Some.ensures)
          (ap string_bytes w.text-is ∙ w.in_ok-push_figures.ensures
          ∙ ap (λ t. t ++ ways) (w.in_ok-push_account.ensures ∙ ap (λ (s : Setup). so_far ++ node_line s ccy x) w.setup-in-Some.ensures.same)
          ∙ append_assoc so_far (node_line world.setup ccy x) ways) c.loop-ccy.invariant
      | in_default w ↦ printed-none line world.nodes _ (string_bytes c.args.text.now) ccy (sym w.in_default.ensures)
          (ap string_bytes w.text-is ∙ c.loop-ccy.invariant)
    ]

pub returns : goal.returns
returns g c =
    let world = c.args.world.now in
    let all = (has_all g.C.BootCell.held world c.is_proved.ensures.is_at).nodes in
    let same = ap (λ (s : Setup). length s.currencies) c.setup.ensures.same in
    let end = c.loop-ccy-test.false in
    printed-all (node_text g.C.BootCell.held world) world.nodes _ (string_bytes c.args.text.now) c.loop-ccy.ccy
    (omega (arith, c.currency_count-currencies.ensures.count)) c.loop-ccy.invariant
