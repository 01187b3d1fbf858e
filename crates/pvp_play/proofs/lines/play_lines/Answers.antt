use Rattle.std.proofs.Common.{[], ◌++◌, refl, take_all, string_bytes, subst}
use Rattle.std.proofs.KnownBytes.{Appends-nil}
use Rattle.std.proofs.lemmas.Option.{slice_get-get_or}
use Rattle.pvp_world.specs.World.{IsProved}
use Rattle.pvp_play.specs.Lines.{ArePlayed}
use Rattle.pvp_play.proofs.LinesLemmas.{Plays-more, written-more, end-stopped}
use Rattle.pvp_play.proofs.Noting.{plays-note}
use Rattle.pvp_play.proofs.Reliable.{plays-keep}
use Rattle.pvp_play.proofs.lines.play_lines.Goals as goal

pub loop-line-init : goal.loop-line-init
loop-line-init g c = ([], (refl, refl), Appends-nil (g.W.Write.contents c.args.writer.now))

pub loop-line-preserved : goal.loop-line-preserved
loop-line-preserved g c =
    let before = c.loop-line.invariant.0 in
    let after = string_bytes c.in_ok-text.text in (
      before ++ after,
      Plays-more g.C.BootCell c.args.telling c.args.lines.now c.loop-line.line-index _ c.args.player.now c.loop-line.player c.play_line.new.player before after
          c.loop-line-test.true c.loop-line.invariant.1 c.in_ok-text.ensures.played,
      written-more _ _ _ before after c.as_str.result.now c.as_str.ensures.value c.loop-line.invariant.2 c.in_ok-write_text.ensures.written,
    )

pub returns-in_err-text : goal.returns-in_err-text
returns-in_err-text g c =
    end-stopped g.C.BootCell c.args.telling c.args.player.now c.args.lines.now c.play_line.new.player c.from_residual.result _ _
    c.from_residual.ensures.1 (record {
      count = c.loop-line.line-index;
      line = _;
      is_next = slice_get-get_or c.args.lines.now c.loop-line.line-index _ c.loop-line-test.true;
      between = c.loop-line.player;
      played = record {
        text = c.loop-line.invariant.0;
        plays = c.loop-line.invariant.1;
        written = c.loop-line.invariant.2;
        headline = subst (IsProved g.C.BootCell.held) c.world.ensures c.is_proved.ensures;
        reliable = plays-keep g.C.BootCell c.args.telling _ c.args.player.now c.loop-line.player c.loop-line.invariant.0 c.loop-line.invariant.1;
        noted = plays-note g.C.BootCell c.args.telling _ c.args.player.now c.loop-line.player c.loop-line.invariant.0 c.loop-line.invariant.1;
      };
      stops = c.in_err-text.ensures.stopped;
    })

pub returns : goal.returns
returns g c =
    let whole = take_all c.loop-line.line-index c.args.lines.now c.loop-line-test.false in
    subst (λ lines. ArePlayed g.C.BootCell c.args.telling c.args.player.now lines c.loop-line.player (g.W.Write.contents c.args.writer.now)
    (g.W.Write.contents c.loop-line.writer)) whole
    (record {
      text = c.loop-line.invariant.0;
      plays = c.loop-line.invariant.1;
      written = c.loop-line.invariant.2;
      headline = subst (IsProved g.C.BootCell.held) c.world-2.ensures c.is_proved-2.ensures;
      reliable = plays-keep g.C.BootCell c.args.telling _ c.args.player.now c.loop-line.player c.loop-line.invariant.0 c.loop-line.invariant.1;
      noted = plays-note g.C.BootCell c.args.telling _ c.args.player.now c.loop-line.player c.loop-line.invariant.0 c.loop-line.invariant.1;
    })
