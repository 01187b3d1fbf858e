use Rattle.std.proofs.Common.{subst}
use Rattle.pvp_live.specs.Told.{WasJudged}
use Rattle.pvp_command.specs.Lives.{KeptIn, folder_of}
use Rattle.pvp_command.proofs.lives.live_lines.Goals as goal
use Rattle.pvp_command.proofs.lives.live_lines.Goals.{then-told+in_ok-lived, else-told+in_ok-lived-2}

-- src/lives.rt
pub returns-clause-ok : goal.returns-clause-ok
returns-clause-ok g c =
    let lived = c.if-told.lived in
    let text = c.args.rules.text.now in
    let s = c.args.rules.setup.now in
    let files = g.K.Shelf.files in
    let judged : WasJudged s lived.closed.items lived.verdict = elim c.if-told.branch [
      | then-told+in_ok-lived w ↦ rw w.lived-is w.in_ok-lived.ensures.judged
      | else-told+in_ok-lived-2 w ↦ rw w.lived-is w.in_ok-lived-2.ensures.judged
    ] in
    record {
      closed = lived.closed.items;
      verdict = lived.verdict;
      judged = judged;
      kept = subst (λ closed. KeptIn (folder_of c.args.told) text s closed (files c.args.shelf.now) (files c.keep.new.shelf)) c.as_slice.ensures.value
          (subst (λ before. KeptIn (folder_of c.args.told) text s c.as_slice.result.now before (files c.keep.new.shelf)) c.open_folder.ensures.same
          c.in_ok-keep.ensures.ok);
      written = c.in_ok-status.ensures.text;
      ended = c.in_ok-status.ensures.status;
    }
