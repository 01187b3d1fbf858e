use Rattle.std.proofs.Common.{ℕ, ◌++◌, List, length, string_bytes, sym, ap, ◌∙◌}
use Rattle.pvp_world.specs.World.{ShownWorld}
use Rattle.pvp_trace.specs.declared.attempt.Attempt.{Attempt}
use Rattle.pvp_play.specs.declared.notes.Telling.{Telling}
use Rattle.pvp_play.specs.Notes.{notes}
use Rattle.pvp_play.specs.Lines.{refused_text, print_text, steps_text, line_text}
use Rattle.pvp_play.specs.Passing.{passing_text}
use Rattle.pvp_play.proofs.LinesLemmas.{text-played, steps-stopped}
use Rattle.pvp_play.proofs.lines.play_line.Goals as goal

pub returns-in-Books-clause-played : goal.returns-in-Books-clause-played
returns-in-Books-clause-played g c =
    let line = c.args.line in
    let old = c.args.player.now in
    let new = c.do_line.new.player in
    let told = c.in_ok-told.told in
    text-played g.C.BootCell c.args.telling line old new told string_bytes c.books_told.result _ c.in_ok-told.ensures.done
    (ap (λ (w : ShownWorld g.row.C.Denot). refused_text line.number told ++ print_text g.C.BootCell.held line.statement w) c.world.ensures
    ∙ sym (ap (λ (t : Telling). line_text g.C.BootCell.held t line told old new) c.in-Books.is))
    c.books_told.ensures.text

pub returns-in-Steps-clause-played : goal.returns-in-Steps-clause-played
returns-in-Steps-clause-played g c =
    let line = c.args.line in
    let old = c.args.player.now in
    let new = c.do_line.new.player in
    let told = c.in_ok-told.told in
    text-played g.C.BootCell c.args.telling line old new told string_bytes c.line_told.result _ c.in_ok-told.ensures.done
    (ap (λ (before : List Attempt). steps_text new.world line.number told (length before) (notes new.noted)
    ++ passing_text line.statement told c.cursor-from.result new) c.notes-before.ensures
    ∙ ap (λ (from : ℕ). steps_text new.world line.number told (length (notes old.noted)) (notes new.noted) ++ passing_text line.statement told from new)
    c.cursor-from.ensures
    ∙ sym (ap (λ (t : Telling). line_text g.C.BootCell.held t line told old new) c.in-Steps.is))
    c.line_told.ensures.text

pub returns-in-Steps-clause-stopped : goal.returns-in-Steps-clause-stopped
returns-in-Steps-clause-stopped g c =
    steps-stopped g.C.BootCell c.args.telling c.args.line c.args.player.now c.do_line.new.player c.in_ok-told.told
    (length c.notes-before.result.now) c.cursor-from.result c.line_told.result
    c.in-Steps.is c.in_ok-told.ensures.done (ap (λ (before : List Attempt). length before) c.notes-before.ensures) c.cursor-from.ensures
    c.line_told.ensures.stopped
