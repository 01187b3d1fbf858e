use Rattle.pvp_places.proofs.Marks.{text_between}
use Rattle.pvp_places.proofs.mark.read_mark.Goals as goal

pub returns-clause-some : goal.returns-clause-some
returns-clause-some c =
    let p = c.in_ok-run.ensures.cases in
    let q = c.in_ok-strip_suffix.ensures.cases in
    rw (c.as_slice-3.ensures, c.as_slice-4.ensures) at
    (text_between c.args.text.now c.as_slice-3.result.now c.as_slice-4.result.now c.in_ok-run.run'.now c.in_ok-strip_suffix.field-0.now p.0 p.1 q.0 q.1)
