use Rattle.pvp_wire.specs.Spelling.{number}
use Rattle.pvp_journal.specs.Spelling as spell
use Rattle.pvp_journal.specs.Fits.{SummaryFits}
use Rattle.pvp_journal.specs.Summaries.{summary_of}
use Rattle.pvp_journal.proofs.Written.{body_put}
use Rattle.pvp_journal.proofs.writing.put_body.Goals as goal

pub returns : goal.returns
returns c =
    let taken = c.args.taken.now in
    body_put (SummaryFits c.args.me taken.clock (summary_of taken.outcome)) c.args.out.now.items c.put_u64.new.out.items c.put_event.new.out.items
    c.put_summary.new.out.items (number 8 taken.clock)
    (spell.event_text c.args.me taken.clock taken.stamp taken.event) (spell.summary_text c.args.me taken.clock (summary_of taken.outcome))
    c.put_summary.result c.in_ok-put_u64.ensures.text c.in_ok-put_event.ensures.0 c.in_ok-put_u64.ensures.fits c.in_ok-put_event.ensures.1
    (c.put_summary.ensures c.args.me taken.clock)
