use Rattle.pvp_journal.specs.Rooms.{bank_texts}
use Rattle.pvp_journal.proofs.Going.{over_opening, stays}
use Rattle.pvp_journal.proofs.ways.over_same.Goals as goal

pub returns : goal.returns
returns g c = stays _ _ bank_texts g.L.Log.seen c.args.room c.over.result
    (over_opening c.args.room c.args.cell c.over.result c.over.ensures.is) c.over.ensures.keeps
