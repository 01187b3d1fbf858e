use Rattle.pvp_serve.proofs.opening.drop_torn_record.Goals as goal

pub returns-clause-kept : goal.returns-clause-kept
returns-clause-kept c = (c.in_ok-journal.journal, rw c.as_slice.ensures.value at c.in_ok-journal.ensures.read, c.kept_of.ensures)
