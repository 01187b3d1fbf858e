use Rattle.pvp_serve.proofs.desk.TerminalDesk.take_frame.Goals as goal

pub returns-clause-comes : goal.returns-clause-comes
returns-clause-comes g c = rw c.asks_next.ensures at c.in_ok-take_frame.ensures.comes
