use Rattle.pvp_journal.proofs.resume.come_back.Goals as goal

pub resume-requires : goal.resume-requires
resume-requires g c = let again = c.requires.again in (again.history, again.is_again)

pub returns-clause-keeps : goal.returns-clause-keeps
returns-clause-keeps g c = λ history again. c.resume.ensures.keeps history again
