use Rattle.pvp_journal.proofs.Sealed.{other-damaged, length-damaged}
use Rattle.pvp_journal.proofs.laws.damage.Goals as goal

pub returns-clause-checksum : goal.returns-clause-checksum
returns-clause-checksum c = λ before body sum rest short fits other. other-damaged before body sum rest short fits other

pub returns-clause-length : goal.returns-clause-length
returns-clause-length c = λ before n m rest hn hm other. length-damaged before n m rest hn hm other
