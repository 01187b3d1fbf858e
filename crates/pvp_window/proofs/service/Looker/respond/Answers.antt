use Rattle.pvp_window.proofs.service.Looker.respond.Goals as goal

pub returns-in-Elsewhere : goal.returns-in-Elsewhere
returns-in-Elsewhere for c = rw c.in-Elsewhere.is c.refuse.ensures

pub returns-in-NotRead : goal.returns-in-NotRead
returns-in-NotRead for c = rw c.in-NotRead.is (rw c.from_static-reads.ensures at c.refuse_with.ensures)

pub returns-in-Preflight : goal.returns-in-Preflight
returns-in-Preflight for c = rw c.in-Preflight.is c.send_preflight.ensures

pub returns-in-Unknown : goal.returns-in-Unknown
returns-in-Unknown for c = rw c.in-Unknown.is (rw c.from_static-scheme.ensures at c.refuse_with-in-Unknown.ensures)

pub returns-in-Barred : goal.returns-in-Barred
returns-in-Barred for c = rw c.in-Barred.is c.refuse-in-Barred.ensures
