use Rattle.pvp_links.proofs.Again.{frame-again-there, ping-again-there, caller-again-there, hello-again-there}
use Rattle.pvp_links.proofs.laws.put_is_found.Goals as goal

pub returns-clause-frame : goal.returns-clause-frame
returns-clause-frame c = frame-again-there

pub returns-clause-ping : goal.returns-clause-ping
returns-clause-ping c = ping-again-there

pub returns-clause-caller : goal.returns-clause-caller
returns-clause-caller c = caller-again-there

pub returns-clause-hello : goal.returns-clause-hello
returns-clause-hello c = hello-again-there
