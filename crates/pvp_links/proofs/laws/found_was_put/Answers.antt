use Rattle.pvp_links.proofs.Found.{frame-found, ping-found, hello-found}
use Rattle.pvp_links.proofs.laws.found_was_put.Goals as goal

pub returns-clause-frame : goal.returns-clause-frame
returns-clause-frame c = frame-found

pub returns-clause-ping : goal.returns-clause-ping
returns-clause-ping c = ping-found

pub returns-clause-hello : goal.returns-clause-hello
returns-clause-hello c = hello-found
