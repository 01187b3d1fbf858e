use Rattle.pvp_links.proofs.Lasts.{front-lasts, caller-lasts, hello-lasts}
use Rattle.pvp_links.proofs.laws.lasts.Goals as goal

pub returns-clause-front : goal.returns-clause-front
returns-clause-front c = front-lasts

pub returns-clause-caller : goal.returns-clause-caller
returns-clause-caller c = caller-lasts

pub returns-clause-hello : goal.returns-clause-hello
returns-clause-hello c = hello-lasts
