use Rattle.pvp_rooms.proofs.OneVerdict.{one_verdict, one_verdict_of_run}
use Rattle.pvp_parties.specs.Parties.{delivers, sent_envelopes, is_for}
use Rattle.pvp_audit.specs.Judged.{party}
use Rattle.pvp_audit.proofs.laws.one_verdict.Goals as goal

pub returns-clause-of_actors : goal.returns-clause-of_actors
returns-clause-of_actors c = λ closed order start. one_verdict party delivers sent_envelopes is_for closed start order

pub returns-clause-of_histories : goal.returns-clause-of_histories
returns-clause-of_histories c = λ closed order start. one_verdict_of_run party delivers sent_envelopes is_for closed start order
