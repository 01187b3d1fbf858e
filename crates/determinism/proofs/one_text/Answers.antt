use Rattle.determinism.proofs.OneText.{one-text, one-trail}
use Rattle.determinism.proofs.one_text.Goals as goal

pub returns-clause-text : goal.returns-clause-text
returns-clause-text c = one-text

pub returns-clause-trail : goal.returns-clause-trail
returns-clause-trail c = one-trail
