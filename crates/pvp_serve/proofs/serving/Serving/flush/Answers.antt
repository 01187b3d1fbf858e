use Rattle.std.proofs.Common.{◌==◌, List, length, sym, ap, ◌∙◌, append-nil}
use Rattle.pvp_journal.specs.declared.room.Letter.{Letter}
use Rattle.pvp_parties.specs.declared.party.PartyOutcome.{PartyOutcome}
use Rattle.pvp_serve.proofs.Taking.{nothing-in}
use Rattle.pvp_serve.proofs.serving.Serving.flush.Goals as goal

pub returns-then-is_empty-clause-handed : goal.returns-then-is_empty-clause-handed
returns-then-is_empty-clause-handed g c = λ before heard.
    let letters = c.in_ok-written.written.letters in
    let none = ap (λ (l : List (Letter PartyOutcome)). length l == 0) (sym c.letters.ensures) ∙ sym c.is_empty.ensures ∙ c.if-is_empty.true in
    rw (c.into_letters.ensures, nothing-in letters.items none, append-nil before) heard

pub returns-then-is_empty-clause-written : goal.returns-then-is_empty-clause-written
returns-then-is_empty-clause-written g c = rw c.into_letters.ensures c.in_ok-written.ensures.written

pub returns-clause-written : goal.returns-clause-written
returns-clause-written g c = rw (c.hand_out.ensures.rest, c.into_letters-2.ensures) c.in_ok-written.ensures.written
