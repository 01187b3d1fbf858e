use Rattle.std.proofs.Common.{refl}
use Rattle.pvp_audit.proofs.Openings.{open_alike}
use Rattle.pvp_audit.proofs.opened.closed_of.Goals as goal

pub returns-clause-left : goal.returns-clause-left
returns-clause-left c =
    let history = c.args.history in
    let filled = c.in_ok-fill_in.ensures in
    record {
      number = refl;
      opening = refl;
      events = filled.events;
      filled = λ x opens.
          filled.filled x (c.in_ok-again.ensures.opens x
          (open_alike c.args.setup.now history.actor history.opening c.in_ok-end.end c.in_ok-again.again c.in_ok-end.ensures.bank c.in_ok-again.ensures.bank
          x opens));
    }
