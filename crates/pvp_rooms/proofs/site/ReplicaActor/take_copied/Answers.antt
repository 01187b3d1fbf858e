use Rattle.std.proofs.Common.{◌≡◌, sym, subst}
use Rattle.pvp_rooms.specs.Sites.{Comes, Shows, Tells, after}
use Rattle.pvp_rooms.proofs.SiteSteps.{fall_kept, fell_after, after_by_cause}
use Rattle.pvp_rooms.proofs.site.ReplicaActor.take_copied.Goals as goal

pub returns-in-Ok-clause-step : goal.returns-in-Ok-clause-step
returns-in-Ok-clause-step g c = λ x shows.
    let m = g.M.Machine in
    let k = g.C.BootCell in
    subst (λ came. Comes m x c.args.event came × Shows m k c.take-came.new.self (after x c.args.event came)) (sym c.in-Ok.ensures.answered)
    (c.take-came.ensures.step x shows)

pub returns-in-Err-clause-step : goal.returns-in-Err-clause-step
returns-in-Err-clause-step g c = λ x shows.
    let m = g.M.Machine in
    let k = g.C.BootCell in
    subst (λ came. Comes m x c.args.event came × Shows m k c.fall.new.self (after x c.args.event came)) (sym c.fall_copies.ensures.answered)
    (fell_after m k c.args.self.now c.take-came.new.self c.fall.new.self c.args.event c.fall.ensures c.boot.result c.take-came.result x c.boot.ensures
    c.in-Err.ensures.err (c.take-came.ensures.step x shows))

pub returns-in-Err-clause-opens : goal.returns-in-Err-clause-opens
returns-in-Err-clause-opens g c = λ boot x opens.
    c.take-came.ensures.opens boot x
    (fall_kept g.M.Machine g.C.BootCell c.args.self.now c.take-came.new.self c.fall.new.self c.args.event c.fall.ensures boot x opens)

pub returns-in-Ok-clause-told : goal.returns-in-Ok-clause-told
returns-in-Ok-clause-told g c =
    subst (Tells g.M.Machine g.C.BootCell c.args.self.now c.take-came.new.self c.args.event) (sym c.in-Ok.ensures.answered) c.take-came.ensures.told

pub returns-in-Err-clause-told : goal.returns-in-Err-clause-told
returns-in-Err-clause-told g c =
    let m = g.M.Machine in
    let k = g.C.BootCell in
    subst (Tells m k c.args.self.now c.fall.new.self c.args.event) (sym c.fall_copies.ensures.answered)
    (after_by_cause m k c.args.self.now c.take-came.new.self c.fall.new.self c.args.event c.fall.ensures c.take-came.result c.in-Err.ensures.err
    c.take-came.ensures.told c.take-came.ensures.step)
