use Rattle.std.proofs.Common.{◌≡◌, Err, refl, sym, subst}
use Rattle.pvp_rooms.specs.declared.site.CameOf.TheVariants.{Did}
use Rattle.pvp_rooms.specs.Sites.{Comes, Shows, after}
use Rattle.pvp_rooms.proofs.SiteSteps.{did, fell, fell_by_cause, opens_kept}
use Rattle.pvp_rooms.proofs.site.ReplicaActor.take.Goals as goal

pub returns-in-Err-clause-step : goal.returns-in-Err-clause-step
returns-in-Err-clause-step g c = λ x shows.
    let m = g.M.Machine in
    let k = g.C.BootCell in
    fell m k c.args.self.now c.handle.new.self x c.args.event shows c.handle.ensures.place c.in-Err.why c.in-Err.ensures.handles c.in_default.ensures
    c.boot.result c.boot.ensures

pub returns-in-Ok-clause-step : goal.returns-in-Ok-clause-step
returns-in-Ok-clause-step g c = λ x shows.
    let m = g.M.Machine in
    let k = g.C.BootCell in
    subst (λ sent. Comes m x c.args.event (Did sent c.in-Ok.out.dropped) × Shows m k c.handle.new.self (after x c.args.event (Did sent c.in-Ok.out.dropped)))
    (sym c.new.ensures) (did m k c.args.self.now c.handle.new.self x c.args.event shows c.handle.ensures.place c.in-Ok.out c.in-Ok.ensures.handles)

pub returns-in-Ok-clause-opens : goal.returns-in-Ok-clause-opens
returns-in-Ok-clause-opens g c = λ boot x opens.
    opens_kept g.M.Machine g.C.BootCell c.args.self.now c.handle.new.self boot x c.handle.ensures.place opens

pub returns-in-Err-clause-told : goal.returns-in-Err-clause-told
returns-in-Err-clause-told g c =
    let m = g.M.Machine in
    let k = g.C.BootCell in
    fell_by_cause m k c.args.self.now c.handle.new.self c.args.event c.in-Err.why (Err c.in-Err.why) refl c.handle.ensures.place c.in-Err.ensures.handles
    c.in_default.ensures c.in-Err.ensures.crash c.in-Err.ensures.cause c.in-Err.ensures.counted

pub returns-in-Ok-clause-told : goal.returns-in-Ok-clause-told
returns-in-Ok-clause-told g c = c.in-Ok.ensures.counted (λ is. cc)
