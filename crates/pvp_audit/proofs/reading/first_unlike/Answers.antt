use Rattle.std.proofs.Common.{◌≡◌, true, false, length, refl, sym, ◌∙◌, arith}
use Rattle.std.proofs.lemmas.Option.{slice_get_read, slice_get_within}
use Rattle.pvp_rooms.proofs.Looks.{below_place}
use Rattle.pvp_audit.specs.Judged.{ReadsWorld}
use Rattle.pvp_audit.proofs.reading.first_unlike.Goals as goal

pub returns-then-not-reads_world-clause-some : goal.returns-then-not-reads_world-clause-some
returns-then-not-reads_world-clause-some c =
    let closed = c.args.closed.now in
    let one = c.index-closed-k.result in
    record {
      who = one;
      is = slice_get_read closed (length closed) c.loop-k.k one refl c.loop-k-test.true c.index-closed-k.is;
      before = c.loop-k.invariant;
      unlike = λ reads. (let clash : true ≡ false = sym (c.reads_world.ensures.1 reads) ∙ c.if-not-reads_world.true in cc);
    }

pub loop-k-preserved : goal.loop-k-preserved
loop-k-preserved c =
    let closed = c.args.closed.now in
    let one = c.index-closed-k.result in
    below_place (λ j d. ReadsWorld c.args.world.now d.number d.end) closed c.loop-k.k one
    (slice_get_read closed (length closed) c.loop-k.k one refl c.loop-k-test.true c.index-closed-k.is)
    c.loop-k.invariant (c.reads_world.ensures.0 c.if-not-reads_world.false)

pub returns-clause-none : goal.returns-clause-none
returns-clause-none c = λ j d is. (let w = slice_get_within c.args.closed.now j d is in c.loop-k.invariant j d is (omega (arith, w, c.loop-k-test.false)))
