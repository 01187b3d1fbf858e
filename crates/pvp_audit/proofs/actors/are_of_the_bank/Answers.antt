use Rattle.std.proofs.Common.{length, refl, sym, ◌∙◌, arith}
use Rattle.std.proofs.lemmas.Option.{slice_get_read, slice_get_within}
use Rattle.pvp_rooms.proofs.Looks.{below_place}
use Rattle.pvp_audit.specs.Actors.{IsOfPlace}
use Rattle.pvp_audit.proofs.actors.are_of_the_bank.Goals as goal

pub loop-k-preserved : goal.loop-k-preserved
loop-k-preserved c =
    let histories = c.args.histories.now in
    let k = c.loop-k.k in
    let one = c.index-histories-k.result in
    below_place (λ j h. IsOfPlace c.args.setup.now j h) histories k one
    (slice_get_read histories (length histories) k one refl c.loop-k-test.true c.index-histories-k.is) c.loop-k.invariant
    (record { actor = sym c.from.ensures ∙ c.if-from-actor_at.false ∙ c.actor_at.ensures; opening = sym c.is_actor.ensures ∙ c.if-not-is_actor.false })

pub returns : goal.returns
returns c = (
  λ _. record {
    all = c.if-histories-actor_count.false ∙ c.actor_count.ensures.count;
    each = λ j h there. (let low = slice_get_within c.args.histories.now j h there in c.loop-k.invariant j h there (omega (arith, low, c.loop-k-test.false)));
  },
  λ _. refl,
)
