use Rattle.std.proofs.Common.{◌≡◌, true, false, length, refl, arith}
use Rattle.std.proofs.lemmas.Option.{slice_get_read, slice_get_within}
use Rattle.pvp_audit.specs.Banked.{IsOfBank}
use Rattle.pvp_rooms.proofs.Looks.{below_place}
use Rattle.pvp_audit.proofs.fitting.are_of_bank.Goals as goal

pub loop-k-preserved : goal.loop-k-preserved
loop-k-preserved c =
    let closed = c.args.closed.now in
    let k = c.loop-k.k in
    let one = c.index-closed-k.result in
    below_place (λ j d. IsOfBank c.args.setup.now d) closed k one (slice_get_read closed (length closed) k one refl c.loop-k-test.true c.index-closed-k.is)
    c.loop-k.invariant (c.is_of_bank.ensures.0 c.if-not-is_of_bank.false)

pub returns-then-not-is_of_bank : goal.returns-then-not-is_of_bank
returns-then-not-is_of_bank c = (
  λ e. let clash : false ≡ true = e in cc,
  λ all.
      let closed = c.args.closed.now in
      let k = c.loop-k.k in
      let one = c.index-closed-k.result in
      let found = c.is_of_bank.ensures.1 (all k one (slice_get_read closed (length closed) k one refl c.loop-k-test.true c.index-closed-k.is)) in
      cc,
)

pub returns : goal.returns
returns c = (
  λ _ j d there. (let low = slice_get_within c.args.closed.now j d there in c.loop-k.invariant j d there (omega (arith, low, c.loop-k-test.false))),
  λ _. refl,
)
