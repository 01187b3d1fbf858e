use Rattle.std.proofs.Common.{◌≡◌, ◌+◌, true, false, length, refl, sym, ap, ◌∙◌, eqb-true, arith}
use Rattle.std.proofs.lemmas.Bool.{eq-eqb}
use Rattle.std.proofs.lemmas.List.{take_all}
use Rattle.std.proofs.lemmas.Option.{slice_get_read, slice_get_within}
use Rattle.pvp_audit.specs.Judged.{openings}
use Rattle.headline.proofs.Basics.{none-some}
use Rattle.pvp_audit.proofs.Furthers.{counted_next, counted_same, far_next}
use Rattle.pvp_audit.proofs.fitting.sites_are_numbered.Goals as goal

pub loop-k-preserved-in_default : goal.loop-k-preserved-in_default
loop-k-preserved-in_default c =
    let closed = c.args.closed.now in
    let k = c.loop-k.k in
    let one = c.index-closed-k.result in
    let is = slice_get_read closed (length closed) k one refl c.loop-k-test.true c.index-closed-k.is in
    let few = c.loop-k.invariant.few in
    record {
      counted = c.loop-k.invariant.counted ∙ sym (counted_same closed k one is c.in_default.is);
      few = omega (arith, few);
      far = far_next closed k one is c.loop-k.invariant.far (λ boot opened. absurd (none-some boot (sym c.in_default.is ∙ opened)));
    }

pub loop-k-preserved : goal.loop-k-preserved
loop-k-preserved c =
    let closed = c.args.closed.now in
    let k = c.loop-k.k in
    let one = c.index-closed-k.result in
    let is = slice_get_read closed (length closed) k one refl c.loop-k-test.true c.index-closed-k.is in
    let few = c.loop-k.invariant.few in
    record {
      counted = ap (λ n. n + 1) c.loop-k.invariant.counted ∙ sym (counted_next closed k one c.in-Some._boot is c.in-Some.is);
      few = omega (arith, few);
      far =
          far_next closed k one is c.loop-k.invariant.far (λ boot opened. c.is_site.ensures.0 c.if-not-is_site.false
          ∙ ap (λ n. 200 + n) c.loop-k.invariant.counted);
    }

pub returns-then-not-is_site : goal.returns-then-not-is_site
returns-then-not-is_site c = (
  λ e. let clash : false ≡ true = e in cc,
  λ its.
      let closed = c.args.closed.now in
      let k = c.loop-k.k in
      let one = c.index-closed-k.result in
      let is = slice_get_read closed (length closed) k one refl c.loop-k-test.true c.index-closed-k.is in
      let number = its.numbered k one c.in-Some._boot is c.in-Some.is ∙ ap (λ n. 200 + n) (sym c.loop-k.invariant.counted) in
      let found = c.is_site.ensures.1 number in
      cc,
)

pub returns : goal.returns
returns c =
    let closed = c.args.closed.now in
    let counted : c.loop-k.sites ≡ length (openings closed) =
    c.loop-k.invariant.counted ∙ ap (λ l. length (openings l)) (take_all c.loop-k.k closed (omega (arith, c.loop-k-test.false))) in (
      λ e. record {
        all = omega (arith, counted, eqb-true c.loop-k.sites c.from.result e, c.from.ensures, c.faults.ensures.faults);
        numbered =
            λ j d boot there opened. c.loop-k.invariant.far j d boot (omega (arith, slice_get_within closed j d there, c.loop-k-test.false)) there opened;
      },
      λ its. eq-eqb c.loop-k.sites c.from.result (omega (arith, counted, its.all, c.from.ensures, c.faults.ensures.faults)),
    )
