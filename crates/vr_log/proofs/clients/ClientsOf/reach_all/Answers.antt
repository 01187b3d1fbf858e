use Rattle.std.proofs.Common.{◌≡◌, ◌==◌, ℕ, ◌+◌, ◌<◌, ◌≤◌, Bool, true, false, Some, length, slice_get, refl, sym, ap, ◌∙◌, subst, List, arith}
use Rattle.std.proofs.lemmas.Bool.{eqb-true, eqb-false}
use Rattle.vr_types.specs.declared.row.RowOf.{RowOf}
use Rattle.vr_log.specs.declared.clients.ClientsOf.{ClientsOf}
use Rattle.vr_log.specs.Clients.{HavePlaces}
use Rattle.vr_log.proofs.clients.ClientsOf.reach_all.Goals as goal

-- the client of one row more has a place
one_more : {R C : Type 0} (old new : ClientsOf R) (from at : ℕ) (rows : List (RowOf C)) (row : RowOf C) → slice_get rows at ≡ Some row
    → row.client < length new.table.items → length old.table.items ≤ length new.table.items → HavePlaces old from at rows
    → HavePlaces new from (at + 1) rows
one_more {C = C} old new from at rows row is here grows so_far k other after before there = go (at == k) refl
  where
    some : (a b : RowOf C) → Some a ≡ Some b → a ≡ b
    some a b e = cc

    go : (b : Bool) → (at == k) ≡ b → other.client < length new.table.items
    go true e =
        let same = eqb-true at k e in
        subst (λ (r : RowOf C). r.client < length new.table.items) (some row other (sym is ∙ ap (slice_get rows) same ∙ there)) here
    go false e =
        let ne = eqb-false at k e in
        let low = so_far k other after (omega (arith, before, ne)) there in
        omega (arith, low, grows)

pub loop-at-preserved : goal.loop-at-preserved
loop-at-preserved g c = (
  λ q. c.in_ok-reach.ensures.known q ∙ c.loop-at.invariant.0 q,
  one_more c.loop-at.self c.reach.new.self c.args.from c.loop-at.at c.args.log.now c.row.result c.row.ensures
      c.in_ok-reach.ensures.there c.in_ok-reach.ensures.places c.loop-at.invariant.1,
)
