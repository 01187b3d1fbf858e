-- Every view of a response that a recovering site keeps lies below one in which no running site has been yet; so does every
-- view in which rows were chosen.
use Rattle.std.proofs.Common.{◌≡◌, ℕ, ◌<◌, Bool, true, false, ◌==◌, List, length, count_by, refl, arith}
use Rattle.std.specs.Prelude.{Contains}
use Rattle.vr_types.specs.declared.event.Status.TheVariants.{Recovering}
use Rattle.vr_types.specs.declared.message.MsgOf.TheVariants.{RecoveryResponse}
use Rattle.vr_types.specs.declared.row.RowOf.{RowOf}
use Rattle.vr_types.specs.Group.{sites}
use Rattle.vr_types.specs.Site.{Response, is_running}
use Rattle.agreement.specs.Worlds.{World}
use Rattle.agreement.proofs.Quorums.{Both, quorums_meet}
use Rattle.agreement.proofs.CommittedRows.{Committed, none, chosen}
use Rattle.agreement.proofs.Prior.{chosen_within}
use Rattle.agreement.proofs.Elections.{IsElector, IsElected}
use Rattle.agreement.proofs.Votes.{answer_by}
use Rattle.agreement.proofs.Reached.{site_at, IsReached, first}

module _ {C R O : Type 0} (f w : ℕ) (v : World C R O) (is : IsReached f first v) (up : ℕ → Bool) (many : f < count_by up (sites f))
    (runs : (j : ℕ) → up j ≡ true → is_running (site_at v j).status ≡ true) (below : (j : ℕ) → up j ≡ true → (site_at v j).view < w) where
  -- each opened view is
  pub opened_below : (view : ℕ) → is.history.opened view ≡ true → view < w
  opened_below view o = by_first (view == 0) refl
    where
      some : Both up up
      some = quorums_meet f up up many many

      by_first : (b : Bool) → (view == 0) ≡ b → view < w
      by_first true e =
          let d : view ≡ 0 = grind (arith, e) in
          let h = below some.site some.first in
          omega arith
      by_first false e =
          let d : (view ≡ 0 → ⊥) = grind (arith, e) in
          let elected : IsElected f is.history view = is.holds.holds.elected view (omega arith) o in
          let both : Both up (is.history.electors view) = quorums_meet f up (is.history.electors view) many elected.many in
          let x : IsElector is.history view elected.last (length (is.history.opening view)) both.site = elected.each both.site both.second in
          let h =
          ((is.holds.holds.sites both.site).running (runs both.site both.first)).at_view.promised x.to
          (record { view = view; last_normal = x.u; done = x.k; rows = x.log; known = x.known }) x.voted in
          let l = below both.site both.first in
          omega arith

  -- so is that of each response
  pub responses_below : (j : ℕ) → (site_at v j).status ≡ Recovering → (a : Response C) → Contains (site_at v j).collected.responses a → a.view < w
  responses_below j recovering a in' =
      let kept = (is.holds.holds.sites j).responses (site_at v j).cell.boots (record { status = recovering; boots = refl }) a in' in
      opened_below a.view (is.holds.holds.said a.from j (RecoveryResponse (answer_by (site_at v j).cell.boots a)) kept.1).3.opened

  -- and what is committed is so in one of them
  pub committed_below : (top : ℕ) (rows : List (RowOf C)) → Committed f is.history top rows → (low : ℕ) × (low < w) × Committed f is.history low rows
  committed_below top rows (none e) = let b : Both up up = quorums_meet f up up many many in let h = below b.site b.first in (0, omega arith, none e)
  committed_below top rows (chosen view low c begins) =
      (view, opened_below view (chosen_within f is.history (site_at v) is.holds.holds view (length rows) c).opened, chosen view (omega arith) c begins)
