-- Why the headline is said of any two moments. Two sites that executed different rows at one place break it there, and
-- once both have crashed nothing is left to see it by: of the last moment and any earlier one its clause `RowsAgree` would hold.
use Rattle.std.proofs.Common.{◌≡◌, ◌⊎◌, inl, inr, ℕ, [], ◌∷◌, slice_get, refl, sym, ap, ◌∙◌, arith}
use Rattle.std.specs.Prelude.{Contains}
use Rattle.pvp_types.specs.declared.command.Cmd.{Cmd}
use Rattle.pvp_types.specs.declared.command.Cmd.TheVariants.{Fund}
use Rattle.pvp_types.specs.declared.command.Reply.{Reply as Answer}
use Rattle.pvp_types.specs.declared.command.PayOrder.{PayOrder as PaymentOrder}
use Rattle.vr_types.specs.declared.event.EventOf.TheVariants.{Crash}
use Rattle.vr_types.specs.declared.event.Status.TheVariants.{Normal}
use Rattle.vr_types.specs.Cell.{new_cell}
use Rattle.vr_types.specs.Choice.{Choice}
use Rattle.vr_types.specs.Site.{Site, over, executed_rows}
use Rattle.vr_types.specs.Handling.{site_step}
use Rattle.vr_types.proofs.ChoosingPick.{Contains-here, Contains-there, Contains-cases, Contains-none}
use Rattle.agreement.specs.Promises.{Agree}
use Rattle.pvp_book.specs.Answer.{Row}
use Rattle.headline.specs.Bank.{Bank}
use Rattle.headline.specs.Headline.{RowsAgree}
use Rattle.headline.proofs.Basics.{none-some}

-- the first pay-in of a member, of this amount, as its node tells it
abbrev paid_in : ℕ → Row
paid_in amount = record { client = 101; number = 1; cmd = Fund 0 1 1 amount }

-- a site that is normal in view 0 and has executed this row
abbrev executed : Row → Site Cmd
executed row = record (over new_cell Normal) { log = row ∷ []; done = 1 }

-- two sites of one view, with different rows at place 1
abbrev parted : Bank
parted = record { sites = executed (paid_in 5) ∷ executed (paid_in 6) ∷ []; nodes = []; clients = []; post = [] }

module _ (choose : Choice Cmd) (f : ℕ) where
  crashed : ℕ → Site Cmd → Site Cmd
  crashed i x = (site_step {R = Answer} {O = PaymentOrder} choose f i x Crash).site

  -- the same once both have crashed
  fallen : Bank
  fallen = record parted { sites = crashed 0 (executed (paid_in 5)) ∷ crashed 1 (executed (paid_in 6)) ∷ [] }

  breaks : RowsAgree parted parted → ⊥
  breaks agree =
      let same = agree (executed (paid_in 5)) (executed (paid_in 6)) (Contains-here (executed (paid_in 5)) (executed (paid_in 6) ∷ []))
      (Contains-there (executed (paid_in 5)) (executed (paid_in 6)) (executed (paid_in 6) ∷ []) (Contains-here (executed (paid_in 6)) [])) 0
      (paid_in 5) (paid_in 6) refl refl in
      absurd (omega (arith, ap (λ (row : Row). amount_of row.cmd) same))
    where
      amount_of : Cmd → ℕ
      amount_of (Fund ccy number member amount) = amount
      amount_of _ = 0

  -- at the end nothing shows it
  hides : (early : Bank) → RowsAgree early fallen
  unfolding fallen crashed
  hides early x y in' there = by (Contains-cases (crashed 0 (executed (paid_in 5))) y (crashed 1 (executed (paid_in 6)) ∷ []) there)
    where
      none : (z : Site Cmd) → executed_rows z ≡ [] → z ≡ y → Agree (executed_rows x) (executed_rows y)
      none z nothing is n a b at at' = absurd (none-some b (sym (ap (λ rows. slice_get rows n) (ap executed_rows (sym is) ∙ nothing)) ∙ at'))

      by_last : (crashed 1 (executed (paid_in 6)) ≡ y) ⊎ Contains [] y → Agree (executed_rows x) (executed_rows y)
      by_last (inl is) = none (crashed 1 (executed (paid_in 6))) refl is
      by_last (inr last) = absurd (Contains-none y last)

      by : (crashed 0 (executed (paid_in 5)) ≡ y) ⊎ Contains (crashed 1 (executed (paid_in 6)) ∷ []) y → Agree (executed_rows x) (executed_rows y)
      by (inl is) = none (crashed 0 (executed (paid_in 5))) refl is
      by (inr more) = by_last (Contains-cases (crashed 1 (executed (paid_in 6))) y [] more)
