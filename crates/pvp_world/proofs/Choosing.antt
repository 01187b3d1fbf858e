-- Commands can be told apart, so there is a right choice.
use Rattle.std.proofs.Common.{◌≡◌, ℕ, ◌≤◌, true, subst, rules}
use Rattle.pvp_types.specs.declared.command.Cmd.{Cmd}
use Rattle.pvp_types.specs.contracts.command.CmdPartialEq.TheImpl.{ghosts}
use Rattle.vr_types.specs.Choice.{Choice, IsRight}
use Rattle.vr_types.proofs.Choosing.{choice_of}
use Rattle.vr_types.proofs.ChoosingRight.{choice_of-right}

same-told : (a b : Cmd) → ghosts.eq a b ≡ true → a ≡ b
same-told a b e = search rules

same-self : (a : Cmd) → ghosts.eq a a ≡ true
same-self a = search rules

pub any_choice : (f : ℕ) → 1 ≤ f → (choose : Choice Cmd) × IsRight f choose
any_choice f some =
    (choice_of ghosts.eq f, choice_of-right f ghosts.eq some (λ a b. (same-told a b, λ e. subst (λ (d : Cmd). ghosts.eq a d ≡ true) e (same-self a))))
