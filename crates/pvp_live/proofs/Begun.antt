-- Sites that opened over new cells.
use Rattle.std.proofs.Common.{◌≡◌, ℕ, ◌+◌, ◌*◌, ◌&&◌, ◌++◌, Bool, true, List, [], ◌∷◌, Option, Some, None, length, replicate, option_to_list, eqb-true, zero, suc, refl, sym, ap, ◌∙◌}
use Rattle.std.specs.List.{list_all}
use Rattle.pvp_types.specs.declared.setup.Setup.{Setup}
use Rattle.pvp_types.specs.Setup.{faults}
use Rattle.vr_types.specs.declared.cell.Boot.{Boot}
use Rattle.vr_types.specs.Cell.{is_new, new_cell}
use Rattle.headline.proofs.Basics.{and_left, and_right}
use Rattle.pvp_audit.specs.Banked.{IsTheBank}
use Rattle.pvp_audit.specs.Judged.{Left, openings}
use Rattle.pvp_live.specs.Bank.{BeganNew, opened_new}

-- one actor's opening, before those of others
one_test : (opening : Option Boot) (more : List Boot) (rest : Bool) → rest ≡ list_all is_new more
    → (Rattle.std.specs.Option.option_map_or is_new opening true && rest) ≡ list_all is_new (option_to_list opening ++ more)
one_test None more rest same = same
one_test (Some boot) more rest same = ap (λ b. is_new boot && b) same

-- the test of actors is that of their openings
same_test : (closed : List Left) → list_all opened_new closed ≡ list_all is_new (openings closed)
same_test [] = refl
same_test (one ∷ more) = one_test one.opening (openings more) (list_all opened_new more) (same_test more)

all_new : (boots : List Boot) → list_all is_new boots ≡ true → boots ≡ replicate (length boots) new_cell
all_new [] all = refl
all_new (boot ∷ boots) all =
    let first : boot ≡ new_cell = ap (λ n. record { boots = n }) (eqb-true boot.boots 0 (and_left (is_new boot) (list_all is_new boots) all)) in
    ap (λ b. b ∷ boots) first ∙ ap (λ l. new_cell ∷ l) (all_new boots (and_right (is_new boot) (list_all is_new boots) all))

new_all : (n : ℕ) → list_all is_new (replicate n new_cell) ≡ true
new_all zero = refl
new_all (suc n) = new_all n

pub began : (setup : Setup) (closed : List Left) → list_all opened_new closed ≡ true → IsTheBank setup closed → BeganNew setup closed
began setup closed all bank =
    all_new (openings closed) (sym (same_test closed) ∙ all) ∙ ap (λ n. replicate n new_cell) bank.sites.all

pub began_back : (setup : Setup) (closed : List Left) → BeganNew setup closed → list_all opened_new closed ≡ true
began_back setup closed new = same_test closed ∙ ap (list_all is_new) new ∙ new_all (2 * faults setup + 1)
