-- New cells, one after another.
use Rattle.std.proofs.Common.{◌≡◌, ◌⊎◌, inl, inr, ℕ, zero, suc, ◌+◌, ◌-◌, ◌==◌, if◌then◌else◌, List, [], ◌∷◌, ◌++◌, length, Option, Some, None, option_map, refl, ap, sym, ◌∙◌, subst}
use Rattle.std.proofs.lemmas.List.{map-append, replicate-append-replicate}
use Rattle.std.proofs.lemmas.Option.{slice_get-map}
use Rattle.std.specs.Prelude.{map, replicate, slice_get, option_and_then}
use Rattle.pvp_types.specs.declared.setup.Setup.{Setup}
use Rattle.pvp_types.specs.declared.command.Cmd.{Cmd}
use Rattle.vr_types.specs.declared.cell.MemCell.{MemCell}
use Rattle.vr_types.specs.contracts.cell.MemCellBootCell.TheImpl.{ghosts as memory}
use Rattle.vr_types.specs.Cell.{new_cell}
use Rattle.vr_types.specs.MemoryCell.{held_by, faults_of, saves_before_fault, keeps_at_fault, IsReliable}
use Rattle.vr_site.specs.Replica.{ShownSite}
use Rattle.headline.proofs.Basics.{none-some, some-same}
use Rattle.pvp_world.specs.World.{ShownWorld}
use Rattle.pvp_world.specs.Steps.{AreReliable}
use Rattle.pvp_play.specs.declared.cells.Fail.{Fail}
use Rattle.pvp_play.specs.Cells.{fail_of, before_fault, IsArmed}

-- a cell more
replicate-more : {X : Type 0} (n : ℕ) (x : X) → replicate (n + 1) x ≡ replicate n x ++ x ∷ []
replicate-more n x = sym (replicate-append-replicate n 1 x)

pub cells-more : (cells more : List MemCell) (n : ℕ) (cell : MemCell) → more ≡ cells ++ cell ∷ [] → held_by cell ≡ new_cell
    → map held_by cells ≡ replicate n new_cell → map held_by more ≡ replicate (n + 1) new_cell
cells-more cells more n cell pushed new before =
    ap (map held_by) pushed ∙ map-append held_by cells (cell ∷ []) ∙ ap (λ hs. hs ++ held_by cell ∷ []) before
    ∙ ap (λ h. replicate n new_cell ++ h ∷ []) new ∙ sym (replicate-more n new_cell)

-- what stands at a place of a list with one more at its end: that, or what stood there
at-end : {X : Type 0} (xs : List X) (x : X) (i : ℕ) (y : X) → slice_get (xs ++ x ∷ []) i ≡ Some y → ((i ≡ length xs) × (x ≡ y)) ⊎ (slice_get xs i ≡ Some y)
at-end [] x zero y e = inl (refl, some-same x y e)
at-end [] x (suc i) y e = absurd (none-some y e)
at-end (z ∷ xs) x zero y e = inr e
at-end (z ∷ xs) x (suc i) y e = by (at-end xs x i y e)
  where
    by : ((i ≡ length xs) × (x ≡ y)) ⊎ (slice_get xs i ≡ Some y) → ((suc i ≡ suc (length xs)) × (x ≡ y)) ⊎ (slice_get xs i ≡ Some y)
    by (inl h) = inl (ap (λ n. suc n) h.0, h.1)
    by (inr h) = inr h

pub armed-none : (fails : List Fail) (cells : List MemCell) → cells ≡ [] → (i : ℕ) (cell : MemCell) → slice_get cells i ≡ Some cell → IsArmed fails i cell
armed-none fails cells none i cell at = absurd (none-some cell (sym (ap (λ cs. slice_get cs i) none) ∙ at))

pub armed-more : (fails : List Fail) (cells more : List MemCell) (n : ℕ) (cell : MemCell) → more ≡ cells ++ cell ∷ [] → length cells ≡ n → IsArmed fails n cell
    → ((i : ℕ) (c : MemCell) → slice_get cells i ≡ Some c → IsArmed fails i c)
    → (i : ℕ) (c : MemCell) → slice_get more i ≡ Some c → IsArmed fails i c
armed-more fails cells more n cell pushed count armed all i c at = by (at-end cells cell i c (sym (ap (λ cs. slice_get cs i) pushed) ∙ at))
  where
    by : ((i ≡ length cells) × (cell ≡ c)) ⊎ (slice_get cells i ≡ Some c) → IsArmed fails i c
    by (inl h) = subst (λ (d : MemCell). IsArmed fails i d) h.1 (subst (λ k. IsArmed fails k cell) (sym (h.0 ∙ count)) armed)
    by (inr h) = all i c h

-- how many saves come before the one of this number
abbrev pub before_at : ℕ → Option ℕ
before_at n = if n == 0 then None else Some (n - 1)

pub armed-so : (fails : List Fail) (i : ℕ) (fail : Fail) (cell : MemCell) → fail_of fails i ≡ Some fail → held_by cell ≡ new_cell → faults_of cell ≡ 0
    → saves_before_fault cell ≡ before_at fail.at → keeps_at_fault cell ≡ fail.keep → IsArmed fails i cell
armed-so fails i fail cell is held failures before keeps = record {
  held = held;
  failures = failures;
  before = before ∙ sym (ap (λ (f : Option Fail). option_and_then before_fault f) is);
  keeps = λ other e. keeps ∙ ap (λ (f : Fail). f.keep) (some-same fail other (sym is ∙ e));
}

pub armed-not : (fails : List Fail) (i : ℕ) (cell : MemCell) → fail_of fails i ≡ None → held_by cell ≡ new_cell → faults_of cell ≡ 0 → IsReliable cell
    → IsArmed fails i cell
armed-not fails i cell is held failures reliable = record {
  held = held;
  failures = failures;
  before = reliable ∙ sym (ap (λ (f : Option Fail). option_and_then before_fault f) is);
  keeps = λ other e. absurd (none-some other (sym is ∙ e));
}

-- where none is to fail, the cells of a world are reliable
pub all-reliable : (fails : List Fail) (world : ShownWorld MemCell)
    → ((i : ℕ) (v : ShownSite Cmd Setup MemCell) → slice_get world.sites i ≡ Some v → IsArmed fails i v.cell)
    → fails ≡ [] → AreReliable memory world
all-reliable fails world armed none i v at = (armed i v at).before ∙ ap (λ fs. option_and_then before_fault (fail_of fs i)) none

-- the cells that a world was made over
pub armed-sites : (fails : List Fail) (cells : List MemCell) (sites : List (ShownSite Cmd Setup MemCell)) → map (λ site. site.cell) sites ≡ cells
    → ((i : ℕ) (cell : MemCell) → slice_get cells i ≡ Some cell → IsArmed fails i cell)
    → (i : ℕ) (v : ShownSite Cmd Setup MemCell) → slice_get sites i ≡ Some v → IsArmed fails i v.cell
armed-sites fails cells sites are all i v at =
    all i v.cell (sym (ap (λ cs. slice_get cs i) are) ∙ slice_get-map (λ (site : ShownSite Cmd Setup MemCell). site.cell) sites i
    ∙ ap (option_map (λ (site : ShownSite Cmd Setup MemCell). site.cell)) at)
