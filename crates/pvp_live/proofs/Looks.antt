-- Looks at the sites of actors, one after another.
use Rattle.std.proofs.Common.{◌≡◌, ℕ, ◌+◌, Bool, true, false, List, [], ◌∷◌, ◌++◌, length, take, slice_get, Option, Some, if◌then◌else◌, sym, ap, ◌∙◌, subst}
use Rattle.std.specs.List.{All, filter}
use Rattle.std.proofs.lemmas.List.{append-nil, length-append}
use Rattle.std.proofs.lemmas.List.Elements.{All-append, All-cons, All-nil, filter-append}
use Rattle.vr_types.proofs.Lists.{take_next}
use Rattle.vr_types.specs.declared.cell.BootCell.{Ghosts as Cell}
use Rattle.vr_types.specs.Actors.{is_site}
use Rattle.pvp_rooms.specs.Seats.{Place}
use Rattle.pvp_live.specs.declared.sighting.Sighting.{Sighting}
use Rattle.pvp_live.specs.Sightings.{AreLooks, IsLook}

abbrev sites : List Place → List Place
sites cells = filter (λ cell. is_site cell.number) cells

-- an actor more
sites-more : (cells : List Place) (i : ℕ) (cell : Place) → slice_get cells i ≡ Some cell
    → sites (take (i + 1) cells) ≡ sites (take i cells) ++ (if is_site cell.number then cell ∷ [] else [])
sites-more cells i cell there = ap sites (take_next cells i cell there) ∙ filter-append (λ cell. is_site cell.number) (take i cells) (cell ∷ [])

-- which is a site that was looked at
pub looks-more : {B : Type 0} (c : Cell B) (cells : List Place) (looks more : List (Option Sighting)) (i : ℕ) (cell : Place) (look : Option Sighting)
    → slice_get cells i ≡ Some cell
    → is_site cell.number ≡ true → IsLook c look → more ≡ looks ++ look ∷ [] → AreLooks c (take i cells) looks → AreLooks c (take (i + 1) cells) more
looks-more c cells looks more i cell look there site seen is before =
    let grown : sites (take (i + 1) cells) ≡ sites (take i cells) ++ cell ∷ [] =
    sites-more cells i cell there ∙ ap (λ (b : Bool). sites (take i cells) ++ (if b then cell ∷ [] else [])) site in
    let long = ap length grown ∙ length-append (sites (take i cells)) (cell ∷ []) in
    let longer = ap length is ∙ length-append looks (look ∷ []) in
    let count = before.count in
    record {
      count = longer ∙ ap (λ n. n + 1) count ∙ sym long;
      each =
          subst (λ all. All (IsLook c) all) (sym is) (All-append (IsLook c) looks (look ∷ []) before.each
          (All-cons (IsLook c) look [] seen (All-nil (IsLook c))));
    }

-- which is no site
pub looks-same : {B : Type 0} (c : Cell B) (cells : List Place) (looks more : List (Option Sighting)) (i : ℕ) (cell : Place) → slice_get cells i ≡ Some cell
    → is_site cell.number ≡ false → more ≡ looks → AreLooks c (take i cells) looks → AreLooks c (take (i + 1) cells) more
looks-same c cells looks more i cell there other is before =
    let same : sites (take (i + 1) cells) ≡ sites (take i cells) =
    sites-more cells i cell there ∙ ap (λ (b : Bool). sites (take i cells) ++ (if b then cell ∷ [] else [])) other ∙ append-nil (sites (take i cells)) in
    subst (λ all. AreLooks c (take (i + 1) cells) all) (sym is) (record { count = before.count ∙ sym (ap length same); each = before.each })
