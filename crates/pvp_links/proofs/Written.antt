-- What a writer does with a frame, and with one frame more.
use Rattle.std.proofs.Common.{◌≡◌, ◌≢◌, ◌⊎◌, inl, inr, ℕ, ◌-◌, ◌<◌, ◌≤◌, ◌==◌, Bool, false, List, [], ◌∷◌, ◌++◌, Option, Some, length, take, set, get_or, slice_get, slice_set, eqb-true, Result, Ok, Err, true≢false, refl, sym, ap, ◌∙◌, subst, arith}
use Rattle.std.specs.List.{swap_remove}
use Rattle.std.specs.Prelude.{IsPermutation, OnOk}
use Rattle.std.specs.Result.{is_err}
use Rattle.std.proofs.Math.Nat.{eq-or-lt_of_le}
use Rattle.std.proofs.lemmas.List.{take-set-le, get_or-set_other, set-set, length-set, get_or_default}
use Rattle.std.proofs.lemmas.List.Quantifiers.{position-Some}
use Rattle.std.proofs.lemmas.List.Sorted.{IsPermutation-swap_remove}
use Rattle.std.proofs.lemmas.Option.{slice_get_within, get_or_from_slice_get}
use Rattle.pvp_wire.specs.declared.stamped.Stamped.{Stamped}
use Rattle.pvp_links.specs.declared.writer.Outgoing.{Outgoing}
use Rattle.pvp_links.specs.Writing.{place_of, IsClosed, Writes, AreWritten, HasWritten}

-- a call that did not fail
pub done_well : {T E P : Type 0} (r : Result T E) → is_err r ≡ false → OnOk r P → P
done_well (Ok x) is p = p
done_well (Err e) is p = absurd (true≢false is)

module _ {X : Type 0} where
  swapped : (xs : List X) (i : ℕ) (x y : X) → i < length xs → (i ≡ length xs - 1) ⊎ (i < length xs - 1) → swap_remove (set xs i y) i y ≡ swap_remove xs i x
  swapped xs i x y within (inl e) =
      let n = length xs - 1 in
      let low : n ≤ i = omega (arith, e) in
      ap (λ m. take (m - 1) (set (set xs i y) i (get_or (set xs i y) (m - 1) y))) (length-set xs i y)
      ∙ take-set-le n (set xs i y) i (get_or (set xs i y) n y) low ∙ take-set-le n xs i y low ∙ sym (take-set-le n xs i (get_or xs n x) low)
  swapped xs i x y within (inr l) =
      let n = length xs - 1 in
      let other : n ≢ i = λ e. omega (arith, e, l) in
      let inside : n < length xs = omega (arith, within) in
      ap (λ m. take (m - 1) (set (set xs i y) i (get_or (set xs i y) (m - 1) y))) (length-set xs i y)
      ∙ ap (take n) (set-set xs i y (get_or (set xs i y) n y) ∙ ap (set xs i) (get_or-set_other xs i n y y other ∙ get_or_default xs n y x inside))

  -- an element that was changed and is then taken out leaves what is left where it was not changed
  pub swap_after_set : (xs : List X) (i : ℕ) (x y : X) → i < length xs → swap_remove (set xs i y) i y ≡ swap_remove xs i x
  swap_after_set xs i x y within = let low : i ≤ length xs - 1 = omega (arith, within) in swapped xs i x y within (eq-or-lt_of_le low)

module _ {W : Type 0} where
  -- the stream of a receiver was written to, and then closed
  pub closed_after : (frame : Stamped) (old new : List (Outgoing W)) (at : ℕ) (out taken : Outgoing W) → place_of old frame.envelope.to ≡ Some at
      → slice_get old at ≡ Some out
      → new ≡ swap_remove (slice_set old at taken) at taken → IsClosed frame old new
  closed_after frame old new at out taken place there is =
      let within = slice_get_within old at out there in
      let read : out ≡ get_or old at out = sym (get_or_from_slice_get old at out out there) in
      let found = position-Some (λ (o : Outgoing W). o.to == frame.envelope.to) old at out place in
      record {
        closed = out;
        receiver = ap (λ (o : Outgoing W). o.to) read ∙ eqb-true (get_or old at out).to frame.envelope.to found.1;
        others =
            subst (λ (l : List (Outgoing W)). IsPermutation old (out ∷ l)) (sym (is ∙ swap_after_set old at out taken within))
            (IsPermutation-swap_remove old at out within read);
      }

  -- one frame more
  written_more : (contents : W → Option (List ℕ)) (frames : List Stamped) (frame : Stamped) (whole : Bool) (old mid new : List (Outgoing W))
      → AreWritten contents frames old mid → Writes contents frame mid new whole → AreWritten contents (frames ++ frame ∷ []) old new
  written_more contents [] frame whole old mid new same writes =
      (new, whole, subst (λ (l : List (Outgoing W)). Writes contents frame l new whole) same writes, refl)
  written_more contents (first ∷ frames) frame whole old mid new written writes =
      (written.0, written.1, written.2, written_more contents frames frame whole written.0 mid new written.3 writes)

  pub has_written_more : (contents : W → Option (List ℕ)) (frame : Stamped) (whole : Bool) (old mid new : List (Outgoing W))
      → HasWritten contents old mid → Writes contents frame mid new whole → HasWritten contents old new
  has_written_more contents frame whole old mid new before writes =
      record { frames = before.frames ++ frame ∷ []; written = written_more contents before.frames frame whole old mid new before.written writes }

  pub has_written_none : (contents : W → Option (List ℕ)) (streams : List (Outgoing W)) → HasWritten contents streams streams
  has_written_none contents streams = record { frames = []; written = refl }
