-- Notes that are made one after another, and their text.
use Rattle.std.proofs.Common.{◌≡◌, ℕ, ◌+◌, ◌≤◌, List, [], ◌++◌, length, slice_get, Option, Some, None, refl, sym, ap, ◌∙◌, append_assoc, append-nil}
use Rattle.std.proofs.lemmas.List.{drop_all}
use Rattle.std.specs.List.{flat_map, enumerate_from}
use Rattle.vr_log.proofs.Rows.{drop_next}
use Rattle.pvp_types.specs.declared.setup.Setup.{Setup}
use Rattle.rtgs_node.specs.Node.{Envelope}
use Rattle.pvp_trace.specs.declared.attempt.Attempt.{Attempt}
use Rattle.pvp_play.specs.Notes.{with_notes, numbered_text, notes_text}

pub with_notes-none : (noted : Option (List Attempt)) → with_notes noted [] ≡ noted
with_notes-none None = refl
with_notes-none (Some before) = ap (λ attempts. Some attempts) (append-nil before)

pub with_notes-more : (noted : Option (List Attempt)) (attempts more : List Attempt)
    → with_notes (with_notes noted attempts) more ≡ with_notes noted (attempts ++ more)
with_notes-more None attempts more = refl
with_notes-more (Some before) attempts more = ap (λ all. Some all) (append_assoc before attempts more)

module _ (setup : Setup) (post : List Envelope) (noted : List Attempt) where
  -- the text of those after so many, where that place has one
  text-here : (n : ℕ) (a : Attempt) → slice_get noted n ≡ Some a
      → notes_text setup post n noted ≡ numbered_text setup post (n + 1, a) ++ notes_text setup post (n + 1) noted
  text-here n a here = ap (λ rest. flat_map (numbered_text setup post) (enumerate_from (n + 1) rest)) (drop_next noted n a here)

  -- one more was written
  pub notes-more : (n : ℕ) (a : Attempt) (new old start whole : List ℕ) → slice_get noted n ≡ Some a
      → new ≡ old ++ numbered_text setup post (n + 1, a) → old ++ notes_text setup post n noted ≡ start ++ whole
      → new ++ notes_text setup post (n + 1) noted ≡ start ++ whole
  notes-more n a new old start whole here written before =
      ap (λ t. t ++ notes_text setup post (n + 1) noted) written
      ∙ append_assoc old (numbered_text setup post (n + 1, a)) (notes_text setup post (n + 1) noted)
      ∙ ap (λ t. old ++ t) (sym (text-here n a here)) ∙ before
