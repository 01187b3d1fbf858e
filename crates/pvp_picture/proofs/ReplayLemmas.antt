-- One more site stands somewhere, and one more step is taken again.
use Rattle.std.proofs.Common.{◌≡◌, ℕ, zero, suc, ◌+◌, ◌<◌, length, get_or, take, List, [], ◌∷◌, ◌++◌, refl, sym, ap, ◌∙◌, subst, arith, add-one}
use Rattle.std.specs.List.{filter_map, range_with_len}
use Rattle.std.specs.Prelude.{Option, map}
use Rattle.std.proofs.lemmas.List.{map-append, take_more}
use Rattle.std.proofs.lemmas.List.Elements.{filter_map-append}
use Rattle.vr_types.specs.declared.cell.MemCell.{MemCell}
use Rattle.pvp_world.specs.World.{ShownWorld}
use Rattle.pvp_trace.specs.declared.attempt.Attempt.{Attempt}
use Rattle.pvp_picture.specs.declared.scene.Snapshot.{Snapshot}
use Rattle.pvp_picture.specs.Replay.{ComesAgain, snapshots_of, Replays, StandUpTo}

-- the numbers from the first on, and one more
range-more : (a n j : ℕ) → a + n ≡ j → range_with_len a (suc n) ≡ range_with_len a n ++ j ∷ []
range-more a zero j is = ap (λ k. k ∷ []) (omega arith)
range-more a (suc n) j is = ap (λ ks. a ∷ ks) (range-more (a + 1) n j (omega arith))

-- what is found of one more number
pub found_more : {X : Type 0} (f : ℕ → Option X) (n : ℕ) → filter_map f (range_with_len 0 (n + 1)) ≡ filter_map f (range_with_len 0 n) ++ filter_map f (n ∷ [])
found_more f n =
    ap (λ k. filter_map f (range_with_len 0 k)) (add-one n) ∙ ap (filter_map f) (range-more 0 n n (omega arith))
    ∙ filter_map-append f (range_with_len 0 n) (n ∷ [])

-- one more attempt came out as it did
replays-more : (first mid last : ShownWorld MemCell) (attempts : List Attempt) (attempt : Attempt) (after : List (List Snapshot))
    → Replays first attempts mid after → ComesAgain mid last attempt
    → Replays first (attempts ++ attempt ∷ []) last (after ++ snapshots_of last ∷ [])
replays-more first mid last [] attempt after (is, none) tried =
    (last, subst (λ world. ComesAgain world last attempt) is tried, [], ap (λ before. before ++ snapshots_of last ∷ []) none, (refl, refl))
replays-more first mid last (a ∷ attempts) attempt after (next, came, others, is, run) tried =
    (next, came, others ++ snapshots_of last ∷ [], ap (λ all. all ++ snapshots_of last ∷ []) is, replays-more next mid last attempts attempt others run tried)

-- the snapshots after one more attempt are added
pub stand_more : {V : Type 0} (items : V → List Snapshot) (first mid last : ShownWorld MemCell) (noted : List Attempt) (i : ℕ) (d : Attempt)
    (all more : List V) (v : V)
    → i < length noted → more ≡ all ++ v ∷ [] → items v ≡ snapshots_of last → ComesAgain mid last (get_or noted i d)
    → StandUpTo first (take i noted) mid (map items all) → StandUpTo first (take (i + 1) noted) last (map items more)
stand_more items first mid last noted i d all more v within pushed is came (after, whole, run) = (
  after ++ snapshots_of last ∷ [],
  ap (map items) pushed ∙ map-append items all (v ∷ []) ∙ ap (λ s. map items all ++ s ∷ []) is ∙ ap (λ before. before ++ snapshots_of last ∷ []) whole,
  subst (λ attempts. Replays first attempts last (after ++ snapshots_of last ∷ [])) (sym (take_more noted i d within))
      (replays-more first mid last (take i noted) (get_or noted i d) after run came),
)
