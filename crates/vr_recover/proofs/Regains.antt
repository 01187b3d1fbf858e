-- When a state is regained, of the responses as they are kept.
use Rattle.std.proofs.Common.{◌≡◌, ℕ, ◌<◌, ◌≤◌, ◌==◌, ◌&&◌, Bool, true, false, true≢false, List, count_by, Some, None, get_or, refl, sym, ap, ◌∙◌, subst, arith, eq-eqb, eqb→eq}
use Rattle.std.specs.Prelude.{All, Contains, Option}
use Rattle.std.specs.List.{list_any, position}
use Rattle.std.proofs.lemmas.List.Elements.{All-contains, All-map, Contains-get_or}
use Rattle.std.proofs.lemmas.List.Quantifiers.{position-Some}
use Rattle.vr_types.specs.declared.message.StateOf.{StateOf}
use Rattle.vr_types.specs.Choice.{Regained, IsRegained}
use Rattle.vr_types.specs.Group.{sites, primary}
use Rattle.vr_types.specs.Site.{Response, has_response}
use Rattle.vr_recover.specs.declared.recovering.ResponseOf.{ResponseOf}
use Rattle.vr_recover.specs.Recovering.{response_of, responses_of, IsOneEach}
use Rattle.vr_recover.proofs.Lists.{list_any-map, count_by-same, map-has, has-map, position-None}

-- who responded, as it is kept
abbrev pub senders_of : {C : Type 0} → ℕ → List (ResponseOf C) → ℕ
senders_of f kept = count_by (λ site. list_any (λ response. response.from == site) kept) (sites f)

pub senders-same : {C : Type 0} (f : ℕ) (kept : List (ResponseOf C)) → count_by (has_response (responses_of kept)) (sites f) ≡ senders_of f kept
senders-same {C} f kept = count_by-same _ _ (sites f) (λ j. list_any-map (λ (response : Response C). response.from == j) response_of kept)

module _ {C : Type 0} (f : ℕ) (kept : List (ResponseOf C)) (regained : Regained C) (h : IsRegained f (responses_of kept) regained) where
  pub regained_enough : f < senders_of f kept
  regained_enough = subst (λ n. f < n) (senders-same f kept) h.enough

  -- no response is of a later view
  pub regained_above : All (λ (response : ResponseOf C). response.view ≤ regained.view) kept
  regained_above = λ k d low. h.greatest (response_of _) (has-map response_of kept _ (Contains-get_or kept k d low))

  -- the primary's response
  pub regained_response : (response : ResponseOf C) × Contains kept response
      × (response_of response ≡ record { from = primary f regained.view; view = regained.view; state = Some regained.state; known = h.known })
  regained_response = map-has response_of kept _ h.answered

  -- its view is the least that is above all
  pub regained_view_is : (view : ℕ) → All (λ (response : ResponseOf C). response.view ≤ view) kept
      → ((v : ℕ) → All (λ (response : ResponseOf C). response.view ≤ v) kept → view ≤ v) → view ≡ regained.view
  regained_view_is view above least =
      let low = least regained.view regained_above in
      let there = regained_response in
      let high = All-contains (λ (response : ResponseOf C). response.view ≤ view) kept there.0 above there.1 in
      let same = ap (λ (r : Response C). r.view) there.2 in
      omega arith

-- the response is a site's of this view
abbrev pub is_of : {C : Type 0} → ℕ → ℕ → ResponseOf C → Bool
is_of from view response = (response.from == from) && (response.view == view)

both : (a b : Bool) → (a && b) ≡ true → (a ≡ true) × (b ≡ true)
both true b h = (refl, h)
both false b h = absurd (true≢false (sym h))

-- the primary's response of the view has a place
pub regained_place : {C : Type 0} (f : ℕ) (kept : List (ResponseOf C)) (regained : Regained C) (from view : ℕ) → from ≡ primary f view → view ≡ regained.view
    → position (is_of from view) kept ≡ None → IsRegained f (responses_of kept) regained → ⊥
regained_place f kept regained from view primary_is view_is none h =
    let there = regained_response f kept regained h in
    let r = there.0 in
    let fails : is_of from view r ≡ false = All-contains (λ x. is_of from view x ≡ false) kept r (position-None (is_of from view) kept none) there.1 in
    let sender : r.from ≡ from = ap (λ x. x.from) there.2 ∙ ap (primary f) (sym view_is) ∙ sym primary_is in
    let its_view : r.view ≡ view = ap (λ x. x.view) there.2 ∙ sym view_is in
    let passes : is_of from view r ≡ true = rw (eq-eqb _ _ sender, eq-eqb _ _ its_view) refl in
    absurd (true≢false (sym passes ∙ fails))

-- what stands at the place is the site's response of the view
found_is : {C : Type 0} (kept : List (ResponseOf C)) (from view at : ℕ) (item : ResponseOf C) → position (is_of from view) kept ≡ Some at
    → item ≡ get_or kept at item
    → Contains kept item × (item.from ≡ from) × (item.view ≡ view)
found_is kept from view at item some is =
    let there = position-Some (is_of from view) kept at item some in
    let tests = both (item.from == from) (item.view == view) (subst (λ x. is_of from view x ≡ true) (sym is) there.1) in
    (subst (Contains kept) (sym is) (Contains-get_or kept at item there.0), eqb→eq item.from from (rw tests.0 tt), eqb→eq item.view view (rw tests.1 tt))

-- that response has a state, where a state is regained
pub regained_has_state : {C : Type 0} (f : ℕ) (kept : List (ResponseOf C)) (regained : Regained C) (from view at : ℕ) (item : ResponseOf C) → IsOneEach kept
    → from ≡ primary f view → view ≡ regained.view → position (is_of from view) kept ≡ Some at → item ≡ get_or kept at item → item.state ≡ None
    → IsRegained f (responses_of kept) regained → ⊥
regained_has_state f kept regained from view at item one primary_is view_is some is none h =
    let there = regained_response f kept regained h in
    let r = there.0 in
    let found = found_is kept from view at item some is in
    let same : item.from ≡ r.from = found.1 ∙ primary_is ∙ ap (primary f) view_is ∙ sym (ap (λ x. x.from) there.2) in
    let alike = one (response_of item) (response_of r) (has-map response_of kept item found.0) (has-map response_of kept r there.1) same in
    let state = ap (λ x. x.state) alike ∙ ap (λ x. x.state) there.2 in
    absurd (cc)

-- the state that is found is regained
pub found_is_regained : {C : Type 0} (f : ℕ) (kept : List (ResponseOf C)) (from view at : ℕ) (item : ResponseOf C) (state : StateOf C)
    → f < count_by (has_response (responses_of kept)) (sites f) → All (λ (response : ResponseOf C). response.view ≤ view) kept
    → from ≡ primary f view → position (is_of from view) kept ≡ Some at → item ≡ get_or kept at item → item.state ≡ Some state
    → IsRegained f (responses_of kept) (record { view = view; state = state })
found_is_regained {C} f kept from view at item state enough above primary_is some is has =
    let found = found_is kept from view at item some is in
    let Answered : ℕ → ℕ → Option (StateOf C) → Type 0 = λ a b s. Contains (responses_of kept) (record { from = a; view = b; state = s; known = item.known }) in
    let mine : Answered item.from item.view item.state = has-map response_of kept item found.0 in
    record {
      enough = enough;
      greatest =
          λ response in'. All-contains (λ r. r.view ≤ view) (responses_of kept) response
          (All-map (λ (r : Response C). r.view ≤ view) response_of kept above) in';
      known = item.known;
      answered =
          subst (λ a. Answered a view (Some state)) (found.1 ∙ primary_is)
          (subst (λ b. Answered item.from b (Some state)) found.2 (subst (Answered item.from item.view) has mine));
    }
