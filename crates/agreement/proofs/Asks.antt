-- A recovering site keeps the answer of a normal one, and regains the state of the view when it can.
use Rattle.std.proofs.Common.{◌≡◌, ◌⊎◌, inl, inr, ℕ, ◌<◌, ◌≤◌, Bool, true, false, not, ◌&&◌, ◌||◌, ◌==◌, nat_le, List, [], ◌∷◌, length, Option, Some, None, count_by, refl, sym, ap, ◌∙◌, subst, arith, true≢false}
use Rattle.std.specs.Prelude.{Contains, MatchOption}
use Rattle.std.specs.List.{filter}
use Rattle.std.proofs.lemmas.Bool.{cases_eq}
use Rattle.std.proofs.lemmas.List.Elements.{Contains-append_left, Contains-append_right, Contains-append_cases}
use Rattle.vr_types.specs.declared.event.Status.TheVariants.{Recovering}
use Rattle.vr_types.specs.declared.message.StateOf.{StateOf}
use Rattle.vr_types.specs.declared.row.RowOf.{RowOf}
use Rattle.vr_types.specs.Cell.{nonce_of}
use Rattle.vr_types.specs.Choice.{Choice, Regained, IsRegained, IsRight}
use Rattle.vr_types.specs.Group.{sites, primary}
use Rattle.vr_types.specs.Site.{Site, Response, boot_of, has_response, is_recovering}
use Rattle.vr_types.specs.Step.{Step, Handled, greater, is_outdated, learns, executed_to, normal_in}
use Rattle.vr_types.specs.Recovery.{has_as_late, with_response, regains, on_recovery_response}
use Rattle.vr_types.proofs.ChoosingPick.{Contains-cases, Contains-none, Contains-here}
use Rattle.vr_types.proofs.Vectors.{greater_is}
use Rattle.agreement.specs.Progress.{WorksIn}
use Rattle.agreement.proofs.Members.{filter-has, filter-passes}
use Rattle.agreement.proofs.Facts.{filter_keeps, not_equal}
use Rattle.agreement.proofs.Tests.{eq_of, eq_test, le_of, and_left, and_right, some-same, found, Found}
use Rattle.agreement.proofs.Waiting.{passes, not_outdated, current_of, if_no}

-- the state of a view whose log is executed whole
abbrev pub whole : {C : Type 0} → List (RowOf C) → StateOf C
whole rows = record { done = length rows; rows = rows }

-- a response of view w, with this state where it is the primary's
pub record IsGood {C : Type 0} (f w : ℕ) (rows : List (RowOf C)) (a : Response C) : Type 0 where
  pub view : a.view ≡ w
  pub state : a.from ≡ primary f w → a.state ≡ Some (whole rows)

-- a good response of site k is kept, of this boot or a later one
pub record KeepsResponse {C : Type 0} (f w : ℕ) (rows : List (RowOf C)) (x : Site C) (k b : ℕ) : Type 0 where
  pub response : Response C
  pub among : Contains x.collected.responses response
  pub from : response.from ≡ k
  pub good : IsGood f w rows response
  pub current : b ≤ boot_of response.known k

-- a site asks for the state of view w, and cannot regain it yet
pub record Asks {C : Type 0} (f w b : ℕ) (rows : List (RowOf C)) (x : Site C) : Type 0 where
  pub status : x.status ≡ Recovering
  pub boots : x.cell.boots ≡ b
  pub each : (a : Response C) → Contains x.collected.responses a → (a.view < w) ⊎ IsGood f w rows a
  pub not_yet : (a : Response C) → Contains x.collected.responses a → a.from ≡ primary f w → IsGood f w rows a
      → f < count_by (has_response x.collected.responses) (sites f) → ⊥

pub has_response_of : {C : Type 0} (responses : List (Response C)) (k : ℕ) (a : Response C) → Contains responses a → a.from ≡ k
    → has_response responses k ≡ true
has_response_of [] k a in' e = absurd (Contains-none a in')
has_response_of {C} (r ∷ responses) k a in' e = by_place (Contains-cases r a responses in') (λ there. has_response_of responses k a there e)
  where
    either : (b c : Bool) → (b ≡ true) ⊎ (c ≡ true) → (b || c) ≡ true
    either true c h = refl
    either false c (inl h) = absurd (true≢false (sym h))
    either false c (inr h) = h

    by_place : (r ≡ a) ⊎ Contains responses a → (Contains responses a → has_response responses k ≡ true) → has_response (r ∷ responses) k ≡ true
    by_place (inl same) rest = either (r.from == k) (has_response responses k) (inl (eq_test r.from k (ap (λ (s : Response C). s.from) same ∙ e)))
    by_place (inr there) rest = either (r.from == k) (has_response responses k) (inr (rest there))

response_is : {C : Type 0} (a : Response C) (p w : ℕ) (st : Option (StateOf C)) → a.from ≡ p → a.view ≡ w → a.state ≡ st
    → a ≡ record { from = p; view = w; state = st; known = a.known }
response_is {C} a p w st e d h =
    ap (λ (n : ℕ). record { from = n; view = a.view; state = a.state; known = a.known }) e
    ∙ (ap (λ (n : ℕ). record { from = p; view = n; state = a.state; known = a.known }) d
    ∙ ap (λ (s : Option (StateOf C)). record { from = p; view = w; state = s; known = a.known }) h)

module _ {C : Type 0} (choose : Choice C) (f w b : ℕ) (right : IsRight f choose) (rows : List (RowOf C)) (x : Site C)
    (asks : Asks f w b rows x) (idle : x.done ≡ 0)
    (response : Response C) (good : IsGood f w rows response) (most : ℕ → ℕ) (known : (j : ℕ) → boot_of x.known j ≤ most j)
    (knew : (j : ℕ) → boot_of response.known j ≤ most j)
    (is_k : boot_of response.known response.from ≡ most response.from) where
  abbrev y : Site C
  y = learns response.known x

  abbrev z : Site C
  z = with_response response y

  -- a later response of the sender is kept already: then it is a good one
  pub kept_before : has_as_late y.collected.responses response ≡ true → KeepsResponse f w rows x response.from (most response.from)
  kept_before late =
      let a : Found (λ (old : Response C). (old.from == response.from) && nat_le response.view old.view) y.collected.responses =
      found _ y.collected.responses late in
      let from = eq_of a.item.from response.from (and_left _ _ a.passes) in
      let high = le_of response.view a.item.view (and_right (a.item.from == response.from) _ a.passes) in
      let in_x = filter-has (λ (o : Response C). not (is_outdated (greater x.known response.known) o.from o.known)) x.collected.responses a.item a.among in
      let fresh =
      current_of y.known a.item.known a.item.from
      (filter-passes (λ (o : Response C). not (is_outdated (greater x.known response.known) o.from o.known)) x.collected.responses a.item a.among) in
      record {
        response = a.item;
        among = in_x;
        from = from;
        good = by_view a.item (let e = good.view in omega arith) (asks.each a.item in_x);
        current = subst (λ (i : ℕ). most i ≤ boot_of a.item.known i) from (
            let e = greater_is x.known response.known a.item.from in
            let h : most a.item.from ≤ boot_of response.known a.item.from =
            subst (λ (i : ℕ). most i ≤ boot_of response.known i) (sym from) (let d = is_k in omega arith) in
            omega arith);
      }
    where
      by_view : (a : Response C) → w ≤ a.view → (a.view < w) ⊎ IsGood f w rows a → IsGood f w rows a
      by_view a high (inl low) = absurd (omega arith)
      by_view a high (inr g) = g

  -- after it the site keeps it, and what it kept of others; or it works in view w
  pub record Answers (t : Site C) : Type 0 where
    pub ends : Asks f w b rows t ⊎ WorksIn w rows t
    pub has : WorksIn w rows t ⊎ KeepsResponse f w rows t response.from (most response.from)
    pub keeps : (k : ℕ) → KeepsResponse f w rows x k (most k) → WorksIn w rows t ⊎ KeepsResponse f w rows t k (most k)

  each_z : (a : Response C) → Contains z.collected.responses a → (a.view < w) ⊎ IsGood f w rows a
  each_z a in' = by_place (Contains-append_cases (filter (λ (o : Response C). not (o.from == response.from)) y.collected.responses) (response ∷ []) a in')
    where
      last : (response ≡ a) ⊎ Contains [] a → (a.view < w) ⊎ IsGood f w rows a
      last (inl e) = inr (subst (λ (r : Response C). IsGood f w rows r) e good)
      last (inr none) = absurd (Contains-none a none)

      by_place : Contains (filter (λ (o : Response C). not (o.from == response.from)) y.collected.responses) a ⊎ Contains (response ∷ []) a
          → (a.view < w) ⊎ IsGood f w rows a
      by_place (inl old) =
          asks.each a (filter-has (λ (o : Response C). not (is_outdated (greater x.known response.known) o.from o.known)) x.collected.responses a
          (filter-has (λ (o : Response C). not (o.from == response.from)) y.collected.responses a old))
      by_place (inr new) = last (Contains-cases response a [] new)

  new_in : Contains z.collected.responses response
  new_in =
      Contains-append_right (filter (λ (o : Response C). not (o.from == response.from)) y.collected.responses) (response ∷ []) response
      (Contains-here response [])

  at_most : (a : Response C) → Contains z.collected.responses a → a.view ≤ w
  at_most a in' = by_each (each_z a in')
    where
      by_each : (a.view < w) ⊎ IsGood f w rows a → a.view ≤ w
      by_each (inl low) = omega arith
      by_each (inr g) = let e = g.view in omega arith

  keeps_z : (k : ℕ) → KeepsResponse f w rows x k (most k) → KeepsResponse f w rows z k (most k)
  keeps_z k h = by_site (cases_eq k response.from)
    where
      new : k ≡ response.from → KeepsResponse f w rows z k (most k)
      new e =
          subst (λ (i : ℕ). KeepsResponse f w rows z i (most i)) (sym e)
          (record { response = response; among = new_in; from = refl; good = good; current = let d = is_k in omega arith })

      low : boot_of y.known k ≤ most k
      low = let e = greater_is x.known response.known k in let a = known k in let c = knew k in omega arith

      by_site : (k ≡ response.from) ⊎ (k ≡ response.from → ⊥) → KeepsResponse f w rows z k (most k)
      by_site (inl e) = new e
      by_site (inr apart) = record {
        response = h.response;
        among = Contains-append_left (filter (λ (o : Response C). not (o.from == response.from)) y.collected.responses) (response ∷ []) h.response
            (filter_keeps (λ (o : Response C). not (o.from == response.from)) y.collected.responses h.response
            (filter_keeps (λ (o : Response C). not (is_outdated (greater x.known response.known) o.from o.known)) x.collected.responses h.response h.among
            (subst (λ (i : ℕ). not (is_outdated (greater x.known response.known) i h.response.known) ≡ true) (sym h.from)
            (passes (greater x.known response.known) h.response.known k (most k) low h.current)))
            (not_equal h.response.from response.from (λ e. apart (sym h.from ∙ e))));
        from = h.from;
        good = h.good;
        current = h.current;
      }

  by_regained : (R O : Type 0) (regained : Option (Regained C))
      → MatchOption regained ((r : Regained C) → ¬ IsRegained f z.collected.responses r) (IsRegained f z.collected.responses)
      → Answers (regains {R = R} {O = O} z regained).site
  by_regained R O None none = record {
    ends = inl (record {
      status = asks.status;
      boots = asks.boots;
      each = each_z;
      not_yet = λ a in' from g many. none (record { view = w; state = whole rows }) (record {
        enough = many;
        greatest = λ r in_r. at_most r in_r;
        known = a.known;
        answered =
            subst (λ (r : Response C). Contains z.collected.responses r) (response_is a (primary f w) w (Some (whole rows)) from g.view (g.state from)) in';
      });
    });
    has = inr (record { response = response; among = new_in; from = refl; good = good; current = let d = is_k in omega arith });
    keeps = λ k h. inr (keeps_z k h);
  }
  by_regained R O (Some r) is = record { ends = inr works; has = inl works; keeps = λ k h. inl works }
    where
      view : r.view ≡ w
      view = let low = is.greatest response new_in in let e = good.view in let high = at_most _ is.answered in omega arith

      by_each : (r.view < w) ⊎ IsGood f w rows (record { from = primary f r.view; view = r.view; state = Some r.state; known = is.known })
          → r.state ≡ whole rows
      by_each (inl low) = absurd (let e = view in omega arith)
      by_each (inr g) = some-same r.state (whole rows) (g.state (ap (primary f) view))

      state : r.state ≡ whole rows
      state = by_each (each_z _ is.answered)

      works : WorksIn w rows (executed_to r.state.done (normal_in r.view r.state.rows z))
      works = record {
        status = refl;
        view_is = view;
        log_is = ap (λ (s : StateOf C). s.rows) state;
        done =
            let d : r.state.done ≡ length rows = ap (λ (s : StateOf C). s.done) state in
            let l : length r.state.rows ≡ length rows = ap (λ (s : StateOf C). length s.rows) state in
            let i = idle in
            omega arith;
      }

  pub record TakesAnswer {R O : Type 0} (step : Step C R O) : Type 0 where
    pub handled : step.ending ≡ Handled
    pub answers : Answers step.site

  regains_handled : (R O : Type 0) (regained : Option (Regained C)) → (regains {R = R} {O = O} z regained).ending ≡ Handled
  regains_handled R O None = refl
  regains_handled R O (Some r) = refl

  pub takes_answer : {R O : Type 0} → has_as_late y.collected.responses response ≡ false → (nonce : ℕ) → nonce ≡ b
      → TakesAnswer (on_recovery_response {R = R} {O = O} choose x nonce response)
  unfolding on_recovery_response
  takes_answer {R} {O} late nonce is =
      subst (λ (s : Step C R O). TakesAnswer s) (sym step_is)
      (record {
        handled = regains_handled R O (choose.regained z.collected.responses);
        answers = by_regained R O (choose.regained z.collected.responses) (right.regained z.collected.responses);
      })
    where
      step_is : on_recovery_response {R = R} {O = O} choose x nonce response ≡ regains z (choose.regained z.collected.responses)
      step_is =
          if_no (not (is_recovering x.status)) _ _ (ap (λ st. not (is_recovering st)) asks.status)
          ∙ (if_no (not (nonce == nonce_of x.cell)) _ _ (ap not (eq_test nonce (nonce_of x.cell) (is ∙ sym asks.boots)))
          ∙ (if_no (is_outdated x.known response.from response.known) _ _
          (not_outdated x.known response.known response.from (let a = known response.from in let d = is_k in omega arith))
          ∙ if_no (has_as_late y.collected.responses response) _ _ late))
