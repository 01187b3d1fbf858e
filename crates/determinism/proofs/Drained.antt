-- A drain that nothing hinders delivers the same envelopes in two worlds that came the same way.
use Rattle.std.proofs.Common.{◌≡◌, ◌⊎◌, inl, inr, ℕ, zero, suc, ◌+◌, ◌-◌, ◌==◌, ◌<◌, ◌≤◌, Bool, true, false, if◌then◌else◌, List, [], ◌∷◌, ◌++◌, length, take, drop, slice_get, Option, Some, None, option_map, Result, Ok, Err, refl, sym, ap, ◌∙◌, subst, append_assoc, append-nil, arith, true≢false}
use Rattle.std.proofs.lemmas.Option.{slice_get_past}
use Rattle.std.proofs.lemmas.Bool.{ne_eqb}
use Rattle.std.specs.List.{cons_option, filter_map, enumerate_from}
use Rattle.pvp_types.specs.Setup.{faults}
use Rattle.pvp_types.specs.declared.step.Step.{Step}
use Rattle.pvp_types.specs.declared.step.Step.TheVariants.{Deliver}
use Rattle.vr_types.specs.declared.cell.Boot.{Boot}
use Rattle.vr_types.specs.declared.cell.BootCell.{Ghosts as Cell}
use Rattle.rtgs_node.specs.Node.{Envelope}
use Rattle.headline.specs.Bank.{delivery, turn}
use Rattle.headline.proofs.Basics.{none-some, some-same}
use Rattle.pvp_world.specs.World.{ShownWorld, IsAt}
use Rattle.pvp_world.specs.declared.fault.WorldFault.{WorldFault}
use Rattle.pvp_world.specs.declared.fault.WorldFault.TheVariants as fault
use Rattle.pvp_trace.specs.declared.attempt.Attempt.{Attempt}
use Rattle.pvp_trace.specs.Attempts.{Attempts}
use Rattle.pvp_play.specs.Player.{TriesIn, is_open, open_number, open_after, AreDelivered}
use Rattle.pvp_play.proofs.Draining.{drop-drop, drop-length, numbers, open-more}
use Rattle.pvp_play.proofs.Growing.{Grows, applies-grow}
use Rattle.pvp_world.specs.Refusals.{turn_refuses}
use Rattle.determinism.specs.Unhindered.{is_hindered, AreFree, refused_as}
use Rattle.determinism.specs.Twins.{AreTwins}
use Rattle.determinism.proofs.Outcome.{refused-bank, refused-stays, twin-post, twins-go-on, attempt-once}

-- NUMBERS IN ORDER

abbrev AllAbove : ℕ → List ℕ → Type 0
AllAbove b [] = Unit {0}
AllAbove b (n ∷ ns) = (b < n) × AllAbove b ns

above-take : (b t : ℕ) (ns : List ℕ) → AllAbove b ns → AllAbove b (take t ns)
above-take b zero ns above = tt
above-take b (suc t) [] above = tt
above-take b (suc t) (n ∷ ns) above = (above.0, above-take b t ns above.1)

above-less : (a b : ℕ) (ns : List ℕ) → a ≤ b → AllAbove b ns → AllAbove a ns
above-less a b [] low above = tt
above-less a b (n ∷ ns) low above = (let more : b < n = above.0 in omega arith, above-less a b ns low above.1)

heads : (m n : ℕ) (ms ns : List ℕ) → ◌≡◌ {A = List ℕ} (m ∷ ms) (n ∷ ns) → m ≡ n
heads m n ms ns e = cc

tails : (m n : ℕ) (ms ns : List ℕ) → ◌≡◌ {A = List ℕ} (m ∷ ms) (n ∷ ns) → ms ≡ ns
tails m n ms ns e = cc

empty : (n : ℕ) (ns : List ℕ) → ◌≡◌ {A = List ℕ} [] (n ∷ ns) → ⊥
empty n ns e = cc

-- OPEN ENVELOPES of a list that is numbered from k
module _ (cut : List ℕ) where
  above : (b k : ℕ) (es : List Envelope) → b < k → AllAbove b (numbers cut k es)
  above b k [] low = tt
  above b k (e ∷ es) low = by (is_open cut e) (above b (k + 1) es (omega arith))
    where
      by : (o : Bool) → AllAbove b (numbers cut (k + 1) es) → AllAbove b (cons_option (if o then Some k else None) (numbers cut (k + 1) es))
      by true rest = (low, rest)
      by false rest = rest

  -- what is known of the first of them
  record First (k n : ℕ) (ns : List ℕ) (es : List Envelope) : Type 0 where
    low : k ≤ n
    high : n < k + length es
    rest : ns ≡ numbers cut (n + 1) (drop (n + 1 - k) es)

  first : (k n : ℕ) (ns : List ℕ) (es : List Envelope) → numbers cut k es ≡ n ∷ ns → First k n ns es
  first k n ns [] e = absurd (empty n ns e)
  first k n ns (x ∷ es) e = by (is_open cut x) (first (k + 1) n ns es) e
    where
      by : (o : Bool) → (numbers cut (k + 1) es ≡ n ∷ ns → First (k + 1) n ns es) → cons_option (if o then Some k else None) (numbers cut (k + 1) es) ≡ n ∷ ns
          → First k n ns (x ∷ es)
      by true later e =
          let same : k ≡ n = heads k n (numbers cut (k + 1) es) ns e in
          let one : n + 1 - k ≡ 1 = omega arith in
          record {
            low = omega arith;
            high = omega arith;
            rest =
                sym (tails k n (numbers cut (k + 1) es) ns e) ∙ ap (λ j. numbers cut (j + 1) es) same
                ∙ ap (λ j. numbers cut (n + 1) (drop j (x ∷ es))) (sym one);
          }
      by false later e =
          let f = later e in
          let low = f.low in
          let high = f.high in
          let more : n + 1 - k ≡ suc (n + 1 - (k + 1)) = omega arith in
          record { low = omega arith; high = omega arith; rest = f.rest ∙ ap (λ j. numbers cut (n + 1) (drop j (x ∷ es))) (sym more) }

  -- the next of a post, after the cursor
  record Next (cursor n : ℕ) (ns : List ℕ) (post : List Envelope) : Type 0 where
    low : cursor < n
    high : n ≤ length post
    rest : ns ≡ open_after cut n post

  next : (cursor n : ℕ) (ns : List ℕ) (post : List Envelope) → open_after cut cursor post ≡ n ∷ ns → Next cursor n ns post
  next cursor n ns post e =
      let f = first (cursor + 1) n ns (drop cursor post) e in
      let low = f.low in
      let high : n < cursor + 1 + (length post - cursor) = subst (λ k. n < cursor + 1 + k) (drop-length cursor post) f.high in
      let all : cursor + (n + 1 - (cursor + 1)) ≡ n = omega arith in
      record {
        low = omega arith;
        high = omega arith;
        rest = f.rest ∙ ap (λ es. numbers cut (n + 1) es) (drop-drop cursor (n + 1 - (cursor + 1)) post ∙ ap (λ k. drop k post) all);
      }

  -- the next of a longer post is the next of the post, where it is within it
  next-early : (cursor n : ℕ) (ns : List ℕ) (post more : List Envelope) → cursor < n → n ≤ length post → open_after cut cursor (post ++ more) ≡ n ∷ ns
      → (ms : List ℕ) × (open_after cut cursor post ≡ n ∷ ms)
  next-early cursor n ns post more low high e =
      by (open_after cut cursor post) refl
    where
      parts : open_after cut cursor (post ++ more) ≡ open_after cut cursor post ++ numbers cut (length post + 1) more
      parts = open-more cut cursor post more (omega arith)

      by : (ms : List ℕ) → open_after cut cursor post ≡ ms → (ms : List ℕ) × (open_after cut cursor post ≡ n ∷ ms)
      by [] none =
          let late = first (length post + 1) n ns more (sym (parts ∙ ap (λ ms. ms ++ numbers cut (length post + 1) more) none) ∙ e) in
          let far = late.low in
          absurd (omega arith)
      by (m ∷ ms) some =
          let same : m ≡ n =
          heads m n (ms ++ numbers cut (length post + 1) more) ns (sym (parts ∙ ap (λ ms. ms ++ numbers cut (length post + 1) more) some) ∙ e) in
          (ms, some ∙ ap (λ j. j ∷ ms) same)

-- DELIVERIES

grow : {B : Type 0} (c : Cell B) (ns : List ℕ) (tries : List Attempt) (old new : ShownWorld B) → AreDelivered c ns tries old new → Grows old.post new.post
grow {B} c [] [] old new none = ([], ap (λ (w : ShownWorld B). w.post) none ∙ sym (append-nil old.post))
grow c [] (a ∷ tries) old new none = absurd none
grow c (n ∷ ns) [] old new none = absurd none
grow c (n ∷ ns) (a ∷ tries) old new (mid, tried, later) =
    let one = applies-grow c.held old mid (Deliver n) a.result tried.attempts.applies in
    let more = grow c ns tries mid new later in
    (one.0 ++ more.0, more.1 ∙ ap (λ es. es ++ more.0) one.1 ∙ append_assoc old.post one.0 more.0)

module _ {B : Type 0} (c : Cell B) where
  -- what was never sent cannot be delivered
  stuck : (ns : List ℕ) (tries : List Attempt) (old new : ShownWorld B) → IsAt c.held old → AllAbove (length old.post) ns → AreDelivered c ns tries old new
      → AreFree tries → new ≡ old
  stuck [] [] old new at above none free = none
  stuck [] (a ∷ tries) old new at above none free = absurd none
  stuck (n ∷ ns) [] old new at above none free = absurd none
  stuck (n ∷ ns) (a ∷ tries) old new at above (mid, tried, later) free =
      let same = refused-stays c.held old mid (Deliver n) at a.result tried.attempts.applies free.0 fault.NoSuchEnvelope
      (refused-bank c.held old mid (Deliver n) at a.result tried.attempts.applies free.0
      ∙ ap (λ t. turn_refuses old.setup (faults old.setup) at.list.bank t) nothing) in
      stuck ns tries old new at above.1 (subst (λ (w : ShownWorld B). AreDelivered c ns tries w new) same later) free.1
    where
      absent : (es : List Envelope) → length es < n → (if n == 0 then None else option_map delivery (slice_get es (n - 1))) ≡ None
      absent es low =
          ap (λ (b : Bool). if b then None else option_map delivery (slice_get es (n - 1))) (ne_eqb n 0 (λ e. absurd (omega arith)))
          ∙ ap (λ o. option_map delivery o) (slice_get_past es (n - 1) (omega arith))

      nothing : turn at.list.bank.post (Deliver n) ≡ None
      nothing = ap (λ es. if n == 0 then None else option_map delivery (slice_get es (n - 1))) (sym at.shows.post) ∙ absent old.post above.0

  -- the next of those that are delivered was sent before
  here : (cut : List ℕ) (cursor n : ℕ) (ns ms : List ℕ) (tries : List Attempt) (t : ℕ) (old new : ShownWorld B) → IsAt c.held old
      → AreDelivered c (n ∷ ns) tries old new → AreFree tries
      → open_after cut cursor new.post ≡ n ∷ ms → ns ≡ take t ms → n ≤ length old.post
  here cut cursor n ns ms tries t old new at done free all some = by (is_small n (length old.post))
    where
      is_small : (a b : ℕ) → (a ≤ b) ⊎ (b < a)
      is_small zero b = inl (omega arith)
      is_small (suc a) zero = inr (omega arith)
      is_small (suc a) (suc b) = step (is_small a b)
        where
          step : (a ≤ b) ⊎ (b < a) → (suc a ≤ suc b) ⊎ (suc b < suc a)
          step (inl low) = inl (omega arith)
          step (inr high) = inr (omega arith)

      by : (n ≤ length old.post) ⊎ (length old.post < n) → n ≤ length old.post
      by (inl low) = low
      by (inr high) =
          let is = next cut cursor n ms new.post all in
          let beyond = subst (λ (l : List ℕ). AllAbove n l) (sym is.rest) (above cut n (n + 1) (drop n new.post) (omega arith)) in
          let rest =
          subst (λ (l : List ℕ). AllAbove (length old.post) l) (sym some)
          (above-take (length old.post) t ms (above-less (length old.post) n ms (omega arith) beyond)) in
          let same = stuck (n ∷ ns) tries old new at (high, rest) done free in
          subst (λ (w : ShownWorld B). n ≤ length w.post) same is.high

  -- of a list of which the first so many are these, the rest
  taken : (t : ℕ) (all : List ℕ) (n : ℕ) (ns : List ℕ) → n ∷ ns ≡ take (suc t) all → (ms : List ℕ) × (all ≡ n ∷ ms) × (ns ≡ take t ms)
  taken t [] n ns e = absurd (empty n ns (sym e))
  taken t (m ∷ all) n ns e = (all, ap (λ k. k ∷ all) (sym (heads n m ns (take t all) e)), tails n m ns (take t all) e)

  -- what is delivered first is the next open envelope of the world in which that begins
  record Begins (cut : List ℕ) (cursor n : ℕ) (ns : List ℕ) (t : ℕ) (old new : ShownWorld B) : Type 0 where
    later : List ℕ
    is_next : open_after cut cursor old.post ≡ n ∷ later
    rest : ns ≡ take t (open_after cut n new.post)

  begins : (cut : List ℕ) (cursor n : ℕ) (ns : List ℕ) (tries : List Attempt) (t : ℕ) (old new : ShownWorld B) → IsAt c.held old
      → AreDelivered c (n ∷ ns) tries old new → AreFree tries
      → n ∷ ns ≡ take (suc t) (open_after cut cursor new.post) → Begins cut cursor n ns t old new
  begins cut cursor n ns tries t old new at done free some =
      let p = taken t (open_after cut cursor new.post) n ns some in
      let is = next cut cursor n p.0 new.post p.1 in
      let low = here cut cursor n ns p.0 tries t old new at done free p.1 p.2 in
      let grown = grow c (n ∷ ns) tries old new done in
      let early = next-early cut cursor n p.0 old.post grown.0 is.low low (ap (open_after cut cursor) (sym grown.1) ∙ p.1) in
      record { later = early.0; is_next = early.1; rest = p.2 ∙ ap (take t) is.rest }

  -- THE SAME ENVELOPES come in both worlds, and the same comes of them
  pub record OneDrain (ns ms : List ℕ) (tries others : List Attempt) (one other : ShownWorld B) : Type 0 where
    pub which : ns ≡ ms
    pub attempts : tries ≡ others
    pub twins : AreTwins c.held one other

  pub drain-twins : (t : ℕ) (cut : List ℕ) (cursor : ℕ) (a b one other : ShownWorld B) (ns ms : List ℕ) (tries others : List Attempt) → AreTwins c.held a b
      → ns ≡ take t (open_after cut cursor one.post) → ms ≡ take t (open_after cut cursor other.post)
      → AreDelivered c ns tries a one → AreDelivered c ms others b other → AreFree tries → AreFree others → OneDrain ns ms tries others one other
  drain-twins t cut cursor a b one other [] [] [] [] twins some others_some done too free other_free = record {
    which = refl;
    attempts = refl;
    twins = subst (λ (w : ShownWorld B). AreTwins c.held w other) (sym done) (subst (λ (w : ShownWorld B). AreTwins c.held a w) (sym too) twins);
  }
  drain-twins zero cut cursor a b one other (n ∷ ns) ms tries others twins some others_some done too free other_free = absurd (empty n ns (sym some))
  drain-twins zero cut cursor a b one other ns (m ∷ ms) tries others twins some others_some done too free other_free = absurd (empty m ms (sym others_some))
  drain-twins (suc t) cut cursor a b one other [] (m ∷ ms) [] others twins some others_some done too free other_free =
      let q = begins cut cursor m ms others t b other twins.other_at too other_free others_some in
      let all : open_after cut cursor one.post ≡ m ∷ q.later =
      ap (λ (w : ShownWorld B). open_after cut cursor w.post) done ∙ ap (open_after cut cursor) (twin-post c.held a b twins) ∙ q.is_next in
      absurd (empty m (take t q.later) (some ∙ ap (take (suc t)) all))
  drain-twins (suc t) cut cursor a b one other (n ∷ ns) [] tries [] twins some others_some done too free other_free =
      let p = begins cut cursor n ns tries t a one twins.one_at done free some in
      let all : open_after cut cursor other.post ≡ n ∷ p.later =
      ap (λ (w : ShownWorld B). open_after cut cursor w.post) too ∙ ap (open_after cut cursor) (sym (twin-post c.held a b twins)) ∙ p.is_next in
      absurd (empty n (take t p.later) (others_some ∙ ap (take (suc t)) all))
  drain-twins (suc t) cut cursor a b one other (n ∷ ns) (m ∷ ms) (x ∷ tries) (y ∷ others) twins some others_some done too free other_free =
      let p = begins cut cursor n ns (x ∷ tries) t a one twins.one_at done free some in
      let q = begins cut cursor m ms (y ∷ others) t b other twins.other_at too other_free others_some in
      let same : n ≡ m = heads n m p.later q.later (sym p.is_next ∙ ap (open_after cut cursor) (twin-post c.held a b twins) ∙ q.is_next) in
      let once =
      attempt-once c.held a b twins done.0 too.0 (Deliver n) x y done.1.attempts
      (subst (λ (k : ℕ). Attempts c.held b too.0 (Deliver k) y) (sym same) too.1.attempts) free.0 other_free.0 in
      let rest = drain-twins t cut n done.0 too.0 one other ns ms tries others once.1 p.rest
      (q.rest ∙ ap (λ k. take t (open_after cut k other.post)) (sym same)) done.2 too.2 free.1 other_free.1 in
      record {
        which = ap (λ k. k ∷ ns) same ∙ ap (λ ks. m ∷ ks) rest.which;
        attempts = ap (λ z. z ∷ tries) once.0 ∙ ap (λ zs. y ∷ zs) rest.attempts;
        twins = rest.twins;
      }
  drain-twins t cut cursor a b one other [] ms (x ∷ tries) others twins some others_some done too free other_free = absurd done
  drain-twins t cut cursor a b one other (n ∷ ns) ms [] others twins some others_some done too free other_free = absurd done
  drain-twins t cut cursor a b one other ns [] tries (y ∷ others) twins some others_some done too free other_free = absurd too
  drain-twins t cut cursor a b one other ns (m ∷ ms) tries [] twins some others_some done too free other_free = absurd too
