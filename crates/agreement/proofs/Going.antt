-- How a world goes on by gentle events: step by step, one run after another, and site by site.
use Rattle.std.proofs.Common.{sym, ◌≡◌, ◌≢◌, ◌⊎◌, inl, inr, ℕ, suc, ◌<◌, false, List, [], ◌∷◌, ◌++◌, length, refl, ap, ◌∙◌, subst, arith}
use Rattle.std.specs.Prelude.{Contains}
use Rattle.std.proofs.lemmas.List.Elements.{All-nil, All-cons, All-append, Contains-append_left, Contains-append_right}
use Rattle.std.proofs.lemmas.Option.{slice_get-get_or}
use Rattle.vr_types.specs.declared.event.EventOf.{EventOf}
use Rattle.vr_types.specs.declared.message.EnvelopeOf.{EnvelopeOf}
use Rattle.vr_types.specs.Choice.{Choice, IsRight}
use Rattle.vr_types.specs.Site.{Site}
use Rattle.vr_types.specs.Handling.{site_step, is_refused}
use Rattle.vr_types.proofs.ChoosingPick.{Contains-cases, Contains-none, Contains-there}
use Rattle.agreement.specs.Worlds.{World, Replied, Course, Happening, Ends, FallsOver, EndsIn, replied, step_of, MayHappen, stepped, Happens, IsRun}
use Rattle.agreement.specs.Progress.{IsGentle, IsGentleTurn, GoesTo}
use Rattle.agreement.proofs.Moves.{grown-trans}
use Rattle.agreement.proofs.Put.{put, put_here, put_there, put_self}
use Rattle.agreement.proofs.Reached.{nobody, site_at, IsReached, set_is_put, first, run_holds}

module _ {C R O : Type 0} (choose : Choice C) (f : ℕ) where
  pub goes_nowhere : (w : World C R O) → GoesTo choose f w w
  goes_nowhere w = record { events = []; run = refl; gentle = All-nil IsGentleTurn }

  run_then : (xs ys : List (Happening C R O)) (a b c : World C R O) → IsRun choose f a xs b → IsRun choose f b ys c → IsRun choose f a (xs ++ ys) c
  run_then [] ys a b c p q = subst (λ (w : World C R O). IsRun choose f w ys c) p q
  run_then (h ∷ xs) ys a b c p q = (p.0, p.1, run_then xs ys p.0 b c p.2 q)

  pub goes_then : (a b c : World C R O) → GoesTo choose f a b → GoesTo choose f b c → GoesTo choose f a c
  goes_then a b c p q = record {
    events = p.events ++ q.events;
    run = run_then p.events q.events a b c p.run q.run;
    gentle = All-append IsGentleTurn p.events q.events p.gentle q.gentle;
  }

  -- the world after a step of site i
  abbrev pub taken : World C R O → ℕ → EventOf C R O → World C R O
  taken w i event = stepped w i (site_step choose f i (site_at w i) event)

  -- what happens at a site that is there, and is not refused
  pub goes_step : (w : World C R O) (i : ℕ) (event : EventOf C R O) → i < length w.sites → MayHappen w.sent event → IsGentle event
      → is_refused (site_step {R = R} {O = O} choose f i (site_at w i) event).ending ≡ false → GoesTo choose f w (taken w i event)
  goes_step w i event small may gentle taken' = record {
    events = step_of i event ∷ [];
    run = (
      taken w i event,
      record { before = site_at w i; is_there = slice_get-get_or w.sites i nobody small; may_happen = may; ends = (taken', refl) },
      refl,
    );
    gentle = All-cons IsGentleTurn (step_of i event) [] (gentle, refl) (All-nil IsGentleTurn);
  }

  -- after a step the sites are as they were but for this one, and what was sent was sent
  pub taken_sites : (w : World C R O) (i : ℕ) (event : EventOf C R O) → i < length w.sites
      → site_at (taken w i event) ≡ put (site_at w) i (site_step {R = R} {O = O} choose f i (site_at w i) event).site
  taken_sites w i event small = set_is_put w.sites i (site_step {R = R} {O = O} choose f i (site_at w i) event).site small

  pub taken_here : (w : World C R O) (i : ℕ) (event : EventOf C R O) → i < length w.sites
      → site_at (taken w i event) i ≡ (site_step {R = R} {O = O} choose f i (site_at w i) event).site
  taken_here w i event small = ap (λ (s : ℕ → Site C). s i) (taken_sites w i event small) ∙ put_here (site_at w) i _

  pub taken_there : (w : World C R O) (i j : ℕ) (event : EventOf C R O) → i < length w.sites → j ≢ i → site_at (taken w i event) j ≡ site_at w j
  taken_there w i j event small apart = ap (λ (s : ℕ → Site C). s j) (taken_sites w i event small) ∙ put_there (site_at w) i _ j apart

  pub taken_sent : (w : World C R O) (i : ℕ) (event : EventOf C R O) (e : EnvelopeOf C R O)
      → Contains (site_step {R = R} {O = O} choose f i (site_at w i) event).sent e → Contains (taken w i event).sent e
  taken_sent w i event e in' = Contains-append_right w.sent _ e in'

  pub taken_still : (w : World C R O) (i : ℕ) (event : EventOf C R O) (e : EnvelopeOf C R O) → Contains w.sent e → Contains (taken w i event).sent e
  taken_still w i event e in' = Contains-append_left w.sent _ e in'

  -- a world that is reached goes on to one that is reached
  pub goes_reached : IsRight f choose → (a b : World C R O) → IsReached f first a → GoesTo choose f a b → IsReached f first b
  goes_reached right a b is p =
      let h : IsReached f is.history b = run_holds f choose right is.history a b p.events is.holds p.run in
      record { history = h.history; holds = h.holds; grown = grown-trans f first is.history h.history is.grown h.grown }

  -- from a world, a world to which it goes and in which this holds
  pub record Reaches (w : World C R O) (P : World C R O → Type 0) : Type 0 where
    pub after : World C R O
    pub goes : GoesTo choose f w after
    pub holds : P after

  pub reaches_then : (w : World C R O) (P Q : World C R O → Type 0) → Reaches w P → ((v : World C R O) → P v → Reaches v Q) → Reaches w Q
  reaches_then w P Q p next =
      let q = next p.after p.holds in
      record { after = q.after; goes = goes_then w p.after q.after p.goes q.goes; holds = q.holds }

  -- Site by site: where from each world that has Inv, for each of these sites, a world is reached that has Inv still, and P of this
  -- site, and P of all sites that had it, there a world is reached that has P of each.
  pub sweep : (Inv : World C R O → Type 0) (P : ℕ → World C R O → Type 0) (js : List ℕ)
      → ((j : ℕ) (w : World C R O) → Contains js j → Inv w → Reaches w (λ v. Inv v × P j v × ((k : ℕ) → P k w → P k v)))
      → (w : World C R O) → Inv w → Reaches w (λ v. Inv v × ((j : ℕ) → Contains js j → P j v) × ((k : ℕ) → P k w → P k v))
  sweep Inv P [] each w inv = record { after = w; goes = goes_nowhere w; holds = (inv, λ j in'. absurd (Contains-none j in'), λ k p. p) }
  sweep Inv P (j ∷ js) each w inv =
      reaches_then w (λ v. Inv v × P j v × ((k : ℕ) → P k w → P k v)) _ (each j w (here j js) inv) (λ v is.
      let rest = sweep Inv P js (λ k u in' i. each k u (there j k js in') i) v is.0 in
      record {
        after = rest.after;
        goes = rest.goes;
        holds =
            (rest.holds.0, λ k in'. by_place rest.after k (rest.holds.2 j is.1) (rest.holds.1 k) (Contains-cases j k js in'), λ k p. rest.holds.2 k (is.2 k p));
      })
    where
      here : (x : ℕ) (xs : List ℕ) → Contains (x ∷ xs) x
      here x xs = (0, omega arith, refl)

      there : (x y : ℕ) (xs : List ℕ) → Contains xs y → Contains (x ∷ xs) y
      there x y xs (k, low, e) = (suc k, omega arith, e)

      by_place : (u : World C R O) (k : ℕ) → P j u → (Contains js k → P k u) → (j ≡ k) ⊎ Contains js k → P k u
      by_place u k p rest (inl e) = subst (λ (i : ℕ). P i u) e p
      by_place u k p rest (inr in') = rest in'

  -- The same with a relation of each world to the later ones, which keeps each P.
  pub sweep_on : (Inv : World C R O → Type 0) (Rel : World C R O → World C R O → Type 0) → ((w : World C R O) → Rel w w)
      → ((a b c : World C R O) → Rel a b → Rel b c → Rel a c)
      → (P : ℕ → World C R O → Type 0) → ((k : ℕ) (a b : World C R O) → Rel a b → P k a → P k b) → (js : List ℕ)
      → ((j : ℕ) (w : World C R O) → Contains js j → Inv w → Reaches w (λ v. Inv v × P j v × Rel w v))
      → (w : World C R O) → Inv w → Reaches w (λ v. Inv v × ((j : ℕ) → Contains js j → P j v) × Rel w v)
  sweep_on Inv Rel same more P keeps [] each w inv = record { after = w; goes = goes_nowhere w; holds = (inv, λ j in'. absurd (Contains-none j in'), same w) }
  sweep_on Inv Rel same more P keeps (j ∷ js) each w inv =
      reaches_then w (λ v. Inv v × P j v × Rel w v) _ (each j w (0, omega arith, refl) inv) (λ v is.
      let rest = sweep_on Inv Rel same more P keeps js (λ k u in' i. each k u (Contains-there j k js in') i) v is.0 in
      record {
        after = rest.after;
        goes = rest.goes;
        holds = (
          rest.holds.0,
          λ k in'. by_place rest.after k (keeps j v rest.after rest.holds.2 is.1) (rest.holds.1 k) (Contains-cases j k js in'),
          more w v rest.after is.2 rest.holds.2,
        );
      })
    where
      by_place : (u : World C R O) (k : ℕ) → P j u → (Contains js k → P k u) → (j ≡ k) ⊎ Contains js k → P k u
      by_place u k p rest (inl e) = subst (λ (i : ℕ). P i u) e p
      by_place u k p rest (inr in') = rest in'

  -- a step that leaves its site as it was leaves all sites so
  pub taken_same : (w : World C R O) (i : ℕ) (event : EventOf C R O) → i < length w.sites
      → (site_step {R = R} {O = O} choose f i (site_at w i) event).site ≡ site_at w i
      → site_at (taken w i event) ≡ site_at w
  taken_same w i event small same = taken_sites w i event small ∙ (ap (λ (x : Site C). put (site_at w) i x) same ∙ put_self (site_at w) i)

  -- what was answered stays answered
  replies_grow : (w v : World C R O) (h : Happening C R O) → Happens choose f w h v → (r : Replied C) → Contains w.replies r → Contains v.replies r
  replies_grow w v h p r in' = by_course h.course p.ends
    where
      by_course : (course : Course) → EndsIn w h.site p.before (site_step choose f h.site p.before h.event) course v → Contains v.replies r
      by_course Ends ends =
          subst (λ (u : World C R O). Contains u.replies r) (sym ends.1)
          (Contains-append_left w.replies (replied h.site (site_step {R = R} {O = O} choose f h.site p.before h.event)) r in')
      by_course (FallsOver cell) ends = subst (λ (u : World C R O). Contains u.replies r) (sym ends.1) in'

  run_replies : (events : List (Happening C R O)) (w v : World C R O) → IsRun choose f w events v → (r : Replied C) → Contains w.replies r
      → Contains v.replies r
  run_replies [] w v run r in' = subst (λ (u : World C R O). Contains u.replies r) (sym run) in'
  run_replies (h ∷ hs) w v run r in' = run_replies hs run.0 v run.2 r (replies_grow w run.0 h run.1 r in')

  pub goes_replies : (w v : World C R O) → GoesTo choose f w v → (r : Replied C) → Contains w.replies r → Contains v.replies r
  goes_replies w v p r in' = run_replies p.events w v p.run r in'
