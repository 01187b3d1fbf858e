-- Cuts of histories, and how far they go.
use Rattle.std.proofs.Common.{◌≡◌, ◌≤◌, ◌<◌, ◌+◌, ◌==◌, ◌||◌, ◌&&◌, ℕ, zero, suc, nat_le, Bool, true, false, not, List, [], ◌∷◌, ◌++◌, length, map, take, drop, Option, Some, None, refl, sym, ap, subst, ◌∙◌, arith, if◌then◌else◌, All, get_or, set, add-zero}
use Rattle.std.proofs.Math.Seq.{take-length}
use Rattle.std.proofs.lemmas.List.{drop-set-lt, get_or-drop, take_all, take_more, take_more_set}
use Rattle.std.proofs.lemmas.List.Sums.{sum_by_push}
use Rattle.std.proofs.lemmas.Grind.{drop_more_same}
use Rattle.std.proofs.lemmas.Bool.Decides.{nat_tests}
use Rattle.std.proofs.lemmas.List.Elements.{All-nil, All-cons, All-head, All-tail}
use Rattle.pvp_wire.specs.declared.stamped.Stamp.{Stamp}
use Rattle.pvp_journal.specs.Spelling.{Entry}
use Rattle.pvp_audit.specs.declared.history.History.{History}
use Rattle.pvp_audit.specs.declared.cut.Reach.{Reach}
use Rattle.pvp_audit.specs.Cut.{AreClosed, AreFronts, AreShortened, IsFront, IsGreatestCut, IsShortened, Reaches, covered_front, event_count, is_covered, is_reached, reach_in, reach_of}

-- ---- how far a front goes

reach-front : (n : ℕ) (entries : List Entry) → reach_of (take n entries) ≤ reach_of entries
reach-front zero entries = omega arith
reach-front (suc n) [] = omega arith
reach-front (suc n) (r ∷ more) = omega (arith, reach-front n more)

reaches-more : (stamp : Option Stamp) (front whole : History) → IsFront front whole → Reaches stamp front → Reaches stamp whole
reaches-more None front whole is h = tt
reaches-more (Some stamp) front whole is h = λ e.
    let le : stamp.clock ≤ reach_of front.entries.items = h (is.actor ∙ e) in
    let same : reach_of front.entries.items ≡ reach_of (take is.count whole.entries.items) = ap reach_of is.entries in
    omega (arith, reach-front is.count whole.entries.items)

-- what is covered by fronts is covered by the whole
covers-more : (stamp : Option Stamp) (fronts wholes : List History) → AreFronts fronts wholes → All (Reaches stamp) fronts → All (Reaches stamp) wholes
covers-more stamp [] [] are h = h
covers-more stamp [] (whole ∷ wholes) are h = absurd are
covers-more stamp (front ∷ fronts) [] are h = absurd are
covers-more stamp (front ∷ fronts) (whole ∷ wholes) are h =
    All-cons (Reaches stamp) whole wholes (reaches-more stamp front whole are.0 (All-head (Reaches stamp) front fronts h))
    (covers-more stamp fronts wholes are.1 (All-tail (Reaches stamp) front fronts h))

-- ---- what is covered, told by how far histories go

abbrev reached : Stamp → Reach → Bool
reached stamp reach = not (reach.actor == stamp.actor) || nat_le stamp.clock reach.clock

reached-is : (stamp : Stamp) (history : History) → reached stamp (reach_in history) ≡ true → Reaches (Some stamp) history
reached-is stamp history e = λ same. grind (arith, nat_tests)

reached-if : (stamp : Stamp) (history : History) → Reaches (Some stamp) history → reached stamp (reach_in history) ≡ true
reached-if stamp history h = grind (arith, nat_tests)

and-left : (a b : Bool) → a && b ≡ true → a ≡ true
and-left true b e = refl
and-left false b e = e

and-right : (a b : Bool) → a && b ≡ true → b ≡ true
and-right true b e = e
and-right false b e = absurd cc

and-true : (a b : Bool) → a ≡ true → b ≡ true → a && b ≡ true
and-true a b ea eb = cc

pub covered-all : (stamp : Option Stamp) (histories : List History) → is_reached (map reach_in histories) stamp ≡ true → All (Reaches stamp) histories
covered-all None histories e = λ k d lt. tt
covered-all (Some stamp) [] e = All-nil (Reaches (Some stamp))
covered-all (Some stamp) (history ∷ more) e =
    let first = reached stamp (reach_in history) in
    let rest = is_reached (map reach_in more) (Some stamp) in
    All-cons (Reaches (Some stamp)) history more (reached-is stamp history (and-left first rest e)) (covered-all (Some stamp) more (and-right first rest e))

pub all-covered : (stamp : Option Stamp) (histories : List History) → All (Reaches stamp) histories → is_reached (map reach_in histories) stamp ≡ true
all-covered None histories h = refl
all-covered (Some stamp) [] h = refl
all-covered (Some stamp) (history ∷ more) h =
    let first = reached stamp (reach_in history) in
    let rest = is_reached (map reach_in more) (Some stamp) in
    and-true first rest (reached-if stamp history (All-head (Reaches (Some stamp)) history more h))
    (all-covered (Some stamp) more (All-tail (Reaches (Some stamp)) history more h))

-- ---- the front before the first event that is not covered

abbrev IsCovered : List Reach → Entry → Type 0
IsCovered reaches r = is_covered reaches r ≡ true

-- each is covered
front-all : (reaches : List Reach) (entries : List Entry) → All (IsCovered reaches) (take (covered_front reaches entries) entries)
front-all reaches [] = All-nil (IsCovered reaches)
front-all reaches (r ∷ more) =
    elim (is_covered reaches r) as
    (λ b. is_covered reaches r ≡ b → All (IsCovered reaches) (take (if b then suc (covered_front reaches more) else 0) (r ∷ more))) [
      | true ↦ λ e. All-cons (IsCovered reaches) r (take (covered_front reaches more) more) e (front-all reaches more)
      | false ↦ λ e. All-nil (IsCovered reaches)
    ] refl

-- a front of which all is covered is one of it
front-within : (reaches : List Reach) (entries : List Entry) (n : ℕ) → All (IsCovered reaches) (take n entries)
    → take n entries ≡ take n (take (covered_front reaches entries) entries)
front-within reaches entries zero h = refl
front-within reaches [] (suc n) h = refl
front-within reaches (r ∷ more) (suc n) h =
    let rest = front-within reaches more n (All-tail (IsCovered reaches) r (take n more) h) in
    subst (λ (b : Bool). r ∷ take n more ≡ take (suc n) (take (if b then suc (covered_front reaches more) else 0) (r ∷ more)))
    (sym (All-head (IsCovered reaches) r (take n more) h))
    (ap (λ (l : List Entry). r ∷ l) rest)

-- ---- fronts of fronts

take-of-take : (a b : ℕ) (entries : List Entry) → (n : ℕ) × (take a (take b entries) ≡ take n entries)
take-of-take zero b entries = (0, refl)
take-of-take (suc a) zero entries = (0, refl)
take-of-take (suc a) (suc b) [] = (0, refl)
take-of-take (suc a) (suc b) (r ∷ more) =
    let rest = take-of-take a b more in
    (suc rest.0, ap (λ (l : List Entry). r ∷ l) rest.1)

pub no-front : (histories : List History) → AreFronts histories histories
no-front [] = tt
no-front (history ∷ more) =
    (record { count = length history.entries.items; actor = refl; opening = refl; entries = sym (take-length history.entries.items) }, no-front more)

pub fronts-shorter : (reaches : List Reach) (histories olds news : List History) → AreFronts olds histories → AreShortened reaches olds news
    → AreFronts news histories
fronts-shorter reaches [] [] [] are short = tt
fronts-shorter reaches [] [] (new ∷ news) are short = absurd short
fronts-shorter reaches [] (old ∷ olds) news are short = absurd are
fronts-shorter reaches (history ∷ more) [] news are short = absurd are
fronts-shorter reaches (history ∷ more) (old ∷ olds) [] are short = absurd short
fronts-shorter reaches (history ∷ more) (old ∷ olds) (new ∷ news) are short =
    let n = covered_front reaches old.entries.items in
    let both = take-of-take n are.0.count history.entries.items in (
      record {
        count = both.0;
        actor = short.0.actor ∙ are.0.actor;
        opening = short.0.opening ∙ are.0.opening;
        entries = short.0.entries ∙ ap (λ (l : List Entry). take n l) are.0.entries ∙ both.1;
      },
      fronts-shorter reaches more olds news are.1 short.1,
    )

-- ---- what stays

abbrev AllCovered : List Reach → List History → Type 0
AllCovered reaches histories = All (λ history. All (IsCovered reaches) history.entries.items) histories

closed-covered : (others cut : List History) → AreFronts others cut → AreClosed others → AllCovered (map reach_in cut) others
closed-covered others cut are closed = λ k d lt j e in'.
    let r = get_or (get_or others k d).entries.items j e in
    all-covered r.stamp cut (covers-more r.stamp others cut are (closed k d lt j e in'))

stays : (reaches : List Reach) (other old new : History) → All (IsCovered reaches) other.entries.items → IsFront other old → IsShortened reaches old new
    → IsFront other new
stays reaches other old new covered is short =
    let entries = old.entries.items in
    let within = front-within reaches entries is.count (subst (λ (l : List Entry). All (IsCovered reaches) l) is.entries covered) in
    record {
      count = is.count;
      actor = is.actor ∙ sym short.actor;
      opening = is.opening ∙ sym short.opening;
      entries = is.entries ∙ within ∙ ap (λ (l : List Entry). take is.count l) (sym short.entries);
    }

all-stay : (reaches : List Reach) (others olds news : List History) → AllCovered reaches others → AreFronts others olds → AreShortened reaches olds news
    → AreFronts others news
all-stay reaches [] [] [] covered are short = tt
all-stay reaches [] [] (new ∷ news) covered are short = absurd short
all-stay reaches [] (old ∷ olds) news covered are short = absurd are
all-stay reaches (other ∷ others) [] news covered are short = absurd are
all-stay reaches (other ∷ others) (old ∷ olds) [] covered are short = absurd short
all-stay reaches (other ∷ others) (old ∷ olds) (new ∷ news) covered are short =
    let P : History → Type 0 = λ history. All (IsCovered reaches) history.entries.items in (
      stays reaches other old new (All-head P other others covered) are.0 short.0,
      all-stay reaches others olds news (All-tail P other others covered) are.1
          short.1,
    )

-- ---- the loop

-- Fronts, of which every closed cut of all is one.
pub record IsCutSoFar (cut histories : List History) : Type 0 where
  pub fronts : AreFronts cut histories
  pub greatest : (other : List History) → AreFronts other histories → AreClosed other → AreFronts other cut

pub none-cut : (histories : List History) → IsCutSoFar histories histories
none-cut histories = record { fronts = no-front histories; greatest = λ other are closed. are }

pub cut-more : (histories olds news : List History) → IsCutSoFar olds histories → AreShortened (map reach_in olds) olds news → IsCutSoFar news histories
cut-more histories olds news cut short = record {
  fronts = fronts-shorter (map reach_in olds) histories olds news cut.fronts short;
  greatest = λ other are closed.
      let stays-one = cut.greatest other are closed in
      all-stay (map reach_in olds) other olds news (closed-covered other olds stays-one closed) stays-one short;
}

uncut-covered : (reaches : List Reach) (histories : List History) → AreShortened reaches histories histories → AllCovered reaches histories
uncut-covered reaches [] short = All-nil (λ (history : History). All (IsCovered reaches) history.entries.items)
uncut-covered reaches (history ∷ more) short =
    let P : History → Type 0 = λ h. All (IsCovered reaches) h.entries.items in
    All-cons P history more (subst (λ (l : List Entry). All (IsCovered reaches) l) (sym short.0.entries) (front-all reaches history.entries.items))
    (uncut-covered reaches more short.1)

pub cut-done : (histories cut : List History) → IsCutSoFar cut histories → AreShortened (map reach_in cut) cut cut → IsGreatestCut cut histories
cut-done histories cut so short =
    let covered = uncut-covered (map reach_in cut) cut short in
    record {
      fronts = so.fronts;
      closed = λ k d lt j e in'.
          let r = get_or (get_or cut k d).entries.items j e in
          covered-all r.stamp cut (covered k d lt j e in');
      greatest = so.greatest;
    }

-- ---- one history after the other

-- so many are cut, and the others stand as they did; and whether one was cut
pub record AreShortenedSoFar (reaches : List Reach) (old new : List History) (at : ℕ) (is_cut : Bool) : Type 0 where
  pub short : AreShortened reaches (take at old) (take at new)
  pub rest : drop at new ≡ drop at old
  pub fewer : is_cut ≡ true → event_count (take at new) < event_count (take at old)
  pub same : is_cut ≡ false → take at new ≡ take at old

AreShortened-push : (reaches : List Reach) (olds news : List History) (old new : History) → AreShortened reaches olds news → IsShortened reaches old new
    → AreShortened reaches (olds ++ old ∷ []) (news ++ new ∷ [])
AreShortened-push reaches [] [] old new before here = (here, tt)
AreShortened-push reaches [] (n ∷ news) old new before here = absurd before
AreShortened-push reaches (o ∷ olds) [] old new before here = absurd before
AreShortened-push reaches (o ∷ olds) (n ∷ news) old new before here = (before.0, AreShortened-push reaches olds news old new before.1 here)

event_count-push : (histories : List History) (h : History) → event_count (histories ++ h ∷ []) ≡ event_count histories + length h.entries.items
event_count-push histories h = sum_by_push (λ (history : History). length history.entries.items) histories h

-- the count of those so far never rises
at-most : (is_cut : Bool) (olds news : List History) → (is_cut ≡ true → event_count news < event_count olds) → (is_cut ≡ false → news ≡ olds)
    → event_count news ≤ event_count olds
at-most true olds news fewer same = omega (arith, fewer refl)
at-most false olds news fewer same = omega (arith, ap event_count (same refl))

at-most-one : (is_cut : Bool) (old new : History) → (is_cut ≡ true → length new.entries.items < length old.entries.items) → (is_cut ≡ false → new ≡ old)
    → length new.entries.items ≤ length old.entries.items
at-most-one true old new fewer same = omega (arith, fewer refl)
at-most-one false old new fewer same = omega (arith, ap (λ (h : History). length h.entries.items) (same refl))

fewer-push : (here before : Bool) (olds news : List History) (old new : History)
    → (before ≡ true → event_count news < event_count olds) → (before ≡ false → news ≡ olds)
    → (here ≡ true → length new.entries.items < length old.entries.items) → (here ≡ false → new ≡ old)
    → (if here then true else before) ≡ true → event_count (news ++ new ∷ []) < event_count (olds ++ old ∷ [])
fewer-push true before olds news old new fewer same less is e =
    omega (arith, at-most before olds news fewer same, less refl, event_count-push news new, event_count-push olds old)
fewer-push false before olds news old new fewer same less is e =
    omega (arith, fewer e, at-most-one false old new less is, event_count-push news new, event_count-push olds old)

same-push : (here before : Bool) (olds news : List History) (old new : History) → (before ≡ false → news ≡ olds) → (here ≡ false → new ≡ old)
    → (if here then true else before) ≡ false → news ++ new ∷ [] ≡ olds ++ old ∷ []
same-push true before olds news old new same is e = absurd cc
same-push false before olds news old new same is e = ap (λ (l : List History). l ++ new ∷ []) (same e) ∙ ap (λ (h : History). olds ++ h ∷ []) (is refl)

pub none-shortened : (reaches : List Reach) (histories : List History) → AreShortenedSoFar reaches histories histories 0 false
none-shortened reaches histories = record { short = tt; rest = refl; fewer = λ e. absurd cc; same = λ e. refl }

still-there : (old new : List History) (at : ℕ) (d : History) → drop at new ≡ drop at old → get_or old at d ≡ get_or new at d
still-there old new at d e =
    let o = get_or-drop at old 0 d in
    let n = get_or-drop at new 0 d in
    let same : get_or (drop at new) 0 d ≡ get_or (drop at old) 0 d = ap (λ (l : List History). get_or l 0 d) e in
    rw add-zero at (sym o ∙ sym same ∙ n)

pub one-shortened : (reaches : List Reach) (old new : List History) (at : ℕ) (before here after : Bool) (d now : History)
    → AreShortenedSoFar reaches old new at before → length new ≡ length old → at < length old
    → IsShortened reaches (get_or new at d) now → (here ≡ true → length now.entries.items < length (get_or new at d).entries.items)
    → (here ≡ false → now ≡ get_or new at d)
    → after ≡ (if here then true else before) → AreShortenedSoFar reaches old (set new at now) (at + 1) after
one-shortened reaches old new at before here after d now so size lt short less stays after-is =
    let olds = take at old in
    let news = take at new in
    let was = get_or new at d in
    let old-more : take (at + 1) old ≡ olds ++ was ∷ [] = take_more old at d lt ∙ ap (λ (h : History). olds ++ h ∷ []) (still-there old new at d so.rest) in
    let new-more : take (at + 1) (set new at now) ≡ news ++ now ∷ [] = take_more_set new at now (omega arith) in
    let fewer = fewer-push here before olds news was now so.fewer so.same less stays in
    let same = same-push here before olds news was now so.same stays in
    record {
      short = subst (λ (l : List History). AreShortened reaches l (take (at + 1) (set new at now))) (sym old-more)
          (subst (λ (l : List History). AreShortened reaches (olds ++ was ∷ []) l) (sym new-more) (AreShortened-push reaches olds news was now so.short short));
      rest = drop-set-lt (at + 1) new at now (omega arith) ∙ drop_more_same new old at so.rest;
      fewer = λ e. rw (old-more, new-more) (fewer (sym after-is ∙ e));
      same = λ e. new-more ∙ same (sym after-is ∙ e) ∙ sym old-more;
    }

-- all of them
pub record AreAllShortened (reaches : List Reach) (old new : List History) (is_cut : Bool) : Type 0 where
  pub fronts : AreShortened reaches old new
  pub fewer : is_cut ≡ true → event_count new < event_count old
  pub same : is_cut ≡ false → new ≡ old

pub all-shortened : (reaches : List Reach) (old new : List History) (at : ℕ) (is_cut : Bool) → AreShortenedSoFar reaches old new at is_cut
    → length new ≡ length old → length old ≤ at → AreAllShortened reaches old new is_cut
all-shortened reaches old new at is_cut so size le =
    let olds : take at old ≡ old = take_all at old le in
    let news : take at new ≡ new = take_all at new (omega arith) in
    record {
      fronts = rw (olds, news) at so.short;
      fewer = λ e. rw (olds, news) at (so.fewer e);
      same = λ e. sym news ∙ so.same e ∙ olds;
    }
