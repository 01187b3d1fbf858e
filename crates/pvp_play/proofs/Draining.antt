-- A drain delivers the next open envelopes, in order.
use Rattle.std.proofs.Common.{◌≡◌, ℕ, zero, suc, ◌+◌, ◌-◌, ◌<◌, ◌≤◌, Bool, true, false, cond, if◌then◌else◌, List, [], ◌∷◌, ◌++◌, length, take, drop, Option, Some, None, refl, ap, sym, ◌∙◌, subst, append_assoc, append-nil, length-append, arith, eq-eqb, true≢false}
use Rattle.std.proofs.lemmas.Bool.{ne_eqb}
use Rattle.std.specs.Prelude.{fold, is_some}
use Rattle.std.specs.List.{cons_option, filter_map, enumerate_from, position_from}
use Rattle.vr_types.specs.declared.cell.BootCell.{Ghosts as Cell}
use Rattle.rtgs_node.specs.Node.{Envelope}
use Rattle.pvp_types.specs.declared.step.Step.{Step}
use Rattle.pvp_types.specs.declared.step.Step.TheVariants.{Deliver}
use Rattle.headline.proofs.Basics.{none-some, some-same}
use Rattle.pvp_world.specs.World.{ShownWorld}
use Rattle.pvp_trace.specs.declared.attempt.Attempt.{Attempt}
use Rattle.pvp_play.specs.Notes.{with_notes}
use Rattle.pvp_play.specs.Player.{Position, TriesIn, Wants, is_open, open_number, open_after, AreDelivered, with_cursor, Drains, DrainStops}
use Rattle.pvp_play.specs.Turns.{next_open, DrainsOne, DrainsTo, WantsTo}
use Rattle.pvp_play.proofs.Growing.{Grows, applies-grow}
use Rattle.pvp_play.proofs.NotesLemmas.{with_notes-none, with_notes-more}

-- LISTS

drop-all : {A : Type 0} (k : ℕ) → ◌≡◌ {A = List A} (drop k []) []
drop-all zero = refl
drop-all (suc k) = refl

pub drop-length : {A : Type 0} (k : ℕ) (xs : List A) → length (drop k xs) ≡ length xs - k
drop-length zero xs = let e : length xs - 0 ≡ length xs = omega arith in sym e
drop-length {A} (suc k) [] = let e : 0 ≡ 0 - suc k = omega arith in e
drop-length (suc k) (x ∷ xs) = drop-length k xs ∙ omega arith

pub drop-drop : {A : Type 0} (k j : ℕ) (xs : List A) → drop j (drop k xs) ≡ drop (k + j) xs
drop-drop zero j xs = let e : 0 + j ≡ j = omega arith in ap (λ n. drop n xs) (sym e)
drop-drop (suc k) j [] = drop-all j ∙ sym (drop-all (suc k + j))
drop-drop (suc k) j (x ∷ xs) = let e : suc k + j ≡ suc (k + j) = omega arith in drop-drop k j xs ∙ ap (λ n. drop n (x ∷ xs)) (sym e)

drop-append : {A : Type 0} (k : ℕ) (xs ys : List A) → k ≤ length xs → drop k (xs ++ ys) ≡ drop k xs ++ ys
drop-append zero xs ys low = refl
drop-append (suc k) [] ys low = absurd (omega arith)
drop-append (suc k) (x ∷ xs) ys low = drop-append k xs ys (omega arith)

take-front : {A : Type 0} (xs ys : List A) → take (length xs) (xs ++ ys) ≡ xs
take-front [] ys = refl
take-front (x ∷ xs) ys = ap (λ zs. x ∷ zs) (take-front xs ys)

take-more-than : {A : Type 0} (n : ℕ) (xs : List A) → length xs ≤ n → take n xs ≡ xs
take-more-than zero [] low = refl
take-more-than zero (x ∷ xs) low = absurd (omega arith)
take-more-than (suc n) [] low = refl
take-more-than (suc n) (x ∷ xs) low = ap (λ zs. x ∷ zs) (take-more-than n xs (omega arith))

fold-last : (ns : List ℕ) (a n : ℕ) → fold (λ before number. number) a (ns ++ n ∷ []) ≡ n
fold-last [] a n = refl
fold-last (m ∷ ns) a n = fold-last ns m n

-- OPEN ENVELOPES

module _ (cut : List ℕ) where
  abbrev pub numbers : ℕ → List Envelope → List ℕ
  numbers k es = filter_map (open_number cut) (enumerate_from k es)

  numbers-append : (k : ℕ) (es fs : List Envelope) → numbers k (es ++ fs) ≡ numbers k es ++ numbers (k + length es) fs
  numbers-append k [] fs = let e : k + 0 ≡ k = omega arith in ap (λ j. numbers j fs) (sym e)
  numbers-append k (e ∷ es) fs = by (is_open cut e) (numbers-append (k + 1) es fs ∙ ap (λ j. numbers (k + 1) es ++ numbers j fs) shift)
    where
      shift : k + 1 + length es ≡ k + suc (length es)
      shift = omega arith

      by : (b : Bool) → numbers (k + 1) (es ++ fs) ≡ numbers (k + 1) es ++ numbers (k + suc (length es)) fs
          → cons_option (if b then Some k else None) (numbers (k + 1) (es ++ fs)) ≡ cons_option (if b then Some k else None) (numbers (k + 1) es)
          ++ numbers (k + suc (length es)) fs
      by true rest = ap (λ ns. k ∷ ns) rest
      by false rest = rest

  none-open : (k : ℕ) (es : List Envelope) → position_from (is_open cut) k es ≡ None → numbers k es ≡ []
  none-open k [] none = refl
  none-open k (e ∷ es) none = by (is_open cut e) (none-open (k + 1) es) none
    where
      by : (b : Bool) → (position_from (is_open cut) (k + 1) es ≡ None → numbers (k + 1) es ≡ [])
          → cond b (Some k) (position_from (is_open cut) (k + 1) es) ≡ None → cons_option (if b then Some k else None) (numbers (k + 1) es) ≡ []
      by true rest e = absurd (none-some k (sym e))
      by false rest e = rest e

  record IsFirst (k n : ℕ) (es : List Envelope) : Type 0 where
    all : numbers k es ≡ n ∷ numbers (n + 1) (drop (n + 1 - k) es)
    low : k ≤ n
    high : n < k + length es

  first-open : (k : ℕ) (es : List Envelope) (n : ℕ) → position_from (is_open cut) k es ≡ Some n → IsFirst k n es
  first-open k [] n some = absurd (none-some n some)
  first-open k (e ∷ es) n some = by (is_open cut e) (first-open (k + 1) es n) some refl
    where
      by : (b : Bool) → (position_from (is_open cut) (k + 1) es ≡ Some n → IsFirst (k + 1) n es)
          → cond b (Some k) (position_from (is_open cut) (k + 1) es) ≡ Some n
          → (numbers k (e ∷ es) ≡ cons_option (if b then Some k else None) (numbers (k + 1) es)) → IsFirst k n (e ∷ es)
      by true later at parts =
          let same : k ≡ n = some-same k n at in
          let one : n + 1 - k ≡ 1 = omega arith in
          record {
            all =
                parts ∙ ap (λ j. j ∷ numbers (k + 1) es) same ∙ ap (λ j. n ∷ numbers (j + 1) es) same
                ∙ ap (λ j. n ∷ numbers (n + 1) (drop j (e ∷ es))) (sym one);
            low = omega arith;
            high = omega arith;
          }
      by false later at parts =
          let rest = later at in
          let low = rest.low in
          let high = rest.high in
          let more : n + 1 - k ≡ suc (n + 1 - (k + 1)) = omega arith in
          record {
            all = parts ∙ rest.all ∙ ap (λ j. n ∷ numbers (n + 1) (drop j (e ∷ es))) (sym more);
            low = omega arith;
            high = omega arith;
          }

  pub open-more : (k : ℕ) (post more : List Envelope) → k ≤ length post
      → open_after cut k (post ++ more) ≡ open_after cut k post ++ numbers (length post + 1) more
  open-more k post more low =
      let at : k + 1 + length (drop k post) ≡ length post + 1 = ap (λ n. k + 1 + n) (drop-length k post) ∙ omega arith in
      ap (λ es. numbers (k + 1) es) (drop-append k post more low) ∙ numbers-append (k + 1) (drop k post) more
      ∙ ap (λ j. numbers (k + 1) (drop k post) ++ numbers j more) at

  record IsNext (cursor n : ℕ) (post : List Envelope) : Type 0 where
    all : open_after cut cursor post ≡ n ∷ open_after cut n post
    low : cursor < n
    high : n ≤ length post

  next-is : (cursor n : ℕ) (post : List Envelope) → position_from (is_open cut) (cursor + 1) (drop cursor post) ≡ Some n → IsNext cursor n post
  next-is cursor n post some =
      let first = first-open (cursor + 1) (drop cursor post) n some in
      let low = first.low in
      let high : n < cursor + 1 + (length post - cursor) = subst (λ k. n < cursor + 1 + k) (drop-length cursor post) first.high in
      let all : cursor + (n + 1 - (cursor + 1)) ≡ n = omega arith in
      record {
        all = first.all ∙ ap (λ es. n ∷ numbers (n + 1) es) (drop-drop cursor (n + 1 - (cursor + 1)) post ∙ ap (λ k. drop k post) all);
        low = omega arith;
        high = omega arith;
      }

-- ENVELOPES THAT ARE DELIVERED

tries-grow : {B : Type 0} (c : Cell B) (old new : ShownWorld B) (step : Step) (a : Attempt) → TriesIn c old new step a → Grows old.post new.post
tries-grow c old new step a tries = applies-grow c.held old new step a.result tries.attempts.applies

AreDelivered-more : {B : Type 0} (c : Cell B) (ns : List ℕ) (bs : List Attempt) (n : ℕ) (old mid new : ShownWorld B) (a : Attempt)
    → AreDelivered c ns bs old mid → TriesIn c mid new (Deliver n) a → AreDelivered c (ns ++ n ∷ []) (bs ++ a ∷ []) old new
AreDelivered-more c [] [] n old mid new a none tries = (new, subst (λ w. TriesIn c w new (Deliver n) a) none tries, refl)
AreDelivered-more c [] (b ∷ bs) n old mid new a none tries = absurd none
AreDelivered-more c (m ∷ ns) [] n old mid new a none tries = absurd none
AreDelivered-more c (m ∷ ns) (b ∷ bs) n old mid new a (first, one, rest) tries = (first, one, AreDelivered-more c ns bs n first mid new a rest tries)

-- so many turns delivered an envelope each
pub record AreDrained {B : Type 0} (c : Cell B) (count : ℕ) (first now : Position B) : Type 0 where
  pub delivered : List ℕ
  pub many : length delivered ≡ count
  pub parts : open_after first.cut first.cursor now.world.post ≡ delivered ++ open_after first.cut now.cursor now.world.post
  pub attempts : List Attempt
  pub are_delivered : AreDelivered c delivered attempts first.world now.world
  pub noted : now.noted ≡ with_notes first.noted attempts
  pub cursor : now.cursor ≡ fold (λ before number. number) first.cursor delivered
  pub after : first.cursor ≤ now.cursor
  pub cut : now.cut ≡ first.cut

pub drained-none : {B : Type 0} (c : Cell B) (p : Position B) → AreDrained c 0 p p
drained-none c p =
    record {
      delivered = [];
      many = refl;
      parts = refl;
      attempts = [];
      are_delivered = refl;
      noted = sym (with_notes-none p.noted);
      cursor = refl;
      after = omega arith;
      cut = refl;
    }

module _ {B : Type 0} (c : Cell B) (count : ℕ) (first now : Position B) (drained : AreDrained c count first now) where
  next-here : (n : ℕ) → next_open now ≡ Some n → IsNext first.cut now.cursor n now.world.post
  next-here n some =
      next-is first.cut now.cursor n now.world.post (ap (λ cut. position_from (is_open cut) (now.cursor + 1) (drop now.cursor now.world.post))
      (sym drained.cut) ∙ some)

  -- one more was
  pub drained-more : (n : ℕ) (next : Position B) → next_open now ≡ Some n → DrainsOne c now next n → AreDrained c (count + 1) first next
  drained-more n next some one =
      let is = next-here n some in
      let low = is.low in
      let high = is.high in
      let after = drained.after in
      let cut = first.cut in
      let post = now.world.post in
      let grown = tries-grow c now.world next.world (Deliver n) one.attempt one.tried in
      let more = numbers cut (length post + 1) grown.0 in
      let rest = open_after cut n post in
      let early : first.cursor ≤ length post = omega arith in
      let parts : open_after cut first.cursor (post ++ grown.0) ≡ (drained.delivered ++ n ∷ []) ++ open_after cut n (post ++ grown.0) =
      open-more cut first.cursor post grown.0 early ∙ ap (λ ns. ns ++ more) (drained.parts ∙ ap (λ ns. drained.delivered ++ ns) is.all)
      ∙ append_assoc drained.delivered (n ∷ rest) more
      ∙ sym (append_assoc drained.delivered (n ∷ []) (rest ++ more))
      ∙ ap (λ ns. (drained.delivered ++ n ∷ []) ++ ns) (sym (open-more cut n post grown.0 high)) in
      record {
        delivered = drained.delivered ++ n ∷ [];
        many = length-append drained.delivered (n ∷ []) ∙ ap (λ k. k + 1) drained.many;
        parts = ap (λ p. open_after cut first.cursor p) grown.1 ∙ parts
            ∙ ap (λ p. (drained.delivered ++ n ∷ []) ++ open_after cut n p) (sym grown.1)
            ∙ ap (λ k. (drained.delivered ++ n ∷ []) ++ open_after cut k next.world.post) (sym one.cursor);
        attempts = drained.attempts ++ one.attempt ∷ [];
        are_delivered = AreDelivered-more c drained.delivered drained.attempts n first.world now.world next.world one.attempt drained.are_delivered one.tried;
        noted = one.noted ∙ ap (λ noted. with_notes noted (one.attempt ∷ [])) drained.noted ∙ with_notes-more first.noted drained.attempts (one.attempt ∷ []);
        cursor = one.cursor ∙ sym (fold-last drained.delivered first.cursor n);
        after = subst (λ k. first.cursor ≤ k) (sym one.cursor) (omega arith);
        cut = one.cut ∙ drained.cut;
      }

  -- as many as may be
  pub drained-all : (turns : ℕ) → count ≡ turns → Drains c turns first now
  drained-all turns all =
      let many : length drained.delivered ≡ turns = drained.many ∙ all in
      record {
        delivered = drained.delivered;
        which = sym (ap (λ k. take k (open_after first.cut first.cursor now.world.post)) (sym many) ∙ ap (take (length drained.delivered)) drained.parts
            ∙ take-front drained.delivered (open_after first.cut now.cursor now.world.post));
        attempts = drained.attempts;
        are_delivered = drained.are_delivered;
        noted = drained.noted;
        cursor =
            drained.cursor ∙ sym (ap (λ (b : Bool). if b then fold (λ before number. number) first.cursor drained.delivered else length now.world.post)
            (eq-eqb (length drained.delivered) turns many));
        cut = drained.cut;
      }

  -- no open one is left
  pub drained-out : (turns : ℕ) (end : Position B) → count < turns → next_open now ≡ None → end ≡ with_cursor now (length now.world.post)
      → Drains c turns first end
  drained-out turns end few none moved =
      let many = drained.many in
      let shut = none-open first.cut (now.cursor + 1) (drop now.cursor now.world.post)
      (ap (λ cut. position_from (is_open cut) (now.cursor + 1) (drop now.cursor now.world.post)) (sym drained.cut) ∙ none) in
      let all : open_after first.cut first.cursor now.world.post ≡ drained.delivered =
      drained.parts ∙ ap (λ ns. drained.delivered ++ ns) shut ∙ append-nil drained.delivered in
      let other : length drained.delivered ≡ turns → ⊥ = λ e. absurd (omega arith) in
      subst (λ (p : Position B). Drains c turns first p) (sym moved)
      (record {
        delivered = drained.delivered;
        which = sym (ap (take turns) all ∙ take-more-than turns drained.delivered (omega arith));
        attempts = drained.attempts;
        are_delivered = drained.are_delivered;
        noted = drained.noted;
        cursor =
            sym (ap (λ (b : Bool). if b then fold (λ before number. number) first.cursor drained.delivered else length now.world.post)
            (ne_eqb (length drained.delivered) turns other));
        cut = drained.cut;
      })

  -- memory was refused for the next
  pub drained-short : (turns n : ℕ) (end : Position B) → count < turns → next_open now ≡ Some n → Wants now end (Deliver n) → DrainStops c turns first end
  drained-short turns n end few some wants =
      let is = next-here n some in
      let many = drained.many in
      let rest = open_after first.cut n now.world.post in
      let more : length (drained.delivered ++ n ∷ []) ≡ length drained.delivered + 1 = length-append drained.delivered (n ∷ []) in
      subst (λ (p : Position B). DrainStops c turns first p) (sym wants.stays)
      (record {
        delivered = drained.delivered;
        number = n;
        which =
            sym (ap (take (length drained.delivered + 1)) (drained.parts ∙ ap (λ ns. drained.delivered ++ ns) is.all
            ∙ sym (append_assoc drained.delivered (n ∷ []) rest))
            ∙ ap (λ k. take k ((drained.delivered ++ n ∷ []) ++ rest)) (sym more) ∙ take-front (drained.delivered ++ n ∷ []) rest);
        few = omega arith;
        attempts = drained.attempts;
        are_delivered = drained.are_delivered;
        noted = drained.noted;
        there = wants.there;
        cursor = drained.cursor;
        cut = drained.cut;
      })

  -- so by the next open one, if there is one
  pub drained-turn : (found : Option ℕ) (next : Position B) → next_open now ≡ found → DrainsTo c now next found → true ≡ is_some found
      → AreDrained c (count + 1) first next
  drained-turn None next at to there = absurd (true≢false there)
  drained-turn (Some n) next at to there = drained-more n next at to

  pub drained-end : (turns : ℕ) (found : Option ℕ) (end : Position B) → count < turns → next_open now ≡ found → DrainsTo c now end found → false ≡ is_some found
      → Drains c turns first end
  drained-end turns None end few at to there = drained-out turns end few at to
  drained-end turns (Some n) end few at to there = absurd (true≢false (sym there))

  pub drained-stop : (turns : ℕ) (found : Option ℕ) (end : Position B) → count < turns → next_open now ≡ found → WantsTo now end found
      → DrainStops c turns first end
  drained-stop turns None end few at wants = absurd wants
  drained-stop turns (Some n) end few at wants = drained-short turns n end few at wants
