-- Streams that have taken all of their frames.
use Rattle.std.proofs.Common.{◌≡◌, ◌≢◌, ◌⊎◌, inl, inr, ℕ, ◌+◌, ◌<◌, ◌≤◌, ◌==◌, Bool, true, false, List, [], ◌∷◌, ◌++◌, Option, None, length, get_or, slice_set, cond, eqb-true, append-nil, refl, sym, ap, ◌∙◌, subst, true≢false, arith}
use Rattle.std.specs.List.{flat_map, filter, count_by, swap_remove, position_or_len}
use Rattle.std.specs.Prelude.{IsPermutation, Contains}
use Rattle.std.specs.Io.KnownBytes.{Appends}
use Rattle.std.proofs.KnownBytes.{Appends-nil, Appends-trans}
use Rattle.std.proofs.lemmas.Bool.{eq-eqb, ne_eqb}
use Rattle.std.proofs.lemmas.Grind.{flat_map-append}
use Rattle.std.proofs.lemmas.List.{length-set, get_or-set_same}
use Rattle.std.proofs.lemmas.List.Elements.{filter-append}
use Rattle.vr_types.proofs.ChoosingPick.{Contains-here, Contains-there, Contains-cases, Contains-none}
use Rattle.std.proofs.lemmas.List.Quantifiers.{position-Some}
use Rattle.std.proofs.lemmas.Grind.{common_steps}
use Rattle.std.proofs.lemmas.List.Sums.{sum_by-cons, fails_before_first}
use Rattle.std.proofs.lemmas.List.Sorted.{IsPermutation-swap_remove, IsPermutation-sym, sum_by-IsPermutation, Contains-permutation}
use Rattle.std.proofs.lemmas.Option.{slice_get_within, get_or_from_slice_get}
use Rattle.pvp_wire.specs.declared.stamped.Stamped.{Stamped}
use Rattle.pvp_wire.specs.Spelling.{spelling}
use Rattle.pvp_links.specs.declared.writer.Outgoing.{Outgoing}
use Rattle.pvp_links.specs.Writing.{place_of, IsWritten, IsClosed, IsLost, Writes, AreWritten, HasOneEach, HasTakenAll, bytes_for}
use Rattle.pvp_links.proofs.Written.{swap_after_set}

-- ---- the bytes of a frame and of those behind it

bytes_more : (to : ℕ) (frame : Stamped) (more : List Stamped) → bytes_for to (frame ∷ more) ≡ bytes_for to (frame ∷ []) ++ bytes_for to more
bytes_more to frame more =
    let goes = λ (f : Stamped). f.envelope.to == to in
    ap (flat_map spelling) (filter-append goes (frame ∷ []) more) ∙ flat_map-append spelling (filter goes (frame ∷ [])) (filter goes more)

bytes_hit : (to : ℕ) (frame : Stamped) → frame.envelope.to ≡ to → bytes_for to (frame ∷ []) ≡ spelling frame
bytes_hit to frame is = ap (λ (b : Bool). flat_map spelling (cond b (frame ∷ []) [])) (eq-eqb frame.envelope.to to is) ∙ append-nil (spelling frame)

bytes_miss : (to : ℕ) (frame : Stamped) → frame.envelope.to ≢ to → bytes_for to (frame ∷ []) ≡ []
bytes_miss to frame other = ap (λ (b : Bool). flat_map spelling (cond b (frame ∷ []) [])) (ne_eqb frame.envelope.to to other)

module _ {W : Type 0} where
  abbrev count : ℕ → List (Outgoing W) → ℕ
  count to streams = count_by (λ (out : Outgoing W). out.to == to) streams

  abbrev one : ℕ → Outgoing W → ℕ
  one to out = cond (out.to == to) 1 0

  -- ---- how many streams go to a receiver

  counted_cons : (to : ℕ) (out : Outgoing W) (streams : List (Outgoing W)) → count to (out ∷ streams) ≡ one to out + count to streams
  counted_cons to out streams = sum_by-cons (one to) out streams

  counted_here : (to : ℕ) (out : Outgoing W) → out.to ≡ to → one to out ≡ 1
  counted_here to out is = ap (λ (b : Bool). cond b 1 0) (eq-eqb out.to to is)

  counted_first : (to : ℕ) (first out : Outgoing W) (streams : List (Outgoing W)) → out.to ≡ to → (Contains streams out → 1 ≤ count to streams)
      → (first ≡ out) ⊎ Contains streams out → 1 ≤ count to (first ∷ streams)
  counted_first to first out streams is rest (inl e) = let all = counted_cons to first streams in
      let here = counted_here to first (ap (λ (o : Outgoing W). o.to) e ∙ is) in omega (arith, all, here)
  counted_first to first out streams is rest (inr more) = let all = counted_cons to first streams in let there = rest more in omega (arith, all, there)

  counted_in : (to : ℕ) (streams : List (Outgoing W)) (out : Outgoing W) → Contains streams out → out.to ≡ to → 1 ≤ count to streams
  counted_in to [] out in' is = absurd (Contains-none out in')
  counted_in to (first ∷ streams) out in' is =
      counted_first to first out streams is (λ more. counted_in to streams out more is) (Contains-cases first out streams in')

  -- those beside a stream go to others
  apart : (out : Outgoing W) (rest : List (Outgoing W)) (other : Outgoing W) → HasOneEach (out ∷ rest) → Contains rest other → other.to ≢ out.to
  apart out rest other each in' is =
      let few = each out.to in
      let here = counted_cons out.to out rest in
      let one_here = counted_here out.to out refl in
      let more = counted_in out.to rest other in' is in
      omega (arith, few, here, one_here, more)

  each_shuffled : (xs ys : List (Outgoing W)) → IsPermutation xs ys → HasOneEach xs → HasOneEach ys
  each_shuffled xs ys same each to = subst (λ (n : ℕ). n ≤ 1) (sym (sum_by-IsPermutation (one to) xs ys same)) (each to)

  each_rest : (out : Outgoing W) (rest : List (Outgoing W)) → HasOneEach (out ∷ rest) → HasOneEach rest
  each_rest out rest each to = let few = each to in let here = counted_cons to out rest in omega (arith, few, here)

  each_like : (out like : Outgoing W) (rest : List (Outgoing W)) → like.to ≡ out.to → HasOneEach (out ∷ rest) → HasOneEach (like ∷ rest)
  each_like out like rest is each to =
      let few = each to in
      let here = counted_cons to out rest in
      let there = counted_cons to like rest in
      let same : one to like ≡ one to out = ap {B = ℕ} (λ (n : ℕ). cond (n == to) 1 0) is in
      omega (arith, few, here, there, same)

  -- where no stream goes to a receiver each goes to another
  none_goes : (streams : List (Outgoing W)) (to : ℕ) (out : Outgoing W) → place_of streams to ≡ None → Contains streams out → out.to ≢ to
  none_goes streams to out none (k, within, read) is =
      let test = λ (o : Outgoing W). o.to == to in
      let past : length streams ≤ position_or_len test streams = grind (arith, common_steps) in
      let fails = fails_before_first test streams k out (omega (arith, within, past)) in
      true≢false (sym (eq-eqb out.to to is) ∙ ap test (sym read) ∙ fails)

  -- ---- what one frame does

  untouched : (contents : W → Option (List ℕ)) (frame : Stamped) (old : List (Outgoing W)) (out : Outgoing W) → Contains old out → frame.envelope.to ≢ out.to
      → HasTakenAll contents (frame ∷ []) old out
  untouched contents frame old out was other =
      record {
        before = out.stream;
        was = was;
        bytes = subst (Appends (contents out.stream) (contents out.stream)) (sym (bytes_miss out.to frame other)) (Appends-nil (contents out.stream));
      }

  -- how each stream stands after it, and that there is still one to each receiver
  abbrev Steps : (W → Option (List ℕ)) → Stamped → List (Outgoing W) → List (Outgoing W) → Type 0
  Steps contents frame old mid = HasOneEach mid × ((out : Outgoing W) → Contains mid out → HasTakenAll contents (frame ∷ []) old out)

  closed_steps : (contents : W → Option (List ℕ)) (frame : Stamped) (old mid : List (Outgoing W)) → HasOneEach old → IsClosed frame old mid
      → Steps contents frame old mid
  closed_steps contents frame old mid each c =
      let all = each_shuffled old (c.closed ∷ mid) c.others each in (
        each_rest c.closed mid all,
        λ out in'. untouched contents frame old out (Contains-permutation (c.closed ∷ mid) old out (IsPermutation-sym old (c.closed ∷ mid) c.others)
            (Contains-there c.closed out mid in'))
            (λ e. apart c.closed mid out all in' (sym e ∙ sym c.receiver)),
      )

  lost_steps : (contents : W → Option (List ℕ)) (frame : Stamped) (old mid : List (Outgoing W)) → HasOneEach old → IsLost frame old mid
      → Steps contents frame old mid
  lost_steps contents frame old mid each l = (
    subst (λ (s : List (Outgoing W)). HasOneEach s) (sym l.same) each,
    λ out in'. untouched contents frame old out (subst (λ (s : List (Outgoing W)). Contains s out) l.same in')
        (λ e. none_goes old frame.envelope.to out l.nowhere (subst (λ (s : List (Outgoing W)). Contains s out) l.same in') (sym e)),
  )

  -- the stream that a frame was written to, and those beside it, before and after
  pub record Around (frame : Stamped) (old mid : List (Outgoing W)) (out : Outgoing W) (after : W) : Type 0 where
    rest : List (Outgoing W)
    receiver : out.to ≡ frame.envelope.to
    before : IsPermutation old (out ∷ rest)
    now : IsPermutation mid (record out { stream = after } ∷ rest)

  around : (contents : W → Option (List ℕ)) (frame : Stamped) (old mid : List (Outgoing W)) (w : IsWritten contents frame old mid)
      → Around frame old mid w.out w.after
  around contents frame old mid w =
      let within = slice_get_within old w.at w.out w.there in
      let read : w.out ≡ get_or old w.at w.out = sym (get_or_from_slice_get old w.at w.out w.out w.there) in
      let found = position-Some (λ (o : Outgoing W). o.to == frame.envelope.to) old w.at w.out w.place in
      let next : Outgoing W = record w.out { stream = w.after } in
      let changed = slice_set old w.at next in
      let inside = subst (λ (n : ℕ). w.at < n) (sym (length-set old w.at next)) within in
      record {
        rest = swap_remove old w.at w.out;
        receiver = ap (λ (o : Outgoing W). o.to) read ∙ eqb-true (get_or old w.at w.out).to frame.envelope.to found.1;
        before = IsPermutation-swap_remove old w.at w.out within read;
        now = subst (λ (s : List (Outgoing W)). IsPermutation s (next ∷ swap_remove old w.at w.out)) (sym w.streams)
            (subst (λ (s : List (Outgoing W)). IsPermutation changed (next ∷ s)) (swap_after_set old w.at w.out next within)
            (IsPermutation-swap_remove changed w.at next inside (sym (get_or-set_same old w.at next next within))));
      }

  written_in : (contents : W → Option (List ℕ)) (frame : Stamped) (old mid : List (Outgoing W)) (w : IsWritten contents frame old mid)
      (a : Around frame old mid w.out w.after) (x : Outgoing W) → HasOneEach (w.out ∷ a.rest)
      → (record w.out { stream = w.after } ≡ x) ⊎ Contains a.rest x → HasTakenAll contents (frame ∷ []) old x
  written_in contents frame old mid w a x each (inl e) =
      subst (HasTakenAll contents (frame ∷ []) old) e (record {
        before = w.out.stream;
        was = Contains-permutation (w.out ∷ a.rest) old w.out (IsPermutation-sym old (w.out ∷ a.rest) a.before) (Contains-here w.out a.rest);
        bytes = subst (Appends (contents w.out.stream) (contents w.after)) (sym (bytes_hit w.out.to frame (sym a.receiver))) w.bytes;
      })
  written_in contents frame old mid w a x each (inr beside) =
      untouched contents frame old x (Contains-permutation (w.out ∷ a.rest) old x (IsPermutation-sym old (w.out ∷ a.rest) a.before)
      (Contains-there w.out x a.rest beside))
      (λ e. apart w.out a.rest x each beside (sym e ∙ sym a.receiver))

  written_steps : (contents : W → Option (List ℕ)) (frame : Stamped) (old mid : List (Outgoing W)) → HasOneEach old → IsWritten contents frame old mid
      → Steps contents frame old mid
  written_steps contents frame old mid each w =
      let a = around contents frame old mid w in
      let next : Outgoing W = record w.out { stream = w.after } in
      let all = each_shuffled old (w.out ∷ a.rest) a.before each in (
        each_shuffled (next ∷ a.rest) mid (IsPermutation-sym mid (next ∷ a.rest) a.now) (each_like w.out next a.rest refl all),
        λ x in'. written_in contents frame old mid w a x all (Contains-cases next x a.rest (Contains-permutation mid (next ∷ a.rest) x a.now in')),
      )

  steps : (contents : W → Option (List ℕ)) (frame : Stamped) (old mid : List (Outgoing W)) (whole : Bool) → HasOneEach old → Writes contents frame old mid whole
      → Steps contents frame old mid
  steps contents frame old mid true each w = written_steps contents frame old mid each w
  steps contents frame old mid false each (inl c) = closed_steps contents frame old mid each c
  steps contents frame old mid false each (inr l) = lost_steps contents frame old mid each l

  -- ---- what all of them do

  pub taken : (contents : W → Option (List ℕ)) (frames : List Stamped) (old new : List (Outgoing W)) → AreWritten contents frames old new → HasOneEach old
      → (out : Outgoing W) → Contains new out → HasTakenAll contents frames old out
  taken contents [] old new same each out in' =
      record { before = out.stream; was = subst (λ (s : List (Outgoing W)). Contains s out) same in'; bytes = Appends-nil (contents out.stream) }
  taken contents (frame ∷ more) old new written each out in' =
      let step = steps contents frame old written.0 written.1 each written.2 in
      let later = taken contents more written.0 new written.3 step.0 out in' in
      let first = step.1 (record out { stream = later.before }) later.was in
      record {
        before = first.before;
        was = first.was;
        bytes = subst (Appends (contents first.before) (contents out.stream)) (sym (bytes_more out.to frame more))
            (Appends-trans (contents first.before) (contents later.before) (contents out.stream) (bytes_for out.to (frame ∷ []))
            (bytes_for out.to more) first.bytes later.bytes);
      }
