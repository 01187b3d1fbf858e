-- Frames one after the other at the front of a stream.
use Rattle.std.proofs.Common.{◌≡◌, ◌⊎◌, inl, inr, ℕ, ◌+◌, ◌-◌, ◌<◌, ◌≤◌, List, [], ◌∷◌, ◌++◌, length, take, drop, Option, Some, None, Result, Ok, Err, refl, sym, ap, subst, ◌∙◌, append_assoc, arith}
use Rattle.std.specs.Prelude.{◌≢◌, All, IsOk, vec_len}
use Rattle.std.specs.Vec.{vec_capacity}
use Rattle.std.specs.List.{flat_map}
use Rattle.std.proofs.lemmas.Grind.{flat_map-append}
use Rattle.std.proofs.lemmas.List.{append-nil, drop-drop, length-append, length-drop, take-append-drop, take_all, drop_at}
use Rattle.std.proofs.lemmas.List.Elements.{All-append, All-cons, All-nil, All-head, All-tail}
use Rattle.std.specs.Global.{Vec}
use Rattle.pvp_wire.specs.declared.fault.WireFault.{WireFault}
use Rattle.pvp_wire.specs.declared.fault.WireFault.TheVariants.{Short, TooLong, Version, Kind, Field, Length, NoMemory}
use Rattle.pvp_wire.specs.declared.stamped.Stamped.{Stamped}
use Rattle.pvp_wire.specs.Spelling.{number, body, head, spelling}
use Rattle.pvp_wire.specs.Fits.{IsBytes, IsSpelled}
use Rattle.pvp_wire.specs.Reading.{frame_where, frame_at, TakesMemory, IsOfField}
use Rattle.pvp_wire.specs.Feeding.{Fed, IsAt, IsFed, Call, Splits, IsTold, IsRefused, IsCutShort, FeedsAt, AreFed, empty, answered, all_answered, taken_by, taken_at, all_taken, all_given, after_calls}
use Rattle.pvp_wire.proofs.Formats.{IsBytes-drop, done, ok_is, fault_is}
use Rattle.pvp_wire.proofs.Numbers.{length-number}
use Rattle.pvp_wire.proofs.Lengths.{length-head}
use Rattle.pvp_wire.proofs.Frames.{frame-takes, frame-again, frame-lasts}
use Rattle.pvp_wire.proofs.Refusals.{frame_asked, frame_never}

-- a frame has bytes
pub length-spelling : (s : Stamped) → length (spelling s) ≡ 22 + length (body s.envelope.msg)
length-spelling s =
    omega (
      arith,
      length-append (number 4 (18 + length (body s.envelope.msg)) ++ head s) (body s.envelope.msg),
      length-append (number 4 (18 + length (body s.envelope.msg))) (head s),
      length-number 4 (18 + length (body s.envelope.msg)),
      length-head s,
    )

-- one more frame is taken
pub record TakesOne (bytes : List ℕ) (frames : List Stamped) (used : ℕ) (s : Stamped) (size : ℕ) : Type 0 where
  pub within : used + size ≤ length bytes
  pub some : 0 < size
  pub splits : Splits bytes (frames ++ s ∷ []) (drop (used + size) bytes)

pub takes_one : (bytes : List ℕ) (frames : List Stamped) (used : ℕ) (s : Stamped) (size : ℕ) → IsBytes bytes → used ≤ length bytes
    → Splits bytes frames (drop used bytes) → frame_at (take (length bytes - used) (drop used bytes)) ≡ Ok (s, size)
    → TakesOne bytes frames used s size
takes_one bytes frames used s size fits inside splits cut =
    let e : frame_at (drop used bytes) ≡ Ok (s, size) =
    ap frame_at (sym (take_all (length bytes - used) (drop used bytes) (omega (arith, length-drop used bytes)))) ∙ cut in
    let f = frame-takes (drop used bytes) s size (IsBytes-drop used bytes fits) e in
    let rest = drop used bytes in
    let next : drop size rest ≡ drop (used + size) bytes = drop-drop size used bytes in
    let front : rest ≡ spelling s ++ drop (used + size) bytes =
    sym (take-append-drop size rest) ∙ ap (λ (x : List ℕ). x ++ drop size rest) f.text ∙ ap (λ (x : List ℕ). spelling s ++ x) next in
    let one : flat_map spelling (frames ++ s ∷ []) ≡ flat_map spelling frames ++ spelling s =
    flat_map-append spelling frames (s ∷ []) ∙ ap (λ (x : List ℕ). flat_map spelling frames ++ x) (append-nil (spelling s)) in
    record {
      within = omega (arith, f.within, length-drop used bytes);
      some = omega (arith, f.size, length-spelling s);
      splits = record {
        whole =
            splits.whole ∙ ap (λ (x : List ℕ). flat_map spelling frames ++ x) front ∙ sym
            (append_assoc (flat_map spelling frames) (spelling s) (drop (used + size) bytes))
            ∙ ap (λ (x : List ℕ). x ++ drop (used + size) bytes) (sym one);
        each = All-append IsSpelled frames (s ∷ []) splits.each (All-cons IsSpelled s [] f.spelled (All-nil IsSpelled));
      };
    }

-- no spelling begins another
pub one_frame : (a b : Stamped) (x y : List ℕ) → IsSpelled a → IsSpelled b → spelling a ++ x ≡ spelling b ++ y → (a ≡ b) × (x ≡ y)
one_frame a b x y ha hb e =
    let both = ok_is (a, length (spelling a)) (b, length (spelling b)) (sym (frame-again a x ha) ∙ ap frame_at e ∙ frame-again b y hb) in
    let same : a ≡ b = ap (λ (p : Stamped × ℕ). p.0) both in
    let size : length (spelling b) ≡ length (spelling a) = ap (λ (p : Stamped × ℕ). p.1) (sym both) in
    (same, sym (drop_at (spelling a) x (length (spelling a)) refl) ∙ ap (drop (length (spelling a))) e ∙ drop_at (spelling b) y (length (spelling a)) size)

-- bytes without a frame in front begin with no spelling
no_frame : (s : Stamped) (more rest : List ℕ) (fault : WireFault) → IsSpelled s → rest ≡ spelling s ++ more → frame_at rest ≡ Err fault → ⊥
no_frame s more rest fault h e failed =
    let both : done {A = Stamped × ℕ} (s, length (spelling s)) ≡ Err fault = sym (frame-again s more h) ∙ ap frame_at (sym e) ∙ failed in
    absurd cc

-- a stream is split in one way
pub one_split : (xs ys : List Stamped) (r q : List ℕ) (f g : WireFault) → All IsSpelled xs → All IsSpelled ys
    → flat_map spelling xs ++ r ≡ flat_map spelling ys ++ q → frame_at r ≡ Err f → frame_at q ≡ Err g
    → (xs ≡ ys) × (r ≡ q)
one_split [] [] r q f g hx hy e fr fq = (refl, e)
one_split [] (y ∷ ys) r q f g hx hy e fr fq =
    absurd (no_frame y (flat_map spelling ys ++ q) r f (All-head IsSpelled y ys hy) (e ∙ append_assoc (spelling y) (flat_map spelling ys) q) fr)
one_split (x ∷ xs) [] r q f g hx hy e fr fq =
    absurd (no_frame x (flat_map spelling xs ++ r) q g (All-head IsSpelled x xs hx) (sym e ∙ append_assoc (spelling x) (flat_map spelling xs) r) fq)
one_split (x ∷ xs) (y ∷ ys) r q f g hx hy e fr fq =
    let front = one_frame x y (flat_map spelling xs ++ r) (flat_map spelling ys ++ q) (All-head IsSpelled x xs hx) (All-head IsSpelled y ys hy)
    (sym (append_assoc (spelling x) (flat_map spelling xs) r) ∙ e ∙ append_assoc (spelling y) (flat_map spelling ys) q) in
    let rest = one_split xs ys r q f g (All-tail IsSpelled x xs hx) (All-tail IsSpelled y ys hy) front.1 fr fq in
    (rw (front.0, rest.0) refl, rest.1)

short_is_no_field : IsOfField Short → ⊥
short_is_no_field (inl e) = absurd cc
short_is_no_field (inr e) = absurd cc

-- one call goes on with a split of what came before
fed_once : (stream : List ℕ) (done : List Stamped) (fed : Fed) (call : Call) → Splits stream done fed.held
    → FeedsAt fed.fault fed call.piece call.answer call.after
    → Splits (stream ++ taken_at fed.fault call.answer call.piece) (done ++ answered call.answer) call.after.held
fed_once stream done fed call so_far feeds = go fed.fault call.answer feeds
  where
    same : call.after ≡ fed → Splits (stream ++ []) (done ++ []) call.after.held
    same e = rw (append-nil stream, append-nil done, e) so_far

    grown : call.after.held ≡ fed.held ++ call.piece → Splits (stream ++ call.piece) (done ++ []) call.after.held
    grown e = record {
      whole = ap (λ (x : List ℕ). x ++ call.piece) so_far.whole ∙ append_assoc (flat_map spelling done) fed.held call.piece ∙ rw (append-nil done, e) refl;
      each = rw (append-nil done) so_far.each;
    }

    told : (fault : WireFault) → IsTold fed call.piece fault call.after ⊎ IsRefused fed call.piece fault call.after
        → Splits (stream ++ taken_by (Err fault) call.piece) (done ++ []) call.after.held
    told NoMemory (inl t) = absurd (t.is_of_the_stream refl)
    told NoMemory (inr h) = same h.same
    told Short (inl t) = grown t.held
    told Short (inr h) = absurd (cc)
    told TooLong (inl t) = grown t.held
    told TooLong (inr h) = absurd (cc)
    told Version (inl t) = grown t.held
    told Version (inr h) = absurd (cc)
    told Kind (inl t) = grown t.held
    told Kind (inr h) = absurd (cc)
    told Field (inl t) = grown t.held
    told Field (inr h) = absurd (cc)
    told Length (inl t) = grown t.held
    told Length (inr h) = absurd (cc)

    go : (fault : Option WireFault) (answer : Result (Vec Stamped) WireFault) → FeedsAt fault fed call.piece answer call.after
        → Splits (stream ++ taken_at fault answer call.piece) (done ++ answered answer) call.after.held
    go (Some fault) answer h = rw h.0 (same h.1)
    go None (Ok frames) h = record {
      whole =
          ap (λ (x : List ℕ). x ++ call.piece) so_far.whole ∙ append_assoc (flat_map spelling done) fed.held call.piece
          ∙ ap (λ (x : List ℕ). flat_map spelling done ++ x) h.0.whole
          ∙ sym (append_assoc (flat_map spelling done) (flat_map spelling frames.items) call.after.held)
          ∙ ap (λ (x : List ℕ). x ++ call.after.held) (sym (flat_map-append spelling done frames.items));
      each = All-append IsSpelled done frames.items so_far.each h.0.each;
    }
    go None (Err fault) h = told fault h

-- calls go on so
pub fed_all : (stream : List ℕ) (done : List Stamped) (fed : Fed) (calls : List Call) → Splits stream done fed.held → AreFed fed calls
    → Splits (stream ++ all_taken fed calls) (done ++ all_answered calls) (after_calls fed calls).held
fed_all stream done fed [] so_far h = rw (append-nil stream, append-nil done) so_far
fed_all stream done fed (call ∷ calls) so_far h =
    let one = fed_once stream done fed call so_far h.0 in
    let all = fed_all (stream ++ taken_at fed.fault call.answer call.piece) (done ++ answered call.answer) call.after calls one h.2 in
    rw (
      ← append_assoc stream (taken_at fed.fault call.answer call.piece) (all_taken call.after calls),
      ← append_assoc done (answered call.answer) (all_answered calls),
    ) all

pub fed_pieces : (calls : List Call) → AreFed empty calls → Splits (all_taken empty calls) (all_answered calls) (after_calls empty calls).held
fed_pieces calls h = fed_all [] [] empty calls (record { whole = refl; each = All-nil IsSpelled }) h

-- memory is refused behind the frames that were kept
pub cut_short : (bytes : List ℕ) (frames kept : Vec Stamped) (used : ℕ) → used ≤ length bytes → Splits bytes kept.items (drop used bytes)
    → frames.items ≡ kept.items
    → (frame_at (take (length bytes - used) (drop used bytes)) ≡ Err NoMemory) ⊎ ((NoMemory ≡ NoMemory)
    × (TakesMemory (take (length bytes - used) (drop used bytes))
    ⊎ (IsOk (frame_at (take (length bytes - used) (drop used bytes))) × (vec_capacity kept ≤ vec_len kept))))
    → IsCutShort bytes frames
cut_short bytes frames kept used inside splits same needs =
    let all : take (length bytes - used) (drop used bytes) ≡ drop used bytes =
    take_all (length bytes - used) (drop used bytes) (omega (arith, length-drop used bytes)) in
    let needed = rw all at needs in
    let front : Splits bytes frames.items (drop used bytes) = rw same splits in
    elim needed [
      | inl failed ↦ absurd (frame_never (drop used bytes) failed)
      | inr refused ↦ elim refused.1 [
        | inl taken ↦ record { rest = drop used bytes; splits = front; needs = inl taken }
        | inr full ↦ record { rest = drop used bytes; splits = front; needs = inr full.0 }
      ]
    ]

-- what is held and is no whole frame asks for no memory
pub asks_none : (held : List ℕ) (frames : Vec Stamped) → frame_at held ≡ Err Short → IsCutShort held frames → ⊥
asks_none held frames waits cut = go frames.items cut.rest cut.splits cut.needs
  where
    unread-in : (bytes : List ℕ) → frame_at bytes ≡ Err Short → TakesMemory bytes ⊎ IsOk (frame_at bytes) → ⊥
    unread-in bytes e (inl taken) = short_is_no_field ((frame_asked bytes).fault Short taken e)
    unread-in bytes e (inr some) = let bad = rw e at some in absurd cc

    go : (done : List Stamped) (rest : List ℕ) → Splits held done rest → TakesMemory rest ⊎ IsOk (frame_at rest) → ⊥
    go [] rest splits needs = unread-in rest (ap frame_at (sym splits.whole) ∙ waits) needs
    go (s ∷ ss) rest splits needs =
        no_frame s (flat_map spelling ss ++ rest) held Short (All-head IsSpelled s ss splits.each)
        (splits.whole ∙ append_assoc (spelling s) (flat_map spelling ss) rest) waits

-- so memory is refused for a piece that is not empty
pub refused : (fed new : Fed) (piece : List ℕ) (frames : Vec Stamped) (fault : WireFault) → IsFed fed → fed.fault ≡ None → IsCutShort (fed.held ++ piece) frames
    → fault ≡ NoMemory → new ≡ fed
    → FeedsAt fed.fault fed piece (Err fault) new
refused fed new piece frames fault is_fed none cut memory same =
    let waits : frame_at fed.held ≡ Err Short = subst (IsAt fed.held) none is_fed in
    let some : piece ≢ [] =
    λ empty. asks_none fed.held frames waits (subst (λ (x : List ℕ). IsCutShort x frames)
    (ap (λ (x : List ℕ). fed.held ++ x) empty ∙ append-nil fed.held) cut) in
    let takes : FeedsAt None fed piece (Err fault) new = inr (record { some = some; memory = memory; same = same }) in
    subst (λ (f : Option WireFault). FeedsAt f fed piece (Err fault) new) (sym none) takes

-- ---- what is left

empty_fed : IsFed empty
unfolding frame_where
empty_fed = refl

left : (fed : Fed) (calls : List Call) → IsFed fed → AreFed fed calls → IsFed (after_calls fed calls)
left fed [] before h = before
left fed (call ∷ calls) before h = left call.after calls h.1 h.2

-- after any calls of a new feeder no whole frame is left, or a fault stands there
pub fed_left : (calls : List Call) → AreFed empty calls → IsFed (after_calls empty calls)
fed_left calls h = left empty calls empty_fed h

-- so what is left is not read
unread : (held : List ℕ) (fault : Option WireFault) → IsAt held fault → (f : WireFault) × (frame_at held ≡ Err f)
unread held None h = (Short, h)
unread held (Some fault) h = (fault, h.0)

-- the bytes that are held determine the fault
same_fault : (held : List ℕ) (a b : Option WireFault) → IsAt held a → IsAt held b → a ≡ b
same_fault held None None ha hb = refl
same_fault held None (Some g) ha hb = absurd (hb.1 (fault_is {A = Stamped × ℕ} g Short (sym hb.0 ∙ ha)))
same_fault held (Some f) None ha hb = absurd (ha.1 (fault_is {A = Stamped × ℕ} f Short (sym ha.0 ∙ hb)))
same_fault held (Some f) (Some g) ha hb = ap (λ (fault : WireFault). Some fault) (fault_is {A = Stamped × ℕ} f g (sym ha.0 ∙ hb.0))

abbrev fed_of : List ℕ → Option WireFault → Fed
fed_of held fault = record { held = held; fault = fault }

one_fed : (a b : Fed) → a.held ≡ b.held → IsFed a → IsFed b → a ≡ b
one_fed a b e ha hb =
    let fault-is : a.fault ≡ b.fault = same_fault b.held a.fault b.fault (subst (λ (held : List ℕ). IsAt held a.fault) e ha) hb in
    ap (λ (held : List ℕ). fed_of held a.fault) e ∙ ap (fed_of b.held) fault-is

-- pieces that are the same, joined, give the same
pub fed_cuts : (a b : List Call) → AreFed empty a → AreFed empty b → all_taken empty a ≡ all_taken empty b
    → (all_answered a ≡ all_answered b) × (after_calls empty a ≡ after_calls empty b)
fed_cuts a b ha hb e =
    let sa = fed_pieces a ha in
    let sb = fed_pieces b hb in
    let la = fed_left a ha in
    let lb = fed_left b hb in
    let ua = unread (after_calls empty a).held (after_calls empty a).fault la in
    let ub = unread (after_calls empty b).held (after_calls empty b).fault lb in
    let one =
    one_split (all_answered a) (all_answered b) (after_calls empty a).held (after_calls empty b).held ua.0 ub.0 sa.each sb.each
    (sym sa.whole ∙ e ∙ sb.whole) ua.1 ub.1 in
    (one.0, one_fed (after_calls empty a) (after_calls empty b) one.1 la lb)

-- ---- pieces that are given, also after a fault

record IsRest (stream : List ℕ) (done : List Stamped) (fault : Option WireFault) : Type 0 where
  rest : List ℕ
  splits : Splits stream done rest
  stands : IsAt rest fault

-- after a fault nothing is answered
stuck : (fault : WireFault) (fed : Fed) (calls : List Call) → fed.fault ≡ Some fault → AreFed fed calls
    → (all_answered calls ≡ []) × ((after_calls fed calls).fault ≡ Some fault)
stuck fault fed [] e h = (refl, e)
stuck fault fed (call ∷ calls) e h =
    let one : (call.answer ≡ Err fault) × (call.after ≡ fed) = subst (λ (f : Option WireFault). FeedsAt f fed call.piece call.answer call.after) e h.0 in
    let others = stuck fault call.after calls (ap (λ (x : Fed). x.fault) one.1 ∙ e) h.2 in
    (rw (one.0, others.0) refl, others.1)

given_more : (stream : List ℕ) (done : List Stamped) (fed : Fed) (call : Call) (calls : List Call) → Splits stream done fed.held → IsFed fed
    → AreFed fed (call ∷ calls)
    → (Splits (stream ++ taken_by call.answer call.piece) (done ++ answered call.answer) call.after.held
    → IsRest ((stream ++ taken_by call.answer call.piece) ++ all_given calls) ((done ++ answered call.answer) ++ all_answered calls)
    (after_calls call.after calls).fault)
    → (fault : Option WireFault) → fed.fault ≡ fault
    → IsRest (stream ++ all_given (call ∷ calls)) (done ++ all_answered (call ∷ calls)) (after_calls call.after calls).fault
given_more stream done fed call calls so_far before h next None e =
    let one = fed_once stream done fed call so_far h.0 in
    let all =
    next (subst (λ (f : Option WireFault). Splits (stream ++ taken_at f call.answer call.piece) (done ++ answered call.answer) call.after.held) e one) in
    rw (← append_assoc stream (taken_by call.answer call.piece) (all_given calls), ← append_assoc done (answered call.answer) (all_answered calls)) all
given_more stream done fed call calls so_far before h next (Some fault) e =
    let still = stuck fault fed (call ∷ calls) e h in
    let stands : IsAt fed.held (Some fault) = subst (IsAt fed.held) e before in
    let given = all_given (call ∷ calls) in
    let nothing : done ++ all_answered (call ∷ calls) ≡ done = ap (λ (x : List Stamped). done ++ x) still.0 ∙ append-nil done in
    record {
      rest = fed.held ++ given;
      splits = subst (λ (x : List Stamped). Splits (stream ++ given) x (fed.held ++ given)) (sym nothing) (record {
        whole = ap (λ (x : List ℕ). x ++ given) so_far.whole ∙ append_assoc (flat_map spelling done) fed.held given;
        each = so_far.each;
      });
      stands = subst (IsAt (fed.held ++ given)) (sym still.1) (frame-lasts fed.held given fault stands.0 stands.1, stands.1, stands.2);
    }

given_from : (stream : List ℕ) (done : List Stamped) (fed : Fed) (calls : List Call) → Splits stream done fed.held → IsFed fed → AreFed fed calls
    → IsRest (stream ++ all_given calls) (done ++ all_answered calls) (after_calls fed calls).fault
given_from stream done fed [] so_far before h = record { rest = fed.held; splits = rw (append-nil stream, append-nil done) so_far; stands = before }
given_from stream done fed (call ∷ calls) so_far before h =
    given_more stream done fed call calls so_far before h
    (λ one. given_from (stream ++ taken_by call.answer call.piece) (done ++ answered call.answer) call.after calls one h.1 h.2) fed.fault refl

given_all : (calls : List Call) → AreFed empty calls → IsRest (all_given calls) (all_answered calls) (after_calls empty calls).fault
given_all calls h = given_from [] [] empty calls (record { whole = refl; each = All-nil IsSpelled }) empty_fed h

-- the same pieces, joined, are answered the same
pub given_cuts : (a b : List Call) → AreFed empty a → AreFed empty b → all_given a ≡ all_given b
    → (all_answered a ≡ all_answered b) × ((after_calls empty a).fault ≡ (after_calls empty b).fault)
given_cuts a b ha hb e =
    let ra = given_all a ha in
    let rb = given_all b hb in
    let ua = unread ra.rest (after_calls empty a).fault ra.stands in
    let ub = unread rb.rest (after_calls empty b).fault rb.stands in
    let one =
    one_split (all_answered a) (all_answered b) ra.rest rb.rest ua.0 ub.0 ra.splits.each rb.splits.each
    (sym ra.splits.whole ∙ e ∙ rb.splits.whole) ua.1 ub.1 in (
      one.0,
      same_fault rb.rest (after_calls empty a).fault (after_calls empty b).fault
          (subst (λ (rest : List ℕ). IsAt rest (after_calls empty a).fault) one.1 ra.stands) rb.stands,
    )
