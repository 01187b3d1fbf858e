-- A stream with a piece more, and a seat with receipts more.
use Rattle.std.proofs.Common.{◌≡◌, ◌≢◌, ℕ, ◌<◌, All, List, [], ◌∷◌, ◌++◌, length, length-append, Option, Some, None, refl, ◌⊎◌, inl, inr, sym, ap, ◌∙◌, subst, append_assoc, append-nil, arith}
use Rattle.std.specs.List.{flat_map}
use Rattle.std.specs.Io.KnownBytes.{Consumes, Keeps}
use Rattle.std.proofs.lemmas.List.Elements.{All-append}
use Rattle.pvp_types.specs.declared.command.Cmd.{Cmd}
use Rattle.pvp_types.specs.declared.command.Reply.{Reply}
use Rattle.pvp_types.specs.declared.command.PayOrder.{PayOrder}
use Rattle.vr_types.specs.declared.message.EnvelopeOf.{EnvelopeOf}
use Rattle.pvp_rooms.specs.declared.message.Recorded.{Recorded}
use Rattle.pvp_wire.specs.declared.stamped.Stamped.{Stamped}
use Rattle.pvp_wire.specs.Spelling.{spelling}
use Rattle.pvp_wire.specs.Fits.{IsSpelled}
use Rattle.pvp_wire.specs.Feeding.{Splits}
use Rattle.std.specs.Prelude.{Ok, Err}
use Rattle.std.specs.Global.{Vec}
use Rattle.pvp_rooms.specs.Seats.{Held}
use Rattle.pvp_wire.specs.declared.fault.WireFault.{WireFault}
use Rattle.pvp_wire.specs.declared.fault.WireFault.TheVariants.{Short, TooLong, Version, Kind, Field, Length, NoMemory}
use Rattle.pvp_wire.specs.Feeding.{Fed, FeedsAt, IsAt}
use Rattle.pvp_wire.specs.Reading.{frame_at}
use Rattle.pvp_wire.proofs.Frames.{frame-lasts, frame-again}
use Rattle.pvp_links.specs.declared.peer.StreamEnd.{StreamEnd}
use Rattle.pvp_links.specs.declared.peer.StreamEnd.TheVariants.{End, Cut, Read, Wire, Memory, Clock}
use Rattle.pvp_rooms.specs.Gates.{Passing, Enters, Took, Hears}
use Rattle.pvp_rooms.proofs.Hearing.{hears_none, hears_more}
use Rattle.pvp_links.specs.Puts.{Put, puts, passages, HandsOn, Passes, HasPosted, HasPassed, LastOf, LastRead}
use Rattle.pvp_links.specs.Peers.{IsReceiptOf, AreReceiptsOf, IsPosting, IsPosted, IsReading, HasRead, EndsSo, why_of}

pub receipts_append : {E O : Type 0} (delivery : EnvelopeOf Cmd Reply PayOrder → E) (a c : List (Recorded E O)) (b d : List Stamped)
    → AreReceiptsOf delivery a b → AreReceiptsOf delivery c d → AreReceiptsOf delivery (a ++ c) (b ++ d)
receipts_append delivery [] c [] d h k = k
receipts_append delivery [] c (frame ∷ b) d h k = absurd h
receipts_append delivery (r ∷ a) c [] d h k = absurd h
receipts_append delivery (r ∷ a) c (frame ∷ b) d h k = (h.0, receipts_append delivery a c b d h.1 k)

pub consumes_more : (a b c : Option (List ℕ)) (x y : List ℕ) → Consumes a b x → Consumes b c y → Consumes a c (x ++ y)
consumes_more None b c x y h k = tt
consumes_more (Some xs) None c x y h k = absurd h
consumes_more (Some xs) (Some ys) None x y h k = absurd k
consumes_more (Some xs) (Some ys) (Some zs) x y h k = h ∙ ap (λ l. x ++ l) k ∙ sym (append_assoc x y zs)

pub consumes_kept : (a b c : Option (List ℕ)) (x : List ℕ) → Consumes a b x → Keeps b c → Consumes a c x
consumes_kept None b c x h k = tt
consumes_kept (Some xs) None c x h k = absurd h
consumes_kept (Some xs) (Some ys) None x h k = absurd k
consumes_kept (Some xs) (Some ys) (Some zs) x h k = h ∙ ap (λ l. x ++ l) (sym k)

pub consumes_none : (a : Option (List ℕ)) → Consumes a a []
consumes_none None = tt
consumes_none (Some xs) = refl

flat_map-append : (xs ys : List Stamped) → flat_map spelling (xs ++ ys) ≡ flat_map spelling xs ++ flat_map spelling ys
flat_map-append [] ys = refl
flat_map-append (x ∷ xs) ys = ap (λ l. spelling x ++ l) (flat_map-append xs ys) ∙ sym (append_assoc (spelling x) (flat_map spelling xs) (flat_map spelling ys))

-- a piece more, of which frames were answered
pub splits_more : (read piece held now : List ℕ) (posted whole : List Stamped) → Splits read posted held → Splits (held ++ piece) whole now
    → Splits (read ++ piece) (posted ++ whole) now
splits_more read piece held now posted whole s t = record {
  whole =
      ap (λ l. l ++ piece) s.whole ∙ append_assoc (flat_map spelling posted) held piece ∙ ap (λ l. flat_map spelling posted ++ l) t.whole
      ∙ sym (append_assoc (flat_map spelling posted) (flat_map spelling whole) now) ∙ ap (λ l. l ++ now) (sym (flat_map-append posted whole));
  each = All-append IsSpelled posted whole s.each t.each;
}

-- a piece more, of which none was answered
pub splits_on : (read piece held : List ℕ) (posted : List Stamped) → Splits read posted held → Splits (read ++ piece) posted (held ++ piece)
splits_on read piece held posted s = record { whole = ap (λ l. l ++ piece) s.whole ∙ append_assoc (flat_map spelling posted) held piece; each = s.each }

pub feeds_ok : (o : Option WireFault) (old new : Fed) (piece : List ℕ) (frames : Vec Stamped) → FeedsAt o old piece (Ok frames) new
    → Splits (old.held ++ piece) frames.items new.held
feeds_ok None old new piece frames h = h.0
feeds_ok (Some fault) old new piece frames h = (let clash = h.0 in cc)

pub posting_next : {E O : Type 0} (delivery : EnvelopeOf Cmd Reply PayOrder → E) (all : List Stamped) (old seat new : Held E O) (frame : Stamped)
    (rest : List Stamped) (r : Recorded E O) → IsPosting delivery all old seat (frame ∷ rest) → new ≡ record seat { receipts = seat.receipts ++ r ∷ [] }
    → IsReceiptOf delivery r frame → IsPosting delivery all old new rest
posting_next {E = E} {O = O} delivery all old seat new frame rest r p more is = record {
  gained = p.gained ++ r ∷ [];
  seat =
      more ∙ ap (λ (s : Held E O). let t : Held E O = record s { receipts = s.receipts ++ r ∷ [] } in t) p.seat ∙ ap (λ (l : List (Recorded E O)).
      let t : Held E O = record old { receipts = l } in t) (append_assoc old.receipts p.gained (r ∷ []));
  posted = p.posted ++ frame ∷ [];
  frames_are = p.frames_are ∙ sym (append_assoc p.posted (frame ∷ []) rest);
  receipts = receipts_append delivery p.gained (r ∷ []) p.posted (frame ∷ []) p.receipts (is, tt);
}

-- WHAT OUTBOX AND GATE HEAR

puts-append : {E O : Type 0} (sent : O → List (EnvelopeOf Cmd Reply PayOrder)) (actor : ℕ) (a b : List (Recorded E O))
    → puts sent actor (a ++ b) ≡ puts sent actor a ++ puts sent actor b
puts-append sent actor [] b = refl
puts-append sent actor (r ∷ a) b =
    ap (λ (l : List Put). let p : Put = record { actor = actor; clock = r.clock; sent = sent r.outcome } in p ∷ l) (puts-append sent actor a b)

passages-append : {E O : Type 0} (actor : ℕ) (a b : List (Recorded E O)) → passages actor (a ++ b) ≡ passages actor a ++ passages actor b
passages-append actor [] b = refl
passages-append actor (r ∷ a) b = ap (λ (l : List Passing). Enters actor ∷ Took actor ∷ l) (passages-append actor a b)

no_more : {E O : Type 0} (seat : Held E O) → seat ≡ record seat { receipts = seat.receipts ++ [] }
no_more {E = E} {O = O} seat = ap (λ (l : List (Recorded E O)). let t : Held E O = record seat { receipts = l } in t) (sym (append-nil seat.receipts))

more_still : {E O : Type 0} (old seat new : Held E O) (x y : List (Recorded E O)) → seat ≡ record old { receipts = old.receipts ++ x }
    → new ≡ record seat { receipts = seat.receipts ++ y } → new ≡ record old { receipts = old.receipts ++ (x ++ y) }
more_still {E = E} {O = O} old seat new x y h k =
    k ∙ ap (λ (s : Held E O). let t : Held E O = record s { receipts = s.receipts ++ y } in t) h ∙ ap (λ (l : List (Recorded E O)).
    let t : Held E O = record old { receipts = l } in t) (append_assoc old.receipts x y)

module _ {E O B : Type 0} (got : B → List Put → Type 0) (sent : O → List (EnvelopeOf Cmd Reply PayOrder)) (actor : ℕ) where
  pub hands_none : (seat : Held E O) (out : B) → HandsOn got sent actor seat seat out out
  hands_none seat out = record { gained = []; seat = no_more seat; puts = hears_none got out }

  pub hands_more : (a b c : Held E O) (x y z : B) → HandsOn got sent actor a b x y → HandsOn got sent actor b c y z → HandsOn got sent actor a c x z
  hands_more a b c x y z h k = record {
    gained = h.gained ++ k.gained;
    seat = more_still a b c h.gained k.gained h.seat k.seat;
    puts =
        subst (λ (l : List Put). Hears got x z l) (sym (puts-append sent actor h.gained k.gained))
        (hears_more got x y z (puts sent actor h.gained) (puts sent actor k.gained) h.puts k.puts);
  }

  pub hands_same : (seat new : Held E O) (out : B) → new ≡ record seat { receipts = seat.receipts } → HandsOn got sent actor seat new out out
  hands_same seat new out same = record { gained = []; seat = same ∙ no_more seat; puts = hears_none got out }

  pub hands_one : (seat new : Held E O) (r : Recorded E O) (out after : B) (put : Put) → new ≡ record seat { receipts = seat.receipts ++ r ∷ [] }
      → put ≡ record { actor = actor; clock = r.clock; sent = sent r.outcome }
      → Hears got out after (put ∷ []) → HandsOn got sent actor seat new out after
  hands_one seat new r out after put more is heard = record { gained = r ∷ []; seat = more; puts = subst (λ (p : Put). Hears got out after (p ∷ [])) is heard }

module _ {E O G : Type 0} (heard : G → List Passing → Type 0) (actor : ℕ) where
  pub passes_none : (seat : Held E O) (gate : G) → Passes heard actor seat seat gate gate []
  passes_none seat gate = record { gained = []; seat = no_more seat; passed = hears_none heard gate }

  pub passes_more : (a b c : Held E O) (x y z : G) (last : List Passing) → Passes heard actor a b x y [] → Passes heard actor b c y z last
      → Passes heard actor a c x z last
  passes_more a b c x y z last h k = record {
    gained = h.gained ++ k.gained;
    seat = more_still a b c h.gained k.gained h.seat k.seat;
    passed =
        subst (λ (l : List Passing). Hears heard x z l) (together h.gained k.gained)
        (hears_more heard x y z (passages actor h.gained ++ []) (passages actor k.gained ++ last) h.passed k.passed);
  }
    where
      together : (p q : List (Recorded E O)) → (passages actor p ++ []) ++ (passages actor q ++ last) ≡ passages actor (p ++ q) ++ last
      together p q =
          ap (λ (l : List Passing). l ++ (passages actor q ++ last)) (append-nil (passages actor p))
          ∙ sym (append_assoc (passages actor p) (passages actor q) last)
          ∙ ap (λ (l : List Passing). l ++ last) (sym (passages-append actor p q))

  pub passes_one : (seat new : Held E O) (r : Recorded E O) (x y : G) → new ≡ record seat { receipts = seat.receipts ++ r ∷ [] }
      → Hears heard x y (Enters actor ∷ Took actor ∷ []) → Passes heard actor seat new x y []
  passes_one seat new r x y more told = record { gained = r ∷ []; seat = more; passed = told }

  pub passes_last : (seat new : Held E O) (x y : G) (last : List Passing) → new ≡ record seat { receipts = seat.receipts } → Hears heard x y last
      → Passes heard actor seat new x y last
  passes_last seat new x y last same told = record { gained = []; seat = same ∙ no_more seat; passed = told }

  -- all were taken
  pub all_passed : (a b : Held E O) (x y : G) → HasPosted heard actor a b x y None → Passes heard actor a b x y []
  all_passed a b x y h = subst (λ (l : List Passing). Passes heard actor a b x y l) h.ends h.passes

  -- one was not taken
  pub stopped_passes : (a b c : Held E O) (x y z : G) (why : StreamEnd) → Passes heard actor a b x y [] → HasPosted heard actor b c y z (Some why)
      → HasPassed heard actor a c x z why
  stopped_passes a b c x y z why h k = record { last = k.last; ends = as_read why k.last k.ends; passes = passes_more a b c x y z k.last h k.passes }
    where
      as_read : (why : StreamEnd) (last : List Passing) → LastOf actor why last → LastRead actor why last
      as_read Memory last is = inl is
      as_read Clock last is = is
      as_read End last is = absurd is
      as_read (Cut n) last is = absurd is
      as_read Read last is = absurd is
      as_read (Wire fault) last is = absurd is

-- nothing was posted where the feeder told a fault
pub unread_last : (actor : ℕ) (fault : WireFault) → LastRead actor (why_of fault) []
unread_last actor NoMemory = inr refl
unread_last actor Short = refl
unread_last actor TooLong = refl
unread_last actor Version = refl
unread_last actor Kind = refl
unread_last actor Field = refl
unread_last actor Length = refl

module _ {E O : Type 0} (delivery : EnvelopeOf Cmd Reply PayOrder → E) (before a now : Option (List ℕ)) (old seat : Held E O) where
  -- a piece more, of which nothing was posted
  pub unread : (held piece : List ℕ) (why : StreamEnd) → IsReading delivery before a old seat held → Consumes a now piece → EndsSo why now [] (held ++ piece)
      → HasRead delivery before now old seat why
  unread held piece why p read end = record {
    gained = p.gained;
    seat = p.seat;
    read = p.read ++ piece;
    consumed = consumes_more before a now p.read piece p.consumed read;
    posted = p.posted;
    left = [];
    rest = held ++ piece;
    splits = subst (λ l. Splits (p.read ++ piece) l (held ++ piece)) (sym (append-nil p.posted)) (splits_on p.read piece held p.posted p.splits);
    receipts = p.receipts;
    end = end;
  }

  seats_more : (new : Held E O) (x y : List (Recorded E O)) → seat ≡ record old { receipts = old.receipts ++ x }
      → new ≡ record seat { receipts = seat.receipts ++ y } → new ≡ record old { receipts = old.receipts ++ (x ++ y) }
  seats_more new x y h k =
      k ∙ ap (λ (s : Held E O). let t : Held E O = record s { receipts = s.receipts ++ y } in t) h ∙ ap (λ (l : List (Recorded E O)).
      let t : Held E O = record old { receipts = l } in t) (append_assoc old.receipts x y)

  -- a piece more, of which all frames were posted
  pub reading_next : (new : Held E O) (held piece rest : List ℕ) (whole : List Stamped) → IsReading delivery before a old seat held → Consumes a now piece
      → Splits (held ++ piece) whole rest → IsPosted delivery whole seat new None → IsReading delivery before now old new rest
  reading_next new held piece rest whole p read splits q =
      let all : whole ≡ q.posted = q.frames_are ∙ ap (λ l. q.posted ++ l) q.all ∙ append-nil q.posted in
      record {
        gained = p.gained ++ q.gained;
        seat = seats_more new p.gained q.gained p.seat q.seat;
        read = p.read ++ piece;
        consumed = consumes_more before a now p.read piece p.consumed read;
        posted = p.posted ++ q.posted;
        splits = subst (λ l. Splits (p.read ++ piece) (p.posted ++ l) rest) all (splits_more p.read piece held rest p.posted whole p.splits splits);
        receipts = receipts_append delivery p.gained q.gained p.posted q.posted p.receipts q.receipts;
      }

  -- a piece more, of which some frame was not taken
  pub stopped : (new : Held E O) (held piece rest : List ℕ) (whole : List Stamped) (why : StreamEnd) → IsReading delivery before a old seat held
      → Consumes a now piece → Splits (held ++ piece) whole rest → IsPosted delivery whole seat new (Some why) → HasRead delivery before now old new why
  stopped new held piece rest whole why p read splits q = record {
    gained = p.gained ++ q.gained;
    seat = seats_more new p.gained q.gained p.seat q.seat;
    read = p.read ++ piece;
    consumed = consumes_more before a now p.read piece p.consumed read;
    posted = p.posted ++ q.posted;
    left = q.left;
    rest = rest;
    splits =
        subst (λ l. Splits (p.read ++ piece) l rest) (ap (λ l. p.posted ++ l) q.frames_are ∙ sym (append_assoc p.posted q.posted q.left))
        (splits_more p.read piece held rest p.posted whole p.splits splits);
    receipts = receipts_append delivery p.gained q.gained p.posted q.posted p.receipts q.receipts;
    end = ends why q.left rest q.all;
  }
    where
      ends : (why : StreamEnd) (left : List Stamped) (rest : List ℕ) → ((why ≡ Memory) ⊎ (why ≡ Clock)) × (0 < length left) → EndsSo why now left rest
      ends why left rest h =
          elim h.0 [ inl e ↦ subst (λ w. EndsSo w now left rest) (sym e) (inl h.1) | inr e ↦ subst (λ w. EndsSo w now left rest) (sym e) h.1 ]

-- at the end of the input
pub ended : {E O : Type 0} (delivery : EnvelopeOf Cmd Reply PayOrder → E) (before a : Option (List ℕ)) (old seat : Held E O) (held : List ℕ) (why : StreamEnd)
    → IsReading delivery before a old seat held → EndsSo why a [] held → HasRead delivery before a old seat why
ended delivery before a old seat held why p end = record {
  gained = p.gained;
  seat = p.seat;
  read = p.read;
  consumed = p.consumed;
  posted = p.posted;
  left = [];
  rest = held;
  splits = subst (λ l. Splits p.read l held) (sym (append-nil p.posted)) p.splits;
  receipts = p.receipts;
  end = end;
}

pub is_empty : (xs : List ℕ) → length xs ≡ 0 → xs ≡ []
is_empty [] e = refl
is_empty (x ∷ xs) e = absurd (omega (arith, e))

-- a fault that is told is what is wrong with the bytes that are held
pub told_at : (o : Option WireFault) (old new : Fed) (piece : List ℕ) (fault : WireFault)
    → FeedsAt o old piece (Err fault) new → IsAt old.held o → IsAt new.held new.fault → fault ≢ NoMemory
    → (frame_at (old.held ++ piece) ≡ Err fault) × (fault ≢ Short)
told_at None old new piece fault fed was is other = elim fed [
  | inl told ↦ (ap frame_at (sym told.held) ∙ (subst (IsAt new.held) told.fault is).0, told.waits_for_no_more)
  | inr refused ↦ absurd (other refused.memory)
]
told_at (Some f) old new piece fault fed was is other =
    let clash : Err fault ≡ Err f = fed.0 in
    let same : fault ≡ f = cc in
    (frame-lasts old.held piece f was.0 was.1 ∙ ap (λ x. Err x) (sym same), λ short. was.1 (sym same ∙ short))

some_more : (held piece : List ℕ) → piece ≢ [] → 0 < length (held ++ piece)
some_more held [] some = absurd (some refl)
some_more held (b ∷ piece) some = let both = length-append held (b ∷ piece) in omega (arith, both)

-- memory is refused only where something was read
pub memory_for : (o : Option WireFault) (old new : Fed) (piece : List ℕ) (fault : WireFault)
    → FeedsAt o old piece (Err fault) new → IsAt old.held o → fault ≡ NoMemory → 0 < length (old.held ++ piece)
memory_for None old new piece fault fed was is = elim fed [
  | inl told ↦ absurd (told.is_of_the_stream is)
  | inr refused ↦ some_more old.held piece refused.some
]
memory_for (Some f) old new piece fault fed was is =
    let clash : Err fault ≡ Err f = fed.0 in
    let same : fault ≡ f = cc in
    absurd (was.2 (sym same ∙ is))

pub ends_told : (fault : WireFault) (now : Option (List ℕ)) (rest : List ℕ) → (fault ≢ NoMemory → (frame_at rest ≡ Err fault) × (fault ≢ Short))
    → (fault ≡ NoMemory → 0 < length rest) → EndsSo (why_of fault) now [] rest
ends_told NoMemory now rest told memory = inr (memory refl)
ends_told Short now rest told memory = (refl, (told (λ e. cc)).0, (told (λ e. cc)).1)
ends_told TooLong now rest told memory = (refl, (told (λ e. cc)).0, (told (λ e. cc)).1)
ends_told Version now rest told memory = (refl, (told (λ e. cc)).0, (told (λ e. cc)).1)
ends_told Kind now rest told memory = (refl, (told (λ e. cc)).0, (told (λ e. cc)).1)
ends_told Field now rest told memory = (refl, (told (λ e. cc)).0, (told (λ e. cc)).1)
ends_told Length now rest told memory = (refl, (told (λ e. cc)).0, (told (λ e. cc)).1)

not_both : {X : Type 0} (fault : WireFault) (x : X) → Err fault ≡ Ok x → ⊥
not_both fault x e = cc

-- where no piece came, what is held is no whole frame
pub still_short : (o : Option WireFault) (old new : Fed) (piece : List ℕ) (frames : Vec Stamped) → FeedsAt o old piece (Ok frames) new → IsAt old.held o
    → IsAt new.held new.fault → piece ≡ [] → frame_at new.held ≡ Err Short
still_short (Some fault) old new piece frames h was is none = (let clash = h.0 in cc)
still_short None old new piece frames h was is none = elim h.1 [
  | inl some ↦ absurd (some (nothing frames.items h.0.whole h.0.each))
  | inr e ↦ subst (IsAt new.held) e is
]
  where
    nothing : (all : List Stamped) → old.held ++ piece ≡ flat_map spelling all ++ new.held → All IsSpelled all → all ≡ []
    nothing [] e each = refl
    nothing (s ∷ rest) e each =
        let first : old.held ≡ spelling s ++ (flat_map spelling rest ++ new.held) =
        sym (append-nil old.held) ∙ ap (λ l. old.held ++ l) (sym none) ∙ e ∙ append_assoc (spelling s) (flat_map spelling rest) new.held in
        absurd (not_both Short (s, length (spelling s)) (sym was ∙ ap frame_at first ∙ frame-again s (flat_map spelling rest ++ new.held)
        (each 0 s (omega arith))))
