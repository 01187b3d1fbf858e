-- A link with more bytes, and with pieces more.
use Rattle.std.proofs.Common.{◌≡◌, ◌≢◌, ℕ, ◌<◌, ◌≤◌, ◌+◌, true, false, List, [], ◌∷◌, ◌++◌, length, drop, take, Option, Some, None, Result, Ok, Err, refl, ◌⊎◌, inl, inr, sym, ap, subst, ◌∙◌, append_assoc, append-nil, arith}
use Rattle.std.proofs.Math.Dec.{eqb-suc-zero}
use Rattle.std.proofs.lemmas.List.{drop-append-le, length-append}
use Rattle.std.specs.Io.KnownBytes.{Consumes, Keeps, IsAtEnd}
use Rattle.pvp_links.proofs.Streams.{consumes_none, consumes_more, consumes_kept}
use Rattle.pvp_rooms.specs.Gates.{Hears}
use Rattle.pvp_rooms.proofs.Hearing.{hears_none, hears_more}
use Rattle.pvp_links.specs.declared.arrival.Piece.{Piece}
use Rattle.pvp_links.specs.declared.fault.LinkFault.{LinkFault}
use Rattle.pvp_links.specs.declared.fault.LinkFault.TheVariants as fault
use Rattle.pvp_links.specs.declared.hearing.LinkEnd.{LinkEnd}
use Rattle.pvp_links.specs.declared.hearing.LinkEnd.TheVariants.{End, Cut, Read, Wrong, NoMemory, Unwanted}
use Rattle.pvp_links.specs.declared.link.Link.{Link}
use Rattle.pvp_links.specs.Sealing.{tag_size, next}
use Rattle.pvp_links.specs.Fronts.{Said, size_at, said_in, with_size, front_of, front_where, front, TakesMemory}
use Rattle.pvp_links.specs.Intakes.{TakesNext, said_by}
use Rattle.pvp_links.specs.Hearing.{ArePieces, link_after, IsTaking, IsHearing, HasTaken, StopsSo, EndsSo, IsHeardOut, end_at, end_with}
use Rattle.pvp_links.proofs.Found.{front-is, size-is}
use Rattle.pvp_links.proofs.Lasts.{front-lasts}
use Rattle.pvp_links.proofs.Sealed.{is_there}

-- what stands at the front lies within the bytes
front-within : (link : Link) (bytes : List ℕ) (s : Said) (size : ℕ) → front link bytes ≡ Ok (Some (s, size)) → size ≤ length bytes
front-within link bytes s size e =
    let p = front-is link bytes s size e in
    let begins = is_there link p.0 bytes (size-is link bytes p.0 p.1.is_size).there in
    subst (λ (m : ℕ). m ≤ length bytes) (sym p.1.whole) begins.within

there_is : (s : Said) (size : ℕ) (r : Result (Option (Said × ℕ)) LinkFault) → r ≡ Ok (Some (s, size)) → r ≢ Ok None
there_is s size r e none = cc

-- bytes more
pub pieces_on : (link : Link) (bytes more : List ℕ) (said : List Said) (left : List ℕ) → ArePieces link bytes said left
    → ArePieces link (bytes ++ more) said (left ++ more)
pieces_on link bytes more [] left h = ap (λ (l : List ℕ). l ++ more) h
pieces_on link bytes more (s ∷ said) left h =
    let within = front-within link bytes s h.0 h.1 in (
      h.0,
      front-lasts link bytes more (there_is s h.0 (front link bytes) h.1) ∙ h.1,
      subst (λ (l : List ℕ). ArePieces (next link) l said (left ++ more)) (sym (drop-append-le h.0 bytes more within))
          (pieces_on (next link) (drop h.0 bytes) more said left h.2),
    )

-- pieces more
pub pieces_more : (link : Link) (bytes mid left : List ℕ) (said more : List Said) → ArePieces link bytes said mid
    → ArePieces (link_after link said) mid more left → ArePieces link bytes (said ++ more) left
pieces_more link bytes mid left [] more h k = subst (λ (l : List ℕ). ArePieces link l more left) (sym h) k
pieces_more link bytes mid left (s ∷ said) more h k = (h.0, h.1, pieces_more (next link) (drop h.0 bytes) mid left said more h.2 k)

after_more : (link : Link) (said more : List Said) → link_after link (said ++ more) ≡ link_after (link_after link said) more
after_more link [] more = refl
after_more link (s ∷ said) more = after_more (next link) said more

-- something stands there where memory is wanted for it
with_size-some : (n : ℕ) (r : Result Said LinkFault) → with_size n r ≡ Ok None → ⊥
with_size-some n (Ok s) e = cc
with_size-some n (Err why) e = cc

memory_of : (link : Link) (bytes : List ℕ) (r : Result (Option ℕ) LinkFault) → front_of true link bytes r ≡ Err fault.NoMemory
    → front_of false link bytes r ≡ Ok None → ⊥
memory_of link bytes (Err why) h e = cc
memory_of link bytes (Ok None) h e = cc
memory_of link bytes (Ok (Some n)) h e = with_size-some (n + tag_size link) (said_in false link (take n bytes)) e

pub memory_there : (link : Link) (bytes : List ℕ) → TakesMemory link bytes → front link bytes ≢ Ok None
unfolding front_where
memory_there link bytes h e = memory_of link bytes (size_at link bytes) h e

pub some_left : (link : Link) (left : List ℕ) → front link left ≢ Ok None → 0 < length left
unfolding front_where size_at
some_left link [] h = absurd (h refl)
some_left link (b ∷ bs) h = omega arith

refused_there : (link : Link) (left : List ℕ) → front link left ≡ Err fault.NoMemory → front link left ≢ Ok None
refused_there link left h e = cc

-- why no more is heard at a fault
pub stops_at : (link : Link) (left : List ℕ) (why : LinkFault) → (front link left ≡ Err why) ⊎ ((why ≡ fault.NoMemory) × TakesMemory link left)
    → StopsSo link (Some (end_at why)) left
stops_at link left fault.NoMemory (inl h) = refused_there link left h
stops_at link left fault.NoMemory (inr h) = memory_there link left h.1
stops_at link left fault.Hello (inl h) = h
stops_at link left fault.Hello (inr h) = absurd (let e = h.0 in cc)
stops_at link left fault.Stranger (inl h) = h
stops_at link left fault.Stranger (inr h) = absurd (let e = h.0 in cc)
stops_at link left fault.Length (inl h) = h
stops_at link left fault.Length (inr h) = absurd (let e = h.0 in cc)
stops_at link left fault.Tag (inl h) = h
stops_at link left fault.Tag (inr h) = absurd (let e = h.0 in cc)
stops_at link left (fault.Wire w) (inl h) = h
stops_at link left (fault.Wire w) (inr h) = absurd (let e = h.0 in cc)
stops_at link left fault.Sender (inl h) = h
stops_at link left fault.Sender (inr h) = absurd (let e = h.0 in cc)
stops_at link left fault.Receiver (inl h) = h
stops_at link left fault.Receiver (inr h) = absurd (let e = h.0 in cc)

cut_with : (b : ℕ) (bs : List ℕ) → end_with (b ∷ bs) ≡ Cut (length (b ∷ bs))
cut_with b bs = rw (eqb-suc-zero (length bs)) refl

-- a piece of a size was heard
taking_one : {H : Type 0} (got : H → List Said → Type 0) (link : Link) (bytes : List ℕ) (s : Said) (size : ℕ) (a b : H)
    → front link bytes ≡ Ok (Some (s, size)) → Hears got a b (s ∷ []) → IsTaking got link (next link) bytes (drop size bytes) a b
taking_one got link bytes s size a b e heard = record { said = s ∷ []; pieces = (size, e, refl); behind = refl; heard = heard }

module _ {H : Type 0} (got : H → List Said → Type 0) (link : Link) where
  pub taking_none : (bytes : List ℕ) (a : H) → IsTaking got link link bytes bytes a a
  taking_none bytes a = record { said = []; pieces = refl; behind = refl; heard = hears_none got a }

  pub taking_more : (at now : Link) (bytes mid left : List ℕ) (a b c : H) → IsTaking got link at bytes mid a b → IsTaking got at now mid left b c
      → IsTaking got link now bytes left a c
  taking_more at now bytes mid left a b c h k = record {
    said = h.said ++ k.said;
    pieces = pieces_more link bytes mid left h.said k.said h.pieces (subst (λ (l : Link). ArePieces l mid k.said left) h.behind k.pieces);
    behind = k.behind ∙ ap (λ (l : Link). link_after l k.said) h.behind ∙ sym (after_more link h.said k.said);
    heard = hears_more got a b c h.said k.said h.heard k.heard;
  }

  -- bytes more
  pub taking_on : (at : Link) (bytes more left : List ℕ) (a b : H) → IsTaking got link at bytes left a b
      → IsTaking got link at (bytes ++ more) (left ++ more) a b
  taking_on at bytes more left a b h =
      record { said = h.said; pieces = pieces_on link bytes more h.said left h.pieces; behind = h.behind; heard = h.heard }

  -- what stands at the front is wrong
  pub wrong : (at : Link) (bytes left now : List ℕ) (a b : H) (why : LinkFault) → IsTaking got link at bytes left a b → TakesNext at left (Err why) now
      → HasTaken got link at bytes now a b (Some (end_at why))
  wrong at bytes left now a b why h t = (
    subst (λ (l : List ℕ). IsTaking got link at bytes l a b) (sym t.1) h,
    stops_at at now why (subst (λ (l : List ℕ). (front at l ≡ Err why) ⊎ ((why ≡ fault.NoMemory) × TakesMemory at l)) (sym t.1) t.0),
  )

  -- more bytes are wanted
  pub none_more : (at : Link) (bytes left now : List ℕ) (a b : H) → IsTaking got link at bytes left a b → TakesNext at left (Ok None) now
      → HasTaken got link at bytes now a b None
  none_more at bytes left now a b h t = (subst (λ (l : List ℕ). IsTaking got link at bytes l a b) (sym t.1) h, ap (front at) t.1 ∙ t.0)

  -- a piece was taken and heard
  pub one_more : (at : Link) (bytes left now : List ℕ) (a b c : H) (piece : Piece) → IsTaking got link at bytes left a b
      → TakesNext at left (Ok (Some piece)) now → Hears got b c (said_by piece ∷ []) → IsTaking got link (next at) bytes now a c
  one_more at bytes left now a b c piece h t heard =
      taking_more at (next at) bytes left now a b c h
      (subst (λ (l : List ℕ). IsTaking got at (next at) left l b c) (sym t.2) (taking_one got at left (said_by piece) t.0 b c t.1 heard))

  pub hearing_none : (held : List ℕ) (reader : Option (List ℕ)) (a : H) → IsHearing got link link held reader reader a a held
  hearing_none held reader a = record {
    read = [];
    consumed = consumes_none reader;
    taking = subst (λ (l : List ℕ). IsTaking got link link l held a a) (sym (append-nil held)) (taking_none held a);
  }

  -- pieces more
  pub hearing_more : (at now : Link) (held mid left : List ℕ) (before after : Option (List ℕ)) (a b c : H) → IsHearing got link at held before after a b mid
      → IsTaking got at now mid left b c → IsHearing got link now held before after a c left
  hearing_more at now held mid left before after a b c h k =
      record { read = h.read; consumed = h.consumed; taking = taking_more at now (held ++ h.read) mid left a b c h.taking k }

  -- bytes more
  pub hearing_on : (at : Link) (held left piece : List ℕ) (before after now : Option (List ℕ)) (a b : H) → IsHearing got link at held before after a b left
      → Consumes after now piece → IsHearing got link at held before now a b (left ++ piece)
  hearing_on at held left piece before after now a b h more = record {
    read = h.read ++ piece;
    consumed = consumes_more before after now h.read piece h.consumed more;
    taking =
        subst (λ (l : List ℕ). IsTaking got link at l (left ++ piece) a b) (append_assoc held h.read piece)
        (taking_on at (held ++ h.read) piece left a b h.taking);
  }

  -- and none
  pub hearing_kept : (at : Link) (held left : List ℕ) (before after now : Option (List ℕ)) (a b : H) → IsHearing got link at held before after a b left
      → Keeps after now → IsHearing got link at held before now a b left
  hearing_kept at held left before after now a b h same =
      record { read = h.read; consumed = consumes_kept before after now h.read h.consumed same; taking = h.taking }

  -- why no more of what is held is heard is why the link is read no longer
  pub stopped : (at : Link) (held left : List ℕ) (before after : Option (List ℕ)) (a b : H) (end : LinkEnd)
      → IsHearing got link at held before after a b left → StopsSo at (Some end) left → IsHeardOut got link held before after a b end
  stopped at held left before after a b end h stops = (at, left, h, ends end stops)
    where
      ends : (end : LinkEnd) → StopsSo at (Some end) left → EndsSo at end after left
      ends (Wrong why) s = s
      ends NoMemory s = some_left at left s
      ends Unwanted s = s
      ends End s = absurd s
      ends (Cut n) s = absurd s
      ends Read s = absurd s

  -- a read failed
  pub unread : (at : Link) (held left : List ℕ) (before after now : Option (List ℕ)) (a b : H) → IsHearing got link at held before after a b left
      → front at left ≡ Ok None → Keeps after now → IsHeardOut got link held before now a b Read
  unread at held left before after now a b h none same = (at, left, hearing_kept at held left before after now a b h same, none)

  -- the stream has ended
  ends_with : (at : Link) (left : List ℕ) (now : Option (List ℕ)) → IsAtEnd now → front at left ≡ Ok None → EndsSo at (end_with left) now left
  ends_with at [] now end none = (end, refl)
  ends_with at (b ∷ bs) now end none = subst (λ (e : LinkEnd). EndsSo at e now (b ∷ bs)) (sym (cut_with b bs)) (end, refl, omega arith, none)

  pub ended : (at : Link) (held left piece : List ℕ) (before after now : Option (List ℕ)) (a b : H) → IsHearing got link at held before after a b left
      → front at left ≡ Ok None → Consumes after now piece → piece ≡ [] → IsAtEnd now → IsHeardOut got link held before now a b (end_with left)
  ended at held left piece before after now a b h none more is end =
      let same : left ++ piece ≡ left = ap (λ (l : List ℕ). left ++ l) is ∙ append-nil left in (
        at,
        left,
        subst (λ (l : List ℕ). IsHearing got link at held before now a b l) same (hearing_on at held left piece before after now a b h more),
        ends_with at left now end none,
      )

  -- there is no room for what came
  pub no_room : (at : Link) (held left piece : List ℕ) (before after now : Option (List ℕ)) (a b : H) → IsHearing got link at held before after a b left
      → Consumes after now piece → 0 < length piece → IsHeardOut got link held before now a b NoMemory
  no_room at held left piece before after now a b h more some =
      (at, left ++ piece, hearing_on at held left piece before after now a b h more, omega (arith, length-append left piece, some))
