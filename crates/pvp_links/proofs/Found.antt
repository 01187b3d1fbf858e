-- What is found at one end of a link was put so at the other.
use Rattle.std.proofs.Common.{◌≡◌, ℕ, ◌+◌, ◌==◌, ◌≤◌, Bool, true, false, not, cond, nat_lt, List, [], ◌++◌, length, take, drop, Option, Some, None, Result, Ok, Err, refl, sym, ap, subst, ◌∙◌, append_assoc, arith}
use Rattle.std.specs.Str.{bytes_eq}
use Rattle.std.proofs.lemmas.Bool.{ltb-false, le-ltb, eqb-true}
use Rattle.std.proofs.lemmas.List.{append-nil, drop-drop, take_at, take-append-drop, length-append, length-take, length-drop}
use Rattle.std.proofs.lemmas.Slice.Eq.{bytes_eq-Decides}
use Rattle.byteorder.specs.Endian.{big_number}
use Rattle.byteorder.specs.Numbers.{big_from-take}
use Rattle.pvp_wire.specs.declared.fault.WireFault.{WireFault}
use Rattle.pvp_wire.specs.declared.stamped.Stamped.{Stamped}
use Rattle.pvp_wire.specs.Spelling.{number, spelling}
use Rattle.pvp_wire.specs.Fits.{IsBytes, IsSpelled}
use Rattle.pvp_wire.specs.Reading.{number_at, frame_where}
use Rattle.pvp_wire.proofs.Formats.{IsBytes-take, IsBytes-drop, not-false}
use Rattle.pvp_wire.proofs.Frames.{frame-takes}
use Rattle.pvp_wire.proofs.Numbers.{length-number}
use Rattle.pvp_wire.proofs.Parts.{n2, n4}
use Rattle.pvp_wire.proofs.Streams.{length-spelling}
use Rattle.pvp_links.specs.declared.fault.LinkFault.{LinkFault}
use Rattle.pvp_links.specs.declared.link.Link.{Link}
use Rattle.pvp_links.specs.Sealing.{tag_size, hello_text, hello_length, ping_text}
use Rattle.pvp_links.specs.Fronts.{Said, Lives, Says, BeginsWith, IsHeard, sealed_at, caller_at, nonce_at, hello_of, hello_at, is_length, size_if, size_at, addressed_envelope, said_of, said_in, with_size, front_of, front_where, front}
use Rattle.pvp_links.proofs.Sealed.{is_there}
use Rattle.pvp_links.proofs.Again.{length-first, length-hello}

-- ---- tests that did not fail

asked : {A : Type 0} (b : Bool) (r : Result (Option A) LinkFault) (x : A) → cond b (Ok None) r ≡ Ok (Some x) → (b ≡ false) × (r ≡ Ok (Some x))
asked true r x e = absurd cc
asked false r x e = (refl, e)

passed : {A : Type 0} (b : Bool) (why : LinkFault) (r : Result A LinkFault) (x : A) → cond b (Err why) r ≡ Ok x → (b ≡ false) × (r ≡ Ok x)
passed true why r x e = absurd cc
passed false why r x e = (refl, e)

abbrev said : Said → Result Said LinkFault
said s = Ok s

said_is : (s t : Said) → said s ≡ said t → s ≡ t
said_is s t e = cc

says_is : (s t : Stamped) → Says s ≡ Says t → s ≡ t
says_is s t e = cc

-- ---- the front

pub record IsSize (link : Link) (bytes : List ℕ) (n : ℕ) : Type 0 where
  pub long : 4 ≤ length bytes
  pub counts : n ≡ 4 + big_number 4 bytes
  pub there : sealed_at link n bytes ≡ Ok true

sized-is : (size : ℕ) (r : Result Bool LinkFault) (n : ℕ) → size_if size r ≡ Ok (Some n) → (r ≡ Ok true) × (size ≡ n)
sized-is size (Ok true) n e = (refl, cc)
sized-is size (Ok false) n e = absurd cc
sized-is size (Err why) n e = absurd cc

pub size-is : (link : Link) (bytes : List ℕ) (n : ℕ) → size_at link bytes ≡ Ok (Some n) → IsSize link bytes n
unfolding size_at
size-is link bytes n e =
    let size = 4 + big_number 4 bytes in
    let a = asked (nat_lt (length bytes) 4) _ n e in
    let b = passed (not (is_length (big_number 4 bytes))) _ (size_if size (sealed_at link size bytes)) (Some n) a.1 in
    let c = sized-is size (sealed_at link size bytes) n b.1 in
    record { long = ltb-false _ _ a.0; counts = sym c.1; there = ap (λ (m : ℕ). sealed_at link m bytes) (sym c.1) ∙ c.0 }

pub record IsFront (link : Link) (bytes : List ℕ) (s : Said) (size n : ℕ) : Type 0 where
  pub is_size : size_at link bytes ≡ Ok (Some n)
  pub says : said_in false link (take n bytes) ≡ Ok s
  pub whole : size ≡ n + tag_size link

abbrev found_as : Said × ℕ → Result (Option (Said × ℕ)) LinkFault
found_as x = Ok (Some x)

pair_is : (x y : Said × ℕ) → found_as x ≡ found_as y → x ≡ y
pair_is x y e = cc

with_size-is : (n : ℕ) (r : Result Said LinkFault) (s : Said) (size : ℕ) → with_size n r ≡ Ok (Some (s, size)) → (r ≡ Ok s) × (size ≡ n)
with_size-is n (Ok t) s size e =
    let p = pair_is (t, n) (s, size) e in
    (ap said (ap (λ (x : Said × ℕ). x.0) p), sym (ap (λ (x : Said × ℕ). x.1) p))
with_size-is n (Err why) s size e = absurd cc

front_of-is : (link : Link) (bytes : List ℕ) (r : Result (Option ℕ) LinkFault) (s : Said) (size : ℕ) → front_of false link bytes r ≡ Ok (Some (s, size))
    → (n : ℕ) × (r ≡ Ok (Some n)) × (said_in false link (take n bytes) ≡ Ok s) × (size ≡ n + tag_size link)
front_of-is link bytes (Ok (Some n)) s size e =
    let w = with_size-is (n + tag_size link) (said_in false link (take n bytes)) s size e in
    (n, refl, w.0, w.1)
front_of-is link bytes (Ok None) s size e = absurd cc
front_of-is link bytes (Err why) s size e = absurd cc

pub front-is : (link : Link) (bytes : List ℕ) (s : Said) (size : ℕ) → front link bytes ≡ Ok (Some (s, size)) → (n : ℕ) × IsFront link bytes s size n
unfolding front_where
front-is link bytes s size e =
    let f = front_of-is link bytes (size_at link bytes) s size e in
    (f.0, record { is_size = f.1; says = f.2; whole = f.3 })

-- ---- what it says

abbrev tested : Bool → Result Said LinkFault → Result Said LinkFault
tested b r = cond b (Ok Lives) r

lives-or : (b : Bool) (r : Result Said LinkFault) (s : Stamped) → tested b r ≡ Ok (Says s) → r ≡ Ok (Says s)
lives-or true r s e = absurd (cc)
lives-or false r s e = e

addressed-is : (link : Link) (x s : Stamped) → addressed_envelope link x ≡ Ok (Says s) → (x ≡ s) × (x.envelope.from ≡ link.peer) × (x.envelope.to ≡ link.me)
addressed-is link x s e =
    let a = passed (not (x.envelope.from == link.peer)) _ _ (Says s) e in
    let b = passed (not (x.envelope.to == link.me)) _ (said (Says x)) (Says s) a.1 in
    (says_is x s (said_is (Says x) (Says s) b.1), eqb-true _ _ (not-false _ a.0), eqb-true _ _ (not-false _ b.0))

said_of-is : (link : Link) (r : Result (Stamped × ℕ) WireFault) (s : Stamped) → said_of link r ≡ Ok (Says s)
    → (m : ℕ) × (r ≡ Ok (s, m)) × (s.envelope.from ≡ link.peer) × (s.envelope.to ≡ link.me)
said_of-is link (Ok x) s e =
    let a = addressed-is link x.0 s e in
    (x.1, ap (λ (t : Stamped). Ok (t, x.1)) a.0, sym (ap (λ (t : Stamped). t.envelope.from) a.0) ∙ a.1, sym (ap (λ (t : Stamped). t.envelope.to) a.0) ∙ a.2)
said_of-is link (Err why) s e = absurd cc

-- a frame is read to its end
read_whole : (text : List ℕ) (s : Stamped) (m : ℕ) → IsBytes text → length text ≡ 4 + big_number 4 text → frame_where false text ≡ Ok (s, m)
    → (text ≡ spelling s) × IsSpelled s
read_whole text s m fits counts e =
    let f = frame-takes text s m fits e in
    let size = length-spelling s in
    let first = length-first s f.spelled in
    let same : big_number 4 (take m text) ≡ big_number 4 text = big_from-take 0 4 m text (omega (arith, f.size, size)) in
    let whole : length text ≡ m = omega (arith, counts, sym same ∙ ap (big_number 4) f.text ∙ first, f.size, size) in
    let all : take m text ≡ text = ap (take m) (sym (append-nil text)) ∙ take_at text [] m whole in
    (sym all ∙ f.text, f.spelled)

pub frame-found : (link : Link) (bytes : List ℕ) (s : Stamped) (size : ℕ) → IsBytes bytes → front link bytes ≡ Ok (Some (Says s, size))
    → IsHeard link s size bytes
unfolding said_in
frame-found link bytes s size fits e =
    let p = front-is link bytes (Says s) size e in
    let n = p.0 in
    let text = take n bytes in
    let at = size-is link bytes n p.1.is_size in
    let begins = is_there link n bytes at.there in
    let o = said_of-is link (frame_where false text) s (lives-or (length text == 4) (said_of link (frame_where false text)) s p.1.says) in
    let first : big_number 4 text ≡ big_number 4 bytes = big_from-take 0 4 n bytes (omega (arith, at.counts)) in
    let counts : length text ≡ 4 + big_number 4 text = omega (arith, length-take n bytes, first, at.counts, begins.within) in
    let r = read_whole text s o.0 (IsBytes-take n bytes fits) counts o.1 in
    let moved : BeginsWith link (spelling s) size bytes =
    subst (λ (m : ℕ). BeginsWith link (spelling s) m bytes) (sym p.1.whole)
    (subst (λ (t : List ℕ). BeginsWith link t (n + tag_size link) bytes) r.0 begins) in
    record { begins = moved; spelled = r.1; sender = o.2; receiver = o.3 }

addressed-says : (link : Link) (x : Stamped) → addressed_envelope link x ≡ Ok Lives → ⊥
addressed-says link x e =
    let a = passed (not (x.envelope.from == link.peer)) _ _ Lives e in
    let b = passed (not (x.envelope.to == link.me)) _ (said (Says x)) Lives a.1 in
    cc

said_of-says : (link : Link) (r : Result (Stamped × ℕ) WireFault) → said_of link r ≡ Ok Lives → ⊥
said_of-says link (Ok x) e = addressed-says link x.0 e
said_of-says link (Err why) e = cc

lives-is : (b : Bool) (r : Result Said LinkFault) → tested b r ≡ Ok Lives → (r ≡ Ok Lives → ⊥) → b ≡ true
lives-is true r e other = refl
lives-is false r e other = absurd (other e)

number-back : (bytes : List ℕ) (x : ℕ) → IsBytes bytes → 4 ≤ length bytes → big_number 4 bytes ≡ x → bytes ≡ number 4 x ++ drop 4 bytes
number-back bytes x fits long e =
    let read : number_at 4 bytes ≡ Ok (x, drop 4 bytes) = rw (le-ltb (length bytes) 4 long, e) refl in
    (n4.takes bytes x (drop 4 bytes) fits read).0.parts

pub ping-found : (link : Link) (bytes : List ℕ) (size : ℕ) → IsBytes bytes → front link bytes ≡ Ok (Some (Lives, size)) → BeginsWith link ping_text size bytes
unfolding said_in
ping-found link bytes size fits e =
    let p = front-is link bytes Lives size e in
    let n = p.0 in
    let text = take n bytes in
    let at = size-is link bytes n p.1.is_size in
    let begins = is_there link n bytes at.there in
    let short : length text ≡ 4 =
    eqb-true (length text) 4 (lives-is (length text == 4) (said_of link (frame_where false text)) p.1.says (said_of-says link (frame_where false text))) in
    let four : n ≡ 4 = omega (arith, length-take n bytes, short, begins.within) in
    let none : big_number 4 bytes ≡ 0 = omega (arith, at.counts, four) in
    let front : text ≡ ping_text =
    ap (λ (m : ℕ). take m bytes) four ∙ ap (take 4) (number-back bytes 0 fits at.long none) ∙ take_at (number 4 0) (drop 4 bytes) 4 (length-number 4 0) in
    subst (λ (m : ℕ). BeginsWith link ping_text m bytes) (sym p.1.whole) (subst (λ (t : List ℕ). BeginsWith link t (n + tag_size link) bytes) front begins)

-- ---- hellos

record IsCaller (bank bytes : List ℕ) (actor : ℕ) : Type 0 where
  long : 54 ≤ length bytes
  counts : big_number 4 bytes ≡ hello_length
  id : take 32 (drop 6 bytes) ≡ bank
  who : big_number 2 (drop 4 bytes) ≡ actor

abbrev told : Option ℕ → Result (Option ℕ) LinkFault
told x = Ok x

told_is : (x y : ℕ) → told (Some x) ≡ told (Some y) → x ≡ y
told_is x y e = cc

caller-is : (bank bytes : List ℕ) (actor : ℕ) → caller_at bank bytes ≡ Ok (Some actor) → IsCaller bank bytes actor
unfolding caller_at
caller-is bank bytes actor e =
    let a = asked (nat_lt (length bytes) 4) _ actor e in
    let b = passed (not (big_number 4 bytes == hello_length)) _ _ (Some actor) a.1 in
    let c = asked (nat_lt (length bytes) (4 + hello_length)) _ actor b.1 in
    let d = passed (not (bytes_eq (take 32 (drop 6 bytes)) bank)) _ (told (Some (big_number 2 (drop 4 bytes)))) (Some actor) c.1 in
    record {
      long = ltb-false _ _ c.0;
      counts = eqb-true _ _ (not-false _ b.0);
      id = (bytes_eq-Decides (take 32 (drop 6 bytes)) bank).0 (not-false _ d.0);
      who = told_is _ _ d.1;
    }

hello_of-is : (link : Link) (bytes : List ℕ) (r : Result (Option ℕ) LinkFault) → hello_of link bytes r ≡ Ok true
    → (r ≡ Ok (Some link.peer)) × (sealed_at link (4 + hello_length) bytes ≡ Ok true)
hello_of-is link bytes (Ok (Some actor)) e =
    let a = passed (not (actor == link.peer)) _ (sealed_at link (4 + hello_length) bytes) true e in
    (ap (λ (n : ℕ). Ok (Some n)) (eqb-true actor link.peer (not-false _ a.0)), a.1)
hello_of-is link bytes (Ok None) e = absurd cc
hello_of-is link bytes (Err why) e = absurd cc

drop-two : (bytes : List ℕ) → drop 2 (drop 4 bytes) ≡ drop 6 bytes
drop-two bytes = drop-drop 2 4 bytes

hello-text : (bank bytes : List ℕ) (actor : ℕ) → IsBytes bytes → IsCaller bank bytes actor → take 54 bytes ≡ hello_text actor bank (nonce_at bytes)
hello-text bank bytes actor fits c =
    let d = drop 4 bytes in
    let dl : length d + 4 ≡ length bytes = omega (arith, length-drop 4 bytes, c.long) in
    let read : number_at 2 d ≡ Ok (actor, drop 2 d) = rw (le-ltb (length d) 2 (omega (arith, dl, c.long)), c.who) refl in
    let second : d ≡ number 2 actor ++ drop 2 d = (n2.takes d actor (drop 2 d) (IsBytes-drop 4 bytes fits) read).0.parts in
    let rest = drop 6 bytes in
    let behind = drop 38 bytes in
    let nonce = nonce_at bytes in
    let last = drop 16 behind in
    let fourth : drop 32 rest ≡ nonce ++ last = drop-drop 32 6 bytes ∙ sym (take-append-drop 16 behind) in
    let third : drop 2 d ≡ bank ++ (nonce ++ last) =
    drop-two bytes ∙ sym (take-append-drop 32 rest) ∙ ap (λ (x : List ℕ). x ++ drop 32 rest) c.id ∙ ap (λ (x : List ℕ). bank ++ x) fourth in
    let first = number-back bytes hello_length fits (omega (arith, c.long)) c.counts in
    let a = number 4 hello_length in
    let b = number 2 actor in
    let whole : bytes ≡ hello_text actor bank nonce ++ last =
    first ∙ ap (λ (x : List ℕ). a ++ x) (second ∙ ap (λ (x : List ℕ). b ++ x) third)
    ∙ sym (append_assoc a b (bank ++ (nonce ++ last))) ∙ sym (append_assoc (a ++ b) bank (nonce ++ last)) ∙ sym (append_assoc ((a ++ b) ++ bank) nonce last) in
    let rl : length rest + 6 ≡ length bytes = omega (arith, length-drop 6 bytes, c.long) in
    let size : length bank ≡ 32 = omega (arith, ap length c.id, length-take 32 rest, rl, c.long) in
    let drawn : length nonce ≡ 16 = omega (arith, length-take 16 behind, length-drop 38 bytes, c.long) in
    let count : length (hello_text actor bank nonce) ≡ 54 = length-hello actor bank nonce size drawn in
    ap (take 54) whole ∙ take_at (hello_text actor bank nonce) last 54 count

pub hello-found : (link : Link) (bytes : List ℕ) → IsBytes bytes → hello_at link bytes ≡ Ok true
    → BeginsWith link (hello_text link.peer link.bank (nonce_at bytes)) (4 + hello_length + tag_size link) bytes
hello-found link bytes fits e =
    let h = hello_of-is link bytes (caller_at link.bank bytes) e in
    let begins = is_there link (4 + hello_length) bytes h.1 in
    subst (λ (t : List ℕ). BeginsWith link t (4 + hello_length + tag_size link) bytes)
    (hello-text link.bank bytes link.peer fits (caller-is link.bank bytes link.peer h.0)) begins
