-- What was put at one end of a link is found at the other.
use Rattle.std.proofs.Common.{◌≡◌, ℕ, ◌+◌, ◌==◌, ◌||◌, ◌^◌, ◌<◌, ◌≤◌, Bool, true, false, nat_le, nat_lt, List, [], ◌++◌, length, take, drop, Some, Ok, refl, sym, ap, ◌∙◌, append_assoc, arith}
use Rattle.std.specs.Str.{bytes_eq}
use Rattle.std.proofs.lemmas.Bool.{le-ltb, le-leb, eq-eqb}
use Rattle.std.proofs.lemmas.List.{append-nil, take_at, drop_at, length-append}
use Rattle.std.proofs.lemmas.Slice.Eq.{bytes_eq-Decides}
use Rattle.byteorder.specs.Endian.{big_number}
use Rattle.byteorder.specs.Numbers.{big_from-append, big_number-reads_back}
use Rattle.pvp_wire.specs.declared.stamped.Stamped.{Stamped}
use Rattle.pvp_wire.specs.Spelling.{number, body, head, spelling}
use Rattle.pvp_wire.specs.Fits.{IsSpelled}
use Rattle.pvp_wire.specs.Reading.{frame_where, most_length}
use Rattle.pvp_wire.proofs.Frames.{frame-again}
use Rattle.pvp_wire.proofs.Lengths.{spelled-short}
use Rattle.pvp_wire.proofs.Numbers.{length-number}
use Rattle.pvp_wire.proofs.Parts.{both, off}
use Rattle.pvp_wire.proofs.Streams.{length-spelling}
use Rattle.pvp_links.specs.declared.link.Link.{Link}
use Rattle.pvp_links.specs.Sealing.{tag, sealed_from, sealed_text, AreEnds, IsSized, hello_text, hello_length, ping_text}
use Rattle.pvp_links.specs.Fronts.{Said, Lives, Says, sealed_at, caller_at, hello_at, is_length, size_at, said_in, front_where, front}
use Rattle.pvp_links.proofs.Sealed.{sealed-length, same_sealed, there}

pub number-first : (n x : ℕ) (rest : List ℕ) → x < 256 ^ n → big_number n (number n x ++ rest) ≡ x
unfolding number
number-first n x rest lt = big_number-reads_back n x rest lt

-- the length in front of a frame
pub length-first : (s : Stamped) → IsSpelled s → big_number 4 (spelling s) ≡ 18 + length (body s.envelope.msg)
length-first s h =
    let len = 18 + length (body s.envelope.msg) in
    let short = spelled-short s h.fits.2 h.wireable in
    ap (big_number 4) (append_assoc (number 4 len) (head s) (body s.envelope.msg)) ∙ number-first 4 len (head s ++ body s.envelope.msg) (omega (arith, short))

-- a text that its own length begins
record IsText (text : List ℕ) : Type 0 where
  long : 4 ≤ length text
  listed : is_length (big_number 4 text) ≡ true
  counts : length text ≡ 4 + big_number 4 text

behind : (link : Link) (text rest : List ℕ) → 4 ≤ length text → big_number 4 (sealed_from link.peer link text ++ rest) ≡ big_number 4 text
behind link text rest long =
    let t = tag link.peer link text in
    ap (big_number 4) (append_assoc text t rest) ∙ big_from-append 4 text (t ++ rest) long

size-there : (link : Link) (text rest : List ℕ) → IsText text → size_at link (sealed_from link.peer link text ++ rest) ≡ Ok (Some (length text))
unfolding size_at
size-there link text rest h =
    let bytes = sealed_from link.peer link text ++ rest in
    let number-is = behind link text rest h.long in
    let sealed = sealed-length link.peer link text in
    let long : nat_lt (length bytes) 4 ≡ false = le-ltb _ _ (omega (arith, length-append (sealed_from link.peer link text) rest, sealed, h.long)) in
    let listed : is_length (big_number 4 bytes) ≡ true = ap is_length number-is ∙ h.listed in
    let size : 4 + big_number 4 bytes ≡ length text = omega (arith, number-is, h.counts) in
    let found : sealed_at link (4 + big_number 4 bytes) bytes ≡ Ok true = ap (λ (n : ℕ). sealed_at link n bytes) size ∙ there link text rest in
    rw (long, listed, found, size) refl

front-there : (link : Link) (text rest : List ℕ) (said : Said) → IsText text → said_in false link text ≡ Ok said
    → front link (sealed_from link.peer link text ++ rest) ≡ Ok (Some (said, length (sealed_from link.peer link text)))
unfolding front_where
front-there link text rest said h e =
    let bytes = sealed_from link.peer link text ++ rest in
    let front : take (length text) bytes ≡ text =
    ap (take (length text)) (append_assoc text (tag link.peer link text) rest) ∙ take_at text (tag link.peer link text ++ rest) (length text) refl in
    rw (size-there link text rest h, front, e, sealed-length link.peer link text) refl

either : (a b : Bool) → b ≡ true → (a || b) ≡ true
either true b e = refl
either false b e = e

frame-text : (s : Stamped) → IsSpelled s → IsText (spelling s)
frame-text s h =
    let size = length-spelling s in
    let first = length-first s h in
    let short = spelled-short s h.fits.2 h.wireable in
    let low : nat_le 18 (big_number 4 (spelling s)) ≡ true = le-leb _ _ (omega (arith, first)) in
    let high : nat_le (big_number 4 (spelling s)) most_length ≡ true = le-leb _ _ (omega (arith, first, short)) in
    record { long = omega (arith, size); listed = either _ _ (both _ _ low high); counts = omega (arith, size, first) }

says : (link : Link) (s : Stamped) → IsSpelled s → s.envelope.from ≡ link.peer → s.envelope.to ≡ link.me → said_in false link (spelling s) ≡ Ok (Says s)
unfolding said_in
says link s h from to =
    let text = spelling s in
    let size = length-spelling s in
    let long : (length text == 4) ≡ false = off (length text) 4 (omega (arith, size)) in
    let read : frame_where false text ≡ Ok (s, length text) = ap (frame_where false) (sym (append-nil text)) ∙ frame-again s [] h in
    rw (long, read, eq-eqb s.envelope.from link.peer from, eq-eqb s.envelope.to link.me to) refl

pub frame-again-there : (near far : Link) (s : Stamped) (rest : List ℕ) → AreEnds near far → IsSpelled s → s.envelope.from ≡ near.me → s.envelope.to ≡ near.peer
    → front far (sealed_text near (spelling s) ++ rest) ≡ Ok (Some (Says s, length (sealed_text near (spelling s))))
frame-again-there near far s rest ends h from to =
    let found = front-there far (spelling s) rest (Says s) (frame-text s h) (says far s h (from ∙ ends.there) (to ∙ ends.back)) in
    rw (same_sealed near far (spelling s) ends) found

ping-text : IsText ping_text
ping-text =
    let size = length-number 4 0 in
    let first : big_number 4 ping_text ≡ 0 = ap (big_number 4) (sym (append-nil ping_text)) ∙ number-first 4 0 [] (omega arith) in
    record { long = omega (arith, size); listed = ap is_length first; counts = omega (arith, size, first) }

lives : (link : Link) → said_in false link ping_text ≡ Ok Lives
unfolding said_in
lives link = rw (eq-eqb (length ping_text) 4 (length-number 4 0)) refl

pub ping-again-there : (near far : Link) (rest : List ℕ) → AreEnds near far
    → front far (sealed_text near ping_text ++ rest) ≡ Ok (Some (Lives, length (sealed_text near ping_text)))
ping-again-there near far rest ends =
    let found = front-there far ping_text rest Lives ping-text (lives far) in
    rw (same_sealed near far ping_text ends) found

-- ---- hellos

pub length-hello : (actor : ℕ) (bank nonce : List ℕ) → length bank ≡ 32 → length nonce ≡ 16 → length (hello_text actor bank nonce) ≡ 4 + hello_length
length-hello actor bank nonce e f =
    let a = number 4 hello_length in
    let b = number 2 actor in
    omega (arith, length-append ((a ++ b) ++ bank) nonce, length-append (a ++ b) bank, length-append a b, length-number 4 hello_length, length-number 2 actor)

caller-there : (actor : ℕ) (bank nonce rest : List ℕ) → actor < 65536 → length bank ≡ 32 → length nonce ≡ 16
    → caller_at bank (hello_text actor bank nonce ++ rest) ≡ Ok (Some actor)
unfolding caller_at
caller-there actor bank nonce rest lt e f =
    let a = number 4 hello_length in
    let b = number 2 actor in
    let more = nonce ++ rest in
    let bytes = hello_text actor bank nonce ++ rest in
    let la = length-number 4 hello_length in
    let lb = length-number 2 actor in
    let total : length bytes ≡ 54 + length rest = omega (arith, length-append (hello_text actor bank nonce) rest, length-hello actor bank nonce e f) in
    let shape : bytes ≡ (a ++ b) ++ (bank ++ more) = append_assoc ((a ++ b) ++ bank) nonce rest ∙ append_assoc (a ++ b) bank more in
    let parts : bytes ≡ a ++ (b ++ (bank ++ more)) = shape ∙ append_assoc a b (bank ++ more) in
    let t1 : nat_lt (length bytes) 4 ≡ false = le-ltb _ _ (omega (arith, total)) in
    let t2 : (big_number 4 bytes == hello_length) ≡ true =
    eq-eqb _ _ (ap (big_number 4) parts ∙ number-first 4 hello_length (b ++ (bank ++ more)) (omega arith)) in
    let t3 : nat_lt (length bytes) (4 + hello_length) ≡ false = le-ltb _ _ (omega (arith, total)) in
    let id : take 32 (drop 6 bytes) ≡ bank =
    ap (λ (x : List ℕ). take 32 (drop 6 x)) shape ∙ ap (take 32) (drop_at (a ++ b) (bank ++ more) 6 (omega (arith, length-append a b, la, lb)))
    ∙ take_at bank more 32 e in
    let t4 : bytes_eq (take 32 (drop 6 bytes)) bank ≡ true = (bytes_eq-Decides _ _).1 id in
    let who : big_number 2 (drop 4 bytes) ≡ actor =
    ap (λ (x : List ℕ). big_number 2 (drop 4 x)) parts ∙ ap (big_number 2) (drop_at a (b ++ (bank ++ more)) 4 la)
    ∙ number-first 2 actor (bank ++ more) (omega arith) in
    rw (t1, t2, t3, t4, who) refl

pub caller-again-there : (near far : Link) (nonce rest : List ℕ) → AreEnds near far → IsSized near → length nonce ≡ 16
    → caller_at far.bank (sealed_text near (hello_text near.me near.bank nonce) ++ rest) ≡ Ok (Some near.me)
caller-again-there near far nonce rest ends sized drawn =
    let text = hello_text near.me near.bank nonce in
    let t = tag near.me near text in
    ap (λ (b : List ℕ). caller_at b (sealed_text near text ++ rest)) (sym ends.bank)
    ∙ ap (caller_at near.bank) (append_assoc text t rest) ∙ caller-there near.me near.bank nonce (t ++ rest) sized.me sized.bank drawn

pub hello-again-there : (near far : Link) (nonce rest : List ℕ) → AreEnds near far → IsSized near → length nonce ≡ 16
    → hello_at far (sealed_text near (hello_text near.me near.bank nonce) ++ rest) ≡ Ok true
hello-again-there near far nonce rest ends sized drawn =
    let text = hello_text near.me near.bank nonce in
    let bytes = sealed_text near text ++ rest in
    let size = length-hello near.me near.bank nonce sized.bank drawn in
    let found : sealed_at far (4 + hello_length) bytes ≡ Ok true =
    ap (λ (n : ℕ). sealed_at far n bytes) (sym size) ∙ ap (λ (b : List ℕ). sealed_at far (length text) (b ++ rest))
    (same_sealed near far text ends) ∙ there far text rest in
    rw (caller-again-there near far nonce rest ends sized drawn, eq-eqb near.me far.peer ends.there) found
