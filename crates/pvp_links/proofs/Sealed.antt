-- A text with its tag is found where it stands, and what is found is one.
use Rattle.std.proofs.Common.{◌≡◌, ℕ, zero, suc, ◌+◌, ◌*◌, ◌≤◌, Bool, true, false, not, cond, nat_le, nat_lt, List, ◌++◌, length, take, drop, Option, Some, None, Result, Ok, Err, refl, sym, ap, ◌∙◌, append_assoc, arith}
use Rattle.std.specs.Int.{w32, to_be_bytes}
use Rattle.std.specs.Prelude.{slice_index}
use Rattle.std.specs.Str.{bytes_eq}
use Rattle.std.proofs.lemmas.Bool.{ltb-false, le-ltb}
use Rattle.std.proofs.lemmas.List.{take_at, drop_at, length-append, length-take, length-drop, take-append-drop}
use Rattle.std.proofs.lemmas.Slice.Eq.{bytes_eq-Decides}
use Rattle.byteorder.specs.Numbers.{length-bytes_high_first}
use Rattle.sha2.specs.Sha256.{sha256, digest_bytes}
use Rattle.pvp_tags.specs.Hmac.{hmac, hmac_by_block}
use Rattle.pvp_wire.proofs.Formats.{not-false}
use Rattle.pvp_links.specs.declared.fault.LinkFault.{LinkFault}
use Rattle.pvp_links.specs.declared.link.Link.{Link}
use Rattle.pvp_links.specs.Sealing.{head_of, tag_under, tag, size_under, tag_size, sealed_from, sealed_text, AreEnds}
use Rattle.pvp_links.specs.Fronts.{sealed_at, BeginsWith}

-- ---- a tag has its size

digest-length : (h : List ℕ) (n : ℕ) → length (digest_bytes h n) ≡ 4 * n
unfolding digest_bytes
digest-length h zero = refl
digest-length h (suc n) =
    length-append (digest_bytes h n) (to_be_bytes w32 (slice_index h n)) ∙ (omega (arith, digest-length h n, length-bytes_high_first 4 (slice_index h n)))

sha-length : (m : List ℕ) → length (sha256 m) ≡ 32
unfolding sha256
sha-length m = digest-length _ 8

either : (b : Bool) (x y : List ℕ) → length x ≡ 32 → length y ≡ 32 → length (cond b x y) ≡ 32
either true x y p q = p
either false x y p q = q

hmac-length : (key message : List ℕ) → length (hmac key message) ≡ 32
hmac-length key message = either (nat_le (length key) 64) (hmac_by_block key message) (hmac_by_block (sha256 key) message) (sha-length _) (sha-length _)

under-length : (key : Option (List ℕ)) (head text : List ℕ) → length (tag_under key head text) ≡ size_under key
unfolding tag_under size_under
under-length None head text = refl
under-length (Some key) head text = length-take 16 (hmac key (head ++ text)) ∙ (omega (arith, hmac-length key (head ++ text)))

pub tag-length : (sender : ℕ) (link : Link) (text : List ℕ) → length (tag sender link text) ≡ tag_size link
tag-length sender link text = under-length link.key (head_of sender link.count) text

pub sealed-length : (sender : ℕ) (link : Link) (text : List ℕ) → length (sealed_from sender link text) ≡ length text + tag_size link
sealed-length sender link text = length-append text (tag sender link text) ∙ ap (λ (n : ℕ). length text + n) (tag-length sender link text)

-- ---- both ends tag alike

pub same_tag : (near far : Link) (text : List ℕ) → AreEnds near far → tag near.me near text ≡ tag far.peer far text
same_tag near far text ends =
    ap (λ (k : Option (List ℕ)). tag_under k (head_of near.me near.count) text) ends.key
    ∙ ap (λ (n : ℕ). tag_under far.key (head_of n near.count) text) ends.there ∙ ap (λ (n : ℕ). tag_under far.key (head_of far.peer n) text) ends.count

pub same_sealed : (near far : Link) (text : List ℕ) → AreEnds near far → sealed_text near text ≡ sealed_from far.peer far text
same_sealed near far text ends = ap (λ (t : List ℕ). text ++ t) (same_tag near far text ends)

-- ---- what was put is found

pub there : (link : Link) (text rest : List ℕ) → sealed_at link (length text) (sealed_from link.peer link text ++ rest) ≡ Ok true
unfolding sealed_at
there link text rest =
    let t = tag link.peer link text in
    let sealed = sealed_from link.peer link text in
    let bytes = sealed ++ rest in
    let shape : bytes ≡ text ++ (t ++ rest) = append_assoc text t rest in
    let size = sealed-length link.peer link text in
    let long : nat_lt (length bytes) (length text + tag_size link) ≡ false = le-ltb _ _ (omega (arith, length-append sealed rest, size)) in
    let front : take (length text) bytes ≡ text = ap (take (length text)) shape ∙ take_at text (t ++ rest) (length text) refl in
    let behind : take (tag_size link) (drop (length text) bytes) ≡ t =
    ap (λ (b : List ℕ). take (tag_size link) (drop (length text) b)) shape
    ∙ ap (take (tag_size link)) (drop_at text (t ++ rest) (length text) refl) ∙ take_at t rest (tag_size link) (tag-length link.peer link text) in
    let same : bytes_eq t t ≡ true = (bytes_eq-Decides t t).1 refl in
    rw (long, front, behind, same) refl

-- ---- what is found was put

wanted : (b : Bool) (r : Result Bool LinkFault) → cond b (Ok false) r ≡ Ok true → (b ≡ false) × (r ≡ Ok true)
wanted true r e = absurd cc
wanted false r e = (refl, e)

passed : (b : Bool) (why : LinkFault) (r : Result Bool LinkFault) → cond b (Err why) r ≡ Ok true → (b ≡ false) × (r ≡ Ok true)
passed true why r e = absurd cc
passed false why r e = (refl, e)

split : (size more : ℕ) (bytes : List ℕ) → size + more ≤ length bytes → take (size + more) bytes ≡ take size bytes ++ take more (drop size bytes)
split size more bytes long =
    let a = take size bytes in
    let d = drop size bytes in
    let b = take more d in
    let parts : bytes ≡ (a ++ b) ++ drop more d =
    sym (take-append-drop size bytes) ∙ ap (λ (x : List ℕ). a ++ x) (sym (take-append-drop more d)) ∙ sym (append_assoc a b (drop more d)) in
    let len : length (a ++ b) ≡ size + more = length-append a b ∙ (omega (arith, length-take size bytes, length-take more d, length-drop size bytes)) in
    ap (take (size + more)) parts ∙ take_at (a ++ b) (drop more d) (size + more) len

pub is_there : (link : Link) (size : ℕ) (bytes : List ℕ) → sealed_at link size bytes ≡ Ok true → BeginsWith link (take size bytes) (size + tag_size link) bytes
unfolding sealed_at
is_there link size bytes e =
    let text = take size bytes in
    let t = take (tag_size link) (drop size bytes) in
    let a = wanted (nat_lt (length bytes) (size + tag_size link)) _ e in
    let own = tag link.peer link text in
    let b = passed (not (bytes_eq own t)) _ _ a.1 in
    let long : size + tag_size link ≤ length bytes = ltb-false _ _ a.0 in
    let same : own ≡ t = (bytes_eq-Decides own t).0 (not-false _ b.0) in
    let whole : take (size + tag_size link) bytes ≡ sealed_from link.peer link text =
    split size (tag_size link) bytes long ∙ ap (λ (x : List ℕ). text ++ x) (sym same) in
    record {
      whole = whole;
      exact = sym (sealed-length link.peer link text ∙ (omega (arith, length-take size bytes, long)));
      within = long;
    }
