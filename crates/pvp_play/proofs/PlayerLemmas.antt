-- Turns one after another, and the next open envelope.
use Rattle.std.proofs.Common.{Bor, ◌≡◌, ℕ, ◌+◌, ◌-◌, ◌==◌, Bool, false, cond, if◌then◌else◌, List, drop, Option, Some, None, option_map, ap, sym, ◌∙◌, add-one, arith}
use Rattle.std.proofs.lemmas.Bool.Decides.{nat_tests}
use Rattle.std.specs.Prelude.{slice_get, Result, Ok, Err, OnErr}
use Rattle.std.specs.List.{position_from}
use Rattle.rtgs_node.specs.Node.{Envelope}
use Rattle.vr_log.proofs.Rows.{drop_next}
use Rattle.pvp_play.specs.Player.{Position}
use Rattle.pvp_play.specs.Turns.{Turns}

module _ {S : Type 0} (Turn : S → S → Type 0) where
  -- one turn more
  pub Turns-more : (n : ℕ) (a b c : S) → Turns Turn n a b → Turn b c → Turns Turn (n + 1) a c
  Turns-more n a b c turns turn = rw add-one (b, turns, turn)

-- the first from a place on, where that place has an element
pub position-here : {X : Type 0} (test : X → Bool) (n k : ℕ) (xs : List X) (x : X) → slice_get xs n ≡ Some x
    → position_from test k (drop n xs) ≡ cond (test x) (Some k) (position_from test (k + 1) (drop (n + 1) xs))
position-here test n k xs x here = ap (position_from test k) (drop_next xs n x here)

-- the envelope of a number, by its place; q is the whole of what was opened to ask for it
pub at-place : {B : Type 0} (lent : Option (Bor Envelope)) (one : Bor Envelope) (place : ℕ) (p q : Position B) → p ≡ q
    → option_map (λ l. l.now) lent ≡ (if place + 1 == 0 then None else slice_get p.world.post (place + 1 - 1)) → lent ≡ Some one
    → slice_get q.world.post place ≡ Some one.now
at-place {B} lent one place p q same given is =
    let positive : (place + 1 == 0) ≡ false = grind (arith, nat_tests) in
    let back : place + 1 - 1 ≡ place = omega arith in
    let there : (if place + 1 == 0 then None else slice_get p.world.post (place + 1 - 1)) ≡ slice_get p.world.post place =
    ap (λ (b : Bool). if b then None else slice_get p.world.post (place + 1 - 1)) positive ∙ ap (slice_get p.world.post) back in
    ap (λ (p : Position B). slice_get p.world.post place) (sym same) ∙ sym there ∙ sym given ∙ ap (option_map (λ (l : Bor Envelope). l.now)) is

-- what is so is so of an error
pub on-error : {A E : Type 0} (result : Result A E) (P : Type 0) → P → OnErr result P
on-error (Ok done) P p = tt
on-error (Err fault) P p = p
