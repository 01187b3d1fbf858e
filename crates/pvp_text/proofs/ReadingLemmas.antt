-- Which fault is told of steps one after the other.
use Rattle.std.proofs.Common.{◌≡◌, Bool, Option, Some, None, Result, Ok, Err, inl, inr, refl}
use Rattle.pvp_text.specs.Reading.{◌>>=◌, Faults, IsSteady}
use Rattle.pvp_text.specs.declared.setup.TextFault.{TextFault}

-- a step after one that was read
at_later : {A B : Type 0} (is_memory : TextFault → Bool) (fault : TextFault) (x : A) (read : Option TextFault → Result A TextFault)
    (next : Option TextFault → A → Result B TextFault)
    → IsSteady read → read None ≡ Ok x → Faults is_memory fault (λ refused. next refused x) → Faults is_memory fault (λ refused. read refused >>= next refused)
at_later is_memory fault x read next steady held (inl failed) = inl (rw (held, failed) refl)
at_later {A} {B} is_memory fault x read next steady held (inr told) =
    let whole : (read (Some fault) >>= next (Some fault)) ≡ Err fault = elim (steady fault) [
      | inl same ↦ rw (same, held, told.1) refl
      | inr refused ↦ rw refused refl
    ] in
    inr (told.0, whole)

-- the third step
pub at_third : {A B C Z : Type 0} (is_memory : TextFault → Bool) (fault : TextFault) (a : A) (b : B)
    (first : Option TextFault → Result A TextFault) (second : Option TextFault → Result B TextFault)
    (last : Option TextFault → Result C TextFault) (make : A → B → C → Z)
    → IsSteady first → first None ≡ Ok a → IsSteady second → second None ≡ Ok b → Faults is_memory fault last
    → Faults is_memory fault (λ refused. first refused >>= λ x. second refused >>= λ y. last refused >>= λ z. Ok (make x y z))
at_third is_memory fault a b first second last make steady-a held-a steady-b held-b told =
    at_later is_memory fault a first (λ refused x. second refused >>= λ y. last refused >>= λ z. Ok (make x y z)) steady-a held-a
    (at_later is_memory fault b second (λ refused y. last refused >>= λ z. Ok (make a y z)) steady-b held-b (ended told))
  where
    ended : Faults is_memory fault last → Faults is_memory fault (λ refused. last refused >>= λ z. Ok (make a b z))
    ended (inl failed) = inl (rw failed refl)
    ended (inr refused) = inr (refused.0, rw refused.1 refl)
