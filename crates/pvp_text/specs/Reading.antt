-- Reading by steps, and what a reader answers.
use Rattle.std.specs.Prelude.{◌≡◌, ◌⊎◌, Bool, true, Option, Some, None, Result, Ok, Err}

-- one step after another, up to the first that fails
infixl 10 ◌>>=◌
abbrev pub ◌>>=◌ : {A B E : Type 0} → Result A E → (A → Result B E) → Result B E
(Ok x) >>= f = f x
(Err e) >>= f = Err e

-- Something is kept, which takes memory. Reading is defined by what is read where no memory is refused (None), and by
-- what is read where it is refused and reported as this fault.
abbrev pub value_or_refusal : {A E : Type 0} → Option E → A → Result A E
value_or_refusal None x = Ok x
value_or_refusal (Some refusal) x = Err refusal

-- memory is refused: reading takes some before any other fault comes
abbrev pub IsRefused : {A E : Type 0} → (E → Bool) → E → (Option E → Result A E) → Type 0
IsRefused is_memory fault read = (is_memory fault ≡ true) × (read (Some fault) ≡ Err fault)

-- the fault of what is read, or a refusal of memory
abbrev pub Faults : {A E : Type 0} → (E → Bool) → E → (Option E → Result A E) → Type 0
Faults is_memory fault read = (read None ≡ Err fault) ⊎ IsRefused is_memory fault read

-- A reader answers what is read where no memory is refused: the value, which is the view of its own, or the same
-- fault. In place of either it may report that memory was refused, but only where reading takes memory.
abbrev pub Reads : {X A E : Type 0} → (X → A) → (E → Bool) → Result X E → (Option E → Result A E) → Type 0
Reads view is_memory (Ok x) read = read None ≡ Ok (view x)
Reads view is_memory (Err fault) read = Faults is_memory fault read

-- where memory is refused, reading goes as it does elsewhere, up to the refusal
abbrev pub IsSteady : {A E : Type 0} → (Option E → Result A E) → Type 0
IsSteady {A} {E} read = (refusal : E) → (read (Some refusal) ≡ read None) ⊎ (read (Some refusal) ≡ Err refusal)
