-- Where memory is refused, a setup is read as elsewhere, up to the refusal.
use Rattle.std.specs.Prelude.{◌≡◌, ◌⊎◌, ℕ, List, ◌∷◌, Option, Some, None, Result, Ok, Err, refl, codes}
use Rattle.std.proofs.Common.{inl, inr}
use Rattle.serde_json.specs.Data.{Data, Items, no_items, item}
use Rattle.serde_json.specs.Find.{get, as_array, as_str}
use Rattle.pvp_types.specs.declared.setup.Currency.{Currency}
use Rattle.pvp_types.specs.declared.setup.Member.{Member}
use Rattle.pvp_types.specs.declared.setup.Setup.{Setup}
use Rattle.pvp_text.specs.declared.setup.TextFault.{TextFault}
use Rattle.pvp_text.specs.Reading.{◌>>=◌, value_or_refusal, IsSteady}
use Rattle.pvp_text.specs.SetupText.{Kind, or_bad_member, number, text, each_of, list, member, currency, bank_member, setup}

-- a kind of part is read so
abbrev pub IsSteadyKind : {A : Type 0} → Kind A → Type 0
IsSteadyKind kind = (d : Data) → IsSteady (λ refused. kind refused d)

-- what is read takes no memory
plain : {A : Type 0} (given : Result A TextFault) → IsSteady (λ refused. given)
plain given refusal = inl refl

step : {A B : Type 0} (refusal : TextFault) (refused read : Result A TextFault) (next others : A → Result B TextFault)
    → (refused ≡ read) ⊎ (refused ≡ Err refusal) → ((x : A) → (next x ≡ others x) ⊎ (next x ≡ Err refusal))
    → ((refused >>= next) ≡ (read >>= others)) ⊎ ((refused >>= next) ≡ Err refusal)
step refusal refused (Ok x) next others (inl same) second = rw same (second x)
step refusal refused (Err fault) next others (inl same) second = inl (rw same refl)
step refusal refused read next others (inr told) second = inr (rw told refl)

-- one step after another
pub steady-then : {A B : Type 0} (read : Option TextFault → Result A TextFault)
    (next : Option TextFault → A → Result B TextFault)
    → IsSteady read → ((x : A) → IsSteady (λ refused. next refused x))
    → IsSteady (λ refused. read refused >>= next refused)
steady-then read next first second refusal =
    step refusal (read (Some refusal)) (read None) (next (Some refusal)) (next None)
    (first refusal) (λ x. second x refusal)

steady-each : {A : Type 0} (kind : Kind A) → IsSteadyKind kind → (ds : Items)
    → IsSteady (λ refused. each_of kind refused ds)
steady-each kind h no_items = plain (Ok _)
steady-each kind h (item d ds) =
    steady-then (λ refused. kind refused d) (λ refused x. value_or_refusal refused x >>= λ first.
    each_of kind refused ds >>= λ others. Ok (first ∷ others))
    (h d) (λ x refusal. inr refl)

pub steady-number : IsSteadyKind number
steady-number d = plain (number None d)

pub steady-text : IsSteadyKind text
steady-text d =
    steady-then (λ refused. or_bad_member (as_str d)) value_or_refusal
    (plain (or_bad_member (as_str d))) (λ x refusal. inr refl)

pub steady-list : {A : Type 0} (kind : Kind A) → IsSteadyKind kind → IsSteadyKind (list kind)
steady-list kind h d =
    steady-then (λ refused. or_bad_member (as_array d)) (each_of kind)
    (plain (or_bad_member (as_array d))) (steady-each kind h)

pub steady-member : {A : Type 0} (kind : Kind A) (name : List ℕ) → IsSteadyKind kind → IsSteadyKind (member kind name)
steady-member kind name h d =
    steady-then (λ refused. or_bad_member (get name d)) kind (plain (or_bad_member (get name d))) h

-- a member, and what is read after it
then_member : {A B : Type 0} (kind : Kind A) (name : List ℕ) (d : Data)
    (next : Option TextFault → A → Result B TextFault) → IsSteadyKind kind
    → ((x : A) → IsSteady (λ refused. next refused x))
    → IsSteady (λ refused. member kind name refused d >>= next refused)
then_member kind name d next h = steady-then (λ refused. member kind name refused d) next (steady-member kind name h d)

pub steady-currency : IsSteadyKind currency
unfolding currency
steady-currency d =
    let last : Option TextFault → List ℕ → ℕ → Result Currency TextFault =
    λ refused code rate. member number (codes "haircut") refused d >>= λ haircut.
    Ok (record { code = code; rate = rate; haircut = haircut }) in
    let more : Option TextFault → List ℕ → Result Currency TextFault =
    λ refused code. member number (codes "rate") refused d >>= last refused code in
    then_member text (codes "code") d more steady-text (λ code.
    then_member number (codes "rate") d (λ refused. last refused code) steady-number (λ rate.
    then_member number (codes "haircut") d (λ refused haircut.
    Ok (record { code = code; rate = rate; haircut = haircut })) steady-number (λ haircut. plain (Ok _))))

pub steady-bank_member : IsSteadyKind bank_member
unfolding bank_member
steady-bank_member d =
    let last : Option TextFault → List ℕ → ℕ → List ℕ → Result Member TextFault =
    λ refused name aggregate short. member (list number) (codes "deposit") refused d >>= λ deposit.
    Ok (record { name = name; aggregate = aggregate; short = short; deposit = deposit }) in
    let third : Option TextFault → List ℕ → ℕ → Result Member TextFault =
    λ refused name aggregate. member (list number) (codes "short") refused d >>= last refused name aggregate in
    let second : Option TextFault → List ℕ → Result Member TextFault =
    λ refused name. member number (codes "aggregate") refused d >>= third refused name in
    then_member text (codes "name") d second steady-text (λ name.
    then_member number (codes "aggregate") d (λ refused. third refused name) steady-number (λ aggregate.
    then_member (list number) (codes "short") d (λ refused. last refused name aggregate)
    (steady-list number steady-number) (λ short.
    then_member (list number) (codes "deposit") d (λ refused deposit.
    Ok (record { name = name; aggregate = aggregate; short = short; deposit = deposit }))
    (steady-list number steady-number) (λ deposit. plain (Ok _)))))

pub steady-setup : IsSteadyKind setup
unfolding setup
steady-setup d =
    let last : Option TextFault → ℕ → List Currency → Result Setup TextFault =
    λ refused sites currencies. member (list bank_member) (codes "members") refused d >>= λ members.
    Ok (record { sites = sites; currencies = currencies; members = members }) in
    let more : Option TextFault → ℕ → Result Setup TextFault =
    λ refused sites. member (list currency) (codes "currencies") refused d >>= last refused sites in
    then_member number (codes "sites") d more steady-number (λ sites.
    then_member (list currency) (codes "currencies") d (λ refused. last refused sites)
    (steady-list currency steady-currency) (λ currencies.
    then_member (list bank_member)
    (codes "members") d (λ refused members.
    Ok (record { sites = sites; currencies = currencies; members = members }))
    (steady-list bank_member steady-bank_member) (λ members. plain (Ok _))))
