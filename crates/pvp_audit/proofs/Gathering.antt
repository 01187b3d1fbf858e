-- Journals one behind the other.
use Rattle.std.proofs.Common.{◌≡◌, ◌≤◌, ◌<◌, ◌+◌, ◌*◌, ℕ, Bool, not, List, ◌++◌, length, take, get_or, Option, None, sym, ap, subst, ◌∙◌, arith, length-take, below_more}
use Rattle.std.proofs.lemmas.List.{get_or-take, get_or_default, take-take, take_all}
use Rattle.std.proofs.lemmas.Option.{slice_get_within, get_or_from_slice_get}
use Rattle.std.proofs.lemmas.List.Folds.{find-append}
use Rattle.std.specs.List.{find, range_with_len}
use Rattle.std.specs.Option.{option_or}
use Rattle.pvp_types.specs.declared.setup.Setup.{Setup}
use Rattle.pvp_types.specs.Setup.{faults}
use Rattle.vr_types.specs.declared.actors.TheConstants.{FIRST_NODE, FIRST_SITE}
use Rattle.pvp_journal.specs.declared.journal.Journal.{Journal as Kept}
use Rattle.pvp_audit.specs.Gathered.{AreRight, has_actor, missing_in, missing_of, wrong_with}

-- nothing is wrong with the first so many
abbrev pub AreRightTo : Setup → List ℕ → List Kept → ℕ → Type 0
AreRightTo setup mark journals n = (k : ℕ) (d : Kept) → k < n → wrong_with setup mark (take k journals) (get_or journals k d).head ≡ None

pub right-front : (setup : Setup) (mark : List ℕ) (journals : List Kept) (n : ℕ) → AreRightTo setup mark journals n → AreRight setup mark (take n journals)
right-front setup mark journals n right k journal e =
    let within : k < length (take n journals) = slice_get_within (take n journals) k journal e in
    let lt : k < n = omega (arith, length-take n journals) in
    let here : get_or journals k journal ≡ journal = sym (get_or-take n journals k journal lt)
    ∙ get_or_from_slice_get (take n journals) k journal journal e in
    let before : take k (take n journals) ≡ take k journals = take-take k n journals (omega arith) in
    rw before (subst (λ (j : Kept). wrong_with setup mark (take k journals) j.head ≡ None) here (right k journal lt))

pub right-all : (setup : Setup) (mark : List ℕ) (journals : List Kept) (n : ℕ) → AreRightTo setup mark journals n → length journals ≤ n
    → AreRight setup mark journals
right-all setup mark journals n right le =
    subst (λ (l : List Kept). AreRight setup mark l) (take_all n journals le) (right-front setup mark journals n right)

pub right-more : (setup : Setup) (mark : List ℕ) (journals : List Kept) (n : ℕ) (d : Kept) → n < length journals → AreRightTo setup mark journals n
    → wrong_with setup mark (take n journals) (get_or journals n d).head ≡ None → AreRightTo setup mark journals (n + 1)
right-more setup mark journals n d lt right here = λ k e below.
    below_more (λ (i : ℕ). wrong_with setup mark (take i journals) (get_or journals i e).head ≡ None) n (λ i less. right i e less)
    (ap (λ (j : Kept). wrong_with setup mark (take n journals) j.head) (get_or_default journals n e d lt) ∙ here) k below

-- ---- who is missing

-- the first of three parts that has one
pub missing-parts : (setup : Setup) (journals : List Kept) (members currencies f : ℕ) (a b c : Option ℕ)
    → members ≡ length setup.members → currencies ≡ length setup.currencies → f ≡ faults setup
    → a ≡ missing_of journals 0 (members + 1) → b ≡ missing_of journals FIRST_NODE currencies → c ≡ missing_of journals FIRST_SITE (2 * f + 1)
    → option_or (option_or a b) c ≡ missing_in setup journals
missing-parts setup journals members currencies f a b c em ec ef ea eb ef-c =
    let absent : ℕ → Bool = λ actor. not (has_actor journals actor) in
    let clients = range_with_len 0 (length setup.members + 1) in
    let nodes = range_with_len FIRST_NODE (length setup.currencies) in
    let sites = range_with_len FIRST_SITE (2 * faults setup + 1) in
    let first : a ≡ find absent clients = ea ∙ ap (λ (n : ℕ). missing_of journals 0 (n + 1)) em in
    let second : b ≡ find absent nodes = eb ∙ ap (λ (n : ℕ). missing_of journals FIRST_NODE n) ec in
    let third : c ≡ find absent sites = ef-c ∙ ap (λ (n : ℕ). missing_of journals FIRST_SITE (2 * n + 1)) ef in
    ap (λ (o : Option ℕ). option_or (option_or o b) c) first ∙ ap (λ (o : Option ℕ). option_or (option_or (find absent clients) o) c) second
    ∙ ap (λ (o : Option ℕ). option_or (option_or (find absent clients) (find absent nodes)) o) third
    ∙ sym (find-append absent (clients ++ nodes) sites ∙ ap (λ (o : Option ℕ). option_or o (find absent sites)) (find-append absent clients nodes))
