-- Where the reader of setups fails at a part of the tree, one is found, and where it reads the parts, none is.
use Rattle.std.proofs.Common.{◌≡◌, ◌≢◌, ℕ, ◌+◌, ◌++◌, true, false, List, [], ◌∷◌, Option, Some, None, Result, Ok, Err, refl, sym, ap, ◌∙◌, codes}
use Rattle.std.specs.Prelude.{is_ok, is_none, is_some, ok_or, option_and_then, decimal, if◌then◌else◌}
use Rattle.std.specs.Str.{is_utf8}
use Rattle.serde_json.specs.Data.{Data, null, boolean, string, array, object, Items, no_items, item}
use Rattle.serde_json.specs.Data.{number as number_data}
use Rattle.serde_json.specs.Read.{read}
use Rattle.serde_json.specs.Find.{get, as_number, as_u64, as_str, as_array}
use Rattle.pvp_types.specs.declared.setup.Setup.{Setup}
use Rattle.pvp_types.specs.declared.setup.Currency.{Currency}
use Rattle.pvp_types.specs.declared.setup.Member.{Member}
use Rattle.pvp_types.specs.declared.setup.SetupFault.{SetupFault}
use Rattle.pvp_types.specs.Setup.{fault_of}
use Rattle.pvp_text.specs.declared.setup.TextFault.{TextFault}
use Rattle.pvp_text.specs.declared.setup.TextFault.TheVariants.{NotJson, BadMember}
use Rattle.pvp_text.specs.Reading.{◌>>=◌, value_or_refusal}
use Rattle.pvp_text.specs.SetupText.{Kind, or_bad_member, number, text, each_of, list, member, currency, bank_member, setup, unless_broken, setup_where, parts_where}
use Rattle.pvp_codes.specs.declared.tree.Flaw.TheVariants.{NotNumber, NotText}
use Rattle.pvp_codes.specs.Tree as part
use Rattle.pvp_codes.specs.Tree.{Found, Check, or_later, first_of, behind, here_unless, items_of, member_of, item_at, wrong_of}
use Rattle.pvp_codes.specs.Finding.{FindsAPart, FindsNoPart}

-- a part is read where nothing is found in it, and only there
abbrev Agrees : {A : Type 0} → Kind A → Check → Type 0
Agrees kind check = (d : Data) → is_ok (kind None d) ≡ is_none (check d)

-- ---- one step after another

step : {A B : Type 0} (read : Result A TextFault) (next : A → Result B TextFault) (now later : Found) → is_ok read ≡ is_none now
    → ((x : A) → is_ok (next x) ≡ is_none later) → is_ok (read >>= next) ≡ is_none (or_later now later)
step (Ok x) next None later same rest = rest x
step (Ok x) next (Some found) later same rest = absurd cc
step (Err fault) next None later same rest = absurd cc
step (Err fault) next (Some found) later same rest = refl

-- what is read, in another form
formed : {A B : Type 0} (read : Result A TextFault) (form : A → B) → is_ok (read >>= λ x. Ok (form x)) ≡ is_ok read
formed (Ok x) form = refl
formed (Err fault) form = refl

none-behind : (path : List ℕ) (found : Found) → is_none (behind path found) ≡ is_none found
none-behind path None = refl
none-behind path (Some found) = refl

-- ---- numbers, texts, lists and members

number_held : (held : Option ℕ) → is_ok (or_bad_member held) ≡ is_none (here_unless (is_some held) NotNumber)
number_held (Some n) = refl
number_held None = refl

number_read : Agrees number part.number
number_read d = number_held (option_and_then as_u64 (as_number d))

text_held : (held : Option (List ℕ)) → is_ok (or_bad_member held >>= value_or_refusal None) ≡ is_none (here_unless (is_some held) NotText)
text_held (Some s) = refl
text_held None = refl

text_read : Agrees text part.text
text_read d = text_held (as_str d)

each_read : {A : Type 0} (kind : Kind A) (check : Check) → Agrees kind check → (place : ℕ) (ds : Items)
    → is_ok (each_of kind None ds) ≡ is_none (part.each_of check place ds)
each_read kind check agrees place no_items = refl
each_read kind check agrees place (item d ds) =
    step (kind None d) (λ x. each_of kind None ds >>= λ others. Ok (x ∷ others)) (item_at check place d) (part.each_of check (place + 1) ds)
    (agrees d ∙ sym (none-behind (codes "[" ++ decimal place ++ codes "]") (check d)))
    (λ x. formed (each_of kind None ds) (λ others. x ∷ others) ∙ each_read kind check agrees (place + 1) ds)

list_held : {A : Type 0} (kind : Kind A) (check : Check) → Agrees kind check → (held : Option Items)
    → is_ok (or_bad_member held >>= each_of kind None) ≡ is_none (items_of check held)
list_held kind check agrees (Some ds) = each_read kind check agrees 0 ds
list_held kind check agrees None = refl

list_read : {A : Type 0} (kind : Kind A) (check : Check) → Agrees kind check → Agrees (list kind) (part.list check)
list_read kind check agrees d = list_held kind check agrees (as_array d)

member_held : {A : Type 0} (kind : Kind A) (check : Check) → Agrees kind check → (held : Option Data)
    → is_ok (or_bad_member held >>= kind None) ≡ is_none (member_of check held)
member_held kind check agrees (Some d) = agrees d
member_held kind check agrees None = refl

member_read : {A : Type 0} (kind : Kind A) (check : Check) → Agrees kind check → (name : List ℕ) → Agrees (member kind name) (part.member check name)
member_read kind check agrees name d =
    member_held kind check agrees (get name d) ∙ sym (none-behind (codes "." ++ name) (member_of check (get name d)))

-- a member, and what is read after it
then_member : {A B : Type 0} (kind : Kind A) (check : Check) → Agrees kind check → (name : List ℕ) (d : Data) (next : A → Result B TextFault) (later : Found)
    → ((x : A) → is_ok (next x) ≡ is_none later) → is_ok (member kind name None d >>= next) ≡ is_none (or_later (part.member check name d) later)
then_member kind check agrees name d next later rest =
    step (member kind name None d) next (part.member check name d) later (member_read kind check agrees name d) rest

-- ---- the parts of a setup

currency_read : Agrees currency part.currency
unfolding currency
currency_read null = refl
currency_read (boolean b) = refl
currency_read (number_data n) = refl
currency_read (string s) = refl
currency_read (array ds) = refl
currency_read (object ms) =
    let d = object ms in
    let last : List ℕ → ℕ → Result Currency TextFault =
    λ code rate. member number (codes "haircut") None d >>= λ haircut. Ok (record { code = code; rate = rate; haircut = haircut }) in
    let more : List ℕ → Result Currency TextFault = λ code. member number (codes "rate") None d >>= last code in
    let haircut : Found = part.member part.number (codes "haircut") d in
    then_member text part.text text_read (codes "code") d more (first_of (part.member part.number (codes "rate") d ∷ haircut ∷ [])) (λ code.
    then_member number part.number number_read (codes "rate") d (last code) (first_of (haircut ∷ [])) (λ rate.
    then_member number part.number number_read
    (codes "haircut") d (λ haircut. Ok (record { code = code; rate = rate; haircut = haircut })) None (λ haircut. refl)))

bank_member_read : Agrees bank_member part.bank_member
unfolding bank_member
bank_member_read null = refl
bank_member_read (boolean b) = refl
bank_member_read (number_data n) = refl
bank_member_read (string s) = refl
bank_member_read (array ds) = refl
bank_member_read (object ms) =
    let d = object ms in
    let last : List ℕ → ℕ → List ℕ → Result Member TextFault = λ name aggregate short. member (list number) (codes "deposit") None d >>= λ deposit.
    Ok (record { name = name; aggregate = aggregate; short = short; deposit = deposit }) in
    let third : List ℕ → ℕ → Result Member TextFault = λ name aggregate. member (list number) (codes "short") None d >>= last name aggregate in
    let second : List ℕ → Result Member TextFault = λ name. member number (codes "aggregate") None d >>= third name in
    let deposits : Found = part.member (part.list part.number) (codes "deposit") d in
    let shorts : Found = part.member (part.list part.number) (codes "short") d in
    let aggregates : Found = part.member part.number (codes "aggregate") d in
    then_member text part.text text_read (codes "name") d second (first_of (aggregates ∷ shorts ∷ deposits ∷ [])) (λ name.
    then_member number part.number number_read (codes "aggregate") d (third name) (first_of (shorts ∷ deposits ∷ [])) (λ aggregate.
    then_member (list number) (part.list part.number) (list_read number part.number number_read)
    (codes "short") d (last name aggregate) (first_of (deposits ∷ [])) (λ short.
    then_member (list number) (part.list part.number) (list_read number part.number number_read) (codes "deposit") d
    (λ deposit. Ok (record { name = name; aggregate = aggregate; short = short; deposit = deposit })) None (λ deposit. refl))))

setup_read : Agrees setup part.setup
unfolding setup
setup_read null = refl
setup_read (boolean b) = refl
setup_read (number_data n) = refl
setup_read (string s) = refl
setup_read (array ds) = refl
setup_read (object ms) =
    let d = object ms in
    let last : ℕ → List Currency → Result Setup TextFault = λ sites currencies. member (list bank_member) (codes "members") None d >>= λ members.
    Ok (record { sites = sites; currencies = currencies; members = members }) in
    let more : ℕ → Result Setup TextFault = λ sites. member (list currency) (codes "currencies") None d >>= last sites in
    let members : Found = part.member (part.list part.bank_member) (codes "members") d in
    let currencies : Found = part.member (part.list part.currency) (codes "currencies") d in
    then_member number part.number number_read (codes "sites") d more (first_of (currencies ∷ members ∷ [])) (λ sites.
    then_member (list currency) (part.list part.currency) (list_read currency part.currency currency_read)
    (codes "currencies") d (last sites) (first_of (members ∷ [])) (λ currencies.
    then_member (list bank_member) (part.list part.bank_member) (list_read bank_member part.bank_member bank_member_read) (codes "members") d
    (λ members. Ok (record { sites = sites; currencies = currencies; members = members })) None (λ members. refl)))

-- ---- the whole text

not_broken : (broken : Option SetupFault) (s : Setup) → unless_broken broken s ≡ Err BadMember → ⊥
not_broken (Some rule) s fails = absurd cc
not_broken None s fails = absurd cc

not_read : (read : Result Setup TextFault) → (read >>= λ s. unless_broken (fault_of s) s) ≡ Err BadMember → is_ok read ≡ false
not_read (Ok s) fails = absurd (not_broken (fault_of s) s fails)
not_read (Err fault) fails = refl

is_nothing : (found : Found) → is_none found ≡ true → found ≡ None
is_nothing None none = refl
is_nothing (Some found) none = absurd cc

found_in_tree : (held : Option Data) → (ok_or held NotJson >>= λ d. setup None d >>= λ s. unless_broken (fault_of s) s) ≡ Err BadMember
    → wrong_of (ok_or held NotJson) ≢ None
found_in_tree (Some d) fails none =
    let bad : true ≡ false = sym (setup_read d ∙ ap is_none none) ∙ not_read (setup None d) fails in
    absurd cc
found_in_tree None fails none = absurd cc

none_in_tree : (held : Option Data) (s : Setup) → (ok_or held NotJson >>= setup None) ≡ Ok s → wrong_of (ok_or held NotJson) ≡ None
none_in_tree (Some d) s read = is_nothing (part.setup d) (sym (setup_read d) ∙ ap is_ok read)
none_in_tree None s read = absurd cc

pub finds_a_part : FindsAPart
unfolding setup_where
finds_a_part bytes fails = found_in_tree (if is_utf8 bytes then read bytes else None) fails

pub finds_no_part : FindsNoPart
unfolding parts_where
finds_no_part bytes s is_read = none_in_tree (if is_utf8 bytes then read bytes else None) s is_read
