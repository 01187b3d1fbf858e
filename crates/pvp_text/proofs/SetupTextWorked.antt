-- Worked texts, computed.
use Rattle.std.proofs.Common.{◌≡◌, ℕ, List, [], ◌∷◌, None, Result, Ok, Err, codes, refl}
use Rattle.std.specs.Str.{is_utf8, chars}
use Rattle.serde_json.proofs.OnLiterals.{serde_json_on_literals}
use Rattle.pvp_types.specs.declared.setup.Setup.{Setup}
use Rattle.pvp_types.specs.declared.setup.SetupFault.TheVariants.{SiteCount, CurrencyCode, ListLength}
use Rattle.pvp_types.specs.Setup.{meets}
use Rattle.pvp_text.specs.declared.setup.TextFault.{TextFault}
use Rattle.pvp_text.specs.declared.setup.TextFault.TheVariants.{NotJson, BadMember, BadSetup}
use Rattle.pvp_text.specs.Reading.{◌>>=◌}
use Rattle.pvp_text.specs.SetupText.{tree, number, currency, bank_member, setup, setup_where, setup_text}

-- a bank in three currencies with two members
abbrev three_currencies : Setup
three_currencies = record {
  sites = 3;
  currencies =
      record { code = codes "EUR"; rate = 110; haircut = 500 }
      ∷ record { code = codes "USD"; rate = 100; haircut = 0 }
      ∷ record { code = codes "JPY"; rate = 1; haircut = 1000 } ∷ [];
  members =
      record { name = codes "ALFA"; aggregate = 150000; short = 1000 ∷ 1000 ∷ 100000 ∷ []; deposit = 10000 ∷ 10000 ∷ 1000000 ∷ [] }
      ∷ record { name = codes "BETA"; aggregate = 150000; short = 1000 ∷ 1000 ∷ 100000 ∷ []; deposit = 10000 ∷ 10000 ∷ 1000000 ∷ [] } ∷ [];
}

-- each number and text at its place
reads_three_currencies
    : setup_text
    (codes
    "{\"sites\":3,\"currencies\":[{\"code\":\"EUR\",\"rate\":110,\"haircut\":500},{\"code\":\"USD\",\"rate\":100,\"haircut\":0},{\"code\":\"JPY\",\"rate\":1,\"haircut\":1000}],\"members\":[{\"name\":\"ALFA\",\"aggregate\":150000,\"short\":[1000,1000,100000],\"deposit\":[10000,10000,1000000]},{\"name\":\"BETA\",\"aggregate\":150000,\"short\":[1000,1000,100000],\"deposit\":[10000,10000,1000000]}]}")
    ≡ Ok three_currencies
unfolding setup_where setup currency bank_member meets serde_json_on_literals is_utf8 chars
reads_three_currencies = refl

-- other members are ignored, and of a name that stands twice the last value counts
ignores_others
    : setup_text
    (codes
    "{\"sites\":\"x\",\"note\":[null,1e2],\"sites\":3,\"currencies\":[{\"code\":\"EUR\",\"rate\":110,\"haircut\":500},{\"code\":\"USD\",\"rate\":7,\"rate\":100,\"rat\":1.5,\"haircut\":0},{\"code\":\"JPY\",\"rate\":1,\"haircut\":1000}],\"members\":[{\"name\":\"ALFA\",\"aggregate\":150000,\"short\":[1000,1000,100000],\"deposit\":[10000,10000,1000000]},{\"name\":\"BETA\",\"aggregate\":150000,\"short\":[1000,1000,100000],\"deposit\":[10000,10000,1000000]}]}")
    ≡ Ok three_currencies
unfolding setup_where setup currency bank_member meets serde_json_on_literals is_utf8 chars
ignores_others = refl

-- no JSON
no_json : setup_text (codes "{\"sites\":3") ≡ Err NotJson
unfolding setup_where setup currency bank_member meets serde_json_on_literals is_utf8 chars
no_json = refl

-- a number that is refused as JSON, also where it is ignored
too_large
    : setup_text
    (codes
    "{\"sites\":3,\"note\":1e999,\"currencies\":[{\"code\":\"EUR\",\"rate\":110,\"haircut\":500},{\"code\":\"USD\",\"rate\":100,\"haircut\":0},{\"code\":\"JPY\",\"rate\":1,\"haircut\":1000}],\"members\":[{\"name\":\"ALFA\",\"aggregate\":150000,\"short\":[1000,1000,100000],\"deposit\":[10000,10000,1000000]},{\"name\":\"BETA\",\"aggregate\":150000,\"short\":[1000,1000,100000],\"deposit\":[10000,10000,1000000]}]}")
    ≡ Err NotJson
unfolding setup_where setup currency bank_member meets serde_json_on_literals is_utf8 chars
too_large = refl

-- a bad member comes before a broken rule
member_before_rule : setup_text (codes "{\"sites\":4,\"currencies\":[],\"members\":[{}]}") ≡ Err BadMember
unfolding setup_where setup currency bank_member meets serde_json_on_literals is_utf8 chars
member_before_rule = refl

-- the first of several broken rules
first_rule : setup_text (codes "{\"sites\":4,\"currencies\":[],\"members\":[]}") ≡ Err (BadSetup SiteCount)
unfolding setup_where setup currency bank_member meets serde_json_on_literals is_utf8 chars
first_rule = refl

-- a code that stands twice
one_code_twice
    : setup_text
    (codes
    "{\"sites\":3,\"currencies\":[{\"code\":\"EUR\",\"rate\":110,\"haircut\":500},{\"code\":\"EUR\",\"rate\":100,\"haircut\":0},{\"code\":\"JPY\",\"rate\":1,\"haircut\":1000}],\"members\":[{\"name\":\"ALFA\",\"aggregate\":150000,\"short\":[1000,1000,100000],\"deposit\":[10000,10000,1000000]},{\"name\":\"BETA\",\"aggregate\":150000,\"short\":[1000,1000,100000],\"deposit\":[10000,10000,1000000]}]}")
    ≡ Err (BadSetup CurrencyCode)
unfolding setup_where setup currency bank_member meets serde_json_on_literals is_utf8 chars
one_code_twice = refl

-- a list with too few places
short_list
    : setup_text
    (codes
    "{\"sites\":3,\"currencies\":[{\"code\":\"EUR\",\"rate\":110,\"haircut\":500},{\"code\":\"USD\",\"rate\":100,\"haircut\":0},{\"code\":\"JPY\",\"rate\":1,\"haircut\":1000}],\"members\":[{\"name\":\"ALFA\",\"aggregate\":150000,\"short\":[1000,100000],\"deposit\":[10000,10000,1000000]},{\"name\":\"BETA\",\"aggregate\":150000,\"short\":[1000,1000,100000],\"deposit\":[10000,10000,1000000]}]}")
    ≡ Err (BadSetup ListLength)
unfolding setup_where setup currency bank_member meets serde_json_on_literals is_utf8 chars
short_list = refl

-- which number a text is, if it is one in digits alone, below 2 ^ 64
abbrev number_in : List ℕ → Result ℕ TextFault
number_in bytes = tree None bytes >>= number None

zero : number_in (codes "0") ≡ Ok 0
unfolding serde_json_on_literals is_utf8 chars
zero = refl

greatest : number_in (codes "18446744073709551615") ≡ Ok 18446744073709551615
unfolding serde_json_on_literals is_utf8 chars
greatest = refl

past_greatest : number_in (codes "18446744073709551616") ≡ Err BadMember
unfolding serde_json_on_literals is_utf8 chars
past_greatest = refl

minus_zero : number_in (codes "-0") ≡ Err BadMember
unfolding serde_json_on_literals is_utf8 chars
minus_zero = refl

negative : number_in (codes "-1") ≡ Err BadMember
unfolding serde_json_on_literals is_utf8 chars
negative = refl

with_point : number_in (codes "3.0") ≡ Err BadMember
unfolding serde_json_on_literals is_utf8 chars
with_point = refl

with_exponent : number_in (codes "1e2") ≡ Err BadMember
unfolding serde_json_on_literals is_utf8 chars
with_exponent = refl

in_quotes : number_in (codes "\"3\"") ≡ Err BadMember
unfolding serde_json_on_literals is_utf8 chars
in_quotes = refl

no_number : number_in (codes "null") ≡ Err BadMember
unfolding serde_json_on_literals is_utf8 chars
no_number = refl

leading_zero : number_in (codes "03") ≡ Err NotJson
unfolding serde_json_on_literals is_utf8 chars
leading_zero = refl
