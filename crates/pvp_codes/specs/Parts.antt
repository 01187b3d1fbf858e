-- Which part of a setup breaks a rule, and why.
use Rattle.std.specs.Prelude.{ℕ, ◌+◌, ◌^◌, ◌==◌, not, List, [], ◌∷◌, ◌++◌, length, Option, Some, None, option_map, find, codes, decimal, bytes_eq, nat_le, if◌then◌else◌}
use Rattle.std.specs.List.{list_any}
use Rattle.pvp_types.specs.declared.setup.Setup.{Setup}
use Rattle.pvp_types.specs.declared.setup.Currency.{Currency}
use Rattle.pvp_types.specs.declared.setup.Member.{Member}
use Rattle.pvp_types.specs.declared.setup.SetupFault.{SetupFault}
use Rattle.pvp_types.specs.declared.setup.SetupFault.TheVariants as rule
use Rattle.pvp_types.specs.Setup.{is_between, is_code, is_name}
use Rattle.pvp_codes.specs.declared.parts.PartWhy.{PartWhy}
use Rattle.pvp_codes.specs.declared.parts.PartWhy.TheVariants.{CodeLetters, CodeTwice, RateRange, HaircutRange, NameLetters, NameTwice, NameOfOperator, NameOfCurrency, ShortCount, DepositCount, AggregateRange, ShortRange, DepositRange}

-- ---- a currency

-- why a currency breaks a rule, given those before it
abbrev pub currency_fault : SetupFault → List Currency → Currency → Option PartWhy
currency_fault rule.CurrencyCode before currency =
    if not (is_code currency.code) then Some CodeLetters
    else if list_any (λ other. bytes_eq other.code currency.code) before then Some CodeTwice
    else None
currency_fault rule.Rate before currency =
    if is_between 1 1000000 currency.rate then None else Some (RateRange currency.rate)
currency_fault rule.Haircut before currency =
    if nat_le currency.haircut 9999 then None else Some (HaircutRange currency.haircut)
currency_fault _ before currency = None

-- ---- a member

-- why a member's name breaks the rule of names, given the members before it
abbrev pub name_fault : Setup → List Member → Member → Option PartWhy
name_fault setup before member =
    if not (is_name member.name) then Some NameLetters
    else if list_any (λ other. bytes_eq other.name member.name) before then Some NameTwice
    else if bytes_eq member.name (codes "OP") then Some NameOfOperator
    else if list_any (λ currency. bytes_eq currency.code member.name) setup.currencies then Some NameOfCurrency
    else None

-- its lists have one place for each currency
abbrev pub places_fault : Setup → Member → Option PartWhy
places_fault setup member =
    if not (length member.short == length setup.currencies) then Some (ShortCount (length member.short))
    else if not (length member.deposit == length setup.currencies) then Some (DepositCount (length member.deposit))
    else None

-- the first of some amounts above the most that it may be
abbrev pub above : ℕ → List ℕ → Option ℕ
above most amounts = find (λ amount. not (nat_le amount most)) amounts

-- of two faults the first that there is
abbrev pub fault_or : Option PartWhy → Option PartWhy → Option PartWhy
fault_or (Some why) later = Some why
fault_or None later = later

abbrev pub limits_fault : Member → Option PartWhy
limits_fault member =
    if not (nat_le member.aggregate (10 ^ 18)) then Some (AggregateRange member.aggregate)
    else fault_or
    (option_map (λ amount. ShortRange amount) (above (10 ^ 18) member.short))
    (option_map (λ amount. DepositRange amount) (above (10 ^ 15) member.deposit))

-- why a member breaks a rule, given those before it
abbrev pub member_fault : SetupFault → Setup → List Member → Member → Option PartWhy
member_fault rule.MemberName setup before member = name_fault setup before member
member_fault rule.ListLength setup before member = places_fault setup member
member_fault rule.Limit setup before member = limits_fault member
member_fault _ setup before member = None

-- ---- the first part that breaks a rule

-- this part at its place, or else what comes later
abbrev pub this_part : {A : Type 0} → ℕ → A → Option PartWhy → Option (ℕ × A × PartWhy) → Option (ℕ × A × PartWhy)
this_part place part (Some why) later = Some (place, part, why)
this_part place part None later = later

-- THE FIRST PART that breaks a rule, its place from 0, and why; given the parts before these
abbrev pub first_part : {A : Type 0} → (List A → A → Option PartWhy) → List A → List A → Option (ℕ × A × PartWhy)
first_part fault before [] = None
first_part fault before (part ∷ parts) =
    this_part (length before) part (fault before part) (first_part fault (before ++ part ∷ []) parts)

-- ---- in words

abbrev pub part_text : PartWhy → List ℕ
part_text CodeLetters = codes "the code is not three letters A to Z"
part_text CodeTwice = codes "the code stands twice"
part_text (RateRange rate) = codes "the rate is not 1 to 1000000: " ++ decimal rate
part_text (HaircutRange haircut) = codes "the haircut is not 0 to 9999: " ++ decimal haircut
part_text NameLetters = codes "the name is not 1 to 8 of A to Z and digits, a letter first"
part_text NameTwice = codes "the name stands twice"
part_text NameOfOperator = codes "the name is OP"
part_text NameOfCurrency = codes "the name is a currency's code"
part_text (ShortCount count) = codes "the short limits are not one for each currency: " ++ decimal count
part_text (DepositCount count) = codes "the deposits are not one for each currency: " ++ decimal count
part_text (AggregateRange amount) = codes "the aggregate limit is not 0 to 1000000000000000000: " ++ decimal amount
part_text (ShortRange amount) = codes "a short limit is not 0 to 1000000000000000000: " ++ decimal amount
part_text (DepositRange amount) = codes "a deposit is not 0 to 1000000000000000: " ++ decimal amount
