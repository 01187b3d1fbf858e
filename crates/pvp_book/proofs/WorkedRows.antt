-- Worked scripts, computed with the definitions.
use Rattle.std.proofs.Common.{◌≡◌, ℕ, List, [], ◌∷◌, ◌++◌, refl, codes, pos, negsuc}
use Rattle.pvp_types.specs.declared.setup.Setup.{Setup}
use Rattle.pvp_types.specs.declared.setup.Member.{Member}
use Rattle.pvp_types.specs.declared.command.Cmd.{Cmd}
use Rattle.pvp_types.proofs.Instructions.{instruction}
use Rattle.pvp_types.specs.declared.command.Cmd.TheVariants.{Instruct, Rescind, Fund, Settle, PayOut, Paid, Returned}
use Rattle.pvp_types.specs.declared.command.Reply.{Reply}
use Rattle.pvp_types.specs.declared.command.Reply.TheVariants.{Done, Matched, Settled, Order, No}
use Rattle.pvp_types.specs.declared.command.Reason.TheVariants.{NotYours, UnknownMember, UnknownCurrency, BadAmount, Repeated, Mismatch, UnknownReference, Late, Short, BankShort}
use Rattle.pvp_types.specs.Setup.{IsValid, meets}
use Rattle.pvp_book.specs.Settlement.{both_pass, pass, taken_by, settled_after, settled_pairs}
use Rattle.pvp_book.specs.Ledger.{Ledger, opening, balance, figure, outstanding_orders}
use Rattle.pvp_book.specs.Answer.{Row, answer, answer_to, after, book_of}

abbrev pub member : List ℕ → Member
member name = record { name = name; aggregate = 150000; short = 1000 ∷ 1000 ∷ 100000 ∷ []; deposit = 10000 ∷ 10000 ∷ 1000000 ∷ [] }

-- three currencies, and two members with equal limits
abbrev pub worked_setup : Setup
worked_setup = record {
  sites = 3;
  currencies = record { code = codes "EUR"; rate = 110; haircut = 500 }
      ∷ record { code = codes "USD"; rate = 100; haircut = 0 }
      ∷ record { code = codes "JPY"; rate = 1; haircut = 1000 } ∷ [];
  members = member (codes "ALFA") ∷ member (codes "BETA") ∷ [];
}

worked_is_valid : IsValid worked_setup
unfolding meets
worked_is_valid = refl

-- what the rows are answered, one after another
answers : Ledger → List Row → List Reply
answers held [] = []
answers held (row ∷ rows) = answer_to held row.client row.cmd ∷ answers (after held row.client row.cmd) rows

-- a member pays in 1200, asks for 200 and is paid
pays_out : List Row
pays_out =
    record { client = 102; number = 1; cmd = Fund 1 1 1 1200 }
    ∷ record { client = 1; number = 1; cmd = PayOut 1 200 }
    ∷ record { client = 102; number = 2; cmd = Paid 1 1 } ∷ []

pays_out_is_answered : answers (opening worked_setup) pays_out ≡ Done ∷ Order 1 ∷ Done ∷ []
unfolding answers pays_out answer both_pass pass taken_by settled_after settled_pairs
pays_out_is_answered = refl

pays_out_leaves : (balance worked_setup (book_of worked_setup pays_out) 1 1 ≡ pos 1000) × (figure worked_setup (book_of worked_setup pays_out) 1 ≡ pos 1000)
    × (outstanding_orders worked_setup (book_of worked_setup pays_out) ≡ [])
unfolding pays_out answer both_pass pass taken_by settled_after settled_pairs
pays_out_leaves = (refl, refl, refl)

-- the same, and the order is returned: the amount is the member's again, and the order is closed
comes_back : List Row
comes_back =
    record { client = 102; number = 1; cmd = Fund 1 1 1 1200 }
    ∷ record { client = 1; number = 1; cmd = PayOut 1 200 }
    ∷ record { client = 102; number = 2; cmd = Returned 1 1 }
    ∷ record { client = 102; number = 3; cmd = Returned 1 1 }
    ∷ record { client = 102; number = 4; cmd = Paid 1 1 }
    ∷ record { client = 102; number = 5; cmd = Returned 1 2 } ∷ []

comes_back_is_answered : answers (opening worked_setup) comes_back ≡ Done ∷ Order 1 ∷ Done ∷ No Repeated ∷ No Repeated ∷ No UnknownReference ∷ []
unfolding answers comes_back answer both_pass pass taken_by settled_after settled_pairs
comes_back_is_answered = refl

comes_back_leaves : (balance worked_setup (book_of worked_setup comes_back) 1 1 ≡ pos 1200)
    × (figure worked_setup (book_of worked_setup comes_back) 1 ≡ pos 1200)
    × (outstanding_orders worked_setup (book_of worked_setup comes_back) ≡ [])
unfolding comes_back answer both_pass pass taken_by settled_after settled_pairs
comes_back_leaves = (refl, refl, refl)

-- each check in its order
refused : List Row
refused =
    record { client = 2; number = 1; cmd = Fund 1 1 1 5 }
    ∷ record { client = 102; number = 1; cmd = Fund 1 1 3 5 }
    ∷ record { client = 1; number = 1; cmd = PayOut 3 1 }
    ∷ record { client = 102; number = 2; cmd = Fund 1 1 1 1000000000001 }
    ∷ record { client = 102; number = 3; cmd = Fund 1 0 1 5 }
    ∷ record { client = 102; number = 4; cmd = Fund 1 1 1 1000000000000 }
    ∷ record { client = 102; number = 5; cmd = Fund 1 1 1 5 }
    ∷ record { client = 2; number = 2; cmd = PayOut 1 1 }
    ∷ record { client = 102; number = 6; cmd = Paid 1 1 } ∷ []

refused_is_answered : answers (opening worked_setup) refused
    ≡ No NotYours ∷ No UnknownMember ∷ No UnknownCurrency ∷ No BadAmount ∷ No UnknownReference ∷ Done ∷ No Repeated ∷ No Short ∷ No UnknownReference ∷ []
unfolding answers refused answer both_pass pass taken_by settled_after settled_pairs
refused_is_answered = refl

-- a client's command; the definitions read no number
row : ℕ → Cmd → Row
row client cmd = record { client = client; number = 1; cmd = cmd }

-- ALFA has USD 1200 and BETA some EUR; they agree on USD 1100 for EUR 1000, and a walk follows
exchange : ℕ → List Row
exchange eur =
    row 102 (Fund 1 1 1 1200)
    ∷ row 101 (Fund 0 1 2 eur)
    ∷ row 1 (Instruct (instruction 1 2 1 1100 0 1000))
    ∷ row 2 (Instruct (instruction 1 1 0 1000 1 1100))
    ∷ row 0 (Settle 10) ∷ []

-- with EUR 47 BETA's account would have a negative value
one_short : answers (opening worked_setup) (exchange 47) ≡ Done ∷ Done ∷ Done ∷ Matched ∷ Settled 0 ∷ []
unfolding answers row exchange answer both_pass pass taken_by settled_after settled_pairs
one_short = refl

-- with EUR 48 both legs are posted
just_enough : answers (opening worked_setup) (exchange 48) ≡ Done ∷ Done ∷ Done ∷ Matched ∷ Settled 1 ∷ []
unfolding answers row exchange answer both_pass pass taken_by settled_after settled_pairs
just_enough = refl

just_enough_leaves :
    let entries = book_of worked_setup (exchange 48) in
    (balance worked_setup entries 1 0 ≡ pos 1000) × (balance worked_setup entries 1 1 ≡ pos 100) × (balance worked_setup entries 2 0 ≡ negsuc 951)
    × (balance worked_setup entries 2 1 ≡ pos 1100) × (figure worked_setup entries 0 ≡ pos 48) × (figure worked_setup entries 1 ≡ pos 1200)
unfolding row exchange answer both_pass pass taken_by settled_after settled_pairs
just_enough_leaves = (refl, refl, refl, refl, refl, refl)

-- the limit of JPY is met to the unit
short_limit : ℕ → List Row
short_limit jpy =
    row 102 (Fund 1 1 1 1200)
    ∷ row 1 (Instruct (instruction 2 2 1 1200 2 jpy))
    ∷ row 2 (Instruct (instruction 2 1 2 jpy 1 1200))
    ∷ row 0 (Settle 1) ∷ []

short_limit_is_met : answers (opening worked_setup) (short_limit 100000) ≡ Done ∷ Done ∷ Matched ∷ Settled 1 ∷ []
unfolding answers row short_limit answer both_pass pass taken_by settled_after settled_pairs
short_limit_is_met = refl

short_limit_is_passed : answers (opening worked_setup) (short_limit 100001) ≡ Done ∷ Done ∷ Matched ∷ Settled 0 ∷ []
unfolding answers row short_limit answer both_pass pass taken_by settled_after settled_pairs
short_limit_is_passed = refl

-- the second side's words are not the mirror of the first's, and then they are
mirrored : answers (opening worked_setup)
    (row 1 (Instruct (instruction 3 2 1 10 0 9)) ∷ row 2 (Instruct (instruction 3 1 0 9 1 11)) ∷ row 2 (Instruct (instruction 3 1 0 9 1 10))
    ∷ row 1 (Instruct (instruction 3 2 1 10 0 9)) ∷ [])
    ≡ Done ∷ No Mismatch ∷ Matched ∷ No Repeated ∷ []
unfolding answers row answer both_pass pass taken_by settled_after settled_pairs
mirrored = refl

-- a matched pair, which its sides then take back
rescinded : List Row → List Row
rescinded rest =
    row 102 (Fund 1 1 1 10)
    ∷ row 101 (Fund 0 1 2 9)
    ∷ row 1 (Instruct (instruction 3 2 1 10 0 9))
    ∷ row 2 (Instruct (instruction 3 1 0 9 1 10))
    ∷ row 1 (Rescind 3) ∷ rest

-- one side alone does not keep it from settling
one_side_asks : answers (opening worked_setup) (rescinded (row 0 (Settle 9) ∷ row 2 (Rescind 3) ∷ []))
    ≡ Done ∷ Done ∷ Done ∷ Matched ∷ Done ∷ Settled 1 ∷ No Late ∷ []
unfolding answers row rescinded answer both_pass pass taken_by settled_after settled_pairs
one_side_asks = refl

both_sides_ask : answers (opening worked_setup) (rescinded (row 2 (Rescind 3) ∷ row 0 (Settle 9) ∷ row 1 (Rescind 3) ∷ []))
    ≡ Done ∷ Done ∷ Done ∷ Matched ∷ Done ∷ Done ∷ Settled 0 ∷ No Late ∷ []
unfolding answers row rescinded answer both_pass pass taken_by settled_after settled_pairs
both_sides_ask = refl

-- the bank pays out no more than it holds
bank_is_short : answers (opening worked_setup) (exchange 48 ++ row 1 (PayOut 0 1000) ∷ row 1 (PayOut 0 48) ∷ row 101 (Paid 0 1) ∷ row 101 (Paid 0 1) ∷ [])
    ≡ Done ∷ Done ∷ Done ∷ Matched ∷ Settled 1 ∷ No BankShort ∷ Order 1 ∷ Done ∷ No Repeated ∷ []
unfolding answers row exchange answer both_pass pass taken_by settled_after settled_pairs
bank_is_short = refl

-- two pairs, of which the second meets the aggregate limit to the unit or passes it
aggregate_limit : ℕ → List Row
aggregate_limit jpy =
    row 102 (Fund 1 1 1 2000)
    ∷ row 102 (Fund 1 2 2 1000)
    ∷ row 1 (Instruct (instruction 1 2 1 1000 0 1000))
    ∷ row 2 (Instruct (instruction 1 1 0 1000 1 1000))
    ∷ row 1 (Instruct (instruction 2 2 1 1000 2 jpy))
    ∷ row 2 (Instruct (instruction 2 1 2 jpy 1 1000))
    ∷ row 0 (Settle 9) ∷ []

aggregate_limit_is_passed : answers (opening worked_setup) (aggregate_limit 40001) ≡ Done ∷ Done ∷ Done ∷ Matched ∷ Done ∷ Matched ∷ Settled 1 ∷ []
unfolding answers row aggregate_limit answer both_pass pass taken_by settled_after settled_pairs
aggregate_limit_is_passed = refl

aggregate_limit_is_met : answers (opening worked_setup) (aggregate_limit 40000) ≡ Done ∷ Done ∷ Done ∷ Matched ∷ Done ∷ Matched ∷ Settled 2 ∷ []
unfolding answers row aggregate_limit answer both_pass pass taken_by settled_after settled_pairs
aggregate_limit_is_met = refl

-- one walk meets each pair once: the second pair lets the first pass, but only in the next walk
one_walk : answers (opening worked_setup)
    (row 102 (Fund 1 1 1 1200) ∷ row 101 (Fund 0 1 2 47) ∷ row 1 (Instruct (instruction 1 2 1 1100 0 1000)) ∷ row 2 (Instruct (instruction 1 1 0 1000 1 1100))
    ∷ row 1 (Instruct (instruction 2 2 1 100 2 1)) ∷ row 2 (Instruct (instruction 2 1 2 1 1 100)) ∷ row 0 (Settle 10) ∷ row 0 (Settle 10) ∷ [])
    ≡ Done ∷ Done ∷ Done ∷ Matched ∷ Done ∷ Matched ∷ Settled 1 ∷ Settled 1 ∷ []
unfolding answers row answer both_pass pass taken_by settled_after settled_pairs
one_walk = refl
