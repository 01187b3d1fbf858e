-- Which pay-ins a book has, as it keeps them by number.
use Rattle.std.specs.Prelude.{◌≡◌, ℕ, ◌==◌, ◌&&◌, ◌||◌, Bool, List, nat_lt, nat_le, slice_index_or}
use Rattle.std.specs.List.{list_any}
use Rattle.pvp_book.specs.declared.entry.Entry.{Entry}
use Rattle.pvp_book.specs.declared.pay_ins.PayIns.{PayIns}
use Rattle.pvp_book.specs.Ledger.{has_pay_in}

-- a currency's pay-in of this number is among the first ones that all came, or noted separately
abbrev pub has_come : PayIns → ℕ → ℕ → Bool
has_come kept c k =
    (nat_lt 0 k && nat_le k (slice_index_or kept.up_to c 0))
    || list_any (λ x. (c == x.0) && (k == x.1)) kept.others.keys

-- it has exactly the pay-ins of these entries
abbrev pub ArePaidIn : List Entry → PayIns → Type 0
ArePaidIn entries kept = (c k : ℕ) → has_come kept c k ≡ has_pay_in entries c k
