-- The payments on the way between a node and a book.
use Rattle.std.specs.Prelude.{ℕ, ◌+◌, ◌||◌, if◌then◌else◌, List, sum_by, ℤ, pos, ◌-ℤ◌}
use Rattle.std.specs.List.{enumerate_from}
use Rattle.pvp_book.specs.declared.entry.Entry.{Entry}
use Rattle.pvp_book.specs.Ledger.{has_pay_in}
use Rattle.pvp_book.specs.Orders.{orders, has_return}
use Rattle.pvp_book.specs.Answer.{has_order}
use Rattle.rtgs_node.specs.Node.{Node, has_done, is_known}

-- the node's pay-ins that the book has not credited
abbrev pub not_credited : ℕ → Node → List Entry → ℕ
not_credited c x entries = sum_by (λ p. if has_pay_in entries c p.0 then 0 else p.1.amt) (enumerate_from 1 x.pay_ins)

-- the book's orders that the node has not done, and that are not returned in the book
abbrev pub not_done : ℕ → Node → List Entry → ℕ
not_done c x entries =
    sum_by (λ o. if has_done x o.out || has_return entries c o.out then 0 else o.amt) (orders entries c)

-- the book's orders that the node has neither done nor returned
abbrev pub not_known : ℕ → Node → List Entry → ℕ
not_known c x entries = sum_by (λ o. if is_known x o.out then 0 else o.amt) (orders entries c)

-- the pay-outs that the node has done and the book has not ordered yet
abbrev pub not_ordered : ℕ → Node → List Entry → ℕ
not_ordered c x entries = sum_by (λ o. if has_order entries c o.out then 0 else o.amt) x.pay_outs

abbrev pub way : ℕ → Node → List Entry → ℤ
way c x entries = pos (not_credited c x entries + not_done c x entries) -ℤ pos (not_ordered c x entries)
