-- What a book keeps of its orders, and what that is by the entries.
use Rattle.std.specs.Prelude.{◌≡◌, ℕ, ◌+◌, ◌-◌, ◌<◌, ◌==◌, ◌||◌, Bool, true, false, if◌then◌else◌, List, [], length, Option, None, is_some, slice_get}
use Rattle.std.specs.List.{AllPairs}
use Rattle.std.specs.Option.{option_map, option_map_or}
use Rattle.std.specs.Vec.{vec_items, vec_len, vec_capacity}
use Rattle.std.specs.VecDeque.{deque_items, deque_len, deque_capacity}
use Rattle.pvp_types.specs.declared.command.Cmd.{Cmd}
use Rattle.pvp_types.specs.declared.command.Cmd.TheVariants.{PayOut, Paid, Returned}
use Rattle.pvp_types.specs.declared.command.Reply.{Reply}
use Rattle.pvp_types.specs.declared.command.Reply.TheVariants.{Order}
use Rattle.pvp_types.specs.declared.command.PayOrder.{PayOrder}
use Rattle.pvp_book.specs.declared.entry.Entry.{Entry}
use Rattle.pvp_book.specs.declared.order_table.KeptOrder.{KeptOrder}
use Rattle.pvp_book.specs.declared.order_table.OrderTable.{OrderTable}
use Rattle.pvp_book.specs.declared.order_table.Step.{Step}
use Rattle.pvp_book.specs.declared.order_table.Step.TheVariants.{Made, Ended, Nothing}
use Rattle.pvp_book.specs.Orders.{order_of, orders, has_end}
use Rattle.pvp_book.specs.Ledger.{open_orders}

-- what an entry does to the orders
abbrev pub step_of : ℕ → Cmd → Reply → Step
step_of client (PayOut ccy amt) (Order out) = Made (record { ccy = ccy; out = out; member = client; amt = amt })
step_of client (Paid ccy out) reply = Ended ccy out
step_of client (Returned ccy out) reply = Ended ccy out
step_of client _ _ = Nothing

-- an order that was just made, and an order that also ends if `ends` is true
abbrev pub just_made : PayOrder → KeptOrder
just_made order = record { order = order; ended = false }

abbrev pub once_ended : Bool → KeptOrder → KeptOrder
once_ended ends k = record { order = k.order; ended = k.ended || ends }

-- the order of a number among those that are numbered from 1
abbrev pub at_number : List KeptOrder → ℕ → Option KeptOrder
at_number orders n = if n == 0 then None else slice_get orders (n - 1)

-- a currency's orders in the table, and for how many more it has room
abbrev pub made_at : OrderTable → ℕ → List KeptOrder
made_at table c = option_map_or vec_items (slice_get table.made c) []

abbrev pub room_at : OrderTable → ℕ → ℕ
room_at table c = option_map_or (λ v. vec_capacity v - vec_len v) (slice_get table.made c) 0

-- the order of a currency and a number in the table
abbrev pub kept_order : OrderTable → ℕ → ℕ → Option KeptOrder
kept_order table c n = at_number (made_at table c) n

abbrev pub order_at : OrderTable → ℕ → ℕ → Option PayOrder
order_at table c n = option_map (λ k. k.order) (kept_order table c n)

-- the order is noted as paid or returned
abbrev pub has_ended : OrderTable → ℕ → ℕ → Bool
has_ended table c n = option_map_or (λ k. k.ended) (kept_order table c n) false

-- a currency's open orders in the table, and for how many more it has room
abbrev pub open_at : OrderTable → ℕ → List PayOrder
open_at table c = option_map_or deque_items (slice_get table.outstanding c) []

abbrev pub open_room_at : OrderTable → ℕ → ℕ
open_room_at table c = option_map_or (λ q. deque_capacity q - deque_len q) (slice_get table.outstanding c) 0

-- each order has a lower number than those after it
abbrev pub AreAscending : List PayOrder → Type 0
AreAscending orders = AllPairs (λ a b. a.out < b.out) orders

-- the currency of a step is one of the first eight
abbrev pub IsCounted : Step → Type 0
IsCounted (Made order) = order.ccy < 8
IsCounted (Ended ccy out) = ccy < 8
IsCounted Nothing = Unit {0}

-- an order that is made has the next number, and one that ends is there
abbrev pub IsNext : Step → OrderTable → Type 0
IsNext (Made order) table = order.out ≡ length (made_at table order.ccy) + 1
IsNext (Ended ccy out) table = is_some (kept_order table ccy out) ≡ true
IsNext Nothing table = Unit {0}

-- there is room for what a step adds
abbrev pub HasRoom : Step → OrderTable → Type 0
HasRoom (Made order) table = (0 < room_at table order.ccy) × (0 < open_room_at table order.ccy)
HasRoom _ table = Unit {0}

-- the table has what these entries say
pub record AreMade (entries : List Entry) (table : OrderTable) : Type 0 where
  pub made : (c n : ℕ) → order_at table c n ≡ order_of entries c n
  pub ended : (c n : ℕ) → has_ended table c n ≡ has_end entries c n
  pub places : length table.made ≡ 8
  pub counts : (c : ℕ) → length (made_at table c) ≡ length (orders entries c)
  pub queues : length table.outstanding ≡ 8
  pub outstanding : (c : ℕ) → open_at table c ≡ open_orders entries c
