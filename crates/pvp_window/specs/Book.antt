-- THE BOOK OF A SITE as JSON: each of its readings behind the label of the site begins with the row as of which it is.
use Rattle.std.specs.Prelude.{ℕ, ◌+◌, ◌-◌, ◌++◌, nat_lt, min, List, [], length, slice_get, slice_index_or, Option, Some, None, codes, decimal, if◌then◌else◌}
use Rattle.std.specs.Fmt.{signed_decimal}
use Rattle.std.specs.List.{flat_map, range_with_len}
use Rattle.std.specs.Option.{option_map_or}
use Rattle.pvp_types.specs.declared.setup.Setup.{Setup}
use Rattle.pvp_types.specs.declared.setup.Currency.{Currency}
use Rattle.pvp_types.specs.declared.setup.Member.{Member}
use Rattle.pvp_types.specs.declared.command.PayOrder.{PayOrder}
use Rattle.pvp_types.specs.Reply.{reply_text}
use Rattle.pvp_book.specs.Ledger.{Ledger, balance, figure, value, queue, outstanding_orders, pair_state, pairs_in}
use Rattle.pvp_book.specs.Orders.{orders}
use Rattle.pvp_book.specs.declared.entry.Entry.{Entry}
use Rattle.pvp_book.specs.declared.pair.Pair.{Pair}
use Rattle.pvp_book.specs.declared.pair.PairState.{PairState}
use Rattle.pvp_book.specs.declared.pair.PairState.TheVariants.{Unmatched, Matched, Settled, Rescinded}
use Rattle.pvp_trace.specs.Words.{command_text}
use Rattle.pvp_window.specs.Json.{comma, quoted_text, quoted_actor, quoted_currency}

-- the pieces that are sums over the book
unfoldable pub figure_text : Ledger → ℕ → List ℕ
figure_text held c = signed_decimal (figure held.setup held.entries c)

unfoldable pub balance_text : Ledger → ℕ → ℕ → List ℕ
balance_text held m c = signed_decimal (balance held.setup held.entries m c)

unfoldable pub value_text : Ledger → ℕ → List ℕ
value_text held m = signed_decimal (value held.setup held.entries m)

unfoldable pub count_text : Ledger → PairState → List ℕ
count_text held state = decimal (length (pairs_in held.setup held.entries state))

unfoldable pub orders_text : Ledger → ℕ → List ℕ
orders_text held c = decimal (length (orders held.entries c))

unfoldable pub row_json : Ledger → List ℕ
row_json held = codes ",\"row\":" ++ decimal held.applied

-- a currency: its terms, the bank's figure, and how many orders were made in it
unfoldable pub currency_json : Ledger → ℕ → Currency → List ℕ
currency_json held c currency =
    codes "{\"code\":" ++ quoted_text currency.code ++ codes ",\"rate\":" ++ decimal currency.rate
    ++ codes ",\"haircut\":" ++ decimal currency.haircut
    ++ codes ",\"figure\":\"" ++ figure_text held c ++ codes "\",\"orders\":" ++ orders_text held c ++ codes "}"

unfoldable pub currency_item : Ledger → ℕ → List ℕ
currency_item held c =
    option_map_or (λ currency. comma c ++ currency_json held c currency) (slice_get held.setup.currencies c) []

abbrev pub currencies_json : Ledger → List ℕ
currencies_json held = flat_map (currency_item held) (range_with_len 0 (length held.setup.currencies))

-- a member's balance in a currency, and how far it may be below 0
unfoldable pub balance_item : Ledger → ℕ → Member → ℕ → List ℕ
balance_item held m member c =
    comma c ++ codes "{\"currency\":" ++ quoted_currency held.setup c
    ++ codes ",\"balance\":\"" ++ balance_text held m c ++ codes "\",\"short\":\"" ++ decimal (slice_index_or member.short c 0) ++ codes "\"}"

abbrev pub balances_json : Ledger → ℕ → Member → List ℕ
balances_json held m member = flat_map (balance_item held m member) (range_with_len 0 (length held.setup.currencies))

-- a member: its value, its limits and its balances
unfoldable pub named_member : Ledger → ℕ → Member → List ℕ
named_member held m member =
    codes "{\"name\":" ++ quoted_text member.name
    ++ codes ",\"value\":\"" ++ value_text held m ++ codes "\",\"aggregate\":\"" ++ decimal member.aggregate ++ codes "\""
    ++ codes ",\"balances\":[" ++ balances_json held m member ++ codes "]}"

unfoldable pub member_json : Ledger → ℕ → List ℕ
member_json held m = option_map_or (named_member held m) (slice_get held.setup.members (m - 1)) (codes "null")

unfoldable pub member_item : Ledger → ℕ → List ℕ
member_item held at = comma at ++ member_json held (at + 1)

abbrev pub members_json : Ledger → List ℕ
members_json held = flat_map (member_item held) (range_with_len 0 (length held.setup.members))

-- how many pairs are in each state
unfoldable pub tally_json : Ledger → List ℕ
tally_json held =
    codes "{\"unmatched\":" ++ count_text held Unmatched ++ codes ",\"matched\":" ++ count_text held Matched
    ++ codes ",\"settled\":" ++ count_text held Settled ++ codes ",\"rescinded\":" ++ count_text held Rescinded
    ++ codes "}"

-- a pair: its first side sells and buys this, and its second the reverse
unfoldable pub pair_json : Setup → Pair → List ℕ
pair_json setup p =
    codes "{\"reference\":" ++ decimal p.reference ++ codes ",\"first\":" ++ quoted_actor setup p.first
    ++ codes ",\"second\":" ++ quoted_actor setup p.second
    ++ codes ",\"sell\":" ++ quoted_currency setup p.sell ++ codes ",\"sell_amount\":\"" ++ decimal p.sell_amt
    ++ codes "\",\"buy\":" ++ quoted_currency setup p.buy ++ codes ",\"buy_amount\":\"" ++ decimal p.buy_amt ++ codes "\"}"

-- the first 100 of the matched pairs that wait
unfoldable pub queue_item : Ledger → ℕ → List ℕ
queue_item held at =
    option_map_or (λ p. comma at ++ pair_json held.setup p) (slice_get (queue held.setup held.entries) at) []

abbrev pub queue_json : Ledger → List ℕ
queue_json held = flat_map (queue_item held) (range_with_len 0 (min (length (queue held.setup held.entries)) 100))

-- an order: its currency and number there, whom it pays, and how much
unfoldable pub order_json : Setup → PayOrder → List ℕ
order_json setup order =
    codes "{\"currency\":" ++ quoted_currency setup order.ccy ++ codes ",\"order\":" ++ decimal order.out
    ++ codes ",\"member\":" ++ quoted_actor setup order.member ++ codes ",\"amount\":\"" ++ decimal order.amt ++ codes "\"}"

-- the first 100 of the orders that are neither paid nor returned
unfoldable pub open_item : Ledger → ℕ → List ℕ
open_item held at =
    option_map_or (λ o. comma at ++ order_json held.setup o.1)
    (slice_get (outstanding_orders held.setup held.entries) at) []

abbrev pub open_json : Ledger → List ℕ
open_json held =
    flat_map (open_item held) (range_with_len 0 (min (length (outstanding_orders held.setup held.entries)) 100))

-- what was accepted, and what each currency and each member has of it
unfoldable pub accounts_json : Ledger → List ℕ
accounts_json held =
    codes ",\"accepted\":" ++ decimal (length held.entries)
    ++ codes ",\"currencies\":[" ++ currencies_json held ++ codes "],\"members\":[" ++ members_json held ++ codes "]"

-- the pairs by state, those that wait, and the orders that are neither paid nor returned
unfoldable pub waiting_json : Ledger → List ℕ
waiting_json held =
    codes ",\"pairs\":" ++ tally_json held ++ codes ",\"queue\":[" ++ queue_json held
    ++ codes "],\"open\":" ++ decimal (length (outstanding_orders held.setup held.entries))
    ++ codes ",\"open_orders\":[" ++ open_json held ++ codes "]}\n"

-- THE WHOLE BOOK
abbrev pub book_object : Ledger → List ℕ
book_object held = row_json held ++ accounts_json held ++ waiting_json held

-- ONE MEMBER'S PART of it
abbrev pub member_object : Ledger → ℕ → List ℕ
member_object held m = row_json held ++ codes ",\"member\":" ++ member_json held m ++ codes "}\n"

-- THE STATE OF A PAIR
unfoldable pub state_name : PairState → List ℕ
state_name Unmatched = codes "unmatched"
state_name Matched = codes "matched"
state_name Settled = codes "settled"
state_name Rescinded = codes "rescinded"

unfoldable pub state_json : Option PairState → List ℕ
state_json (Some state) = quoted_text (state_name state)
state_json None = codes "null"

abbrev pub pair_object : Ledger → ℕ → List ℕ
pair_object held reference =
    row_json held ++ codes ",\"reference\":" ++ decimal reference
    ++ codes ",\"state\":" ++ state_json (pair_state held.setup held.entries reference) ++ codes "}\n"

-- an entry: its number, whose it is, what it asked for, and the answer
unfoldable pub numbered_json : Setup → ℕ → Entry → List ℕ
numbered_json setup number entry =
    codes "[" ++ decimal number ++ codes "," ++ quoted_actor setup entry.client
    ++ codes ",\"" ++ command_text setup entry.cmd ++ codes "\",\"" ++ reply_text entry.reply ++ codes "\"]"

unfoldable pub entry_item : Ledger → ℕ → ℕ → List ℕ
entry_item held from at =
    option_map_or (λ entry. comma at ++ numbered_json held.setup (from + at + 1) entry)
    (slice_get held.entries (from + at)) []

-- THE ENTRIES behind the first so many: the first 200 of them
abbrev pub entries_json : Ledger → ℕ → List ℕ
entries_json held from =
    flat_map (entry_item held from) (range_with_len 0 (min (length held.entries - from) 200))

-- of so many that are left there are more
unfoldable pub end_json : ℕ → List ℕ
end_json left = if nat_lt 200 left then codes "],\"more\":true}\n" else codes "],\"more\":false}\n"

abbrev pub entries_object : Ledger → ℕ → List ℕ
entries_object held from =
    row_json held ++ codes ",\"from\":" ++ decimal from ++ codes ",\"total\":" ++ decimal (length held.entries)
    ++ codes ",\"entries\":[" ++ entries_json held from ++ end_json (length held.entries - from)
