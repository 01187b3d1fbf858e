-- Commands, orders and rows in words: a command reads as a script has it.
use Rattle.std.specs.Prelude.{ℕ, ◌-◌, List, [], ◌++◌, length, slice_get, codes, decimal}
use Rattle.std.specs.List.{flat_map}
use Rattle.std.specs.Option.{option_map_or}
use Rattle.pvp_types.specs.declared.setup.Setup.{Setup}
use Rattle.pvp_types.specs.declared.command.Cmd.{Cmd}
use Rattle.pvp_types.specs.declared.command.Cmd.TheVariants.{Instruct, Rescind, Fund, Settle, PayOut, Paid, Returned}
use Rattle.pvp_types.specs.declared.command.PayOrder.{PayOrder}
use Rattle.vr_types.specs.declared.row.RowOf.{RowOf}
use Rattle.pvp_trace.specs.Names.{currency_text, actor_text}

-- a number that is of a currency: an amount, or what counts its payments
abbrev pub amount_text : Setup → ℕ → ℕ → List ℕ
amount_text setup c amt = currency_text setup c ++ codes " " ++ decimal amt

abbrev pub command_text : Setup → Cmd → List ℕ
command_text setup (Instruct asked) =
    codes "instruct " ++ decimal asked.reference ++ codes " " ++ actor_text setup asked.other
    ++ codes " " ++ amount_text setup asked.sell asked.sell_amt
    ++ codes " " ++ amount_text setup asked.buy asked.buy_amt
command_text setup (Rescind reference) = codes "rescind " ++ decimal reference
command_text setup (Fund ccy pay member amt) =
    codes "fund " ++ amount_text setup ccy pay ++ codes " " ++ actor_text setup member ++ codes " " ++ decimal amt
command_text setup (Settle most) = codes "settle " ++ decimal most
command_text setup (PayOut ccy amt) = codes "payout " ++ amount_text setup ccy amt
command_text setup (Paid ccy out) = codes "paid " ++ amount_text setup ccy out
command_text setup (Returned ccy out) = codes "returned " ++ amount_text setup ccy out

-- an order: its currency and number, whom it pays, and how much
abbrev pub order_text : Setup → PayOrder → List ℕ
order_text setup order =
    amount_text setup order.ccy order.out ++ codes " " ++ actor_text setup order.member
    ++ codes " " ++ decimal order.amt

-- a row: whose request it is, by which number, and what it asks for
abbrev pub row_text : Setup → RowOf Cmd → List ℕ
row_text setup row =
    actor_text setup row.client ++ codes " " ++ decimal row.number ++ codes " " ++ command_text setup row.cmd

-- rows: how many, and the last of them
abbrev pub rows_text : Setup → List (RowOf Cmd) → List ℕ
rows_text setup rows =
    codes " rows " ++ decimal (length rows)
    ++ option_map_or (λ row. codes " last " ++ row_text setup row) (slice_get rows (length rows - 1)) []

-- what is known of the sites' boots
abbrev pub boot_text : ℕ → List ℕ
boot_text boot = codes " " ++ decimal boot

abbrev pub boots_text : List ℕ → List ℕ
boots_text known = codes " boots" ++ flat_map boot_text known
