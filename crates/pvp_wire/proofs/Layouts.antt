-- The shape of each thing of the bank is right: what it takes is spelled so, and what is spelled so is read again.
use Rattle.std.proofs.Common.{◌≡◌, ◌≤◌, ◌+◌, ℕ, nat_le, true, false, List, [], ◌∷◌, ◌++◌, length, Option, Some, None, Ok, refl, arith}
use Rattle.std.specs.List.{list_all}
use Rattle.std.proofs.lemmas.Bool.{leb-true}
use Rattle.pvp_types.specs.declared.command.Cmd.{Cmd}
use Rattle.pvp_types.specs.declared.command.Cmd.TheVariants.{Instruct, Rescind, Fund, Settle, PayOut, Paid, Returned}
use Rattle.pvp_types.specs.declared.command.Reason.{Reason}
use Rattle.pvp_types.specs.declared.command.Reason.TheVariants as reasons
use Rattle.pvp_types.specs.declared.command.Reply as replies
use Rattle.pvp_types.specs.declared.command.Reply.TheVariants.{Done, Matched, Settled, Order, No}
use Rattle.vr_types.specs.declared.message.StateOf.{StateOf}
use Rattle.vr_types.specs.Actors.{is_actor, is_client}
use Rattle.vr_types.specs.Messages.{rows_of_state}
use Rattle.pvp_wire.specs.declared.stamped.Stamp.{Stamp}
use Rattle.pvp_wire.specs.Shape.{Reads, Fits, EachFits, wide, in_place}
use Rattle.pvp_wire.specs.Layout.{BankRow, instruct, fund, amount, order_number, command, command_at, reason, reason_number, reason_at, reply, reply_at, order, row, rows, is_site_count, boots, state, option_at, state_option, stamp}
use Rattle.pvp_wire.specs.Spelling.{has_client, most_command, most_row, most_rows, most_boots}
use Rattle.pvp_wire.specs.Reading.{IsOfField}
use Rattle.pvp_wire.proofs.Parts.{both, parted}
use Rattle.pvp_wire.proofs.Shapes.{IsRight, right_as, wide_right, listed_right, last_right, part_right, whole_right, list_right, IsGood, pick, good_field, good_bare, good_tagged, part_again, choice_right}

pub r1 : IsRight (wide 1) (Fits 1) 1
r1 = wide_right 1

pub r2 : IsRight (wide 2) (Fits 2) 2
r2 = wide_right 2

pub r4 : IsRight (wide 4) (Fits 4) 4
r4 = wide_right 4

pub r8 : IsRight (wide 8) (Fits 8) 8
r8 = wide_right 8

-- ---- commands

instruct_right : IsRight instruct instruct.Fits 24
instruct_right =
    whole_right (part_right r4 (part_right r2 (part_right r1 (part_right r8 (part_right r1 (last_right r8)))))) _
    (λ a b c d e f. ((((((tt, refl), refl), refl), refl), refl), refl)) (λ z. refl)

pub fund_right : IsRight fund fund.Fits 15
fund_right = whole_right (part_right r1 (part_right r4 (part_right r2 (last_right r8)))) _ (λ a b c d. ((((tt, refl), refl), refl), refl)) (λ z. refl)

amount_right : IsRight amount amount.Fits 9
amount_right = whole_right (part_right r1 (last_right r8)) _ (λ a b. ((tt, refl), refl)) (λ z. refl)

order_number_right : IsRight order_number order_number.Fits 5
order_number_right = whole_right (part_right r1 (last_right r4)) _ (λ a b. ((tt, refl), refl)) (λ z. refl)

abbrev GoodCommand : List ℕ → ℕ → Reads Cmd → Type 0
GoodCommand bytes tag read = IsGood (tag ∷ bytes) command.spell command.Fits IsOfField read

command_good : (tag : ℕ) (bytes : List ℕ) → GoodCommand bytes tag (command_at (tag ∷ bytes))
unfolding command_at
command_good tag bytes =
    let G = GoodCommand bytes in
    pick G tag 1 (good_tagged 1 instruct_right Instruct command.spell command.Fits bytes (λ a. refl) (λ a h. h))
    (pick G tag 2 (good_tagged 2 r4 Rescind command.spell command.Fits bytes (λ a. refl) (λ a h. h))
    (pick G tag 3 (good_tagged 3 fund_right (λ f. Fund f.0 f.1 f.2 f.3) command.spell command.Fits bytes (λ a. refl) (λ a h. h))
    (pick G tag 4 (good_tagged 4 r4 Settle command.spell command.Fits bytes (λ a. refl) (λ a h. h))
    (pick G tag 5 (good_tagged 5 amount_right (λ a. PayOut a.0 a.1) command.spell command.Fits bytes (λ a. refl) (λ a h. h))
    (pick G tag 6 (good_tagged 6 order_number_right (λ o. Paid o.0 o.1) command.spell command.Fits bytes (λ a. refl) (λ a h. h))
    (pick G tag 7 (good_tagged 7 order_number_right (λ o. Returned o.0 o.1) command.spell command.Fits bytes (λ a. refl) (λ a h. h)) good_field))))))

command_again : (cmd : Cmd) (rest : List ℕ) → command.Fits cmd → command_at (command.spell cmd ++ rest) ≡ Ok (cmd, rest)
unfolding command_at
command_again (Instruct asked) rest h = part_again instruct_right Instruct asked rest h
command_again (Rescind a) rest h = part_again r4 Rescind a rest h
command_again (Fund a b c d) rest h = part_again fund_right (λ f. Fund f.0 f.1 f.2 f.3) (a, b, c, d) rest h
command_again (Settle a) rest h = part_again r4 Settle a rest h
command_again (PayOut a b) rest h = part_again amount_right (λ a. PayOut a.0 a.1) (a, b) rest h
command_again (Paid a b) rest h = part_again order_number_right (λ o. Paid o.0 o.1) (a, b) rest h
command_again (Returned a b) rest h = part_again order_number_right (λ o. Returned o.0 o.1) (a, b) rest h

pub command_short : (cmd : Cmd) → command.Fits cmd → length (command.spell cmd) ≤ most_command
command_short (Instruct asked) h = omega (arith, instruct_right.short asked h)
command_short (Rescind a) h = omega (arith, r4.short a h)
command_short (Fund a b c d) h = omega (arith, fund_right.short (a, b, c, d) h)
command_short (Settle a) h = omega (arith, r4.short a h)
command_short (PayOut a b) h = omega (arith, amount_right.short (a, b) h)
command_short (Paid a b) h = omega (arith, order_number_right.short (a, b) h)
command_short (Returned a b) h = omega (arith, order_number_right.short (a, b) h)

pub command_right : IsRight command command.Fits most_command
unfolding command_at
command_right = choice_right command command.Fits most_command refl command_good command_again command_short

-- ---- answers

abbrev reason_text : Reason → List ℕ
reason_text why = reason_number why ∷ []

abbrev GoodReason : List ℕ → ℕ → Reads Reason → Type 0
GoodReason bytes n read = IsGood (n ∷ bytes) reason_text (λ why. Unit {0}) IsOfField read

known : (n : ℕ) (bytes : List ℕ) (why : Reason) → reason_number why ≡ n → GoodReason bytes n (Ok (why, bytes))
known n bytes why is = good_bare reason_text (λ why. Unit {0}) n bytes why (rw is refl) tt

reason_good : (n : ℕ) (bytes : List ℕ) → GoodReason bytes n (reason_at (n ∷ bytes))
reason_good n bytes =
    let G = GoodReason bytes in
    pick G n 1 (known 1 bytes _ refl) (pick G n 2 (known 2 bytes _ refl) (pick G n 3 (known 3 bytes _ refl) (pick G n 4 (known 4 bytes _ refl)
    (pick G n 5 (known 5 bytes _ refl) (pick G n 6 (known 6 bytes _ refl) (pick G n 7 (known 7 bytes _ refl) (pick G n 8 (known 8 bytes _ refl)
    (pick G n 9 (known 9 bytes _ refl) (pick G n 10 (known 10 bytes _ refl) (pick G n 11 (known 11 bytes _ refl) good_field))))))))))

reason_again : (why : Reason) (rest : List ℕ) → Unit {0} → reason_at (reason_text why ++ rest) ≡ Ok (why, rest)
reason_again reasons.NotYours rest h = refl
reason_again reasons.UnknownMember rest h = refl
reason_again reasons.UnknownCurrency rest h = refl
reason_again reasons.BadAmount rest h = refl
reason_again reasons.Repeated rest h = refl
reason_again reasons.Mismatch rest h = refl
reason_again reasons.UnknownReference rest h = refl
reason_again reasons.Late rest h = refl
reason_again reasons.Short rest h = refl
reason_again reasons.TestFails rest h = refl
reason_again reasons.BankShort rest h = refl

reason_right : IsRight reason (λ why. Unit {0}) 1
reason_right = choice_right reason (λ why. Unit {0}) 1 refl reason_good reason_again (λ why h. omega arith)

abbrev GoodReply : List ℕ → ℕ → Reads replies.Reply → Type 0
GoodReply bytes tag read = IsGood (tag ∷ bytes) reply.spell reply.Fits IsOfField read

reply_good : (tag : ℕ) (bytes : List ℕ) → GoodReply bytes tag (reply_at (tag ∷ bytes))
unfolding reply_at
reply_good tag bytes =
    let G = GoodReply bytes in
    pick G tag 1 (good_bare reply.spell reply.Fits 1 bytes Done refl tt)
    (pick G tag 2 (good_bare reply.spell reply.Fits 2 bytes Matched refl tt)
    (pick G tag 3 (good_tagged 3 r4 Settled reply.spell reply.Fits bytes (λ a. refl) (λ a h. h))
    (pick G tag 4 (good_tagged 4 r4 Order reply.spell reply.Fits bytes (λ a. refl) (λ a h. h))
    (pick G tag 5 (good_tagged 5 reason_right No reply.spell reply.Fits bytes (λ a. refl) (λ a h. h)) good_field))))

reply_again : (r : replies.Reply) (rest : List ℕ) → reply.Fits r → reply_at (reply.spell r ++ rest) ≡ Ok (r, rest)
unfolding reply_at
reply_again Done rest h = refl
reply_again Matched rest h = refl
reply_again (Settled a) rest h = part_again r4 Settled a rest h
reply_again (Order a) rest h = part_again r4 Order a rest h
reply_again (No why) rest h = part_again reason_right No why rest h

reply_short : (r : replies.Reply) → reply.Fits r → length (reply.spell r) ≤ 5
reply_short Done h = omega arith
reply_short Matched h = omega arith
reply_short (Settled a) h = omega (arith, r4.short a h)
reply_short (Order a) h = omega (arith, r4.short a h)
reply_short (No why) h = omega arith

pub reply_right : IsRight reply reply.Fits 5
unfolding reply_at
reply_right = choice_right reply reply.Fits 5 refl reply_good reply_again reply_short

-- ---- orders, rows, boots, states

pub order_right : IsRight order order.Fits 15
unfolding order
order_right = whole_right (part_right r1 (part_right r4 (part_right r2 (last_right r8)))) _ (λ a b c d. ((((tt, refl), refl), refl), refl)) (λ z. refl)

-- a row that fits, of a client
abbrev pub IsRow : BankRow → Type 0
IsRow r = row.Fits r × (has_client r ≡ true)

pub row_right : IsRight row IsRow most_row
unfolding row
row_right =
    right_as (whole_right (part_right (listed_right 2 is_client) (part_right r4 (last_right command_right))) _
    (λ a b c. (((tt, refl), refl), refl)) (λ z. refl)) (λ r h. ((h.0.0, h.1), h.0.1)) (λ r h. ((h.0.0, h.1), h.0.1))

-- rows that fit, and rows of clients
rows-fit : (log : List BankRow) → EachFits IsRow log → EachFits row.Fits log × (list_all has_client log ≡ true)
rows-fit [] h = (tt, refl)
rows-fit (r ∷ log) h = let others = rows-fit log h.1 in ((h.0.0, others.0), both (has_client r) (list_all has_client log) h.0.1 others.1)

are-rows : (log : List BankRow) → EachFits row.Fits log → list_all has_client log ≡ true → EachFits IsRow log
are-rows [] h e = tt
are-rows (r ∷ log) h e = let p = parted (has_client r) (list_all has_client log) e in ((h.0, p.0), are-rows log h.1 p.1)

-- rows that fit, of clients, and not too many
abbrev pub IsLog : List BankRow → Type 0
IsLog log = rows.Fits log × (list_all has_client log ≡ true)

pub rows_right : IsRight rows IsLog most_rows
unfolding rows
rows_right =
    right_as (list_right r2 row_right 65535 (λ k h. omega (arith, h)))
    (λ log h. let each = rows-fit log h.1 in ((h.0, each.0), each.1)) (λ log h. (h.0.0, are-rows log h.0.1 h.1))

-- the boots of 1 to 7 sites, that fit
abbrev pub AreBoots : List ℕ → Type 0
AreBoots known = boots.Fits known × (is_site_count (length known) ≡ true)

pub boots_right : IsRight boots AreBoots most_boots
unfolding boots
boots_right =
    right_as (list_right (listed_right 1 is_site_count) r4 7 (λ k h. leb-true k 7 (parted (nat_le 1 k) (nat_le k 7) h.1).1))
    (λ known h. ((h.0.0, h.1), h.0.1)) (λ known h. ((h.0.0, h.1), h.0.1))

pub in_place_boots : IsRight (in_place boots) AreBoots most_boots
in_place_boots = record { takes = boots_right.takes; again = boots_right.again; faults = boots_right.faults; short = boots_right.short }

-- a state that fits, its rows of clients
abbrev pub IsState : Option (StateOf Cmd) → Type 0
IsState s = state_option.Fits s × (list_all has_client (rows_of_state s) ≡ true)

pub state_right : IsRight state (λ s. IsState (Some s)) (2 + most_rows)
unfolding state
state_right =
    right_as (whole_right (part_right r2 (last_right rows_right)) _ (λ a b. ((tt, refl), refl)) (λ z. refl)) (λ s h. ((h.0, h.1.0), h.1.1))
    (λ s h. (h.0.0, (h.0.1, h.1)))

abbrev GoodOption : List ℕ → ℕ → Reads (Option (StateOf Cmd)) → Type 0
GoodOption bytes tag read = IsGood (tag ∷ bytes) state_option.spell IsState IsOfField read

option_good : (tag : ℕ) (bytes : List ℕ) → GoodOption bytes tag (option_at false (tag ∷ bytes))
unfolding option_at
option_good tag bytes =
    pick (GoodOption bytes) tag 0 (good_bare state_option.spell IsState 0 bytes None refl (tt, refl))
    (pick (GoodOption bytes) tag 1 (good_tagged 1 state_right Some state_option.spell IsState bytes (λ a. refl) (λ a h. h)) good_field)

option_again : (o : Option (StateOf Cmd)) (rest : List ℕ) → IsState o → option_at false (state_option.spell o ++ rest) ≡ Ok (o, rest)
unfolding option_at
option_again None rest h = refl
option_again (Some s) rest h = part_again state_right Some s rest h

option_short : (o : Option (StateOf Cmd)) → IsState o → length (state_option.spell o) ≤ 3 + most_rows
option_short None h = omega arith
option_short (Some s) h = omega (arith, state_right.short s h)

pub option_right : IsRight state_option IsState (3 + most_rows)
unfolding option_at
option_right = choice_right state_option IsState (3 + most_rows) refl option_good option_again option_short

-- a stamp that fits, of an actor
abbrev pub IsStamp : Stamp → Type 0
IsStamp s = stamp.Fits s × (is_actor s.actor ≡ true)

pub stamp_right : IsRight stamp IsStamp 14
unfolding stamp
stamp_right =
    right_as (whole_right (part_right (listed_right 2 is_actor) (part_right r8 (last_right r4))) _ (λ a b c. (((tt, refl), refl), refl)) (λ z. refl))
    (λ s h. ((h.0.0, h.1), h.0.1)) (λ s h. ((h.0.0, h.1), h.0.1))
