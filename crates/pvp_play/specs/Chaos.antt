-- What a turn of chaos does: two words of a generator choose it.
use Rattle.std.specs.Prelude.{◌≡◌, ℕ, ◌+◌, ◌-◌, ◌*◌, ◌/◌, ◌%◌, ◌==◌, ◌<◌, Bool, false, nat_lt, if◌then◌else◌, List, [], ◌∷◌, ◌++◌, length, replicate, slice_get, Option, unwrap_or}
use Rattle.std.specs.List.{list_all, range_with_len}
use Rattle.std.specs.Option.{option_map_or}
use Rattle.pvp_types.specs.declared.setup.Setup.{Setup}
use Rattle.pvp_types.specs.declared.command.Instruction.{Instruction}
use Rattle.pvp_types.specs.declared.command.Cmd.{Cmd}
use Rattle.pvp_types.specs.declared.command.Cmd.TheVariants.{Instruct, Rescind, Settle, PayOut}
use Rattle.pvp_types.specs.declared.step.Step.{Step}
use Rattle.pvp_types.specs.declared.step.Step.TheVariants.{Deliver, PayIn, Submit, Beat, Timer, Crash, Restart}
use Rattle.pvp_types.specs.Instruction.{mirror}
use Rattle.vr_types.specs.declared.actors.TheConstants.{FIRST_NODE, FIRST_SITE}
use Rattle.vr_types.specs.declared.cell.BootCell.{Ghosts as Cell}
use Rattle.vr_types.specs.Site.{is_normal}
use Rattle.rand_pcg.specs.Lcg.{Lcg, started, increment_of}
use Rattle.rand_pcg.specs.Pcg.{multiplier_64, pcg32}
use Rattle.pvp_world.specs.declared.fault.WorldFault.{WorldFault}
use Rattle.pvp_world.specs.World.{ShownWorld}
use Rattle.pvp_play.specs.declared.chaos.Act.{Act}
use Rattle.pvp_play.specs.declared.chaos.Act.TheVariants.{Drains, Skips, Tries, Rests}
use Rattle.pvp_play.specs.Player.{Position, after_skip}
use Rattle.pvp_play.specs.Turns.{Turns}
use Rattle.pvp_play.specs.Player as player

abbrev pub currency_count : Setup → ℕ
currency_count setup = length setup.currencies

-- the member of the word's choice
abbrev pub any_member : Setup → ℕ → ℕ
any_member setup b = 1 + (b % length setup.members)

-- the currency of the word's choice
abbrev pub any_currency : Setup → ℕ → ℕ
any_currency setup b = (b / 64) % currency_count setup

-- the actor of the word's choice, among the sites, the nodes, the operator and the members in this order
abbrev pub any_actor : Setup → ℕ → ℕ
any_actor setup b =
    let k = b % (setup.sites + currency_count setup + 1 + length setup.members) in
    if nat_lt k setup.sites then FIRST_SITE + k
    else if nat_lt k (setup.sites + currency_count setup) then FIRST_NODE + (k - setup.sites)
    else k - (setup.sites + currency_count setup)

-- THE TRADES that chaos has made, one a reference

abbrev pub any_reference : ℕ → ℕ
any_reference b = 1 + ((b / 64) % 200)

-- the member on a side of the trade of a reference
abbrev pub on_side : Setup → ℕ → ℕ → ℕ
on_side setup reference side = 1 + ((reference + side) % length setup.members)

abbrev pub first_currency : Setup → ℕ → ℕ
first_currency setup reference = reference % currency_count setup

abbrev pub second_currency : Setup → ℕ → ℕ
second_currency setup reference = (reference + 1) % currency_count setup

abbrev pub first_amount : ℕ → ℕ
first_amount reference = 1 + ((7 * reference) % 100)

abbrev pub second_amount : ℕ → ℕ
second_amount reference = 1 + ((11 * reference) % 100)

-- what side 0 asks for
abbrev pub opening_side : Setup → ℕ → Instruction
opening_side setup r = record {
  reference = r;
  other = on_side setup r 1;
  sell = first_currency setup r;
  buy = second_currency setup r;
  sell_amt = first_amount r;
  buy_amt = second_amount r;
}

-- what side 0 or side 1 asks for: each sells what the other buys
abbrev pub instruction : Setup → ℕ → ℕ → Cmd
instruction setup r side =
    if side == 0 then Instruct (opening_side setup r)
    else Instruct (mirror (on_side setup r 0) (opening_side setup r))

-- SITES

-- the site of a number is there and normal
abbrev pub is_normal_at : {B : Type 0} → ShownWorld B → ℕ → Bool
is_normal_at world i = option_map_or (λ v. is_normal v.volatile.status) (slice_get world.sites i) false

-- every site is
abbrev pub are_normal : {B : Type 0} → ShownWorld B → Bool
are_normal world = list_all (is_normal_at world) (range_with_len 0 world.setup.sites)

-- A TURN

-- some envelope that was ever sent
abbrev pub any_delivery : {B : Type 0} → ShownWorld B → ℕ → Act
any_delivery world b = if length world.post == 0 then Rests else Tries (Deliver (1 + (b % length world.post)))

abbrev pub any_pay_in : Setup → ℕ → Step
any_pay_in setup b = PayIn (any_currency setup b) (any_member setup b) (1 + ((b / 512) % 1000))

abbrev pub any_pay_out : Setup → ℕ → Step
any_pay_out setup b = Submit (any_member setup b) (PayOut (any_currency setup b) (1 + ((b / 512) % 500)))

abbrev pub any_instruction : Setup → ℕ → Step
any_instruction setup b =
    let reference = any_reference b in
    Submit (on_side setup reference (b % 2)) (instruction setup reference (b % 2))

abbrev pub any_rescission : Setup → ℕ → Step
any_rescission setup b = let reference = any_reference b in Submit (on_side setup reference (b % 2)) (Rescind reference)

abbrev pub any_settlement : ℕ → Step
any_settlement b = Submit 0 (Settle (1 + (b % 8)))

-- a site's timer runs out in one of eight such turns
abbrev pub any_timer : Setup → ℕ → Act
any_timer setup b = if (b % 8) == 0 then Tries (Timer ((b / 8) % setup.sites)) else Rests

-- a site falls only where all are normal
abbrev pub any_crash : {B : Type 0} → ShownWorld B → ℕ → Act
any_crash world b = if are_normal world then Tries (Crash (b % world.setup.sites)) else Rests

-- WHAT EACH OF 32 TURNS DOES
abbrev pub table : {B : Type 0} → ShownWorld B → ℕ → List Act
table world b =
    replicate 16 Drains  -- 0 to 15
    ++ replicate 4 (any_delivery world b)  -- 16 to 19
    ++ Skips ∷ []  -- 20
    ++ replicate 3 (Tries (Beat (any_actor world.setup b)))  -- 21 to 23
    ++ Tries (any_pay_in world.setup b)  -- 24
    ∷ Tries (any_pay_out world.setup b)  -- 25
    ∷ Tries (any_instruction world.setup b)  -- 26
    ∷ Tries (any_rescission world.setup b)  -- 27
    ∷ Tries (any_settlement b)  -- 28
    ∷ any_timer world.setup b  -- 29
    ∷ any_crash world b  -- 30
    ∷ Tries (Restart (b % world.setup.sites))  -- 31
    ∷ []

-- the first word chooses the turn
abbrev pub act_of : {B : Type 0} → ShownWorld B → ℕ → ℕ → Act
act_of world a b = unwrap_or (slice_get (table world b) (a % 32)) Rests

-- it is done
abbrev pub Does : {B : Type 0} → Cell B → Act → Position B → Position B → Type 0
Does c Drains old new = player.Drains c 1 old new
Does c Skips old new = new ≡ after_skip old 1
Does c (Tries step) old new = (told : Option WorldFault) × player.Tries c old new step told
Does c Rests old new = new ≡ old

-- memory was refused for it
abbrev pub Stops : {B : Type 0} → Cell B → Act → Position B → Position B → Type 0
Stops c Drains old new = player.DrainStops c 1 old new
Stops c Skips old new = ⊥
Stops c (Tries step) old new = player.Wants old new step
Stops c Rests old new = ⊥

-- what the next two words of the generator choose
abbrev pub next_act : {B : Type 0} → ShownWorld B → Lcg → Act
next_act world words = let first = pcg32 words in act_of world first.0 (pcg32 first.1).0

-- A TURN OF CHAOS takes two words of the generator
abbrev pub TakesTurn : {B : Type 0} → Cell B → Lcg × Position B → Lcg × Position B → Type 0
TakesTurn c (words, old) (left, new) = (left ≡ (pcg32 (pcg32 words).1).1) × Does c (next_act old.world words) old new

-- the generator of a seed, of stream 1
abbrev pub words_of : ℕ → Lcg
words_of seed = started 64 multiplier_64 seed (increment_of 64 1)

-- SO MANY TURNS OF CHAOS
abbrev pub Rages : {B : Type 0} → Cell B → ℕ → ℕ → Position B → Position B → Type 0
Rages c seed turns old new = (left : Lcg) × Turns (TakesTurn c) turns (words_of seed, old) (left, new)

-- Memory was refused for one of them, after those before it.
pub record RageStops {B : Type 0} (c : Cell B) (seed turns : ℕ) (old new : Position B) : Type 0 where
  pub taken : ℕ
  pub few : taken < turns
  pub words : Lcg
  pub mid : Position B
  pub turns_taken : Turns (TakesTurn c) taken (words_of seed, old) (words, mid)
  pub stops : Stops c (next_act mid.world words) mid new
