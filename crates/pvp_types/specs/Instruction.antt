-- The mirror of an instruction.
use Rattle.std.specs.Prelude.{ℕ}
use Rattle.pvp_types.specs.declared.command.Instruction.{Instruction}

-- the instruction by which the other member agrees to this one of a client's: it sells what this one buys
abbrev pub mirror : ℕ → Instruction → Instruction
mirror client asked = record {
  reference = asked.reference;
  other = client;
  sell = asked.buy;
  buy = asked.sell;
  sell_amt = asked.buy_amt;
  buy_amt = asked.sell_amt;
}
