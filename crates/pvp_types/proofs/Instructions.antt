-- An instruction in the order in which a script has its words, for worked rows.
use Rattle.std.proofs.Common.{ℕ}
use Rattle.pvp_types.specs.declared.command.Instruction.{Instruction}

abbrev pub instruction : ℕ → ℕ → ℕ → ℕ → ℕ → ℕ → Instruction
instruction reference other sell sell_amt buy buy_amt = record {
  reference = reference;
  other = other;
  sell = sell;
  buy = buy;
  sell_amt = sell_amt;
  buy_amt = buy_amt;
}
