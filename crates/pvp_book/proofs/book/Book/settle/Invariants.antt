use Rattle.std.proofs.Common.{◌≡◌}
use Rattle.pvp_book.specs.Settlement.{settled_pairs}
use Rattle.pvp_book.proofs.WalkingLemmas.{IsUnderWay}
use Rattle.pvp_book.proofs.book.Book.settle.Given as goal

-- what the walk has settled so far; of the book it changes what is kept of the pairs, the members' accounts and the tally alone
abbrev pub invariant-loop-pair : goal.invariant-loop-pair
invariant-loop-pair l = record {
  walking : IsUnderWay l.initial.self-inside.setup l.initial.self-inside.entries.items
      (settled_pairs l.initial.self-inside.setup l.initial.self-inside.entries.items) l.pair-items l.most l.pair-index l.count
      l.self-inside.pairs.entries l.self-inside.accounts.members.items l.self-inside.tally;
  setup : l.self-inside.setup ≡ l.initial.self-inside.setup;
  entries : l.self-inside.entries ≡ l.initial.self-inside.entries;
  figures : l.self-inside.accounts.figures ≡ l.initial.self-inside.accounts.figures;
  pay_ins : l.self-inside.pay_ins ≡ l.initial.self-inside.pay_ins;
  table : l.self-inside.table ≡ l.initial.self-inside.table;
  applied : l.self-inside.applied ≡ l.initial.self-inside.applied;
}
