use Rattle.std.proofs.Common.{◌≡◌, ap, ◌∙◌, nat_eq}
use Rattle.std.specs.Map.{lookup}
use Rattle.std.specs.Option.{option_map}
use Rattle.pvp_book.specs.Pairs.{pairs, pair_of}
use Rattle.pvp_book.specs.KeptPair.{kept_pair}
use Rattle.pvp_book.specs.Settlement.{settled_pairs}
use Rattle.pvp_book.specs.Ledger.{Ledger}
use Rattle.pvp_book.proofs.RecordLemmas.{lookup-kept, pair-back, each-kept}
use Rattle.pvp_book.proofs.book.Book.kept_pair_of.Goals as goal

-- what the entries say of the pair
is : (c : goal.After-copied)
    → c.copied.result ≡ option_map (kept_pair c.args.self.now.setup c.args.self.now.entries) (pair_of c.args.self.now.entries c.args.reference)
is c =
    c.copied.ensures ∙ c.get.ensures.value ∙ ap (lookup (nat_eq c.args.reference)) c.self.invariant.pairs
    ∙ lookup-kept (kept_pair c.self.inside.setup c.self.inside.entries.items) (pairs c.self.inside.entries.items) c.args.reference
    ∙ ap (λ (held : Ledger). option_map (kept_pair held.setup held.entries) (pair_of held.entries c.args.reference)) c.self.view_is

pub returns-clause-pair : goal.returns-clause-pair
returns-clause-pair c =
    ap (option_map (λ k. k.pair)) (is c)
    ∙ pair-back c.args.self.now.entries (settled_pairs c.args.self.now.setup c.args.self.now.entries) (pair_of c.args.self.now.entries c.args.reference)

pub returns-clause-same : goal.returns-clause-same
returns-clause-same c =
    each-kept c.args.self.now.entries (settled_pairs c.args.self.now.setup c.args.self.now.entries) (pair_of c.args.self.now.entries c.args.reference)
    c.copied.result (is c)
