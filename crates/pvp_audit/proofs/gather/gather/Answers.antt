use Rattle.std.proofs.Common.{ℕ, List, sym, ap, subst, ◌∙◌, rules, IsPermutation}
use Rattle.std.proofs.lemmas.List.Sorted.{IsNonDecreasingBy-from_sort_by_key}
use Rattle.pvp_audit.specs.declared.history.History.{History}
use Rattle.pvp_journal.specs.declared.journal.Journal.{Journal as Kept}
use Rattle.pvp_journal.specs.Bank.{mark_of}
use Rattle.pvp_audit.specs.Gathered.{AreRight, missing_in}
use Rattle.pvp_audit.proofs.Complete.{complete}
use Rattle.pvp_audit.proofs.gather.gather.Goals as goal

-- those that were put in order are all of one bank
pub returns-clause-ok : goal.returns-clause-ok
returns-clause-ok c =
    let setup = c.args.setup.now in
    let mark = mark_of c.args.text.now in
    let journals = c.args.journals.items in
    record {
      right = subst (λ (l : List Kept). AreRight setup mark l) c.as_slice.ensures.value
          (subst (λ (m : List ℕ). AreRight setup m c.as_slice.result.now) c.mark_of-mark.ensures c.in_default.ensures);
      all = ap (λ (l : List Kept). missing_in setup l) (sym c.as_slice-2.ensures.value) ∙ sym c.missing_in.ensures ∙ c.in_default-missing_in.is;
      same = subst (λ (l : List History). IsPermutation l c.sort_unstable_by_key.new.self.items) c.in_ok-histories.ensures
          c.sort_unstable_by_key.ensures.permutation;
      order = IsNonDecreasingBy-from_sort_by_key (λ (history : History). history.actor) _ c.sort_unstable_by_key.ensures.sorted (λ a r q k. search rules);
    }

pub returns-clause-bank : goal.returns-clause-bank
returns-clause-bank c =
    complete c.args.setup.now c.requires (mark_of c.args.text.now) c.args.journals.items c.sort_unstable_by_key.new.self.items (returns-clause-ok c)
