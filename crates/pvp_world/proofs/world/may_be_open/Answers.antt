use Rattle.std.proofs.Common.{◌≡◌, Bool, true, false, refl, sym, ap, ◌∙◌, length, arith, true≢false}
use Rattle.std.specs.Prelude.{is_some}
use Rattle.vr_types.specs.Site.{is_running}
use Rattle.pvp_book.specs.Ledger.{Ledger, outstanding_orders}
use Rattle.pvp_world.proofs.GoingOn.{book_opens, none_opens}
use Rattle.pvp_world.proofs.world.may_be_open.Goals as goal
use Rattle.pvp_world.proofs.world.may_be_open.Goals.{in-Some, in-None}

not_so : (b : Bool) → (b ≡ true → ⊥) → b ≡ false
not_so true never = absurd (never refl)
not_so false never = refl

pub returns : goal.returns
returns g c =
    elim c.match-machine.branch [
      | in-Some w ↦ (let runs = c.machine.ensures.there.0 (ap is_some w.in-Some.is) in
          let opens = book_opens g.C.BootCell.held c.args.site.now runs in
          let book = ap (λ (l : Ledger). length (outstanding_orders l.setup l.entries)) w.in-Some.ensures.fold in
          omega (
            arith,
            c.min.ensures,
            w.count-is,
            w.saturating_add-count.ensures,
            w.saturating_sub-rest.ensures,
            w.open_count.ensures,
            w.done.ensures,
            c.log_len-rows.ensures,
            opens,
            book,
          ))
      | in-None w ↦ (let rests = not_so (is_running c.args.site.now.volatile.status)
          (λ runs. true≢false (sym (c.machine.ensures.there.1 runs) ∙ ap is_some w.in-None.is)) in
          let none = none_opens c.args.site.now rests in
          omega (arith, c.min.ensures, w.count-is, c.log_len-rows.ensures, none))
    ]
