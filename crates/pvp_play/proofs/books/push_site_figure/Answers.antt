use Rattle.std.proofs.Common.{◌≡◌, ℕ, Bool, true, List, [], ◌++◌, Result, Ok, Err, OnOk, if◌then◌else◌, string_bytes, append_assoc, refl, sym, ap, ◌∙◌}
use Rattle.std.specs.Prelude.{codes, decimal, is_ok}
use Rattle.std.specs.declared.alloc.AllocError.{AllocError}
use Rattle.pvp_types.specs.declared.setup.Setup.{Setup}
use Rattle.pvp_types.specs.declared.command.Cmd.{Cmd}
use Rattle.pvp_book.specs.Ledger.{Ledger}
use Rattle.rtgs_node.specs.Node.{Node}
use Rattle.vr_types.specs.declared.cell.Boot.{Boot}
use Rattle.vr_types.specs.Site.{is_running}
use Rattle.vr_site.specs.Replica.{ShownSite}
use Rattle.pvp_play.specs.BooksText.{book_of, figure_text, way_line}
use Rattle.pvp_play.proofs.books.push_site_figure.Goals as goal

regroup : (old site figure end : List ℕ) → ((old ++ site) ++ figure) ++ end ≡ old ++ ((site ++ figure) ++ end)
regroup old site figure end = simp append_assoc

module _ {B : Type 0} (held : B → Boot) (c : ℕ) (x : Node) (i : ℕ) (v : ShownSite Cmd Setup B) (book : Ledger) (old site whole new : List ℕ) where
  abbrev site_words : List ℕ
  site_words = codes "  site " ++ decimal i

  -- the line of a running site, by its parts
  line : (result : Result (Unit {0}) AllocError) → is_running v.volatile.status ≡ true → book ≡ book_of held v
      → site ≡ old ++ site_words → whole ≡ site ++ figure_text c x book → new ≡ (if is_ok result then whole ++ codes "\n" else whole)
      → OnOk result (new ≡ old ++ way_line held c x (i, v))
  line (Err fault) runs is first then_figure printed = tt
  line (Ok done) runs is first then_figure printed =
      printed ∙ ap (λ t. t ++ codes "\n") (then_figure ∙ ap (λ t. t ++ figure_text c x book) first)
      ∙ regroup old site_words (figure_text c x book) (codes "\n")
      ∙ ap (λ (b : Ledger). old ++ ((site_words ++ figure_text c x b) ++ codes "\n")) is
      ∙ ap (λ (b : Bool). old ++ (if b then (site_words ++ figure_text c x (book_of held v)) ++ codes "\n" else [])) (sym runs)

pub returns : goal.returns
returns g c = line g.C.BootCell.held c.args.ccy c.args.node.now.node c.args.i c.args.site.now c.in-Some.book.now
    (string_bytes c.args.text.now) (string_bytes c.write.new.self) (string_bytes c.push_figure.new.text) (string_bytes c.push_str.new.self) c.push_str.result
    (c.in-Some.ensures.there.0 refl) c.in-Some.ensures.fold c.in_ok-write.ensures.bytes c.in_ok-push_figure.ensures c.push_str.ensures.bytes
