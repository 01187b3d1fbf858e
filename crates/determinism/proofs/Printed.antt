-- What is printed of a world is a function of the bank that it shows.
use Rattle.std.proofs.Common.{◌≡◌, ℕ, zero, suc, ◌+◌, ◌-◌, ◌==◌, Bool, true, false, if◌then◌else◌, List, [], ◌∷◌, ◌++◌, length, slice_get, Option, Some, None, codes, decimal, refl, sym, ap, ◌∙◌, subst, arith}
use Rattle.std.specs.Fmt.{signed_decimal}
use Rattle.std.specs.List.{flat_map, enumerate_from}
use Rattle.pvp_types.specs.declared.setup.Setup.{Setup}
use Rattle.pvp_types.specs.declared.command.Cmd.{Cmd}
use Rattle.pvp_types.specs.Setup.{faults}
use Rattle.vr_types.specs.declared.cell.Boot.{Boot}
use Rattle.vr_types.specs.declared.event.Status.{Status}
use Rattle.vr_types.specs.declared.event.Status.TheVariants.{Normal, Change, Recovering, Down}
use Rattle.vr_types.specs.Handling.{machine_of}
use Rattle.vr_types.specs.Site.{Site, is_running}
use Rattle.vr_site.specs.Replica.{ShownSite, site_shown}
use Rattle.pvp_book.specs.Ledger.{Ledger, opening}
use Rattle.rtgs_node.specs.Node.{Node}
use Rattle.rtgs_node.specs.Shown.{ShownNode}
use Rattle.headline.specs.Machine.{book}
use Rattle.headline.specs.Client.{Client}
use Rattle.headline.specs.Bank.{Bank}
use Rattle.headline.proofs.Basics.{none-some}
use Rattle.pvp_text.specs.BookText.{block}
use Rattle.pvp_world.specs.Client.{ShownClient}
use Rattle.pvp_world.specs.World.{ShownWorld, AreEach, IsSite, IsNode, IsClient, ShowsBank}
use Rattle.pvp_play.specs.BooksText.{site_text, node_line, figure_text, way_line, node_text, client_text, name_of, answer_text, books_text}

-- two lists of which each element has the text of the one in its place
each-text : {A C : Type 0} (f : ℕ × A → List ℕ) (g : ℕ × C → List ℕ) (xs : List A) (ys : List C) (n : ℕ) → length xs ≡ length ys
    → ((i k : ℕ) (x : A) (y : C) → k ≡ n + i → slice_get xs i ≡ Some x → slice_get ys i ≡ Some y → f (k, x) ≡ g (k, y))
    → flat_map f (enumerate_from n xs) ≡ flat_map g (enumerate_from n ys)
each-text f g [] [] n count each = refl
each-text f g [] (y ∷ ys) n count each = absurd (omega arith)
each-text f g (x ∷ xs) [] n count each = absurd (omega arith)
each-text {A} {C} f g (x ∷ xs) (y ∷ ys) n count each =
    ap (λ (t : List ℕ). t ++ flat_map f (enumerate_from (n + 1) xs)) (each 0 n x y (omega arith) refl refl)
    ∙ ap (λ (t : List ℕ). g (n, y) ++ t)
    (each-text f g xs ys (n + 1) (omega arith) (λ i k x y at one other. each (suc i) k x y (omega arith) one other))

here : (i k : ℕ) → k ≡ 0 + i → i ≡ k
here i k at = omega (at, arith)

-- SITES

standing_words : Site Cmd → List ℕ
standing_words x = codes " view " ++ decimal x.view ++ codes " log " ++ decimal (length x.log) ++ codes " done " ++ decimal x.done

status_words : Site Cmd → Status → List ℕ
status_words x Normal = codes "normal" ++ standing_words x
status_words x Change = codes "change" ++ standing_words x
status_words x Recovering = codes "recovering"
status_words x Down = codes "down"

book_words : Setup → Site Cmd → Ledger
book_words setup x = machine_of book (opening setup) x

site_words : Setup → ℕ × Site Cmd → List ℕ
site_words setup (i, x) =
    (codes "site " ++ decimal i ++ codes " " ++ status_words x x.status ++ codes " cell " ++ decimal x.cell.boots ++ codes "\n")
    ++ (if is_running x.status then block (codes "  ") (book_words setup x) else [])

way_words : Setup → ℕ → Node → ℕ × Site Cmd → List ℕ
way_words setup c x (i, s) = if is_running s.status then codes "  site " ++ decimal i ++ figure_text c x (book_words setup s) ++ codes "\n" else []

node_words : Setup → Bank → ℕ × Node → List ℕ
node_words setup bank (c, x) = node_line setup c x ++ flat_map (way_words setup c x) (enumerate_from 0 bank.sites)

client_words : Setup → ℕ × Client → List ℕ
client_words setup (k, x) =
    if x.number == 0 then [] else codes "client " ++ name_of setup k ++ codes " " ++ decimal x.number ++ codes " " ++ answer_text x.answer ++ codes "\n"

-- the printed books of a bank
pub bank_words : Setup → Bank → List ℕ
bank_words setup bank =
    flat_map (site_words setup) (enumerate_from 0 bank.sites)
    ++ flat_map (node_words setup bank) (enumerate_from 0 bank.nodes)
    ++ flat_map (client_words setup) (enumerate_from 0 bank.clients)

module _ {B : Type 0} (held : B → Boot) where
  status-same : (v : ShownSite Cmd Setup B) (x : Site Cmd) (acks : _) → x ≡ site_shown held v acks → (s : Status)
      → Rattle.pvp_play.specs.BooksText.status_text v.volatile s ≡ status_words x s
  unfolding status_words standing_words
  status-same v x acks e Normal = ap (λ (y : Site Cmd). codes "normal" ++ standing_words y) (sym e)
  status-same v x acks e Change = ap (λ (y : Site Cmd). codes "change" ++ standing_words y) (sym e)
  status-same v x acks e Recovering = refl
  status-same v x acks e Down = refl

  site-same : (setup : Setup) (i : ℕ) (v : ShownSite Cmd Setup B) (x : Site Cmd) → IsSite held setup i v x → site_text held (i, v) ≡ site_words setup (i, x)
  unfolding site_words book_words
  site-same setup i v x is =
      let e = is.site in
      let line : List ℕ → ℕ → List ℕ = λ status boots. codes "site " ++ decimal i ++ codes " " ++ status ++ codes " cell " ++ decimal boots ++ codes "\n" in
      let part : Setup → Site Cmd → List ℕ = λ s y. if is_running y.status then block (codes "  ") (machine_of book (opening s) y) else [] in
      let status = status-same v x x.collected.acks e v.volatile.status ∙ ap (λ (y : Site Cmd). status_words x y.status) (sym e) in
      ap (λ (t : List ℕ). line t (held v.cell).boots ++ part v.setup (site_shown held v x.collected.acks)) status
      ∙ ap (λ (y : Site Cmd). line (status_words x x.status) y.cell.boots ++ part v.setup y) (sym e)
      ∙ ap (λ (s : Setup). line (status_words x x.status) x.cell.boots ++ part s x) is.made_from

  way-same : (setup : Setup) (c : ℕ) (n : Node) (i : ℕ) (v : ShownSite Cmd Setup B) (x : Site Cmd) → IsSite held setup i v x
      → way_line held c n (i, v) ≡ way_words setup c n (i, x)
  unfolding way_words book_words
  way-same setup c n i v x is =
      let part : Setup → Site Cmd → List ℕ =
      λ s y. if is_running y.status then codes "  site " ++ decimal i ++ figure_text c n (machine_of book (opening s) y) ++ codes "\n" else [] in
      ap (λ (y : Site Cmd). part v.setup y) (sym is.site) ∙ ap (λ (s : Setup). part s x) is.made_from

  module _ (world : ShownWorld B) (bank : Bank) (shows : ShowsBank held world bank) where
    node-same : (c : ℕ) (v : ShownNode) (x : Node) → IsNode world.setup c v x → node_text held world (c, v) ≡ node_words world.setup bank (c, x)
    unfolding node_words
    node-same c v x is =
        ap (λ (w : ShownNode). node_text held world (c, w)) is
        ∙ ap (λ (t : List ℕ). node_line world.setup c x ++ t)
        (each-text (way_line held c x) (way_words world.setup c x) world.sites bank.sites 0 shows.sites.count
        (λ i k v y at one other. way-same world.setup c x k v y
        (subst (λ (j : ℕ). IsSite held world.setup j v y) (here i k at) (shows.sites.each i v y one other))))

    client-same : (k : ℕ) (v : ShownClient) (x : Client) → IsClient world.setup k v x → client_text world.setup (k, v) ≡ client_words world.setup (k, x)
    unfolding client_words
    client-same k v x is = ap (λ (w : ShownClient). client_text world.setup (k, w)) is

    -- THE BOOKS of a world are those of its bank
    pub books-same : books_text held world ≡ bank_words world.setup bank
    unfolding bank_words
    books-same =
        let sites = each-text (site_text held) (site_words world.setup) world.sites bank.sites 0 shows.sites.count
        (λ i k v y at one other. site-same world.setup k v y
        (subst (λ (j : ℕ). IsSite held world.setup j v y) (here i k at) (shows.sites.each i v y one other))) in
        let nodes = each-text (node_text held world) (node_words world.setup bank) world.nodes bank.nodes 0 shows.nodes.count
        (λ i k v y at one other. node-same k v y (subst (λ (j : ℕ). IsNode world.setup j v y) (here i k at) (shows.nodes.each i v y one other))) in
        let clients = each-text (client_text world.setup) (client_words world.setup) world.clients bank.clients 0 shows.clients.count
        (λ i k v y at one other. client-same k v y (subst (λ (j : ℕ). IsClient world.setup j v y) (here i k at) (shows.clients.each i v y one other))) in
        ap (λ (t : List ℕ). t ++ flat_map (node_text held world) (enumerate_from 0 world.nodes)
        ++ flat_map (client_text world.setup) (enumerate_from 0 world.clients)) sites
        ∙ ap (λ (t : List ℕ). flat_map (site_words world.setup) (enumerate_from 0 bank.sites) ++ t
        ++ flat_map (client_text world.setup) (enumerate_from 0 world.clients)) nodes
        ∙ ap (λ (t : List ℕ). flat_map (site_words world.setup) (enumerate_from 0 bank.sites)
        ++ flat_map (node_words world.setup bank) (enumerate_from 0 bank.nodes) ++ t) clients
