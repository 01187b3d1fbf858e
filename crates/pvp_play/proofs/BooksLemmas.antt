-- What is printed of one part more, how many parts a world has, and that its accounts match its books.
use Rattle.std.proofs.Common.{◌≡◌, ℕ, zero, suc, ◌+◌, ◌*◌, ◌≤◌, List, [], ◌∷◌, ◌++◌, length, map, take, slice_get, Some, None, refl, sym, ap, ◌∙◌, subst, add-one, arith, ◌+ℤ◌}
use Rattle.std.specs.List.{flat_map, enumerate_from}
use Rattle.std.proofs.lemmas.Grind.{flat_map-append}
use Rattle.std.proofs.lemmas.List.{append-nil, take_all}
use Rattle.pvp_types.specs.declared.setup.Setup.{Setup}
use Rattle.pvp_types.specs.declared.command.Cmd.{Cmd}
use Rattle.pvp_types.specs.Setup.{faults}
use Rattle.vr_types.specs.declared.cell.Boot.{Boot}
use Rattle.vr_types.specs.Choice.{Choice}
use Rattle.vr_types.specs.Site.{Site, executed_rows}
use Rattle.pvp_book.specs.Answer.{Row, after_rows}
use Rattle.pvp_book.specs.Ledger.{Ledger, opening, figure}
use Rattle.rtgs_node.specs.Node.{Node, account}
use Rattle.rtgs_node.specs.Shown.{ShownNode}
use Rattle.headline.specs.declared.step.Move.{Move}
use Rattle.headline.specs.declared.step.Move.TheVariants.{Takes, Falls}
use Rattle.headline.specs.declared.step.Turn.{Turn}
use Rattle.headline.specs.declared.step.Turn.TheVariants.{OfSite, OfNode, OfClient}
use Rattle.headline.specs.Bank.{Bank, opening_bank}
use Rattle.headline.specs.Legal.{Acts, FallsBy, Leads, IsRun, Continued}
use Rattle.headline.specs.Headline.{AccountsMatch}
use Rattle.headline.specs.Way.{way}
use Rattle.headline.proofs.Basics.{none-some, some-same, set-length, there as has}
use Rattle.headline.proofs.Books.{held-is, held-setup}
use Rattle.vr_site.specs.Replica.{ShownSite, site_shown}
use Rattle.pvp_world.specs.World.{ShownWorld, IsAt, IsProved}
use Rattle.pvp_text.proofs.BookTextLemmas.{appended}
use Rattle.pvp_play.specs.BooksText.{Matches, SiteMatches, book_of}

-- PARTS IN THEIR ORDER

-- the numbered items, one item more
pub enumerate-more : {A : Type 0} (a : ℕ) (xs : List A) (n : ℕ) (x : A) → slice_get xs n ≡ Some x
    → enumerate_from a (take (n + 1) xs) ≡ enumerate_from a (take n xs) ++ (a + n, x) ∷ []
enumerate-more {A} a xs n x is = ap (λ k. enumerate_from a (take k xs)) (add-one n) ∙ from a xs n is
  where
    from : (a : ℕ) (ys : List A) (k : ℕ) → slice_get ys k ≡ Some x
        → enumerate_from a (take (suc k) ys) ≡ enumerate_from a (take k ys) ++ (a + k, x) ∷ []
    from a [] k e = absurd (none-some x e)
    from a (y ∷ ys) zero e = ap (λ z. (a, z) ∷ []) (some-same y x e) ∙ ap (λ j. (j, x) ∷ []) (omega arith)
    from a (y ∷ ys) (suc k) e =
        ap (λ t. (a, y) ∷ t) (from (a + 1) ys k e)
        ∙ ap (λ j. (a, y) ∷ (enumerate_from (a + 1) (take k ys) ++ (j, x) ∷ [])) (omega arith)

behind : {A : Type 0} (xs : List A) (n : ℕ) → slice_get xs n ≡ None → length xs ≤ n
behind [] n e = omega arith
behind (x ∷ xs) zero e = absurd (none-some x (sym e))
behind (x ∷ xs) (suc n) e = let low = behind xs n e in omega arith

module _ {A : Type 0} (line : ℕ × A → List ℕ) (xs : List A) where
  -- what is printed of the first n
  abbrev pub first : ℕ → List ℕ
  first n = flat_map line (enumerate_from 0 (take n xs))

  -- one part more was printed
  pub printed-more : (new old start : List ℕ) (n : ℕ) (x : A) → slice_get xs n ≡ Some x
      → new ≡ old ++ line (n, x) → old ≡ start ++ first n → new ≡ start ++ first (n + 1)
  printed-more new old start n x is printed so_far = appended new old start (first n) (line (n, x)) (first (n + 1)) printed so_far
      (ap (flat_map line) (enumerate-more 0 xs n x is)
      ∙ flat_map-append line (enumerate_from 0 (take n xs)) ((0 + n, x) ∷ [])
      ∙ ap (λ t. first n ++ t) (append-nil (line (0 + n, x)) ∙ ap (λ j. line (j, x)) (omega arith)))

  -- where there is no part more, nothing was
  pub printed-none : (old start : List ℕ) (n : ℕ) → slice_get xs n ≡ None → old ≡ start ++ first n → old ≡ start ++ first (n + 1)
  printed-none old start n none so_far =
      let low = behind xs n none in
      so_far ∙ ap (λ ys. start ++ flat_map line (enumerate_from 0 ys)) (take_all n xs low ∙ sym (take_all (n + 1) xs (omega arith)))

  -- all parts were
  pub printed-all : (new start : List ℕ) (n : ℕ) → length xs ≤ n → new ≡ start ++ first n → new ≡ start ++ flat_map line (enumerate_from 0 xs)
  printed-all new start n all so_far = so_far ∙ ap (λ ys. start ++ flat_map line (enumerate_from 0 ys)) (take_all n xs all)

-- HOW MANY PARTS THERE ARE

record SameCounts (bank after : Bank) : Type 0 where
  pub sites : length after.sites ≡ length bank.sites
  pub nodes : length after.nodes ≡ length bank.nodes
  pub clients : length after.clients ≡ length bank.clients

module _ (setup : Setup) (choose : Choice Cmd) (f : ℕ) where
  acts-same : (bank : Bank) (turn : Turn) (after : Bank) → Acts setup choose f bank turn after → SameCounts bank after
  acts-same bank (OfSite i event) after acts =
      subst (λ (b : Bank). SameCounts bank b) (sym acts.leads) (record { sites = set-length bank.sites i _; nodes = refl; clients = refl })
  acts-same bank (OfNode c event) after acts =
      subst (λ (b : Bank). SameCounts bank b) (sym acts.leads) (record { sites = refl; nodes = set-length bank.nodes c _; clients = refl })
  acts-same bank (OfClient k event) after acts =
      subst (λ (b : Bank). SameCounts bank b) (sym acts.leads) (record { sites = refl; nodes = refl; clients = set-length bank.clients k _ })

  falls-same : (bank : Bank) (turn : Turn) (cell : Boot) (after : Bank) → FallsBy setup choose f bank turn cell after → SameCounts bank after
  falls-same bank (OfSite i event) cell after falls =
      subst (λ (b : Bank). SameCounts bank b) (sym falls.leads) (record { sites = set-length bank.sites i _; nodes = refl; clients = refl })
  falls-same bank (OfNode c event) cell after falls = absurd falls
  falls-same bank (OfClient k event) cell after falls = absurd falls

  leads-same : (bank : Bank) (move : Move) (after : Bank) → Leads setup choose f bank move after → SameCounts bank after
  leads-same bank (Takes step) after leads = acts-same bank leads.turn_is after leads.acts
  leads-same bank (Falls step cell) after leads = falls-same bank leads.turn_is cell after leads.falls

  run-same : (bank : Bank) (moves : List Move) (after : Bank) → IsRun setup choose f bank moves after → SameCounts bank after
  run-same bank [] after run = subst (λ (b : Bank). SameCounts bank b) (sym run) (record { sites = refl; nodes = refl; clients = refl })
  run-same bank (move ∷ moves) after (next, leads, run) =
      let one = leads-same bank move next leads in
      let rest = run-same next moves after run in
      record { sites = rest.sites ∙ one.sites; nodes = rest.nodes ∙ one.nodes; clients = rest.clients ∙ one.clients }

length-map : {A B : Type 0} (h : A → B) (xs : List A) → length (map h xs) ≡ length xs
length-map h [] = refl
length-map h (x ∷ xs) = ap (λ n. suc n) (length-map h xs)

-- as many sites, nodes and clients as the setup says
pub record HasAll {B : Type 0} (world : ShownWorld B) : Type 0 where
  pub sites : length world.sites ≡ 2 * faults world.setup + 1
  pub nodes : length world.nodes ≡ length world.setup.currencies
  pub clients : length world.clients ≡ length world.setup.members + 1

pub has_all : {B : Type 0} (held : B → Boot) (world : ShownWorld B) → IsAt held world → HasAll world
has_all held world at =
    let list = at.list in
    let same =
    run-same world.setup list.choose (faults world.setup) (opening_bank world.setup (faults world.setup) list.cells) list.moves list.bank list.legal.run in
    record {
      sites = at.shows.sites.count ∙ same.sites ∙ length-map _ list.cells ∙ list.legal.all;
      nodes = at.shows.nodes.count ∙ same.nodes ∙ length-map _ world.setup.currencies;
      clients = at.shows.clients.count ∙ same.clients ∙ ap (λ n. suc n) (length-map _ world.setup.members) ∙ omega arith;
    }

-- ACCOUNTS AND FIGURES

-- where one list has an item, another as long has one
other-there : {X Y : Type 0} (xs : List X) (ys : List Y) (i : ℕ) (x : X) → length xs ≡ length ys → slice_get xs i ≡ Some x → (y : Y) × (slice_get ys i ≡ Some y)
other-there [] ys i x count e = absurd (none-some x e)
other-there (z ∷ xs) [] i x count e = absurd (omega arith)
other-there (z ∷ xs) (y ∷ ys) zero x count e = (y, refl)
other-there (z ∷ xs) (y ∷ ys) (suc i) x count e = other-there xs ys i x (omega arith) e

-- the headline says it of the list that led to a world
accounts-match : {B : Type 0} (held : B → Boot) (world : ShownWorld B) (proved : IsProved held world) → AccountsMatch world.setup proved.is_at.list.bank
accounts-match held world proved =
    let list = proved.is_at.list in
    let late : Continued list = record { moves = []; bank = list.bank; run = refl } in
    (proved.headline list late [] proved.is_at.cells (append-nil (list.moves ++ []) ∙ append-nil list.moves ∙ proved.is_at.moves)).accounts

-- a node's account is the figure of a running site's book, and what is on the way between the two
pub matches : {B : Type 0} (held : B → Boot) (world : ShownWorld B) → IsProved held world → (i c : ℕ) (v : ShownSite Cmd Setup B) (x : ShownNode)
    → slice_get world.sites i ≡ Some v → slice_get world.nodes c ≡ Some x → SiteMatches held c x.node v
matches held world proved i c v x there node_there runs =
    let shows = proved.is_at.shows in
    let bank = proved.is_at.list.bank in
    let site = other-there world.sites bank.sites i v shows.sites.count there in
    let of_node = other-there world.nodes bank.nodes c x shows.nodes.count node_there in
    let is = shows.sites.each i v site.0 there site.1 in
    let node_is : x.node ≡ of_node.0 = ap (λ (n : ShownNode). n.node) (shows.nodes.each c x of_node.0 node_there of_node.1) in
    let rows = executed_rows (site_shown held v []) in
    let same : executed_rows site.0 ≡ rows = ap (λ (s : Site Cmd). executed_rows s) is.site in
    let book : book_of held v ≡ after_rows (opening world.setup) rows =
    held-is (opening v.setup) rows ∙ ap (λ (s : Setup). after_rows (opening s) rows) is.made_from in
    let ledger = after_rows (opening world.setup) rows in
    let law = accounts-match held world proved site.0 c of_node.0 (has bank.sites i site.0 site.1) of_node.1 in
    let of_rows =
    subst (λ (rs : List Row). let e = (after_rows (opening world.setup) rs).entries in
    account of_node.0 ≡ figure world.setup e c +ℤ way c of_node.0 e) same law in
    let of_shown = subst (λ (n : Node). account n ≡ figure world.setup ledger.entries c +ℤ way c n ledger.entries) (sym node_is) of_rows in
    subst (λ (b : Ledger). Matches c x.node b) (sym book)
    (of_shown ∙ ap (λ (s : Setup). figure s ledger.entries c +ℤ way c x.node ledger.entries) (sym (held-setup (opening world.setup) rows)))
