-- A world: what it shows, and by which legal list of moves it came to that.
use Rattle.std.specs.Prelude.{◌≡◌, ℕ, List, ◌++◌, length, slice_get, Some}
use Rattle.pvp_types.specs.declared.setup.Setup.{Setup}
use Rattle.pvp_types.specs.declared.command.Cmd.{Cmd}
use Rattle.pvp_types.specs.Setup.{faults}
use Rattle.vr_types.specs.declared.cell.Boot.{Boot}
use Rattle.vr_types.specs.Site.{Site}
use Rattle.vr_log.specs.Running.{SumUp}
use Rattle.vr_site.specs.Replica.{ShownSite, site_shown}
use Rattle.rtgs_node.specs.Node.{Node, Envelope}
use Rattle.rtgs_node.specs.Shown.{ShownNode}
use Rattle.headline.specs.Client.{Client}
use Rattle.headline.specs.declared.step.Move.{Move}
use Rattle.headline.specs.Bank.{Bank}
use Rattle.headline.specs.Legal.{LegalList, Continued}
use Rattle.headline.specs.Whole.{Headline}
use Rattle.pvp_world.specs.Client.{ShownClient}

-- WHAT A WORLD SHOWS; B is the type of the sites' cells
pub record ShownWorld (B : Type 0) : Type 0 where
  pub setup : Setup
  pub opening : List Boot  -- what the sites' cells held at first
  pub sites : List (ShownSite Cmd Setup B)
  pub nodes : List ShownNode  -- by currency
  pub clients : List ShownClient  -- the operator, then the members
  pub post : List Envelope  -- numbered from 1
  pub trail : List Move

abbrev pub world_of : {B : Type 0} → Setup → List Boot → List (ShownSite Cmd Setup B) → List ShownNode
    → List ShownClient → List Envelope → List Move → ShownWorld B
world_of setup opening sites nodes clients post trail =
    record {
      setup = setup;
      opening = opening;
      sites = sites;
      nodes = nodes;
      clients = clients;
      post = post;
      trail = trail;
    }

-- both lists have the same length, and each item stands in this relation to the one in its place
pub record AreEach {A B : Type 0} (Is : ℕ → A → B → Type 0) (xs : List A) (ys : List B) : Type 0 where
  pub count : length xs ≡ length ys
  pub each : (i : ℕ) (x : A) (y : B) → slice_get xs i ≡ Some x → slice_get ys i ≡ Some y → Is i x y

-- a replica shows this site of a bank; of the acknowledgements that came it shows the sums
pub record IsSite {B : Type 0} (held : B → Boot) (setup : Setup) (i : ℕ) (v : ShownSite Cmd Setup B) (x : Site Cmd)
    : Type 0 where
  pub f : v.f ≡ faults setup
  pub me : v.me ≡ i
  pub made_from : v.setup ≡ setup
  pub acks : SumUp v.volatile.acked x.collected.acks
  pub site : x ≡ site_shown held v x.collected.acks

abbrev pub IsNode : Setup → ℕ → ShownNode → Node → Type 0
IsNode setup c v x = v ≡ record { setup = setup; ccy = c; node = x }

abbrev pub IsClient : Setup → ℕ → ShownClient → Client → Type 0
IsClient setup k v x = v ≡ record { f = faults setup; me = k; client = x }

-- a world shows this bank; held is what a cell holds
pub record ShowsBank {B : Type 0} (held : B → Boot) (world : ShownWorld B) (bank : Bank) : Type 0 where
  pub sites : AreEach (IsSite held world.setup) world.sites bank.sites
  pub nodes : AreEach (IsNode world.setup) world.nodes bank.nodes
  pub clients : AreEach (IsClient world.setup) world.clients bank.clients
  pub post : world.post ≡ bank.post

-- THE WORLD IS WHERE ITS TRAIL LEADS: the moves taken are a legal list over the cells' first values, and the world
-- shows the bank that this leads to
pub record IsAt {B : Type 0} (held : B → Boot) (world : ShownWorld B) : Type 0 where
  pub list : LegalList world.setup (faults world.setup)
  pub cells : list.cells ≡ world.opening
  pub moves : list.moves ≡ world.trail
  pub shows : ShowsBank held world list.bank

-- this holds of the legal list that is the world's trail, whatever right choices its steps take as given
abbrev pub OfTrail : {B : Type 0} (world : ShownWorld B)
    → (LegalList world.setup (faults world.setup) → Type 0) → Type 0
OfTrail world Holds =
    (list : LegalList world.setup (faults world.setup))
    → list.cells ≡ world.opening → list.moves ≡ world.trail → Holds list

-- AND THE HEADLINE HOLDS: the world shows what its trail leads to, and the headline holds of any two moments of the
-- trail, an early one and a late one, with the rest of the trail behind them
pub record IsProved {B : Type 0} (held : B → Boot) (world : ShownWorld B) : Type 0 where
  pub is_at : IsAt held world
  pub shows : OfTrail world (λ list. ShowsBank held world list.bank)
  pub headline : (early : LegalList world.setup (faults world.setup)) (late : Continued early)
      (rest : List Move) → early.cells ≡ world.opening
      → (early.moves ++ late.moves) ++ rest ≡ world.trail → Headline early late
