-- What is printed of a world, computed.
use Rattle.std.proofs.Common.{◌≡◌, ℕ, false, List, [], ◌∷◌, ◌++◌, Some, None, refl}
use Rattle.std.specs.Prelude.{codes}
use Rattle.std.specs.Fmt.{digits}
use Rattle.pvp_types.specs.declared.setup.Setup.{Setup}
use Rattle.pvp_types.specs.declared.setup.Member.{Member}
use Rattle.pvp_types.specs.declared.command.Cmd.{Cmd}
use Rattle.pvp_types.specs.declared.command.Cmd.TheVariants.{Fund, PayOut}
use Rattle.pvp_types.specs.declared.command.Reply.TheVariants.{Order}
use Rattle.pvp_types.specs.declared.command.PayOrder.{PayOrder}
use Rattle.pvp_book.specs.Settlement.{both_pass, pass, taken_by, settled_after, settled_pairs}
use Rattle.pvp_book.specs.Answer.{answer}
use Rattle.vr_types.specs.declared.cell.Boot.{Boot}
use Rattle.vr_types.specs.declared.event.Status.{Status}
use Rattle.vr_types.specs.declared.event.Status.TheVariants.{Normal, Change, Recovering}
use Rattle.vr_types.specs.declared.row.RowOf.{RowOf}
use Rattle.vr_site.specs.Life.{Volatile, resting}
use Rattle.vr_site.specs.Replica.{ShownSite}
use Rattle.rtgs_node.specs.Shown.{ShownNode}
use Rattle.pvp_world.specs.World.{ShownWorld, world_of}
use Rattle.pvp_play.specs.BooksText.{books_text}

abbrev member : List ℕ → Member
member name = record { name = name; aggregate = 150000; short = 1000 ∷ 1000 ∷ []; deposit = 10000 ∷ 10000 ∷ [] }

abbrev setup : Setup
setup = record {
  sites = 3;
  currencies = record { code = codes "EUR"; rate = 110; haircut = 500 } ∷ record { code = codes "USD"; rate = 100; haircut = 0 } ∷ [];
  members = member (codes "ALFA") ∷ member (codes "BETA") ∷ [];
}

-- what a cell holds that is told by its boots
abbrev held : ℕ → Boot
held boots = record { boots = boots }

-- ALFA's first pay-in, and its request for a payment
abbrev log : List (RowOf Cmd)
log = record { client = 101; number = 1; cmd = Fund 0 1 1 500 } ∷ record { client = 1; number = 1; cmd = PayOut 0 200 } ∷ []

-- a running site, of whose log so many rows are executed
abbrev running : Status → ℕ → ℕ → Volatile Cmd
running status view done = record {
  status = status;
  view = view;
  last_normal = 0;
  log = log;
  done = done;
  acked = [];
  starts = [];
  voted = false;
  votes = [];
  responses = [];
  known = [];
}

abbrev site : ℕ → ℕ → Volatile Cmd → ShownSite Cmd Setup ℕ
site me boots volatile = record { f = 1; me = me; setup = setup; cell = boots; volatile = volatile }

abbrev order : ℕ → ℕ → PayOrder
order ccy amt = record { ccy = ccy; out = 1; member = 1; amt = amt }

-- two pay-ins came and the order was done
abbrev eur : ShownNode
eur = record {
  setup = setup;
  ccy = 0;
  node =
      record {
        pay_ins = record { member = 1; amt = 500 } ∷ record { member = 2; amt = 70 } ∷ [];
        pay_outs = order 0 200 ∷ [];
        returned = [];
        closed = [];
        notices = [];
        answered = 0;
      };
}

-- an order was returned
abbrev usd : ShownNode
usd = record {
  setup = setup;
  ccy = 1;
  node = record { pay_ins = []; pay_outs = []; returned = order 1 5 ∷ []; closed = []; notices = []; answered = 0 };
}

abbrev world : ShownWorld ℕ
world = world_of setup []
    (site 0 0 (running Normal 0 2) ∷ site 1 1 (running Change 1 1) ∷ site 2 3 (resting Recovering [] []) ∷ [])
    (eur ∷ usd ∷ [])
    (record { f = 1; me = 0; client = record { number = 0; waiting = None; answer = None } }
    ∷ record { f = 1; me = 1; client = record { number = 1; waiting = None; answer = Some (Order 1) } }
    ∷ record { f = 1; me = 2; client = record { number = 4; waiting = Some (PayOut 0 70); answer = None } } ∷ [])
    [] []

-- a figure and what is on the way come to the account
printed : books_text held world
    ≡ codes "site 0 normal view 0 log 2 done 2 cell 0\n  ALFA 300 0\n  BETA 0 0\n  pairs 0 0 0 0\n  figure 300 0\n  open 1\n"
    ++ codes "site 1 change view 1 log 2 done 1 cell 1\n  ALFA 500 0\n  BETA 0 0\n  pairs 0 0 0 0\n  figure 500 0\n  open 0\n"
    ++ codes "site 2 recovering cell 3\n"
    ++ codes "node EUR account 370 payins 2 payouts 1\n  site 0 figure 300 way 70\n  site 1 figure 500 way -130\n"
    ++ codes "node USD account 0 payins 0 payouts 0 returned 1\n  site 0 figure 0 way 0\n  site 1 figure 0 way 0\n"
    ++ codes "client ALFA 1 order 1\nclient BETA 4 waits\n"
unfolding digits answer both_pass pass taken_by settled_after settled_pairs
printed = refl
