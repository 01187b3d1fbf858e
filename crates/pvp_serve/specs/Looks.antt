-- What is seen of an actor that is served.
use Rattle.std.specs.Prelude.{◌-◌, ℕ, List, [], length, string_bytes, Option, Some, None, if◌then◌else◌}
use Rattle.vr_types.specs.declared.cell.Boot.{Boot}
use Rattle.vr_types.specs.Handling.{machine_of}
use Rattle.vr_types.specs.Site.{is_running}
use Rattle.vr_site.specs.Replica.{site_shown}
use Rattle.rtgs_node.specs.Node.{account}
use Rattle.pvp_types.specs.declared.setup.Setup.{Setup}
use Rattle.pvp_book.specs.Ledger.{Ledger, opening}
use Rattle.pvp_book.specs.Limits.{above}
use Rattle.headline.specs.Machine.{book}
use Rattle.pvp_parties.specs.declared.party.PartyOf.{PartyOf}
use Rattle.pvp_parties.specs.declared.party.PartyOf.TheVariants as party
use Rattle.pvp_window.specs.declared.look.View.{View}
use Rattle.pvp_window.specs.declared.look.Shown.{Shown}
use Rattle.pvp_window.specs.declared.seen.Seen.{Seen}
use Rattle.pvp_window.specs.declared.seen.Seen.TheVariants as seen
use Rattle.pvp_window.specs.declared.seen.Stream.{Stream}
use Rattle.pvp_window.specs.Readings.{ReadsAs, reading}

-- WHAT IS SEEN of an actor of this number, of whom so many frames were dropped, beside its book
abbrev pub seen_of : {B : Type 0} → (B → Boot) → ℕ → ℕ → PartyOf B → Seen
seen_of held me dropped (party.Site p) = let now = p.now.volatile in
    seen.Site (record {
      actor = me;
      status = now.status;
      view = now.view;
      log = length now.log;
      done = now.done;
      restarts = (held p.now.cell).boots;
      dropped = dropped;
    })
seen_of held me dropped (party.Node p) = let node = p.now.node in
    seen.Node (record {
      actor = me;
      account = above (account node);
      pay_ins = length node.pay_ins;
      pay_outs = length node.pay_outs;
      unanswered = length node.notices - node.answered;
    })
seen_of held me dropped (party.Client p) =
    seen.Client (record { actor = me; request = p.now.client.number; answer = p.now.client.answer })

-- ITS BOOK: that of a site that runs
abbrev pub book_of : {B : Type 0} → (B → Boot) → PartyOf B → Option Ledger
book_of held (party.Site p) =
    if is_running p.now.volatile.status then Some (machine_of book (opening p.now.setup) (site_shown held p.now []))
    else None
book_of held (party.Node p) = None
book_of held (party.Client p) = None

-- what is shown is that of this actor, and of streams that stand
abbrev pub IsShownBy : Setup → Seen → Option Ledger → View → Shown → Type 0
IsShownBy setup actor held looked shown =
    (streams : List Stream) × ReadsAs (reading setup actor streams held looked) shown.found (string_bytes shown.text)
