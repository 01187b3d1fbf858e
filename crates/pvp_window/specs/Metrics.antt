-- What is measured of an actor, in the text format of Prometheus. No member's balance is among it.
use Rattle.std.specs.Prelude.{ℕ, ◌==◌, ◌&&◌, ◌++◌, Bool, if◌then◌else◌, nat_lt, not, is_some, List, [], length, Option, Some, None, codes, decimal}
use Rattle.std.specs.List.{flat_map, range_with_len}
use Rattle.vr_types.specs.Group.{actor_of, primary}
use Rattle.vr_types.specs.declared.event.Status.{Status}
use Rattle.vr_types.specs.declared.event.Status.TheVariants.{Normal, Change, Recovering, Down}
use Rattle.vr_types.specs.declared.limits.TheConstants.{MAX_ROWS}
use Rattle.pvp_types.specs.declared.setup.Setup.{Setup}
use Rattle.pvp_types.specs.Setup.{faults}
use Rattle.pvp_book.specs.Ledger.{Ledger, outstanding_orders}
use Rattle.pvp_book.specs.declared.pair.PairState.{PairState}
use Rattle.pvp_book.specs.declared.pair.PairState.TheVariants.{Unmatched, Matched, Settled, Rescinded}
use Rattle.pvp_trace.specs.Stands.{is_status}
use Rattle.pvp_window.specs.declared.seen.SiteSeen.{SiteSeen}
use Rattle.pvp_window.specs.declared.seen.NodeSeen.{NodeSeen}
use Rattle.pvp_window.specs.declared.seen.ClientSeen.{ClientSeen}
use Rattle.pvp_window.specs.declared.seen.Stream.{Stream}
use Rattle.pvp_window.specs.declared.seen.Seen.{Seen}
use Rattle.pvp_window.specs.declared.seen.Seen.TheVariants as seen
use Rattle.pvp_window.specs.Book.{count_text, figure_text, state_name}
use Rattle.pvp_window.specs.Json.{actor_name, currency_name}
use Rattle.pvp_window.specs.Status.{status_name}

-- what a number is called, of which kind it is, and what it is of
unfoldable pub head : List ℕ → List ℕ → List ℕ → List ℕ
head name kind help =
    codes "# HELP " ++ name ++ codes " " ++ help ++ codes "\n"
    ++ codes "# TYPE " ++ name ++ codes " " ++ kind ++ codes "\n"

unfoldable pub plain : List ℕ → List ℕ → List ℕ → ℕ → List ℕ
plain name kind help number = head name kind help ++ name ++ codes " " ++ decimal number ++ codes "\n"

unfoldable pub labelled : List ℕ → List ℕ → List ℕ → ℕ → List ℕ
labelled name label word number =
    name ++ codes "{" ++ label ++ codes "=\"" ++ word ++ codes "\"} " ++ decimal number ++ codes "\n"

abbrev pub one_if : Bool → ℕ
one_if b = if b then 1 else 0

-- of each status whether it is the site's
unfoldable pub status_line : Status → Status → List ℕ
status_line status other =
    labelled (codes "gauzemarl_site_status") (codes "status") (status_name other) (one_if (is_status other status))

unfoldable pub status_lines : Status → List ℕ
status_lines status =
    head (codes "gauzemarl_site_status") (codes "gauge") (codes "1 of the status that the site has, 0 of others")
    ++ status_line status Normal ++ status_line status Change
    ++ status_line status Recovering ++ status_line status Down

unfoldable pub leads : Setup → SiteSeen → ℕ
leads setup seen = one_if (actor_of (primary (faults setup) seen.view) == seen.actor)

-- a site's status and view, and whether it is the primary of that
unfoldable pub place_metrics : Setup → SiteSeen → List ℕ
place_metrics setup seen =
    plain (codes "gauzemarl_sites") (codes "gauge") (codes "Sites that run the bank") setup.sites
    ++ status_lines seen.status
    ++ plain (codes "gauzemarl_site_view") (codes "gauge") (codes "The view of the site") seen.view
    ++ plain (codes "gauzemarl_site_is_primary") (codes "gauge") (codes "1 where the site is the primary of its view")
    (leads setup seen)

-- its rows and restarts, and what it dropped
unfoldable pub counted_metrics : SiteSeen → List ℕ
counted_metrics seen =
    plain (codes "gauzemarl_log_rows") (codes "gauge") (codes "Rows of the log") seen.log
    ++ plain (codes "gauzemarl_log_rows_max") (codes "gauge") (codes "Rows that a log can have") MAX_ROWS
    ++ plain (codes "gauzemarl_rows_executed_total") (codes "counter") (codes "Rows executed") seen.done
    ++ plain (codes "gauzemarl_site_restarts") (codes "gauge") (codes "Restarts of the site") seen.restarts
    ++ plain (codes "gauzemarl_frames_dropped_total") (codes "counter")
    (codes "Frames dropped, as their clocks were too far ahead") seen.dropped

-- how many bytes wait for each stream that stands
unfoldable pub stream_line : Setup → Stream → List ℕ
stream_line setup stream =
    codes "gauzemarl_stream_waiting_bytes{peer=\"" ++ actor_name setup stream.peer
    ++ codes "\"} " ++ decimal stream.waiting ++ codes "\n"

unfoldable pub stream_lines : Setup → List Stream → List ℕ
stream_lines setup streams =
    head (codes "gauzemarl_stream_waiting_bytes") (codes "gauge") (codes "Bytes that wait for a stream that stands")
    ++ flat_map (stream_line setup) streams

unfoldable pub site_metrics : Setup → SiteSeen → List Stream → List ℕ
site_metrics setup seen streams = place_metrics setup seen ++ counted_metrics seen ++ stream_lines setup streams

-- how many pairs are in each state
unfoldable pub state_line : Ledger → PairState → List ℕ
state_line held state =
    codes "gauzemarl_pairs{state=\"" ++ state_name state ++ codes "\"} " ++ count_text held state ++ codes "\n"

unfoldable pub state_lines : Ledger → List ℕ
state_lines held =
    head (codes "gauzemarl_pairs") (codes "gauge") (codes "Pairs in a state")
    ++ state_line held Unmatched ++ state_line held Matched ++ state_line held Settled ++ state_line held Rescinded

-- the bank's figure in each currency
unfoldable pub figure_line : Ledger → ℕ → List ℕ
figure_line held c =
    codes "gauzemarl_figure_minor_units{currency=\"" ++ currency_name held.setup c
    ++ codes "\"} " ++ figure_text held c ++ codes "\n"

unfoldable pub figure_lines : Ledger → List ℕ
figure_lines held =
    head (codes "gauzemarl_figure_minor_units") (codes "gauge") (codes "The bank's figure in a currency")
    ++ flat_map (figure_line held) (range_with_len 0 (length held.setup.currencies))

-- what is measured of a site's book, where it has one
unfoldable pub held_metrics : Ledger → List ℕ
held_metrics held =
    plain (codes "gauzemarl_commands_accepted_total") (codes "counter") (codes "Commands that the book accepted")
    (length held.entries)
    ++ plain (codes "gauzemarl_orders_open") (codes "gauge") (codes "Orders not paid or returned")
    (length (outstanding_orders held.setup held.entries))
    ++ state_lines held ++ figure_lines held

unfoldable pub book_metrics : Option Ledger → List ℕ
book_metrics (Some held) = held_metrics held
book_metrics None = []

-- a number of a node, with its currency
unfoldable pub of_node : Setup → ℕ → List ℕ → List ℕ → List ℕ → ℕ → List ℕ
of_node setup node name kind help number =
    head name kind help ++ name ++ codes "{currency=\"" ++ actor_name setup node
    ++ codes "\"} " ++ decimal number ++ codes "\n"

unfoldable pub node_metrics : Setup → NodeSeen → List ℕ
node_metrics setup seen =
    of_node setup seen.actor (codes "gauzemarl_node_account_minor_units") (codes "gauge")
    (codes "The bank's account at the node") seen.account
    ++ of_node setup seen.actor (codes "gauzemarl_node_pay_ins_total") (codes "counter")
    (codes "Payments that were taken in") seen.pay_ins
    ++ of_node setup seen.actor (codes "gauzemarl_node_pay_outs_total") (codes "counter")
    (codes "Orders that were paid") seen.pay_outs
    ++ of_node setup seen.actor (codes "gauzemarl_node_unanswered") (codes "gauge")
    (codes "Notices that no site has answered") seen.unanswered

-- whether the answer to the last is awaited
unfoldable pub awaited : ClientSeen → ℕ
awaited seen = one_if (nat_lt 0 seen.request && not (is_some seen.answer))

unfoldable pub client_metrics : ClientSeen → List ℕ
client_metrics seen =
    plain (codes "gauzemarl_client_requests_total") (codes "counter") (codes "Requests made") seen.request
    ++ plain (codes "gauzemarl_client_waits") (codes "gauge") (codes "1 where the answer to the last is awaited")
    (awaited seen)

-- ALL THAT IS MEASURED of an actor
abbrev pub metrics_text : Setup → Seen → List Stream → Option Ledger → List ℕ
metrics_text setup (seen.Site site) streams book = site_metrics setup site streams ++ book_metrics book
metrics_text setup (seen.Node node) streams book = node_metrics setup node
metrics_text setup (seen.Client client) streams book = client_metrics client
