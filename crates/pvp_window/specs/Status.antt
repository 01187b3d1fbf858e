-- Where an actor stands, as one object of JSON and a line end.
use Rattle.std.specs.Prelude.{ℕ, ◌-◌, ◌++◌, List, Option, Some, None, codes, decimal}
use Rattle.std.specs.List.{flat_map, enumerate_from}
use Rattle.vr_types.specs.Group.{primary}
use Rattle.vr_types.specs.declared.event.Status.{Status}
use Rattle.vr_types.specs.declared.event.Status.TheVariants.{Normal, Change, Recovering, Down}
use Rattle.vr_types.specs.declared.limits.TheConstants.{MAX_ROWS}
use Rattle.pvp_types.specs.declared.setup.Setup.{Setup}
use Rattle.pvp_types.specs.declared.command.Reply.{Reply}
use Rattle.pvp_types.specs.Setup.{faults}
use Rattle.pvp_types.specs.Reply.{reply_text}
use Rattle.pvp_window.specs.declared.seen.SiteSeen.{SiteSeen}
use Rattle.pvp_window.specs.declared.seen.NodeSeen.{NodeSeen}
use Rattle.pvp_window.specs.declared.seen.ClientSeen.{ClientSeen}
use Rattle.pvp_window.specs.declared.seen.Stream.{Stream}
use Rattle.pvp_window.specs.declared.seen.Seen.{Seen}
use Rattle.pvp_window.specs.declared.seen.Seen.TheVariants as seen
use Rattle.pvp_window.specs.Json.{comma, quoted_actor}

unfoldable pub status_name : Status → List ℕ
status_name Normal = codes "normal"
status_name Change = codes "change"
status_name Recovering = codes "recovering"
status_name Down = codes "down"

-- what each reading of a site begins with: of which site it is, its status, its view and who is the primary of that
unfoldable pub label : Setup → SiteSeen → List ℕ
label setup seen =
    codes "{\"actor\":" ++ quoted_actor setup seen.actor ++ codes ",\"kind\":\"site\",\"sites\":" ++ decimal setup.sites
    ++ codes ",\"status\":\"" ++ status_name seen.status ++ codes "\",\"view\":" ++ decimal seen.view
    ++ codes ",\"primary\":\"s" ++ decimal (primary (faults setup) seen.view) ++ codes "\""

-- how many rows it has executed and has, how many more its log takes, and how often it was restarted
unfoldable pub rows_json : SiteSeen → List ℕ
rows_json seen =
    codes ",\"row\":" ++ decimal seen.done ++ codes ",\"log\":" ++ decimal seen.log
    ++ codes ",\"room\":" ++ decimal (MAX_ROWS - seen.log) ++ codes ",\"restarts\":" ++ decimal seen.restarts

-- a stream that stands, and how many bytes wait for it
unfoldable pub stream_item : Setup → ℕ × Stream → List ℕ
stream_item setup (at, stream) =
    comma at ++ codes "{\"actor\":" ++ quoted_actor setup stream.peer
    ++ codes ",\"waiting_bytes\":" ++ decimal stream.waiting ++ codes "}"

abbrev pub streams_json : Setup → List Stream → List ℕ
streams_json setup streams = flat_map (stream_item setup) (enumerate_from 0 streams)

-- WHERE A SITE STANDS
unfoldable pub site_json : Setup → SiteSeen → List Stream → List ℕ
site_json setup seen streams =
    label setup seen ++ rows_json seen ++ codes ",\"streams\":[" ++ streams_json setup streams
    ++ codes "],\"dropped\":" ++ decimal seen.dropped ++ codes "}\n"

-- WHERE A NODE STANDS: the bank's account there, and its payments
unfoldable pub node_json : Setup → NodeSeen → List ℕ
node_json setup seen =
    codes "{\"actor\":" ++ quoted_actor setup seen.actor
    ++ codes ",\"kind\":\"node\",\"account\":\"" ++ decimal seen.account ++ codes "\",\"pay_ins\":" ++ decimal seen.pay_ins
    ++ codes ",\"pay_outs\":" ++ decimal seen.pay_outs ++ codes ",\"unanswered\":" ++ decimal seen.unanswered ++ codes "}\n"

unfoldable pub answer_json : Option Reply → List ℕ
answer_json (Some reply) = codes "\"" ++ reply_text reply ++ codes "\""
answer_json None = codes "null"

-- WHERE A CLIENT STANDS: its last request, and the answer where it has it
unfoldable pub client_json : Setup → ClientSeen → List ℕ
client_json setup seen =
    codes "{\"actor\":" ++ quoted_actor setup seen.actor
    ++ codes ",\"kind\":\"client\",\"request\":" ++ decimal seen.request
    ++ codes ",\"answer\":" ++ answer_json seen.answer ++ codes "}\n"

abbrev pub status_json : Setup → Seen → List Stream → List ℕ
status_json setup (seen.Site site) streams = site_json setup site streams
status_json setup (seen.Node node) streams = node_json setup node
status_json setup (seen.Client client) streams = client_json setup client
