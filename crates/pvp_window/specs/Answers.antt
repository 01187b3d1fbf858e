-- WHAT IS ANSWERED TO A REQUEST: by status, fields and body.
use Rattle.std.specs.Prelude.{◌≡◌, ◌⊎◌, ℕ, ◌++◌, ◌&&◌, Bool, false, not, bytes_eq, string_bytes, if◌then◌else◌, List, [], ◌∷◌, Option, Some, None, codes}
use Rattle.std.specs.Global.{Vec}
use Rattle.std.specs.List.{list_any}
use Rattle.http.specs.declared.request.Parts.{Parts}
use Rattle.http_header.specs.FieldValue.{FieldValue}
use Rattle.http_header.specs.HeaderMap.{get}
use Rattle.http_uri.specs.Uri.{uri_path, uri_query}
use Rattle.http1.specs.Fields.{Header}
use Rattle.http_server.specs.declared.response.Response.{Response}
use Rattle.http_server.specs.Response.{IsResponse}
use Rattle.pvp_window.specs.declared.look.View.{View}
use Rattle.pvp_window.specs.declared.look.View.TheVariants as view
use Rattle.pvp_window.specs.declared.look.Found.{Found}
use Rattle.pvp_window.specs.declared.look.Found.TheVariants.{Shown, Unwell, NoBook, Nothing}
use Rattle.pvp_window.specs.declared.path.Asked.{Asked}
use Rattle.pvp_window.specs.declared.path.Asked.TheVariants.{Console, Windows, Look, Missing, Wrong}
use Rattle.pvp_window.specs.declared.window.Window.{Window}
use Rattle.pvp_window.specs.declared.window.Decision.{Decision}
use Rattle.pvp_window.specs.declared.window.Decision.TheVariants.{Elsewhere, NotRead, Preflight, Unknown, Barred, Of}
use Rattle.pvp_window.specs.declared.reader.Token.{Token}
use Rattle.pvp_window.specs.Paths.{asked_by, is_read}
use Rattle.pvp_window.specs.Readers.{is_open, may_read, reader_of}
use Rattle.pvp_window.specs.Readings.{IsReading}

-- a request names this window
abbrev pub is_for : Window → Option FieldValue → Bool
is_for window (Some host) = bytes_eq host.bytes (string_bytes window.host)
is_for window None = false

-- what does not only read is refused, but for a browser's question whether a page may send a token, where one is needed
abbrev pub unread_of : Option (Vec Token) → List ℕ → Decision
unread_of (Some tokens) method = if bytes_eq method (codes "OPTIONS") then Preflight else NotRead
unread_of None method = NotRead

abbrev pub unread : Window → List ℕ → Decision
unread window method = unread_of window.tokens method

-- what may be read by whom
abbrev pub by_reader : Asked → Option ℕ → Decision
by_reader asked (Some reader) = if may_read reader asked then Of asked else Barred
by_reader asked None = Unknown

-- without tokens everybody reads all
abbrev pub permitted_by : Option (Vec Token) → Option FieldValue → Asked → Decision
permitted_by (Some tokens) field asked =
    if is_open asked then Of asked else by_reader asked (reader_of tokens.items field)
permitted_by None field asked = Of asked

abbrev pub permitted : Window → Option FieldValue → Asked → Decision
permitted window field asked = permitted_by window.tokens field asked

-- WHAT A REQUEST COMES TO: another host is refused before anything else, then what does not only read
abbrev pub decided : Window → Parts → Decision
decided window head =
    if not (is_for window (get head.headers (codes "host"))) then Elsewhere
    else if is_read head.method
    then permitted window (get head.headers (codes "authorization"))
    (asked_by window.setup (uri_path head.uri) (uri_query head.uri))
    else unread window head.method

-- pages of these other windows may read what is answered
abbrev pub is_neighbour : Window → List ℕ → Bool
is_neighbour window origin = list_any (λ other. bytes_eq (string_bytes other) origin) window.origins.items

abbrev pub allowed : Window → Option FieldValue → List Header
allowed window None = []
allowed window (Some origin) =
    if is_neighbour window origin.bytes then (codes "access-control-allow-origin", origin.bytes) ∷ [] else []

-- the fields that each answer has
abbrev pub fixed : List Header
fixed =
    (codes "cache-control", codes "no-store") ∷ (codes "x-content-type-options", codes "nosniff")
    ∷ (codes "vary", codes "origin") ∷ []

abbrev pub common : Window → Option FieldValue → List Header
common window origin = fixed ++ allowed window origin

abbrev pub json : Header
json = (codes "content-type", codes "application/json")

-- the status of how a look came out, and of what kind the text of a view is
abbrev pub code_of : Found → ℕ
code_of Shown = 200
code_of Unwell = 503
code_of NoBook = 409
code_of Nothing = 404

abbrev pub kind_of : View → List ℕ
kind_of view.Health = codes "text/plain; charset=utf-8"
kind_of view.Metrics = codes "text/plain; version=0.0.4; charset=utf-8"
kind_of _ = codes "application/json"

-- the loop is busy
abbrev pub IsBusy : List Header → Response → Type 0
IsBusy fields = IsResponse 503 (fields ++ (codes "retry-after", codes "1") ∷ json ∷ []) (codes "{\"error\":\"busy\"}\n")

-- it says so, or it is the reading of an actor at this view
abbrev pub Shows : List Header → View → Response → Type 0
Shows fields looked response =
    IsBusy fields response
    ⊎ (found : Found) × (text : List ℕ) × ∥ IsReading looked found text ∥₁
    × IsResponse (code_of found) (fields ++ (codes "content-type", kind_of looked) ∷ []) text response

-- what is answered to what a path asks for
abbrev pub IsSent : Window → List Header → Asked → Response → Type 0
IsSent window fields Console =
    IsResponse 200 (fields ++ (codes "content-security-policy", window.policy.bytes)
    ∷ (codes "content-type", codes "text/html; charset=utf-8") ∷ []) window.page
IsSent window fields Windows = IsResponse 200 (fields ++ json ∷ []) window.listed
IsSent window fields (Look looked wait) = Shows fields looked
IsSent window fields Missing = IsResponse 404 (fields ++ json ∷ []) (codes "{\"error\":\"not found\"}\n")
IsSent window fields Wrong = IsResponse 400 (fields ++ json ∷ []) (codes "{\"error\":\"bad request\"}\n")

abbrev pub IsDecided : Window → List Header → Decision → Response → Type 0
IsDecided window fields Elsewhere = IsResponse 421 (fields ++ json ∷ []) (codes "{\"error\":\"another host\"}\n")
IsDecided window fields NotRead =
    IsResponse 405 (fields ++ (codes "allow", codes "GET, HEAD") ∷ json ∷ []) (codes "{\"error\":\"only reads\"}\n")
IsDecided window fields Preflight =
    IsResponse 204 (fields ++ (codes "access-control-allow-headers", codes "authorization") ∷ []) []
IsDecided window fields Unknown =
    IsResponse 401 (fields ++ (codes "www-authenticate", codes "Bearer") ∷ json ∷ []) (codes "{\"error\":\"no token\"}\n")
IsDecided window fields Barred = IsResponse 403 (fields ++ json ∷ []) (codes "{\"error\":\"not yours\"}\n")
IsDecided window fields (Of asked) = IsSent window fields asked

-- A REQUEST IS ANSWERED
abbrev pub IsAnswered : Window → Parts → Response → Type 0
IsAnswered window head =
    IsDecided window (common window (get head.headers (codes "origin"))) (decided window head)
