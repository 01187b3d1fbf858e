-- The printed books of a world. Every line ends with LF.
use Rattle.std.specs.Prelude.{◌≡◌, ℕ, ◌-◌, ◌+ℤ◌, ◌==◌, ◌++◌, true, List, [], length, slice_get, Option, Some, None, if◌then◌else◌, codes, decimal}
use Rattle.std.specs.Fmt.{signed_decimal}
use Rattle.std.specs.List.{flat_map, enumerate_from}
use Rattle.std.specs.Option.{option_map_or}
use Rattle.pvp_types.specs.declared.setup.Setup.{Setup}
use Rattle.pvp_types.specs.declared.command.Cmd.{Cmd}
use Rattle.pvp_types.specs.declared.command.Reply.{Reply}
use Rattle.pvp_types.specs.Reply.{reply_text}
use Rattle.pvp_book.specs.Ledger.{Ledger, opening, figure}
use Rattle.rtgs_node.specs.Node.{Node, account}
use Rattle.rtgs_node.specs.Shown.{ShownNode}
use Rattle.headline.specs.Machine.{book}
use Rattle.headline.specs.Way.{way}
use Rattle.vr_types.specs.declared.cell.Boot.{Boot}
use Rattle.vr_types.specs.declared.event.Status.{Status}
use Rattle.vr_types.specs.declared.event.Status.TheVariants.{Normal, Change, Recovering, Down}
use Rattle.vr_types.specs.Handling.{machine_of}
use Rattle.vr_types.specs.Site.{is_running}
use Rattle.vr_site.specs.Life.{Volatile}
use Rattle.vr_site.specs.Replica.{ShownSite, site_shown}
use Rattle.pvp_text.specs.BookText.{block}
use Rattle.pvp_world.specs.World.{ShownWorld}
use Rattle.pvp_world.specs.Client.{ShownClient}

-- SITES

-- the book of a running site: what its executed rows lead to
abbrev pub book_of : {B : Type 0} → (B → Boot) → ShownSite Cmd Setup B → Ledger
book_of held v = machine_of book (opening v.setup) (site_shown held v [])

-- where a running site stands
abbrev pub standing_text : Volatile Cmd → List ℕ
standing_text v =
    codes " view " ++ decimal v.view ++ codes " log " ++ decimal (length v.log) ++ codes " done " ++ decimal v.done

abbrev pub status_text : Volatile Cmd → Status → List ℕ
status_text v Normal = codes "normal" ++ standing_text v
status_text v Change = codes "change" ++ standing_text v
status_text v Recovering = codes "recovering"
status_text v Down = codes "down"

abbrev pub site_line : {B : Type 0} → (B → Boot) → ℕ × ShownSite Cmd Setup B → List ℕ
site_line held (i, v) =
    codes "site " ++ decimal i ++ codes " " ++ status_text v.volatile v.volatile.status
    ++ codes " cell " ++ decimal (held v.cell).boots ++ codes "\n"

-- the block of a running site's book
abbrev pub book_block : {B : Type 0} → (B → Boot) → ShownSite Cmd Setup B → List ℕ
book_block held v = if is_running v.volatile.status then block (codes "  ") (book_of held v) else []

abbrev pub site_text : {B : Type 0} → (B → Boot) → ℕ × ShownSite Cmd Setup B → List ℕ
site_text held (i, v) = site_line held (i, v) ++ book_block held v

-- NODES

abbrev pub code_of : Setup → ℕ → List ℕ
code_of setup c = option_map_or (λ currency. currency.code) (slice_get setup.currencies c) []

-- how many orders were returned, where some were
abbrev pub returned_text : ℕ → List ℕ
returned_text n = if n == 0 then [] else codes " returned " ++ decimal n

abbrev pub node_line : Setup → ℕ → Node → List ℕ
node_line setup c x =
    codes "node " ++ code_of setup c ++ codes " account " ++ signed_decimal (account x)
    ++ codes " payins " ++ decimal (length x.pay_ins) ++ codes " payouts " ++ decimal (length x.pay_outs)
    ++ returned_text (length x.returned) ++ codes "\n"

-- the figure of a book in the node's currency, and what is on the way between the two
abbrev pub figure_text : ℕ → Node → Ledger → List ℕ
figure_text c x held =
    codes " figure " ++ signed_decimal (figure held.setup held.entries c) ++ codes " way "
    ++ signed_decimal (way c x held.entries)

-- what the node's account holds is the figure and the way together
abbrev pub Matches : ℕ → Node → Ledger → Type 0
Matches c x held = account x ≡ figure held.setup held.entries c +ℤ way c x held.entries

-- so of a running site's book
abbrev pub SiteMatches : {B : Type 0} → (B → Boot) → ℕ → Node → ShownSite Cmd Setup B → Type 0
SiteMatches held c x v = is_running v.volatile.status ≡ true → Matches c x (book_of held v)

-- those of a running site
abbrev pub way_line : {B : Type 0} → (B → Boot) → ℕ → Node → ℕ × ShownSite Cmd Setup B → List ℕ
way_line held c x (i, v) =
    if is_running v.volatile.status
    then codes "  site " ++ decimal i ++ figure_text c x (book_of held v) ++ codes "\n"
    else []

abbrev pub node_text : {B : Type 0} → (B → Boot) → ShownWorld B → ℕ × ShownNode → List ℕ
node_text held world (c, v) =
    node_line world.setup c v.node ++ flat_map (way_line held c v.node) (enumerate_from 0 world.sites)

-- CLIENTS

-- the operator is number 0, and members are numbered from 1
abbrev pub name_of : Setup → ℕ → List ℕ
name_of setup k =
    if k == 0 then codes "OP" else option_map_or (λ member. member.name) (slice_get setup.members (k - 1)) []

-- the answer to the last request, where it came
abbrev pub answer_text : Option Reply → List ℕ
answer_text (Some reply) = reply_text reply
answer_text None = codes "waits"

-- a client that has sent nothing prints nothing
abbrev pub client_text : Setup → ℕ × ShownClient → List ℕ
client_text setup (k, v) =
    if v.client.number == 0 then []
    else codes "client " ++ name_of setup k ++ codes " " ++ decimal v.client.number ++ codes " "
    ++ answer_text v.client.answer ++ codes "\n"

-- THE BOOKS of a world: of its sites, its nodes and its clients
abbrev pub books_text : {B : Type 0} → (B → Boot) → ShownWorld B → List ℕ
books_text held world =
    flat_map (site_text held) (enumerate_from 0 world.sites)
    ++ flat_map (node_text held world) (enumerate_from 0 world.nodes)
    ++ flat_map (client_text world.setup) (enumerate_from 0 world.clients)
