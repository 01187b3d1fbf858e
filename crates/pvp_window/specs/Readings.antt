-- WHAT AN ACTOR SHOWS to a look: how it comes out, and a text that is a function of the actor alone.
use Rattle.std.specs.Prelude.{◌≡◌, ℕ, ◌++◌, Bool, true, if◌then◌else◌, List, Option, Some, None, codes}
use Rattle.vr_types.specs.Site.{is_normal}
use Rattle.pvp_types.specs.declared.setup.Setup.{Setup}
use Rattle.pvp_book.specs.Ledger.{Ledger}
use Rattle.pvp_window.specs.declared.look.View.{View}
use Rattle.pvp_window.specs.declared.look.View.TheVariants as view
use Rattle.pvp_window.specs.declared.look.Found.{Found}
use Rattle.pvp_window.specs.declared.look.Found.TheVariants.{Shown, Unwell, NoBook, Nothing}
use Rattle.pvp_window.specs.declared.seen.SiteSeen.{SiteSeen}
use Rattle.pvp_window.specs.declared.seen.Stream.{Stream}
use Rattle.pvp_window.specs.declared.seen.Seen.{Seen}
use Rattle.pvp_window.specs.declared.seen.Seen.TheVariants as seen
use Rattle.pvp_window.specs.Status.{label, status_json}
use Rattle.pvp_window.specs.Book.{book_object, member_object, pair_object, entries_object}
use Rattle.pvp_window.specs.Metrics.{metrics_text}

-- an actor can do its work: a site that is normal, and any node and client
abbrev pub is_well : Seen → Bool
is_well (seen.Site site) = is_normal site.status
is_well (seen.Node node) = true
is_well (seen.Client client) = true

abbrev pub health : Seen → Found × List ℕ
health actor = if is_well actor then (Shown, codes "ok\n") else (Unwell, codes "not normal\n")

-- what stands behind the label of a site in a reading of its book
abbrev pub behind_label : Ledger → View → List ℕ
behind_label held (view.Member m) = member_object held m
behind_label held (view.Pair reference) = pair_object held reference
behind_label held (view.Entries from) = entries_object held from
behind_label held _ = book_object held

-- what a site shows of its book
abbrev pub of_book : Setup → SiteSeen → Option Ledger → View → Found × List ℕ
of_book setup site None looked = (NoBook, codes "{\"error\":\"no book\"}\n")
of_book setup site (Some held) looked = (Shown, label setup site ++ behind_label held looked)

-- what an actor shows of a book
abbrev pub of_actor : Setup → Seen → Option Ledger → View → Found × List ℕ
of_actor setup (seen.Site site) book looked = of_book setup site book looked
of_actor setup _ book looked = (Nothing, codes "{\"error\":\"not found\"}\n")

-- WHAT AN ACTOR SHOWS
abbrev pub reading : Setup → Seen → List Stream → Option Ledger → View → Found × List ℕ
reading setup actor streams book view.Health = health actor
reading setup actor streams book view.Status = (Shown, status_json setup actor streams)
reading setup actor streams book view.Metrics = (Shown, metrics_text setup actor streams book)
reading setup actor streams book looked = of_actor setup actor book looked

-- it came out so, with this text
abbrev pub ReadsAs : Found × List ℕ → Found → List ℕ → Type 0
ReadsAs told found text = (found ≡ told.0) × (text ≡ told.1)

abbrev pub Appends : Found × List ℕ → Found → List ℕ → List ℕ → Type 0
Appends told found old new = (found ≡ told.0) × (new ≡ old ++ told.1)

-- A READING is what some actor shows at some moment
abbrev pub IsReading : View → Found → List ℕ → Type 0
IsReading looked found text =
    (setup : Setup) × (actor : Seen) × (streams : List Stream) × (book : Option Ledger)
    × ReadsAs (reading setup actor streams book looked) found text
