-- Which actors have a stream to which.
use Rattle.std.specs.Prelude.{ℕ, ◌==◌, ◌&&◌, ◌||◌, Bool, not, List, map, filter}
use Rattle.std.specs.List.{flat_map}
use Rattle.vr_types.specs.Actors.{is_site}
use Rattle.pvp_links.specs.declared.sockets.Door.{Door}
use Rattle.pvp_links.specs.declared.sockets.Incoming.{Incoming}
use Rattle.pvp_links.specs.declared.sockets.Sending.{Sending}
use Rattle.pvp_links.specs.declared.writer.Outgoing.{Outgoing}

-- an actor may send to another: a site to any other, and any other to a site
abbrev pub talks : ℕ → ℕ → Bool
talks from to = not (from == to) && (is_site from || is_site to)

-- those to which an actor may send, in their order
abbrev pub receivers : List ℕ → ℕ → List ℕ
receivers actors from = filter (talks from) actors

-- a sender with each of its receivers
abbrev pub links_from : List ℕ → ℕ → List (ℕ × ℕ)
links_from actors from = map (λ to. let pair : ℕ × ℕ = (from, to) in pair) (receivers actors from)

-- each sender with each of its receivers
abbrev pub links : List ℕ → List ℕ → List (ℕ × ℕ)
links actors senders = flat_map (links_from actors) senders

-- the listeners are of these actors
abbrev pub actors_of : {L : Type 0} → List (Door L) → List ℕ
actors_of doors = map (λ d. d.actor) doors

-- who writes each stream, and who reads it
abbrev pub ends_of : {S : Type 0} → List (Incoming S) → List (ℕ × ℕ)
ends_of incoming = map (λ i. let pair : ℕ × ℕ = (i.from, i.to) in pair) incoming

-- to whom each stream goes
abbrev pub goals_of : {S : Type 0} → List (Outgoing S) → List ℕ
goals_of streams = map (λ o. o.to) streams

-- each sender, and to whom its streams go
abbrev pub lists_of : {S : Type 0} → List (Sending S) → List (ℕ × List ℕ)
lists_of sending = map (λ s. let pair : ℕ × List ℕ = (s.actor, goals_of s.streams.items) in pair) sending

-- each of these actors, and those to which it may send
abbrev pub wanted_lists : List ℕ → List ℕ → List (ℕ × List ℕ)
wanted_lists actors senders = map (λ from. let pair : ℕ × List ℕ = (from, receivers actors from) in pair) senders
