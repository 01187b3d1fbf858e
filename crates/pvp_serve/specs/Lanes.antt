-- Which stream an envelope of an actor goes over.
use Rattle.std.specs.Prelude.{◌==◌, ◌&&◌, ◌++◌, ◌∷◌, Bool, true, false, not, ℕ, List, [], Option, Some, None, filter, find, is_some, if◌then◌else◌}
use Rattle.vr_types.specs.declared.actors.ActorId.{ActorId}
use Rattle.vr_types.specs.declared.actors.ActorId.TheVariants.{Site}
use Rattle.vr_types.specs.declared.message.MsgOf.{MsgOf}
use Rattle.vr_types.specs.declared.message.MsgOf.TheVariants.{Request}
use Rattle.pvp_links.specs.declared.arrival.Piece.{Piece}
use Rattle.pvp_links.specs.declared.arrival.Piece.TheVariants.{Frame, Ping}
use Rattle.pvp_links.specs.Sealing.{ping_text}
use Rattle.pvp_text.specs.ScriptWords.{is_empty}
use Rattle.pvp_serve.specs.declared.lanes.Lane.{Lane}
use Rattle.pvp_serve.specs.declared.lanes.Lanes.{Lanes}

-- the stream is to this actor
abbrev pub is_to : ℕ → Lane → Bool
is_to peer lane = lane.peer == peer

-- it is this actor's stream of this number
abbrev pub is_stream : ℕ → ℕ → Lane → Bool
is_stream peer stream lane = is_to peer lane && lane.stream == stream

-- the stream that stands to an actor
abbrev pub lane_to : ℕ → List Lane → Option Lane
lane_to peer all = find (is_to peer) all

-- all streams but those to an actor
abbrev pub lanes_to_others : ℕ → List Lane → List Lane
lanes_to_others peer all = filter (λ lane. not (is_to peer lane)) all

-- THE STREAMS ONCE ONE MORE STANDS: it is the last, and alone to its peer
abbrev pub with_lane : Lane → List Lane → List Lane
with_lane lane all = lanes_to_others lane.peer all ++ lane ∷ []

-- the streams once that of this number of this actor has ended
abbrev pub without_lane : ℕ → ℕ → List Lane → List Lane
without_lane peer stream all = filter (λ lane. not (is_stream peer stream lane)) all

-- mail goes to this site alone, and the peer is another; and to the site a stream stands
abbrev pub is_kept_from : ℕ → Option ℕ → List Lane → Bool
is_kept_from peer None all = false
is_kept_from peer (Some site) all = not (site == peer) && is_some (lane_to site all)

-- WHERE MAIL FOR AN ACTOR GOES: over the stream that stands to it, unless all mail goes to another
abbrev pub lane_for : ℕ → Lanes → Option Lane
lane_for peer lanes =
    if is_kept_from peer lanes.favoured lanes.all.items then None else lane_to peer lanes.all.items

-- a message is a REQUEST
abbrev pub is_request : {C R O : Type 0} → MsgOf C R O → Bool
is_request (Request m) = true
is_request _ = false

-- A PIECE IS NONE that an actor says to a site: a client or a node says REQUESTs alone
abbrev pub is_beyond : ActorId → Piece → Bool
is_beyond (Site site) piece = false
is_beyond who (Frame arrival) = not (is_request arrival.stamped.envelope.msg)
is_beyond who Ping = false

-- what is put on a stream for a frame: a ping where it is empty
abbrev pub piece_text : List ℕ → List ℕ
piece_text frame = if is_empty frame then ping_text else frame
