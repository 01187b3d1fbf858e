-- Which of the frames that wait for a site are skipped.
use Rattle.std.specs.Prelude.{ℕ, ◌==◌, ◌&&◌, ◌||◌, Bool, true, false, not, nat_lt, List, Option, Some, None, option_map, filter, filter_map, if◌then◌else◌}
use Rattle.std.specs.List.{list_any}
use Rattle.std.specs.Option.{option_map_or}
use Rattle.vr_types.specs.declared.message.MsgOf.{MsgOf}
use Rattle.vr_types.specs.declared.message.MsgOf.TheVariants.{StartViewChange, DoViewChange, StartView, NewState, RecoveryResponse}
use Rattle.pvp_wire.specs.declared.stamped.Stamped.{Stamped}
use Rattle.pvp_serve.specs.declared.inbox.Inbox.{Inbox}
use Rattle.pvp_serve.specs.declared.inbox.Inbox.TheVariants.{Frame}
use Rattle.pvp_serve.specs.declared.sifting.Kind.{Kind}
use Rattle.pvp_serve.specs.declared.sifting.Kind.TheVariants.{Start, Vote, Opening, State, Response}
use Rattle.pvp_serve.specs.declared.sifting.Mark.{Mark}

-- the kinds of messages of which a later one says all that an earlier one of its sender did: of responses those alone
-- that answer this recovery
abbrev pub kind_of : {C R O : Type 0} → ℕ → MsgOf C R O → Option Kind
kind_of nonce (StartViewChange m) = Some Start
kind_of nonce (DoViewChange m) = Some Vote
kind_of nonce (StartView m) = Some Opening
kind_of nonce (NewState m) = Some State
kind_of nonce (RecoveryResponse m) = if m.nonce == nonce then Some Response else None
kind_of nonce _ = None

abbrev pub same_kind : Kind → Kind → Bool
same_kind Start Start = true
same_kind Vote Vote = true
same_kind Opening Opening = true
same_kind State State = true
same_kind Response Response = true
same_kind _ _ = false

-- what distinguishes frames of such a kind from one another
abbrev pub marked : Stamped → Kind → Mark
marked stamped kind =
    record { from = stamped.envelope.from; kind = kind; clock = stamped.stamp.clock; index = stamped.stamp.index }

abbrev pub mark_of : ℕ → Inbox → Option Mark
mark_of nonce (Frame arrival latest) =
    option_map (λ kind. marked arrival.stamped kind) (kind_of nonce arrival.stamped.envelope.msg)
mark_of nonce _ = None

-- A FRAME REPLACES another: of the same sender and of the same kind, with a greater stamp
abbrev pub replaces : Mark → Mark → Bool
replaces this other =
    same_kind this.kind other.kind && (this.from == other.from)
    && (nat_lt other.clock this.clock || ((this.clock == other.clock) && nat_lt other.index this.index))

abbrev pub is_replaced : List Mark → Mark → Bool
is_replaced marks mark = list_any (λ other. replaces other mark) marks

-- an item is kept where none of these frames replaces it
abbrev pub is_kept : ℕ → List Mark → Inbox → Bool
is_kept nonce marks item = option_map_or (λ mark. not (is_replaced marks mark)) (mark_of nonce item) true

-- WHAT IS WORKED OFF of what waits for a site that recovers by this nonce, or runs: all but what is replaced there
abbrev pub sifted : ℕ → List Inbox → List Inbox
sifted nonce items = filter (is_kept nonce (filter_map (mark_of nonce) items)) items
