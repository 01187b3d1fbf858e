-- What was sent where an event had this outcome.
use Rattle.std.specs.Prelude.{List, [], Result, Ok, Err}
use Rattle.pvp_types.specs.declared.command.Cmd.{Cmd}
use Rattle.pvp_types.specs.declared.command.Reply.{Reply}
use Rattle.pvp_types.specs.declared.command.PayOrder.{PayOrder}
use Rattle.vr_types.specs.declared.message.EnvelopeOf.{EnvelopeOf}
use Rattle.pvp_rooms.specs.declared.site.CameOf.{CameOf}
use Rattle.pvp_rooms.specs.declared.site.CameOf.TheVariants.{Did, Refused, Fell}

-- a site that refuses an event or falls sends nothing
abbrev pub sent_by_site : CameOf Cmd Reply PayOrder → List (EnvelopeOf Cmd Reply PayOrder)
sent_by_site (Did sent dropped) = sent
sent_by_site (Refused why) = []
sent_by_site (Fell why cell) = []

-- nor does a node or a client that refuses
abbrev pub sent_as_told : {F : Type 0} → Result (List (EnvelopeOf Cmd Reply PayOrder)) F
    → List (EnvelopeOf Cmd Reply PayOrder)
sent_as_told (Ok sent) = sent
sent_as_told (Err why) = []
