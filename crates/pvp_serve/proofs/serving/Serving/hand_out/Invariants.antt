use Rattle.std.proofs.Common.{◌≡◌, take}
use Rattle.pvp_rooms.specs.Gates.{Hears}
use Rattle.pvp_serve.specs.Serving.{puts_in}
use Rattle.pvp_serve.proofs.serving.Serving.hand_out.Given as goal

abbrev pub invariant-loop-letter : goal.invariant-loop-letter
invariant-loop-letter g l = record {
  rest : l.self ≡ record l.fn.self { out = l.self.out };
  heard : Hears g.O.Outbox.got l.fn.self.out l.self.out (puts_in l.fn.self.me (take l.letter-index l.letters));
}
