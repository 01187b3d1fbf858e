use Rattle.std.proofs.Common.{sym, ◌∙◌}
use Rattle.pvp_wire.proofs.Streams.{one_split}
use Rattle.pvp_wire.proofs.laws.streams.Goals as goal

pub returns : goal.returns
returns c = λ stream a b x y f g sa sb fx fy. one_split a b x y f g sa.each sb.each (sym sa.whole ∙ sb.whole) fx fy
