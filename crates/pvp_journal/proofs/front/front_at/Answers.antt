use Rattle.std.proofs.Common.{sym, ◌∙◌, arith}
use Rattle.pvp_wire.specs.Spelling.{number}
use Rattle.pvp_journal.proofs.Places.{stood}
use Rattle.pvp_journal.proofs.front.front_at.Goals as goal

pub returns : goal.returns
unfolding number
returns c =
    stood c.args.before c.read_u32-length.result c.args.bytes.now c.to_be_bytes.result c.to_be_bytes-2.result c.checksum-sum.result
    c.read_u32-length.ensures c.to_be_bytes.ensures
    (sym c.agree.ensures ∙ c.if-not-agree.false) c.checksum-sum.ensures c.to_be_bytes-2.ensures (sym c.agree-2.ensures ∙ c.if-not-agree-2.false) (omega arith)
