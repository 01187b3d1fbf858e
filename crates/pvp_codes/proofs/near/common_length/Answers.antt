use Rattle.std.proofs.Common.{sym, arith}
use Rattle.pvp_codes.proofs.Commons.{common_ends}
use Rattle.pvp_codes.proofs.near.common_length.Goals as goal

pub returns-else-at-known-clause-exact : goal.returns-else-at-known-clause-exact
returns-else-at-known-clause-exact c =
    sym (common_ends c.args.word.now c.args.known.now c.loop-at.at (omega (arith, c.if-at-known.false)) c.loop-at.invariant.so_far)
