use Rattle.std.proofs.Common.{arith}
use Rattle.pvp_wire.proofs.Frames.{frame-takes, frame-again}
use Rattle.pvp_wire.proofs.Lengths.{spelled-short}
use Rattle.pvp_wire.proofs.Streams.{length-spelling, one_frame}
use Rattle.pvp_wire.proofs.laws.frames.Goals as goal

pub returns-clause-read : goal.returns-clause-read
returns-clause-read c = λ bytes s n fits e. let f = frame-takes bytes s n fits e in (f.text, f.size, f.within, f.spelled)

pub returns-clause-again : goal.returns-clause-again
returns-clause-again c = frame-again

pub returns-clause-one : goal.returns-clause-one
returns-clause-one c = one_frame

pub returns-clause-short : goal.returns-clause-short
returns-clause-short c = λ s spelled. omega (arith, length-spelling s, spelled-short s spelled.fits.2 spelled.wireable)
