use Rattle.std.proofs.Common.{◌≡◌, ◌+◌, ◌≤◌, length}
use Rattle.pvp_text.specs.ScriptWords.{lines}
use Rattle.pvp_places.specs.PeersFile.{lines_in, read_as, with_peer}
use Rattle.pvp_places.specs.Reading.{read_from}
use Rattle.pvp_places.proofs.peers.read_lines.Given as goal

abbrev pub invariant-loop-line : goal.invariant-loop-line
invariant-loop-line l = record {
  so_far : read_from (with_peer l.setup) (read_as l.peers) l.number (lines l.rest) ≡ lines_in l.setup l.bytes;
  counted : l.number + length l.rest ≤ length l.bytes + 1;
}

abbrev pub decreases-loop-line : goal.decreases-loop-line
decreases-loop-line l = length l.rest
