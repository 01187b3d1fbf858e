-- Why there are no streams.
use Rattle.std.specs.Prelude.{◌≡◌, ◌≢◌}
use Rattle.std.specs.declared.io.ErrorKind.{ErrorKind}
use Rattle.std.specs.declared.io.ErrorKind.TheVariants.{OutOfMemory}
use Rattle.pvp_links.specs.declared.sockets.NetFault.{NetFault}
use Rattle.pvp_links.specs.declared.sockets.NetFault.TheVariants.{Net, NoMemory}

-- WHAT IT MEANS that a call of the system failed with an error of this kind: memory was refused, or else it is the net
pub record Tells (kind : ErrorKind) (fault : NetFault) : Type 0 where
  pub memory : kind ≡ OutOfMemory → fault ≡ NoMemory
  pub net : kind ≢ OutOfMemory → fault ≡ Net
