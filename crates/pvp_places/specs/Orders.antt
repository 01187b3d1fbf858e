-- What a process does with an actor.
use Rattle.std.specs.Prelude.{ℕ, List}
use Rattle.pvp_places.specs.declared.order.Task.{Task}
use Rattle.pvp_places.specs.declared.order.Task.TheVariants.{Begin, Serve}

-- the text of the setup of the actor's bank
abbrev pub setup_of : Task → List ℕ
setup_of (Begin beginning) = beginning.setup.now
setup_of (Serve order) = order.setup.now
