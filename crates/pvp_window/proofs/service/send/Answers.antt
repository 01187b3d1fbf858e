use Rattle.std.proofs.Common.{sym}
use Rattle.pvp_window.proofs.service.send.Goals as goal

pub send_reading-requires-clause-exact : goal.send_reading-requires-clause-exact
send_reading-requires-clause-exact c =
    rw (c.found.ensures, c.in_ok-text.ensures, c.as_bytes.ensures.value, sym c.requires.view) c.text.ensures.exact
