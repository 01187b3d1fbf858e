use Rattle.std.proofs.Common.{refl}
use Rattle.pvp_window.proofs.service.send_preflight.Goals as goal

pub returns : goal.returns
returns c = record {
  status = refl;
  headers = rw c.from_static-token.ensures at c.in_ok-add_header.ensures.headers;
  body = rw c.in_ok-add_header.ensures.body c.requires;
}
