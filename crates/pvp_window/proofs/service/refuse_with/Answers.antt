use Rattle.std.proofs.Common.{List, codes, OnOk, subst}
use Rattle.http1.specs.Fields.{Header}
use Rattle.http_server.specs.Response.{IsResponse}
use Rattle.pvp_window.proofs.Parts.{two}
use Rattle.pvp_window.proofs.service.refuse_with.Goals as goal

pub returns : goal.returns
returns c =
    subst (λ (fields : List Header). OnOk c.refuse.result (IsResponse c.args.status fields c.args.text.now c.refuse.new.response))
    (two _ _ _ (codes "content-type", codes "application/json") c.in_ok-add_header.ensures.headers) c.refuse.ensures
