use Rattle.std.proofs.Common.{List, codes, OnOk, subst}
use Rattle.http1.specs.Fields.{Header}
use Rattle.http_server.specs.Response.{IsResponse}
use Rattle.pvp_window.proofs.Parts.{two}
use Rattle.pvp_window.proofs.service.fill_page.Goals as goal

pub returns : goal.returns
returns c =
    subst (λ (fields : List Header). OnOk c.fill.result (IsResponse 200 fields c.args.page c.fill.new.response))
    (two _ _ _ (codes "content-type", codes "text/html; charset=utf-8") c.in_ok-add_header.ensures.headers)
    (rw c.from_static-kind.ensures at c.fill.ensures)
