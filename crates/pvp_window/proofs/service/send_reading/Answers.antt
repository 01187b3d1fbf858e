use Rattle.std.proofs.Common.{◌++◌, ◌∷◌, [], codes, inr}
use Rattle.http_server.specs.Response.{IsResponse, fields_of}
use Rattle.pvp_window.specs.Answers.{Shows}
use Rattle.pvp_window.proofs.Parts.{on_ok}
use Rattle.pvp_window.proofs.service.send_reading.Goals as goal

pub returns : goal.returns
returns c =
    on_ok c.fill.result
    (IsResponse c.code_of.result (fields_of c.args.response.now ++ (codes "content-type", c.kind_of.result.bytes) ∷ []) c.args.text c.fill.new.response)
    (Shows (fields_of c.args.response.now) c.args.view c.fill.new.response)
    (λ e. inr (c.args.found, c.args.text, c.requires.exact, rw (c.code_of.ensures, c.kind_of.ensures) at e)) c.fill.ensures
