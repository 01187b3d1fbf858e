use Rattle.std.proofs.Common.{append_assoc, codes, [], ◌∷◌}
use Rattle.http_server.specs.Response.{fields_of}
use Rattle.pvp_window.specs.Answers.{fixed}
use Rattle.pvp_window.proofs.Parts.{done}
use Rattle.pvp_window.proofs.window.add_fixed.Goals as goal

pub returns-clause-fields : goal.returns-clause-fields
returns-clause-fields c =
    done c.add_header-3.result (fields_of c.add_header-3.new.self) (fields_of c.add_header-2.new.self)
    (fields_of c.args.response.now) ((codes "vary", c.from_static-2.result.bytes) ∷ []) fixed c.add_header-3.ensures.headers
    (rw (
      c.in_ok-add_header-2.ensures.headers,
      c.in_ok-add_header.ensures.headers,
      c.from_static.ensures,
      c.from_static-nosniff.ensures,
      c.from_static-2.ensures,
    )
    (simp append_assoc))
