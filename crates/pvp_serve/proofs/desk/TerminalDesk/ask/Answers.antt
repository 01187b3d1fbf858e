use Rattle.std.proofs.Common.{◌≡◌, ◌++◌, ◌∷◌, [], length, ap, refl, arith}
use Rattle.std.proofs.lemmas.Result.{err_from_is_err_and}
use Rattle.pvp_serve.specs.declared.desk.TerminalDesk.{TerminalDesk}
use Rattle.pvp_serve.specs.Desks.{event_of}
use Rattle.pvp_serve.proofs.Terminals.{done-of, lines-stay, lost-of, one-more}
use Rattle.pvp_serve.proofs.desk.TerminalDesk.ask.Goals as goal

pub returns-in_err-ask_one-clause-refused : goal.returns-in_err-ask_one-clause-refused
returns-in_err-ask_one-clause-refused g c =
    let p = err_from_is_err_and c.from_residual.result c.from_residual.ensures.1 in
    let same = ap (λ (d : TerminalDesk). d.setup) c.next_line.ensures.rest in
    rw (p.1, p.2) (record {
      done = c.loop.invariant.done.0;
      between = record { desk = c.loop.self; room = c.loop.serving.room };
      are_done = c.loop.invariant.done.1;
      asked = c.in-Some.asked;
      next = rw c.in_err-ask_one.ensures.stays (record {
        free = rw c.request.ensures at c.in-Some.ensures.next.0;
        first = c.in-Some.ensures.next.1;
        rest = c.next_line.ensures.rest;
      });
      lost = lost-of _ _ _ c.next_line.new.self.setup c.loop.self.setup c.args.serving.now.me c.in-Some.asked.text.items
          c.next_line.new.self c.ask_one.new.self _ _ _ same c.in_err-ask_one.ensures.stays
          (rw c.loop.invariant.rest at c.in_err-ask_one.ensures.refused);
    })

pub loop-preserved : goal.loop-preserved
loop-preserved g c =
    let stay : length c.ask_one.new.self.lines.items ≡ length c.next_line.new.self.lines.items =
    ap length (lines-stay _ _ _ _ c.loop.serving.me
    (event_of c.next_line.new.self.setup c.loop.serving.me c.in-Some.asked.text.items) c.loop.serving.room
    c.ask_one.new.serving.room c.next_line.new.self c.ask_one.new.self c.in_ok-ask_one.ensures.done) in
    let one : length c.loop.self.lines.items ≡ length (c.in-Some.asked ∷ c.next_line.new.self.lines.items) =
    ap length c.in-Some.ensures.next.1 in
    let same = ap (λ (d : TerminalDesk). d.setup) c.next_line.ensures.rest in
    record {
      rest = rw (c.in_ok-ask_one.ensures.rest, c.loop.invariant.rest) refl;
      fits = omega (arith, stay, one, c.loop.invariant.fits);
      done = (
        c.loop.invariant.done.0 ++ c.in-Some.asked ∷ [],
        one-more _ _ _ _ c.args.serving.now.me c.loop.invariant.done.0 c.in-Some.asked _ (record { desk = c.loop.self; room = c.loop.serving.room }) _
            c.loop.invariant.done.1 (record {
              left = c.next_line.new.self;
              next = record {
                free = rw c.request.ensures at c.in-Some.ensures.next.0;
                first = c.in-Some.ensures.next.1;
                rest = c.next_line.ensures.rest;
              };
              done = done-of _ _ _ _ c.next_line.new.self.setup c.loop.self.setup c.args.serving.now.me c.args.serving.now.me
                  c.in-Some.asked.text.items c.loop.serving.room c.ask_one.new.serving.room c.next_line.new.self c.ask_one.new.self
                  same refl (rw c.loop.invariant.rest at c.in_ok-ask_one.ensures.done);
            }),
      );
    }
