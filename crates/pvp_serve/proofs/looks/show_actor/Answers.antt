use Rattle.std.proofs.Common.{Result, Ok, Err, IfOk, string_bytes}
use Rattle.pvp_window.specs.declared.look.Shown.{Shown}
use Rattle.pvp_window.specs.Readings.{ReadsAs, reading}
use Rattle.pvp_serve.specs.Looks.{IsShownBy, book_of, seen_of}
use Rattle.pvp_serve.proofs.looks.show_actor.Goals as goal

-- what follows of each result holds where there is one
on_each : {T E : Type 0} (r : Result T E) (P Q : T → Type 0) → ((x : T) → P x → Q x) → IfOk r P → IfOk r Q
on_each (Ok x) P Q f held = f x held
on_each (Err _) P Q f held = tt

pub returns : goal.returns
returns g c =
    let seen = seen_of g.C.BootCell.held c.args.me c.args.dropped c.args.actor.now in
    let held = book_of g.C.BootCell.held c.args.actor.now in
    let streams = c.as_slice.result.now in
    on_each c.show.result
    (λ (shown : Shown). ReadsAs (reading c.args.setup.now seen streams held c.args.view) shown.found (string_bytes shown.text))
    (IsShownBy c.args.setup.now seen held c.args.view) (λ shown read. (streams, read))
    (rw (c.seen_of-seen.ensures, c.book_of.ensures) at c.show.ensures)
